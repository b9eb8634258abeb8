-- The way through the bytes of a function body: the locals that it declares, and the instructions behind them.
-- Core Specification 3.0, Validation, Modules (Functions), and Binary Format, Modules (Code Section).
use Rattle.std.specs.Prelude.{◌≡◌, ◌≤◌, ◌+◌, ◌++◌, ◌==◌, ℕ, zero, suc, nat_le, if◌then◌else◌, List, length, replicate, Option, Some, None}
use Rattle.std.specs.Option.{option_and_then}
use Rattle.wasm_spec.specs.Features.{Features}
use Rattle.wasm_spec.specs.Values.{u32_at}
use Rattle.wasm_spec.specs.MatchingTests.{World}
use Rattle.wasm_operators.specs.Instructions.{instruction_at}
use Rattle.wasm_spec_steps.specs.Bodies.{Local, Surroundings}
use Rattle.wasm_spec_steps.specs.FunctionBodies.{Declaration, declaration_at, local_declared, type_of, with_locals, IsBody}
use Rattle.wasm_spec_steps.specs.Machine.{State}
use Rattle.wasm_spec_steps.specs.Steps.{step_in, is_finished}
use Rattle.wasm_spec_rules.specs.Limits.{most_locals}

module _ {R : Type 0} (F : Features) (types : List R) where
  -- the locals with those of one declaration more, where that isn't too many
  abbrev pub more_locals : Declaration → List (Local R) → Option (List (Local R))
  more_locals d ls = option_and_then (λ v. if nat_le (length ls + d.count) most_locals then Some (ls ++ replicate d.count (local_declared v)) else None) (type_of F types d.content)

  -- the locals with those of so many declarations more, and the bytes behind
  abbrev pub declared_from : ℕ → List (Local R) → List ℕ → Option (List (Local R) × List ℕ)
  declared_from zero ls bytes = Some (ls, bytes)
  declared_from (suc n) ls bytes = option_and_then (λ d. option_and_then (λ ks. declared_from n ks d.1) (more_locals d.0 ls)) (declaration_at bytes)

  -- the same of a list of them
  unfoldable pub locals_from : List (Local R) → List ℕ → Option (List (Local R) × List ℕ)
  locals_from ls bytes = option_and_then (λ n. declared_from n.0 ls n.1) (u32_at bytes)

module _ {R : Type 0} (W : World R) (B : Surroundings R) where
  -- at most so many instructions, until no frame is left
  abbrev pub typed_from : ℕ → State R → List ℕ → Option (State R × List ℕ)
  typed_from zero s bytes = if is_finished s then Some (s, bytes) else None
  typed_from (suc most) s bytes =
      if is_finished s then Some (s, bytes)
      else option_and_then (λ i. option_and_then (λ t. typed_from most t i.1) (step_in W B i.0 s)) (instruction_at (λ n. n) bytes)

  -- Within whatever number of steps, if no less than that of the bytes, something is found from the first state and bytes, it is found from the second ones too, within some such number.
  abbrev pub FindsTheSame : State R → List ℕ → State R → List ℕ → Type 0
  FindsTheSame s bytes t more = (most : ℕ) (all : Option (State R × List ℕ)) → length bytes ≤ most → typed_from most s bytes ≡ all → (m : ℕ) × (length more ≤ m) × (typed_from m t more ≡ all)

  -- the state behind the instructions that the bytes begin with, and the bytes behind them; each instruction takes at least a byte
  unfoldable pub instructions_from : State R → List ℕ → Option (State R × List ℕ)
  instructions_from s bytes = typed_from (length bytes) s bytes

abbrev pub where_all_is_read : {R : Type 0} → List (Local R) → State R × List ℕ → Option (List (Local R) × State R)
where_all_is_read ls e = if length e.1 == 0 then Some (ls, e.0) else None

module _ {R : Type 0} (W : World R) (B : Surroundings R) where
  -- the locals and the state behind a body, which is all of the bytes
  unfoldable pub body_from : State R → List ℕ → Option (List (Local R) × State R)
  body_from s bytes = option_and_then (λ d. option_and_then (where_all_is_read d.0) (instructions_from W (with_locals B d.0) s d.1)) (locals_from B.features B.context.types B.locals bytes)

  -- The code's way through the bytes finds just these, where there weren't too many locals before.
  abbrev pub FindsBodies : Type 0
  FindsBodies = (s : State R) (bytes : List ℕ) (ls : List (Local R)) (t : State R) → length B.locals ≤ most_locals → body_from s bytes ≡ Some (ls, t) → IsBody W B s bytes ls t

  abbrev pub BodiesAreFound : Type 0
  BodiesAreFound = (s : State R) (bytes : List ℕ) (ls : List (Local R)) (t : State R) → IsBody W B s bytes ls t → body_from s bytes ≡ Some (ls, t)
