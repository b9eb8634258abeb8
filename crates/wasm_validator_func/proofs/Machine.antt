-- The typing of a body, instruction by instruction.
use Rattle.std.proofs.Common.{◌≡◌, ◌∙◌, refl, sym, ap, subst, ℕ, zero, suc, true, false, List, length, if◌then◌else◌, Option, Some, None}
use Rattle.std.specs.Option.{option_and_then}
use Rattle.wasm_spec.specs.MatchingTests.{World}
use Rattle.wasm_operators.specs.Instructions.{Instruction, instruction_at}
use Rattle.wasm_spec_steps.specs.Bodies.{Surroundings}
use Rattle.wasm_spec_steps.specs.Machine.{State}
use Rattle.wasm_spec_steps.specs.Steps.{step_in, is_finished}
use Rattle.wasm_validator_func.specs.Bodies.{FindsTheSame, typed_from, instructions_from}

module _ {R : Type 0} (W : World R) (B : Surroundings R) where
  abbrev pub here : State R → List ℕ → Option (State R × List ℕ)
  here s bytes = Some (s, bytes)

  abbrev pub stepped_from : ℕ → List ℕ → Option (State R) → Option (State R × List ℕ)
  stepped_from most more o = option_and_then (λ t. typed_from W B most t more) o

  abbrev pub read_from : ℕ → State R → Option (Instruction ℕ × List ℕ) → Option (State R × List ℕ)
  read_from most s o = option_and_then (λ i. stepped_from most i.1 (step_in W B i.0 s)) o

  -- a step from one state to the next
  pub one_step : (most : ℕ) (s t : State R) (bytes more : List ℕ) (i : Instruction ℕ) → is_finished s ≡ false → instruction_at (λ n. n) bytes ≡ Some (i, more)
      → step_in W B i s ≡ Some t → typed_from W B (suc most) s bytes ≡ typed_from W B most t more
  one_step most s t bytes more i open_ e d =
      ap (λ b. if b then here s bytes else read_from most s (instruction_at (λ n. n) bytes)) open_ ∙ ap (read_from most s) e ∙ ap (stepped_from most more) d

  -- the end
  pub done : (most : ℕ) (s : State R) (bytes : List ℕ) → is_finished s ≡ true → typed_from W B most s bytes ≡ Some (s, bytes)
  done zero s bytes closed = ap (λ b. if b then here s bytes else None) closed
  done (suc m) s bytes closed = ap (λ b. if b then here s bytes else read_from m s (instruction_at (λ n. n) bytes)) closed

  pub end_here : (most : ℕ) (s : State R) (bytes : List ℕ) (all : Option (State R × List ℕ))
      → is_finished s ≡ true → typed_from W B most s bytes ≡ all → all ≡ Some (s, bytes)
  end_here most s bytes all closed so_far = sym so_far ∙ done most s bytes closed

  -- the same way, by what is the same
  pub leads_here : (s t u : State R) (bytes more behind : List ℕ) → FindsTheSame W B s bytes t more → u ≡ t → behind ≡ more → FindsTheSame W B s bytes u behind
  leads_here s t u bytes more behind l e f = subst (λ x. FindsTheSame W B s bytes x behind) (sym e) (subst (λ xs. FindsTheSame W B s bytes t xs) (sym f) l)

  -- the whole way
  pub all_of : (s : State R) (bytes : List ℕ) → typed_from W B (length bytes) s bytes ≡ instructions_from W B s bytes
  unfolding instructions_from
  all_of s bytes = refl
