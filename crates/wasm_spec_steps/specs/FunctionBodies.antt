-- Function bodies: the locals that they declare, and the instructions behind them.
-- Core Specification 3.0, Validation, Modules (Functions), and Binary Format, Modules (Code Section).
use Rattle.std.specs.Prelude.{◌≡◌, ◌≤◌, ◌++◌, ℕ, Bool, true, if◌then◌else◌, List, [], ◌∷◌, map, length, replicate, slice_get, Option, Some, None}
use Rattle.std.specs.Option.{option_map, option_and_then}
use Rattle.wasm_spec_rules.specs.WasmSpec.Syntax.{Val, Sub}
use Rattle.wasm_spec_rules.specs.WasmSpec.Features.{Features}
use Rattle.wasm_spec_rules.specs.WasmSpec.ValueTypes.{allows_val}
use Rattle.wasm_spec_rules.specs.WasmSpec.Values.{u32_at, list_at}
use Rattle.wasm_spec_rules.specs.WasmSpec.BinaryTypes.{val_at}
use Rattle.wasm_spec_rules.specs.WasmSpec.MatchingTests.{World}
use Rattle.wasm_spec_rules.specs.Attempts.{◌>>=◌}
use Rattle.wasm_spec_rules.specs.Contexts.{Context}
use Rattle.wasm_spec_rules.specs.Signatures.{Signature, signature_of, resolve_val}
use Rattle.wasm_spec_rules.specs.Limits.{most_locals}
use Rattle.wasm_operators.specs.Control.{func_block}
use Rattle.wasm_operators.specs.Instructions.{Instruction}
use Rattle.wasm_spec_steps.specs.Bodies.{Local, Surroundings}
use Rattle.wasm_spec_steps.specs.Machine.{State}
use Rattle.wasm_spec_steps.specs.Meanings.{has_default}
use Rattle.wasm_spec_steps.specs.Sequences.{Are}
use Rattle.wasm_spec_steps.specs.Steps.{start, steps_in, is_finished}

-- so many locals of one type
pub record Declaration : Type 0 where
  pub count : ℕ
  pub content : Val ℕ

unfoldable pub declaration_at : List ℕ → Option (Declaration × List ℕ)
declaration_at bytes = option_and_then (λ n. option_map (λ v. (record { count = n.0; content = v.0 }, v.1)) (val_at (λ i. i) n.1)) (u32_at bytes)

-- a local is set from the start where its type has a default
abbrev pub local_declared : {R : Type 0} → Val R → Local R
local_declared v = record { content = v; set = has_default v }

module _ {R : Type 0} (F : Features) (types : List R) where
  -- the type that is written so, where the features allow it and the context has it
  abbrev pub type_of : Val ℕ → Option (Val R)
  type_of v = if allows_val F v then resolve_val types v else None

  -- the locals of all declarations, one by one, where each has a type
  abbrev pub declared_locals : List Declaration → Option (List (Local R))
  declared_locals [] = Some []
  declared_locals (d ∷ ds) = option_and_then (λ v. option_map (λ ls. replicate d.count (local_declared v) ++ ls) (declared_locals ds)) (type_of d.content)

abbrev pub with_locals : {R : Type 0} → Surroundings R → List (Local R) → Surroundings R
with_locals B ls = record B { locals = ls }

module _ {R : Type 0} (W : World R) (B : Surroundings R) where
  -- The bytes are a list of declarations of locals and then instructions, and nothing more. With the locals that were there before,
  -- there are not too many; and with all of them, the instructions lead from one state to another, in which no frame is left.
  pub record IsBody (s : State R) (bytes : List ℕ) (ls : List (Local R)) (t : State R) : Type 0 where
    pub declarations : List Declaration
    pub locals : List (Local R)
    pub instructions : List (Instruction ℕ)
    pub behind : List ℕ
    pub listed : list_at declaration_at bytes ≡ Some (declarations, behind)
    pub declared : declared_locals B.features B.context.types declarations ≡ Some locals
    pub all : ls ≡ B.locals ++ locals
    pub few : length ls ≤ most_locals
    pub written : Are instructions behind []
    pub typed : steps_in W (with_locals B ls) instructions s ≡ Some t
    pub finished : is_finished t ≡ true

-- a parameter is set from the start
abbrev pub local_taken : {R : Type 0} → Val R → Local R
local_taken v = record { content = v; set = true }

module _ {R : Type 0} (W : World R) (F : Features) (C : Context R) where
  -- what the type of an index declares
  abbrev pub declared_at : ℕ → Option (Sub R)
  declared_at n = slice_get C.types n >>= W.declared

  -- The bytes are the body of a function of the type with this index: over its parameters, which are set from the start, they lead from
  -- the start of its frame to the end.
  pub record IsBodyOfFunction (n : ℕ) (bytes : List ℕ) : Type 0 where
    pub signature : Signature R
    pub shared : Bool
    pub locals : List (Local R)
    pub last : State R
    pub is_function : option_map (λ d. d.comp) (declared_at n) >>= signature_of ≡ Some signature
    pub is_shared : option_map (λ d. d.shared) (declared_at n) ≡ Some shared
    pub body : IsBody W (record { features = F; context = C; locals = map local_taken signature.takes; shared = shared }) (start (func_block n)) bytes locals last
