-- That no verdict on a body or on a constant expression depends on what the identities of types are, as long as no two are the same.
-- Core Specification 3.0, Validation, Modules (Functions), and Validation, Instructions (Constant Expressions).
use Rattle.std.specs.Prelude.{◌≡◌, ◌↔◌, ◌<◌, ◌==◌, ℕ, Bool, List}
use Rattle.wasm_spec.specs.Features.{Features}
use Rattle.wasm_spec_steps.specs.WasmSpecRules.Contexts.{Context, map_context}
use Rattle.wasm_spec_steps.specs.WasmSpecRules.Parts.{Parts}
use Rattle.wasm_spec_steps.specs.WasmSpecRules.Worlds.{world_of}
use Rattle.wasm_spec_steps.specs.Bodies.{Surroundings, map_surroundings}
use Rattle.wasm_spec_steps.specs.ConstantRules.{IsConstantExpression}
use Rattle.wasm_spec_steps.specs.FunctionBodies.{IsBodyOfFunction}
use Rattle.wasm_spec_steps.specs.Machine.{State, map_state}
use Rattle.wasm_spec_validity.specs.Typing.{HasTypedBodies}

-- What is a constant expression over some identities is one over others, which stand for them, and leads to the same state.
abbrev pub ConstantsAlso : {R S T : Type 0} → (R → R → Bool) → (S → S → Bool) → (T → R) → (T → S) → Type 0
ConstantsAlso {R} {S} {T} same also f g =
    (B : Surroundings T) (imported : ℕ) (s : State T) (u : State R) (bytes more : List ℕ)
    → IsConstantExpression (world_of same (map_context f B.context)) (map_surroundings f B) imported (map_state f s) bytes u more
    → (t : State T) × (map_state f t ≡ u)
    × IsConstantExpression (world_of also (map_context g B.context)) (map_surroundings g B) imported (map_state g s) bytes (map_state g t) more

-- The same bodies and the same constant expressions over both.
pub record SaysTheSame {R S T : Type 0} (same : R → R → Bool) (also : S → S → Bool) (f : T → R) (g : T → S) : Type 0 where
  pub bodies :
      (F : Features) (C : Context T) (n : ℕ) (bytes : List ℕ)
      → IsBodyOfFunction (world_of same (map_context f C)) F (map_context f C) n bytes ↔ IsBodyOfFunction (world_of also (map_context g C)) F (map_context g C) n bytes
  pub typed : (F : Features) (C : Context T) (parts : Parts) → HasTypedBodies same F (map_context f C) parts ↔ HasTypedBodies also F (map_context g C) parts
  pub constants : ConstantsAlso same also f g
  pub constants_back : ConstantsAlso also same g f

-- a number below the limit
abbrev pub Below : ℕ → Type 0
Below limit = (k : ℕ) × (k < limit)

-- So it is for each two one-to-one numberings of what stands below a limit, of which the numbers themselves are one.
abbrev pub NumberingsSayTheSame : (R S : Type 0) → Type 0
NumberingsSayTheSame R S =
    (limit : ℕ) (same : R → R → Bool) (also : S → S → Bool) (f : ℕ → R) (g : ℕ → S)
    → ((a b : ℕ) → a < limit → b < limit → same (f a) (f b) ≡ (a == b)) → ((a b : ℕ) → a < limit → b < limit → also (g a) (g b) ≡ (a == b))
    → SaysTheSame same also (λ (k : Below limit). f k.0) (λ (k : Below limit). g k.0)
