-- The machine accepts exactly what the rules type.
use Rattle.std.specs.Prelude.{◌≡◌, ℕ, Bool, true, false, List, [], ◌∷◌, Some}
use Rattle.std.specs.List.{Contains}
use Rattle.wasm_spec_steps.specs.WasmSpecRules.WasmSpec.MatchingTests.{World, IsWorld}
use Rattle.wasm_spec_steps.specs.WasmSpecRules.WasmSpec.TypeLaws.{KeepsKind, AreAccepted}
use Rattle.wasm_spec_steps.specs.WasmSpecRules.Signatures.{Signature, signature_of}
use Rattle.wasm_spec_steps.specs.WasmSpecRules.WasmSpec.Features.{Features}
use Rattle.wasm_spec_steps.specs.WasmSpecRules.WasmSpec.Syntax.{Sub}
use Rattle.wasm_spec_steps.specs.WasmSpecRules.WasmSpec.Matching.{shared_flag}
use Rattle.wasm_spec_steps.specs.WasmSpecRules.Attempts.{passes}
use Rattle.wasm_operators.specs.Control.{Block}
use Rattle.wasm_operators.specs.Instructions as instruction
use Rattle.wasm_operators.specs.Instructions.{Instruction}
use Rattle.wasm_spec_steps.specs.Bodies.{Surroundings}
use Rattle.wasm_spec_steps.specs.Machine.{State}
use Rattle.wasm_spec_steps.specs.Meanings.{block_signature}
use Rattle.wasm_spec_steps.specs.Shapes.{Shape, branching_by_table, converting, shape_of}
use Rattle.wasm_spec_steps.specs.Steps.{is_finished, start, steps_in}
use Rattle.wasm_spec_instructions.specs.Code.{Code, Is}
use Rattle.wasm_spec_instructions.specs.ValueTypes.{IsInOrder, AreUnshared}
use Rattle.wasm_spec_instructions.specs.Expressions.{IsTypedExpression}

-- Code without conversions of references, or else without branches by a table. What unreached code converts is a reference whose shared
-- flag isn't known, and with shared types there may be no single type of it that matches those at all labels of a table.
abbrev pub is_served : Bool → Shape → Bool
is_served true (converting cs j k) = false
is_served false (branching_by_table ls l) = false
is_served _ _ = true

abbrev pub AreServedAs : Bool → List (Instruction ℕ) → Type 0
AreServedAs b [] = Unit {0}
AreServedAs b (i ∷ ops) = (is_served b (shape_of i) ≡ true) × AreServedAs b ops

abbrev pub AreServed : List (Instruction ℕ) → Type 0
AreServed ops = (b : Bool) × AreServedAs b ops

-- Nothing is shared: no defined type, and no parameter and result of one.
pub record HasNoSharing {R : Type 0} (W : World R) (F : Features) : Type 0 where
  pub off : F.shared_everything_threads ≡ false
  pub types : (a : R) → shared_flag (W.declared a) ≡ false
  pub signatures : (a : R) (s : Sub R) (g : Signature R) → W.declared a ≡ Some s → signature_of s.comp ≡ Some g → AreUnshared W g.takes × AreUnshared W g.gives

-- no operator of the legacy exception-handling proposal
abbrev pub is_legacy : Instruction ℕ → Bool
is_legacy (instruction.legacy op) = true
is_legacy _ = false

abbrev pub AreWithoutLegacy : List (Instruction ℕ) → Type 0
AreWithoutLegacy [] = Unit {0}
AreWithoutLegacy (i ∷ ops) = (is_legacy i ≡ false) × AreWithoutLegacy ops

-- The machine accepts none of them where their feature is off.
abbrev pub AcceptedCodeIsWithoutLegacy : (R : Type 0) → Type 0
AcceptedCodeIsWithoutLegacy R =
    (W : World R) (B : Surroundings R) (ops : List (Instruction ℕ)) (s t : State R) → B.features.legacy_exceptions ≡ false → steps_in W B ops s ≡ Some t → AreWithoutLegacy ops

-- What the machine accepts, the rules type, where nothing is shared: so in Core Specification 3.0.
abbrev pub SoundnessWithoutSharing : (R : Type 0) → Type 0
SoundnessWithoutSharing R =
    (W : World R) (B : Surroundings R) (b : Block R) (g : Signature R) (ops : List (Instruction ℕ)) → IsInOrder W → HasNoSharing W B.features → AreUnshared W g.gives
    → block_signature W B b ≡ Some g → passes is_finished (steps_in W B ops (start b)) ≡ true → IsTypedExpression W B g.gives ops

-- The same with shared types, of code that is served.
abbrev pub Soundness : (R : Type 0) → Type 0
Soundness R =
    (W : World R) (B : Surroundings R) (b : Block R) (g : Signature R) (ops : List (Instruction ℕ)) → IsInOrder W → block_signature W B b ≡ Some g → AreServed ops
    → passes is_finished (steps_in W B ops (start b)) ≡ true → IsTypedExpression W B g.gives ops

-- What the rules type, the machine accepts.
abbrev pub Completeness : (R : Type 0) → Type 0
Completeness R =
    (W : World R) (B : Surroundings R) (b : Block R) (g : Signature R) (ops : List (Instruction ℕ)) → IsInOrder W → block_signature W B b ≡ Some g
    → IsTypedExpression W B g.gives ops → passes is_finished (steps_in W B ops (start b)) ≡ true

-- A flat list is written for one structured code at most.
abbrev pub CodeIsUnique : Type 0
CodeIsUnique = (ops : List (Instruction ℕ)) (c d : Code) → Is ops c → Is ops d → c ≡ d

-- Matching is an order in each world whose tests are right, and whose supertypes keep their kind and shared flag.
abbrev pub WorldsAreInOrder : (R : Type 0) → Type 0
WorldsAreInOrder R = (W : World R) → IsWorld W → ((a : R) → KeepsKind W.declared a) → IsInOrder W

-- A world of accepted types: its tests are right, and each type that declares something is one of the list.
pub record IsAcceptedWorld {R : Type 0} (W : World R) (F : Features) (ts : List R) : Type 0 where
  pub right : IsWorld W
  pub accepted : AreAccepted F W.declared ts
  pub all : (a : R) (s : Sub R) → W.declared a ≡ Some s → Contains ts a

-- There matching is an order, and where shared types are off nothing is shared.
abbrev pub AcceptedWorldsAreInOrder : (R : Type 0) → Type 0
AcceptedWorldsAreInOrder R =
    (W : World R) (F : Features) (ts : List R) → IsAcceptedWorld W F ts → IsInOrder W × (F.shared_everything_threads ≡ false → HasNoSharing W F)
