-- Values of a type are of each type that it matches, and stay of their types where a store grows.
use Rattle.std.specs.Prelude.{List}
use Rattle.wasm_spec_steps.specs.WasmSpecRules.WasmSpec.MatchingTests.{World}
use Rattle.wasm_spec_instructions.specs.ValueTypes.{ValueType, Match, IsInOrder}
use Rattle.wasm_laws_soundness.specs.Values.{Value, Store, HaveTypes}
use Rattle.wasm_laws_soundness.specs.Outcomes.{Primitives}
use Rattle.wasm_laws_soundness.specs.StoreValidity.{Grows}

abbrev pub ValuesHaveGreaterTypes : (R : Type 0) → Type 0
ValuesHaveGreaterTypes R =
    (W : World R) (S : Store R) (vs : List (Value R)) (ts us : List (ValueType R)) → IsInOrder W → HaveTypes W S vs ts → Match W ts us → HaveTypes W S vs us

abbrev pub ValuesKeepTheirTypes : (R : Type 0) → Type 0
ValuesKeepTheirTypes R =
    (W : World R) (P : Primitives R) (S T : Store R) (vs : List (Value R)) (ts : List (ValueType R)) → Grows P S T → HaveTypes W S vs ts → HaveTypes W T vs ts
