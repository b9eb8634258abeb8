-- `select` between two numbers of one type.
use Rattle.std.proofs.Common.{◌≡◌, [], ◌∷◌, refl, sym, ◌∙◌, ap}
use Rattle.std.specs.Prelude.{Some}
use Rattle.wasm_spec.specs.Syntax.{Val, i32}
use Rattle.wasm_typing_control.specs.WasmTypingChecks.WasmSpecRules.Contexts.{Context}
use Rattle.wasm_readers_types.specs.WasmReadersValues.declared.indices.UnpackedIndex.{UnpackedIndex}
use Rattle.wasm_operators_plain.specs.declared.signatures.NumberType.{NumberType}
use Rattle.wasm_operators_plain.specs.declared.signatures.NumberType.TheVariants as number
use Rattle.wasm_typing_control.specs.WasmTypingChecks.WasmTypingStacks.SeenTypeWords.{number_val}
use Rattle.wasm_typing_control.specs.WasmTypingChecks.WasmSpecSteps.Actions.{take, choose}
use Rattle.wasm_typing_control.specs.WasmTypingChecks.WasmSpecSteps.Machine.{State, known, pop_any, pop_val, push_operand, chosen}
use Rattle.wasm_typing_control.specs.WasmTypingChecks.WasmSpecSteps.Shapes.{one}
use Rattle.wasm_typing_control.specs.WasmTypingChecks.WasmValidatorResources.Answers.{world}
use Rattle.wasm_typing_control.specs.WasmTypingChecks.WasmTypingStacks.BodyStacks.{state_of, below}
use Rattle.wasm_typing_control.specs.WasmTypingChecks.WasmTypingStacks.declared.stacks.Stacks.{Stacks}
use Rattle.wasm_typing_control.specs.WasmTypingChecks.Steps.{acted}

-- of two numbers of one type the lower one is chosen as well
lower_chosen : (n : NumberType) (x y : Val UnpackedIndex) → x ≡ number_val n → y ≡ number_val n → chosen (known x) (known y) ≡ Some (known y)
lower_chosen number.I32 x y e f = rw (e, f) refl
lower_chosen number.I64 x y e f = rw (e, f) refl
lower_chosen number.F32 x y e f = rw (e, f) refl
lower_chosen number.F64 x y e f = rw (e, f) refl

module _ {A : Type 0} (v : Stacks A) (C : Context UnpackedIndex) where
  pub selected : (n : NumberType) (x y z : Val UnpackedIndex) (new : State UnpackedIndex) → x ≡ i32 → y ≡ number_val n → z ≡ number_val n
      → pop_val (world C) x (state_of v) ≡ Some (below 1 (state_of v)) → pop_any (below 1 (state_of v)) ≡ Some (known y, below 2 (state_of v)) → pop_any (below 2 (state_of v)) ≡ Some (known z, below 3 (state_of v))
      → push_operand (known z) (below 3 (state_of v)) ≡ below 2 (state_of v) → new ≡ below 2 (state_of v) → acted v C (take (one i32) ∷ choose ∷ []) ≡ Some new
  unfolding acted
  selected n x y z new e f g p h i j k =
      let r : pop_val (world C) i32 (state_of v) ≡ Some (below 1 (state_of v)) = ap (λ w. pop_val (world C) w (state_of v)) (sym e) ∙ p in
      rw (r, h, i, lower_chosen n y z f g, j, k) refl
