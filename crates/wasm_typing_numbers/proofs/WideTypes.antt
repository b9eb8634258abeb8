-- What the operators of wide arithmetic take and give stands for lists of i64.
use Rattle.std.proofs.Common.{◌≡◌, ◌⊎◌, inl, inr, refl, [], ◌∷◌}
use Rattle.std.specs.Prelude.{Some}
use Rattle.wasm_readers_errors.specs.WasmSpec.Syntax.{i64}
use Rattle.wasm_operators.specs.WasmOperatorsAtomic.declared.wide.WideOperator.{WideOperator}
use Rattle.wasm_operators.specs.WasmOperatorsAtomic.declared.wide.WideOperator.TheVariants.{I64Add128, I64Sub128, I64MulWideS, I64MulWideU}
use Rattle.wasm_readers_types.specs.WasmReadersValues.declared.indices.UnpackedIndex.{UnpackedIndex}
use Rattle.wasm_typing_checks.specs.WasmSpecRules.Contexts.{Context}
use Rattle.wasm_typing_checks.specs.WasmSpecSteps.Actions.{these}
use Rattle.wasm_typing_checks.specs.WasmSpecSteps.Shapes.{wide_taken}
use Rattle.wasm_typing_checks.specs.WasmTypingStacks.declared.stacks.Stacks.{Stacks}
use Rattle.wasm_typing_checks.specs.Steps.{typed}

module _ {A : Type 0} (v : Stacks A) (C : Context UnpackedIndex) where
  pub two_typed : typed v C (these (i64 ∷ i64 ∷ [])) ≡ Some (i64 ∷ i64 ∷ [])
  unfolding typed
  two_typed = refl

  pub sums_typed : (op : WideOperator) → (op ≡ I64Add128) ⊎ (op ≡ I64Sub128) → typed v C (these (wide_taken op)) ≡ Some (i64 ∷ i64 ∷ i64 ∷ i64 ∷ [])
  unfolding typed
  sums_typed op (inl e) = rw e refl
  sums_typed op (inr e) = rw e refl

  pub products_typed : (op : WideOperator) → (op ≡ I64MulWideS) ⊎ (op ≡ I64MulWideU) → typed v C (these (wide_taken op)) ≡ Some (i64 ∷ i64 ∷ [])
  unfolding typed
  products_typed op (inl e) = rw e refl
  products_typed op (inr e) = rw e refl
