-- Heap types as they are written.
use Rattle.std.proofs.Common.{◌≡◌, ℕ, Bool, true, [], ◌∷◌, refl, sym, ap, subst, ◌∙◌}
use Rattle.std.specs.Option.{option_map, option_or}
use Rattle.std.specs.Prelude.{Option, Some, None, IfSome}
use Rattle.wasm_typing_control.specs.WasmSpec.Syntax.{AbstractHeap, Heap, abstract_heap, concrete, exact, map_heap, Ref, Val, reference}
use Rattle.wasm_typing_control.specs.WasmSpec.Features.{Features}
use Rattle.wasm_typing_control.specs.WasmSpec.ValueTypes.{allows_ref, allows_val}
use Rattle.wasm_typing_control.specs.WasmTypingChecks.WasmSpecRules.Contexts.{Context}
use Rattle.wasm_typing_control.specs.WasmReadersTypes.WasmReadersValues.declared.indices.UnpackedIndex.{UnpackedIndex}
use Rattle.wasm_typing_control.specs.WasmTypingChecks.WasmSpecSteps.Actions.{these}
use Rattle.wasm_typing_control.specs.WasmTypingChecks.WasmSpecRules.Signatures.{resolve_ref}
use Rattle.wasm_typing_control.specs.WasmTypingChecks.WasmSpecSteps.Shapes.{reference_to}
use Rattle.wasm_typing_control.specs.WasmTypingChecks.WasmValidatorResources.Answers.{heap_in}
use Rattle.wasm_typing_control.specs.WasmTypingChecks.WasmValidatorResources.ProposalRefusals.{told_of_heap, told_of_ref, lack_for_ref}
use Rattle.wasm_typing_control.specs.WasmTypingChecks.WasmValidatorResources.WasmReadersErrors.declared.error.Refusal.{Refusal}
use Rattle.wasm_typing_control.specs.WasmTypingChecks.WasmValidatorResources.WasmReadersErrors.WasmReadersFeatures.declared.features.WasmFeatures.{WasmFeatures}
use Rattle.wasm_typing_control.specs.WasmTypingChecks.WasmValidatorResources.WasmReadersErrors.WasmReadersFeatures.declared.features.TheConstants.WasmFeatures.{REFERENCE_TYPES}
use Rattle.wasm_typing_control.specs.WasmTypingChecks.WasmValidatorResources.WasmReadersErrors.WasmReadersFeatures.declared.type_rules.ValueTypeRule.TheVariants.{ReferenceTypes}
use Rattle.wasm_typing_control.specs.WasmTypingChecks.OperatorRefusals.{TellsType, IsLackOfType}
use Rattle.wasm_typing_control.specs.WasmTypingChecks.declared.faults.OperatorFault.{OperatorFault}
use Rattle.wasm_typing_control.specs.WasmTypingChecks.WasmTypingStacks.declared.stacks.Stacks.{Stacks}
use Rattle.wasm_typing_control.specs.WasmTypingChecks.Steps.{typed}

pub abstract_allowed : (F : Features) (n s : Bool) (a : AbstractHeap) (r : Ref UnpackedIndex) (b : Bool) → r ≡ record { nullable = n; heap = abstract_heap s a } → b ≡ allows_ref F r → b ≡ allows_val {R = ℕ} F (reference_to n (abstract_heap s a))
abstract_allowed F n s a r b e f = rw e at f

pub ruleset allowed = (abstract_allowed)

-- with an identity in the place of the index
pub is_resolved : (C : Context UnpackedIndex) (n : Bool) (h g : Heap UnpackedIndex) (r : Ref UnpackedIndex) → heap_in C h ≡ Some g → r ≡ record { nullable = n; heap = g } → Some r ≡ option_map (λ k. record { nullable = n; heap = k }) (heap_in C h)
is_resolved C n h g r e f = rw (e, f) refl

pub ruleset resolves = (is_resolved)

module _ {A : Type 0} (v : Stacks A) (C : Context UnpackedIndex) where
  pub reference_typed : (w : Ref ℕ) (r : Ref UnpackedIndex) (x : Val UnpackedIndex) → Some r ≡ resolve_ref C.types w → x ≡ reference r → typed v C (these (reference w ∷ [])) ≡ Some (x ∷ [])
  unfolding typed
  reference_typed w r x e f = rw (← e, f) refl

  pub reference_untyped : (w : Ref ℕ) → None ≡ resolve_ref C.types w → typed v C (these (reference w ∷ [])) ≡ None
  unfolding typed
  reference_untyped w e = rw (← e) refl

pub ruleset written = (reference_typed, reference_untyped)

-- what is told of a reference for want of a proposal doesn't depend on the index that is written
told_by_form : (w : WasmFeatures) (n : Bool) (h : Heap UnpackedIndex) → told_of_heap w 0 n h ≡ told_of_heap w 0 n (map_heap {S = ℕ} (λ i. 0) h)
told_by_form w n (abstract_heap s a) = refl
told_by_form w n (concrete i) = refl
told_by_form w n (exact i) = refl

told_alike : (w : WasmFeatures) (n : Bool) (h g : Heap UnpackedIndex) → map_heap {S = ℕ} (λ i. 0) g ≡ map_heap {S = ℕ} (λ i. 0) h → told_of_ref w 0 (record { nullable = n; heap = g }) ≡ told_of_ref w 0 (record { nullable = n; heap = h })
told_alike w n h g e =
    let same = told_by_form w n g ∙ ap (told_of_heap w 0 n) e ∙ sym (told_by_form w n h) in
    ap (option_or (lack_for_ref w 0 true REFERENCE_TYPES ReferenceTypes)) same

module _ (w : WasmFeatures) (n : Bool) (h g : Heap UnpackedIndex) (r : Ref UnpackedIndex) (f : OperatorFault) where
  pub lack_told : (x : Refusal) → map_heap {S = ℕ} (λ i. 0) g ≡ map_heap {S = ℕ} (λ i. 0) h → r ≡ record { nullable = n; heap = g } → Some x ≡ told_of_ref w 0 r → (IsLackOfType x → TellsType x f) → IfSome (told_of_ref w 0 (record { nullable = n; heap = h })) (λ y. TellsType y f)
  lack_told x e s t tells =
      let told = sym (told_alike w n h g e) ∙ ap (told_of_ref w 0) (sym s) ∙ sym t in
      subst (λ (o : Option Refusal). IfSome o (λ y. TellsType y f)) (sym told) (tells (w, 0, reference r, sym t))

  pub nothing_lacks : map_heap {S = ℕ} (λ i. 0) g ≡ map_heap {S = ℕ} (λ i. 0) h → r ≡ record { nullable = n; heap = g } → None ≡ told_of_ref w 0 r → IfSome (told_of_ref w 0 (record { nullable = n; heap = h })) (λ y. TellsType y f)
  nothing_lacks e s t =
      let told = sym (told_alike w n h g e) ∙ ap (told_of_ref w 0) (sym s) ∙ sym t in
      subst (λ (o : Option Refusal). IfSome o (λ y. TellsType y f)) (sym told) tt

pub ruleset lacking = (lack_told, nothing_lacks)
