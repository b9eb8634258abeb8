-- What `select` chooses.
use Rattle.std.proofs.Common.{◌≡◌, Bool, true, false, List, [], ◌∷◌, refl, sym, ◌∙◌, ap}
use Rattle.std.specs.Prelude.{Some, None, if◌then◌else◌}
use Rattle.wasm_spec.specs.Syntax.{AbstractHeap, Val, i32, map_val}
use Rattle.wasm_spec.specs.ValueTypes.{allows_val}
use Rattle.wasm_spec_rules.specs.Contexts.{Context}
use Rattle.wasm_spec_rules.specs.FeatureFlags.{features_of}
use Rattle.wasm_readers_types.specs.WasmReadersValues.declared.indices.UnpackedIndex.{UnpackedIndex}
use Rattle.wasm_typing_control.specs.WasmTypingChecks.WasmSpecSteps.Actions.{Action, these, allows, need, take, choose}
use Rattle.wasm_typing_control.specs.WasmTypingChecks.WasmSpecSteps.Machine.{Operand, bottom, bottom_reference, open_reference, known, State, pop_any, pop_val, push_operand, chosen, same_number}
use Rattle.wasm_typing_control.specs.WasmTypingChecks.WasmSpecSteps.Shapes.{one}
use Rattle.wasm_typing_control.specs.WasmTypingChecks.WasmValidatorResources.Answers.{world, written_index, val_in, val_resolved}
use Rattle.wasm_typing_control.specs.WasmTypingChecks.WasmTypingStacks.BodyStacks.{state_of}
use Rattle.wasm_typing_control.specs.WasmTypingChecks.WasmTypingStacks.declared.stacks.Stacks.{Stacks}
use Rattle.wasm_typing_control.specs.WasmTypingChecks.Steps.{acted, typed, held}
use Rattle.wasm_typing_blocks.proofs.BlockTypes.{same_allowed}

-- one of two operands that were looked at
module _ (o p : Operand UnpackedIndex) where
  pub two_bottoms : bottom ≡ o → bottom ≡ p → Some o ≡ chosen o p
  two_bottoms e f = rw (← e, ← f) refl

  pub bottom_and_number : (v : Val UnpackedIndex) → bottom ≡ o → known v ≡ p → same_number v v ≡ true → Some p ≡ chosen o p
  bottom_and_number v e f h = rw (← e, ← f, h) refl

  pub bottom_and_other : (v : Val UnpackedIndex) → bottom ≡ o → known v ≡ p → same_number v v ≡ false → None ≡ chosen o p
  bottom_and_other v e f h = rw (← e, ← f, h) refl

  pub number_and_bottom : (v : Val UnpackedIndex) → known v ≡ o → bottom ≡ p → same_number v v ≡ true → Some o ≡ chosen o p
  number_and_bottom v e f h = rw (← e, ← f, h) refl

  pub other_and_bottom : (v : Val UnpackedIndex) → known v ≡ o → bottom ≡ p → same_number v v ≡ false → None ≡ chosen o p
  other_and_bottom v e f h = rw (← e, ← f, h) refl

  pub two_numbers : (v w : Val UnpackedIndex) → known v ≡ o → known w ≡ p → same_number v w ≡ true → Some o ≡ chosen o p
  two_numbers v w e f h = rw (← e, ← f, h) refl

  pub two_others : (v w : Val UnpackedIndex) → known v ≡ o → known w ≡ p → same_number v w ≡ false → None ≡ chosen o p
  two_others v w e f h = rw (← e, ← f, h) refl

  pub reference_first : bottom_reference ≡ o → None ≡ chosen o p
  reference_first e = rw (← e) refl

  pub open_first : (k : AbstractHeap) → open_reference k ≡ o → None ≡ chosen o p
  open_first k e = rw (← e) refl

  pub reference_second : bottom_reference ≡ p → None ≡ chosen o p
  reference_second e = rw (← e) (elim o as (λ x. None ≡ chosen x bottom_reference) [ bottom ↦ refl | bottom_reference ↦ refl | open_reference k ↦ refl | known v ↦ refl ])

  pub open_second : (k : AbstractHeap) → open_reference k ≡ p → None ≡ chosen o p
  open_second k e = rw (← e) (elim o as (λ x. None ≡ chosen x (open_reference k)) [ bottom ↦ refl | bottom_reference ↦ refl | open_reference j ↦ refl | known v ↦ refl ])

pub ruleset choices = (two_bottoms, bottom_and_number, bottom_and_other, number_and_bottom, other_and_bottom, two_numbers, two_others, reference_first, open_first, reference_second, open_second)

module _ {A : Type 0} (v : Stacks A) (C : Context UnpackedIndex) where
  pub no_condition : (x : Val UnpackedIndex) (rest : List Action) → x ≡ i32 → pop_val (world C) x (state_of v) ≡ None → acted v C (take (one i32) ∷ rest) ≡ None
  unfolding acted
  no_condition x rest e f = let p : pop_val (world C) i32 (state_of v) ≡ None = ap (λ y. pop_val (world C) y (state_of v)) (sym e) ∙ f in rw p refl

  pub no_first : (x : Val UnpackedIndex) (s : State UnpackedIndex) → x ≡ i32 → pop_val (world C) x (state_of v) ≡ Some s → pop_any s ≡ None → acted v C (take (one i32) ∷ choose ∷ []) ≡ None
  unfolding acted
  no_first x s e f h = let p : pop_val (world C) i32 (state_of v) ≡ Some s = ap (λ y. pop_val (world C) y (state_of v)) (sym e) ∙ f in rw (p, h) refl

  pub no_second : (x : Val UnpackedIndex) (o : Operand UnpackedIndex) (s t : State UnpackedIndex) → x ≡ i32 → pop_val (world C) x (state_of v) ≡ Some s → pop_any s ≡ Some (o, t) → pop_any t ≡ None → acted v C (take (one i32) ∷ choose ∷ []) ≡ None
  unfolding acted
  no_second x o s t e f h i = let p : pop_val (world C) i32 (state_of v) ≡ Some s = ap (λ y. pop_val (world C) y (state_of v)) (sym e) ∙ f in rw (p, h, i) refl

  pub none_chosen : (x : Val UnpackedIndex) (o p : Operand UnpackedIndex) (s t u : State UnpackedIndex) → x ≡ i32 → pop_val (world C) x (state_of v) ≡ Some s → pop_any s ≡ Some (o, t) → pop_any t ≡ Some (p, u) → None ≡ chosen o p → acted v C (take (one i32) ∷ choose ∷ []) ≡ None
  unfolding acted
  none_chosen x o p s t u e f h i j = let q : pop_val (world C) i32 (state_of v) ≡ Some s = ap (λ y. pop_val (world C) y (state_of v)) (sym e) ∙ f in rw (q, h, i, ← j) refl

  pub one_chosen : (x : Val UnpackedIndex) (o p q : Operand UnpackedIndex) (s t u new : State UnpackedIndex) → x ≡ i32 → pop_val (world C) x (state_of v) ≡ Some s → pop_any s ≡ Some (o, t) → pop_any t ≡ Some (p, u) → Some q ≡ chosen o p → new ≡ push_operand q u
      → acted v C (take (one i32) ∷ choose ∷ []) ≡ Some new
  unfolding acted
  one_chosen x o p q s t u new e f h i j n = let r : pop_val (world C) i32 (state_of v) ≡ Some s = ap (λ y. pop_val (world C) y (state_of v)) (sym e) ∙ f in rw (r, h, i, ← j, n) refl

pub ruleset selects = (no_condition, no_first, no_second, none_chosen, one_chosen)

-- a type that is written
module _ {A : Type 0} (v : Stacks A) (C : Context UnpackedIndex) where
  allowed_by : (b : Bool) (u w : Val UnpackedIndex) → (if b then val_resolved C u else None) ≡ Some w → (b ≡ true) × (val_resolved C u ≡ Some w)
  allowed_by true u w e = (refl, e)
  allowed_by false u w e = cc

  pub written_allowed : (u w : Val UnpackedIndex) → val_in C (features_of v.features) u ≡ Some w → held v C (allows (map_val written_index u)) ≡ true
  unfolding held
  written_allowed u w e = same_allowed (features_of v.features) u ∙ (allowed_by (allows_val (features_of v.features) u) u w e).0

  pub three_typed : (u w x y z : Val UnpackedIndex) → val_in C (features_of v.features) u ≡ Some w → x ≡ w → y ≡ w → z ≡ i32 → typed v C (these (map_val written_index u ∷ map_val written_index u ∷ i32 ∷ [])) ≡ Some (x ∷ y ∷ z ∷ [])
  unfolding typed
  three_typed u w x y z e f h i = rw (f, h, i, (allowed_by (allows_val (features_of v.features) u) u w e).1) refl

  pub one_typed : (u w x : Val UnpackedIndex) → val_in C (features_of v.features) u ≡ Some w → x ≡ w → typed v C (these (map_val written_index u ∷ [])) ≡ Some (x ∷ [])
  unfolding typed
  one_typed u w x e f = rw (f, (allowed_by (allows_val (features_of v.features) u) u w e).1) refl

  untyped_by : (b : Bool) (u : Val UnpackedIndex) (rest : List Action) → held v C (allows (map_val written_index u)) ≡ b → (if b then val_resolved C u else None) ≡ None → acted v C (need (allows (map_val written_index u)) ∷ take (these (map_val written_index u ∷ map_val written_index u ∷ i32 ∷ [])) ∷ rest) ≡ None
  unfolding acted held
  untyped_by true u rest h e = rw (h, e) refl
  untyped_by false u rest h e = rw h refl

  pub untyped : (u : Val UnpackedIndex) (rest : List Action) → val_in C (features_of v.features) u ≡ None → acted v C (need (allows (map_val written_index u)) ∷ take (these (map_val written_index u ∷ map_val written_index u ∷ i32 ∷ [])) ∷ rest) ≡ None
  unfolding held
  untyped u rest e = untyped_by (allows_val (features_of v.features) u) u rest (same_allowed (features_of v.features) u) e

pub ruleset typed_selects = (written_allowed, three_typed, one_typed, untyped)
