-- Types that are written in a list are those of a module.
use Rattle.std.proofs.Common.{◌≡◌, ℕ, List, [], ◌∷◌, map, refl, sym, ◌∙◌, subst}
use Rattle.std.specs.Option.{option_map}
use Rattle.std.specs.Prelude.{Option, Some, None, zero, suc, Result}
use Rattle.wasm_spec.specs.BinaryTypes.{val_at}
use Rattle.wasm_spec.specs.Syntax.{Heap, abstract_heap, concrete, exact, Val, i32, i64, f32, f64, v128, reference, map_heap, map_val}
use Rattle.wasm_spec.proofs.Renaming.{val-renames}
use Rattle.wasm_spec_rules.specs.Contexts.{Context}
use Rattle.wasm_readers.specs.WrittenIndices.{written}
use Rattle.wasm_readers_types.specs.WasmReadersValues.declared.indices.UnpackedIndex.{UnpackedIndex}
use Rattle.wasm_operators.specs.Control.{select_of}
use Rattle.wasm_operators.specs.SeenLists.{begun_by, first_items, GivesFront}
use Rattle.wasm_typing_control.specs.WasmTypingChecks.WasmSpecSteps.Machine.{State}
use Rattle.wasm_typing_control.specs.WasmTypingChecks.WasmSpecSteps.Shapes.{parametric_shape}
use Rattle.wasm_typing_control.specs.WasmTypingChecks.WasmSpecSteps.Steps.{actions_of}
use Rattle.wasm_typing_control.specs.WasmTypingChecks.WasmValidatorResources.Answers.{written_index, IsWrittenHeap, IsWrittenVal}
use Rattle.wasm_typing_control.specs.WasmTypingChecks.WasmTypingStacks.declared.stacks.Stacks.{Stacks}
use Rattle.wasm_typing_control.specs.WasmTypingChecks.Steps.{Took, acted}
use Rattle.wasm_typing_control.specs.WasmTypingChecks.declared.faults.OperatorError.{OperatorError}
use Rattle.wasm_typing_blocks.proofs.ListItems.{front_given, none_left}

heap_written : (h : Heap ℕ) → IsWrittenHeap (map_heap written h)
heap_written (abstract_heap s k) = tt
heap_written (concrete n) = tt
heap_written (exact n) = tt

val_written : (v : Val ℕ) → IsWrittenVal (map_val written v)
val_written i32 = tt
val_written i64 = tt
val_written f32 = tt
val_written f64 = tt
val_written v128 = tt
val_written (reference r) = heap_written r.heap

-- what is read over written indices
abbrev renamed : Option (Val ℕ × List ℕ) → Option (Val UnpackedIndex × List ℕ)
renamed o = option_map (λ x. (map_val written x.0, x.1)) o

first_written : (o : Option (Val ℕ × List ℕ)) (others : List ℕ → List (Val UnpackedIndex)) (x : Val UnpackedIndex) (xs : List (Val UnpackedIndex)) → begun_by others (renamed o) ≡ x ∷ xs → IsWrittenVal x
first_written None others x xs e = let e : [] ≡ x ∷ xs = e in absurd (cc)
first_written (Some p) others x xs e = let q : map_val written p.0 ≡ x = cc in subst IsWrittenVal q (val_written p.0)

items_written : (n : ℕ) (bytes : List ℕ) (x : Val UnpackedIndex) (xs : List (Val UnpackedIndex)) → first_items (val_at written) n bytes ≡ x ∷ xs → IsWrittenVal x
items_written zero bytes x xs e = let e : [] ≡ x ∷ xs = e in absurd (cc)
items_written (suc n) bytes x xs e =
    let h : val_at written bytes ≡ renamed (val_at (λ (k : ℕ). k) bytes) = (val-renames written (λ (k : ℕ). k) bytes).is in
    first_written (val_at (λ (k : ℕ). k) bytes) (λ more. first_items (val_at written) n more) x xs (rw h at e)

pub given_written : (n : ℕ) (bytes : List ℕ) (x : Val UnpackedIndex) (after : List (Val UnpackedIndex)) → GivesFront (first_items (val_at written) n bytes) (Some x) after → IsWrittenVal x
given_written n bytes x after h = items_written n bytes x after (front_given (first_items (val_at written) n bytes) after x h)

module _ {A : Type 0} (v : Stacks A) (C : Context UnpackedIndex) where
  -- `select` with these types
  abbrev chosen_of : List (Val UnpackedIndex) → Option (State UnpackedIndex)
  chosen_of xs = acted v C (actions_of (parametric_shape (select_of (map (map_val written_index) xs))))

  none_of : chosen_of [] ≡ None
  unfolding acted
  none_of = refl

  none_of_two : (x y : Val UnpackedIndex) (xs : List (Val UnpackedIndex)) → chosen_of (x ∷ y ∷ xs) ≡ None
  unfolding acted
  none_of_two x y xs = refl

  pub without_types : (xs ys after : List (Val UnpackedIndex)) → ys ≡ xs → GivesFront ys None after → chosen_of xs ≡ None
  without_types xs ys after e h = subst (λ zs. chosen_of zs ≡ None) (sym (none_left ys after h) ∙ e) none_of

  pub with_two_types : (xs ys zs after : List (Val UnpackedIndex)) (x y : Val UnpackedIndex) → ys ≡ xs → GivesFront ys (Some x) zs → GivesFront zs (Some y) after → chosen_of xs ≡ None
  with_two_types xs ys zs after x y e h f =
      let q : ys ≡ x ∷ y ∷ after = front_given ys zs x h ∙ rw (front_given zs after y f) refl in
      subst (λ us. chosen_of us ≡ None) (sym q ∙ e) (none_of_two x y after)

  pub with_one_type : (r : Result (Unit {0}) OperatorError) (xs ys zs after : List (Val UnpackedIndex)) (x : Val UnpackedIndex) (old new : State UnpackedIndex) → ys ≡ xs → GivesFront ys (Some x) zs → GivesFront zs None after
      → Took r (acted v C (actions_of (parametric_shape (select_of (map_val written_index x ∷ []))))) old new → Took r (chosen_of xs) old new
  with_one_type r xs ys zs after x old new e h f t =
      let q : ys ≡ x ∷ [] = front_given ys zs x h ∙ rw (none_left zs after f) refl in
      subst (λ us. Took r (chosen_of us) old new) (sym q ∙ e) t

pub ruleset lists = (without_types, with_two_types, with_one_type)
