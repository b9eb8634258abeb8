-- Reference types that may be cast to others.
use Rattle.std.proofs.Common.{◌≡◌, ℕ, Bool, true, false, refl, sym, ◌∙◌, ap, subst}
use Rattle.std.specs.Option.{option_map}
use Rattle.std.specs.Prelude.{Some, None, Option}
use Rattle.std.proofs.lemmas.Option.{same_Some}
use Rattle.wasm_typing_references.specs.WasmSpec.Features.{Features}
use Rattle.wasm_typing_references.specs.WasmSpec.Matching.{top_of_heap}
use Rattle.wasm_typing_references.specs.WasmSpec.MatchingTests.{matches_heap, matches_val}
use Rattle.wasm_typing_references.specs.WasmSpec.Syntax.{AbstractHeap, Heap, abstract_heap, concrete, exact, Ref, reference, map_heap, map_ref}
use Rattle.wasm_typing_references.specs.WasmSpec.ValueTypes.{allows_heap, allows_ref, allows_val}
use Rattle.wasm_typing_references.specs.WasmSpecRules.Contexts.{Context}
use Rattle.wasm_typing_references.specs.WasmSpecRules.FeatureFlags.{features_of}
use Rattle.wasm_typing_references.specs.WasmReadersTypes.WasmReadersValues.declared.indices.UnpackedIndex.{UnpackedIndex}
use Rattle.wasm_typing_references.specs.WasmTypingChecks.WasmSpecSteps.Actions.{may_be_cast}
use Rattle.wasm_typing_references.specs.WasmSpecRules.Attempts.{◌>>=◌}
use Rattle.wasm_typing_references.specs.WasmSpecRules.Signatures.{resolve_heap, resolve_ref}
use Rattle.wasm_typing_references.specs.WasmTypingChecks.WasmSpecSteps.Meanings.{casts}
use Rattle.wasm_typing_references.specs.WasmTypingChecks.WasmValidatorResources.Answers.{IsWrittenHeap, world, written_index}
use Rattle.wasm_typing_references.specs.WasmTypingChecks.WasmTypingStacks.BodyStacks.{around}
use Rattle.wasm_typing_references.specs.WasmTypingChecks.WasmTypingStacks.declared.stacks.Stacks.{Stacks}
use Rattle.wasm_typing_references.specs.WasmTypingChecks.Steps.{held}
use Rattle.wasm_typing_casts.specs.Tops.{top_in}

-- what the features allow, whatever identities are
same_allowed : (F : Features) (n : Bool) (h : Heap UnpackedIndex) → allows_heap F n h ≡ allows_heap F n (map_heap written_index h)
same_allowed F n (abstract_heap s a) = refl
same_allowed F n (concrete i) = refl
same_allowed F n (exact i) = refl

pub is_allowed_as : (F : Features) (r : Ref UnpackedIndex) (b : Bool) → b ≡ allows_ref F r → b ≡ allows_val F (reference (map_ref written_index r))
is_allowed_as F r b e = rw (same_allowed F r.nullable r.heap) at e

pub ruleset allowances = (is_allowed_as)

none_is : {X : Type 0} (x : X) → Some x ≡ None → ⊥
none_is x e = cc

-- the heap type of a reference type that is known
heap_known : (n : Bool) (o : Option (Heap UnpackedIndex)) (a : Ref UnpackedIndex) → Some a ≡ option_map (λ h. record { nullable = n; heap = h }) o → (o ≡ Some a.heap) × (a.nullable ≡ n)
heap_known n None a e = absurd (none_is a e)
heap_known n (Some h) a e =
    let q = same_Some a (record { nullable = n; heap = h }) e in
    (ap (λ (r : Ref UnpackedIndex). Some r.heap) (sym q), ap (λ (r : Ref UnpackedIndex). r.nullable) q)

pub heap_resolved : (C : Context UnpackedIndex) (r : Ref ℕ) (a : Ref UnpackedIndex) → Some a ≡ resolve_ref C.types r → (resolve_heap C.types r.heap ≡ Some a.heap) × (a.nullable ≡ r.nullable)
heap_resolved C r a e = heap_known r.nullable (resolve_heap C.types r.heap) a e

-- the same heap type is written
pub written_as : (h g : Heap UnpackedIndex) → h ≡ g → IsWrittenHeap g → IsWrittenHeap h
written_as h g e w = subst IsWrittenHeap (sym e) w

module _ {A : Type 0} (v : Stacks A) (C : Context UnpackedIndex) (w a b : Ref UnpackedIndex) where
  top_known : (h : Heap UnpackedIndex) (o : Option (Heap UnpackedIndex)) → Some a ≡ resolve_ref C.types (map_ref written_index w) → h ≡ w.heap → o ≡ top_in C (map_heap written_index h) → o ≡ top_of_heap (world C).declared a.heap
  unfolding top_in
  top_known h o e f g =
      let k = heap_resolved C (map_ref written_index w) a e in
      g ∙ ap (λ (x : Heap UnpackedIndex). resolve_heap C.types (map_heap written_index x) >>= top_of_heap (world C).declared) f ∙ ap (λ (p : Option (Heap UnpackedIndex)). p >>= top_of_heap (world C).declared) k.0

  pub by_descriptors : (h : Heap UnpackedIndex) (s : Bool) (k : AbstractHeap) (c r : Bool) → Some a ≡ resolve_ref C.types (map_ref written_index w) → c ≡ (features_of v.features).custom_descriptors → c ≡ true → h ≡ w.heap
      → Some (abstract_heap s k) ≡ top_in C (map_heap written_index h) → r ≡ matches_heap (world C) b.heap (abstract_heap s k) → r ≡ casts (world C) (around v C) a b
  by_descriptors h s k c r e f g i t m =
      let q : (features_of v.features).custom_descriptors ≡ true = sym f ∙ g in
      let p = top_known h (Some (abstract_heap s k)) e i t in
      rw (q, ← p) m

  pub by_no_top : (h : Heap UnpackedIndex) (c : Bool) → Some a ≡ resolve_ref C.types (map_ref written_index w) → c ≡ (features_of v.features).custom_descriptors → c ≡ true → h ≡ w.heap → None ≡ top_in C (map_heap written_index h) → false ≡ casts (world C) (around v C) a b
  by_no_top h c e f g i t =
      let q : (features_of v.features).custom_descriptors ≡ true = sym f ∙ g in
      let p = top_known h None e i t in
      rw (q, ← p) refl

  pub by_matching : (c r : Bool) → c ≡ (features_of v.features).custom_descriptors → c ≡ false → r ≡ matches_val (world C) (reference b) (reference a) → r ≡ casts (world C) (around v C) a b
  by_matching c r f g m =
      let q : (features_of v.features).custom_descriptors ≡ false = sym f ∙ g in
      rw q m

pub ruleset castings = (written_as, by_descriptors, by_no_top, by_matching)

module _ {A : Type 0} (v : Stacks A) (C : Context UnpackedIndex) (r q : Ref ℕ) where
  pub from_unresolved : None ≡ resolve_ref C.types r → held v C (may_be_cast r q) ≡ false
  unfolding held
  from_unresolved e = rw (← e) refl

  pub to_unresolved : (a : Ref UnpackedIndex) → Some a ≡ resolve_ref C.types r → None ≡ resolve_ref C.types q → held v C (may_be_cast r q) ≡ false
  unfolding held
  to_unresolved a e f = rw (← e, ← f) refl

  pub cast_held : (a b : Ref UnpackedIndex) (c d : Bool) → Some a ≡ resolve_ref C.types r → Some b ≡ resolve_ref C.types q → c ≡ casts (world C) (around v C) a b → c ≡ d → held v C (may_be_cast r q) ≡ d
  unfolding held
  cast_held a b c d e f g h = rw (← e, ← f, ← g) h

pub ruleset castables = (from_unresolved, to_unresolved, cast_held)
