-- Matching is an order where the tests of a world are right, and supertypes keep their kind and shared flag.
use Rattle.std.proofs.Common.{◌≡◌, refl, sym, ap, ◌∙◌, ℕ, zero, suc, Option, Some, None}
use Rattle.std.specs.Option.{option_and_then}
use Rattle.std.specs.Prelude.{slice_index_or}
use Rattle.std.specs.List.{All}
use Rattle.wasm_spec.specs.Syntax.{Heap, abstract_heap, concrete, exact, Sub}
use Rattle.wasm_spec.specs.References.{refs_heap}
use Rattle.wasm_spec.specs.SupertypeOrder.{IsAncestor, supertype, ancestor_at}
use Rattle.wasm_spec.specs.Matching.{MatchesHeap, shared_flag, is_shared_heap}
use Rattle.wasm_spec.specs.MatchingTests.{World, IsWorld}
use Rattle.wasm_spec.specs.TypeLaws.{IsLike, KeepsKind}
use Rattle.wasm_spec.proofs.Matching.{matching_is_reflexive, matching_is_transitive}
use Rattle.wasm_spec.proofs.MatchingTests.{tests_decide_matching}
use Rattle.wasm_spec_instructions.specs.ValueTypes.{IsInOrder}
use Rattle.wasm_spec_instructions.specs.Laws.{WorldsAreInOrder}
use Rattle.wasm_spec_instructions.proofs.Attempts.{the_same, absent}

module _ {R : Type 0} (W : World R) (w : IsWorld W) (k : (a : R) → KeepsKind W.declared a) where
  keeps : (h : Heap R) → All (KeepsKind W.declared) (refs_heap h)
  keeps h n d l = k (slice_index_or (refs_heap h) n d)

  alone : (a b : R) (n : ℕ) → W.declared a ≡ None → ancestor_at W.declared n a ≡ Some b → a ≡ b
  alone a b zero e m = the_same a b m
  alone a b (suc n) e m = absurd (absent b (sym (ap (λ (o : Option (Sub R)). option_and_then (ancestor_at W.declared n) (option_and_then supertype o)) e) ∙ m))

  ancestor-shares : (a b : R) → IsAncestor W.declared a b → shared_flag (W.declared a) ≡ shared_flag (W.declared b)
  ancestor-shares a b m = go (W.declared a) refl
    where
      go : (o : Option (Sub R)) → W.declared a ≡ o → shared_flag (W.declared a) ≡ shared_flag (W.declared b)
      go None e = ap (λ (x : R). shared_flag (W.declared x)) (alone a b m.steps e m.leads)
      go (Some s) e = let l : IsLike W.declared b s = k a b s m e in ap shared_flag e ∙ sym l.same_shared ∙ sym (ap shared_flag l.declares)

  shares : (h j : Heap R) → MatchesHeap W.declared h j → is_shared_heap W.declared h ≡ is_shared_heap W.declared j
  shares (abstract_heap s a) (abstract_heap t b) m = m.0
  shares (abstract_heap s a) (concrete b) m = sym m.same_shared ∙ sym (ap shared_flag m.declares)
  shares (abstract_heap s a) (exact b) m = sym m.same_shared ∙ sym (ap shared_flag m.declares)
  shares (concrete a) (abstract_heap t b) m = ap shared_flag m.declares ∙ m.same_shared
  shares (concrete a) (concrete b) m = ancestor-shares a b m
  shares (concrete a) (exact b) m = absurd m
  shares (exact a) (abstract_heap t b) m = ap shared_flag m.declares ∙ m.same_shared
  shares (exact a) (concrete b) m = ancestor-shares a b m
  shares (exact a) (exact b) m = ap (λ (x : R). shared_flag (W.declared x)) m

  pub in_order : IsInOrder W
  in_order = record {
    itself = λ h. (tests_decide_matching.heap_types W w h h).1 (matching_is_reflexive.heap_types W.declared h);
    through = λ h j l e f.
        (tests_decide_matching.heap_types W w h l).1
        (matching_is_transitive.heap_types W.declared h j l (keeps h) (keeps j) ((tests_decide_matching.heap_types W w h j).0 e) ((tests_decide_matching.heap_types W w j l).0 f));
    sharing = λ h j e. shares h j ((tests_decide_matching.heap_types W w h j).0 e);
  }

pub worlds_are_in_order : (R : Type 0) → WorldsAreInOrder R
worlds_are_in_order R W w k = in_order W w k
