-- The tests of matching decide it.
use Rattle.std.proofs.Common.{◌≡◌, refl, sym, ap, ◌∙◌, subst, ◌<◌, Bool, true, false, true≢false, ◌||◌, List, [], ◌∷◌, slice_index_or, Option, Some, None, arith}
use Rattle.std.specs.Prelude.{IsTrue, ⊤}
use Rattle.std.specs.Bool.{Decides}
use Rattle.std.specs.List.{list_any, list_all, AllByRecursion}
use Rattle.std.proofs.lemmas.Bool.{eqb-true}
use Rattle.std.proofs.lemmas.Bool.Decides.{Decides-and}
use Rattle.std.proofs.lemmas.List.Sums.{AllPass-from_list_all}
use Rattle.wasm_spec.specs.Syntax.{AbstractHeap, any_heap, eq_heap, i31_heap, struct_heap, array_heap, none_heap, func_heap, nofunc_heap, extern_heap, noextern_heap, exn_heap, noexn_heap, cont_heap, nocont_heap, Heap, abstract_heap, concrete, exact, Ref, Val, i32, i64, f32, f64, v128, reference, Sub}
use Rattle.wasm_spec.specs.ValueTypes.{implies}
use Rattle.wasm_spec.specs.Matching.{AbstractRule, none-i31, none-struct, none-array, i31-eq, struct-eq, array-eq, eq-any, nofunc-func, noextern-extern, noexn-exn, nocont-cont, MatchesAbstract, itself, further, kind_of, bottom_of, MatchesKind, IsAboveBottom, MatchesHeap, MatchesRef, MatchesVal}
use Rattle.wasm_spec.specs.MatchingTests.{World, IsWorld, abstract_heaps, number_of, same_abstract, and_above, matches_abstract, same_flag, matches_kind, is_above_bottom, matches_heap, matches_ref, matches_val}
use Rattle.wasm_spec.specs.TypeLaws.{TestsDecideMatching}

-- abstract heap types by their numbers
numbered : (a d : AbstractHeap) → slice_index_or abstract_heaps (number_of a) d ≡ a
numbered any_heap d = refl
numbered eq_heap d = refl
numbered i31_heap d = refl
numbered struct_heap d = refl
numbered array_heap d = refl
numbered none_heap d = refl
numbered func_heap d = refl
numbered nofunc_heap d = refl
numbered extern_heap d = refl
numbered noextern_heap d = refl
numbered exn_heap d = refl
numbered noexn_heap d = refl
numbered cont_heap d = refl
numbered nocont_heap d = refl

number_below : (a : AbstractHeap) → number_of a < 14
number_below any_heap = omega arith
number_below eq_heap = omega arith
number_below i31_heap = omega arith
number_below struct_heap = omega arith
number_below array_heap = omega arith
number_below none_heap = omega arith
number_below func_heap = omega arith
number_below nofunc_heap = omega arith
number_below extern_heap = omega arith
number_below noextern_heap = omega arith
number_below exn_heap = omega arith
number_below noexn_heap = omega arith
number_below cont_heap = omega arith
number_below nocont_heap = omega arith

same_abstract-refl : (a : AbstractHeap) → same_abstract a a ≡ true
same_abstract-refl any_heap = refl
same_abstract-refl eq_heap = refl
same_abstract-refl i31_heap = refl
same_abstract-refl struct_heap = refl
same_abstract-refl array_heap = refl
same_abstract-refl none_heap = refl
same_abstract-refl func_heap = refl
same_abstract-refl nofunc_heap = refl
same_abstract-refl extern_heap = refl
same_abstract-refl noextern_heap = refl
same_abstract-refl exn_heap = refl
same_abstract-refl noexn_heap = refl
same_abstract-refl cont_heap = refl
same_abstract-refl nocont_heap = refl

same_abstract-decides : (a b : AbstractHeap) → Decides (same_abstract a b) (a ≡ b)
same_abstract-decides a b = (
  (λ e. sym (numbered a any_heap) ∙ ap (λ n. slice_index_or abstract_heaps n any_heap) (eqb-true (number_of a) (number_of b) e) ∙ numbered b any_heap),
  (λ e. subst (λ x. same_abstract a x ≡ true) e (same_abstract-refl a)),
)

-- what holds of every abstract heap type by computation
everywhere : (p : AbstractHeap → Bool) → list_all p abstract_heaps ≡ true → (a : AbstractHeap) → p a ≡ true
everywhere p e a = subst (λ x. p x ≡ true) (numbered a any_heap) (AllPass-from_list_all p abstract_heaps e (number_of a) any_heap (number_below a))

implied : (a b : Bool) → implies a b ≡ true → a ≡ true → b ≡ true
implied true b e f = e
implied false b e f = absurd (true≢false (sym f))

rule_kept : {a b : AbstractHeap} → AbstractRule a b → (c : AbstractHeap) → implies (matches_abstract b c) (matches_abstract a c) ≡ true
rule_kept none-i31 c = everywhere (λ x. implies (matches_abstract i31_heap x) (matches_abstract none_heap x)) refl c
rule_kept none-struct c = everywhere (λ x. implies (matches_abstract struct_heap x) (matches_abstract none_heap x)) refl c
rule_kept none-array c = everywhere (λ x. implies (matches_abstract array_heap x) (matches_abstract none_heap x)) refl c
rule_kept i31-eq c = everywhere (λ x. implies (matches_abstract eq_heap x) (matches_abstract i31_heap x)) refl c
rule_kept struct-eq c = everywhere (λ x. implies (matches_abstract eq_heap x) (matches_abstract struct_heap x)) refl c
rule_kept array-eq c = everywhere (λ x. implies (matches_abstract eq_heap x) (matches_abstract array_heap x)) refl c
rule_kept eq-any c = everywhere (λ x. implies (matches_abstract any_heap x) (matches_abstract eq_heap x)) refl c
rule_kept nofunc-func c = everywhere (λ x. implies (matches_abstract func_heap x) (matches_abstract nofunc_heap x)) refl c
rule_kept noextern-extern c = everywhere (λ x. implies (matches_abstract extern_heap x) (matches_abstract noextern_heap x)) refl c
rule_kept noexn-exn c = everywhere (λ x. implies (matches_abstract exn_heap x) (matches_abstract noexn_heap x)) refl c
rule_kept nocont-cont c = everywhere (λ x. implies (matches_abstract cont_heap x) (matches_abstract nocont_heap x)) refl c

tested : {a b : AbstractHeap} → MatchesAbstract a b → matches_abstract a b ≡ true
tested {a} itself = everywhere (λ x. matches_abstract x x) refl a
tested {a} {b} (further {b = m} s p) = implied (matches_abstract m b) (matches_abstract a b) (rule_kept s b) (tested p)

-- and every type of the list is above
above_matches : (a : AbstractHeap) → AllByRecursion (MatchesAbstract a) (and_above a)
above_matches any_heap = (itself, tt)
above_matches eq_heap = (itself, (further eq-any itself, tt))
above_matches i31_heap = (itself, (further i31-eq itself, (further i31-eq (further eq-any itself), tt)))
above_matches struct_heap = (itself, (further struct-eq itself, (further struct-eq (further eq-any itself), tt)))
above_matches array_heap = (itself, (further array-eq itself, (further array-eq (further eq-any itself), tt)))
above_matches none_heap = (itself, (further none-i31 itself, (further none-struct itself, (further none-array itself, (further none-i31 (further i31-eq itself), (further none-i31 (further i31-eq (further eq-any itself)), tt))))))
above_matches func_heap = (itself, tt)
above_matches nofunc_heap = (itself, (further nofunc-func itself, tt))
above_matches extern_heap = (itself, tt)
above_matches noextern_heap = (itself, (further noextern-extern itself, tt))
above_matches exn_heap = (itself, tt)
above_matches noexn_heap = (itself, (further noexn-exn itself, tt))
above_matches cont_heap = (itself, tt)
above_matches nocont_heap = (itself, (further nocont-cont itself, tt))

one_here : (P : AbstractHeap → Type 0) (x b : AbstractHeap) (c rest : Bool) → same_abstract x b ≡ c → P x → (rest ≡ true → P b) → (c || rest) ≡ true → P b
one_here P x b true rest f h g e = subst P ((same_abstract-decides x b).0 f) h
one_here P x b false rest f h g e = g e

one_of : (P : AbstractHeap → Type 0) (b : AbstractHeap) (xs : List AbstractHeap) → AllByRecursion P xs → list_any (λ x. same_abstract x b) xs ≡ true → P b
one_of P b [] h e = absurd (true≢false (sym e))
one_of P b (x ∷ xs) h e = one_here P x b (same_abstract x b) (list_any (λ y. same_abstract y b) xs) refl h.0 (one_of P b xs h.1) e

abstract-decides : (a b : AbstractHeap) → Decides (matches_abstract a b) (MatchesAbstract a b)
abstract-decides a b = ((λ e. one_of (MatchesAbstract a) b (and_above a) (above_matches a) e), tested)

flag-decides : (a b : Bool) → Decides (same_flag a b) (a ≡ b)
flag-decides true true = ((λ e. refl), (λ e. refl))
flag-decides true false = ((λ e. absurd (true≢false (sym e))), (λ e. sym e))
flag-decides false true = ((λ e. absurd (true≢false (sym e))), (λ e. absurd (true≢false (sym e))))
flag-decides false false = ((λ e. refl), (λ e. refl))

null-decides : (a b : Bool) → Decides (implies a b) (IsTrue a → IsTrue b)
null-decides true b = ((λ e _. e), (λ f. f refl))
null-decides false b = ((λ _ e. absurd (true≢false (sym e))), (λ _. refl))

module _ {R : Type 0} (W : World R) (w : IsWorld W) where
  -- what is declared at a, as a variable
  kind-tested : (a : R) (shared : Bool) (k : AbstractHeap) (o : Option (Sub R)) → W.declared a ≡ o → matches_kind shared k o ≡ true → MatchesKind W.declared a shared k
  kind-tested a shared k None e f = absurd (true≢false (sym f))
  kind-tested a shared k (Some s) e f =
      let h = (Decides-and (same_flag s.shared shared) (matches_abstract (kind_of s.comp) k) (flag-decides s.shared shared) (abstract-decides (kind_of s.comp) k)).0 f in
      record { sub = s; declares = e; same_shared = h.0; matches = h.1 }

  kind-decides : (a : R) (shared : Bool) (k : AbstractHeap) → Decides (matches_kind shared k (W.declared a)) (MatchesKind W.declared a shared k)
  kind-decides a shared k = (
    kind-tested a shared k (W.declared a) refl,
    (λ m. ap (matches_kind shared k) m.declares
        ∙ (Decides-and (same_flag m.sub.shared shared) (matches_abstract (kind_of m.sub.comp) k) (flag-decides m.sub.shared shared) (abstract-decides (kind_of m.sub.comp) k)).1 (m.same_shared, m.matches)),
  )

  bottom-tested : (a : R) (shared : Bool) (k : AbstractHeap) (o : Option (Sub R)) → W.declared a ≡ o → is_above_bottom shared k o ≡ true → IsAboveBottom W.declared a shared k
  bottom-tested a shared k None e f = absurd (true≢false (sym f))
  bottom-tested a shared k (Some s) e f =
      let h = (Decides-and (same_flag s.shared shared) (same_abstract (bottom_of s.comp) k) (flag-decides s.shared shared) (same_abstract-decides (bottom_of s.comp) k)).0 f in
      record { sub = s; declares = e; same_shared = h.0; is_bottom = h.1 }

  bottom-decides : (a : R) (shared : Bool) (k : AbstractHeap) → Decides (is_above_bottom shared k (W.declared a)) (IsAboveBottom W.declared a shared k)
  bottom-decides a shared k = (
    bottom-tested a shared k (W.declared a) refl,
    (λ m. ap (is_above_bottom shared k) m.declares
        ∙ (Decides-and (same_flag m.sub.shared shared) (same_abstract (bottom_of m.sub.comp) k) (flag-decides m.sub.shared shared) (same_abstract-decides (bottom_of m.sub.comp) k)).1 (m.same_shared, m.is_bottom)),
  )

  never-decides : {P : Type 0} → (P → ⊥) → Decides false P
  never-decides h = ((λ e. absurd (true≢false (sym e))), (λ p. absurd (h p)))

  always-decides : Decides true ⊤
  always-decides = ((λ e. tt), (λ p. refl))

  heap-decides : (h k : Heap R) → Decides (matches_heap W h k) (MatchesHeap W.declared h k)
  heap-decides (abstract_heap s i) (abstract_heap t j) = Decides-and (same_flag s t) (matches_abstract i j) (flag-decides s t) (abstract-decides i j)
  heap-decides (abstract_heap s i) (concrete b) = bottom-decides b s i
  heap-decides (abstract_heap s i) (exact b) = bottom-decides b s i
  heap-decides (concrete a) (abstract_heap t j) = kind-decides a t j
  heap-decides (concrete a) (concrete b) = w.below a b
  heap-decides (concrete a) (exact b) = never-decides (λ p. p)
  heap-decides (exact a) (abstract_heap t j) = kind-decides a t j
  heap-decides (exact a) (concrete b) = w.below a b
  heap-decides (exact a) (exact b) = w.same a b

  ref-decides : (r s : Ref R) → Decides (matches_ref W r s) (MatchesRef W.declared r s)
  ref-decides r s = Decides-and (implies r.nullable s.nullable) (matches_heap W r.heap s.heap) (null-decides r.nullable s.nullable) (heap-decides r.heap s.heap)

  val-decides : (x y : Val R) → Decides (matches_val W x y) (MatchesVal W.declared x y)
  val-decides i32 i32 = always-decides
  val-decides i64 i64 = always-decides
  val-decides f32 f32 = always-decides
  val-decides f64 f64 = always-decides
  val-decides v128 v128 = always-decides
  val-decides (reference r) (reference s) = ref-decides r s
  val-decides x y = never-decides (λ p. p)

pub tests_decide_matching : {R : Type 0} → TestsDecideMatching R
tests_decide_matching = record { abstract_types = abstract-decides; heap_types = heap-decides; reference_types = ref-decides; value_types = val-decides }
