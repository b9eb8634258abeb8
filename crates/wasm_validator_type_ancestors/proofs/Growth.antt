-- Entries, as the store and the list of them grow.
use Rattle.std.proofs.Common.{◌≡◌, refl, sym, ap, subst, ◌∙◌, ⊎_elim, ℕ, zero, suc, ◌+◌, ◌<◌, ◌≤◌, Bool, List, [], ◌∷◌, ◌++◌, map, length, slice_get, Option, Some, None, arith}
use Rattle.std.specs.Prelude.{if◌then◌else◌}
use Rattle.std.proofs.lemmas.Bool.{cases_lt, lt-ltb, le-ltb}
use Rattle.std.proofs.lemmas.List.{map_push}
use Rattle.std.proofs.lemmas.Option.{slice_get_within}
use Rattle.wasm_validator_type_groups.proofs.Places.{get-push}
use Rattle.wasm_validator_type_ancestors.specs.declared.entries.Entry.{Entry}
use Rattle.wasm_validator_type_ancestors.specs.Entries.{super_by, super_in, supers_of, IsOneMore, Extends, AreEntries, IsNext, IsKept, AreCopied}
use Rattle.wasm_validator_type_ancestors.proofs.Store.{still-there, same-kept}

-- the supertype that an entry tells
pub super_none : (xs : List ℕ) (e : Entry) → e.count ≡ 0 → super_in xs e ≡ None
super_none xs e z = ap (super_by xs e.start) z

pub super_more : (xs : List ℕ) (parent : ℕ) (entry e : Entry) → IsOneMore xs parent entry e → super_in xs e ≡ Some parent
super_more xs parent entry e h =
    let n : e.count ≡ suc entry.count = omega (arith, h.count) in
    ap (super_by xs e.start) n
    ∙ ⊎_elim
    (λ (less : entry.count < 63). ap (λ (b : Bool). if b then slice_get xs (e.start + entry.count) else Some e.start) (lt-ltb entry.count 63 less) ∙ h.last less)
    (λ (more : 63 ≤ entry.count). ap (λ (b : Bool). if b then slice_get xs (e.start + entry.count) else Some e.start) (le-ltb entry.count 63 more) ∙ ap Some (h.linked more))
    (cases_lt entry.count 63)

-- as the store grows
pub one_more-kept : (xs ys : List ℕ) (parent : ℕ) (entry e : Entry) → IsKept xs ys → IsOneMore xs parent entry e → IsOneMore ys parent entry e
one_more-kept xs ys parent entry e k h = record {
  count = h.count;
  last = λ l. k.each (e.start + entry.count) parent (h.last l);
  front = λ l j i. same-kept xs ys (e.start + j) (entry.start + j) k (h.front l j i);
  linked = h.linked;
}

extends-kept : (es : List Entry) (xs ys : List ℕ) (id : ℕ) (e : Entry) → IsKept xs ys → Extends es xs id e → Extends es ys id e
extends-kept es xs ys id e k h = record { parent = h.parent; entry = h.entry; there = h.there; before = h.before; more = one_more-kept xs ys h.parent h.entry e k h.more }

pub entries-kept : (es : List Entry) (xs ys : List ℕ) → IsKept xs ys → AreEntries es xs → AreEntries es ys
entries-kept es xs ys k h = record { each = λ id e r p. extends-kept es xs ys id e k (h.each id e r p) }

super-kept : (es : List Entry) (xs ys : List ℕ) (id : ℕ) (e : Entry) → IsKept xs ys → AreEntries es xs → slice_get es id ≡ Some e → super_in ys e ≡ super_in xs e
super-kept es xs ys id e k h r =
    ⊎_elim
    (λ (some : 0 < e.count).
    let x = h.each id e r some in
    super_more ys x.parent x.entry e (one_more-kept xs ys x.parent x.entry e k x.more) ∙ sym (super_more xs x.parent x.entry e x.more))
    (λ (none : e.count ≤ 0). let z : e.count ≡ 0 = omega (arith, none) in super_none ys e z ∙ sym (super_none xs e z))
    (cases_lt 0 e.count)

same_mapped : {X Y : Type 0} (f g : X → Y) (xs : List X) → ((k : ℕ) (x : X) → slice_get xs k ≡ Some x → f x ≡ g x) → map f xs ≡ map g xs
same_mapped f g [] h = refl
same_mapped f g (x ∷ xs) h = λ i. h 0 x refl i ∷ same_mapped f g xs (λ k y e. h (suc k) y e) i

pub supers-kept : (es : List Entry) (xs ys : List ℕ) → IsKept xs ys → AreEntries es xs → supers_of ys es ≡ supers_of xs es
supers-kept es xs ys k h = same_mapped (super_in ys) (super_in xs) es (λ id e r. super-kept es xs ys id e k h r)

-- as the list of entries grows
extends-more : (es fs : List Entry) (xs : List ℕ) (id : ℕ) (e : Entry) → Extends es xs id e → Extends (es ++ fs) xs id e
extends-more es fs xs id e h = record { parent = h.parent; entry = h.entry; there = still-there es fs h.parent h.entry h.there; before = h.before; more = h.more }

pub entries-push : (es : List Entry) (xs : List ℕ) (o : Option ℕ) (e : Entry) → AreEntries es xs → IsNext es xs o e → AreEntries (es ++ e ∷ []) xs
entries-push es xs o e h n = record {
  each = λ id f r p. get-push es e id f r
      (λ old. extends-more es (e ∷ []) xs id f (h.each id f old p))
      (λ at same.
      let here = n.extends (subst (λ (g : Entry). 0 < g.count) (sym same) p) in
      extends-more es (e ∷ []) xs id f (subst (λ (i : ℕ). Extends es xs i f) (sym at) (subst (λ (g : Entry). Extends es xs (length es) g) same here)));
}

pub supers-push : (es : List Entry) (xs : List ℕ) (o : Option ℕ) (e : Entry) → IsNext es xs o e → supers_of xs (es ++ e ∷ []) ≡ supers_of xs es ++ o ∷ []
supers-push es xs o e n = map_push (super_in xs) es e ∙ ap (λ s. supers_of xs es ++ s ∷ []) n.says

-- no more proper ancestors than earlier types
pub count_below : (es : List Entry) (xs : List ℕ) → AreEntries es xs → (n id : ℕ) (e : Entry) → slice_get es id ≡ Some e → e.count ≡ n → n ≤ id
count_below es xs h zero id e r c = omega arith
count_below es xs h (suc n) id e r c =
    let x = h.each id e r (omega (arith, c)) in
    let k : n ≤ x.parent = count_below es xs h n x.parent x.entry x.there (omega (arith, x.more.count, c)) in
    omega (arith, k, x.before)

-- a list stands in the store
pub list_within : (es : List Entry) (xs : List ℕ) (id : ℕ) (e : Entry) → AreEntries es xs → slice_get es id ≡ Some e → 0 < e.count → e.count ≤ 63 → e.start + e.count ≤ length xs
list_within es xs id e h r p l =
    let x = h.each id e r p in
    let w = slice_get_within xs (e.start + x.entry.count) x.parent (x.more.last (omega (arith, x.more.count, l))) in
    omega (arith, w, x.more.count)

-- an entry whose list was copied
pub more-listed : (xs : List ℕ) (parent : ℕ) (entry e : Entry) → entry.count < 63 → e.count ≡ entry.count + 1 → slice_get xs (e.start + entry.count) ≡ Some parent → AreCopied xs entry.start e.start entry.count → IsOneMore xs parent entry e
more-listed xs parent entry e l c s f = record { count = c; last = λ k. s; front = λ k j i. f.each j i; linked = λ k. absurd (omega (arith, k, l)) }

-- what is kept in place of a list is the id of an earlier type
module _ (es : List Entry) (xs : List ℕ) (h : AreEntries es xs) (id : ℕ) (e : Entry) (r : slice_get es id ≡ Some e) (l : 63 < e.count) where
  pub linked-is : e.start ≡ (h.each id e r (omega (arith, l))).parent
  linked-is = let x = h.each id e r (omega (arith, l)) in x.more.linked (omega (arith, x.more.count, l))

  pub linked-before : e.start < id
  linked-before = let x = h.each id e r (omega (arith, l)) in omega (arith, linked-is, x.before)

  pub linked-within : e.start < length es
  linked-within = let x = h.each id e r (omega (arith, l)) in omega (arith, linked-is, slice_get_within es x.parent x.entry x.there)
