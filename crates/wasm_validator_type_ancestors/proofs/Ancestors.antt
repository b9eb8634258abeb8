-- What entries say of the ancestors of types.
use Rattle.std.proofs.Common.{◌≡◌, refl, sym, ap, subst, ◌∙◌, ⊎_elim, ℕ, zero, suc, ◌+◌, ◌-◌, ◌<◌, ◌≤◌, Bool, false, List, slice_get, Option, Some, None, arith}
use Rattle.std.specs.Bool.{Decides}
use Rattle.std.specs.Option.{option_and_then}
use Rattle.std.proofs.lemmas.Bool.{cases_lt}
use Rattle.wasm_validator_type_groups.specs.WasmSpec.Syntax.{Sub}
use Rattle.wasm_validator_type_groups.specs.WasmSpec.SupertypeOrder.{supertype_of, ancestor_at, IsAncestor, IsDepth}
use Rattle.wasm_validator_type_groups.proofs.Places.{get-map}
use Rattle.wasm_validator_type_ancestors.specs.declared.entries.Entry.{Entry}
use Rattle.wasm_validator_type_ancestors.specs.Supers.{Tells}
use Rattle.wasm_validator_type_ancestors.specs.ReadCounts.{Counts}
use Rattle.wasm_validator_type_ancestors.specs.Entries.{super_in, supers_of, Extends, AreEntries}
use Rattle.wasm_validator_type_ancestors.proofs.Growth.{super_none, super_more, linked-is}
use Rattle.wasm_validator_type_ancestors.proofs.Chains.{depth_through, not_above, counts-not_above, listed-decides, counts-listed}

module _ (es : List Entry) (xs : List ℕ) (h : AreEntries es xs) (D : ℕ → Option (Sub ℕ)) (tells : Tells (supers_of xs es) D) where
  supertype_by : (id : ℕ) (e : Entry) → slice_get es id ≡ Some e → supertype_of D id ≡ super_in xs e
  supertype_by id e r = tells id ∙ ap (option_and_then (λ o. o)) (get-map (super_in xs) es id e r)

  pub top_by : (id : ℕ) (e : Entry) → slice_get es id ≡ Some e → e.count ≡ 0 → supertype_of D id ≡ None
  top_by id e r z = supertype_by id e r ∙ super_none xs e z

  module _ (id : ℕ) (e : Entry) (r : slice_get es id ≡ Some e) (x : Extends es xs id e) where
    parent_by : supertype_of D id ≡ Some x.parent
    parent_by = supertype_by id e r ∙ super_more xs x.parent x.entry e x.more

    ancestor_up : (n : ℕ) → ancestor_at D (suc n) id ≡ ancestor_at D n x.parent
    ancestor_up n = ap (option_and_then (ancestor_at D n)) parent_by

    depth_up : (n : ℕ) → IsDepth D x.parent n → IsDepth D id (suc n)
    depth_up n d = record { top = d.top; leads = ancestor_up n ∙ d.leads; is_top = d.is_top }

    -- the end of the list, and what stands before it
    last_up : (j : ℕ) → x.entry.count < 63 → j ≡ x.entry.count → slice_get xs (e.start + j) ≡ ancestor_at D (suc x.entry.count - j) id
    last_up j l at =
        let one : 1 ≡ suc x.entry.count - j = omega (arith, at) in
        ap (λ i. slice_get xs (e.start + i)) at ∙ x.more.last l ∙ sym (ancestor_up 0) ∙ ap (λ i. ancestor_at D i id) one

    front_up : (j : ℕ) → x.entry.count < 63 → j < x.entry.count → slice_get xs (x.entry.start + j) ≡ ancestor_at D (x.entry.count - j) x.parent → slice_get xs (e.start + j) ≡ ancestor_at D (suc x.entry.count - j) id
    front_up j l k up =
        let s = x.more.front l j k in
        let steps : suc (x.entry.count - j) ≡ suc x.entry.count - j = omega (arith, k) in
        s.here ∙ sym s.there ∙ up ∙ sym (ancestor_up (x.entry.count - j)) ∙ ap (λ i. ancestor_at D i id) steps

  -- the number of proper ancestors
  pub depth_by : (n id : ℕ) (e : Entry) → slice_get es id ≡ Some e → e.count ≡ n → IsDepth D id n
  depth_by zero id e r c = record { top = id; leads = refl; is_top = top_by id e r c }
  depth_by (suc n) id e r c =
      let x = h.each id e r (omega (arith, c)) in
      depth_up id e r x n (depth_by n x.parent x.entry x.there (omega (arith, x.more.count, c)))

  -- the list, from the topmost down
  pub listed_by : (n id : ℕ) (e : Entry) (j : ℕ) → slice_get es id ≡ Some e → e.count ≡ n → n ≤ 63 → j < n → slice_get xs (e.start + j) ≡ ancestor_at D (n - j) id
  listed_by zero id e j r c l k = absurd (omega (arith, k))
  listed_by (suc n) id e j r c l k =
      let x = h.each id e r (omega (arith, c)) in
      let m : x.entry.count ≡ n = omega (arith, x.more.count, c) in
      subst (λ (i : ℕ). slice_get xs (e.start + j) ≡ ancestor_at D (suc i - j) id) m
      (⊎_elim
      (λ (less : j < n). front_up id e r x j (omega (arith, m, l)) (omega (arith, m, less)) (subst (λ (i : ℕ). slice_get xs (x.entry.start + j) ≡ ancestor_at D (i - j) x.parent) (sym m) (listed_by n x.parent x.entry j x.there m (omega (arith, l)) less)))
      (λ (more : n ≤ j). last_up id e r x j (omega (arith, m, l)) (omega (arith, m, more, k)))
      (cases_lt j n))

  -- the supertype of a type without a list
  pub linked_by : (id : ℕ) (e : Entry) → slice_get es id ≡ Some e → 63 < e.count → supertype_of D id ≡ Some e.start
  linked_by id e r l = parent_by id e r (h.each id e r (omega (arith, l))) ∙ ap Some (sym (linked-is es xs h id e r l))

  -- a type without a list has many proper ancestors, and each type that leads to it has more
  pub many_by : (from links id n : ℕ) (e : Entry) → slice_get es id ≡ Some e → 63 < e.count → ancestor_at D links from ≡ Some id → IsDepth D from n → 63 < n
  many_by from links id n e r l leads d = let k : n ≡ links + e.count = depth_through D from id links n e.count d (depth_by e.count id e r refl) leads in omega (arith, k, l)

  -- two types, of which the first has a list
  module _ (id to : ℕ) (e f : Entry) (r : slice_get es id ≡ Some e) (s : slice_get es to ≡ Some f) (other : id ≡ to → ⊥) where
    pub missed : e.count ≤ f.count → Decides false (IsAncestor D id to)
    missed l = not_above D id to e.count f.count (depth_by e.count id e r refl) (depth_by f.count to f s refl) l other

    pub missed-counts : (old : ℕ) → e.count ≤ f.count → Counts D id to old old
    missed-counts old l = counts-not_above D id to e.count f.count (depth_by e.count id e r refl) (depth_by f.count to f s refl) old l

    pub looked_up : (x : ℕ) (b : Bool) → e.count ≤ 63 → f.count < e.count → slice_get xs (e.start + f.count) ≡ Some x → Decides b (x ≡ to) → Decides b (IsAncestor D id to)
    looked_up x b few l there d =
        listed-decides D id to e.count f.count (depth_by e.count id e r refl) (depth_by f.count to f s refl) x b l (sym (listed_by e.count id e f.count r refl few l) ∙ there) d

    pub looked_up-counts : (old new : ℕ) → f.count < e.count → new ≡ old + 1 → Counts D id to old new
    looked_up-counts old new l c = counts-listed D id to e.count f.count (depth_by e.count id e r refl) (depth_by f.count to f s refl) old new other l c
