-- The numbers of proper ancestors of types, each at the place of its id.
use Rattle.std.proofs.Common.{◌≡◌, ◌≢◌, refl, sym, ap, ◌∙◌, ℕ, zero, suc, ◌+◌, ◌<◌, ◌≤◌, Bool, true, false, true≢false, cond, nat_eq, ◌⊎◌, inl, inr, List, [], ◌∷◌, length, get_or, Option, Some, None, arith}
use Rattle.std.specs.Map.{lookup}
use Rattle.std.specs.FinMap as map
use Rattle.std.specs.Ordering.{nat_cmp, eq_by_cmp}
use Rattle.std.specs.Cmp.{unsigned_tied, nat_eq_equiv, nat_cmp_total}
use Rattle.std.proofs.Math.ListN.{set}
use Rattle.std.proofs.lemmas.Bool.Decides.{Decides-eqb}
use Rattle.std.proofs.lemmas.Option.{slice_get-get_or}
use Rattle.std.proofs.lemmas.List.{get_or-set_same, get_or-set_other, get_or_past}
use Rattle.wasm_validator_type_ancestors.specs.Depths.{depth_of, with_depth, in_order}
use Rattle.wasm_validator_type_ancestors.specs.NotedDepths.{kept_at, kept_from, kept_in, SameKept, IsNoted}

nothing : {X : Type 0} (xs : List X) → length xs ≡ 0 → xs ≡ []
nothing [] e = refl
nothing (x ∷ xs) e = absurd (omega (arith, e))

-- what a map keeps, in order
found-entry : (es : List (ℕ × ℕ)) (id : ℕ) → depth_of es id ≡ lookup (nat_eq id) es
found-entry [] id = refl
found-entry (e ∷ es) id = λ i. cond (unsigned_tied id e.0 i) (Some e.1) (found-entry es id i)

found-in_order : (es : List (ℕ × ℕ)) (id : ℕ) → depth_of (in_order es) id ≡ lookup (nat_eq id) es
found-in_order es id = sym (map.get-entries (map.from_entries {R = nat_cmp} es) id) ∙ map.get-from_entries nat_cmp_total es id ∙ found-entry es id

in_order-none : in_order [] ≡ []
in_order-none = nothing (in_order []) (sym (map.len-entries (map.empty {R = nat_cmp})) ∙ map.len-empty nat_cmp ℕ)

in_order-put : (es fs : List (ℕ × ℕ)) (id n : ℕ) → ((q : ℕ) → lookup (nat_eq q) fs ≡ cond (nat_eq id q) (Some n) (lookup (nat_eq q) es)) → in_order fs ≡ with_depth (in_order es) id n
in_order-put es fs id n h =
    let m = map.from_entries {R = nat_cmp} es in
    let tied : (q : ℕ) → nat_eq id q ≡ eq_by_cmp nat_cmp q id = λ q. nat_eq_equiv.symm id q ∙ sym (unsigned_tied q id) in
    ap map.entries (map.same_map nat_cmp_total map.nat_cmp-IsAntisymmetric (map.from_entries fs) (map.insert m id n)
    (λ q. map.get-from_entries nat_cmp_total fs q ∙ found-entry fs q ∙ h q ∙ (λ i. cond (tied q i) (Some n) (sym (map.get-from_entries nat_cmp_total es q ∙ found-entry es q) i)) ∙ sym (map.get-insert nat_cmp_total m id n q)))
    ∙ map.entries-insert nat_cmp_total m id n

-- two numbers are the same or not
apart : (b : Bool) → (b ≡ true) ⊎ (b ≡ false)
apart true = inl refl
apart false = inr refl

not_same : (m n : ℕ) (b : Bool) → nat_eq m n ≡ b → m ≢ n → b ≡ false
not_same m n true e h = absurd (h ((Decides-eqb m n).0 e))
not_same m n false e h = refl

differ : (m n : ℕ) → nat_eq m n ≡ false → m ≢ n
differ m n e h = absurd (true≢false (sym ((Decides-eqb m n).1 h) ∙ e))

none_at : (place : ℕ) → kept_at [] place ≡ None
none_at zero = refl
none_at (suc place) = refl

-- no id before the first one is there
found-before : (ds : List (Option ℕ)) (from id : ℕ) → id < from → lookup (nat_eq id) (kept_from from ds) ≡ None
found-before [] from id l = refl
found-before (None ∷ ds) from id l = found-before ds (suc from) id (omega (arith, l))
found-before (Some n ∷ ds) from id l =
    let apart_from : nat_eq id from ≡ false = not_same id from (nat_eq id from) refl (λ e. absurd (omega (arith, l, e))) in
    ap (λ b. cond b (Some n) (lookup (nat_eq id) (kept_from (suc from) ds))) apart_from ∙ found-before ds (suc from) id (omega (arith, l))

found-from : (ds : List (Option ℕ)) (from place id : ℕ) → id ≡ from + place → lookup (nat_eq id) (kept_from from ds) ≡ kept_at ds place
found-from [] from place id e = sym (none_at place)
found-from (None ∷ ds) from zero id e = found-before ds (suc from) id (omega (arith, e))
found-from (None ∷ ds) from (suc place) id e = found-from ds (suc from) place id (omega (arith, e))
found-from (Some n ∷ ds) from zero id e =
    let here : nat_eq id from ≡ true = (Decides-eqb id from).1 (omega (arith, e)) in
    ap (λ b. cond b (Some n) (lookup (nat_eq id) (kept_from (suc from) ds))) here
found-from (Some n ∷ ds) from (suc place) id e =
    let there : nat_eq id from ≡ false = not_same id from (nat_eq id from) refl (λ f. absurd (omega (arith, e, f))) in
    ap (λ b. cond b (Some n) (lookup (nat_eq id) (kept_from (suc from) ds))) there ∙ found-from ds (suc from) place id (omega (arith, e))

-- what is found of an id is what is kept at its place
found-kept : (ds : List (Option ℕ)) (id : ℕ) → lookup (nat_eq id) (kept_in ds) ≡ kept_at ds id
found-kept ds id = found-from ds 0 id id (omega arith)

pub read_kept : (ds : List (Option ℕ)) (depths : List (ℕ × ℕ)) (place id : ℕ) (o : Option ℕ) → in_order (kept_in ds) ≡ depths → place ≡ id → o ≡ kept_at ds place → o ≡ depth_of depths id
read_kept ds depths place id o v p e =
    e ∙ ap (kept_at ds) p ∙ sym (found-kept ds id) ∙ sym (found-in_order (kept_in ds) id) ∙ ap (λ xs. depth_of xs id) v

pub ruleset reads = (read_kept)

-- none, and one more
pub none_kept : (ds : List (Option ℕ)) → ds ≡ [] → in_order (kept_in ds) ≡ []
none_kept ds e = ap (λ xs. in_order (kept_in xs)) e ∙ in_order-none

pub ruleset starts = (none_kept)

pub one_put : (old new : List (Option ℕ)) (depths : List (ℕ × ℕ)) (id n : ℕ) → in_order (kept_in old) ≡ depths → IsNoted old new id n → in_order (kept_in new) ≡ with_depth depths id n
one_put old new depths id n v h =
    in_order-put (kept_in old) (kept_in new) id n (λ q. found-kept new q ∙ h q ∙ ap (λ o. cond (nat_eq id q) (Some n) o) (sym (found-kept old q)))
    ∙ ap (λ xs. with_depth xs id n) v

pub same_put : (old new : List (Option ℕ)) (depths : List (ℕ × ℕ)) → in_order (kept_in old) ≡ depths → new ≡ old → in_order (kept_in new) ≡ depths
same_put old new depths v e = ap (λ xs. in_order (kept_in xs)) e ∙ v

pub ruleset notes = (one_put, same_put)

pub one_noted : (old ds : List (Option ℕ)) (place n : ℕ) → SameKept old ds → place < length ds → IsNoted old (set ds place (Some n)) place n
one_noted old ds place n h l other =
    elim (apart (nat_eq place other)) [
      | inl e ↦ let q : place ≡ other = (Decides-eqb place other).0 e in
          rw e (ap (λ i. get_or (set ds place (Some n)) i None) (sym q) ∙ get_or-set_same ds place (Some n) None l)
      | inr e ↦ rw e (get_or-set_other ds place other (Some n) None (λ q. differ place other e (sym q)) ∙ h other)
    ]

pub ruleset notes_places = (one_noted)

pub read_within : (ds : List (Option ℕ)) (place : ℕ) (o : Option ℕ) → o ≡ get_or ds place o → place < length ds → o ≡ kept_at ds place
read_within ds place o e l =
    let p = slice_get-get_or ds place o l in
    let q = slice_get-get_or ds place None l in
    cc

pub read_past : (ds : List (Option ℕ)) (place : ℕ) → length ds ≤ place → None ≡ kept_at ds place
read_past ds place l = sym (get_or_past ds place None l)

pub ruleset reads_places = (read_within, read_past)

pub ruleset reaches = (get_or_past)
