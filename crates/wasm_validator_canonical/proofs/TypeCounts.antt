-- The types of a list with those of a module, group by group.
use Rattle.std.proofs.Common.{◌≡◌, refl, sym, ap, ◌∙◌, ℕ, zero, suc, ◌+◌, ◌≤◌, Bool, true, false, ◌||◌, cond, List, [], ◌∷◌, ◌++◌, length, slice_get, Option, Some, None, arith, append_assoc, length-append, append-nil}
use Rattle.std.specs.Prelude.{fold}
use Rattle.std.proofs.lemmas.Option.{none-some, same_Some}
use Rattle.wasm_spec.specs.Trees.{RecTree, DefType, members}
use Rattle.wasm_spec.specs.Closing.{positions}
use Rattle.wasm_spec.specs.TypeLaws.{HasNoRepetition}
use Rattle.wasm_validator_type_list.proofs.WasmValidatorTypeGroups.Places.{get-append}
use Rattle.wasm_validator_type_list.proofs.DefTypes.{from-positions}
use Rattle.wasm_validator_canonical.specs.ListPlaces.{is_same, place_of}
use Rattle.wasm_validator_canonical.specs.Groups.{placed, held_at, held}
use Rattle.wasm_validator_canonical.specs.DistinctTypes.{AreApart}
use Rattle.wasm_validator_canonical.specs.TypeTotals.{has_type, with_type, with_types, AreWith}
use Rattle.wasm_validator_canonical.proofs.TypePlaces.{is_same-exact, found_stand}
use Rattle.wasm_spec.proofs.AcceptedSections.{length-positions}
use Rattle.wasm_validator_canonical.proofs.DistinctLists.{not_in}

or_left : (a b : Bool) → a ≡ true → (a || b) ≡ true
or_left true b e = refl
or_left false b e = absurd cc

or_right : (a b : Bool) → b ≡ true → (a || b) ≡ true
or_right true b e = refl
or_right false b e = e

or_either : {P : Type 0} (a b : Bool) → (a || b) ≡ true → (a ≡ true → P) → (b ≡ true → P) → P
or_either true b e f g = f refl
or_either false b e f g = g e

-- what is in a list
has_there : (us : List DefType) (j : ℕ) (d : DefType) → slice_get us j ≡ Some d → has_type us d ≡ true
has_there [] j d e = absurd (none-some d e)
has_there (u ∷ us) zero d e = or_left (is_same u d) (has_type us d) ((is_same-exact u d).1 (same_Some u d e))
has_there (u ∷ us) (suc j) d e = or_right (is_same u d) (has_type us d) (has_there us j d e)

there_has : (us : List DefType) (d : DefType) → has_type us d ≡ true → (j : ℕ) × (slice_get us j ≡ Some d)
there_has [] d e = absurd cc
there_has (u ∷ us) d e =
    or_either (is_same u d) (has_type us d) e
    (λ h. (0, ap Some ((is_same-exact u d).0 h)))
    (λ h. let x = there_has us d h in (suc x.0, x.1))

-- types that are there add nothing
all_there : (us ds : List DefType) → ((i : ℕ) (d : DefType) → slice_get ds i ≡ Some d → has_type us d ≡ true) → fold with_type us ds ≡ us
all_there us [] h = refl
all_there us (d ∷ ds) h = ap (λ b. fold with_type (cond b us (us ++ d ∷ [])) ds) (h 0 d refl) ∙ all_there us ds (λ i e x. h (suc i) e x)

-- different types that aren't there all come behind
by_test : (P : Bool → Type 0) (b : Bool) → (b ≡ true → ⊥) → P false → P b
by_test P true never p = absurd (never refl)
by_test P false never p = p

only_one : (d : DefType) (ds : List DefType) (e : DefType) (n i : ℕ) → HasNoRepetition (d ∷ ds) → slice_get (d ∷ []) n ≡ Some e → slice_get ds i ≡ Some e → ⊥
only_one d ds e zero i once b x = let z : 0 ≡ suc i = once.one_id 0 (suc i) e b x in omega (arith, z)
only_one d ds e (suc n) i once b x = none-some e b

none_there : (us ds : List DefType) → ((i : ℕ) (d : DefType) → slice_get ds i ≡ Some d → has_type us d ≡ true → ⊥) → HasNoRepetition ds → fold with_type us ds ≡ us ++ ds
none_there us [] h once = sym (append-nil us)
none_there us (d ∷ ds) h once =
    by_test (λ b. fold with_type (cond b us (us ++ d ∷ [])) ds ≡ us ++ d ∷ ds) (has_type us d) (h 0 d refl)
    (none_there (us ++ d ∷ []) ds
    (λ i e x t.
    let p = there_has (us ++ d ∷ []) e t in
    get-append us (d ∷ []) p.0 e p.1
    (λ a. h (suc i) e x (has_there us p.0 e a))
    (λ n at b. only_one d ds e n i once b x))
    (record { one_id = λ j k e a b. let z : suc j ≡ suc k = once.one_id (suc j) (suc k) e a b in omega (arith, z) })
    ∙ append_assoc us (d ∷ []) ds)

-- the places of a recursive type are different
positions_once : {X : Type 0} (t : RecTree) (xs : List X) → HasNoRepetition (positions t 0 xs)
positions_once t xs = record { one_id = λ j k d a b. ap (λ (x : DefType). x.position) (sym (from-positions t xs j d a) ∙ from-positions t xs k d b) }

-- what is held of a recursive type
held_at_counted : {X : Type 0} (us : List DefType) (ids : List ℕ) (t : RecTree) (xs : List X) → AreApart true us → length (members t) ≡ length xs
    → (o : Option ℕ) → place_of us (positions t 0 xs) ≡ o → (held_at o us ids (positions t 0 xs)).0 ≡ fold with_type us (positions t 0 xs)
held_at_counted us ids t xs h many (Some k) e = sym (all_there us (positions t 0 xs) (λ i d x. has_there us (k + i) d (found_stand us (positions t 0 xs) k e i d x)))
held_at_counted us ids t xs h many None e =
    sym (none_there us (positions t 0 xs) (λ i d x y. let p = there_has us d y in not_in us t xs h.0 h.1 many e p.0 i d p.1 x) (positions_once t xs))

pub held_counted : {X : Type 0} (c : Bool) (us : List DefType) (ids : List ℕ) (t : RecTree) (xs : List X) → AreApart c us → length (members t) ≡ length xs
    → AreWith c (held c us ids (positions (placed c (length us) t) 0 xs)).0 us (positions t 0 xs)
held_counted true us ids t xs h many = held_at_counted us ids t xs h many (place_of us (positions t 0 xs)) refl
held_counted false us ids t xs h many =
    let u = placed false (length us) t in
    let all = length-append us (positions u 0 xs) in
    let there = length-positions u 0 xs in
    let here = length-positions t 0 xs in
    omega (arith, all, there, here)

-- one after another
fold_append : (us ds es : List DefType) → fold with_type us (ds ++ es) ≡ fold with_type (fold with_type us ds) es
fold_append us [] es = refl
fold_append us (d ∷ ds) es = fold_append (with_type us d) ds es

pub with_append : (c : Bool) (mid all us ds es : List DefType) → AreWith c mid us ds → AreWith c all mid es → AreWith c all us (ds ++ es)
with_append true mid all us ds es a b = b ∙ ap (λ xs. fold with_type xs es) a ∙ sym (fold_append us ds es)
with_append false mid all us ds es a b = let both = length-append ds es in omega (arith, a, b, both)

pub with_none : (c : Bool) (us : List DefType) → AreWith c us us []
with_none true us = refl
with_none false us = omega arith

-- as many with the types that are still to come
pub with_split : (c : Bool) (mid us ds es : List DefType) → AreWith c mid us ds → length (with_types c us (ds ++ es)) ≡ length (with_types c mid es)
with_split true mid us ds es a = ap length (fold_append us ds es ∙ ap (λ xs. fold with_type xs es) (sym a))
with_split false mid us ds es a =
    let both = length-append ds es in
    let left = length-append us (ds ++ es) in
    let right = length-append mid es in
    omega (arith, a, both, left, right)

-- there aren't fewer types
grows_by : (b : Bool) (us : List DefType) (d : DefType) → length us ≤ length (cond b us (us ++ d ∷ []))
grows_by true us d = omega arith
grows_by false us d = let e = length-append us (d ∷ []) in omega (arith, e)

folded_grows : (us ds : List DefType) → length us ≤ length (fold with_type us ds)
folded_grows us [] = omega arith
folded_grows us (d ∷ ds) = let h = grows_by (has_type us d) us d in let more = folded_grows (with_type us d) ds in omega (arith, h, more)

pub with_grows : (c : Bool) (us ds : List DefType) → length us ≤ length (with_types c us ds)
with_grows true us ds = folded_grows us ds
with_grows false us ds = let e = length-append us ds in omega (arith, e)

-- nor more than there are
one_at_most : (b : Bool) (us : List DefType) (d : DefType) → length (cond b us (us ++ d ∷ [])) ≤ length us + 1
one_at_most true us d = omega arith
one_at_most false us d = let e = length-append us (d ∷ []) in omega (arith, e)

folded_at_most : (us ds : List DefType) → length (fold with_type us ds) ≤ length us + length ds
folded_at_most us [] = omega arith
folded_at_most us (d ∷ ds) = let h = one_at_most (has_type us d) us d in let more = folded_at_most (with_type us d) ds in omega (arith, h, more)

pub with_at_most : (c : Bool) (us ds : List DefType) → length (with_types c us ds) ≤ length us + length ds
with_at_most true us ds = folded_at_most us ds
with_at_most false us ds = let e = length-append us ds in omega (arith, e)
