-- Names of exports that differ from one another.
use Rattle.std.proofs.Common.{◌≡◌, refl, ap, ◌∙◌, ℕ, Bool, false, List, [], ◌∷◌, ◌++◌, map, nat_eq, append_assoc}
use Rattle.std.specs.List.{list_any, AllByRecursion}
use Rattle.std.specs.Cmp.Lexicographic.{pointwise, nat_list_eq_equiv}
use Rattle.std.proofs.lemmas.Map.Made.{IsDistinct-from_count}
use Rattle.std.proofs.lemmas.Map.Keys.{IsDistinct-head, IsDistinct-tail}
use Rattle.wasm_validator_types.specs.Entities.{Entity}
use Rattle.wasm_validator_types.specs.Spaces.{is_exported}
use Rattle.wasm_laws_core.specs.Exports.{row_name, AreApart}

abbrev pub same_name : List ℕ → List ℕ → Bool
same_name = pointwise nat_eq

abbrev pub row_names : List (List ℕ × Entity) → List (List ℕ)
row_names rows = map row_name rows

pub no_names : AreApart []
no_names = IsDistinct-from_count nat_list_eq_equiv [] refl

flips : (x y : List ℕ) → same_name x y ≡ false → same_name y x ≡ false
flips x y h = (nat_list_eq_equiv).symm y x ∙ h

head_apart : (x y : List ℕ) (xs ys : List (List ℕ)) → AllByRecursion (λ z. same_name x z ≡ false) (xs ++ y ∷ ys) → same_name x y ≡ false
head_apart x y [] ys h = h.0
head_apart x y (z ∷ zs) ys h = head_apart x y zs ys h.1

-- a name among others that differ is not one of those before it
pub apart : (xs ys : List (List ℕ)) (y : List ℕ) → AreApart (xs ++ y ∷ ys) → list_any (same_name y) xs ≡ false
apart [] ys y h = refl
apart (x ∷ xs) ys y h =
    let a = flips x y (head_apart x y xs ys (IsDistinct-head same_name x (xs ++ y ∷ ys) h)) in
    let b = apart xs ys y (IsDistinct-tail same_name x (xs ++ y ∷ ys) h) in
    rw (a, b) refl

pub taken_names : (rows : List (List ℕ × Entity)) (name : List ℕ) → list_any (same_name name) (row_names rows) ≡ is_exported rows name
taken_names [] name = refl
taken_names (r ∷ rs) name = rw (taken_names rs name) refl

pub names_append : (rows more : List (List ℕ × Entity)) → row_names (rows ++ more) ≡ row_names rows ++ row_names more
names_append [] more = refl
names_append (r ∷ rs) more = rw (names_append rs more) refl

-- the names of rows, of one more row, and of others
pub names_between : (rows row : List (List ℕ × Entity)) (name : List ℕ) (names : List (List ℕ)) → row_names row ≡ name ∷ [] → row_names (rows ++ row) ++ names ≡ row_names rows ++ name ∷ names
names_between rows row name names e =
    ap (λ ns. ns ++ names) (names_append rows row ∙ ap (λ ns. row_names rows ++ ns) e)
    ∙ append_assoc (row_names rows) (name ∷ []) names
