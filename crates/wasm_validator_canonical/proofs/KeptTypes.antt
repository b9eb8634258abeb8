-- What types that are held with others leave of them.
use Rattle.std.proofs.Common.{◌≡◌, refl, sym, ap, subst, ◌∙◌, ℕ, zero, suc, ◌+◌, ◌<◌, ◌≤◌, Bool, true, false, cond, List, [], ◌∷◌, ◌++◌, length, slice_get, Option, Some, None, All, arith, append-nil, length-append}
use Rattle.std.proofs.lemmas.List.Elements.{All-nil, All-cons, All-head, All-tail, All-append}
use Rattle.std.proofs.lemmas.Option.{slice_get_within}
use Rattle.wasm_spec.specs.Trees.{DefType}
use Rattle.wasm_validator_type_list.specs.WasmValidatorTypeGroups.Elements.{numbers_from}
use Rattle.wasm_validator_type_list.proofs.WasmValidatorTypeGroups.RemainingNumbers.{length_numbers}
use Rattle.wasm_validator_type_list.proofs.WasmValidatorTypeGroups.Places.{get-right}
use Rattle.wasm_validator_canonical.specs.ListPlaces.{place_of}
use Rattle.wasm_validator_canonical.specs.Groups.{held_at, held}
use Rattle.wasm_validator_canonical.proofs.TypePlaces.{StandAt, found_stand}

-- ids below a number
abbrev pub AreBelow : ℕ → List ℕ → Type 0
AreBelow n ids = All (λ id. id < n) ids

numbers_below : (n m k : ℕ) → n + k ≤ m → AreBelow m (numbers_from n k)
numbers_below n m zero h = All-nil (λ id. id < m)
numbers_below n m (suc k) h = All-cons (λ id. id < m) n (numbers_from (n + 1) k) (omega (arith, h)) (numbers_below (n + 1) m k (omega (arith, h)))

below_append : (m : ℕ) (xs ys : List ℕ) → AreBelow m xs → AreBelow m ys → AreBelow m (xs ++ ys)
below_append m [] ys a b = b
below_append m (x ∷ xs) ys a b = All-cons (λ id. id < m) x (xs ++ ys) (All-head (λ id. id < m) x xs a) (below_append m xs ys (All-tail (λ id. id < m) x xs a) b)

pub below_more : (m n : ℕ) (xs : List ℕ) → m ≤ n → AreBelow m xs → AreBelow n xs
below_more m n [] l a = All-nil (λ id. id < n)
below_more m n (x ∷ xs) l a = let h : x < m = All-head (λ id. id < m) x xs a in All-cons (λ id. id < n) x xs (omega (arith, h, l)) (below_more m n xs l (All-tail (λ id. id < m) x xs a))

-- a list that stands in another ends there
pub last_one : (us ds : List DefType) (k : ℕ) (d : DefType) → StandAt us k (d ∷ ds) → k + length (d ∷ ds) ≤ length us
last_one us [] k d h = let z : k + 0 ≡ k = omega arith in let l : k < length us = slice_get_within us k d (ap (slice_get us) (sym z) ∙ h 0 d refl) in omega (arith, l)
last_one us (e ∷ ds) k d h =
    let l : (k + 1) + length (e ∷ ds) ≤ length us = last_one us ds (k + 1) e (λ i x g. let z : (k + 1) + i ≡ k + suc i = omega arith in ap (slice_get us) z ∙ h (suc i) x g) in
    omega (arith, l)

module _ (us : List DefType) (ids : List ℕ) (ds : List DefType) where
  length_held_at : (o : Option ℕ) → length (held_at o us ids ds).1 ≡ length ids + length ds
  length_held_at (Some k) = length-append ids (numbers_from k (length ds)) ∙ ap (λ n. length ids + n) (length_numbers k (length ds))
  length_held_at None = length-append ids (numbers_from (length us) (length ds)) ∙ ap (λ n. length ids + n) (length_numbers (length us) (length ds))

  pub length_held : (c : Bool) → length (held c us ids ds).1 ≡ length ids + length ds
  length_held c = length_held_at (cond c (place_of us ds) None)

  at_most : (o : Option ℕ) → length (held_at o us ids ds).0 ≤ length us + length ds
  at_most (Some k) = omega arith
  at_most None = let e = length-append us ds in omega (arith, e)

  pub held_at_most : (c : Bool) → length (held c us ids ds).0 ≤ length us + length ds
  held_at_most c = at_most (cond c (place_of us ds) None)

  front_at : (o : Option ℕ) → (more : List DefType) × ((held_at o us ids ds).0 ≡ us ++ more)
  front_at (Some k) = ([], sym (append-nil us))
  front_at None = (ds, refl)

  pub held_front : (c : Bool) → (more : List DefType) × ((held c us ids ds).0 ≡ us ++ more)
  held_front c = front_at (cond c (place_of us ds) None)

  -- what holds of the types of both holds of all
  all_at_end : (P : DefType → Type 0) (o : Option ℕ) → All P us → All P ds → All P (held_at o us ids ds).0
  all_at_end P (Some k) a b = a
  all_at_end P None a b = All-append P us ds a b

  pub all_held : (P : DefType → Type 0) (c : Bool) → All P us → All P ds → All P (held c us ids ds).0
  all_held P c = all_at_end P (cond c (place_of us ds) None)

  -- where their types stand
  pub record NewIds (result : List DefType × List ℕ) : Type 0 where
    pub start : ℕ
    pub ids_are : result.1 ≡ ids ++ numbers_from start (length ds)
    pub stand : StandAt result.0 start ds

  new_ids_at : (o : Option ℕ) → ((k : ℕ) → o ≡ Some k → StandAt us k ds) → NewIds (held_at o us ids ds)
  new_ids_at (Some k) h = record { start = k; ids_are = refl; stand = h k refl }
  new_ids_at None h = record { start = length us; ids_are = refl; stand = λ i d e. get-right us ds i ∙ e }

  only_canonical : (c : Bool) (k : ℕ) → cond c (place_of us ds) None ≡ Some k → StandAt us k ds
  only_canonical true k e = found_stand us ds k e
  only_canonical false k e = absurd (let n : None ≡ Some k = e in cc)

  pub new_ids : (c : Bool) → NewIds (held c us ids ds)
  new_ids c = new_ids_at (cond c (place_of us ds) None) (only_canonical c)

-- the ids stay known
below_new : (us ds : List DefType) (start : ℕ) → StandAt us start ds → AreBelow (length us) (numbers_from start (length ds))
below_new us [] start h = All-nil (λ id. id < length us)
below_new us (d ∷ ds) start h = numbers_below start (length us) (length (d ∷ ds)) (last_one us ds start d h)

pub held_known : (c : Bool) (us : List DefType) (ids : List ℕ) (ds : List DefType) → AreBelow (length us) ids → AreBelow (length (held c us ids ds).0) (held c us ids ds).1
held_known c us ids ds a =
    let f = held_front us ids ds c in
    let n = new_ids us ids ds c in
    let longer : length us ≤ length (held c us ids ds).0 = let e = ap length f.1 ∙ length-append us f.0 in omega (arith, e) in
    subst (AreBelow (length (held c us ids ds).0)) (sym n.ids_are)
    (below_append (length (held c us ids ds).0) ids (numbers_from n.start (length ds)) (below_more (length us) (length (held c us ids ds).0) ids longer a) (below_new (held c us ids ds).0 ds n.start n.stand))
