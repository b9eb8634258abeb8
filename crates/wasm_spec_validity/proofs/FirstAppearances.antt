-- Each list has a numbering by first appearance, where equality is decidable.
use Rattle.std.proofs.Common.{◌≡◌, refl, sym, ap, ◌∙◌, ℕ, zero, suc, ◌<◌, ◌≢◌, List, [], ◌∷◌, length, get_or, slice_get, Some, None, ⊎_elim, arith}
use Rattle.std.specs.List.{All, Contains}
use Rattle.std.proofs.lemmas.Bool.{cases_lt}
use Rattle.std.proofs.lemmas.List.Elements.{All-nil, All-cons, All-contains}
use Rattle.wasm_spec.specs.Trees.{DefType}
use Rattle.wasm_spec.proofs.DecidableEquality.{type_discrete}
use Rattle.wasm_spec_validity.specs.Laws.{TypesAreNumbered, NumbersTellTypesApart}
use Rattle.wasm_spec_validity.specs.Modules.{Numbering}

module _ {X : Type 0} where
  the_same : (x y : X) → Some x ≡ Some y → x ≡ y
  the_same x y e = cc

  none : (x : X) → None ≡ Some x → ⊥
  none x e = cc

  -- x stands at this place
  abbrev Stands : List X → ℕ → X → Type 0
  Stands xs k x = slice_get xs k ≡ Some x

  abbrev IsIn : List X → X → Type 0
  IsIn xs x = (k : ℕ) × Stands xs k x

  inside : (xs : List X) (k : ℕ) (x : X) → Stands xs k x → (k < length xs) × (get_or xs k x ≡ x)
  inside [] k x e = absurd (none x e)
  inside (y ∷ ys) zero x e = (omega arith, the_same y x e)
  inside (y ∷ ys) (suc k) x e = let h = inside ys k x e in let l : k < length ys = h.0 in (omega arith, h.1)

  contained : (xs : List X) (x : X) → IsIn xs x → Contains xs x
  contained xs x h = let i = inside xs h.0 x h.1 in (h.0, i.0, i.1)

  all_that_stand : (P : X → Type 0) (xs : List X) → ((k : ℕ) (x : X) → Stands xs k x → P x) → All P xs
  all_that_stand P [] h = All-nil P
  all_that_stand P (x ∷ xs) h = All-cons P x xs (h 0 x refl) (all_that_stand P xs (λ k y e. h (suc k) y e))

  -- nothing stands at two places
  abbrev Apart : List X → Type 0
  Apart xs = (i j : ℕ) (a : X) → i < j → Stands xs i a → Stands xs j a → ⊥

  one_place : (xs : List X) → Apart xs → (j k : ℕ) (a : X) → Stands xs j a → Stands xs k a → j ≡ k
  one_place xs h j k a e f =
      ⊎_elim (λ l. absurd (h j k a l e f))
      (λ l. ⊎_elim (λ m. absurd (h k j a m f e)) (λ m. omega (arith, l, m)) (cases_lt k j))
      (cases_lt j k)

  -- a and b stand in this order
  abbrev InOrder : List X → X → X → Type 0
  InOrder xs a b = (p : ℕ) × (q : ℕ) × (p < q) × Stands xs p a × Stands xs q b

module _ {X : Type 0} (decide : Discrete X) where
  abbrev unless : {d x : X} → Dec (d ≡ x) → List X → List X
  unless (yes e) xs = xs
  unless {x} (no h) xs = x ∷ xs

  -- all but d
  abbrev without : X → List X → List X
  without d [] = []
  without d (x ∷ xs) = unless (decide d x) (without d xs)

  -- each once, where it stands first
  abbrev distinct : List X → List X
  distinct [] = []
  distinct (d ∷ ds) = d ∷ without d (distinct ds)

  is_other_by : (d x : X) (r : Dec (d ≡ x)) (xs : List X) → ((k : ℕ) (a : X) → Stands xs k a → d ≢ a) → (k : ℕ) (a : X) → Stands (unless r xs) k a → d ≢ a
  is_other_by d x (yes e) xs h k a s = h k a s
  is_other_by d x (no n) xs h zero a s = λ e. n (e ∙ sym (the_same x a s))
  is_other_by d x (no n) xs h (suc k) a s = h k a s

  is_other : (d : X) (xs : List X) (k : ℕ) (a : X) → Stands (without d xs) k a → d ≢ a
  is_other d [] k a s = absurd (none a s)
  is_other d (x ∷ xs) k a s = is_other_by d x (decide d x) (without d xs) (is_other d xs) k a s

  stood_by : (d x : X) (r : Dec (d ≡ x)) (xs ys : List X) → ((k : ℕ) (a : X) → Stands xs k a → IsIn ys a) → (k : ℕ) (a : X) → Stands (unless r xs) k a → IsIn (x ∷ ys) a
  stood_by d x (yes e) xs ys h k a s = let i = h k a s in (suc i.0, i.1)
  stood_by d x (no n) xs ys h zero a s = (0, s)
  stood_by d x (no n) xs ys h (suc k) a s = let i = h k a s in (suc i.0, i.1)

  stood : (d : X) (xs : List X) (k : ℕ) (a : X) → Stands (without d xs) k a → IsIn xs a
  stood d [] k a s = absurd (none a s)
  stood d (x ∷ xs) k a s = stood_by d x (decide d x) (without d xs) xs (stood d xs) k a s

  two_stood_by : (d x : X) (r : Dec (d ≡ x)) (xs ys : List X) → ((k : ℕ) (a : X) → Stands xs k a → IsIn ys a)
      → ((i j : ℕ) (a b : X) → i < j → Stands xs i a → Stands xs j b → InOrder ys a b)
      → (i j : ℕ) (a b : X) → i < j → Stands (unless r xs) i a → Stands (unless r xs) j b → InOrder (x ∷ ys) a b
  two_stood_by d x (yes e) xs ys one two i j a b l s t = let w = two i j a b l s t in (suc w.0, suc w.1, omega (arith, w.2), w.3, w.4)
  two_stood_by d x (no n) xs ys one two i zero a b l s t = absurd (omega (arith, l))
  two_stood_by d x (no n) xs ys one two zero (suc j) a b l s t = let w = one j b t in (0, suc w.0, omega arith, s, w.1)
  two_stood_by d x (no n) xs ys one two (suc i) (suc j) a b l s t = let w = two i j a b (omega (arith, l)) s t in (suc w.0, suc w.1, omega (arith, w.2), w.3, w.4)

  two_stood : (d : X) (xs : List X) (i j : ℕ) (a b : X) → i < j → Stands (without d xs) i a → Stands (without d xs) j b → InOrder xs a b
  two_stood d [] i j a b l s t = absurd (none a s)
  two_stood d (x ∷ xs) i j a b l s t = two_stood_by d x (decide d x) (without d xs) xs (stood d xs) (two_stood d xs) i j a b l s t

  stays_by : (d x : X) (r : Dec (d ≡ x)) (xs ys : List X) → ((k : ℕ) (a : X) → d ≢ a → Stands ys k a → IsIn xs a) → (k : ℕ) (a : X) → d ≢ a → Stands (x ∷ ys) k a → IsIn (unless r xs) a
  stays_by d x (yes e) xs ys h zero a n s = absurd (n (e ∙ the_same x a s))
  stays_by d x (yes e) xs ys h (suc k) a n s = h k a n s
  stays_by d x (no m) xs ys h zero a n s = (0, s)
  stays_by d x (no m) xs ys h (suc k) a n s = let i = h k a n s in (suc i.0, i.1)

  stays : (d : X) (xs : List X) (k : ℕ) (a : X) → d ≢ a → Stands xs k a → IsIn (without d xs) a
  stays d [] k a n s = absurd (none a s)
  stays d (x ∷ xs) k a n s = stays_by d x (decide d x) (without d xs) xs (stays d xs) k a n s

  -- the same things stand in the list and among the distinct ones
  kept_by : (d : X) (ds : List X) (k : ℕ) (a : X) → Dec (d ≡ a) → IsIn (distinct ds) a → IsIn (d ∷ without d (distinct ds)) a
  kept_by d ds k a (yes e) h = (0, ap Some e)
  kept_by d ds k a (no n) h = let i = stays d (distinct ds) h.0 a n h.1 in (suc i.0, i.1)

  kept : (ds : List X) (k : ℕ) (a : X) → Stands ds k a → IsIn (distinct ds) a
  kept [] k a s = absurd (none a s)
  kept (d ∷ ds) zero a s = (0, s)
  kept (d ∷ ds) (suc k) a s = kept_by d ds k a (decide d a) (kept ds k a s)

  taken : (ds : List X) (k : ℕ) (a : X) → Stands (distinct ds) k a → IsIn ds a
  taken [] k a s = absurd (none a s)
  taken (d ∷ ds) zero a s = (0, s)
  taken (d ∷ ds) (suc k) a s = let i = stood d (distinct ds) k a s in let w = taken ds i.0 a i.1 in (suc w.0, w.1)

  -- each of them once
  apart : (ds : List X) → Apart (distinct ds)
  apart [] i j a l s t = none a s
  apart (d ∷ ds) i zero a l s t = absurd (omega (arith, l))
  apart (d ∷ ds) zero (suc j) a l s t = is_other d (distinct ds) j a t (the_same d a s)
  apart (d ∷ ds) (suc i) (suc j) a l s t = let w = two_stood d (distinct ds) i j a a (omega (arith, l)) s t in apart ds w.0 w.1 a w.2 w.3 w.4

  -- in their order
  in_order : (ds : List X) (i j k : ℕ) (a b : X) → i < j → Stands (distinct ds) i a → Stands (distinct ds) j b → Stands ds k b → (h : ℕ) × (h < k) × Stands ds h a
  in_order [] i j k a b l s t u = absurd (none a s)
  in_order (d ∷ ds) i zero k a b l s t u = absurd (omega (arith, l))
  in_order (d ∷ ds) i (suc j) zero a b l s t u = absurd (is_other d (distinct ds) j b t (the_same d b u))
  in_order (d ∷ ds) zero (suc j) (suc k) a b l s t u = (0, omega arith, s)
  in_order (d ∷ ds) (suc i) (suc j) (suc k) a b l s t u =
      let w = two_stood d (distinct ds) i j a b (omega (arith, l)) s t in
      let v = in_order ds w.0 w.1 k a b w.2 w.3 w.4 u in
      (suc v.0, omega (arith, v.1), v.2)

  -- the place where something stands
  abbrev counted : {x d : X} → Dec (x ≡ d) → ℕ → ℕ
  counted (yes e) n = 0
  counted (no h) n = suc n

  abbrev place : List X → X → ℕ
  place [] d = 0
  place (x ∷ xs) d = counted (decide x d) (place xs d)

  first_by : (x d : X) (r : Dec (x ≡ d)) (n : ℕ) → x ≡ d → counted r n ≡ 0
  first_by x d (yes e) n f = refl
  first_by x d (no h) n f = absurd (h f)

  later_by : (x d : X) (r : Dec (x ≡ d)) (n k : ℕ) → x ≢ d → n ≡ k → counted r n ≡ suc k
  later_by x d (yes e) n k f h = absurd (f e)
  later_by x d (no g) n k f h = ap suc h

  places : (xs : List X) → Apart xs → (k : ℕ) (d : X) → Stands xs k d → place xs d ≡ k
  places [] h k d s = absurd (none d s)
  places (x ∷ xs) h zero d s = first_by x d (decide x d) (place xs d) (the_same x d s)
  places (x ∷ xs) h (suc k) d s =
      later_by x d (decide x d) (place xs d) k (λ e. h 0 (suc k) d (omega arith) (ap Some e) s) (places xs (λ i j a l t u. h (suc i) (suc j) a (omega (arith, l)) t u) k d s)

pub types_are_numbered : TypesAreNumbered
types_are_numbered types =
    let ds = distinct type_discrete types in
    let once = apart type_discrete types in
    record {
      distinct = ds;
      first = record {
        all = all_that_stand (Contains ds) types (λ k d e. contained ds d (kept type_discrete types k d e));
        only = all_that_stand (Contains types) ds (λ k d e. contained types d (taken type_discrete types k d e));
        once = record { one_id = one_place ds once };
        in_order = in_order type_discrete types;
      };
      number = place type_discrete ds;
      numbers = places type_discrete ds once;
    }

-- what a list contains stands somewhere
stands : {X : Type 0} (xs : List X) (k : ℕ) (x : X) → k < length xs → get_or xs k x ≡ x → Stands xs k x
stands [] k x l e = absurd (omega (arith, l))
stands (y ∷ ys) zero x l e = ap Some e
stands (y ∷ ys) (suc k) x l e = stands ys k x (omega (arith, l)) e

place_of : (types : List DefType) (n : Numbering types) (a : DefType) → Contains types a → IsIn n.distinct a
place_of types n a h = let i = All-contains (Contains n.distinct) types a n.first.all h in (i.0, stands n.distinct i.0 a i.1 i.2)

pub numbers_tell_types_apart : NumbersTellTypesApart
numbers_tell_types_apart types n a b h g e =
    let i = place_of types n a h in
    let j = place_of types n b g in
    let same : i.0 ≡ j.0 = sym (n.numbers i.0 a i.1) ∙ e ∙ n.numbers j.0 b j.1 in
    the_same a b (sym i.1 ∙ ap (λ k. slice_get n.distinct k) same ∙ j.1)
