-- Closed groups, and the list of types that groups give.
use Rattle.std.proofs.Common.{◌≡◌, refl, sym, ap, ◌∙◌, subst, ℕ, zero, suc, ◌+◌, ◌<◌, Bool, true, false, ◌&&◌, if◌then◌else◌, List, [], ◌∷◌, ◌++◌, map, length, slice_get, Option, Some, None, option_map, append_assoc, append-nil, arith}
use Rattle.std.proofs.lemmas.Option.{option_and_then_some, none-some, same_Some}
use Rattle.std.specs.Option.{option_and_then}
use Rattle.wasm_spec.specs.Syntax.{Rec, map_sub}
use Rattle.wasm_spec.specs.Features.{Features, canonical}
use Rattle.wasm_spec.specs.Trees.{DefType, close, members, start_of}
use Rattle.wasm_spec.specs.Closing.{are_closable, is_closable, resolve, start_unless, closed, positions, with_group, with_groups, type_space}
use Rattle.wasm_spec.specs.TypeLaws.{MembersOfClosed, StartOfClosed, EqualTreesEqualGroups, AppendedGroup, FrontOfTypeSpace, EarlierTypesStay, SingleRecIsPlain, DifferentGroupsDifferentTypes, EachWrittenGroupIsItsOwn}
use Rattle.wasm_spec.proofs.ReferenceNumbers.{members-close, start_of-close}

pub members_of_closed : MembersOfClosed
members_of_closed = members-close

pub start_of_closed : StartOfClosed
start_of_closed = start_of-close

pub equal_trees_equal_groups : EqualTreesEqualGroups
equal_trees_equal_groups start begin g h e =
    (sym (start_of-close start g) ∙ ap start_of e ∙ start_of-close begin h, sym (members-close start g) ∙ ap members e ∙ members-close begin h)

pub different_groups_different_types : DifferentGroupsDifferentTypes
different_groups_different_types start begin g h i j d e = d (equal_trees_equal_groups start begin g h (ap (λ (x : DefType). x.tree) e)).1

-- a test that passed, and what came of it
if_some : {X : Type 0} (c : Bool) (x y : X) → (if c then Some x else None) ≡ Some y → x ≡ y
if_some true x y e = same_Some x y e
if_some false x y e = absurd (none-some y e)

pub each_written_group_is_its_own : EachWrittenGroupIsItsOwn
each_written_group_is_its_own F ts us g h t u off e f differ same =
    let left : close (start_unless (canonical F) (length ts)) (map (map_sub (resolve ts)) g.types) ≡ t = if_some (is_closable F (length ts) g) _ t e in
    let right : close (start_unless (canonical F) (length us)) (map (map_sub (resolve us)) h.types) ≡ u = if_some (is_closable F (length us) h) _ u f in
    let starts = (equal_trees_equal_groups _ _ _ _ (left ∙ same ∙ sym right)).0 in
    differ (same_Some (length ts) (length us) (subst (λ c. (if c then None else Some (length ts)) ≡ (if c then None else Some (length us))) off starts))

pub single_rec_is_plain : SingleRecIsPlain
single_rec_is_plain F ts s on = ap (λ c. if c then Some (close (start_unless (canonical F) (length ts)) (map (map_sub (resolve ts)) (s ∷ []))) else None) (ap (λ c. c && are_closable F (length ts) (length ts + 1) (length ts) (s ∷ [])) on)

-- the types that groups give
module _ (F : Features) where
  then_groups : (gs hs : List (Rec ℕ)) → ((ts : List DefType) → with_groups F ts (gs ++ hs) ≡ option_and_then (λ us. with_groups F us hs) (with_groups F ts gs)) → (o : Option (List DefType)) → option_and_then (λ ts. with_groups F ts (gs ++ hs)) o ≡ option_and_then (λ us. with_groups F us hs) (option_and_then (λ ts. with_groups F ts gs) o)
  then_groups gs hs h None = refl
  then_groups gs hs h (Some ts) = h ts

  with_groups-append : (gs hs : List (Rec ℕ)) (ts : List DefType) → with_groups F ts (gs ++ hs) ≡ option_and_then (λ us. with_groups F us hs) (with_groups F ts gs)
  with_groups-append [] hs ts = refl
  with_groups-append (g ∷ gs) hs ts = then_groups gs hs (with_groups-append gs hs) (with_group F ts g)

  then_one : (g : Rec ℕ) (o : Option (List DefType)) → option_and_then (λ ts. with_groups F ts (g ∷ [])) o ≡ option_and_then (λ ts. with_group F ts g) o
  then_one g None = refl
  then_one g (Some ts) = just (with_group F ts g)
    where
      just : {X : Type 0} (o : Option X) → option_and_then Some o ≡ o
      just None = refl
      just (Some x) = refl

  -- the list goes on
  abbrev GoesOn : List DefType → List DefType → Type 0
  GoesOn us ts = (rest : List DefType) × (us ≡ ts ++ rest)

  map_some : {X Y : Type 0} (f : X → Y) (o : Option X) (y : Y) → option_map f o ≡ Some y → (x : X) × (f x ≡ y)
  map_some f None y e = absurd (none-some y e)
  map_some f (Some x) y e = (x, same_Some (f x) y e)

  group_goes_on : (g : Rec ℕ) (ts us : List DefType) → with_group F ts g ≡ Some us → GoesOn us ts
  group_goes_on g ts us e =
      let h = map_some (λ t. ts ++ positions t 0 g.types) (closed F ts g) us e in
      (positions h.0 0 g.types, sym h.1)

  groups_go_on : (gs : List (Rec ℕ)) (ts us : List DefType) → with_groups F ts gs ≡ Some us → GoesOn us ts
  groups_go_on [] ts us e = ([], sym (same_Some ts us e) ∙ sym (append-nil ts))
  groups_go_on (g ∷ gs) ts us e = option_and_then_some (λ vs. with_groups F vs gs) (with_group F ts g) us e
      (λ vs a b.
      let h = group_goes_on g ts vs a in
      let k = groups_go_on gs vs us b in
      (h.0 ++ k.0, k.1 ∙ ap (λ l. l ++ k.0) h.1 ∙ append_assoc ts h.0 k.0))

pub appended_group : AppendedGroup
appended_group F gs g = with_groups-append F gs (g ∷ []) [] ∙ then_one F g (type_space F gs)

pub front_of_type_space : FrontOfTypeSpace
front_of_type_space F gs hs ts e =
    option_and_then_some (λ us. with_groups F us hs) (type_space F gs) ts (sym (with_groups-append F gs hs []) ∙ e)
    (λ us a b. let h = groups_go_on F hs us ts b in record { front = us; gives = a; rest = h.0; is = h.1 })

pub slice_get-append_left : {X : Type 0} (xs ys : List X) (k : ℕ) → k < length xs → slice_get (xs ++ ys) k ≡ slice_get xs k
slice_get-append_left [] ys k h = absurd (omega (arith, h))
slice_get-append_left (x ∷ xs) ys zero h = refl
slice_get-append_left (x ∷ xs) ys (suc k) h = slice_get-append_left xs ys k (omega (arith, h))

pub earlier_types_stay : EarlierTypesStay
earlier_types_stay F gs hs ts us k e f l =
    let h = front_of_type_space F gs hs us f in
    let same : h.front ≡ ts = same_Some h.front ts (sym h.gives ∙ e) in
    ap (λ vs. slice_get vs k) (h.is ∙ ap (λ vs. vs ++ h.rest) same) ∙ slice_get-append_left ts h.rest k l
