-- What a module's context says of the numbers of its distinct types.
use Rattle.std.proofs.Common.{◌≡◌, refl, sym, ap, subst, ◌∙◌, ℕ, zero, suc, ◌<◌, ◌≤◌, List, [], ◌∷◌, ◌++◌, map, length, slice_get, Option, Some, None, option_map, is_some, IsTrue, All, arith}
use Rattle.std.specs.Option.{option_and_then}
use Rattle.std.specs.List.{Contains}
use Rattle.std.proofs.lemmas.Bool.Decides.{Decides-eqb}
use Rattle.std.proofs.lemmas.List.{length-map}
use Rattle.std.proofs.lemmas.List.Elements.{All-head, All-contains}
use Rattle.std.proofs.lemmas.Option.{none-some, same_Some, slice_get-map}
use Rattle.wasm_spec.specs.Syntax.{Sub, map_sub}
use Rattle.wasm_spec.specs.References.{refs_sub}
use Rattle.wasm_spec.specs.SupertypeOrder.{supertype, supertype_of, ancestor_at}
use Rattle.wasm_spec.specs.MatchingTests.{IsWorld}
use Rattle.wasm_spec.specs.Trees.{DefType, declared}
use Rattle.wasm_spec_rules.specs.Attempts.{◌>>=◌}
use Rattle.wasm_spec_rules.specs.Contexts.{Context}
use Rattle.wasm_spec_rules.specs.Worlds.{declared_in, world_of}
use Rattle.wasm_spec_validity.proofs.WasmSpecSteps.WorldsDecided.{worlds_are_right}
use Rattle.wasm_laws_core.specs.TypeNumbers.{AreNumbered, same_number}
use Rattle.wasm_laws_core.proofs.NumbersBelow.{count_below, count-most, count-more}
use Rattle.wasm_laws_core.proofs.NumbersAndIds.{other_number, place_of, contains_at, value_of}
use Rattle.wasm_laws_modules.proofs.Entries.{EachDeclares, entries, length-entries, found, none_found}

-- a value behind a map
pub from_map : {X Y : Type 0} (g : X → Y) (o : Option X) (y : Y) → option_map g o ≡ Some y → (x : X) × (o ≡ Some x) × (g x ≡ y)
from_map g None y e = absurd (none-some y e)
from_map g (Some x) y e = (x, refl, same_Some (g x) y e)

pub first_of_all : (P : DefType → Type 0) (xs rest : List DefType) (x : DefType) → All P (xs ++ rest) → slice_get xs 0 ≡ Some x → P x
first_of_all P [] rest x a e = absurd (none-some x e)
first_of_all P (z ∷ xs) rest x a e = let h : P z = All-head P z (xs ++ rest) a in let same : z ≡ x = same_Some z x e in subst P same h

abbrev pub level : (DefType → ℕ) → Option DefType → ℕ
level height None = 0
level height (Some d) = height d

module _ (n : DefType → ℕ) (distinct : List DefType) (are : AreNumbered n distinct) where
  abbrev pub cs : List (ℕ × Sub ℕ)
  cs = entries n distinct

  pub each : EachDeclares distinct
  each k d e = value_of (declared d) (All-contains (λ x. IsTrue (is_some (declared x))) distinct d are.declare (contains_at distinct k d e))

  -- what a number declares
  pub numbered : (k : ℕ) (d : DefType) → slice_get distinct k ≡ Some d → declared_in same_number cs k ≡ option_map (map_sub n) (declared d)
  numbered k d e =
      found same_number n k distinct k d each e ((Decides-eqb (n d) k).1 (are.number k d e))
      (λ j x u t. let w : n x ≡ k = (Decides-eqb (n x) k).0 t in sym (are.number j x u) ∙ w)

  pub not_numbered : (k : ℕ) → slice_get distinct k ≡ None → declared_in same_number cs k ≡ None
  not_numbered k e = none_found same_number n k distinct each (λ j x u. other_number (n x) k (λ g. none-some x (sym e ∙ ap (slice_get distinct) (sym g ∙ are.number j x u) ∙ u)))

  super_same : (o : Option (Sub ℕ)) → (o >>= supertype) ≡ option_and_then supertype o
  super_same None = refl
  super_same (Some s) = refl

  module _ (height : DefType → ℕ) (down : (d x : DefType) → Contains distinct d → supertype_of declared d ≡ Some x → height x < height d) where
    -- a supertype among the numbers is lower than its type
    pub record StepsDown (a y : ℕ) : Type 0 where
      pub ty : DefType
      pub super : DefType
      pub ty_there : slice_get distinct a ≡ Some ty
      pub super_there : slice_get distinct y ≡ Some super
      pub lower : height super < height ty

    down_from : (a y : ℕ) (d : DefType) (s : Sub DefType) → slice_get distinct a ≡ Some d → declared d ≡ Some s → slice_get (map n s.supers) 0 ≡ Some y → StepsDown a y
    down_from a y d s e g h =
        let x = from_map n (slice_get s.supers 0) y (sym (slice_get-map n s.supers 0) ∙ h) in
        let rest = refs_sub (record s { supers = [] }) in
        let c : Contains distinct x.0 = first_of_all (Contains distinct) s.supers rest x.0 (are.mention d s (contains_at distinct a d e) g) x.1 in
        let p : slice_get distinct c.0 ≡ Some x.0 = place_of distinct x.0 c in
        record {
          ty = d;
          super = x.0;
          ty_there = e;
          super_there = ap (slice_get distinct) (sym x.2 ∙ are.number c.0 x.0 p) ∙ p;
          lower = down d x.0 (contains_at distinct a d e) (ap (option_and_then supertype) g ∙ x.1);
        }

    down-at : (a y : ℕ) (o : Option DefType) → slice_get distinct a ≡ o → (declared_in same_number cs a >>= supertype) ≡ Some y → StepsDown a y
    down-at a y None e g = absurd (none-some y (sym (ap (λ (o : Option (Sub ℕ)). o >>= supertype) (not_numbered a e)) ∙ g))
    down-at a y (Some d) e g =
        let s = each a d e in
        down_from a y d s.0 e s.1 (sym (ap (λ (o : Option (Sub ℕ)). o >>= supertype) (numbered a d e ∙ ap (option_map (map_sub n)) s.1)) ∙ g)

    pub steps_down : (a y : ℕ) → (declared_in same_number cs a >>= supertype) ≡ Some y → StepsDown a y
    steps_down a y g = down-at a y (slice_get distinct a) refl g

    -- so fewer types are lower than it, and there are as many steps as types
    abbrev pub rank : ℕ → ℕ
    rank k = count_below (level height (slice_get distinct k)) (map height distinct)

    pub rank_down : (a y : ℕ) → StepsDown a y → rank y < rank a
    rank_down a y t =
        let u : level height (slice_get distinct a) ≡ height t.ty = ap (level height) t.ty_there in
        let v : level height (slice_get distinct y) ≡ height t.super = ap (level height) t.super_there in
        let here : slice_get (map height distinct) y ≡ Some (height t.super) = slice_get-map height distinct y ∙ ap (option_map height) t.super_there in
        let m : count_below (height t.super) (map height distinct) < count_below (height t.ty) (map height distinct) = count-more y (height t.super) (height t.ty) (map height distinct) here t.lower in
        omega (arith, ap (λ h. count_below h (map height distinct)) u, ap (λ h. count_below h (map height distinct)) v, m)

    pub few : (a : ℕ) → rank a ≤ length cs
    few a = omega (arith, count-most (level height (slice_get distinct a)) (map height distinct), length-map distinct height, length-entries n distinct each)

    ranked_from : (k a b : ℕ) (o : Option ℕ) → (declared_in same_number cs a >>= supertype) ≡ o → option_and_then (ancestor_at (declared_in same_number cs) k) o ≡ Some b
        → ((y : ℕ) → ancestor_at (declared_in same_number cs) k y ≡ Some b → k ≤ rank y) → suc k ≤ rank a
    ranked_from k a b None g e h = absurd (none-some b e)
    ranked_from k a b (Some y) g e h =
        let l : rank y < rank a = rank_down a y (steps_down a y g) in
        let m : k ≤ rank y = h y e in
        omega (arith, l, m)

    ranked : (k a b : ℕ) → ancestor_at (declared_in same_number cs) k a ≡ Some b → k ≤ rank a
    ranked zero a b e = omega arith
    ranked (suc k) a b e =
        ranked_from k a b (declared_in same_number cs a >>= supertype) refl
        (ap (option_and_then (ancestor_at (declared_in same_number cs) k)) (super_same (declared_in same_number cs a)) ∙ e) (λ y g. ranked k y b g)

    -- so the tests of the context are right
    pub numbers_are_right : (C : Context ℕ) → C.declares ≡ cs → IsWorld (world_of same_number C)
    numbers_are_right C is =
        worlds_are_right same_number C Decides-eqb
        (λ a b p. record {
          steps = p.steps;
          within = subst (λ (xs : List (ℕ × Sub ℕ)). ancestor_at (declared_in same_number xs) p.steps a ≡ Some b → p.steps ≤ length xs) (sym is)
              (λ e. let l : p.steps ≤ rank a = ranked p.steps a b e in omega (arith, l, few a)) p.leads;
          leads = p.leads;
        })
