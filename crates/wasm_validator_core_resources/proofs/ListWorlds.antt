-- A list of types, seen in a context.
use Rattle.std.proofs.Common.{◌≡◌, refl, sym, ap, subst, ◌∙◌, ℕ, zero, suc, ◌+◌, ◌<◌, ◌≤◌, Bool, true, false, ◌||◌, ◌==◌, if◌then◌else◌, List, [], ◌∷◌, length, Option, Some, None, option_map, slice_get, arith}
use Rattle.std.specs.Bool.{Decides}
use Rattle.std.specs.Option.{option_and_then}
use Rattle.std.proofs.lemmas.Bool.Decides.{Decides-eqb}
use Rattle.std.proofs.lemmas.Option.{slice_get-map, none-some, same_Some}
use Rattle.wasm_spec.specs.Syntax.{Sub, map_sub}
use Rattle.wasm_spec.specs.SupertypeOrder.{supertype, supertype_of, ancestor_at, IsAncestor}
use Rattle.wasm_validator_resources.specs.WasmSpecRules.Contexts.{Context}
use Rattle.wasm_readers_types.specs.declared.types.SubType.{SubType}
use Rattle.wasm_validator_type_list.specs.WasmValidatorTypeGroups.Groups.{all_in}
use Rattle.wasm_validator_type_list.specs.GroupOrder.{AreListable}
use Rattle.wasm_validator_type_list.specs.DeclarationsById.{subs_by_ids, declares}
use Rattle.wasm_validator_type_list.specs.Worlds.{is_within, ids_world}
use Rattle.wasm_validator_type_list.proofs.IdDeclarations.{descends}
use Rattle.wasm_validator_type_list.proofs.IdsAndTypes.{length-subs}
use Rattle.wasm_validator_type_list.proofs.UnknownIds.{declared_within}
use Rattle.wasm_validator_resources.specs.WasmSpecRules.Attempts.{◌>>=◌, passes}
use Rattle.wasm_validator_resources.specs.WasmSpecRules.Worlds.{declared_in, is_below, world_of}
use Rattle.wasm_spec_steps.specs.Renaming.{Renames}
use Rattle.wasm_spec_steps.specs.Laws.{IsNear}
use Rattle.wasm_spec_steps.proofs.MatchingRenamed.{matches_val-map}
use Rattle.wasm_spec_steps.proofs.WorldsDecided.{worlds_are_right}
use Rattle.wasm_validator_core_resources.specs.ListContexts.{under_ids, list_declares, IsNoId, IsSeen, ListsAreSeen, ListContextsAreWorlds}

not_true : (b : Bool) → (b ≡ true → ⊥) → b ≡ false
not_true true h = absurd (h refl)
not_true false h = refl

or-false : (b c : Bool) → c ≡ false → (b || c) ≡ b
or-false true c e = refl
or-false false c e = e

no_value : {X : Type 0} (o : Option X) → ((x : X) → o ≡ Some x → ⊥) → o ≡ None
no_value None h = refl
no_value (Some x) h = absurd (h x refl)

same_number : (m n : ℕ) → m ≡ n → (m == n) ≡ true
same_number m n e = (Decides-eqb m n).1 e

other_number : (m n : ℕ) → (m ≡ n → ⊥) → (m == n) ≡ false
other_number m n h = not_true (m == n) (λ e. h ((Decides-eqb m n).0 e))

-- ancestors within so many steps, from where there is nothing above
module _ (D : ℕ → Option (Sub ℕ)) where
  within-none : (n b : ℕ) → is_within D n None b ≡ false
  within-none zero b = refl
  within-none (suc n) b = refl

  within-top : (n a b : ℕ) → supertype_of D a ≡ None → is_within D n (Some a) b ≡ (a == b)
  within-top zero a b e = refl
  within-top (suc n) a b e = or-false (a == b) (is_within D n (supertype_of D a) b) (ap (λ (o : Option ℕ). is_within D n o b) e ∙ within-none n b)

  module _ (down : (x y : ℕ) → supertype_of D x ≡ Some y → y < x) where
    first_has_none : (a : ℕ) → a ≤ 0 → supertype_of D a ≡ None
    first_has_none a l = no_value (supertype_of D a) (λ y e. let m : y < a = down a y e in omega (arith, l, m))

    -- where ids only go down, so many steps as the id counts are enough
    enough : (n m : ℕ) (o : Option ℕ) (b : ℕ) → ((a : ℕ) → o ≡ Some a → a ≤ n) → ((a : ℕ) → o ≡ Some a → a ≤ m) → is_within D n o b ≡ is_within D m o b
    enough n m None b h k = within-none n b ∙ sym (within-none m b)
    enough zero m (Some a) b h k = sym (within-top m a b (first_has_none a (h a refl)))
    enough (suc n) zero (Some a) b h k = within-top (suc n) a b (first_has_none a (k a refl))
    enough (suc n) (suc m) (Some a) b h k =
        let above : (l : ℕ) → a ≤ suc l → (y : ℕ) → supertype_of D a ≡ Some y → y ≤ l = λ l g y e. let less : y < a = down a y e in omega (arith, g, less) in
        ap (λ (c : Bool). (a == b) || c) (enough n m (supertype_of D a) b (above n (h a refl)) (above m (k a refl)))

module _ {R : Type 0} (same : R → R → Bool) (f : ℕ → R) (apart : (m n : ℕ) → same (f m) (f n) ≡ (m == n)) where
  -- what stands under an id
  under-declared : (n k m : ℕ) (ds : List (Sub ℕ)) → m ≡ n + k → declared_in same (under_ids f n ds) (f m) ≡ option_map (map_sub f) (slice_get ds k)
  under-declared n k m [] e = refl
  under-declared n zero m (d ∷ ds) e =
      let here : same (f n) (f m) ≡ true = apart n m ∙ same_number n m (omega (arith, e)) in
      ap (λ (c : Bool). if c then Some (map_sub f d) else declared_in same (under_ids f (suc n) ds) (f m)) here
  under-declared n (suc k) m (d ∷ ds) e =
      let other : same (f n) (f m) ≡ false = apart n m ∙ other_number n m (λ g. omega (arith, e, g)) in
      ap (λ (c : Bool). if c then Some (map_sub f d) else declared_in same (under_ids f (suc n) ds) (f m)) other
      ∙ under-declared (suc n) k m ds (omega (arith, e))

  -- and under what is no id
  under-none : (n : ℕ) (ds : List (Sub ℕ)) (a : R) → IsNoId f same a → declared_in same (under_ids f n ds) a ≡ None
  under-none n [] a h = refl
  under-none n (d ∷ ds) a h =
      ap (λ (c : Bool). if c then Some (map_sub f d) else declared_in same (under_ids f (suc n) ds) a) (h n) ∙ under-none (suc n) ds a h

  length-under : (n : ℕ) (ds : List (Sub ℕ)) → length (under_ids f n ds) ≡ length ds
  length-under n [] = refl
  length-under n (d ∷ ds) = ap suc (length-under (suc n) ds)

  -- what declares something is one of the ids
  under-found : (n : ℕ) (ds : List (Sub ℕ)) (a : R) (s : Sub R) → declared_in same (under_ids f n ds) a ≡ Some s → (m : ℕ) × (m < n + length ds) × (same (f m) a ≡ true)
  under-found n [] a s e = absurd (none-some s e)
  under-found n (d ∷ ds) a s e = elim (same (f n) a) as (λ c. same (f n) a ≡ c → (m : ℕ) × (m < n + length (d ∷ ds)) × (same (f m) a ≡ true)) [
    | true ↦ λ g. (n, omega arith, g)
    | false ↦ λ g.
        let behind : declared_in same (under_ids f (suc n) ds) a ≡ Some s = sym (ap (λ (c : Bool). if c then Some (map_sub f d) else declared_in same (under_ids f (suc n) ds) a) g) ∙ e in
        let r = under-found (suc n) ds a s behind in
        (r.0, omega (arith, r.1), r.2)
  ] refl

module _ {A R : Type 0} (same : R → R → Bool) (f : ℕ → R) (apart : (m n : ℕ) → same (f m) (f n) ≡ (m == n)) (gs : List (List (SubType A))) (listable : AreListable gs) where
  abbrev ds : List (R × Sub R)
  ds = list_declares f gs

  abbrev D : ℕ → Option (Sub ℕ)
  D = declares gs

  list-declared : (id : ℕ) → declared_in same ds (f id) ≡ option_map (map_sub f) (declares gs id)
  unfolding declares
  list-declared id = under-declared same f apart 0 id id (subs_by_ids 0 gs) (omega arith)

  length-list : length ds ≡ length (all_in gs)
  length-list = length-under same f apart 0 (subs_by_ids 0 gs) ∙ length-subs gs 0

  supertype-map : (s : Sub ℕ) → supertype (map_sub f s) ≡ option_map f (supertype s)
  supertype-map s = slice_get-map f s.supers 0

  above-map : (o : Option (Sub ℕ)) → (option_map (map_sub f) o >>= supertype) ≡ option_map f (option_and_then supertype o)
  above-map None = refl
  above-map (Some s) = supertype-map s

  list-above : (id : ℕ) → (declared_in same ds (f id) >>= supertype) ≡ option_map f (supertype_of D id)
  list-above id = ap (λ (o : Option (Sub R)). o >>= supertype) (list-declared id) ∙ above-map (D id)

  -- the order within so many steps
  link : (n b : ℕ) (o : Option ℕ) → ((c : ℕ) → is_below same ds n (f c) (f b) ≡ is_within D n (Some c) b) → passes (λ c. is_below same ds n c (f b)) (option_map f o) ≡ is_within D n o b
  link n b None h = sym (within-none D n b)
  link n b (Some c) h = h c

  below-within : (n a b : ℕ) → is_below same ds n (f a) (f b) ≡ is_within D n (Some a) b
  below-within zero a b = apart a b
  below-within (suc n) a b = λ i. apart a b i || (ap (passes (λ c. is_below same ds n c (f b))) (list-above a) ∙ link n b (supertype_of D a) (λ c. below-within n c b)) i

  known_above : (a y : ℕ) → supertype_of D a ≡ Some y → a < length (all_in gs)
  known_above a y e = elim (D a) as (λ o. D a ≡ o → option_and_then supertype o ≡ Some y → a < length (all_in gs)) [ None ↦ λ g h. absurd (none-some y h) | Some s ↦ λ g h. declared_within gs a s g ] refl e

  steps_enough : (a b : ℕ) (o : Option ℕ) → supertype_of D a ≡ o → is_within D (length ds) (Some a) b ≡ is_within D a (Some a) b
  steps_enough a b None e = within-top D (length ds) a b e ∙ sym (within-top D a a b e)
  steps_enough a b (Some y) e =
      let l : a < length (all_in gs) = known_above a y e in
      enough D (descends gs listable) (length ds) a (Some a) b
      (λ x g. let h : a ≡ x = same_Some a x g in omega (arith, l, length-list, h)) (λ x g. let h : a ≡ x = same_Some a x g in omega (arith, h))

  list-below : (a b : ℕ) → is_below same ds (length ds) (f a) (f b) ≡ is_within D a (Some a) b
  list-below a b = below-within (length ds) a b ∙ steps_enough a b (supertype_of D a) refl

  -- what is no id
  none-below : (n : ℕ) (a b : R) → IsNoId f same a → is_below same ds n a b ≡ same a b
  none-below zero a b h = refl
  none-below (suc n) a b h =
      or-false (same a b) (passes (λ c. is_below same ds n c b) (declared_in same ds a >>= supertype))
      (ap (λ (o : Option (Sub R)). passes (λ c. is_below same ds n c b) (o >>= supertype)) (under-none same f apart 0 (subs_by_ids 0 gs) a h))

  -- ancestors are no further away than the id counts
  super-same : (o : Option (Sub R)) → option_and_then supertype o ≡ (o >>= supertype)
  super-same None = refl
  super-same (Some s) = refl

  mapped-links : (k a : ℕ) (b : R) → ancestor_at (declared_in same ds) k (f a) ≡ Some b → k ≤ a
  mapped-links zero a b e = omega arith
  mapped-links (suc k) a b e =
      elim (supertype_of D a) as (λ o. supertype_of D a ≡ o → option_and_then (ancestor_at (declared_in same ds) k) (option_map f o) ≡ Some b → suc k ≤ a) [
        | None ↦ λ g h. absurd (none-some b h)
        | Some y ↦ λ g h. let l : y < a = descends gs listable a y g in let m : k ≤ y = mapped-links k y b h in omega (arith, l, m)
      ] refl (sym (ap (option_and_then (ancestor_at (declared_in same ds) k)) (super-same (declared_in same ds (f a)) ∙ list-above a)) ∙ e)

  near_by : ((a b : R) → Decides (same a b) (a ≡ b)) → (k : ℕ) (a b : R) (o : Option (Sub R)) → declared_in same ds a ≡ o → ancestor_at (declared_in same ds) k a ≡ Some b → k ≤ length ds
  near_by right zero a b o g e = omega arith
  near_by right (suc k) a b None g e = absurd (none-some b (sym (ap (λ (p : Option (Sub R)). option_and_then (ancestor_at (declared_in same ds) k) (option_and_then supertype p)) g) ∙ e))
  near_by right (suc k) a b (Some s) g e =
      let r = under-found same f apart 0 (subs_by_ids 0 gs) a s g in
      let is_id : f r.0 ≡ a = (right (f r.0) a).0 r.2 in
      let l : suc k ≤ r.0 = mapped-links (suc k) r.0 b (ap (ancestor_at (declared_in same ds) (suc k)) is_id ∙ e) in
      omega (arith, l, r.1, length-under same f apart 0 (subs_by_ids 0 gs))

  module _ (C : Context R) (is_list : C.declares ≡ ds) where
    seen_renames : Renames f (ids_world gs) (world_of same C)
    seen_renames = record {
      declared = λ a. ap (λ (xs : List (R × Sub R)). declared_in same xs (f a)) is_list ∙ list-declared a;
      below = λ a b. ap (λ (xs : List (R × Sub R)). is_below same xs (length xs) (f a) (f b)) is_list ∙ list-below a b;
      same = apart;
    }

    seen : IsSeen same f gs C
    seen = record {
      renames = seen_renames;
      matches = λ v w. matches_val-map f (ids_world gs) (world_of same C) seen_renames v w;
      nothing_declared = λ a h. ap (λ (xs : List (R × Sub R)). declared_in same xs a) is_list ∙ under-none same f apart 0 (subs_by_ids 0 gs) a h;
      nothing_below = λ a b h. ap (λ (xs : List (R × Sub R)). is_below same xs (length xs) a b) is_list ∙ none-below (length ds) a b h;
    }

    near : ((a b : R) → Decides (same a b) (a ≡ b)) → (a b : R) → IsAncestor (declared_in same C.declares) a b → IsNear C (declared_in same C.declares) a b
    near right a b p = record {
      steps = p.steps;
      within = subst (λ (xs : List (R × Sub R)). ancestor_at (declared_in same xs) p.steps a ≡ Some b → p.steps ≤ length xs) (sym is_list) (λ e. near_by right p.steps a b (declared_in same ds a) refl e) p.leads;
      leads = p.leads;
    }

pub lists_are_seen : {A R : Type 0} → ListsAreSeen A R
lists_are_seen same f apart gs h C e = seen same f apart gs h C e

pub list_contexts_are_worlds : {A R : Type 0} → ListContextsAreWorlds A R
list_contexts_are_worlds same right f apart gs h C e = worlds_are_right same C right (near same f apart gs h C e right)
