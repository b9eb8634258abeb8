-- References in the groups of a list, and matching of lists place by place.
use Rattle.std.proofs.Common.{◌≡◌, refl, sym, ap, subst, ◌∙◌, ℕ, zero, suc, ◌+◌, ◌<◌, ◌≤◌, Bool, true, false, true≢false, List, [], ◌∷◌, ◌++◌, map, length, get_or, Option, All, arith, ⊎_elim}
use Rattle.std.specs.Bool.{Decides}
use Rattle.std.specs.List.{AllZip, flat_map, slice_index_or}
use Rattle.std.proofs.lemmas.List.Elements.{All-head, All-tail, All-cons, All-nil, All-weaker, AllZip-get_or, at_read}
use Rattle.std.proofs.lemmas.Bool.{cases_lt}
use Rattle.std.specs.declared.ops.Range.{Range}
use Rattle.wasm_readers_errors.specs.WasmSpec.Syntax.{Field, Sub}
use Rattle.wasm_readers_types.specs.WasmReadersValues.Indices.{number_of}
use Rattle.wasm_readers_types.specs.WasmReadersValues.declared.indices.TheConstants.{MAX_IDS}
use Rattle.wasm_readers_types.specs.WasmReadersValues.declared.indices.CoreTypeId.{CoreTypeId}
use Rattle.wasm_readers_types.specs.WasmReadersValues.declared.indices.UnpackedIndex.{UnpackedIndex}
use Rattle.wasm_readers_types.specs.WasmReadersValues.declared.indices.UnpackedIndex.TheVariants.{Module, RecGroup, Id}
use Rattle.wasm_readers_types.specs.WasmReadersValues.SeenValues.{val_of, field_of}
use Rattle.wasm_readers_types.specs.SeenTypes.{comp_of}
use Rattle.wasm_readers_types.specs.WasmReadersValues.declared.values.ValType.{ValType}
use Rattle.wasm_readers_types.specs.WasmReadersValues.declared.values.FieldType.{FieldType}
use Rattle.wasm_readers_types.specs.declared.types.FuncType.{FuncType}
use Rattle.wasm_readers_types.specs.declared.types.StructType.{StructType}
use Rattle.wasm_readers_types.specs.declared.types.CompositeInnerType.{CompositeInnerType}
use Rattle.wasm_readers_types.specs.declared.types.CompositeInnerType.TheVariants.{Func, Struct}
use Rattle.wasm_readers_types.specs.declared.types.SubType.{SubType}
use Rattle.wasm_validator_type_list.specs.declared.type_list.TypeList.TheInside.{Inside}
use Rattle.wasm_validator_type_ancestors.specs.WasmValidatorTypeGroups.Groups.{all_in, first_of}
use Rattle.wasm_validator_type_ancestors.specs.WasmValidatorTypeGroups.Spans.{span}
use Rattle.wasm_validator_type_list.specs.ListViews.{Listing, types_in}
use Rattle.wasm_validator_type_list.specs.Lookups.{leads_to}
use Rattle.wasm_validator_type_list.specs.GroupTypes.{leads_in, IsKnownIn, AreIn}
use Rattle.wasm_validator_type_list.specs.ListSoundness.{shown, IsSound}
use Rattle.wasm_validator_type_list.proofs.DefTypes.{first_of-within}
use Rattle.wasm_readers_errors.specs.WasmSpec.Matching.{MatchesField, MatchesFields}
use Rattle.wasm_readers_errors.specs.WasmSpec.References.{refs_val, refs_field, refs_comp}

-- all of two lists, one behind the other
pub all-left : {X : Type 0} (P : X → Type 0) (xs ys : List X) → All P (xs ++ ys) → All P xs
all-left P [] ys h = All-nil P
all-left P (x ∷ xs) ys h = All-cons P x xs (All-head P x (xs ++ ys) h) (all-left P xs ys (All-tail P x (xs ++ ys) h))

pub all-right : {X : Type 0} (P : X → Type 0) (xs ys : List X) → All P (xs ++ ys) → All P ys
all-right P [] ys h = h
all-right P (x ∷ xs) ys h = all-right P xs ys (All-tail P x (xs ++ ys) h)

-- all of the lists that items give
pub all-flat : {X Y Z : Type 0} (P : Z → Type 0) (f : Y → List Z) (g : X → Y) (xs : List X) → All P (flat_map f (map g xs)) → All (λ x. All P (f (g x))) xs
all-flat P f g [] h = All-nil (λ x. All P (f (g x)))
all-flat P f g (x ∷ xs) h = All-cons (λ y. All P (f (g y))) x xs (all-left P (f (g x)) (flat_map f (map g xs)) h) (all-flat P f g xs (all-right P (f (g x)) (flat_map f (map g xs)) h))

-- a relation of two lists of one length, by places
pub zip-from : {X Y : Type 0} (R : X → Y → Type 0) (xs : List X) (ys : List Y) → length xs ≡ length ys → ((k : ℕ) (d : X) (e : Y) → k < length xs → R (get_or xs k d) (get_or ys k e)) → AllZip R xs ys
zip-from R [] [] e h = tt
zip-from R [] (y ∷ ys) e h = absurd (omega (arith, e))
zip-from R (x ∷ xs) [] e h = absurd (omega (arith, e))
zip-from R (x ∷ xs) (y ∷ ys) e h = (h 0 x y (omega arith), zip-from R xs ys (omega (arith, e)) (λ k d f l. h (suc k) d f (omega (arith, l))))

-- an item of a list of which something holds
pub item_holds : {X : Type 0} (P : X → Type 0) (xs : List X) (i : ℕ) (x : X) → All P xs → i < length xs → x ≡ slice_index_or xs i x → P x
item_holds P xs i x h l e = subst P (sym e) (h i x l)

-- so many places of two lists
module _ {X : Type 0} (R : X → X → Type 0) (xs ys : List X) where
  abbrev pub Below : ℕ → Type 0
  Below n = (k : ℕ) (d e : X) → k < n → R (get_or xs k d) (get_or ys k e)

  pub below-more : (i : ℕ) (x y : X) → i < length xs → i < length ys → x ≡ slice_index_or xs i x → y ≡ slice_index_or ys i y → R x y → Below i → Below (i + 1)
  below-more i x y l m f g r h k d e lt = ⊎_elim
      (λ (less : k < i). h k d e less)
      (λ (more : i ≤ k).
      let s : i ≡ k = omega (arith, lt, more) in
      subst (λ j. R (get_or xs j d) (get_or ys j e)) s (at_read xs (λ a. R a (get_or ys i e)) i x l f (at_read ys (R x) i y m g r e) d))
      (cases_lt k i)

  pub zip-all : (n : ℕ) → length xs ≡ length ys → length xs ≤ n → Below n → Decides true (AllZip R xs ys)
  zip-all n e l h = ((λ _. zip-from R xs ys e (λ k d f m. h k d f (omega (arith, m, l)))), (λ _. refl))

  pub zip-miss : (i : ℕ) (x y : X) (r : Bool) → i < length xs → x ≡ slice_index_or xs i x → y ≡ slice_index_or ys i y → Decides r (R x y) → r ≡ false → Decides false (AllZip R xs ys)
  zip-miss i x y r l f g d e = (
    (λ t. absurd (true≢false (sym t))),
    (λ z. sym e ∙ d.1 (subst (λ a. R a y) (sym f) (subst (λ b. R (get_or xs i x) b) (sym g) (AllZip-get_or R xs ys i x y z l)))),
  )

-- fields by places
module _ {X : Type 0} (D : ℕ → Option (Sub ℕ)) (f g : X → Field ℕ) where
  fields-from : (xs ys : List X) → length ys ≤ length xs → ((k : ℕ) (d e : X) → k < length ys → MatchesField D (f (get_or xs k d)) (g (get_or ys k e))) → MatchesFields D (map f xs) (map g ys)
  fields-from [] [] l h = tt
  fields-from (x ∷ xs) [] l h = tt
  fields-from [] (y ∷ ys) l h = absurd (omega (arith, l))
  fields-from (x ∷ xs) (y ∷ ys) l h = (h 0 x y (omega arith), fields-from xs ys (omega (arith, l)) (λ k d e m. h (suc k) d e (omega (arith, m))))

  fields-long : (xs ys : List X) → MatchesFields D (map f xs) (map g ys) → length ys ≤ length xs
  fields-long [] [] h = omega arith
  fields-long (x ∷ xs) [] h = omega arith
  fields-long [] (y ∷ ys) h = absurd h
  fields-long (x ∷ xs) (y ∷ ys) h = let l = fields-long xs ys h.1 in omega (arith, l)

  fields-at : (xs ys : List X) (k : ℕ) (d e : X) → k < length ys → MatchesFields D (map f xs) (map g ys) → MatchesField D (f (get_or xs k d)) (g (get_or ys k e))
  fields-at xs [] k d e l h = absurd (omega (arith, l))
  fields-at [] (y ∷ ys) k d e l h = absurd h
  fields-at (x ∷ xs) (y ∷ ys) zero d e l h = h.0
  fields-at (x ∷ xs) (y ∷ ys) (suc k) d e l h = fields-at xs ys k d e (omega (arith, l)) h.1

  pub fields-all : (xs ys : List X) (n : ℕ) → length ys ≤ length xs → length ys ≤ n → Below (λ x y. MatchesField D (f x) (g y)) xs ys n → Decides true (MatchesFields D (map f xs) (map g ys))
  fields-all xs ys n e l h = ((λ _. fields-from xs ys e (λ k d f m. h k d f (omega (arith, m, l)))), (λ _. refl))

  pub fields-miss : (xs ys : List X) (i : ℕ) (x y : X) (r : Bool) → i < length ys → x ≡ slice_index_or xs i x → y ≡ slice_index_or ys i y → Decides r (MatchesField D (f x) (g y)) → r ≡ false → Decides false (MatchesFields D (map f xs) (map g ys))
  fields-miss xs ys i x y r l u v d e = (
    (λ t. absurd (true≢false (sym t))),
    (λ z. sym e ∙ d.1 (subst (λ a. MatchesField D (f a) (g y)) (sym u) (subst (λ b. MatchesField D (f (get_or xs i x)) (g b)) (sym v) (fields-at xs ys i x y l z)))),
  )

  pub fields-short : (xs ys : List X) → length xs < length ys → Decides false (MatchesFields D (map f xs) (map g ys))
  fields-short xs ys l = ((λ t. absurd (true≢false (sym t))), (λ z. let m : length ys ≤ length xs = fields-long xs ys z in absurd (omega (arith, l, m))))

-- lists of which each item is seen as something, twice
module _ {X Y Z : Type 0} (R : Z → Z → Type 0) (v : X → Y) (f g : Y → Z) where
  pub zip-seen : (xs ys : List X) → AllZip (λ x y. R (f (v x)) (g (v y))) xs ys → AllZip R (map f (map v xs)) (map g (map v ys))
  zip-seen [] [] h = tt
  zip-seen [] (y ∷ ys) h = absurd h
  zip-seen (x ∷ xs) [] h = absurd h
  zip-seen (x ∷ xs) (y ∷ ys) h = (h.0, zip-seen xs ys h.1)

  pub zip-unseen : (xs ys : List X) → AllZip R (map f (map v xs)) (map g (map v ys)) → AllZip (λ x y. R (f (v x)) (g (v y))) xs ys
  zip-unseen [] [] h = tt
  zip-unseen [] (y ∷ ys) h = absurd h
  zip-unseen (x ∷ xs) [] h = absurd h
  zip-unseen (x ∷ xs) (y ∷ ys) h = (h.0, zip-unseen xs ys h.1)

-- where known references lead
module _ {A : Type 0} where
  known_below : (gs : List (List (SubType A))) (k : ℕ) (r : UnpackedIndex) → IsKnownIn gs k r → (leads_in gs k r < length (all_in gs)) × (number_of r ≤ length (all_in gs))
  known_below gs k (Module i) h = absurd h
  known_below gs k (RecGroup i) h = (omega (arith, h, first_of-within gs (k + 1)), omega (arith, h, first_of-within gs (k + 1)))
  known_below gs k (Id id) h = (omega (arith, h, first_of-within gs k), omega (arith, h, first_of-within gs k))

  pub known_room : (a : Inside A) (l : Listing A) (n k : ℕ) (ids : Range CoreTypeId) (r : UnpackedIndex) → shown a ≡ l → IsSound a → n ≡ k → ids ≡ span (first_of a.groups n) (first_of a.groups (n + 1))
      → IsKnownIn l.groups k r → ids.start.index + number_of r ≤ MAX_IDS + MAX_IDS
  known_room a l n k ids r view h e f known =
      let here : IsKnownIn a.groups k r = subst (λ (m : Listing A). IsKnownIn m.groups k r) (sym view) known in
      let start : ids.start.index ≡ first_of a.groups n = ap (λ (i : Range CoreTypeId). i.start.index) f in
      let less : number_of r ≤ length (all_in a.groups) = (known_below a.groups k r here).1 in
      omega (arith, start, first_of-within a.groups n, h.room, less)

  pub known_there : (a : Inside A) (l : Listing A) (n k : ℕ) (ids : Range CoreTypeId) (r : UnpackedIndex) (id : CoreTypeId) → shown a ≡ l → n ≡ k → ids ≡ span (first_of a.groups n) (first_of a.groups (n + 1))
      → IsKnownIn l.groups k r → id.index ≡ leads_to ids.start.index r → id.index < length (types_in l)
  known_there a l n k ids r id view e f known g =
      let start : ids.start.index ≡ first_of l.groups k = ap (λ (i : Range CoreTypeId). i.start.index) f ∙ (λ i. first_of (view i).groups (e i)) in
      let below : leads_in l.groups k r < length (all_in l.groups) = (known_below l.groups k r known).0 in
      let same : id.index ≡ leads_in l.groups k r = g ∙ ap (λ m. leads_to m r) start in
      omega (arith, below, same)

  -- what the parts of a composite type mention
  pub params_in : (gs : List (List (SubType A))) (k : ℕ) (c : CompositeInnerType A) (f : FuncType A) (ps : List ValType) → AreIn gs k (refs_comp (comp_of c)) → c ≡ Func f → ps ≡ f.params → All (λ v. AreIn gs k (refs_val (val_of v))) ps
  params_in gs k c f ps h e g =
      let known : All (IsKnownIn gs k) (flat_map refs_val (map val_of f.params) ++ flat_map refs_val (map val_of f.results)) = subst (λ i. All (IsKnownIn gs k) (refs_comp (comp_of i))) e h.known in
      rw g (All-weaker (λ v. All (IsKnownIn gs k) (refs_val (val_of v))) (λ v. AreIn gs k (refs_val (val_of v))) (λ v m. record { there = h.there; known = m }) f.params
      (all-flat (IsKnownIn gs k) refs_val val_of f.params (all-left (IsKnownIn gs k) (flat_map refs_val (map val_of f.params)) (flat_map refs_val (map val_of f.results)) known)))

  pub results_in : (gs : List (List (SubType A))) (k : ℕ) (c : CompositeInnerType A) (f : FuncType A) (rs : List ValType) → AreIn gs k (refs_comp (comp_of c)) → c ≡ Func f → rs ≡ f.results → All (λ v. AreIn gs k (refs_val (val_of v))) rs
  results_in gs k c f rs h e g =
      let known : All (IsKnownIn gs k) (flat_map refs_val (map val_of f.params) ++ flat_map refs_val (map val_of f.results)) = subst (λ i. All (IsKnownIn gs k) (refs_comp (comp_of i))) e h.known in
      rw g (All-weaker (λ v. All (IsKnownIn gs k) (refs_val (val_of v))) (λ v. AreIn gs k (refs_val (val_of v))) (λ v m. record { there = h.there; known = m }) f.results
      (all-flat (IsKnownIn gs k) refs_val val_of f.results (all-right (IsKnownIn gs k) (flat_map refs_val (map val_of f.params)) (flat_map refs_val (map val_of f.results)) known)))

  pub fields_in : (gs : List (List (SubType A))) (k : ℕ) (c : CompositeInnerType A) (s : StructType A) (fs : List FieldType) → AreIn gs k (refs_comp (comp_of c)) → c ≡ Struct s → fs ≡ s.fields → All (λ f. AreIn gs k (refs_field (field_of f))) fs
  fields_in gs k c s fs h e g =
      let known : All (IsKnownIn gs k) (flat_map refs_field (map field_of s.fields)) = subst (λ i. All (IsKnownIn gs k) (refs_comp (comp_of i))) e h.known in
      rw g (All-weaker (λ f. All (IsKnownIn gs k) (refs_field (field_of f))) (λ f. AreIn gs k (refs_field (field_of f))) (λ f m. record { there = h.there; known = m }) s.fields
      (all-flat (IsKnownIn gs k) refs_field field_of s.fields known))
