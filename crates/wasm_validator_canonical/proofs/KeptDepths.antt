-- The depths that a list keeps, as those of a group's types are put into it one by one.
use Rattle.std.proofs.Common.{◌≡◌, refl, sym, ap, subst, ◌∙◌, ⊎_elim, ℕ, zero, suc, ◌+◌, ◌-◌, ◌≤◌, ◌<◌, Bool, true, false, true≢false, cond, List, [], ◌∷◌, length, Option, Some, None, IsSome, All, arith}
use Rattle.std.specs.Prelude.{OnOk, OnErr}
use Rattle.std.specs.declared.result.Result.{Result}
use Rattle.std.specs.declared.result.Result.TheVariants.{Ok, Err}
use Rattle.std.specs.FinMap.Entries.{find-put}
use Rattle.std.specs.Ordering.{nat_cmp, eq_by_cmp}
use Rattle.std.specs.Cmp.{unsigned_tied, nat_cmp_total}
use Rattle.std.specs.Option.{SomeIff}
use Rattle.std.proofs.lemmas.Bool.{cases_lt}
use Rattle.std.proofs.lemmas.Bool.Decides.{Decides-eqb}
use Rattle.std.proofs.lemmas.List.Elements.{All-nil, All-cons}
use Rattle.std.proofs.lemmas.Option.{none-some, slice_get_within}
use Rattle.wasm_spec.specs.SupertypeOrder.{supertype_of, IsDepth}
use Rattle.wasm_spec.specs.Features.{Features}
use Rattle.wasm_spec.proofs.Depths.{depths_are_small}
use Rattle.wasm_readers_types.specs.WasmReadersValues.declared.indices.CoreTypeId.{CoreTypeId}
use Rattle.wasm_readers_types.specs.declared.types.SubType.{SubType}
use Rattle.wasm_validator_type_list.specs.WasmValidatorTypeGroups.Elements.{numbers_from}
use Rattle.wasm_validator_type_list.specs.WasmValidatorTypeGroups.Groups.{first_of}
use Rattle.wasm_validator_type_list.specs.DeclarationsById.{declares}
use Rattle.wasm_validator_type_list.specs.Depths.{depth_of, with_depth}
use Rattle.wasm_validator_type_list.specs.GroupInterning.{Interns}
use Rattle.wasm_validator_type_list.specs.GroupOrder.{AreListable}
use Rattle.wasm_validator_type_list.specs.DefTypes.{def_types}
use Rattle.wasm_validator_type_list.specs.ListViews.{Listing, with_depths}
use Rattle.wasm_validator_type_list.specs.Lookups.{IsSupertypeAt}
use Rattle.wasm_validator_type_list.proofs.IdDeclarations.{supertype_read, descends}
use Rattle.wasm_validator_type_list.proofs.Depths.{found-put}
use Rattle.wasm_validator_canonical.specs.Depths.{HasDepthAbove, KeepsDepth, StillKept, FitsByte}
use Rattle.wasm_validator_canonical.specs.Groups.{AreValid}
use Rattle.wasm_validator_canonical.specs.GroupInterning.{InternsUnder}
use Rattle.wasm_validator_canonical.proofs.CheckedGroups.{group_valid}
use Rattle.wasm_validator_canonical.proofs.DepthsOfIds.{next_depth}
use Rattle.wasm_validator_canonical.proofs.InternedIds.{there, first_of_next}

-- what an answer says of a list, in other words
pub then_ok : {X E P Q : Type 0} (r : Result X E) → (P → Q) → OnOk r P → OnOk r Q
then_ok (Ok x) f p = f p
then_ok (Err e) f p = tt

pub either_way : {X E P Q R : Type 0} (r : Result X E) → (P → R) → (Q → R) → OnOk r P → OnErr r Q → R
either_way (Ok x) f g p q = f p
either_way (Err e) f g p q = g q

-- numbers in a row
pub all_numbers : (P : ℕ → Type 0) (n k : ℕ) → ((j : ℕ) → n ≤ j → j < n + k → P j) → All P (numbers_from n k)
all_numbers P n zero h = All-nil P
all_numbers P n (suc k) h =
    All-cons P n (numbers_from (n + 1) k) (h n (omega arith) (omega arith)) (all_numbers P (n + 1) k (λ j l m. h j (omega (arith, l)) (omega (arith, m))))

-- the next of numbers in a row, and those behind it
pub next_number : (n k x : ℕ) (rest : List ℕ) → numbers_from n k ≡ x ∷ rest → (0 < k) × (x ≡ n) × (rest ≡ numbers_from (n + 1) (k - 1))
next_number n zero x rest e = let e : [] ≡ x ∷ rest = e in absurd (cc)
next_number n (suc k) x rest e =
    let e : n ∷ numbers_from (n + 1) k ≡ x ∷ rest = e in
    let s : suc k - 1 ≡ k = omega arith in
    (omega arith, (cc), let r : rest ≡ numbers_from (n + 1) k = cc in r ∙ ap (numbers_from (n + 1)) (sym s))

pub no_number : (n k : ℕ) → numbers_from n k ≡ [] → k ≡ 0
no_number n zero e = refl
no_number n (suc k) e = let e : n ∷ numbers_from (n + 1) k ≡ [] = e in absurd (cc)

-- a depth more changes no other
put_apart : (id other : ℕ) (b : Bool) (n : ℕ) (o : Option ℕ) → (b ≡ true → other ≡ id) → (other ≡ id → ⊥) → cond b (Some n) o ≡ o
put_apart id other true n o same apart = absurd (apart (same refl))
put_apart id other false n o same apart = refl

found-other : (depths : List (ℕ × ℕ)) (id n other : ℕ) → (other ≡ id → ⊥) → depth_of (with_depth depths id n) other ≡ depth_of depths other
found-other depths id n other apart =
    find-put nat_cmp nat_cmp_total other id n depths
    ∙ put_apart id other (eq_by_cmp nat_cmp other id) n (depth_of depths other) (λ b. (Decides-eqb other id).0 (sym (unsigned_tied other id) ∙ b)) apart

some_is : (o : Option ℕ) (n : ℕ) → o ≡ Some n → IsSome o
some_is o n e = subst (λ (p : Option ℕ). IsSome p) (sym e) refl

not_none : (o : Option ℕ) → o ≡ None → IsSome o → ⊥
not_none o e h = let h : IsSome {T = ℕ} None = subst (λ (p : Option ℕ). IsSome p) e h in true≢false (sym h)

module _ {A : Type 0} where
  -- the depth is known, where that of what is extended is
  pub known_above : (l : Listing A) (id : ℕ) (above : CoreTypeId) (depth : ℕ) (o : Option ℕ) → IsSupertypeAt l.groups id (Some above) → IsDepth (declares l.groups) above.index depth
      → SomeIff o (depth + 1 < 256) (depth + 1) → FitsByte l id → IsSome o
  known_above l id above depth (Some d) h r s f = refl
  known_above l id above depth None h r s f = absurd (s (let k : suc depth < 256 = f (suc depth) (next_depth l.groups id above depth h r) in omega (arith, k)))

  pub none_above : (l : Listing A) (id : ℕ) (above : CoreTypeId) (P : Type 0) → IsSupertypeAt l.groups id (Some above) → depth_of l.depths above.index ≡ None → HasDepthAbove l id → P
  none_above l id above P h none has = absurd (not_none (depth_of l.depths above.index) none (has above.index (supertype_read l.groups id (Some above) h)))

  -- a depth is put into the list
  pub put_kept : (l m : Listing A) (id n : ℕ) → m ≡ with_depths l (with_depth l.depths id n) → KeepsDepth m id
  put_kept l m id n e _ = some_is (depth_of m.depths id) n (ap (λ (k : Listing A). depth_of k.depths id) e ∙ found-put l.depths id n)

  pub put_others : (l m : Listing A) (id n other : ℕ) → m ≡ with_depths l (with_depth l.depths id n) → (other ≡ id → ⊥) → depth_of m.depths other ≡ depth_of l.depths other
  put_others l m id n other e apart = ap (λ (k : Listing A). depth_of k.depths other) e ∙ found-other l.depths id n other apart

  pub put_earlier : (l m : Listing A) (id n : ℕ) → depth_of l.depths id ≡ None → m ≡ with_depths l (with_depth l.depths id n) → StillKept l m
  put_earlier l m id n none e other d there =
      put_others l m id n other e (λ same. none-some d (sym none ∙ ap (depth_of l.depths) (sym same) ∙ there)) ∙ there

  pub same_others : (l m : Listing A) (other : ℕ) → m ≡ l → depth_of m.depths other ≡ depth_of l.depths other
  same_others l m other e = ap (λ (k : Listing A). depth_of k.depths other) e

  pub same_earlier : (l m : Listing A) → m ≡ l → StillKept l m
  same_earlier l m e other d there = same_others l m other e ∙ there

  pub earlier_both : (l m k : Listing A) → StillKept l m → StillKept m k → StillKept l k
  earlier_both l m k a b other d there = b other d (a other d there)

  -- a type before the one whose depth is put into the list keeps what it kept, since what it extends comes before it
  still_keeps : (l m : Listing A) (id j : ℕ) → AreListable l.groups → m.groups ≡ l.groups → ((other : ℕ) → (other ≡ id → ⊥) → depth_of m.depths other ≡ depth_of l.depths other) → j < id → KeepsDepth l j → KeepsDepth m j
  still_keeps l m id j listable same others lt keeps has =
      let D = declares l.groups in
      let before : HasDepthAbove l j = λ above e.
      let down : above < j = descends l.groups listable j above e in
      let there : IsSome (depth_of m.depths above) = has above (ap (λ gs. supertype_of (declares gs) j) same ∙ e) in
      subst (λ (o : Option ℕ). IsSome o) (others above (λ i. absurd (omega (arith, down, lt, i)))) there in
      subst (λ (o : Option ℕ). IsSome o) (sym (others j (λ i. absurd (omega (arith, lt, i))))) (keeps before)

  -- so many of the types from this id on keep their depths
  abbrev pub KeepFrom : Listing A → ℕ → ℕ → Type 0
  KeepFrom l n m = (j : ℕ) → n ≤ j → j < n + m → KeepsDepth l j

  pub none_kept : (l : Listing A) (n : ℕ) → KeepFrom l n 0
  none_kept l n j a b = absurd (omega (arith, a, b))

  pub one_kept : (l m : Listing A) (n count x : ℕ) → AreListable l.groups → m.groups ≡ l.groups → ((other : ℕ) → (other ≡ x → ⊥) → depth_of m.depths other ≡ depth_of l.depths other)
      → x ≡ n + count → KeepFrom l n count → KeepsDepth m x → KeepFrom m n (count + 1)
  one_kept l m n count x listable same others at before here j a b = ⊎_elim
      (λ (less : j < x). still_keeps l m x j listable same others less (before j a (omega (arith, less, at))))
      (λ (more : x ≤ j). let e : x ≡ j = omega (arith, b, at, more) in subst (KeepsDepth m) e here)
      (cases_lt j x)

  -- so many of the ids in a row are done, and these are left
  pub record KeptSoFar (l : Listing A) (n k : ℕ) (left : List ℕ) : Type 0 where
    pub count : ℕ
    pub within : count ≤ k
    pub are_left : left ≡ numbers_from (n + count) (k - count)
    pub kept : KeepFrom l n count

  pub kept_at_first : (l : Listing A) (n k : ℕ) → KeptSoFar l n k (numbers_from n k)
  kept_at_first l n k =
      let a : n ≡ n + 0 = omega arith in
      let b : k ≡ k - 0 = omega arith in
      record { count = 0; within = omega arith; are_left = λ i. numbers_from (a i) (b i); kept = none_kept l n }

  pub kept_next : (l m : Listing A) (n k x : ℕ) (left rest : List ℕ) → AreListable l.groups → m.groups ≡ l.groups → ((other : ℕ) → (other ≡ x → ⊥) → depth_of m.depths other ≡ depth_of l.depths other)
      → KeepsDepth m x → left ≡ x ∷ rest → KeptSoFar l n k left → KeptSoFar m n k rest
  kept_next l m n k x left rest listable same others here e so =
      let next = next_number (n + so.count) (k - so.count) x rest (sym so.are_left ∙ e) in
      let more = next.0 in
      let a : n + so.count + 1 ≡ n + (so.count + 1) = omega arith in
      let b : k - so.count - 1 ≡ k - (so.count + 1) = omega arith in
      record {
        count = so.count + 1;
        within = omega (arith, more);
        are_left = next.2 ∙ (λ i. numbers_from (a i) (b i));
        kept = one_kept l m n so.count x listable same others next.1 so.kept here;
      }

  pub kept_at_last : (l : Listing A) (n k : ℕ) (left : List ℕ) → left ≡ [] → KeptSoFar l n k left → All (KeepsDepth l) (numbers_from n k)
  kept_at_last l n k left e so =
      let none = no_number (n + so.count) (k - so.count) (sym so.are_left ∙ e) in
      let within = so.within in
      all_numbers (KeepsDepth l) n k (λ j a b. so.kept j a (omega (arith, b, none, within)))

  -- what fits in one list fits in another of the same groups
  pub fits_same : (l m : Listing A) (id : ℕ) → m.groups ≡ l.groups → FitsByte l id → FitsByte m id
  fits_same l m id same f n d = f n (subst (λ gs. IsDepth (declares gs) id n) same d)

  -- the types of a group of a list of valid types have few ancestors
  pub interned_fits : (F : Features) (old new : Listing A) (g : List (SubType A)) (ids : List ℕ) → new.is_canonical ≡ old.is_canonical → InternsUnder old new g ids → AreListable new.groups
      → AreValid F (def_types new.is_canonical new.groups) → All (FitsByte new) ids
  interned_fits F old new g ids mode h listable v =
      let here = there old new g h.is_new h.group h.interned in
      let next = first_of_next new.groups h.group g here in
      let valid = group_valid F new.is_canonical new.groups h.group listable (λ e. h.once (sym mode ∙ e)) v in
      subst (All (FitsByte new)) (sym h.are_ids)
      (all_numbers (FitsByte new) (first_of new.groups h.group) (length g)
      (λ j from below n d.
      let one = valid j (record { there = slice_get_within new.groups h.group g here; from = from; below = omega (arith, below, next) }) in
      let small : n ≤ 63 = depths_are_small.few_ancestors F (declares new.groups) j n one d in
      omega (arith, small)))

  -- interning a group changes no depth
  same_depths : (old new : Listing A) (g : List (SubType A)) (is_new : Bool) (n : ℕ) → Interns old new g is_new n → new.depths ≡ old.depths
  same_depths old new g true n i = ap (λ (l : Listing A). l.depths) (i.added refl)
  same_depths old new g false n i = ap (λ (l : Listing A). l.depths) (i.known refl)

  pub interned_earlier : (old new : Listing A) (g : List (SubType A)) (ids : List ℕ) → InternsUnder old new g ids → StillKept old new
  interned_earlier old new g ids h id n e = ap (λ depths. depth_of depths id) (same_depths old new g h.is_new h.group h.interned) ∙ e
