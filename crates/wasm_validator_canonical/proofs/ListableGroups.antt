-- Groups that close may be interned.
use Rattle.std.proofs.Common.{◌≡◌, refl, sym, ap, subst, ◌∙◌, ℕ, zero, suc, ◌+◌, ◌-◌, ◌<◌, ◌≤◌, Bool, true, false, not, ◌&&◌, ◌||◌, eqb, ltb, List, [], ◌∷◌, ◌++◌, map, length, slice_get, Option, Some, None, All, arith}
use Rattle.std.specs.List.{list_all}
use Rattle.std.proofs.lemmas.Bool.{eqb-true, ltb-true, leb-true}
use Rattle.std.proofs.lemmas.List.{length-map}
use Rattle.std.proofs.lemmas.List.Elements.{All-nil, All-cons, All-head, All-tail, All-append}
use Rattle.std.proofs.lemmas.List.Folds.{list_all-append}
use Rattle.std.proofs.lemmas.Option.{none-some, same_Some}
use Rattle.wasm_spec.specs.Syntax.{Sub, Rec, map_sub}
use Rattle.wasm_spec.specs.References.{refs_option, refs_comp, refs_sub}
use Rattle.wasm_spec.specs.Features.{Features, canonical}
use Rattle.wasm_spec.proofs.ClosedGroups.{refs_option-map, refs_comp-map}
use Rattle.wasm_readers_types.specs.WasmReadersValues.declared.indices.PackedIndex.{PackedIndex}
use Rattle.wasm_readers_types.specs.WasmReadersValues.declared.indices.UnpackedIndex.{UnpackedIndex}
use Rattle.wasm_readers_types.specs.WasmReadersValues.declared.indices.UnpackedIndex.TheVariants.{Module, RecGroup, Id}
use Rattle.wasm_readers_types.specs.declared.types.SubType.{SubType}
use Rattle.wasm_readers_types.specs.WasmReadersValues.SeenValues.{index_of}
use Rattle.wasm_readers_types.specs.SeenTypes.{sub_of}
use Rattle.wasm_validator_type_list.specs.GroupOrder.{IsKnown, IsListable}
use Rattle.wasm_validator_canonical.specs.Groups.{has_form, closes}
use Rattle.wasm_validator_canonical.specs.Indices.{use_of_index, canonical_index, canonical_group, is_known, is_earlier, is_bound, are_bound, extends_at_most_one}
use Rattle.wasm_validator_canonical.proofs.CanonicalTypes.{and_left, and_right}
use Rattle.wasm_validator_canonical.proofs.Bounds.{closes_is}

-- ids that are there, and indices past them
pub id_known : (n : ℕ) (ids : List ℕ) → All (λ id. id < n) ids → (k id : ℕ) → slice_get ids k ≡ Some id → id < n
id_known n [] a k id e = absurd (none-some id e)
id_known n (i ∷ ids) a zero id e = subst (λ m. m < n) (same_Some i id e) (All-head (λ m. m < n) i ids a)
id_known n (i ∷ ids) a (suc k) id e = id_known n ids (All-tail (λ m. m < n) i ids a) k id e

past : (ids : List ℕ) (k : ℕ) → slice_get ids k ≡ None → length ids ≤ k
past [] k e = omega arith
past (i ∷ ids) zero e = absurd (none-some i (sym e))
past (i ∷ ids) (suc k) e = let h = past ids k e in omega (arith, h)

below_end : (gc : Bool) (start count k : ℕ) (a : Bool) → a ≡ ltb k start → (a || (gc && ltb k (start + count))) ≡ true → k < start + count
below_end gc start count k true e h = let l : k < start = ltb-true k start (sym e) in omega (arith, l)
below_end true start count k false e h = ltb-true k (start + count) h
below_end false start count k false e h = absurd cc

-- a position among fewer is one among more
widened : (n p q : ℕ) → p ≤ q → (u : UnpackedIndex) → IsKnown n p u → IsKnown n q u
widened n p q l (Module k) h = absurd h
widened n p q l (RecGroup i) h = omega (arith, l, h)
widened n p q l (Id id) h = h

module _ (n count : ℕ) (gc : Bool) (ids : List ℕ) (below : All (λ i. i < n) ids) where
  abbrev start : ℕ
  start = length ids

  abbrev end : ℕ
  end = length ids + count

  abbrev as_listed : UnpackedIndex → UnpackedIndex
  as_listed = canonical_index ids

  use_before : (p k : ℕ) (o : Option ℕ) → slice_get ids k ≡ o → k < start + p → IsKnown n p (use_of_index o (k - start))
  use_before p k (Some id) e h = id_known n ids below k id e
  use_before p k None e h = let l = past ids k e in omega (arith, l, h)

  index_earlier : (p : ℕ) (u : UnpackedIndex) → is_earlier (start + p) u ≡ true → IsKnown n p (as_listed u)
  index_earlier p (Module k) h = use_before p k (slice_get ids k) refl (ltb-true k (start + p) h)
  index_earlier p (RecGroup i) h = absurd cc
  index_earlier p (Id id) h = absurd cc

  index_known : (u : UnpackedIndex) → is_known gc start end u ≡ true → IsKnown n count (as_listed u)
  index_known (Module k) h = use_before count k (slice_get ids k) refl (below_end gc start count k (ltb k start) refl h)
  index_known (RecGroup i) h = absurd cc
  index_known (Id id) h = absurd cc

  each_of : (p : UnpackedIndex → Bool) (Q : UnpackedIndex → Type 0) → ((u : UnpackedIndex) → p u ≡ true → Q (as_listed u)) → (us : List UnpackedIndex) → list_all p us ≡ true → All Q (map as_listed us)
  each_of p Q f [] h = All-nil Q
  each_of p Q f (u ∷ us) h =
      All-cons Q (as_listed u) (map as_listed us) (f u (and_left (p u) (list_all p us) h)) (each_of p Q f us (and_right (p u) (list_all p us) h))

  -- the references of a type at a position
  module _ (p : ℕ) (l : p ≤ count) (t : Sub UnpackedIndex) (h : is_bound gc start end (start + p) t ≡ true) where
    abbrev others : List UnpackedIndex
    others = refs_option t.descriptor ++ refs_comp t.comp

    abbrev listed : Sub UnpackedIndex
    listed = map_sub as_listed t

    abbrev extends_earlier : Bool
    extends_earlier = list_all (is_earlier (start + p)) t.supers

    abbrev describes_earlier : Bool
    describes_earlier = list_all (is_earlier (start + p)) (refs_option t.describes)

    abbrev knows_others : Bool
    knows_others = list_all (is_known gc start end) others

    supers_earlier : All (IsKnown n p) listed.supers
    supers_earlier = each_of (is_earlier (start + p)) (IsKnown n p) (index_earlier p) t.supers (and_left extends_earlier (describes_earlier && knows_others) h)

    wide : (u : UnpackedIndex) → is_earlier (start + p) u ≡ true → IsKnown n count (as_listed u)
    wide u e = widened n p count l (as_listed u) (index_earlier p u e)

    sub_known : All (IsKnown n count) (refs_sub listed)
    sub_known =
        let Q = IsKnown n count in
        let rest = and_right extends_earlier (describes_earlier && knows_others) h in
        let a = each_of (is_earlier (start + p)) Q wide t.supers (and_left extends_earlier (describes_earlier && knows_others) h) in
        let b = each_of (is_earlier (start + p)) Q wide (refs_option t.describes) (and_left describes_earlier knows_others rest) in
        let known = and_right describes_earlier knows_others rest in
        let split = list_all-append (is_known gc start end) (refs_option t.descriptor) (refs_comp t.comp) in
        let d = each_of (is_known gc start end) Q index_known (refs_option t.descriptor) (and_left _ (list_all (is_known gc start end) (refs_comp t.comp)) (sym split ∙ known)) in
        let c = each_of (is_known gc start end) Q index_known (refs_comp t.comp) (and_right (list_all (is_known gc start end) (refs_option t.descriptor)) _ (sym split ∙ known)) in
        All-append Q listed.supers (refs_option listed.describes ++ (refs_option listed.descriptor ++ refs_comp listed.comp)) a
        (All-append Q (refs_option listed.describes) (refs_option listed.descriptor ++ refs_comp listed.comp) (subst (All Q) (sym (refs_option-map as_listed t.describes)) b)
        (All-append Q (refs_option listed.descriptor) (refs_comp listed.comp) (subst (All Q) (sym (refs_option-map as_listed t.descriptor)) d) (subst (All Q) (sym (refs_comp-map as_listed t.comp)) c)))

unmapped : (Q : UnpackedIndex → Type 0) (ps : List PackedIndex) → All Q (map index_of ps) → All (λ (p : PackedIndex). Q (index_of p)) ps
unmapped Q [] a = All-nil (λ (p : PackedIndex). Q (index_of p))
unmapped Q (p ∷ ps) a = All-cons (λ (p : PackedIndex). Q (index_of p)) p ps (All-head Q (index_of p) (map index_of ps) a) (unmapped Q ps (All-tail Q (index_of p) (map index_of ps) a))

-- one type after another
module _ (count : ℕ) (gc : Bool) (ids : List ℕ) where
  abbrev first : ℕ
  first = length ids

  abbrev last : ℕ
  last = length ids + count

  bound_rest : (p : ℕ) (t : Sub UnpackedIndex) (ts : List (Sub UnpackedIndex)) → are_bound gc first last (first + p) (t ∷ ts) ≡ true → are_bound gc first last (first + (p + 1)) ts ≡ true
  bound_rest p t ts h =
      let next : first + (p + 1) ≡ first + p + 1 = omega arith in
      ap (λ m. are_bound gc first last m ts) next ∙ and_right (is_bound gc first last (first + p) t) (are_bound gc first last (first + p + 1) ts) h

  bound_first : (p : ℕ) (t : Sub UnpackedIndex) (ts : List (Sub UnpackedIndex)) → are_bound gc first last (first + p) (t ∷ ts) ≡ true → is_bound gc first last (first + p) t ≡ true
  bound_first p t ts h = and_left (is_bound gc first last (first + p) t) (are_bound gc first last (first + p + 1) ts) h

module _ {A : Type 0} where
  heads : (s : SubType A) (g : List (SubType A)) (t : Sub UnpackedIndex) (ts : List (Sub UnpackedIndex)) → map sub_of (s ∷ g) ≡ t ∷ ts → (sub_of s ≡ t) × (map sub_of g ≡ ts)
  heads s g t ts e = let h : sub_of s ∷ map sub_of g ≡ t ∷ ts = e in (cc, cc)

  no_heads : (s : SubType A) (g : List (SubType A)) → map sub_of (s ∷ g) ≡ [] → ⊥
  no_heads s g e = let h : sub_of s ∷ map sub_of g ≡ [] = e in cc

  pub same_count : (ids : List ℕ) (ts : List (Sub UnpackedIndex)) (g : List (SubType A)) → map sub_of g ≡ canonical_group ids ts → length g ≡ length ts
  same_count ids ts g e = sym (length-map g sub_of) ∙ ap length e ∙ length-map ts (map_sub (canonical_index ids))

  module _ (n count : ℕ) (gc : Bool) (ids : List ℕ) (below : All (λ i. i < n) ids) where
    abbrev known : SubType A → Type 0
    known s = All (IsKnown n count) (refs_sub (sub_of s))

    abbrev one : SubType A → Type 0
    one s = length s.supertype_idxs ≤ 1

    -- types from a position on
    each_known : (p : ℕ) (g : List (SubType A)) (ts : List (Sub UnpackedIndex)) → p + length ts ≤ count → are_bound gc (length ids) (length ids + count) (length ids + p) ts ≡ true → map sub_of g ≡ canonical_group ids ts → All known g
    each_known p [] ts l h e = All-nil known
    each_known p (s ∷ g) [] l h e = absurd (no_heads s g e)
    each_known p (s ∷ g) (t ∷ ts) l h e =
        let x = heads s g (map_sub (canonical_index ids) t) (canonical_group ids ts) e in
        let here : p ≤ count = omega (arith, l) in
        let rest : p + 1 + length ts ≤ count = omega (arith, l) in
        All-cons known s g
        (subst (λ (y : Sub UnpackedIndex). All (IsKnown n count) (refs_sub y)) (sym x.0) (sub_known n count gc ids below p here t (bound_first count gc ids p t ts h)))
        (each_known (p + 1) g ts rest (bound_rest count gc ids p t ts h) x.1)

    supers_known : (p : ℕ) (s : SubType A) (t : Sub UnpackedIndex) → p ≤ count → is_bound gc (length ids) (length ids + count) (length ids + p) t ≡ true → sub_of s ≡ map_sub (canonical_index ids) t → All (λ (q : PackedIndex). IsKnown n p (index_of q)) s.supertype_idxs
    supers_known p s t l h e =
        unmapped (IsKnown n p) s.supertype_idxs (subst (λ (y : Sub UnpackedIndex). All (IsKnown n p) y.supers) (sym e) (supers_earlier n count gc ids below p l t h))

    each_earlier : (p : ℕ) (g : List (SubType A)) (ts : List (Sub UnpackedIndex)) → p + length ts ≤ count → are_bound gc (length ids) (length ids + count) (length ids + p) ts ≡ true → map sub_of g ≡ canonical_group ids ts
        → (i : ℕ) (s : SubType A) → slice_get g i ≡ Some s → All (λ (q : PackedIndex). IsKnown n (p + i) (index_of q)) s.supertype_idxs
    each_earlier p [] ts l h e i s x = absurd (none-some s x)
    each_earlier p (y ∷ g) [] l h e i s x = absurd (no_heads y g e)
    each_earlier p (y ∷ g) (t ∷ ts) l h e zero s x =
        let at : p ≡ p + 0 = omega arith in
        let same : y ≡ s = same_Some y s x in
        let here : p ≤ count = omega (arith, l) in
        subst (λ m. All (λ (q : PackedIndex). IsKnown n m (index_of q)) s.supertype_idxs) at
        (subst (λ (z : SubType A). All (λ (q : PackedIndex). IsKnown n p (index_of q)) z.supertype_idxs) same (supers_known p y t here (bound_first count gc ids p t ts h) (heads y g (map_sub (canonical_index ids) t) (canonical_group ids ts) e).0))
    each_earlier p (y ∷ g) (t ∷ ts) l h e (suc i) s x =
        let at : p + 1 + i ≡ p + suc i = omega arith in
        let rest : p + 1 + length ts ≤ count = omega (arith, l) in
        subst (λ m. All (λ (q : PackedIndex). IsKnown n m (index_of q)) s.supertype_idxs) at
        (each_earlier (p + 1) g ts rest (bound_rest count gc ids p t ts h) (heads y g (map_sub (canonical_index ids) t) (canonical_group ids ts) e).1 i s x)

    each_one : (g : List (SubType A)) (ts : List (Sub UnpackedIndex)) → list_all extends_at_most_one ts ≡ true → map sub_of g ≡ canonical_group ids ts → All one g
    each_one [] ts h e = All-nil one
    each_one (s ∷ g) [] h e = absurd (no_heads s g e)
    each_one (s ∷ g) (t ∷ ts) h e =
        let x = heads s g (map_sub (canonical_index ids) t) (canonical_group ids ts) e in
        let many : length s.supertype_idxs ≡ length t.supers = sym (length-map s.supertype_idxs index_of) ∙ ap (λ (y : Sub UnpackedIndex). length y.supers) x.0 ∙ length-map t.supers (canonical_index ids) in
        let few : length t.supers ≤ 1 = leb-true (length t.supers) 1 (and_left (extends_at_most_one t) (list_all extends_at_most_one ts) h) in
        All-cons one s g (omega (arith, many, few)) (each_one g ts (and_right (extends_at_most_one t) (list_all extends_at_most_one ts) h) x.1)

    -- the group may be interned
    pub listable : (g : List (SubType A)) (ts : List (Sub UnpackedIndex)) → count ≡ length g → list_all extends_at_most_one ts ≡ true → are_bound gc (length ids) (length ids + count) (length ids) ts ≡ true → map sub_of g ≡ canonical_group ids ts → IsListable n g
    listable g ts m one h e =
        let many = same_count ids ts g e in
        let all : 0 + length ts ≤ count = omega (arith, m, many) in
        let at : length ids + 0 ≡ length ids = omega arith in
        let bound : are_bound gc (length ids) (length ids + count) (length ids + 0) ts ≡ true = ap (λ k. are_bound gc (length ids) (length ids + count) k ts) at ∙ h in
        record {
          known = subst (λ c. All (λ s. All (IsKnown n c) (refs_sub (sub_of s))) g) m (each_known 0 g ts all bound e);
          one_supertype = each_one g ts one e;
          earlier = λ i s x. let zeroth : 0 + i ≡ i = omega arith in subst (λ m. All (λ (q : PackedIndex). IsKnown n m (index_of q)) s.supertype_idxs) zeroth (each_earlier 0 g ts all bound e i s x);
        }

or_none : (a b c d : Bool) → (a || b || c || d) ≡ false → a ≡ false
or_none false b c d e = refl
or_none true b c d e = absurd cc

plain_form : (explicit gc : Bool) (n : ℕ) → (explicit || eqb n 1) ≡ true → (not explicit || gc) ≡ true → gc ≡ false → n ≡ 1
plain_form true gc n a b e = absurd (let h : true ≡ false = sym b ∙ e in cc)
plain_form false gc n a b e = eqb-true n 1 a

module _ (F : Features) (ids : List ℕ) (w : Rec UnpackedIndex) (closing : closes F (length ids) w ≡ true) where
  abbrev may_be_written : Bool
  may_be_written = not w.is_explicit || F.gc

  abbrev ones : Bool
  ones = list_all extends_at_most_one w.types

  abbrev bound_all : Bool
  bound_all = are_bound F.gc (length ids) (length ids + length w.types) (length ids) w.types

  parts : (may_be_written && (ones && bound_all)) ≡ true
  parts = closes_is F (length ids) w ∙ closing

  -- a group that closes may be interned
  pub closing_listable : {A : Type 0} (n : ℕ) (g : List (SubType A)) → All (λ i. i < n) ids → map sub_of g ≡ canonical_group ids w.types → IsListable n g
  closing_listable n g below e =
      let bounds = and_right may_be_written (ones && bound_all) parts in
      listable n (length w.types) F.gc ids below g w.types (sym (same_count ids w.types g e)) (and_left ones bound_all bounds) (and_right ones bound_all bounds) e

  -- where equal types aren't one, it has members
  pub closing_members : {A : Type 0} (g : List (SubType A)) → has_form w ≡ true → canonical F ≡ false → map sub_of g ≡ canonical_group ids w.types → 0 < length g
  closing_members g form c e =
      let one = plain_form w.is_explicit F.gc (length w.types) form (and_left may_be_written (ones && bound_all) parts) (or_none F.gc F.function_references F.stack_switching F.custom_descriptors c) in
      let n = same_count ids w.types g e in
      omega (arith, one, n)
