-- Groups in one flat list, and one more of them.
use Rattle.std.proofs.Common.{◌≡◌, refl, sym, ap, ◌∙◌, ℕ, zero, suc, ◌+◌, ◌-◌, ◌<◌, ◌≤◌, List, [], ◌∷◌, ◌++◌, length, take, drop, replicate, get_or, arith, length-append, length-drop, append-nil, ⊎_elim}
use Rattle.std.specs.List.{All, slice_index, slice_index_or}
use Rattle.std.proofs.lemmas.Bool.{cases_lt}
use Rattle.std.proofs.lemmas.List.{get_or_append_left, get_or-append_right, get_or-replicate, get_or_push, length-map, length-replicate, length_push, map_push, take-append-le, drop-append-le, same_lists}
use Rattle.std.proofs.lemmas.List.Concat.{flat_map-append}
use Rattle.std.proofs.lemmas.List.Elements.{All-head, All-tail, All-push, All-weaker}
use Rattle.std.proofs.Math.Seq.{drop-append_seam, take-length}
use Rattle.std.specs.declared.ops.Range.{Range}
use Rattle.wasm_readers_types.specs.WasmReadersValues.declared.indices.CoreTypeId.{CoreTypeId}
use Rattle.wasm_validator_type_groups.specs.Groups.{all_in, first_of, IsInGroup}
use Rattle.wasm_validator_type_groups.specs.Spans.{span, spans_from, spans_of}
use Rattle.wasm_validator_type_groups.specs.FlatLists.{cut_out, cut, IsWithin, AreParted}

-- all members, and the beginnings of groups, as one more group comes
pub all_in-push : {X : Type 0} (gs : List (List X)) (g : List X) → all_in (gs ++ g ∷ []) ≡ all_in gs ++ g
all_in-push gs g = flat_map-append (λ l. l) gs (g ∷ []) ∙ ap (λ l. all_in gs ++ l) (append-nil g)

pub first_of-stays : {X : Type 0} (gs hs : List (List X)) (k : ℕ) → k ≤ length gs → first_of (gs ++ hs) k ≡ first_of gs k
first_of-stays gs hs k h = ap (λ l. length (all_in l)) (take-append-le k gs hs h)

pub first_of-all : {X : Type 0} (gs : List (List X)) → first_of gs (length gs) ≡ length (all_in gs)
first_of-all gs = ap (λ l. length (all_in l)) (take-length gs)

pub first_of-end : {X : Type 0} (gs : List (List X)) (g : List X) → first_of (gs ++ g ∷ []) (length gs + 1) ≡ length (all_in gs) + length g
first_of-end gs g =
    let n : length gs + 1 ≡ length (gs ++ g ∷ []) = sym (length_push gs g) in
    ap (first_of (gs ++ g ∷ [])) n ∙ first_of-all (gs ++ g ∷ []) ∙ ap length (all_in-push gs g) ∙ length-append (all_in gs) g

pub in_group-more : {X : Type 0} (gs hs : List (List X)) (k place : ℕ) → IsInGroup gs k place → IsInGroup (gs ++ hs) k place
in_group-more gs hs k place h = record {
  there = omega (arith, h.there, length-append gs hs);
  from = rw (first_of-stays gs hs k (omega (arith, h.there))) h.from;
  below = rw (first_of-stays gs hs (k + 1) (omega (arith, h.there))) h.below;
}

-- what is cut out of a list that grows
cut_out-more : {X : Type 0} (xs more : List X) (p : Range CoreTypeId) → IsWithin xs p → cut_out (xs ++ more) p ≡ cut_out xs p
cut_out-more xs more p h =
    let a : p.start.index ≤ length xs = omega (arith, h.0, h.1) in
    let b : p.end.index - p.start.index ≤ length (drop p.start.index xs) = omega (arith, h.0, h.1, length-drop p.start.index xs) in
    rw (drop-append-le p.start.index xs more a) (take-append-le (p.end.index - p.start.index) (drop p.start.index xs) more b)

cut-more : {X : Type 0} (xs more : List X) (ps : List (Range CoreTypeId)) → All (IsWithin xs) ps → cut (xs ++ more) ps ≡ cut xs ps
cut-more xs more [] h = refl
cut-more xs more (p ∷ ps) h = λ i. cut_out-more xs more p (All-head (IsWithin xs) p ps h) i ∷ cut-more xs more ps (All-tail (IsWithin xs) p ps h) i

cut_out-last : {X : Type 0} (xs g : List X) → cut_out (xs ++ g) (span (length xs) (length xs + length g)) ≡ g
cut_out-last xs g =
    let n : length xs + length g - length xs ≡ length g = omega arith in
    rw (drop-append_seam xs g, n) (take-length g)

pub cut-push : {X : Type 0} (xs g : List X) (ps : List (Range CoreTypeId)) → All (IsWithin xs) ps
    → cut (xs ++ g) (ps ++ span (length xs) (length xs + length g) ∷ []) ≡ cut xs ps ++ g ∷ []
cut-push xs g ps h =
    let p = span (length xs) (length xs + length g) in
    map_push (cut_out (xs ++ g)) ps p ∙ (λ i. cut-more xs g ps h i ++ cut_out-last xs g i ∷ [])

-- the same of parts that are known by equations only
pub cut-pushed : {X : Type 0} (xs ys g : List X) (ps qs : List (Range CoreTypeId)) (gs : List (List X)) → All (IsWithin xs) ps
    → ys ≡ xs ++ g → qs ≡ ps ++ span (length xs) (length xs + length g) ∷ [] → cut xs ps ≡ gs → cut ys qs ≡ gs ++ g ∷ []
cut-pushed xs ys g ps qs gs h e f is = (λ i. cut (e i) (f i)) ∙ cut-push xs g ps h ∙ ap (λ l. l ++ g ∷ []) is

within-more : {X : Type 0} (xs more : List X) (ps : List (Range CoreTypeId)) → All (IsWithin xs) ps → All (IsWithin (xs ++ more)) ps
within-more xs more ps = All-weaker (IsWithin xs) (IsWithin (xs ++ more)) (λ p w. (w.0, omega (arith, length-append xs more, w.1))) ps

spans-push :
    {X : Type 0} (gs : List (List X)) (g : List X) (ps : List (Range CoreTypeId)) (n : ℕ)
    → length gs ≡ length ps
    → length (all_in gs) ≡ n
    → ((k : ℕ) (d : Range CoreTypeId) → k < length ps → slice_index_or ps k d ≡ span (first_of gs k) (first_of gs (k + 1)))
    → (k : ℕ) (d : Range CoreTypeId) → k < length (ps ++ span n (n + length g) ∷ [])
    → slice_index_or (ps ++ span n (n + length g) ∷ []) k d ≡ span (first_of (gs ++ g ∷ []) k) (first_of (gs ++ g ∷ []) (k + 1))
spans-push gs g ps n many all h k d l =
    let p = span n (n + length g) in
    let hs = gs ++ g ∷ [] in
    ⊎_elim
    (λ (less : k < length ps).
    let a : first_of hs k ≡ first_of gs k = first_of-stays gs (g ∷ []) k (omega (arith, less, many)) in
    let b : first_of hs (k + 1) ≡ first_of gs (k + 1) = first_of-stays gs (g ∷ []) (k + 1) (omega (arith, less, many)) in
    get_or_append_left ps (p ∷ []) d k less ∙ h k d less ∙ (λ i. span (sym a i) (sym b i)))
    (λ (more : length ps ≤ k).
    let same : length ps ≡ k = omega (arith, l, more, length_push ps p) in
    let here : length gs ≡ k = many ∙ same in
    let a : first_of hs k ≡ n = ap (first_of hs) (sym here) ∙ first_of-stays gs (g ∷ []) (length gs) (omega arith) ∙ first_of-all gs ∙ all in
    let b : first_of hs (k + 1) ≡ n + length g = ap (λ m. first_of hs (m + 1)) (sym here) ∙ first_of-end gs g ∙ ap (λ m. m + length g) all in
    get_or_push ps p d k same ∙ (λ i. span (sym a i) (sym b i)))
    (cases_lt k (length ps))

owners-push :
    {X : Type 0} (gs : List (List X)) (g : List X) (os : List ℕ) (n m : ℕ)
    → length gs ≡ m
    → length (all_in gs) ≡ n
    → length os ≡ n
    → ((place : ℕ) → place < n → IsInGroup gs (slice_index os place) place)
    → (place : ℕ) → place < n + length g → IsInGroup (gs ++ g ∷ []) (slice_index (os ++ replicate (length g) m) place) place
owners-push gs g os n m many all as_many h place l =
    let hs = gs ++ g ∷ [] in
    ⊎_elim
    (λ (less : place < n).
    let same : slice_index (os ++ replicate (length g) m) place ≡ slice_index os place = get_or_append_left os (replicate (length g) m) 0 place (omega (arith, less, as_many)) in
    rw same (in_group-more gs (g ∷ []) (slice_index os place) place (h place less)))
    (λ (more : n ≤ place).
    let same : slice_index (os ++ replicate (length g) m) place ≡ m = get_or-append_right os (replicate (length g) m) n place 0 as_many more ∙ get_or-replicate (length g) (place - n) m 0 (omega (arith, l, more)) in
    let a : first_of hs m ≡ n = ap (first_of hs) (sym many) ∙ first_of-stays gs (g ∷ []) (length gs) (omega arith) ∙ first_of-all gs ∙ all in
    let b : first_of hs (m + 1) ≡ n + length g = ap (λ x. first_of hs (x + 1)) (sym many) ∙ first_of-end gs g ∙ ap (λ x. x + length g) all in
    rw same (record { there = omega (arith, many, length_push gs g); from = omega (arith, a, more); below = omega (arith, b, l) }))
    (cases_lt place n)

pub parted-push :
    {X : Type 0} (xs g : List X) (ps : List (Range CoreTypeId)) (os : List ℕ) → AreParted xs ps os
    → AreParted (xs ++ g) (ps ++ span (length xs) (length xs + length g) ∷ []) (os ++ replicate (length g) (length ps))
parted-push xs g ps os h =
    let gs = cut xs ps in
    let p = span (length xs) (length xs + length g) in
    let same : cut (xs ++ g) (ps ++ p ∷ []) ≡ gs ++ g ∷ [] = cut-push xs g ps h.within in
    let many : length gs ≡ length ps = length-map ps (cut_out xs) in
    let all : length (all_in gs) ≡ length xs = ap length h.all in
    record {
      within = All-push (IsWithin (xs ++ g)) ps p (within-more xs g ps h.within) (omega arith, omega (arith, length-append xs g));
      all = ap all_in same ∙ all_in-push gs g ∙ ap (λ l. l ++ g) h.all;
      spans = rw same (spans-push gs g ps (length xs) many all h.spans);
      as_many = omega (arith, h.as_many, length-append os (replicate (length g) (length ps)), length-append xs g, length-replicate (length g) (length ps));
      owners = λ place l. rw same (owners-push gs g os (length xs) (length ps) many all h.as_many h.owners place (omega (arith, l, length-append xs g)));
    }

-- the ranges of the groups, one behind another
length-spans : {X : Type 0} (n : ℕ) (gs : List (List X)) → length (spans_from n gs) ≡ length gs
length-spans n [] = refl
length-spans n (g ∷ gs) = ap suc (length-spans (n + length g) gs)

get-spans : {X : Type 0} (n : ℕ) (gs : List (List X)) (k : ℕ) (d : Range CoreTypeId) → k < length gs → get_or (spans_from n gs) k d ≡ span (n + first_of gs k) (n + first_of gs (k + 1))
get-spans n [] k d h = absurd (omega (arith, h))
get-spans n (g ∷ gs) zero d h =
    let a : n ≡ n + first_of (g ∷ gs) 0 = omega arith in
    let b : n + length g ≡ n + first_of (g ∷ gs) (0 + 1) = omega (arith, length-append g []) in
    λ i. span (a i) (b i)
get-spans n (g ∷ gs) (suc k) d h =
    let m : suc k + 1 ≡ suc (k + 1) = omega arith in
    let a : n + length g + first_of gs k ≡ n + first_of (g ∷ gs) (suc k) = omega (arith, length-append g (all_in (take k gs))) in
    let b : n + length g + first_of gs (k + 1) ≡ n + first_of (g ∷ gs) (suc k + 1) = omega (arith, ap (first_of (g ∷ gs)) m, length-append g (all_in (take (k + 1) gs))) in
    get-spans (n + length g) gs k d (omega (arith, h)) ∙ (λ i. span (a i) (b i))

pub spans_are : {X : Type 0} (xs : List X) (ps : List (Range CoreTypeId)) (os : List ℕ) → AreParted xs ps os → ps ≡ spans_of (cut xs ps)
spans_are xs ps os h =
    let gs = cut xs ps in
    let many : length gs ≡ length ps = length-map ps (cut_out xs) in
    same_lists ps (spans_of gs) (omega (arith, many, length-spans 0 gs)) (λ k d l.
    let a : first_of gs k ≡ 0 + first_of gs k = omega arith in
    let b : first_of gs (k + 1) ≡ 0 + first_of gs (k + 1) = omega arith in
    h.spans k d l ∙ (λ i. span (a i) (b i)) ∙ sym (get-spans 0 gs k d (omega (arith, l, many))))
