-- Runs of locals.
use Rattle.std.proofs.Common.{◌≡◌, ℕ, ◌+◌, ◌-◌, ◌<◌, ◌≤◌, List, [], ◌∷◌, ◌++◌, length, get_or, refl, sym, ◌∙◌, ap, arith, add-one, append_assoc, length-append}
use Rattle.std.specs.Prelude.{zero, suc, replicate, slice_get, Some, None}
use Rattle.std.proofs.lemmas.List.{append-nil, length-replicate}
use Rattle.std.proofs.lemmas.Option.{slice_get_past}
use Rattle.wasm_typing_stacks.specs.Locals.{local_of, spread, Ascend, end_of, end_of_all}
use Rattle.wasm_typing_stacks.specs.declared.runs.Run.{Run}

get_left : {X : Type 0} (n i : ℕ) (x : X) (ys : List X) → i < n → slice_get (replicate n x ++ ys) i ≡ Some x
get_left zero i x ys h = absurd (omega arith)
get_left (suc n) zero x ys h = refl
get_left (suc n) (suc i) x ys h = get_left n i x ys (omega arith)

get_right : {X : Type 0} (n i : ℕ) (x : X) (ys : List X) → n ≤ i → slice_get (replicate n x ++ ys) i ≡ slice_get ys (i - n)
get_right zero i x ys h = let e : i - 0 ≡ i = omega arith in rw e refl
get_right (suc n) zero x ys h = absurd (omega arith)
get_right (suc n) (suc i) x ys h = let e : suc i - suc n ≡ i - n = omega arith in rw e (get_right n i x ys (omega arith))

-- the end of a run
end_here : (s k : ℕ) (rs : List Run) (d : Run) → k < length rs → end_of s (suc k) rs ≡ (get_or rs k d).end
end_here s k [] d h = absurd (omega arith)
end_here s zero (x ∷ rs) d h = refl
end_here s (suc k) (x ∷ rs) d h = end_here x.end k rs d (omega arith)

pub passed : (k place : ℕ) (rs : List Run) (d : Run) → k < length rs → (get_or rs k d).end ≤ place → end_of 0 (k + 1) rs ≤ place
passed k place rs d h l = rw (add-one k, end_here 0 k rs d h) l

pub not_passed : (k place : ℕ) (rs : List Run) (d : Run) → k < length rs → place < (get_or rs k d).end → place < end_of 0 (k + 1) rs
not_passed k place rs d h l = rw (add-one k, end_here 0 k rs d h) l

ends_ascend : (s k : ℕ) (rs : List Run) → Ascend s rs → s ≤ end_of s k rs
ends_ascend s zero rs a = omega arith
ends_ascend s (suc k) [] a = omega arith
ends_ascend s (suc k) (r ∷ rs) a = let h = a.0 in let t = ends_ascend r.end k rs a.1 in omega arith

found_from : (s k place : ℕ) (rs : List Run) (d : Run) → Ascend s rs → end_of s k rs ≤ place → place < end_of s (suc k) rs → k < length rs → slice_get (spread s rs) (place - s) ≡ Some (local_of (get_or rs k d).local)
found_from s k place [] d a h l i = absurd (omega arith)
found_from s zero place (x ∷ rs) d a h l i =
    let q = a.0 in
    let t : place - s < x.end - s = omega arith in
    get_left (x.end - s) (place - s) (local_of x.local) (spread x.end rs) t
found_from s (suc k) place (x ∷ rs) d a h l i =
    let q = a.0 in
    let u = ends_ascend x.end k rs a.1 in
    let t : x.end - s ≤ place - s = omega arith in
    let m : place - s - (x.end - s) ≡ place - x.end = omega arith in
    get_right (x.end - s) (place - s) (local_of x.local) (spread x.end rs) t ∙ rw m (found_from x.end k place rs d a.1 h l (omega arith))

less_nothing : (n : ℕ) → n - 0 ≡ n
less_nothing n = omega arith

pub found : (k place : ℕ) (rs : List Run) (d : Run) → Ascend 0 rs → end_of 0 k rs ≤ place → place < end_of 0 (k + 1) rs → k < length rs → Some (local_of (get_or rs k d).local) ≡ slice_get (spread 0 rs) place
found k place rs d a h l i =
    let t : place < end_of 0 (suc k) rs = rw add-one at l in
    sym (ap (slice_get (spread 0 rs)) (sym (less_nothing place)) ∙ found_from 0 k place rs d a h t i)

all_ends : (s k : ℕ) (rs : List Run) → length rs ≤ k → end_of s k rs ≡ end_of_all s rs
all_ends s zero [] h = refl
all_ends s (suc k) [] h = refl
all_ends s zero (r ∷ rs) h = absurd (omega arith)
all_ends s (suc k) (r ∷ rs) h = all_ends r.end k rs (omega arith)

pub length_spread : (s : ℕ) (rs : List Run) → Ascend s rs → s + length (spread s rs) ≡ end_of_all s rs
length_spread s [] a = omega arith
length_spread s (r ∷ rs) a =
    let h = a.0 in
    let t = length_spread r.end rs a.1 in
    let n = length-append (replicate (r.end - s) (local_of r.local)) (spread r.end rs) in
    let m = length-replicate (r.end - s) (local_of r.local) in
    omega arith

pub not_found : (k place : ℕ) (rs : List Run) → Ascend 0 rs → end_of 0 k rs ≤ place → length rs ≤ k → slice_get (spread 0 rs) place ≡ None
not_found k place rs a h l =
    let e = all_ends 0 k rs l in
    let n = length_spread 0 rs a in
    slice_get_past (spread 0 rs) place (omega arith)

-- as many as the last run's end
pub counted : (rs : List Run) (n : ℕ) → Ascend 0 rs → end_of_all 0 rs ≡ n → n ≡ length (spread 0 rs)
counted rs n a e = let t = length_spread 0 rs a in omega arith

-- a run more
pub ascend_more : (s : ℕ) (rs : List Run) (r : Run) → Ascend s rs → end_of_all s rs ≤ r.end → Ascend s (rs ++ r ∷ [])
ascend_more s [] r a h = (h, tt)
ascend_more s (x ∷ rs) r a h = (a.0, ascend_more x.end rs r a.1 h)

pub end_more : (s : ℕ) (rs : List Run) (r : Run) → end_of_all s (rs ++ r ∷ []) ≡ r.end
end_more s [] r = refl
end_more s (x ∷ rs) r = end_more x.end rs r

spread_more : (s : ℕ) (rs : List Run) (r : Run) → spread s (rs ++ r ∷ []) ≡ spread s rs ++ replicate (r.end - end_of_all s rs) (local_of r.local)
spread_more s [] r = append-nil _
spread_more s (x ∷ rs) r = ap (λ ys. replicate (x.end - s) (local_of x.local) ++ ys) (spread_more x.end rs r) ∙ sym (append_assoc (replicate (x.end - s) (local_of x.local)) (spread x.end rs) (replicate (r.end - end_of_all x.end rs) (local_of r.local)))

pub extended : (rs : List Run) (r : Run) (n count : ℕ) → end_of_all 0 rs ≡ n → r.end ≡ n + count → spread 0 (rs ++ r ∷ []) ≡ spread 0 rs ++ replicate count (local_of r.local)
extended rs r n count e h =
    let m : r.end - end_of_all 0 rs ≡ count = omega arith in
    spread_more 0 rs r ∙ ap (λ k. spread 0 rs ++ replicate k (local_of r.local)) m

pub none_spread : (rs : List Run) → rs ≡ [] → spread 0 rs ≡ []
none_spread [] e = refl
none_spread (r ∷ rs) e = cc

pub none_ascend : (rs : List Run) → rs ≡ [] → Ascend 0 rs
none_ascend [] e = tt
none_ascend (r ∷ rs) e = cc

pub none_end : (rs : List Run) → rs ≡ [] → end_of_all 0 rs ≡ 0
none_end [] e = refl
none_end (r ∷ rs) e = cc

pub ruleset finds = (passed, not_passed, found, not_found)

pub ruleset runs = (counted, ascend_more, end_more, extended, none_spread, none_ascend, none_end)
