-- Runs of parts: one more, and two as one.
use Rattle.std.proofs.Common.{◌≡◌, ℕ, ◌+◌, ◌<◌, zero, suc, List, [], ◌∷◌, ◌++◌, length, take, map, get_or, refl, sym, ◌∙◌, ap, append_assoc, length-append, zero-add, arith, ◌≤◌, subst, slice_set}
use Rattle.std.proofs.lemmas.List.{length-map, map_push, map-append}
use Rattle.wasm_validator_type_groups.specs.declared.parts.Part.{Part}
use Rattle.wasm_validator_type_groups.specs.declared.parts.Run.{Run}
use Rattle.wasm_validator_type_groups.specs.Parts.{all_items, StandFrom, PartsStand, seen, run_parts, one_part, run_seen, IsRunOf, IsRun, AreRuns, RunsStand}
use Rattle.wasm_validator_type_groups.proofs.PieceEnds.{items_append, end-is, pushed_stand}

-- parts have items
pub some_items : {T : Type 0} (from : ℕ) (qs : List (ℕ × List T)) (e : ℕ) → StandFrom from qs e → 0 < length qs → 0 < length (all_items qs)
some_items from [] e h l = absurd (omega (arith, l))
some_items from (q ∷ qs) e h l = omega (arith, h.1, length-append q.1 (all_items qs))

pub runs_push : {T : Type 0} (rs : List (ℕ × List (ℕ × List T))) (r : ℕ × List (ℕ × List T)) → AreRuns rs → IsRunOf r → AreRuns (rs ++ r ∷ [])
runs_push [] r h k = (k, tt)
runs_push (x ∷ xs) r h k = (h.0, runs_push xs r h.1 k)

pub runs_front : {T : Type 0} (rs ss : List (ℕ × List (ℕ × List T))) → AreRuns (rs ++ ss) → AreRuns rs × AreRuns ss
runs_front [] ss h = (tt, h)
runs_front (x ∷ xs) ss h = let more = runs_front xs ss h.1 in ((h.0, more.0), more.1)

pub run_at : {T : Type 0} (rs : List (ℕ × List (ℕ × List T))) (k : ℕ) (r : ℕ × List (ℕ × List T)) → AreRuns rs → k < length rs → IsRunOf (get_or rs k r)
run_at [] k r h l = absurd (omega (arith, l))
run_at (x ∷ xs) zero r h l = h.0
run_at (x ∷ xs) (suc k) r h l = run_at xs k r h.1 (omega (arith, l))

module _ {T A : Type 0} where
  seen_at : (rs : List (Run T A)) (k : ℕ) (r : Run T A) → get_or (map run_parts rs) k (run_parts r) ≡ run_parts (get_or rs k r)
  seen_at [] k r = refl
  seen_at (x ∷ xs) zero r = refl
  seen_at (x ∷ xs) (suc k) r = seen_at xs k r

  -- that of a list of runs
  pub is_run : (rs : List (Run T A)) (k : ℕ) (r : Run T A) → AreRuns (map run_parts rs) → k < length rs → r ≡ get_or rs k r → IsRun r
  is_run rs k r h l is =
      subst IsRunOf (seen_at rs k r ∙ ap run_parts (sym is)) (run_at (map run_parts rs) k (run_parts r) h (rw (length-map rs run_parts) l))

  -- the same runs under other owners
  as_pieces : (rs : List (Run T A)) → map run_seen rs ≡ map one_part (map run_parts rs)
  as_pieces [] = refl
  as_pieces (r ∷ rs) = ap (λ l. run_seen r ∷ l) (as_pieces rs)

  pub same_seen : (new old : List (Run T A)) → map run_parts new ≡ map run_parts old → map run_seen new ≡ map run_seen old
  same_seen new old is = as_pieces new ∙ ap (map one_part) is ∙ sym (as_pieces old)

  pub same_runs : (new old : List (Run T A)) (end : ℕ) → map run_parts new ≡ map run_parts old → RunsStand old end → RunsStand new end
  same_runs new old end is h = record {
    order = subst (λ ps. StandFrom 0 ps end) (sym (same_seen new old is)) h.order;
    each = subst AreRuns (sym is) h.each;
  }

  -- one more
  pub pushed_run : (new old : List (Run T A)) (r : Run T A) (e : ℕ) → new ≡ old ++ r ∷ [] → RunsStand old r.first → PartsStand r.first r.parts.value.items e → 0 < length r.parts.value.items → RunsStand new e
  pushed_run new old r e is h parts l =
      let end = end-is r.first (map seen r.parts.value.items) e parts in
      let some = some_items r.first (map seen r.parts.value.items) e parts (rw (length-map r.parts.value.items seen) l) in
      record {
        order = pushed_stand run_seen 0 new old r e is h.order some end;
        each = subst AreRuns (sym (ap (map run_parts) is ∙ map_push run_parts old r))
            (runs_push (map run_parts old) (run_parts r) h.each (subst (StandFrom r.first (map seen r.parts.value.items)) end parts));
      }

-- where runs end, and where the parts behind them do
module _ {T A : Type 0} (runs : List (Run T A)) (middle : ℕ) (h : RunsStand runs middle) where
  pub runs_end : middle ≡ length (all_items (map run_seen runs))
  runs_end = end-is 0 (map run_seen runs) middle h.order ∙ zero-add _

  pub closed_end : (parts : List (Part T A)) (before : ℕ) → PartsStand middle parts before → before ≡ length (all_items (map run_seen runs) ++ all_items (map seen parts))
  closed_end parts before k = omega (arith, runs_end, end-is middle (map seen parts) before k, length-append (all_items (map run_seen runs)) (all_items (map seen parts)))

-- two pieces as one
two_stand : {T : Type 0} (from : ℕ) (front : List (ℕ × List T)) (a b r : ℕ × List T) (end : ℕ) → StandFrom from (front ++ a ∷ b ∷ []) end → r.0 ≡ a.0 → r.1 ≡ a.1 ++ b.1 → StandFrom from (front ++ r ∷ []) end
two_stand from [] a b r end h first items =
    let n : length r.1 ≡ length a.1 + length b.1 = ap length items ∙ length-append a.1 b.1 in
    (first ∙ h.0, omega (arith, n, h.1), omega (arith, n, h.2.2))
two_stand from (p ∷ ps) a b r end h first items = (h.0, h.1, two_stand (from + length p.1) ps a b r end h.2 first items)

two_follow : {T : Type 0} (from : ℕ) (front : List (ℕ × List T)) (a b : ℕ × List T) (end : ℕ) → StandFrom from (front ++ a ∷ b ∷ []) end → b.0 ≡ a.0 + length a.1
two_follow from [] a b end h = h.2.0 ∙ ap (λ (n : ℕ). n + length a.1) (sym h.0)
two_follow from (p ∷ ps) a b end h = two_follow (from + length p.1) ps a b end h.2

two_items : {T : Type 0} (front : List (ℕ × List T)) (a b r : ℕ × List T) → r.1 ≡ a.1 ++ b.1 → all_items (front ++ r ∷ []) ≡ all_items (front ++ a ∷ b ∷ [])
two_items front a b r items =
    items_append front (r ∷ []) ∙ ap (λ xs. all_items front ++ (xs ++ [])) items ∙ ap (λ xs. all_items front ++ xs) (append_assoc a.1 b.1 []) ∙ sym (items_append front (a ∷ b ∷ []))

-- the last two of a list, and the last put behind the others
pub last_two : {X : Type 0} (xs : List X) (k : ℕ) (a b : X) → length xs ≡ suc (suc k) → a ≡ get_or xs k a → b ≡ get_or xs (suc k) b → xs ≡ take k xs ++ a ∷ b ∷ []
last_two [] k a b n p q = absurd (omega (arith, n))
last_two (x ∷ []) k a b n p q = absurd (omega (arith, n))
last_two (x ∷ y ∷ []) zero a b n p q = ap (λ z. z ∷ y ∷ []) (sym p) ∙ ap (λ z. a ∷ z ∷ []) (sym q)
last_two (x ∷ y ∷ z ∷ zs) zero a b n p q = absurd (omega (arith, n))
last_two (x ∷ y ∷ ys) (suc k) a b n p q = ap (λ l. x ∷ l) (last_two (y ∷ ys) k a b (omega (arith, n)) p q)

pub set_last : {X : Type 0} (xs : List X) (k : ℕ) (y : X) → suc k ≤ length xs → take (suc k) (slice_set xs k y) ≡ take k xs ++ y ∷ []
set_last [] k y h = absurd (omega (arith, h))
set_last (x ∷ xs) zero y h = refl
set_last (x ∷ xs) (suc k) y h = ap (λ l. x ∷ l) (set_last xs k y (omega (arith, h)))

module _ {T A : Type 0} (rs front : List (Run T A)) (a b : Run T A) (end : ℕ) (is : rs ≡ front ++ a ∷ b ∷ []) (h : RunsStand rs end) where
  pieces : map run_seen rs ≡ map run_seen front ++ run_seen a ∷ run_seen b ∷ []
  pieces = ap (map run_seen) is ∙ map-append run_seen front (a ∷ b ∷ [])

  pub behind : b.first ≡ a.first + length (run_seen a).1
  behind = two_follow 0 (map run_seen front) (run_seen a) (run_seen b) end (subst (λ ps. StandFrom 0 ps end) pieces h.order)

  module _ (r : Run T A) (new : List (Run T A)) (now : new ≡ front ++ r ∷ []) (first : r.first ≡ a.first) (items : (run_seen r).1 ≡ (run_seen a).1 ++ (run_seen b).1) (run : IsRun r) where
    pub joined_items : all_items (map run_seen new) ≡ all_items (map run_seen rs)
    joined_items =
        ap (λ l. all_items (map run_seen l)) now ∙ ap all_items (map_push run_seen front r)
        ∙ two_items (map run_seen front) (run_seen a) (run_seen b) (run_seen r) items ∙ ap all_items (sym pieces)

    pub joined_runs : RunsStand new end
    joined_runs = record {
      order = subst (λ ps. StandFrom 0 ps end) (sym (ap (map run_seen) now ∙ map_push run_seen front r))
          (two_stand 0 (map run_seen front) (run_seen a) (run_seen b) (run_seen r) end (subst (λ ps. StandFrom 0 ps end) pieces h.order) first items);
      each = subst AreRuns (sym (ap (map run_parts) now ∙ map_push run_parts front r))
          (runs_push (map run_parts front) (run_parts r) (runs_front (map run_parts front) (run_parts a ∷ run_parts b ∷ []) (subst AreRuns (ap (map run_parts) is ∙ map-append run_parts front (a ∷ b ∷ [])) h.each)).0 run);
    }
