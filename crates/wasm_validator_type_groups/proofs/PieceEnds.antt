-- Lists in pieces, with an open end: where a piece begins and ends, and what stands at a place.
use Rattle.std.proofs.Common.{◌≡◌, ℕ, ◌+◌, ◌<◌, zero, suc, List, [], ◌∷◌, ◌++◌, length, take, map, get_or, refl, sym, ◌∙◌, ap, append_assoc, append-nil, add-zero, zero-add, add-one, add_assoc, length-append, arith, ◌-◌, ◌≤◌, subst}
use Rattle.std.proofs.lemmas.List.{get_or_append_left, get_or-append-add, length-map, map_push}
use Rattle.std.proofs.Math.Seq.{take-length}
use Rattle.wasm_validator_type_groups.specs.declared.parts.Part.{Part}
use Rattle.wasm_validator_type_groups.specs.Parts.{all_items, StandFrom, PartsStand, seen}

-- one more piece, and more pieces
pub items_append : {T : Type 0} (ps qs : List (ℕ × List T)) → all_items (ps ++ qs) ≡ all_items ps ++ all_items qs
items_append [] qs = refl
items_append (p ∷ ps) qs = ap (λ l. p.1 ++ l) (items_append ps qs) ∙ sym (append_assoc p.1 (all_items ps) (all_items qs))

pub items_push : {T : Type 0} (ps : List (ℕ × List T)) (p : ℕ × List T) → all_items (ps ++ p ∷ []) ≡ all_items ps ++ p.1
items_push [] p = append-nil _
items_push (q ∷ ps) p = ap (λ l. q.1 ++ l) (items_push ps p) ∙ sym (append_assoc q.1 (all_items ps) p.1)

pub stand_append : {T : Type 0} (from : ℕ) (ps : List (ℕ × List T)) (middle : ℕ) (qs : List (ℕ × List T)) (end : ℕ) → StandFrom from ps middle → StandFrom middle qs end → StandFrom from (ps ++ qs) end
stand_append from [] middle qs end h k = subst (λ (n : ℕ). StandFrom n qs end) (sym h) k
stand_append from (p ∷ ps) middle qs end h k = (h.0, h.1, stand_append (from + length p.1) ps middle qs end h.2 k)

pub stand_push : {T : Type 0} (from : ℕ) (ps : List (ℕ × List T)) (end : ℕ) (xs : List T) → StandFrom from ps end → 0 < length xs → StandFrom from (ps ++ (end, xs) ∷ []) (end + length xs)
stand_push from [] end xs h l = (sym h, l, ap (λ (n : ℕ). n + length xs) h)
stand_push from (q ∷ ps) end xs h l = (h.0, h.1, stand_push (from + length q.1) ps end xs h.2 l)

-- where a piece begins, what the pieces up to it hold, and where they end
pub first-is : {T : Type 0} (f : ℕ) (qs : List (ℕ × List T)) (e k : ℕ) (d : ℕ × List T) → StandFrom f qs e → k < length qs → (get_or qs k d).0 ≡ f + length (all_items (take k qs))
first-is f [] e k d h l = absurd (omega arith)
first-is f (q ∷ qs) e zero d h l = rw add-zero h.0
first-is f (q ∷ qs) e (suc k) d h l =
    let ih = first-is (f + length q.1) qs e k d h.2 (omega arith) in
    omega (arith, ih, length-append q.1 (all_items (take k qs)))

pub items-upto : {T : Type 0} (qs : List (ℕ × List T)) (k : ℕ) (d : ℕ × List T) → k < length qs → all_items (take (suc k) qs) ≡ all_items (take k qs) ++ (get_or qs k d).1
items-upto [] k d l = absurd (omega arith)
items-upto (q ∷ qs) zero d l = append-nil q.1
items-upto (q ∷ qs) (suc k) d l = ap (λ r. q.1 ++ r) (items-upto qs k d (omega arith)) ∙ sym (append_assoc q.1 (all_items (take k qs)) (get_or qs k d).1)

pub end-is : {T : Type 0} (f : ℕ) (qs : List (ℕ × List T)) (e : ℕ) → StandFrom f qs e → e ≡ f + length (all_items qs)
end-is f [] e h = rw add-zero (sym h)
end-is f (q ∷ qs) e h = omega (arith, end-is (f + length q.1) qs e h.2, length-append q.1 (all_items qs))

pub ends : {T : Type 0} (f : ℕ) (qs : List (ℕ × List T)) (e : ℕ) → StandFrom f qs e → StandFrom f qs (f + length (all_items qs))
ends f qs e h = subst (StandFrom f qs) (end-is f qs e h) h

pub item-in : {T : Type 0} (qs : List (ℕ × List T)) (k j : ℕ) (d : ℕ × List T) (x : T) → k < length qs → j < length (get_or qs k d).1 → get_or (all_items qs) (length (all_items (take k qs)) + j) x ≡ get_or (get_or qs k d).1 j x
item-in [] k j d x l m = absurd (omega arith)
item-in (q ∷ qs) zero j d x l m = rw zero-add (get_or_append_left q.1 (all_items qs) x j m)
item-in (q ∷ qs) (suc k) j d x l m =
    rw (length-append q.1 (all_items (take k qs)), add_assoc (length q.1) (length (all_items (take k qs))) j)
    (get_or-append-add q.1 (all_items qs) (length (all_items (take k qs)) + j) x ∙ item-in qs k j d x (omega arith) m)

-- pieces of one kind, each of which is seen so
module _ {P T : Type 0} (held : P → ℕ × List T) where
  pub held-at : (ps : List P) (k : ℕ) (d : P) → get_or (map held ps) k (held d) ≡ held (get_or ps k d)
  held-at [] k d = refl
  held-at (p ∷ ps) zero d = refl
  held-at (p ∷ ps) (suc k) d = held-at ps k d

  abbrev pub before : List P → ℕ → ℕ
  before ps k = length (all_items (take k (map held ps)))

  pub piece_first : (from : ℕ) (ps : List P) (e k : ℕ) (p : P) → StandFrom from (map held ps) e → k < length ps → p ≡ get_or ps k p → (held p).0 ≡ from + before ps k
  piece_first from ps e k p h l is =
      let s : get_or (map held ps) k (held p) ≡ held p = held-at ps k p ∙ ap held (sym is) in
      ap (λ q. q.0) (sym s) ∙ first-is from (map held ps) e k (held p) h (rw (length-map ps held) l)

  pub piece_end : (ps : List P) (k : ℕ) (p : P) → k < length ps → p ≡ get_or ps k p → before ps (k + 1) ≡ before ps k + length (held p).1
  piece_end ps k p l is =
      let s : get_or (map held ps) k (held p) ≡ held p = held-at ps k p ∙ ap held (sym is) in
      rw (add-one, items-upto (map held ps) k (held p) (rw (length-map ps held) l), s) (length-append _ _)

  pub piece_item : (ps : List P) (k j i : ℕ) (p : P) (x : T) → k < length ps → p ≡ get_or ps k p → j < length (held p).1 → i ≡ before ps k + j → get_or (all_items (map held ps)) i x ≡ get_or (held p).1 j x
  piece_item ps k j i p x l is m at =
      let s : get_or (map held ps) k (held p) ≡ held p = held-at ps k p ∙ ap held (sym is) in
      rw at (item-in (map held ps) k j (held p) x (rw (length-map ps held) l) (rw s m) ∙ ap (λ q. get_or q.1 j x) s)

  pub whole_end : (ps : List P) → before ps (length ps) ≡ length (all_items (map held ps))
  whole_end ps =
      let n : length (map held ps) ≡ length ps = length-map ps held in
      let all : take (length ps) (map held ps) ≡ map held ps = rw (← n) (take-length (map held ps)) in
      ap (λ qs. length (all_items qs)) all

  pub some_piece : (from : ℕ) (ps : List P) (i : ℕ) → from ≤ i → i < from + length (all_items (map held ps)) → 0 < length ps
  some_piece from [] i h l = absurd (omega (arith, h, l))
  some_piece from (p ∷ ps) i h l = omega arith

-- a place in two lists, the second behind the end of the first
pub in_closed : {T : Type 0} (xs zs : List T) (end i : ℕ) (x : T) → end ≡ length xs → i < end → get_or (xs ++ zs) i x ≡ get_or xs i x
in_closed xs zs end i x m l = get_or_append_left xs zs x i (omega (arith, m, l))

pub in_open : {T : Type 0} (xs zs : List T) (end i : ℕ) (x : T) → end ≡ length xs → end ≤ i → get_or (xs ++ zs) i x ≡ get_or zs (i - end) x
in_open xs zs end i x m h =
    let n : i ≡ length xs + (i - end) = omega (arith, m, h) in
    let P : ℕ → Type 0 = λ k. get_or (xs ++ zs) k x ≡ get_or zs (i - end) x in
    subst P (sym n) (get_or-append-add xs zs (i - end) x)

pub whole_length : {T : Type 0} (xs zs : List T) (end : ℕ) → end ≡ length xs → length (xs ++ zs) ≡ end + length zs
whole_length xs zs end m = omega (arith, m, length-append xs zs)

-- one piece more
module _ {P T : Type 0} (held : P → ℕ × List T) where
  pub pushed_items : (new old : List P) (p : P) → new ≡ old ++ p ∷ [] → all_items (map held new) ≡ all_items (map held old) ++ (held p).1
  pushed_items new old p is = rw is (ap all_items (map_push held old p) ∙ items_push (map held old) (held p))

  pub pushed_stand : (from : ℕ) (new old : List P) (p : P) (e : ℕ) → new ≡ old ++ p ∷ [] → StandFrom from (map held old) (held p).0 → 0 < length (held p).1 → e ≡ (held p).0 + length (held p).1 → StandFrom from (map held new) e
  pushed_stand from new old p e is h l at = rw (is, at, map_push held old p) (stand_push from (map held old) (held p).0 (held p).1 h l)

-- the open end as one part more
module _ {T A : Type 0} where
  pub closed_items : (new old : List (Part T A)) (p : Part T A) → new ≡ old ++ p ∷ [] → all_items (map seen new) ≡ all_items (map seen old) ++ p.items.value.items
  closed_items new old p is = pushed_items seen new old p is

  pub closed_stand : (from : ℕ) (new old : List (Part T A)) (p : Part T A) (e : ℕ) → new ≡ old ++ p ∷ [] → PartsStand from old p.first → 0 < length p.items.value.items → e ≡ p.first + length p.items.value.items → PartsStand from new e
  closed_stand from new old p e is h l at = pushed_stand seen from new old p e is h l at
