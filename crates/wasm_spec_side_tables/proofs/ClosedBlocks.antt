-- What the places are once all blocks are closed.
use Rattle.std.proofs.Common.{◌≡◌, ◌≢◌, refl, sym, ap, subst, ◌∙◌, ℕ, zero, suc, ◌+◌, ◌<◌, ◌≤◌, Bool, true, false, if◌then◌else◌, List, [], ◌∷◌, ◌++◌, length, Option, Some, slice_get, slice_set, arith, length-append, length-set}
use Rattle.wasm_spec_side_tables.specs.declared.entry.Place.{Place}
use Rattle.wasm_spec_side_tables.specs.declared.entry.OpenBlock.{OpenBlock}
use Rattle.wasm_spec_side_tables.specs.SideTables.{turns, closes, behind_by, behind_then_by}
use Rattle.wasm_spec_side_tables.specs.OnePassTables.{closed_places}
use Rattle.wasm_spec_side_tables.proofs.Lists.{the_same, no, get-front, get-set_same, get-set_other, get-set_again}

-- Each number is that of a place, and below those of all blocks inside.
pub record Stands (m : ℕ) (os : List OpenBlock) : Type 0 where
  pub low : (d : ℕ) (o : OpenBlock) → slice_get os d ≡ Some o → o.label + 2 ≤ m
  pub least : (d : ℕ) (o : OpenBlock) → slice_get os d ≡ Some o → o.label ≤ o.other
  pub most : (d : ℕ) (o : OpenBlock) → slice_get os d ≡ Some o → o.other ≤ o.label + 1
  pub apart : (d e : ℕ) (o q : OpenBlock) → d < e → slice_get os d ≡ Some o → slice_get os e ≡ Some q → q.label + 2 ≤ o.label

-- It is the number of no open block.
pub record IsFree (k : ℕ) (os : List OpenBlock) : Type 0 where
  pub not_label : (d : ℕ) (o : OpenBlock) → slice_get os d ≡ Some o → k ≢ o.label
  pub not_other : (d : ℕ) (o : OpenBlock) → slice_get os d ≡ Some o → k ≢ o.other

-- The places in the end: what is free stays, and so do loops; and all others get what is behind their block's end, and its `else`.
pub record Ends (ps : List Place) (os : List OpenBlock) (rest thens : ℕ → Option Place) (P : List Place) : Type 0 where
  pub kept : (k : ℕ) → k < length ps → IsFree k os → slice_get P k ≡ slice_get ps k
  pub loops : (d : ℕ) (o : OpenBlock) → slice_get os d ≡ Some o → o.is_loop ≡ true → slice_get P o.label ≡ slice_get ps o.label
  pub others : (d : ℕ) (o : OpenBlock) → slice_get os d ≡ Some o → o.is_loop ≡ false → slice_get P o.label ≡ rest d
  pub elses : (d : ℕ) (o : OpenBlock) → slice_get os d ≡ Some o → o.is_loop ≡ false → o.other ≡ o.label + 1 → slice_get P o.other ≡ thens d

two_more : (p : Place) (ps : List Place) → length (ps ++ p ∷ p ∷ []) ≡ length ps + 2
two_more p ps = length-append ps (p ∷ p ∷ [])

differs : (j k : ℕ) → k < j → k ≢ j
differs j k h e = omega arith

abbrev pub new_block : Bool → List Place → OpenBlock
new_block b ps = record { label = length ps; other = length ps + 1; is_loop = b }

-- a block opens
module _ (b : Bool) (p : Place) (ps : List Place) (os : List OpenBlock) where
  free-opened : (k : ℕ) → k < length ps → IsFree k os → IsFree k (new_block b ps ∷ os)
  free-opened k h f = record { not_label = label_at; not_other = other_at }
    where
      label_at : (d : ℕ) (o : OpenBlock) → slice_get (new_block b ps ∷ os) d ≡ Some o → k ≢ o.label
      label_at zero o g = subst (λ (q : OpenBlock). k ≢ q.label) (the_same (new_block b ps) o g) (differs (length ps) k h)
      label_at (suc d) o g = f.not_label d o g

      other_at : (d : ℕ) (o : OpenBlock) → slice_get (new_block b ps ∷ os) d ≡ Some o → k ≢ o.other
      other_at zero o g = subst (λ (q : OpenBlock). k ≢ q.other) (the_same (new_block b ps) o g) (differs (length ps + 1) k (omega arith))
      other_at (suc d) o g = f.not_other d o g

  pub ends-opened : (rest thens : ℕ → Option Place) (P : List Place) → Stands (length ps) os → Ends (ps ++ p ∷ p ∷ []) (new_block b ps ∷ os) rest thens P → Ends ps os (λ l. rest (suc l)) (λ l. thens (suc l)) P
  ends-opened rest thens P s e = record {
    kept = λ k h f. let l = two_more p ps in e.kept k (omega arith) (free-opened k h f) ∙ get-front ps (p ∷ p ∷ []) k h;
    loops = λ d o g l. let low = s.low d o g in e.loops (suc d) o g l ∙ get-front ps (p ∷ p ∷ []) o.label (omega arith);
    others = λ d o g l. e.others (suc d) o g l;
    elses = λ d o g l t. e.elses (suc d) o g l t;
  }

  pub stands-opened : Stands (length ps) os → Stands (length (ps ++ p ∷ p ∷ [])) (new_block b ps ∷ os)
  stands-opened s = record { low = low_at; least = least_at; most = most_at; apart = apart_at }
    where
      low_at : (d : ℕ) (o : OpenBlock) → slice_get (new_block b ps ∷ os) d ≡ Some o → o.label + 2 ≤ length (ps ++ p ∷ p ∷ [])
      low_at zero o g = let l = two_more p ps in subst (λ (q : OpenBlock). q.label + 2 ≤ length (ps ++ p ∷ p ∷ [])) (the_same (new_block b ps) o g) (omega arith)
      low_at (suc d) o g = let l = two_more p ps in let h = s.low d o g in omega arith

      least_at : (d : ℕ) (o : OpenBlock) → slice_get (new_block b ps ∷ os) d ≡ Some o → o.label ≤ o.other
      least_at zero o g = subst (λ (q : OpenBlock). q.label ≤ q.other) (the_same (new_block b ps) o g) (omega arith)
      least_at (suc d) o g = s.least d o g

      most_at : (d : ℕ) (o : OpenBlock) → slice_get (new_block b ps ∷ os) d ≡ Some o → o.other ≤ o.label + 1
      most_at zero o g = subst (λ (q : OpenBlock). q.other ≤ q.label + 1) (the_same (new_block b ps) o g) (omega arith)
      most_at (suc d) o g = s.most d o g

      apart_at : (d e : ℕ) (o q : OpenBlock) → d < e → slice_get (new_block b ps ∷ os) d ≡ Some o → slice_get (new_block b ps ∷ os) e ≡ Some q → q.label + 2 ≤ o.label
      apart_at d zero o q h g k = absurd (omega arith)
      apart_at zero (suc e) o q h g k = subst (λ (x : OpenBlock). q.label + 2 ≤ x.label) (the_same (new_block b ps) o g) (s.low e q k)
      apart_at (suc d) (suc e) o q h g k = s.apart d e o q (omega arith) g k

-- a block closes
pub closed-other : (p : Place) (o : OpenBlock) (ps : List Place) (k : ℕ) → k ≢ o.label → k ≢ o.other → slice_get (closed_places p o ps) k ≡ slice_get ps k
closed-other p o ps k h j = go o.is_loop
  where
    go : (b : Bool) → slice_get (if b then ps else slice_set (slice_set ps o.label p) o.other p) k ≡ slice_get ps k
    go true = refl
    go false = get-set_other (slice_set ps o.label p) o.other k p j ∙ get-set_other ps o.label k p h

closed-loop : (p : Place) (o : OpenBlock) (ps : List Place) → o.is_loop ≡ true → closed_places p o ps ≡ ps
closed-loop p o ps e = ap (λ (b : Bool). if b then ps else slice_set (slice_set ps o.label p) o.other p) e

closed-block : (p : Place) (o : OpenBlock) (ps : List Place) → o.is_loop ≡ false → closed_places p o ps ≡ slice_set (slice_set ps o.label p) o.other p
closed-block p o ps e = ap (λ (b : Bool). if b then ps else slice_set (slice_set ps o.label p) o.other p) e

closed-label : (p : Place) (o : OpenBlock) (ps : List Place) → o.is_loop ≡ false → o.label < length ps → slice_get (closed_places p o ps) o.label ≡ Some p
closed-label p o ps e h = ap (λ xs. slice_get xs o.label) (closed-block p o ps e) ∙ get-set_again (slice_set ps o.label p) o.other o.label p (get-set_same ps o.label p h)

closed-else : (p : Place) (o : OpenBlock) (ps : List Place) → o.is_loop ≡ false → o.other < length ps → slice_get (closed_places p o ps) o.other ≡ Some p
closed-else p o ps e h = let l = length-set ps o.label p in ap (λ xs. slice_get xs o.other) (closed-block p o ps e) ∙ get-set_same (slice_set ps o.label p) o.other p (omega arith)

pub length-closed : (p : Place) (o : OpenBlock) (ps : List Place) → length (closed_places p o ps) ≡ length ps
length-closed p o ps = go o.is_loop
  where
    go : (b : Bool) → length (if b then ps else slice_set (slice_set ps o.label p) o.other p) ≡ length ps
    go true = refl
    go false = length-set (slice_set ps o.label p) o.other p ∙ length-set ps o.label p

module _ (p : Place) (o : OpenBlock) (ps : List Place) (os : List OpenBlock) (s : Stands (length ps) (o ∷ os)) where
  -- its numbers are above those of all around it
  free-above : (k : ℕ) → o.label ≤ k → IsFree k os
  free-above k h = record {
    not_label = λ d q g e. let a = s.apart zero (suc d) o q (omega arith) refl g in omega arith;
    not_other = λ d q g e. let a = s.apart zero (suc d) o q (omega arith) refl g in let m = s.most (suc d) q g in omega arith;
  }

  pub label-differs : (d : ℕ) (q : OpenBlock) → slice_get os d ≡ Some q → q.label ≢ o.label
  label-differs d q g e = let a = s.apart zero (suc d) o q (omega arith) refl g in omega arith

  pub other-differs : (d : ℕ) (q : OpenBlock) → slice_get os d ≡ Some q → q.label ≢ o.other
  other-differs d q g e = let a = s.apart zero (suc d) o q (omega arith) refl g in let l = s.least zero o refl in omega arith

  free-inside : (k : ℕ) → IsFree k (o ∷ os) → IsFree k os
  free-inside k f = record { not_label = λ d q g. f.not_label (suc d) q g; not_other = λ d q g. f.not_other (suc d) q g }

  label-there : o.label < length ps
  label-there = let l = s.low zero o refl in omega arith

  other-there : o.other < length ps
  other-there = let l = s.low zero o refl in let m = s.most zero o refl in omega arith

  pub ends-closed : (rest thens : ℕ → Option Place) (P : List Place) → Ends (closed_places p o ps) os rest thens P → Ends ps (o ∷ os) (behind_by closes p rest) (behind_then_by closes p thens) P
  ends-closed rest thens P e = record { kept = kept_at; loops = loops_at; others = others_at; elses = elses_at }
    where
      l : length (closed_places p o ps) ≡ length ps
      l = length-closed p o ps

      label_kept : slice_get P o.label ≡ slice_get (closed_places p o ps) o.label
      label_kept = let there = label-there in let m = l in e.kept o.label (omega arith) (free-above o.label (omega arith))

      kept_at : (k : ℕ) → k < length ps → IsFree k (o ∷ os) → slice_get P k ≡ slice_get ps k
      kept_at k h f = let m = l in e.kept k (omega arith) (free-inside k f) ∙ closed-other p o ps k (f.not_label zero o refl) (f.not_other zero o refl)

      loops_at : (d : ℕ) (q : OpenBlock) → slice_get (o ∷ os) d ≡ Some q → q.is_loop ≡ true → slice_get P q.label ≡ slice_get ps q.label
      loops_at zero q g h =
          subst (λ (x : OpenBlock). x.is_loop ≡ true → slice_get P x.label ≡ slice_get ps x.label) (the_same o q g) (λ t. label_kept ∙ ap (λ xs. slice_get xs o.label) (closed-loop p o ps t)) h
      loops_at (suc d) q g h = e.loops d q g h ∙ closed-other p o ps q.label (label-differs d q g) (other-differs d q g)

      others_at : (d : ℕ) (q : OpenBlock) → slice_get (o ∷ os) d ≡ Some q → q.is_loop ≡ false → slice_get P q.label ≡ behind_by closes p rest d
      others_at zero q g h = subst (λ (x : OpenBlock). x.is_loop ≡ false → slice_get P x.label ≡ Some p) (the_same o q g) (λ t. label_kept ∙ closed-label p o ps t label-there) h
      others_at (suc d) q g h = e.others d q g h

      elses_at : (d : ℕ) (q : OpenBlock) → slice_get (o ∷ os) d ≡ Some q → q.is_loop ≡ false → q.other ≡ q.label + 1 → slice_get P q.other ≡ behind_then_by closes p thens d
      elses_at zero q g h t =
          let there = other-there in
          let m = l in
          let least = s.least zero o refl in
          subst (λ (x : OpenBlock). x.is_loop ≡ false → slice_get P x.other ≡ Some p) (the_same o q g)
          (λ f. e.kept o.other (omega arith) (free-above o.other (omega arith)) ∙ closed-else p o ps f other-there) h
      elses_at (suc d) q g h t = e.elses d q g h t

  pub stands-closed : Stands (length (closed_places p o ps)) os
  stands-closed = record {
    low = λ d q g. let m = length-closed p o ps in let h = s.low (suc d) q g in omega arith;
    least = λ d q g. s.least (suc d) q g;
    most = λ d q g. s.most (suc d) q g;
    apart = λ d e q r h g k. s.apart (suc d) (suc e) q r (omega arith) g k;
  }

  -- a block turns
  abbrev pub turned_block : OpenBlock
  turned_block = record { label = o.label; other = o.label; is_loop = false }

  free-turned : (k : ℕ) → k ≢ o.label → IsFree k os → IsFree k (turned_block ∷ os)
  free-turned k h f = record { not_label = label_at; not_other = other_at }
    where
      label_at : (d : ℕ) (q : OpenBlock) → slice_get (turned_block ∷ os) d ≡ Some q → k ≢ q.label
      label_at zero q g = subst (λ (x : OpenBlock). k ≢ x.label) (the_same turned_block q g) h
      label_at (suc d) q g = f.not_label d q g

      other_at : (d : ℕ) (q : OpenBlock) → slice_get (turned_block ∷ os) d ≡ Some q → k ≢ q.other
      other_at zero q g = subst (λ (x : OpenBlock). k ≢ x.other) (the_same turned_block q g) h
      other_at (suc d) q g = f.not_other d q g

  pub ends-turned :
      (rest thens : ℕ → Option Place) (P : List Place) → o.is_loop ≡ false → Ends (slice_set ps o.other p) (turned_block ∷ os) rest thens P
      → Ends ps (o ∷ os) (behind_by turns p rest) (behind_then_by turns p thens) P
  ends-turned rest thens P b e = record { kept = kept_at; loops = loops_at; others = others_at; elses = elses_at }
    where
      l : length (slice_set ps o.other p) ≡ length ps
      l = length-set ps o.other p

      kept_at : (k : ℕ) → k < length ps → IsFree k (o ∷ os) → slice_get P k ≡ slice_get ps k
      kept_at k h f = let m = l in e.kept k (omega arith) (free-turned k (f.not_label zero o refl) (free-inside k f)) ∙ get-set_other ps o.other k p (f.not_other zero o refl)

      loops_at : (d : ℕ) (q : OpenBlock) → slice_get (o ∷ os) d ≡ Some q → q.is_loop ≡ true → slice_get P q.label ≡ slice_get ps q.label
      loops_at zero q g h = no (sym b ∙ ap (λ (x : OpenBlock). x.is_loop) (the_same o q g) ∙ h)
      loops_at (suc d) q g h = e.loops (suc d) q g h ∙ get-set_other ps o.other q.label p (other-differs d q g)

      others_at : (d : ℕ) (q : OpenBlock) → slice_get (o ∷ os) d ≡ Some q → q.is_loop ≡ false → slice_get P q.label ≡ behind_by turns p rest d
      others_at zero q g h = subst (λ (x : OpenBlock). slice_get P x.label ≡ rest zero) (the_same o q g) (e.others zero turned_block refl refl)
      others_at (suc d) q g h = e.others (suc d) q g h

      elses_at : (d : ℕ) (q : OpenBlock) → slice_get (o ∷ os) d ≡ Some q → q.is_loop ≡ false → q.other ≡ q.label + 1 → slice_get P q.other ≡ behind_then_by turns p thens d
      elses_at zero q g h t =
          let there = other-there in
          let m = l in
          let least = s.least zero o refl in
          subst (λ (x : OpenBlock). x.other ≡ x.label + 1 → slice_get P x.other ≡ Some p) (the_same o q g)
          (λ f. e.kept o.other (omega arith) (free-turned o.other (λ x. omega arith) (free-above o.other (omega arith))) ∙ get-set_same ps o.other p other-there) t
      elses_at (suc d) q g h t = e.elses (suc d) q g h t

  pub stands-turned : Stands (length (slice_set ps o.other p)) (turned_block ∷ os)
  stands-turned = record { low = low_at; least = least_at; most = most_at; apart = apart_at }
    where
      low_at : (d : ℕ) (q : OpenBlock) → slice_get (turned_block ∷ os) d ≡ Some q → q.label + 2 ≤ length (slice_set ps o.other p)
      low_at zero q g = let m = length-set ps o.other p in let h = s.low zero o refl in subst (λ (x : OpenBlock). x.label + 2 ≤ length (slice_set ps o.other p)) (the_same turned_block q g) (omega arith)
      low_at (suc d) q g = let m = length-set ps o.other p in let h = s.low (suc d) q g in omega arith

      least_at : (d : ℕ) (q : OpenBlock) → slice_get (turned_block ∷ os) d ≡ Some q → q.label ≤ q.other
      least_at zero q g = subst (λ (x : OpenBlock). x.label ≤ x.other) (the_same turned_block q g) (omega arith)
      least_at (suc d) q g = s.least (suc d) q g

      most_at : (d : ℕ) (q : OpenBlock) → slice_get (turned_block ∷ os) d ≡ Some q → q.other ≤ q.label + 1
      most_at zero q g = subst (λ (x : OpenBlock). x.other ≤ x.label + 1) (the_same turned_block q g) (omega arith)
      most_at (suc d) q g = s.most (suc d) q g

      apart_at : (d e : ℕ) (q r : OpenBlock) → d < e → slice_get (turned_block ∷ os) d ≡ Some q → slice_get (turned_block ∷ os) e ≡ Some r → r.label + 2 ≤ q.label
      apart_at d zero q r h g k = absurd (omega arith)
      apart_at zero (suc e) q r h g k = subst (λ (x : OpenBlock). r.label + 2 ≤ x.label) (the_same turned_block q g) (s.apart zero (suc e) o r (omega arith) refl k)
      apart_at (suc d) (suc e) q r h g k = s.apart (suc d) (suc e) q r h g k
