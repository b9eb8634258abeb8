-- Labels and the blocks that are open, and the places in the end behind any instructions.
use Rattle.std.proofs.Common.{◌≡◌, refl, sym, ap, subst, ◌∙◌, ℕ, zero, suc, Bool, true, false, not, List, [], ◌∷◌, ◌++◌, length, drop, Option, Some, slice_get, slice_set, arith}
use Rattle.wasm_spec_steps.specs.WasmSpecRules.Attempts.{◌>>=◌}
use Rattle.wasm_spec_side_tables.specs.declared.entry.Place.{Place}
use Rattle.wasm_spec_side_tables.specs.declared.entry.OpenBlock.{OpenBlock}
use Rattle.wasm_spec_side_tables.specs.SideTables.{Placed, Nesting, opens_loop, opens, turns, closes, stays, nesting, past, place_past, behind_by, place_behind, behind_then_by, place_behind_then, Label, back_to, ahead, labels_behind}
use Rattle.wasm_spec_side_tables.specs.OnePassTables.{Nest, opened, closed_places, nested}
use Rattle.wasm_spec_side_tables.proofs.Lists.{the_same, absent, no, bind-gives, guard-gives, get-front, get-first, get-set_other}
use Rattle.wasm_spec_side_tables.proofs.ClosedBlocks.{Stands, Ends, new_block, turned_block, ends-opened, stands-opened, closed-other, ends-closed, stands-closed, ends-turned, stands-turned, label-differs, other-differs}

-- what a label says of its block
abbrev pub Says : List Place → OpenBlock → Label → Type 0
Says ps o (back_to p) = (o.is_loop ≡ true) × (slice_get ps o.label ≡ Some p)
Says ps o ahead = o.is_loop ≡ false

abbrev pub Linked : List Label → List Place → List OpenBlock → Type 0
Linked ls ps os = (d : ℕ) (o : OpenBlock) → slice_get os d ≡ Some o → (x : Label) × (slice_get ls d ≡ Some x) × Says ps o x

says-same : (ps qs : List Place) (o : OpenBlock) (x : Label) → slice_get qs o.label ≡ slice_get ps o.label → Says ps o x → Says qs o x
says-same ps qs o (back_to p) e h = (h.0, e ∙ h.1)
says-same ps qs o ahead e h = h

not_back : (ps : List Place) (o : OpenBlock) (x : Label) → o.is_loop ≡ false → Says ps o x → x ≡ ahead
not_back ps o (back_to p) e h = no (sym e ∙ h.0)
not_back ps o ahead e h = refl

linked-loop : (p : Place) (ls : List Label) (ps : List Place) (os : List OpenBlock) → Stands (length ps) os → Linked ls ps os → Linked (back_to p ∷ ls) (ps ++ p ∷ p ∷ []) (new_block true ps ∷ os)
linked-loop p ls ps os s l zero o g = (back_to p, refl, subst (λ (q : OpenBlock). Says (ps ++ p ∷ p ∷ []) q (back_to p)) (the_same (new_block true ps) o g) (refl, get-first ps (p ∷ []) p))
linked-loop p ls ps os s l (suc d) o g =
    let h = l d o g in
    let low = s.low d o g in
    (h.0, h.1, says-same ps (ps ++ p ∷ p ∷ []) o h.0 (get-front ps (p ∷ p ∷ []) o.label (omega arith)) h.2)

linked-block : (p : Place) (ls : List Label) (ps : List Place) (os : List OpenBlock) → Stands (length ps) os → Linked ls ps os → Linked (ahead ∷ ls) (ps ++ p ∷ p ∷ []) (new_block false ps ∷ os)
linked-block p ls ps os s l zero o g = (ahead, refl, sym (ap (λ (q : OpenBlock). q.is_loop) (the_same (new_block false ps) o g)))
linked-block p ls ps os s l (suc d) o g =
    let h = l d o g in
    let low = s.low d o g in
    (h.0, h.1, says-same ps (ps ++ p ∷ p ∷ []) o h.0 (get-front ps (p ∷ p ∷ []) o.label (omega arith)) h.2)

behind-first : (ls : List Label) (d : ℕ) (x : Label) → slice_get ls (suc d) ≡ Some x → slice_get (drop 1 ls) d ≡ Some x
behind-first [] d x e = absent x e
behind-first (l ∷ ls) d x e = e

linked-closed : (p : Place) (ls : List Label) (o : OpenBlock) (ps : List Place) (os : List OpenBlock) → Stands (length ps) (o ∷ os) → Linked ls ps (o ∷ os) → Linked (drop 1 ls) (closed_places p o ps) os
linked-closed p ls o ps os s l d q g =
    let h = l (suc d) q g in
    (h.0, behind-first ls d h.0 h.1, says-same ps (closed_places p o ps) q h.0 (closed-other p o ps q.label (label-differs p o ps os s d q g) (other-differs p o ps os s d q g)) h.2)

linked-turned :
    (p : Place) (ls : List Label) (o : OpenBlock) (ps : List Place) (os : List OpenBlock) (s : Stands (length ps) (o ∷ os)) → o.is_loop ≡ false → Linked ls ps (o ∷ os)
    → Linked ls (slice_set ps o.other p) (turned_block p o ps os s ∷ os)
linked-turned p ls o ps os s b l zero q g =
    let h = l zero o refl in
    (ahead, h.1 ∙ ap (λ (x : Label). Some x) (not_back ps o h.0 b h.2), sym (ap (λ (x : OpenBlock). x.is_loop) (the_same (turned_block p o ps os s) q g)))
linked-turned p ls o ps os s b l (suc d) q g =
    let h = l (suc d) q g in
    (h.0, h.1, says-same ps (slice_set ps o.other p) q h.0 (get-set_other ps o.other q.label p (other-differs p o ps os s d q g)) h.2)

not-true : (b : Bool) → not b ≡ true → b ≡ false
not-true false e = refl
not-true true e = no e

-- what holds of the nest behind an instruction, by what it does to the nest
module _ (p : Place) (ps : List Place) where
  abbrev nest : List OpenBlock → Nest
  nest os = record { places = ps; open_blocks = os }

  pub record Onward (k : Nesting) (ls : List Label) (os : List OpenBlock) (M : Nest) : Type 0 where
    pub stands : Stands (length M.places) M.open_blocks
    pub linked : Linked (labels_behind k p ls) M.places M.open_blocks
    pub ends : (rest thens : ℕ → Option Place) (P : List Place) → Ends M.places M.open_blocks rest thens P → Ends ps os (behind_by k p rest) (behind_then_by k p thens) P

  at_the_same : (k : Nesting) (ls : List Label) (os : List OpenBlock) (N M : Nest) → N ≡ M → Onward k ls os N → Onward k ls os M
  at_the_same k ls os N M e h = subst (λ (x : Nest). Onward k ls os x) e h

  pub onward : (k : Nesting) (ls : List Label) (os : List OpenBlock) (M : Nest) → nested k p (nest os) ≡ Some M → Stands (length ps) os → Linked ls ps os → Onward k ls os M
  onward opens_loop ls os M e s l =
      at_the_same opens_loop ls os _ M (the_same (opened true p (nest os)) M e)
      (record { stands = stands-opened true p ps os s; linked = linked-loop p ls ps os s l; ends = λ rest thens P h. ends-opened true p ps os rest thens P s h })
  onward opens ls os M e s l =
      at_the_same opens ls os _ M (the_same (opened false p (nest os)) M e)
      (record { stands = stands-opened false p ps os s; linked = linked-block p ls ps os s l; ends = λ rest thens P h. ends-opened false p ps os rest thens P s h })
  onward turns ls [] M e s l = absent M e
  onward turns ls (o ∷ os) M e s l =
      let g = guard-gives (not o.is_loop) (record { places = slice_set ps o.other p; open_blocks = turned_block p o ps os s ∷ os }) M e in
      let b = not-true o.is_loop g.0 in
      at_the_same turns ls (o ∷ os) _ M g.1
      (record { stands = stands-turned p o ps os s; linked = linked-turned p ls o ps os s b l; ends = λ rest thens P h. ends-turned p o ps os s rest thens P b h })
  onward closes ls [] M e s l = absent M e
  onward closes ls (o ∷ os) M e s l =
      at_the_same closes ls (o ∷ os) _ M (the_same (record { places = closed_places p o ps; open_blocks = os }) M e)
      (record { stands = stands-closed p o ps os s; linked = linked-closed p ls o ps os s l; ends = λ rest thens P h. ends-closed p o ps os s rest thens P h })
  onward stays ls os M e s l = at_the_same stays ls os _ M (the_same (nest os) M e) (record { stands = s; linked = l; ends = λ rest thens P h. h })

-- all instructions, where so many entries come before them
abbrev pub nests : ℕ → List Placed → Nest → Option Nest
nests n [] N = Some N
nests n (i ∷ is) N = nested (nesting i.op) (place_past n i) N >>= nests (past n i) is

pub ends :
    (is : List Placed) (n : ℕ) (N M : Nest) (ls : List Label) → nests n is N ≡ Some M → M.open_blocks ≡ [] → Stands (length N.places) N.open_blocks → Linked ls N.places N.open_blocks
    → Ends N.places N.open_blocks (place_behind is n) (place_behind_then is n) M.places
ends [] n N M ls r e s l = record {
  kept = λ k h f. ap (λ (x : Nest). slice_get x.places k) (sym (the_same N M r));
  loops = λ d o g h. none d o g;
  others = λ d o g h. none d o g;
  elses = λ d o g h t. none d o g;
}
  where
    none : {Y : Type 0} → (d : ℕ) (o : OpenBlock) → slice_get N.open_blocks d ≡ Some o → Y
    none d o g = absent o (sym (ap (λ (x : Nest). slice_get x.open_blocks d) (the_same N M r) ∙ ap (λ (xs : List OpenBlock). slice_get xs d) e) ∙ g)
ends (i ∷ is) n N M ls r e s l =
    let p = place_past n i in
    let b = bind-gives (nested (nesting i.op) p N) (nests (past n i) is) M r in
    let on = onward p N.places (nesting i.op) ls N.open_blocks b.0 b.1 s l in
    on.ends (place_behind is (past n i)) (place_behind_then is (past n i)) M.places (ends is (past n i) b.0 M (labels_behind (nesting i.op) p ls) b.2 e on.stands on.linked)
