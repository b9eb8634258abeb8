use Rattle.std.proofs.Common.{arith, ◌≡◌, ℕ, ◌<◌, ◌≤◌, ◌+◌, ◌∙◌, sym, subst, length, map}
use Rattle.wasm_validator_type_groups.specs.Parts.{all_items}
use Rattle.wasm_validator_type_groups.proofs.PieceEnds.{before, piece_first, whole_end, some_piece}
use Rattle.wasm_validator_type_groups.proofs.parts.find.Goals as goal
use Rattle.wasm_validator_type_groups.proofs.parts.find.Goals.{then-first-place, else-first-place}

pub pieces-init : goal.pieces-init
pieces-init g c =
    let ps = c.args.pieces.now.items in
    let w = whole_end g.P.Piece.held ps in
    let s = some_piece g.P.Piece.held c.args.from ps c.args.place c.requires.from c.requires.inside in
    let n : c.len-high.result ≡ length ps = c.len-high.ensures ∙ c.args.pieces.now.ok.0 in
    record { order = omega (arith, s); top = omega arith; left = λ l. omega (arith, l); right = omega (arith, s); from = omega (arith, c.requires.from); upto = rw (n, w) c.requires.inside }

pub pieces-preserved : goal.pieces-preserved
pieces-preserved g c =
    let ps = c.args.pieces.now.items in
    let upto : ℕ → ℕ = λ k. before g.P.Piece.held ps k in
    let inside : c.pieces.middle < length ps = omega (arith, c.pieces.invariant.right, c.pieces.invariant.top) in
    let left : c.pieces.low < c.pieces.middle = c.pieces.invariant.left c.pieces-test.true in
    let first = piece_first g.P.Piece.held c.args.from ps (c.args.from + length (all_items (map g.P.Piece.held ps))) c.pieces.middle c.index.result.now c.requires.stand inside c.index.ensures in
    elim c.if-first-place.branch [
      | then-first-place w ↦ record {
        order = omega (arith, w.low-is, w.high-is, c.pieces.invariant.right);
        top = omega (arith, w.high-is, c.pieces.invariant.top);
        left = λ l. omega (arith, l);
        right = omega (arith, w.low-is, w.high-is, c.pieces.invariant.right);
        from = subst (λ (k : ℕ). c.args.from + upto k ≤ c.args.place) (sym w.low-is) (omega (arith, first, c.first.ensures, w.if-first-place));
        upto = subst (λ (k : ℕ). c.args.place < c.args.from + upto k) (sym w.high-is) c.pieces.invariant.upto;
      }
      | else-first-place w ↦ record {
        order = omega (arith, w.low-is, w.high-is, left);
        top = omega (arith, w.high-is, inside);
        left = λ l. omega (arith, l);
        right = omega (arith, w.low-is, w.high-is, left);
        from = subst (λ (k : ℕ). c.args.from + upto k ≤ c.args.place) (sym w.low-is) c.pieces.invariant.from;
        upto = subst (λ (k : ℕ). c.args.place < c.args.from + upto k) (sym w.high-is) (omega (arith, first, c.first.ensures, w.if-first-place));
      }
    ]
