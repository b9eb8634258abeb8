use Rattle.std.proofs.Common.{◌≤◌, ◌<◌, ◌+◌, ◌-◌, length}
use Rattle.wasm_validator_type_groups.proofs.PieceEnds.{before}
use Rattle.wasm_validator_type_groups.proofs.parts.find.Given as goal

abbrev pub invariant-pieces : goal.invariant-pieces
invariant-pieces g l = record {
  order : l.low < l.high;
  top : l.high ≤ length l.pieces.items;
  left : 1 < l.high - l.low → l.low < l.middle;
  right : l.middle < l.high;
  from : l.from + before g.P.Piece.held l.pieces.items l.low ≤ l.place;
  upto : l.place < l.from + before g.P.Piece.held l.pieces.items l.high;
}

abbrev pub decreases-pieces : goal.decreases-pieces
decreases-pieces g l = l.high - l.low
