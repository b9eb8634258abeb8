use Rattle.std.proofs.Common.{◌≡◌, ◌≤◌}
use Rattle.wasm_operators_plain.specs.WasmReaders.WasmReadersBytes.Reader.{SameInput, position_in, rest}
use Rattle.wasm_operators_plain.specs.WasmSpec.Values.{many_at}
use Rattle.wasm_operators_proposals.specs.SeenLists.{behind}
use Rattle.wasm_operators_proposals.proofs.lists.skip_many.Given as goal

abbrev pub invariant-items : goal.invariant-items
invariant-items g l = record {
  same : SameInput l.fn.reader l.reader;
  onward : position_in l.fn.reader ≤ position_in l.reader;
  so_far : behind (many_at g.T.Immediate.encoded l.left (rest l.reader)) ≡ behind (many_at g.T.Immediate.encoded l.fn.count (rest l.fn.reader));
}

abbrev pub decreases-items : goal.decreases-items
decreases-items g l = l.left
