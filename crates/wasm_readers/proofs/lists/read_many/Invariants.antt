use Rattle.std.proofs.Common.{◌≡◌, ◌≤◌, map}
use Rattle.wasm_readers_bytes.specs.Reader.{SameInput, position_in, rest}
use Rattle.wasm_readers_bytes.specs.WasmSpec.Values.{many_at}
use Rattle.wasm_readers.proofs.Loops.{with_front}
use Rattle.wasm_readers.proofs.lists.read_many.Given as goal

abbrev pub invariant-items : goal.invariant-items
invariant-items g l = record {
  same : SameInput l.fn.reader l.reader;
  onward : position_in l.fn.reader ≤ position_in l.reader;
  so_far : with_front (map g.T.FromReader.value l.items.items) (many_at g.T.FromReader.encoded l.left (rest l.reader)) ≡ many_at g.T.FromReader.encoded l.fn.count (rest l.fn.reader);
}

abbrev pub decreases-items : goal.decreases-items
decreases-items g l = l.left
