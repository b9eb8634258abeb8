use Rattle.std.proofs.Common.{◌≡◌, ◌≤◌}
use Rattle.wasm_readers_bytes.specs.Reader.{SameInput, position_in, rest}
use Rattle.wasm_readers_bytes.specs.WasmSpec.Values.{many_at}
use Rattle.wasm_readers.specs.Entries.{given, one_at}
use Rattle.wasm_readers.proofs.Loops.{behind}
use Rattle.wasm_readers.proofs.imports.read_compact.Given as goal

abbrev pub invariant-imports : goal.invariant-imports
invariant-imports l = record {
  same : SameInput l.fn.reader l.reader;
  onward : position_in l.fn.reader ≤ position_in l.reader;
  so_far : behind (many_at (one_at l.fn.module (given l.fn.ty)) l.left (rest l.reader)) ≡ behind (many_at (one_at l.fn.module (given l.fn.ty)) l.count (rest l.first));
}

abbrev pub decreases-imports : goal.decreases-imports
decreases-imports l = l.left
