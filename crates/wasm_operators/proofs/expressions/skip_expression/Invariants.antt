use Rattle.std.proofs.Common.{◌≡◌, ◌≤◌, ℕ, length}
use Rattle.wasm_operators_proposals.specs.WasmOperatorsPlain.WasmReaders.WasmReadersBytes.Reader.{SameInput, position_in, rest}
use Rattle.wasm_operators_proposals.specs.WasmOperatorsPlain.WasmReaders.WrittenIndices.{written}
use Rattle.wasm_operators.specs.Expressions.{behind_from, behind_expression}
use Rattle.wasm_operators.proofs.expressions.skip_expression.Given as goal

abbrev pub invariant-operators : goal.invariant-operators
invariant-operators l = record {
  same : SameInput l.fn.reader l.reader;
  onward : position_in l.fn.reader ≤ position_in l.reader;
  shallow : l.depth ≤ position_in l.reader;
  so_far : (most : ℕ) × (length (rest l.reader) ≤ most) × (behind_from written most l.depth (rest l.reader) ≡ behind_expression written (rest l.fn.reader));
}

abbrev pub decreases-operators : goal.decreases-operators
decreases-operators l = length (rest l.reader)
