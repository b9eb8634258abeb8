use Rattle.std.proofs.Common.{◌∙◌, arith, rules}
use Rattle.wasm_operators_plain.specs.WasmReaders.WasmReadersBytes.Reader.{rest}
use Rattle.wasm_operators_proposals.proofs.ListReads.{one_less}
use Rattle.wasm_operators_proposals.proofs.lists.skip_many.Goals as goal

pub items-preserved : goal.items-preserved
items-preserved g c = record {
  same = search rules;
  onward = omega arith;
  so_far = one_less g.T.Immediate.encoded c.items.left (rest c.items.reader) (rest c.read.new.reader) (g.T.Immediate.value c.in_ok-read.field-0) (omega arith) c.in_ok-read.ensures.ok ∙ c.items.invariant.so_far;
}
