use Rattle.std.proofs.Common.{◌∙◌, arith, rules}
use Rattle.wasm_readers.specs.WasmReadersBytes.Reader.{rest}
use Rattle.wasm_validator_segments.specs.Elements.{behind_function}
use Rattle.wasm_spec.specs.Values.{u32_at}
use Rattle.wasm_validator_segments.specs.NamedFunctions.{itself}
use Rattle.wasm_validator_segments.proofs.Loops.{one_less}
use Rattle.wasm_validator_segments.proofs.PartReads.{function_read, read_and_noted}
use Rattle.wasm_validator_segments.proofs.lists.check_each_function.Goals as goal

pub items-preserved : goal.items-preserved
items-preserved g c = record {
  same = search rules;
  onward = omega arith;
  so_far = one_less (behind_function (g.T.WasmModuleResources.context c.args.resources.now)) c.items.left (rest c.items.reader) (rest c.check_function.new.reader) (omega arith) c.in_ok-check_function.ensures.past ∙ c.items.invariant.so_far;
  noted =
      read_and_noted (behind_function (g.T.WasmModuleResources.context c.args.resources.now)) u32_at (function_read (g.T.WasmModuleResources.context c.args.resources.now)) itself g.N.NotesFunctions.note c.items.left
      (rest c.items.reader) (rest c.check_function.new.reader) c.items.notes c.check_function.new.notes (omega arith) c.in_ok-check_function.ensures.past c.in_ok-check_function.ensures.noted
      ∙ c.items.invariant.noted;
}
