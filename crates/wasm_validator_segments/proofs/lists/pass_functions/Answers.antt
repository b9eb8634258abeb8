use Rattle.std.proofs.Common.{◌∙◌, arith, rules}
use Rattle.wasm_readers.specs.WasmReadersBytes.Reader.{rest}
use Rattle.wasm_validator_segments.specs.Elements.{behind_function}
use Rattle.wasm_spec.specs.Values.{u32_at}
use Rattle.wasm_validator_segments.specs.NamedFunctions.{itself}
use Rattle.wasm_validator_segments.proofs.Loops.{one_less}
use Rattle.wasm_validator_segments.proofs.PartReads.{function_read, read_and_noted}
use Rattle.wasm_validator_segments.proofs.lists.pass_functions.Goals as goal

pub items-preserved : goal.items-preserved
items-preserved g c = record {
  held = search rules;
  same = search rules;
  onward = omega arith;
  still = c.items.invariant.still;
  so_far =
      one_less (behind_function (g.T.WasmModuleResources.context c.args.resources.now)) c.items.left (rest c.items.ahead) (rest c.pass_function.new.reader) (omega arith) (c.in_ok-pass_function.ensures.past c.if-not-branch.false)
      ∙ c.items.invariant.so_far;
  noted =
      read_and_noted (behind_function (g.T.WasmModuleResources.context c.args.resources.now)) u32_at (function_read (g.T.WasmModuleResources.context c.args.resources.now)) itself g.N.NotesFunctions.note c.items.left
      (rest c.items.ahead) (rest c.pass_function.new.reader) c.items.notes c.pass_function.new.notes (omega arith) (c.in_ok-pass_function.ensures.past c.if-not-branch.false)
      (c.in_ok-pass_function.ensures.noted c.if-not-branch.false)
      ∙ c.items.invariant.noted;
}
