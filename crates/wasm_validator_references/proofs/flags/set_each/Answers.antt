use Rattle.std.proofs.Common.{◌∙◌, refl, true, get_or, slice_set, arith}
use Rattle.std.proofs.lemmas.List.{length-set}
use Rattle.wasm_validator_references.specs.References.{mark}
use Rattle.wasm_validator_references.proofs.Marks.{mark_is_set}
use Rattle.wasm_validator_references.proofs.FunctionNotes.{one_noted}
use Rattle.wasm_validator_references.proofs.flags.set_each.Goals as goal

pub functions-preserved : goal.functions-preserved
functions-preserved c =
    let place = get_or c.args.bytes.now c.functions.at 0 in
    record {
      onward = omega arith;
      within = omega arith;
      same = length-set c.functions.flags place true ∙ c.functions.invariant.same;
      so_far =
          one_noted mark c.functions.at place c.args.bytes.now c.functions.flags (slice_set c.functions.flags place true) (omega arith) refl (mark_is_set place c.functions.flags (omega arith))
          ∙ c.functions.invariant.so_far;
    }
