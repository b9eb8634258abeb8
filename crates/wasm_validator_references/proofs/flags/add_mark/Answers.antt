use Rattle.std.proofs.Common.{arith}
use Rattle.std.proofs.lemmas.Grind.{common_steps}
use Rattle.wasm_validator_references.proofs.Marks.{mark_is_push, mark_behind}
use Rattle.wasm_validator_references.proofs.flags.add_mark.Goals as goal

pub flags-preserved : goal.flags-preserved
flags-preserved g c =
    let behind = mark_behind c.args.place c.flags.flags.items (omega arith) in
    record {
      short = grind (arith, common_steps);
      so_far = grind (arith, common_steps, behind);
    }

pub returns : goal.returns
returns g c =
    let last = mark_is_push c.args.place c.flags.flags.items (omega arith) in
    grind (arith, common_steps, last)
