use Rattle.std.proofs.Common.{map}
use Rattle.wasm_check.specs.ExitStatuses.{room_for}
use Rattle.wasm_check.proofs.WorstStatuses.{troubled}
use Rattle.wasm_check.proofs.check.check_files.Goals as goal

pub returns-in-Err-clause-told : goal.returns-in-Err-clause-told
returns-in-Err-clause-told g c =
    troubled c.args.settings.now.features (g.R.Source.gives c.args.rt.now) (room_for c.args.settings.now.features c.args.settings.now.is_shared) (map (λ name. name.now) c.args.names.now)
