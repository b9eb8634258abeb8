use Rattle.std.proofs.Common.{Err}
use Rattle.wasm_validator_side_notes.proofs.NextInstructions.{took_is, took_at}
use Rattle.wasm_validator_side_notes.proofs.table.SideTable.op.Goals as goal

pub returns-in-Ok-raise-clause-took : goal.returns-in-Ok-raise-clause-took
returns-in-Ok-raise-clause-took g c = λ h.
    took_is (g.T.WasmModuleResources.context c.args.validator.now.resources) c.args.validator.now.validator c.op.new.self.validator c.args.op.now c.args.at c.in-Ok.field-0 c.in-Ok.ensures.took h

pub returns-in-Err-clause-took : goal.returns-in-Err-clause-took
returns-in-Err-clause-took g c = λ h.
    took_at (g.T.WasmModuleResources.context c.args.validator.now.resources) c.args.validator.now.validator c.op.new.self.validator c.args.op.now c.args.at (Err c.in-Err.error) c.in-Err.ensures.took h
