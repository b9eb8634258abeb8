use Rattle.wasm_readers_errors.specs.WasmReadersFeatures.declared.features.TheConstants.WasmFeatures.{STANDARD}
use Rattle.std.proofs.Common.{subst}
use Rattle.wasm_validator_states.specs.Verdict.{DecidesModule}
use Rattle.wasm_validator_states.specs.ValidatorStages.{Standing}
use Rattle.wasm_validator_states.proofs.WholeModules.{decides_alone}
use Rattle.wasm_validator_modules.proofs.payload.validate.Goals as goal

pub returns-clause-decided : goal.returns-clause-decided
returns-clause-decided g c =
    let P : Standing → Type 0 = λ s. DecidesModule c.validate_all.result c.args.bytes.now s c.validate_all.new.self in
    decides_alone c.args.bytes.now c.args.id STANDARD c.validate_all.new.self c.validate_all.result (subst P c.new.ensures c.validate_all.ensures.decided)
