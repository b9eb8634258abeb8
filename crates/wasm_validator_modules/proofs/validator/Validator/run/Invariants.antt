use Rattle.std.proofs.Common.{◌≡◌, length}
use Rattle.wasm_validator_states.specs.WasmParser.Places.{ReadsInput, input_end}
use Rattle.wasm_validator_states.specs.WasmParser.PayloadViews.{state}
use Rattle.wasm_validator_states.specs.WasmParser.Machine.{most_left}
use Rattle.wasm_validator_modules.specs.PayloadAnswers.{bodies_seen, AllEndBy}
use Rattle.wasm_validator_states.proofs.ParserAndValidator.{Together}
use Rattle.wasm_validator_modules.proofs.KeptContext.{IsInKept}
use Rattle.wasm_validator_modules.proofs.Runs.{Progress}
use Rattle.wasm_validator_modules.proofs.validator.Validator.run.Given as goal

abbrev pub invariant-payloads : goal.invariant-payloads
invariant-payloads g l =
    Progress l.bytes l.fn.self l.self (state l.payloads) l.gathered.ended (bodies_seen l.gathered.bodies)
    × ReadsInput l.payloads × (input_end l.payloads ≡ length l.bytes) × Together (state l.payloads).stage l.fn.self l.self × AllEndBy (length l.bytes) l.gathered.bodies × (l.self.features ≡ l.gathered.bodies.features) × IsInKept l.gathered.bodies.resources l.self.stage

abbrev pub decreases-payloads : goal.decreases-payloads
decreases-payloads g l = most_left (state l.payloads)
