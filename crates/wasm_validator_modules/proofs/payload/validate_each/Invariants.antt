use Rattle.std.proofs.Common.{◌≡◌, ◌++◌, map, All}
use Rattle.wasm_validator_states.specs.Payloads.{IsBodyOfIts}
use Rattle.wasm_validator_modules.specs.PayloadAnswers.{pending_seen}
use Rattle.wasm_validator_modules.proofs.payload.validate_each.Given as goal

abbrev pub invariant-bodies : goal.invariant-bodies
invariant-bodies g l = (l.fn.pending.items ≡ l.yielded ++ l.waiting-iterator.rest.items) × All IsBodyOfIts (map (pending_seen l.features l.resources) l.yielded)
