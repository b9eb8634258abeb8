use Rattle.std.proofs.Common.{◌≡◌, length}
use Rattle.wasm_parser.specs.Machine.{most_left}
use Rattle.wasm_parser.specs.Places.{ReadsInput, input_end}
use Rattle.wasm_parser.specs.PayloadViews.{state}
use Rattle.wasm_validator_tables.proofs.TablesMade.{IsSoFar}
use Rattle.wasm_validator_tables.proofs.module.go_through.Given as goal

abbrev pub invariant-payloads : goal.invariant-payloads
invariant-payloads g l =
    IsSoFar g.row.A.Denot l.bytes l.fn.features l.validator (state l.payloads) l.making × ReadsInput l.payloads × (input_end l.payloads ≡ length l.bytes)

abbrev pub decreases-payloads : goal.decreases-payloads
decreases-payloads g l = most_left (state l.payloads)
