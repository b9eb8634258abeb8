use Rattle.std.proofs.Common.{◌≡◌, length}
use Rattle.wasm_parser.specs.Machine.{most_left}
use Rattle.wasm_parser.specs.Places.{ReadsInput, input_end}
use Rattle.wasm_parser.specs.PayloadViews.{state}
use Rattle.wasm_parser_ranges.specs.Ranges.{body_between}
use Rattle.wasm_parser_ranges.proofs.Pieces.{SoFar}
use Rattle.wasm_parser_ranges.proofs.SectionPlaces.{BodiesLie}
use Rattle.wasm_parser_ranges.proofs.bodies.find_bodies.Given as goal

abbrev pub invariant-payloads : goal.invariant-payloads
invariant-payloads l =
    SoFar (body_between (length l.bytes)) l.bytes l.found.items (state l.payloads) × ReadsInput l.payloads × (input_end l.payloads ≡ length l.bytes) × BodiesLie l.payloads

abbrev pub decreases-payloads : goal.decreases-payloads
decreases-payloads l = most_left (state l.payloads)
