use Rattle.std.specs.Option.{option_map}
use Rattle.wasm_parser.specs.Machine.{most_left}
use Rattle.wasm_parser.specs.PayloadViews.{state}
use Rattle.wasm_parser_ranges.proofs.NameSections.{SoFar}
use Rattle.wasm_parser_ranges.proofs.function_names.find_name_section.Given as goal

abbrev pub invariant-payloads : goal.invariant-payloads
invariant-payloads l = SoFar l.bytes (option_map (λ d. d.now) l.section) (state l.payloads)

abbrev pub decreases-payloads : goal.decreases-payloads
decreases-payloads l = most_left (state l.payloads)
