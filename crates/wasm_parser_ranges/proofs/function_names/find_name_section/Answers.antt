use Rattle.std.proofs.Common.{refl}
use Rattle.std.specs.Option.{option_map}
use Rattle.wasm_parser.specs.PayloadViews.{seen, state}
use Rattle.wasm_parser.proofs.PieceCounts.{falls}
use Rattle.wasm_parser_ranges.proofs.NameSections.{begin, one_more, finish, refused}
use Rattle.wasm_parser_ranges.proofs.function_names.find_name_section.Goals as goal

pub payloads-init : goal.payloads-init
payloads-init c = begin c.args.bytes.now (state c.parse_all-payloads.result) c.parse_all-payloads.ensures.begun

pub payloads-smaller : goal.payloads-smaller
payloads-smaller c =
    let given = rw c.in-Ok-Some.field-0-is at c.in-Ok-Some.ensures.ok in
    falls (state c.payloads.payloads) (seen c.in-Ok-Some.payload) (state c.next_payload.new.self) given

pub payloads-preserved : goal.payloads-preserved
payloads-preserved c =
    let given = rw c.in-Ok-Some.field-0-is at c.in-Ok-Some.ensures.ok in
    one_more c.args.bytes.now (option_map (λ d. d.now) c.payloads.section) (option_map (λ d. d.now) c.first_of-section.result) (state c.payloads.payloads)
    (state c.next_payload.new.self) (seen c.in-Ok-Some.payload) c.payloads.invariant given c.first_of-section.ensures

pub returns-in-Err-clause-refused : goal.returns-in-Err-clause-refused
returns-in-Err-clause-refused c = (refl, refused c.args.bytes.now (option_map (λ d. d.now) c.payloads.section) (state c.payloads.payloads) c.payloads.invariant c.in-Err.ensures.err)

pub returns-clause-found : goal.returns-clause-found
returns-clause-found c =
    let over = rw c.in-Ok-None.field-0-is at c.in-Ok-None.ensures.ok in
    finish c.args.bytes.now (option_map (λ d. d.now) c.payloads.section) (state c.payloads.payloads) c.payloads.invariant over
