use Rattle.std.proofs.Common.{◌≡◌, ◌∙◌, ◌≤◌, ap, arith, length, ℕ}
use Rattle.wasm_validator_modules.specs.ValidatorStages.{fresh}
use Rattle.wasm_parser.specs.Places.{ends_at, input_end}
use Rattle.wasm_parser.specs.PayloadViews.{seen, state}
use Rattle.wasm_parser.proofs.PieceCounts.{falls}
use Rattle.wasm_validator_tables.specs.ModuleTables.{HandsOutLarge, HasSomeLargeBody}
use Rattle.wasm_validator_tables.proofs.BodySearch.{same_end}
use Rattle.wasm_validator_tables.proofs.TablesMade.{so_far_none, so_far_more, large_in, large_so, all_made, all_accepted, has_types}
use Rattle.wasm_validator_tables.proofs.module.go_through.Goals as goal

pub payloads-init : goal.payloads-init
payloads-init g c =
    let made : c.new_with_features-validator.result ≡ fresh 0 c.args.features = c.new_with_features-validator.ensures ∙ ap (λ (n : ℕ). fresh n c.args.features) c.from_number.ensures in (
      so_far_none g.row.A.Denot c.args.bytes.now c.args.features c.new_with_features-validator.result (state c.parse_all-payloads.result) c.new-making.result made c.parse_all-payloads.ensures.begun
          c.new-making.ensures.ended c.new-making.ensures.tables c.new-making.ensures.entries,
      c.parse_all-payloads.ensures.reads,
      omega (arith, c.parse_all-payloads.ensures.whole, c.new.ensures),
    )

pub payloads-smaller : goal.payloads-smaller
payloads-smaller g c =
    let given = rw c.in-Ok-Some.field-0-is at c.in-Ok-Some.ensures.ok in
    falls (state c.payloads.payloads) (seen c.in-Ok-Some.payload) (state c.next_payload.new.self) given

pub payloads-preserved : goal.payloads-preserved
payloads-preserved g c =
    let given = rw c.in-Ok-Some.field-0-is at c.in-Ok-Some.ensures.ok in
    let within = rw c.in-Ok-Some.field-0-is at (c.in-Ok-Some.ensures.within c.payloads.invariant.1) in
    let whole : input_end c.next_payload.new.self ≡ input_end c.payloads.payloads = same_end c.payloads.payloads.reader c.next_payload.new.self.reader c.next_payload.ensures.whole in
    let last : ends_at c.in-Ok-Some.payload ≤ length c.args.bytes.now = omega (arith, within, whole, c.payloads.invariant.2) in (
      so_far_more g.row.A.Denot c.args.bytes.now c.args.features c.payloads.validator c.gather.new.validator (state c.payloads.payloads) (state c.next_payload.new.self) (seen c.in-Ok-Some.payload) (ends_at c.in-Ok-Some.payload) c.payloads.making c.gather.new.making
          c.payloads.invariant.0 given last c.in-Ok.ensures.taken,
      c.next_payload.ensures.reads c.payloads.invariant.1,
      whole ∙ c.payloads.invariant.2,
    )

pub returns-in-Err-gather-clause-large : goal.returns-in-Err-gather-clause-large
returns-in-Err-gather-clause-large g c =
    let given = rw c.in-Ok-Some.field-0-is at c.in-Ok-Some.ensures.ok in
    let within = rw c.in-Ok-Some.field-0-is at (c.in-Ok-Some.ensures.within c.payloads.invariant.1) in
    let whole : input_end c.next_payload.new.self ≡ input_end c.payloads.payloads = same_end c.payloads.payloads.reader c.next_payload.new.self.reader c.next_payload.ensures.whole in
    let last : ends_at c.in-Ok-Some.payload ≤ length c.args.bytes.now = omega (arith, within, whole, c.payloads.invariant.2) in
    large_so (HandsOutLarge g.row.A.Denot (seen c.in-Ok-Some.payload) (ends_at c.in-Ok-Some.payload) c.payloads.validator) (HasSomeLargeBody c.args.bytes.now c.args.features) c.in-Err-gather.why
    (large_in g.row.A.Denot c.args.bytes.now c.args.features c.payloads.validator (state c.payloads.payloads) (state c.next_payload.new.self) (seen c.in-Ok-Some.payload) (ends_at c.in-Ok-Some.payload) c.payloads.making c.payloads.invariant.0 given last)
    c.in-Err-gather.ensures.large

pub unreachable-requires : goal.unreachable-requires
unreachable-requires g c =
    let over = rw c.in-Ok-None.field-0-is at c.in-Ok-None.ensures.ok in
    has_types g.row.A.Denot c.args.bytes.now c.args.features c.payloads.validator (state c.payloads.payloads) c.payloads.making c.payloads.invariant.0 over c.in-None.ensures.none

pub returns-clause-made : goal.returns-clause-made
returns-clause-made g c =
    let over = rw c.in-Ok-None.field-0-is at c.in-Ok-None.ensures.ok in
    all_made g.row.A.Denot c.args.bytes.now c.args.features c.payloads.validator (state c.payloads.payloads) c.payloads.making c.in-Some.made c.payloads.invariant.0 over c.in-Some.ensures.ended c.in-Some.ensures.tables c.in-Some.ensures.entries

pub returns-clause-accepted : goal.returns-clause-accepted
returns-clause-accepted g c =
    let over = rw c.in-Ok-None.field-0-is at c.in-Ok-None.ensures.ok in
    all_accepted g.row.A.Denot c.args.bytes.now c.args.features c.payloads.validator (state c.payloads.payloads) c.payloads.making c.in-Some.made.types c.payloads.invariant.0 over c.in-Some.ensures.ended
