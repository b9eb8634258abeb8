use Rattle.std.proofs.Common.{◌≡◌, ◌∙◌, ◌≤◌, arith, length}
use Rattle.wasm_parser.specs.Places.{ends_at, input_end}
use Rattle.wasm_parser.specs.PayloadViews.{seen, state}
use Rattle.wasm_parser.proofs.PieceCounts.{falls}
use Rattle.wasm_validator_modules.proofs.ParserProgress.{refused_nothing}
use Rattle.wasm_validator_tables.proofs.BodySearch.{same_end, before_more, body_in, no_body, refused_payload, refused_bytes, is_going_on}
use Rattle.wasm_validator_tables.proofs.function.find_body.Goals as goal

pub payloads-smaller : goal.payloads-smaller
payloads-smaller g c =
    let given = rw c.in-Ok-Some.field-0-is at c.in-Ok-Some.ensures.ok in
    falls (state c.payloads.payloads) (seen c.in-Ok-Some.payload) (state c.next_payload.new.self) given

pub payloads-preserved : goal.payloads-preserved
payloads-preserved g c =
    let given = rw c.in-Ok-Some.field-0-is at c.in-Ok-Some.ensures.ok in
    let whole : input_end c.next_payload.new.self ≡ input_end c.payloads.payloads = same_end c.payloads.payloads.reader c.next_payload.new.self.reader c.next_payload.ensures.whole in
    let took = rw c.in-Ok-None-take.field-0-is at c.in-Ok-None-take.ensures.taken in (
      before_more g.row.A.Denot c.args.bytes.now c.args.features c.args.function c.payloads.validator c.take.new.validator (state c.payloads.payloads) (state c.next_payload.new.self) (seen c.in-Ok-Some.payload) (ends_at c.in-Ok-Some.payload) c.payloads.invariant.0 given took,
      c.next_payload.ensures.reads c.payloads.invariant.1,
      whole ∙ c.payloads.invariant.2,
    )

pub returns-in-Ok-None-clause-decides : goal.returns-in-Ok-None-clause-decides
returns-in-Ok-None-clause-decides g c =
    let over = rw c.in-Ok-None.field-0-is at c.in-Ok-None.ensures.ok in
    no_body g.row.A.Denot c.args.bytes.now c.args.features c.args.function c.payloads.validator (state c.payloads.payloads) c.payloads.invariant.0 over

pub returns-in-Err-clause-decides : goal.returns-in-Err-clause-decides
returns-in-Err-clause-decides g c =
    refused_bytes g.row.A.Denot c.args.bytes.now c.args.features c.args.function c.payloads.validator (state c.payloads.payloads) c.in-Err.refusal
    (c.in-Err.ensures.format (refused_nothing c.payloads.payloads (is_going_on g.row.A.Denot c.args.bytes.now c.args.features c.args.function c.payloads.validator (state c.payloads.payloads) c.payloads.invariant.0)))
    c.payloads.invariant.0 c.in-Err.ensures.err

pub returns-in-Ok-Some-take-clause-found : goal.returns-in-Ok-Some-take-clause-found
returns-in-Ok-Some-take-clause-found g c =
    let given = rw c.in-Ok-Some.field-0-is at c.in-Ok-Some.ensures.ok in
    let took = rw c.in-Ok-Some-take.field-0-is at c.in-Ok-Some-take.ensures.taken in
    let within = rw c.in-Ok-Some.field-0-is at (c.in-Ok-Some.ensures.within c.payloads.invariant.1) in
    let whole : input_end c.next_payload.new.self ≡ input_end c.payloads.payloads = same_end c.payloads.payloads.reader c.next_payload.new.self.reader c.next_payload.ensures.whole in
    let last : ends_at c.in-Ok-Some.payload ≤ length c.args.bytes.now = omega (arith, within, whole, c.payloads.invariant.2) in
    body_in g.row.A.Denot c.args.bytes.now c.args.features c.args.function c.payloads.validator c.take.new.validator (state c.payloads.payloads) (state c.next_payload.new.self) (seen c.in-Ok-Some.payload) (ends_at c.in-Ok-Some.payload) c.in-Ok-Some-take.found c.payloads.invariant.0 given took last

pub returns-in-Err-take-clause-decides : goal.returns-in-Err-take-clause-decides
returns-in-Err-take-clause-decides g c =
    let given = rw c.in-Ok-Some.field-0-is at c.in-Ok-Some.ensures.ok in
    refused_payload g.row.A.Denot c.args.bytes.now c.args.features c.args.function c.payloads.validator c.take.new.validator (state c.payloads.payloads) (state c.next_payload.new.self) (seen c.in-Ok-Some.payload) c.in-Err-take.error c.payloads.invariant.0 given c.in-Err-take.ensures.refused
