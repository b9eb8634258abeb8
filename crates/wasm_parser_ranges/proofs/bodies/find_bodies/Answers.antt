use Rattle.std.proofs.Common.{◌≡◌, sym, ap, subst, ◌∙◌, ◌++◌, ℕ, List, length, arith}
use Rattle.wasm_parser.specs.Places.{input_end}
use Rattle.wasm_parser.specs.PayloadViews.{seen, state}
use Rattle.wasm_parser.proofs.PieceCounts.{falls}
use Rattle.wasm_parser_ranges.specs.declared.bodies.Body.{Body}
use Rattle.wasm_parser_ranges.specs.Ranges.{body_between}
use Rattle.wasm_parser_ranges.proofs.Pieces.{SoFar, begin, one_more, told_all, framed_all, refused}
use Rattle.wasm_parser_ranges.proofs.SectionPlaces.{bodies_are, same_end, begin_lie, lie_on}
use Rattle.wasm_parser_ranges.proofs.bodies.find_bodies.Goals as goal

pub payloads-init : goal.payloads-init
payloads-init c =
    let tell = body_between (length c.args.bytes.now) in
    let whole = c.parse_all-payloads.ensures.whole in
    let offset = c.new.ensures in (
      subst (λ (xs : List Body). SoFar tell c.args.bytes.now xs (state c.parse_all-payloads.result)) (sym c.new-found.ensures.items)
          (begin tell c.args.bytes.now (state c.parse_all-payloads.result) c.parse_all-payloads.ensures.begun),
      c.parse_all-payloads.ensures.reads,
      omega (arith, whole, offset),
      begin_lie c.parse_all-payloads.result c.args.bytes.now c.parse_all-payloads.ensures.begun,
    )

pub payloads-smaller : goal.payloads-smaller
payloads-smaller c =
    let given = rw c.in-Ok-Some.field-0-is at c.in-Ok-Some.ensures.ok in
    falls (state c.payloads.payloads) (seen c.in-Ok-Some.payload) (state c.next_payload.new.self) given

pub payloads-preserved : goal.payloads-preserved
payloads-preserved c =
    let tell = body_between (length c.args.bytes.now) in
    let given = rw c.in-Ok-Some.field-0-is at c.in-Ok-Some.ensures.ok in
    let size = rw c.in-Ok-Some.field-0-is at c.in-Ok-Some.ensures.size in
    let last = rw c.in-Ok-Some.field-0-is at c.in-Ok-Some.ensures.end in
    let within = rw c.in-Ok-Some.field-0-is at (c.in-Ok-Some.ensures.within c.payloads.invariant.1) in
    let s = state c.payloads.payloads in
    let t = state c.next_payload.new.self in
    let q = c.in-Ok-Some.payload in
    let reads = c.next_payload.ensures.reads c.payloads.invariant.1 in
    let whole : input_end c.next_payload.new.self ≡ length c.args.bytes.now = same_end c.payloads.payloads c.next_payload.new.self c.next_payload.ensures.whole ∙ c.payloads.invariant.2 in
    let here = bodies_are s c.next_payload.new.self q given size last within reads.0 (λ on more. c.in-Ok-Some.ensures.code on more (c.payloads.invariant.3.behind on more)) in
    let items = c.in-Ok.ensures ∙ ap (λ (ys : List Body). c.payloads.found.items ++ ys) (here ∙ ap (λ (n : ℕ). body_between n s (seen q) t) whole) in (
      subst (λ (xs : List Body). SoFar tell c.args.bytes.now xs t) (sym items) (one_more tell c.args.bytes.now c.payloads.found.items s t (seen q) c.payloads.invariant.0 given),
      reads,
      whole,
      lie_on c.payloads.payloads c.next_payload.new.self (seen q) c.payloads.invariant.3 given c.in-Ok-Some.ensures.code c.in-Ok-Some.ensures.bodies,
    )

pub returns-in-Err-clause-refused : goal.returns-in-Err-clause-refused
returns-in-Err-clause-refused c =
    refused (body_between (length c.args.bytes.now)) c.args.bytes.now c.payloads.found.items (state c.payloads.payloads) c.payloads.invariant.0 c.in-Err.ensures.err

pub returns-clause-found : goal.returns-clause-found
returns-clause-found c =
    let tell = body_between (length c.args.bytes.now) in
    let over = rw c.in-Ok-None.field-0-is at c.in-Ok-None.ensures.ok in
    record {
      pieces = c.payloads.invariant.0.pieces;
      framed = framed_all tell c.args.bytes.now c.payloads.found.items (state c.payloads.payloads) c.payloads.invariant.0 over;
      told = told_all tell c.args.bytes.now c.payloads.found.items (state c.payloads.payloads) c.payloads.invariant.0 over;
    }
