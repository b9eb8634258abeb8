use Rattle.std.proofs.Common.{◌≤◌, ◌<◌, ◌∙◌, sym, get_or, length, arith}
use Rattle.std.proofs.lemmas.List.{get_or_default}
use Rattle.wasm_spec_side_tables.proofs.EntryPlaces.{front_more, front_not}
use Rattle.wasm_spec_side_tables.proofs.places.resolve_front.Goals as goal

pub returns-in-None-clause-not_done : goal.returns-in-None-clause-not_done
returns-in-None-clause-not_done c = λ h.
    let e = get_or c.entries.entries c.entries.i (record { at = 0; target = 0; next = 0; kept = 0; dropped = 0 }) in
    let all : c.args.count ≤ length c.entries.entries = omega (arith, c.requires, c.entries.auto.entries) in
    let here : c.entries.i < length c.entries.entries = omega (arith, all, c.entries-test.true) in
    front_not c.args.places.now c.args.count c.entries.i c.args.entries.now c.entries.entries e c.entries.invariant all c.entries-test.true (get_or_default c.entries.entries c.entries.i _ e here) (sym c.resolve.ensures ∙ c.in-None.is)

pub entries-preserved : goal.entries-preserved
entries-preserved c =
    let e = get_or c.entries.entries c.entries.i (record { at = 0; target = 0; next = 0; kept = 0; dropped = 0 }) in
    let all : c.args.count ≤ length c.entries.entries = omega (arith, c.requires, c.entries.auto.entries) in
    let here : c.entries.i < length c.entries.entries = omega (arith, all, c.entries-test.true) in
    front_more c.args.places.now c.args.count c.entries.i c.args.entries.now c.entries.entries e c.in-Some.resolved c.entries.invariant all c.entries-test.true (get_or_default c.entries.entries c.entries.i _ e here) (sym c.resolve.ensures ∙ c.in-Some.is)
