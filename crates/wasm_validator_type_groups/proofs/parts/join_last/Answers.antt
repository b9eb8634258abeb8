use Rattle.std.proofs.Common.{arith, ◌≡◌, ◌<◌, ◌-◌, ◌∙◌, suc, ap, subst, ℕ, ◌++◌, ◌∷◌, [], take, length, get_or, slice_set}
use Rattle.wasm_validator_type_groups.proofs.PartRuns.{is_run, behind, last_two, set_last, joined_items, joined_runs}
use Rattle.wasm_validator_type_groups.proofs.parts.join_last.Goals as goal

pub join_runs-requires-clause-first : goal.join_runs-requires-clause-first
join_runs-requires-clause-first g c =
    let rs = c.runs.runs.items in
    let n : c.len-last.result ≡ length rs = c.len-last.ensures ∙ c.runs.runs.ok.0 in
    is_run rs (c.len-last.result - 1 - 1) c.index-in-runs-2.result.now c.runs.invariant.0.each (omega (arith, n, c.runs-test.true)) c.index-in-runs-2.ensures

pub join_runs-requires-clause-second : goal.join_runs-requires-clause-second
join_runs-requires-clause-second g c =
    let rs = c.runs.runs.items in
    let n : c.len-last.result ≡ length rs = c.len-last.ensures ∙ c.runs.runs.ok.0 in
    is_run rs (c.len-last.result - 1) c.index-in-runs-3.result.now c.runs.invariant.0.each (omega (arith, n, c.runs-test.true)) c.index-in-runs-3.ensures

pub join_runs-requires-clause-behind : goal.join_runs-requires-clause-behind
join_runs-requires-clause-behind g c =
    let rs = c.runs.runs.items in
    let k = c.len-last.result - 1 - 1 in
    let a = c.index-in-runs-2.result.now in
    let b = c.index-in-runs-3.result.now in
    let n : c.len-last.result ≡ length rs = c.len-last.ensures ∙ c.runs.runs.ok.0 in
    let two : 1 < length rs = omega (arith, n, c.len.ensures, c.runs.runs.ok.0, c.runs-test.true) in
    let next : c.len-last.result - 1 ≡ suc k = omega (arith, n, two) in
    let split = last_two rs k a b (omega (arith, n, two)) c.index-in-runs-2.ensures (subst (λ (j : ℕ). b ≡ get_or rs j b) next c.index-in-runs-3.ensures) in
    behind rs (take k rs) a b c.args.end split c.runs.invariant.0

pub runs-preserved : goal.runs-preserved
runs-preserved g c =
    let rs = c.runs.runs.items in
    let k = c.len-last.result - 1 - 1 in
    let a = c.index-in-runs-2.result.now in
    let b = c.index-in-runs-3.result.now in
    let run = c.in_ok-run.run' in
    let n : c.len-last.result ≡ length rs = c.len-last.ensures ∙ c.runs.runs.ok.0 in
    let two : 1 < length rs = omega (arith, n, c.len.ensures, c.runs.runs.ok.0, c.runs-test.true) in
    let next : c.len-last.result - 1 ≡ suc k = omega (arith, n, two) in
    let split = last_two rs k a b (omega (arith, n, two)) c.index-in-runs-2.ensures (subst (λ (j : ℕ). b ≡ get_or rs j b) next c.index-in-runs-3.ensures) in
    let now : c.truncate.new.self.items ≡ take k rs ++ run ∷ [] = c.truncate.ensures.items ∙ ap (λ (j : ℕ). take j (slice_set rs k run)) next ∙ set_last rs k run (omega (arith, n, two)) in (
      joined_runs rs (take k rs) a b c.args.end split c.runs.invariant.0 run c.truncate.new.self.items now c.in_ok-run.ensures.place c.in_ok-run.ensures.items c.in_ok-run.ensures.stands,
      joined_items rs (take k rs) a b c.args.end split c.runs.invariant.0 run c.truncate.new.self.items now c.in_ok-run.ensures.place c.in_ok-run.ensures.items c.in_ok-run.ensures.stands ∙ c.runs.invariant.1,
    )
