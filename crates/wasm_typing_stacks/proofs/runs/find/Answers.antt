use Rattle.std.proofs.Common.{ℕ, List, ◌≡◌, ◌+◌, ◌-◌, ◌/◌, ◌<◌, length, arith}
use Rattle.wasm_typing_stacks.specs.Locals.{end_of}
use Rattle.wasm_typing_stacks.specs.declared.runs.Run.{Run}
use Rattle.wasm_typing_stacks.proofs.LocalRuns.{passed, found}
use Rattle.wasm_typing_stacks.proofs.runs.find.Goals as goal

pub searching-preserved-then-runs-middle : goal.searching-preserved-then-runs-middle
searching-preserved-then-runs-middle c =
    let i = c.searching.invariant in
    let l : c.searching.low + (c.searching.high - c.searching.low) / 2 < length c.args.runs.now = omega arith in
    record {
      ordered = omega arith;
      within = i.within;
      before = passed (c.searching.low + (c.searching.high - c.searching.low) / 2) c.args.place c.args.runs.now c.index-runs-middle.result l c.if-runs-middle.true;
      behind = i.behind;
    }

same_end : (low high place : ℕ) (rs : List Run) → low ≡ high → (high < length rs → place < end_of 0 (high + 1) rs) → low < length rs → place < end_of 0 (low + 1) rs
same_end low high place rs e h l = let k : high < length rs = omega arith in rw e (h k)

pub returns-then-low-runs : goal.returns-then-low-runs
returns-then-low-runs c =
    let i = c.searching.invariant in
    let e : c.searching.low ≡ c.searching.high = omega (arith, i.ordered, c.searching-test.false) in
    found c.searching.low c.args.place c.args.runs.now c.index-runs-low.result c.requires i.before
    (same_end c.searching.low c.searching.high c.args.place c.args.runs.now e i.behind c.if-low-runs.true) c.if-low-runs.true
