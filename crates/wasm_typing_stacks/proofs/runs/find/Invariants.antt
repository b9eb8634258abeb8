use Rattle.std.proofs.Common.{◌-◌, ◌+◌, ◌<◌, ◌≤◌, length}
use Rattle.wasm_typing_stacks.specs.Locals.{end_of}
use Rattle.wasm_typing_stacks.proofs.runs.find.Given as goal

abbrev pub invariant-searching : goal.invariant-searching
invariant-searching l = record {
  ordered : l.low ≤ l.high;
  within : l.high ≤ length l.runs;
  before : end_of 0 l.low l.runs ≤ l.place;
  behind : l.high < length l.runs → l.place < end_of 0 (l.high + 1) l.runs;
}

abbrev pub decreases-searching : goal.decreases-searching
decreases-searching l = l.high - l.low
