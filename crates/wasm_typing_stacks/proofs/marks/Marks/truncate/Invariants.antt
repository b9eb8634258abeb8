use Rattle.std.proofs.Common.{◌≡◌, drop}
use Rattle.wasm_typing_stacks.proofs.marks.Marks.truncate.Given as goal

abbrev pub invariant-undoing : goal.invariant-undoing
invariant-undoing g l = l.self ≡ drop l._i l.initial.self
