use Rattle.wasm_typing_checks.specs.KnownLists.{KnownTo}
use Rattle.wasm_typing_checks.proofs.known_lists.each_more.Given as goal

abbrev pub invariant-going : goal.invariant-going
invariant-going l = record {
  so_far : KnownTo l.operands l.types l.from → KnownTo l.operands l.types l.i;
}
