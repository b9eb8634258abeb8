use Rattle.std.proofs.Common.{◌*◌}
use Rattle.wasm_typing_checks.specs.KnownLists.{KnownTo}
use Rattle.wasm_typing_checks.proofs.known_lists.are_known.Given as goal

abbrev pub invariant-comparing : goal.invariant-comparing
invariant-comparing l = record {
  so_far : KnownTo l.operands l.types (l.block * 8);
}
