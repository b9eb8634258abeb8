use Rattle.std.proofs.Common.{◌≡◌, ◌+◌, length}
use Rattle.wasm_validator_type_ancestors.specs.Entries.{IsKept, AreCopied}
use Rattle.wasm_validator_type_ancestors.proofs.entries.copy_ids.Given as goal

abbrev pub invariant-copies : goal.invariant-copies
invariant-copies g l = record {
  kept : IsKept l.fn.ids l.ids;
  longer : length l.ids ≡ length l.fn.ids + l.i;
  copied : AreCopied l.ids l.from (length l.fn.ids) l.i;
}
