use Rattle.std.proofs.Common.{◌≡◌, ◌++◌, length, take}
use Rattle.wasm_validator_type_ancestors.specs.Supers.{extended_in}
use Rattle.wasm_validator_type_ancestors.specs.Entries.{supers_of, AreEntries, IsKept}
use Rattle.wasm_validator_type_ancestors.proofs.entries.entries_of.Given as goal

abbrev pub invariant-types : goal.invariant-types
invariant-types g l = record {
  kept : IsKept l.fn.ids l.ids;
  as_many : length l.more.items ≡ l.ty-index;
  stand : AreEntries (l.entries ++ l.more.items) l.ids;
  says : supers_of l.ids (l.entries ++ l.more.items) ≡ supers_of l.fn.ids l.entries ++ extended_in (length l.entries) (take l.ty-index l.group);
}
