use Rattle.std.proofs.Common.{◌≡◌, length, take}
use Rattle.wasm_validator_core_resources.specs.ById.{AreFirstByIds}
use Rattle.wasm_validator_core_resources.proofs.types_by_ids.TypesByIds.copy_rest.Given as goal

abbrev pub invariant-loop-place : goal.invariant-loop-place
invariant-loop-place g l = record {
  first : AreFirstByIds l.list.groups l.self-inside.types;
  kept : take (length l.fn.self) l.self-inside.types ≡ l.fn.self;
  count : length l.self-inside.types ≡ l.place;
}
