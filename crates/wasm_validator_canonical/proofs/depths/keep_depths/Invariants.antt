use Rattle.std.proofs.Common.{◌≡◌, ◌-◌, ◌<◌, length, All}
use Rattle.wasm_validator_type_list.specs.WasmValidatorTypeGroups.Elements.{ids_left}
use Rattle.wasm_validator_type_list.specs.ListViews.{types_in}
use Rattle.wasm_validator_canonical.specs.Depths.{StillKept, FitsByte}
use Rattle.wasm_validator_canonical.proofs.KeptDepths.{KeptSoFar}
use Rattle.wasm_validator_canonical.proofs.depths.keep_depths.Given as goal

abbrev pub invariant-ids : goal.invariant-ids
invariant-ids g l = record {
  there : All (λ id. id < length (types_in l.fn.types)) (ids_left l.elements);
  same_groups : l.types.groups ≡ l.fn.types.groups;
  same_open : l.types.is_open ≡ l.fn.types.is_open;
  same_mode : l.types.is_canonical ≡ l.fn.types.is_canonical;
  fits : All (FitsByte l.fn.types) (ids_left l.elements);
  earlier : StillKept l.fn.types l.types;
  so_far : KeptSoFar l.types l.fn.elements.next (l.fn.elements.end - l.fn.elements.next) (ids_left l.elements);
}

abbrev pub decreases-ids : goal.decreases-ids
decreases-ids g l = length (ids_left l.elements)
