use Rattle.std.proofs.Common.{◌≡◌, ◌<◌, length, Some}
use Rattle.wasm_spec.specs.SupertypeOrder.{ancestor_at}
use Rattle.wasm_validator_type_list.specs.ListViews.{types_in}
use Rattle.wasm_validator_type_list.specs.DeclarationsById.{declares}
use Rattle.wasm_validator_type_checks.proofs.subtypes.check_links.Given as goal

abbrev pub invariant-links : goal.invariant-links
invariant-links g l = record {
  leads : ancestor_at (declares l.types.groups) l.depth l.fn.id.index ≡ Some l.ancestor.index;
  inside : l.ancestor.index < length (types_in l.types);
}
