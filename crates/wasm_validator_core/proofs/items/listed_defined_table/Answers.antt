use Rattle.std.proofs.Common.{sym, subst, IsTrue}
use Rattle.wasm_spec_rules.specs.FeatureFlags.{features_of}
use Rattle.wasm_readers_types.specs.SeenExterns.{table_of}
use Rattle.wasm_validator_checks.specs.ModuleTypes.{module_types}
use Rattle.wasm_validator_checks.specs.Items.{is_ref_in_range}
use Rattle.wasm_validator_checks.proofs.ListedTypes.{length_module_types}
use Rattle.wasm_validator_checks.proofs.AcceptedItems.{defined_table_inside}
use Rattle.wasm_validator_core.proofs.items.listed_defined_table.Goals as goal

pub listed_table-requires-clause-in_range : goal.listed_table-requires-clause-in_range
listed_table-requires-clause-in_range g c =
    let list = c.args.list.now in
    let ids = c.known_ids-ids.result.now in
    let ty = table_of c.args.ty in
    subst (λ n. IsTrue (is_ref_in_range n ty.element)) (length_module_types list ids)
    (defined_table_inside (features_of c.args.features) (module_types list ids) ty c.args.has_init (sym c.in_ok-check_defined_table.ensures.allowed))
