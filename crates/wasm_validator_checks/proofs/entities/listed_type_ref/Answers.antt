use Rattle.std.proofs.Common.{sym, ap, subst, ◌∙◌, IsTrue}
use Rattle.wasm_validator_resources.specs.WasmSpecRules.FeatureFlags.{features_of}
use Rattle.wasm_readers_types.specs.SeenExterns.{table_of, global_of, extern_of}
use Rattle.wasm_validator_checks.specs.ModuleTypes.{module_types}
use Rattle.wasm_validator_checks.specs.Items.{is_ref_in_range, is_val_in_range, is_valid_extern}
use Rattle.wasm_validator_checks.proofs.ListedTypes.{length_module_types}
use Rattle.wasm_validator_checks.specs.ModuleTypeIds.{IsTyped}
use Rattle.wasm_validator_checks.proofs.AcceptedItems.{table_inside, global_inside, extern_typed}
use Rattle.wasm_validator_checks.proofs.entities.listed_type_ref.Goals as goal

pub listed_table-requires-clause-in_range : goal.listed_table-requires-clause-in_range
listed_table-requires-clause-in_range g c =
    let F = features_of c.args.features in
    let types = module_types c.args.list.now c.args.ids.now in
    let allowed = c.in_ok-check_type_ref.ensures.allowed in
    let table = c.in-Table.table in
    subst (λ n. IsTrue (is_ref_in_range n (table_of table).element)) (length_module_types c.args.list.now c.args.ids.now)
    (table_inside F types (table_of table) (sym (allowed ∙ ap (λ t. is_valid_extern F types (extern_of t)) c.in-Table.is)))

pub listed_global-requires-clause-in_range : goal.listed_global-requires-clause-in_range
listed_global-requires-clause-in_range g c =
    let F = features_of c.args.features in
    let types = module_types c.args.list.now c.args.ids.now in
    let allowed = c.in_ok-check_type_ref.ensures.allowed in
    let global = c.in-Global.global in
    subst (λ n. IsTrue (is_val_in_range n (global_of global).content)) (length_module_types c.args.list.now c.args.ids.now)
    (global_inside F types (global_of global) (sym (allowed ∙ ap (λ t. is_valid_extern F types (extern_of t)) c.in-Global.is)))

pub returns-in-Func-clause-typed : goal.returns-in-Func-clause-typed
returns-in-Func-clause-typed g c =
    let types = module_types c.args.list.now c.args.ids.now in
    let allowed = c.in_ok-check_type_ref.ensures.allowed in
    subst (λ n. IsTyped n (extern_of c.args.ty)) (length_module_types c.args.list.now c.args.ids.now) (extern_typed (features_of c.args.features) types (extern_of c.args.ty) (sym allowed))

pub returns-in-FuncExact-clause-typed : goal.returns-in-FuncExact-clause-typed
returns-in-FuncExact-clause-typed g c =
    let types = module_types c.args.list.now c.args.ids.now in
    let allowed = c.in_ok-check_type_ref.ensures.allowed in
    subst (λ n. IsTyped n (extern_of c.args.ty)) (length_module_types c.args.list.now c.args.ids.now) (extern_typed (features_of c.args.features) types (extern_of c.args.ty) (sym allowed))

pub returns-in-Tag-clause-typed : goal.returns-in-Tag-clause-typed
returns-in-Tag-clause-typed g c =
    let types = module_types c.args.list.now c.args.ids.now in
    let allowed = c.in_ok-check_type_ref.ensures.allowed in
    subst (λ n. IsTyped n (extern_of c.args.ty)) (length_module_types c.args.list.now c.args.ids.now) (extern_typed (features_of c.args.features) types (extern_of c.args.ty) (sym allowed))
