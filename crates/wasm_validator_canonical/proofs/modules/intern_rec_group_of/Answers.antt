use Rattle.std.proofs.Common.{sym, ap, subst, ◌∙◌, ◌++◌, ◌<◌, length, arith}
use Rattle.std.specs.List.{All}
use Rattle.std.proofs.lemmas.List.{length-map}
use Rattle.wasm_spec_rules.specs.FeatureFlags.{features_of}
use Rattle.wasm_readers_types.specs.SeenTypes.{sub_of, rec_of}
use Rattle.wasm_validator_type_list.specs.WasmValidatorTypeGroups.Elements.{ids_left}
use Rattle.wasm_validator_type_list.specs.DefTypes.{def_types}
use Rattle.wasm_validator_canonical.specs.Indices.{numbers}
use Rattle.wasm_validator_canonical.proofs.NewIds.{known_ids, as_many_new}
use Rattle.wasm_validator_canonical.proofs.modules.intern_rec_group_of.Goals as goal

pub canonicalize_and_intern_rec_group-requires-clause-known : goal.canonicalize_and_intern_rec_group-requires-clause-known
canonicalize_and_intern_rec_group-requires-clause-known g c =
    let n = length (def_types c.args.types.now.is_canonical c.args.types.now.groups) in
    known_ids n c.type_ids-ids.result.now (subst (All (λ k. k < n)) (sym c.type_ids-ids.ensures) c.requires.known)

pub add_type_ids-requires : goal.add_type_ids-requires
add_type_ids-requires g c =
    let old = c.args.types.now in
    let new = c.canonicalize_and_intern_rec_group.new.types in
    let many = as_many_new (features_of c.args.features) (def_types old.is_canonical old.groups) (def_types new.is_canonical new.groups) (numbers c.type_ids-ids.result.now) (ids_left c.in-Ok.elements) (rec_of c.args.group) c.in-Ok.ensures.added in
    let same = ap length c.type_ids-ids.ensures in
    let types = length-map c.args.group.types sub_of in
    let few = c.requires.few in
    omega (arith, many, same, types, few)

pub returns-in-Ok-add_type_ids-clause-own_ids : goal.returns-in-Ok-add_type_ids-clause-own_ids
returns-in-Ok-add_type_ids-clause-own_ids g c = λ own.
    c.in-Ok-add_type_ids.ensures.ids ∙ ap (λ l. g.M.InternRecGroup.ids c.args.target.now ++ l) (c.in-Ok.ensures.own_ids own)
