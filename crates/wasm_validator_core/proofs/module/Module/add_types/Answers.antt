use Rattle.std.proofs.Common.{sym, subst, ◌∙◌, ◌+◌, leb, length}
use Rattle.std.proofs.lemmas.Bool.{leb-true, leb-false}
use Rattle.std.proofs.lemmas.List.{length-map}
use Rattle.wasm_readers_types.specs.SeenTypes.{sub_of, rec_of}
use Rattle.wasm_validator_checks.specs.WasmValidatorTypeList.DefTypes.{types_of_list}
use Rattle.wasm_validator_checks.specs.WasmValidatorTypes.Spaces.{Spaces}
use Rattle.wasm_validator_checks.proofs.WasmValidatorCanonical.ListFronts.{begins}
use Rattle.wasm_validator_core.specs.declared.limits.TheConstants.{MAX_TYPES}
use Rattle.wasm_validator_core.specs.Errors.{IsAt, IfContent}
use Rattle.wasm_validator_core.specs.Answers.{TypesSoFar, AddsWhere, HasValidTypes}
use Rattle.wasm_validator_core.specs.Machine.{add_group}
use Rattle.wasm_validator_core.specs.AddedItemRefusals.{ToldOfAddedGroup, over_limit, within_limit}
use Rattle.wasm_validator_core.proofs.AddedGroups.{refusal, group_refused, ids_of_new, lifted_tells, lifted_at}
use Rattle.wasm_validator_core.proofs.module.Module.add_types.Goals as goal

pub returns-in-Ok-intern_rec_group_of-clause-ids : goal.returns-in-Ok-intern_rec_group_of-clause-ids
returns-in-Ok-intern_rec_group_of-clause-ids g c =
    let s = c.args.self.now in
    let few = (λ i. leb (length s.types + length-map c.args.group.types sub_of i) MAX_TYPES) ∙ (λ i. leb (length s.types + length (sym c.types-more.ensures i)) MAX_TYPES) ∙ (λ i. leb (length ((sym c.self.view_is i).types) + length c.types-more.result.now) MAX_TYPES) ∙ (λ i. leb (sym c.type_count-count.ensures i + length c.types-more.result.now) MAX_TYPES) ∙ sym c.in-Ok.ensures.fits in
    ids_of_new c.args.features c.args.list.now c.intern_rec_group_of.new.types s c.intern_rec_group_of.new.target (rec_of c.args.group) few c.in-Ok-intern_rec_group_of.ensures.added c.requires.ids

pub returns-in-Err-intern_rec_group_of-clause-added : goal.returns-in-Err-intern_rec_group_of-clause-added
returns-in-Err-intern_rec_group_of-clause-added g c =
    let us = types_of_list c.args.list.now in
    let left : TypesSoFar × Spaces = (types_of_list c.intern_rec_group_of.new.types, c.intern_rec_group_of.new.target) in
    subst (λ e. AddsWhere (HasValidTypes c.args.features) (refusal e) (add_group c.args.features (us, c.args.self.now) (rec_of c.args.group)) left) (sym c.from.ensures)
    (group_refused c.args.features us c.args.self.now (rec_of c.args.group) g.row.A.Denot c.in-Err-intern_rec_group_of.error left c.in-Err-intern_rec_group_of.ensures.added)

pub returns-in-Err-intern_rec_group_of-clause-place : goal.returns-in-Err-intern_rec_group_of-clause-place
returns-in-Err-intern_rec_group_of-clause-place g c =
    subst (IsAt c.args.offset) (sym c.from.ensures) (lifted_at g.row.A.Denot c.args.offset c.in-Err-intern_rec_group_of.error c.in-Err-intern_rec_group_of.ensures.place)

pub returns-in-Err-clause-told : goal.returns-in-Err-clause-told
returns-in-Err-clause-told g c =
    let s = c.args.self.now in
    let over = (λ i. leb (length s.types + length-map c.args.group.types sub_of i) MAX_TYPES) ∙ (λ i. leb (length s.types + length (sym c.types-more.ensures i)) MAX_TYPES) ∙ (λ i. leb (length ((sym c.self.view_is i).types) + length c.types-more.result.now) MAX_TYPES) ∙ (λ i. leb (sym c.type_count-count.ensures i + length c.types-more.result.now) MAX_TYPES) ∙ sym c.in-Err.ensures.fits in
    over_limit (leb-false (length s.types + length (rec_of c.args.group).types) MAX_TYPES over) c.in-Err.ensures.refusal

pub returns-in-Err-intern_rec_group_of-clause-told : goal.returns-in-Err-intern_rec_group_of-clause-told
returns-in-Err-intern_rec_group_of-clause-told g c =
    let s = c.args.self.now in
    let w = rec_of c.args.group in
    let few = (λ i. leb (length s.types + length-map c.args.group.types sub_of i) MAX_TYPES) ∙ (λ i. leb (length s.types + length (sym c.types-more.ensures i)) MAX_TYPES) ∙ (λ i. leb (length ((sym c.self.view_is i).types) + length c.types-more.result.now) MAX_TYPES) ∙ (λ i. leb (sym c.type_count-count.ensures i + length c.types-more.result.now) MAX_TYPES) ∙ sym c.in-Ok.ensures.fits in
    subst (IfContent (ToldOfAddedGroup c.args.features c.args.offset c.args.list.now s w)) (sym c.from.ensures)
    (lifted_tells g.row.A.Denot c.in-Err-intern_rec_group_of.error (λ r t. within_limit (leb-true (length s.types + length w.types) MAX_TYPES few) t) c.in-Err-intern_rec_group_of.ensures.told)

pub returns-in-Err-clause-kept_groups : goal.returns-in-Err-clause-kept_groups
returns-in-Err-clause-kept_groups g c = begins c.args.list.now
