use Rattle.std.proofs.Common.{ap, length}
use Rattle.wasm_readers.specs.SectionsSeen.{count_of, bytes_of, section_start, section_end}
use Rattle.wasm_readers_errors.specs.declared.error.Counted.TheVariants as counted
use Rattle.wasm_spec_rules.specs.FeatureFlags.{features_of}
use Rattle.wasm_readers.specs.WrittenIndices.{written}
use Rattle.wasm_validator_type_list.specs.DefTypes.{types_of_list}
use Rattle.wasm_validator_items.specs.WasmValidatorReferences.WasmSpecValidity.Expressions.{expression_at}
use Rattle.wasm_spec.specs.BinarySections.{global_entry_at}
use Rattle.wasm_validator_items.specs.WasmValidatorCore.declared.limits.TheConstants.{MAX_GLOBALS}
use Rattle.wasm_validator_items.specs.Machine.{global_step}
use Rattle.wasm_validator_items.specs.Entries.{add_global_entry}
use Rattle.wasm_validator_items.specs.WasmValidatorReferences.References.{global_names, names_of_global, names_of_globals}
use Rattle.wasm_validator_items.specs.WasmValidatorCoreResources.IndexContexts.{id_of}
use Rattle.wasm_validator_items.specs.WasmValidatorCoreResources.ListContexts.{list_declares}
use Rattle.std.specs.Prelude.{⊤}
use Rattle.wasm_validator_items.specs.ItemSteps.{naming_step, TellsSteps}
use Rattle.wasm_validator_items.specs.WasmValidatorCore.declared.error.Error.{Error}
use Rattle.wasm_validator_items.proofs.SectionLoop.{count_alone_told}
use Rattle.wasm_validator_items.proofs.Singles.{items_are_added}
use Rattle.wasm_validator_sections.specs.ModuleNotes.{noted_of}
use Rattle.wasm_validator_sections.proofs.ConstantSections.{constants_noted, section_noted}
use Rattle.wasm_validator_sections.proofs.module_sections.add_globals.Goals as goal

pub returns-clause-added : goal.returns-clause-added
returns-clause-added g c =
    let F = features_of c.args.features in
    let list = c.args.list.now in
    let us = types_of_list list in
    let ids = list_declares id_of list.groups in
    let s = c.args.state.now.«module» in
    let kind = c.add_items.new.kind in
    (constants_noted list.is_canonical list.groups c.tells_types_apart.ensures.listable c.tells_types_apart.ensures.apart (global_entry_at expression_at written) (λ ds. add_global_entry F ds us) (global_step F ids us) (items_are_added.globals F ids us)
    c.add_items.result (length s.globals) MAX_GLOBALS (count_of c.args.section.now) (bytes_of c.args.section.now) s global_names c.args.state.now.referenced (kind.opened.now, kind.referenced.now) c.add_items.ensures.added).0

pub returns-clause-noted : goal.returns-clause-noted
returns-clause-noted g c =
    let F = features_of c.args.features in
    let list = c.args.list.now in
    let us = types_of_list list in
    let ids = list_declares id_of list.groups in
    let s = c.args.state.now.«module» in
    let kind = c.add_items.new.kind in
    section_noted c.add_items.result (noted_of c.args.state.now) kind.referenced.now (names_of_globals (count_of c.args.section.now) (bytes_of c.args.section.now))
    (constants_noted list.is_canonical list.groups c.tells_types_apart.ensures.listable c.tells_types_apart.ensures.apart (global_entry_at expression_at written) (λ ds. add_global_entry F ds us) (global_step F ids us) (items_are_added.globals F ids us)
    c.add_items.result (length s.globals) MAX_GLOBALS (count_of c.args.section.now) (bytes_of c.args.section.now) s global_names c.args.state.now.referenced (kind.opened.now, kind.referenced.now) c.add_items.ensures.added).1

pub returns-clause-types : goal.returns-clause-types
returns-clause-types g c = ap (λ k. k.6) c.add_items.ensures.kept

pub returns-clause-told : goal.returns-clause-told
returns-clause-told g c =
    let F = features_of c.args.features in
    let us = types_of_list c.args.list.now in
    let ids = list_declares id_of c.args.list.now.groups in
    let s = c.args.state.now.«module» in
    let stop = section_end c.args.section.now in
    let count = count_of c.args.section.now in
    let bytes = bytes_of c.args.section.now in
    let most = MAX_GLOBALS in
    count_alone_told c.add_items.result counted.Globals (length c.args.state.now.«module».globals) most (section_start c.args.section.now) stop count bytes
    (λ (e : Error g.row.A.Denot). TellsSteps (naming_step (global_step F ids us) names_of_global) (λ at q bs w. ⊤) stop e count bytes (s, c.args.state.now.referenced)) c.add_items.ensures.told
