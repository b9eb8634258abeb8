use Rattle.std.proofs.Common.{ap, subst}
use Rattle.wasm_readers.specs.SectionsSeen.{count_of, bytes_of, section_start, section_end}
use Rattle.wasm_readers_errors.specs.declared.error.Counted.TheVariants as counted
use Rattle.wasm_spec_rules.specs.FeatureFlags.{features_of}
use Rattle.wasm_validator_type_list.specs.DefTypes.{types_of_list}
use Rattle.wasm_validator_items.specs.WasmValidatorReferences.WasmSpecValidity.Expressions.{expression_at}
use Rattle.wasm_spec.specs.BinarySections.{data_at}
use Rattle.wasm_validator_items.specs.WasmValidatorCore.declared.limits.TheConstants.{MAX_DATA_SEGMENTS}
use Rattle.wasm_validator_items.specs.Machine.{data_step}
use Rattle.wasm_validator_items.specs.Entries.{add_data}
use Rattle.wasm_validator_items.specs.WasmValidatorCoreResources.IndexContexts.{id_of}
use Rattle.wasm_validator_items.specs.WasmValidatorCoreResources.ListContexts.{list_declares}
use Rattle.std.specs.Prelude.{⊤}
use Rattle.wasm_validator_items.specs.ItemSteps.{TellsSteps}
use Rattle.wasm_validator_items.specs.WasmValidatorCore.Answers.{Adds}
use Rattle.wasm_validator_items.specs.WasmValidatorCore.declared.error.Error.{Error}
use Rattle.wasm_validator_sections.specs.Machine.{data_items}
use Rattle.wasm_validator_items.proofs.SectionLoop.{count_alone_told}
use Rattle.wasm_validator_items.proofs.Singles.{items_are_added}
use Rattle.wasm_validator_sections.proofs.ConstantSections.{constants_added}
use Rattle.wasm_validator_sections.proofs.module_sections.check_data_segments.Goals as goal

pub returns-clause-added : goal.returns-clause-added
returns-clause-added g c =
    let F = features_of c.args.features in
    let list = c.args.list.now in
    let ids = list_declares id_of list.groups in
    let s = c.args.spaces.now in
    let kind = c.add_items.new.kind in
    subst (λ t. Adds c.add_items.result (data_items F (types_of_list list) (count_of c.args.section.now) (bytes_of c.args.section.now) s) t) (ap (λ k. k.4) c.add_items.ensures.kept)
    (constants_added list.is_canonical list.groups c.tells_types_apart.ensures.listable c.tells_types_apart.ensures.apart (data_at expression_at) (λ ds. add_data F ds) (data_step F ids) (items_are_added.segments F ids)
    c.add_items.result 0 MAX_DATA_SEGMENTS (count_of c.args.section.now) (bytes_of c.args.section.now) s kind.spaces.now c.add_items.ensures.added)

pub returns-clause-told : goal.returns-clause-told
returns-clause-told g c =
    let F = features_of c.args.features in
    let ids = list_declares id_of c.args.list.now.groups in
    let stop = section_end c.args.section.now in
    let count = count_of c.args.section.now in
    let bytes = bytes_of c.args.section.now in
    count_alone_told c.add_items.result counted.DataSegments 0 MAX_DATA_SEGMENTS (section_start c.args.section.now) stop count bytes
    (λ (e : Error g.row.A.Denot). TellsSteps (data_step F ids) (λ at q bs w. ⊤) stop e count bytes c.args.spaces.now) c.add_items.ensures.told
