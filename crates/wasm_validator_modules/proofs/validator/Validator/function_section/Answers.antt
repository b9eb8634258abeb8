use Rattle.std.proofs.Common.{refl, ap, ◌∙◌}
use Rattle.wasm_readers.specs.SectionsSeen.{count_of, bytes_of, section_start}
use Rattle.wasm_validator_states.specs.WasmValidatorTypeList.DefTypes.{types_of_list}
use Rattle.wasm_validator_states.specs.WasmValidatorSections.WasmValidatorCore.Answers.{HasValidTypes, TypesSoFar}
use Rattle.wasm_spec_rules.specs.FeatureFlags.{features_of}
use Rattle.wasm_validator_states.specs.WasmValidatorSections.Machine.{other_items, section_items}
use Rattle.wasm_validator_states.specs.WasmValidatorSections.WasmValidatorReferences.References.{section_names}
use Rattle.wasm_validator_states.specs.WasmValidatorSections.ModuleNotes.{naming}
use Rattle.wasm_validator_states.specs.Views.{order_at}
use Rattle.wasm_validator_states.proofs.SectionMoves.{section_answers, adds_beside, nothing_more}
use Rattle.wasm_validator_states.proofs.OpenModules.{stays_ready, open-ids, open-first}
use Rattle.wasm_readers_errors.specs.WasmReadersFeatures.declared.features.WasmFeatures.{WasmFeatures}
use Rattle.wasm_validator_states.specs.WasmValidatorTypes.Spaces.{Spaces}
use Rattle.wasm_validator_states.specs.WasmValidatorSections.WasmValidatorCore.declared.error.Error.{Error}
use Rattle.wasm_readers_errors.specs.Refusals.{plain}
use Rattle.wasm_readers_errors.specs.declared.error.Fault.TheVariants as fault
use Rattle.wasm_validator_states.specs.WasmValidatorSections.SectionFaults.{TellsFunctions}
use Rattle.wasm_validator_states.proofs.SectionAnswers.{told_within, order_within}
use Rattle.wasm_validator_modules.proofs.validator.Validator.function_section.Goals as goal

pub add_functions-added-requires : goal.add_functions-added-requires
add_functions-added-requires g c = let ids = open-ids c.self.inside.types c.self.inside.state c.in-Ok.state.«module» c.in-Ok.ensures.ok c.self.invariant.ids in ids.known

pub invariant_of-self : goal.invariant_of-self
invariant_of-self g c =
    let stays = stays_ready c.self.inside.features c.self.inside.types c.self.inside.constants.types c.self.inside.state c.put_back.new.state c.in-Ok.state.«module» (record c.in-Ok.state { «module» = c.add_functions-added.new.opened }) c.add_functions-added.result
    c.in-Ok.ensures.ok c.self.invariant.ids c.self.invariant.valid (open-first c.self.inside.types c.self.inside.constants.types c.self.inside.state c.in-Ok.state.«module» c.in-Ok.ensures.ok c.self.invariant.first) c.add_functions-added.ensures.types c.put_back.ensures.kept in
    record { list = c.self.invariant.list; ids = stays.0; valid = stays.1; first = stays.2 }

pub returns-in-Ok-clause-moves : goal.returns-in-Ok-clause-moves
returns-in-Ok-clause-moves g c =
    section_answers c.self.inside.id c.self.inside.features (types_of_list c.self.inside.types) c.in-Ok.state (naming (section_names 3 (count_of c.args.section.now) (bytes_of c.args.section.now))) (λ g. section_items g 3 (count_of c.args.section.now) (bytes_of c.args.section.now))
    c.self.inside.state c.put_back.new.state c.add_functions-added.result c.put_back.result (types_of_list c.self.inside.types) (record c.in-Ok.state { «module» = c.add_functions-added.new.opened }) c.args.self.now c.in-Ok.ensures.was c.self.view_is
    (adds_beside (HasValidTypes c.self.inside.features) (types_of_list c.self.inside.types) c.add_functions-added.result (other_items (features_of c.self.inside.features) (types_of_list c.self.inside.types) 3 (count_of c.args.section.now) (bytes_of c.args.section.now) c.in-Ok.state.«module») c.add_functions-added.new.opened c.add_functions-added.ensures.added)
    (nothing_more c.add_functions-added.result (record c.in-Ok.state { «module» = c.add_functions-added.new.opened }) c.in-Ok.state refl) c.put_back.ensures.kept c.put_back.ensures.same

pub returns-in-Ok-clause-told : goal.returns-in-Ok-clause-told
returns-in-Ok-clause-told g c =
    let tells : WasmFeatures → TypesSoFar → Spaces → Error g.row.A.Denot → Type 0 = λ (f : WasmFeatures) (us : TypesSoFar) (m : Spaces) (e : Error g.row.A.Denot). TellsFunctions c.args.section.now us m e in
    told_within c.self.inside.id c.self.inside.features (types_of_list c.self.inside.types) c.self.inside.state c.in-Ok.state.«module» tells (section_start c.args.section.now) c.args.self.now c.add_functions-added.result c.put_back.result c.in-Ok.ensures.ok c.self.view_is c.put_back.ensures.same c.add_functions-added.ensures.told

pub returns-in-Err-clause-told : goal.returns-in-Err-clause-told
returns-in-Err-clause-told g c =
    let tells : WasmFeatures → TypesSoFar → Spaces → Error g.row.A.Denot → Type 0 = λ (f : WasmFeatures) (us : TypesSoFar) (m : Spaces) (e : Error g.row.A.Denot). TellsFunctions c.args.section.now us m e in
    order_within c.self.inside.id c.self.inside.features (types_of_list c.self.inside.types) c.self.inside.state tells (section_start c.args.section.now) c.args.self.now c.in-Err.refusal c.in-Err.ensures.none c.self.view_is (c.in-Err.ensures.refusal ∙ ap (λ place. plain (fault.OutOfOrder (order_at c.self.inside.state)) place) c.range.ensures.start)
