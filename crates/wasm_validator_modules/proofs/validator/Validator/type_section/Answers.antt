use Rattle.std.proofs.Common.{refl, ap, ◌∙◌, sym, subst}
use Rattle.wasm_readers.specs.SectionsSeen.{count_of, bytes_of, section_start, section_end}
use Rattle.wasm_validator_states.specs.WasmValidatorTypeList.DefTypes.{types_of_list}
use Rattle.wasm_validator_states.specs.WasmValidatorSections.Machine.{section_items}
use Rattle.wasm_validator_states.specs.WasmValidatorSections.WasmValidatorReferences.References.{section_names}
use Rattle.wasm_validator_states.specs.WasmValidatorSections.ModuleNotes.{naming}
use Rattle.wasm_validator_states.specs.ValidatorStages.{Standing, Moves}
use Rattle.wasm_validator_states.specs.States.{after_section}
use Rattle.wasm_validator_states.specs.Views.{stage_of, order_at}
use Rattle.wasm_validator_states.proofs.OpenModules.{open-ids, open-valid, open-first, added-ids, added-valid}
use Rattle.wasm_validator_states.proofs.SectionMoves.{section_moves, nothing_more}
use Rattle.std.specs.Prelude.{IfErr}
use Rattle.wasm_validator_states.specs.WasmValidatorSections.declared.module_state.ModuleState.{ModuleState}
use Rattle.wasm_validator_states.specs.ModuleInvariants.{AreIdsIn, AreValidIn, AreFirstIn}
use Rattle.wasm_validator_states.proofs.KeptTypes.{grown-first}
use Rattle.wasm_readers_errors.specs.WasmReadersFeatures.declared.features.WasmFeatures.{WasmFeatures}
use Rattle.wasm_validator_states.specs.WasmValidatorTypes.Spaces.{Spaces}
use Rattle.wasm_validator_states.specs.WasmValidatorSections.WasmValidatorCore.declared.error.Error.{Error}
use Rattle.wasm_validator_states.specs.WasmValidatorSections.WasmValidatorCore.Answers.{TypesSoFar}
use Rattle.wasm_readers_errors.specs.Refusals.{plain}
use Rattle.wasm_readers_errors.specs.declared.error.Fault.TheVariants as fault
use Rattle.wasm_validator_states.specs.WasmValidatorSections.SectionFaults.{StandsBetween, TellsTypes}
use Rattle.wasm_validator_states.proofs.SectionAnswers.{told_within, order_within}
use Rattle.wasm_validator_modules.proofs.validator.Validator.type_section.Goals as goal

pub add_types-added-requires-clause-ids : goal.add_types-added-requires-clause-ids
add_types-added-requires-clause-ids g c = open-ids c.self.inside.types c.self.inside.state c.in-Ok.state.«module» c.in-Ok.ensures.ok c.self.invariant.ids

pub add_types-added-requires-clause-valid : goal.add_types-added-requires-clause-valid
add_types-added-requires-clause-valid g c = open-valid c.self.inside.features c.self.inside.types c.self.inside.state c.in-Ok.state.«module» c.in-Ok.ensures.ok c.self.invariant.valid

pub invariant_of-self : goal.invariant_of-self
invariant_of-self g c =
    let features = c.self.inside.features in
    let old = c.self.inside.types in
    let added = c.add_types-added in
    let new = added.new.list in
    let before = c.in-Ok.state.«module» in
    let after : ModuleState g.row.A.Denot = record c.in-Ok.state { «module» = added.new.opened } in
    let types = c.self.inside.constants.types in
    record {
      list = added.ensures.open;
      ids = subst (AreIdsIn new) (sym c.put_back.ensures.kept) (added-ids new after added.result added.ensures.ids);
      valid = subst (AreValidIn features new) (sym c.put_back.ensures.kept) (added-valid new after features added.result added.ensures.valid);
      first = subst (AreFirstIn new types) (sym c.put_back.ensures.kept)
          (grown-first features old new types before after (count_of c.args.section.now) (bytes_of c.args.section.now) added.result c.tells_types_apart.ensures.listable c.tells_types_apart-in-Ok.ensures.listable c.tells_types_apart-in-Ok.ensures.apart
          (added.ensures.open.mode ∙ sym c.self.invariant.list.mode) added.ensures.added (open-first old types c.self.inside.state before c.in-Ok.ensures.ok c.self.invariant.first));
    }

pub returns-in-Ok-clause-place : goal.returns-in-Ok-clause-place
returns-in-Ok-clause-place g c = subst (λ r. IfErr r (StandsBetween (section_start c.args.section.now) (section_end c.args.section.now))) (sym c.put_back.ensures.same) c.add_types-added.ensures.place

pub returns-in-Ok-clause-moves : goal.returns-in-Ok-clause-moves
returns-in-Ok-clause-moves g c =
    let id = c.self.inside.id in
    let features = c.self.inside.features in
    let added = c.add_types-added in
    let count = count_of c.args.section.now in
    let bytes = bytes_of c.args.section.now in
    let types = types_of_list added.new.list in
    let new : Standing = record { id = id; features = features; stage = stage_of types c.put_back.new.state } in
    subst (λ r. Moves r (after_section c.args.self.now 1 count bytes) c.args.self.now new) (sym c.put_back.ensures.same)
    (section_moves id features (types_of_list c.self.inside.types) c.in-Ok.state (naming (section_names 1 count bytes)) (λ g. section_items g 1 count bytes) c.self.inside.state added.result types (record c.in-Ok.state { «module» = added.new.opened }) c.args.self.now new
    c.in-Ok.ensures.was c.self.view_is (λ i. record { id = id; features = features; stage = stage_of types (sym c.put_back.ensures.kept i) }) added.ensures.added (nothing_more added.result (record c.in-Ok.state { «module» = added.new.opened }) c.in-Ok.state refl))

pub returns-in-Ok-clause-told : goal.returns-in-Ok-clause-told
returns-in-Ok-clause-told g c =
    let tells : WasmFeatures → TypesSoFar → Spaces → Error g.row.A.Denot → Type 0 = λ (f : WasmFeatures) (us : TypesSoFar) (m : Spaces) (e : Error g.row.A.Denot). TellsTypes f c.args.section.now us m e in
    told_within c.self.inside.id c.self.inside.features (types_of_list c.self.inside.types) c.self.inside.state c.in-Ok.state.«module» tells (section_start c.args.section.now) c.args.self.now c.add_types-added.result c.put_back.result c.in-Ok.ensures.ok c.self.view_is c.put_back.ensures.same c.add_types-added.ensures.told

pub returns-in-Err-clause-told : goal.returns-in-Err-clause-told
returns-in-Err-clause-told g c =
    let tells : WasmFeatures → TypesSoFar → Spaces → Error g.row.A.Denot → Type 0 = λ (f : WasmFeatures) (us : TypesSoFar) (m : Spaces) (e : Error g.row.A.Denot). TellsTypes f c.args.section.now us m e in
    order_within c.self.inside.id c.self.inside.features (types_of_list c.self.inside.types) c.self.inside.state tells (section_start c.args.section.now) c.args.self.now c.in-Err.refusal c.in-Err.ensures.none c.self.view_is (c.in-Err.ensures.refusal ∙ ap (λ place. plain (fault.OutOfOrder (order_at c.self.inside.state)) place) c.range.ensures.start)
