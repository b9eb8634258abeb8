use Rattle.std.proofs.Common.{refl, ◌≡◌, ap, sym, subst, ◌∙◌, Bool, true, true≢false}
use Rattle.std.specs.Prelude.{IfErr}
use Rattle.wasm_readers.specs.SectionsSeen.{section_start, count_of, bytes_of}
use Rattle.wasm_readers_errors.specs.Refusals.{plain, lacking}
use Rattle.wasm_readers_errors.specs.declared.error.Fault.TheVariants as fault
use Rattle.wasm_readers_errors.specs.declared.error.Rule.TheVariants.{Exceptions}
use Rattle.wasm_readers_errors.specs.WasmReadersFeatures.declared.features.WasmFeatures.{WasmFeatures}
use Rattle.wasm_readers_errors.specs.WasmReadersFeatures.declared.features.TheConstants.WasmFeatures.{EXCEPTIONS}
use Rattle.wasm_validator_states.specs.WasmValidatorTypes.Spaces.{Spaces}
use Rattle.wasm_validator_states.specs.WasmValidatorSections.WasmValidatorCore.declared.error.Error.{Error}
use Rattle.wasm_validator_states.specs.WasmValidatorSections.WasmValidatorCore.declared.error.Error.TheVariants.{Refused}
use Rattle.wasm_validator_states.specs.WasmValidatorSections.WasmValidatorCore.Answers.{TypesSoFar, HasValidTypes}
use Rattle.wasm_validator_states.specs.States.{after_section}
use Rattle.wasm_validator_states.specs.Views.{order_at, stage_of}
use Rattle.wasm_validator_states.specs.OrderRefusals.{TellsWithin}
use Rattle.wasm_validator_states.specs.WasmValidatorSections.SectionFaults.{OfContent, Either, TellsTags}
use Rattle.wasm_validator_states.proofs.SectionAnswers.{told_within, order_within}
use Rattle.wasm_validator_states.specs.WasmValidatorTypeList.DefTypes.{types_of_list}
use Rattle.wasm_spec_rules.specs.FeatureFlags.{features_of}
use Rattle.wasm_validator_states.specs.WasmValidatorSections.Machine.{other_items, section_items}
use Rattle.wasm_validator_states.specs.WasmValidatorSections.WasmValidatorReferences.References.{section_names}
use Rattle.wasm_validator_states.specs.WasmValidatorSections.ModuleNotes.{naming}
use Rattle.wasm_validator_states.specs.ValidatorStages.{Standing, Leaves}
use Rattle.wasm_validator_states.proofs.SectionMoves.{section_answers, adds_beside, tags_refused, nothing_more}
use Rattle.wasm_validator_states.proofs.OpenModules.{stays_ready, open-ids, open-first}
use Rattle.wasm_validator_modules.proofs.validator.Validator.tag_section.Goals as goal

pub add_tags-added-requires-clause-held : goal.add_tags-added-requires-clause-held
add_tags-added-requires-clause-held g c = let ids = open-ids c.self.inside.types c.self.inside.state c.in-Ok.state.«module» c.in-Ok.ensures.ok c.self.invariant.ids in ids.known

pub invariant_of-self-in-Ok : goal.invariant_of-self-in-Ok
invariant_of-self-in-Ok g c =
    let stays = stays_ready c.self.inside.features c.self.inside.types c.self.inside.constants.types c.self.inside.state c.put_back.new.state c.in-Ok.state.«module» (record c.in-Ok.state { «module» = c.add_tags-added.new.opened }) c.add_tags-added.result
    c.in-Ok.ensures.ok c.self.invariant.ids c.self.invariant.valid (open-first c.self.inside.types c.self.inside.constants.types c.self.inside.state c.in-Ok.state.«module» c.in-Ok.ensures.ok c.self.invariant.first) c.add_tags-added.ensures.types c.put_back.ensures.kept in
    record { list = c.self.invariant.list; ids = stays.0; valid = stays.1; first = stays.2 }

pub returns-in-Ok-clause-moves : goal.returns-in-Ok-clause-moves
returns-in-Ok-clause-moves g c =
    let on : (features_of c.self.inside.features).exceptions ≡ true = sym (c.contains.ensures tt) ∙ c.if-not-contains.false in
    subst (λ h. Leaves c.put_back.result (after_section c.args.self.now 13 (count_of c.args.section.now) (bytes_of c.args.section.now)) h c.args.self.now (record { id = c.self.inside.id; features = c.self.inside.features; stage = stage_of (types_of_list c.self.inside.types) c.put_back.new.state })) (tags_refused c.args.self.now.features c.args.self.now.stage (ap (λ (s : Standing). (features_of s.features).exceptions) (sym c.self.view_is) ∙ on))
    (section_answers c.self.inside.id c.self.inside.features (types_of_list c.self.inside.types) c.in-Ok.state (naming (section_names 13 (count_of c.args.section.now) (bytes_of c.args.section.now))) (λ g. section_items g 13 (count_of c.args.section.now) (bytes_of c.args.section.now))
    c.self.inside.state c.put_back.new.state c.add_tags-added.result c.put_back.result (types_of_list c.self.inside.types) (record c.in-Ok.state { «module» = c.add_tags-added.new.opened }) c.args.self.now c.in-Ok.ensures.was c.self.view_is
    (adds_beside (HasValidTypes c.self.inside.features) (types_of_list c.self.inside.types) c.add_tags-added.result (other_items (features_of c.self.inside.features) (types_of_list c.self.inside.types) 13 (count_of c.args.section.now) (bytes_of c.args.section.now) c.in-Ok.state.«module») c.add_tags-added.new.opened c.add_tags-added.ensures.added)
    (nothing_more c.add_tags-added.result (record c.in-Ok.state { «module» = c.add_tags-added.new.opened }) c.in-Ok.state refl) c.put_back.ensures.kept c.put_back.ensures.same)

pub returns-in-Ok-clause-content : goal.returns-in-Ok-clause-content
returns-in-Ok-clause-content g c =
    let on : (features_of c.args.self.now.features).exceptions ≡ true = ap (λ (s : Standing). (features_of s.features).exceptions) (sym c.self.view_is) ∙ (sym (c.contains.ensures tt) ∙ c.if-not-contains.false) in
    λ off. absurd (true≢false (sym on ∙ off))

pub returns-in-Ok-clause-told : goal.returns-in-Ok-clause-told
returns-in-Ok-clause-told g c =
    let start = section_start c.args.section.now in
    let old = c.args.self.now in
    let tells : WasmFeatures → TypesSoFar → Spaces → Error g.row.A.Denot → Type 0 = λ (f : WasmFeatures) (us : TypesSoFar) (m : Spaces) (e : Error g.row.A.Denot). TellsTags f c.args.section.now us m e in
    let on : (features_of old.features).exceptions ≡ true = ap (λ (s : Standing). (features_of s.features).exceptions) (sym c.self.view_is) ∙ (sym (c.contains.ensures tt) ∙ c.if-not-contains.false) in
    subst (λ (b : Bool). IfErr c.put_back.result (OfContent (λ (e : Error g.row.A.Denot). Either b (TellsWithin (tells old.features) start old.stage e) (e ≡ Refused (lacking EXCEPTIONS (fault.Rule Exceptions) start))))) (sym on)
    (told_within c.self.inside.id c.self.inside.features (types_of_list c.self.inside.types) c.self.inside.state c.in-Ok.state.«module» tells start old c.add_tags-added.result c.put_back.result c.in-Ok.ensures.ok c.self.view_is c.put_back.ensures.same c.add_tags-added.ensures.told)

pub returns-in-Err-clause-told : goal.returns-in-Err-clause-told
returns-in-Err-clause-told g c =
    let start = section_start c.args.section.now in
    let old = c.args.self.now in
    let tells : WasmFeatures → TypesSoFar → Spaces → Error g.row.A.Denot → Type 0 = λ (f : WasmFeatures) (us : TypesSoFar) (m : Spaces) (e : Error g.row.A.Denot). TellsTags f c.args.section.now us m e in
    let refused : Error g.row.A.Denot = Refused c.in-Err.refusal in
    let on : (features_of old.features).exceptions ≡ true = ap (λ (s : Standing). (features_of s.features).exceptions) (sym c.self.view_is) ∙ (sym (c.contains.ensures tt) ∙ c.if-not-contains.false) in
    subst (λ (b : Bool). Either b (TellsWithin (tells old.features) start old.stage refused) (refused ≡ Refused (lacking EXCEPTIONS (fault.Rule Exceptions) start))) (sym on)
    (order_within c.self.inside.id c.self.inside.features (types_of_list c.self.inside.types) c.self.inside.state tells start old c.in-Err.refusal c.in-Err.ensures.none c.self.view_is (c.in-Err.ensures.refusal ∙ ap (λ place. plain (fault.OutOfOrder (order_at c.self.inside.state)) place) c.range-offset.ensures.start))
