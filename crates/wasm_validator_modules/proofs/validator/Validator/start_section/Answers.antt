use Rattle.std.proofs.Common.{sym, subst}
use Rattle.wasm_validator_states.specs.ModuleInvariants.{AreIdsIn, AreValidIn, AreFirstIn}
use Rattle.wasm_validator_states.proofs.OpenModules.{open-ids, open-valid, open-first, kept-ids, kept-valid, kept-first}
use Rattle.std.proofs.Common.{rules}
use Rattle.wasm_readers_errors.specs.WasmReadersFeatures.declared.features.WasmFeatures.{WasmFeatures}
use Rattle.wasm_validator_states.specs.WasmValidatorTypeList.DefTypes.{types_of_list}
use Rattle.wasm_validator_states.specs.WasmValidatorTypes.Spaces.{Spaces}
use Rattle.wasm_validator_states.specs.WasmValidatorSections.WasmValidatorCore.declared.error.Error.{Error}
use Rattle.wasm_validator_states.specs.WasmValidatorSections.WasmValidatorCore.Answers.{TypesSoFar}
use Rattle.wasm_validator_states.specs.WasmValidatorSections.WasmValidatorCore.AddedItemRefusals.{told_of_start}
use Rattle.wasm_validator_states.specs.OrderRefusals.{TellsStart}
use Rattle.wasm_validator_states.proofs.SectionAnswers.{all_told_within, checked_told}
use Rattle.wasm_validator_modules.proofs.validator.Validator.start_section.Goals as goal

pub check_start-answer-requires : goal.check_start-answer-requires
check_start-answer-requires g c = let ids = open-ids c.self.inside.types c.self.inside.state c.in-Ok.state.«module» c.in-Ok.ensures.ok c.self.invariant.ids in ids.known

pub invariant_of-self : goal.invariant_of-self
invariant_of-self g c =
    let list = c.self.inside.types in
    let features = c.self.inside.features in
    let before = c.in-Ok.state in
    let types = c.self.inside.constants.types in
    record {
      list = c.self.invariant.list;
      ids = subst (AreIdsIn list) (sym c.put_back.ensures.kept) (kept-ids list before _ (open-ids list c.self.inside.state before.«module» c.in-Ok.ensures.ok c.self.invariant.ids));
      valid = subst (AreValidIn features list) (sym c.put_back.ensures.kept) (kept-valid list before features _ (open-valid features list c.self.inside.state before.«module» c.in-Ok.ensures.ok c.self.invariant.valid));
      first = subst (AreFirstIn list types) (sym c.put_back.ensures.kept) (kept-first list before types _ (open-first list types c.self.inside.state before.«module» c.in-Ok.ensures.ok c.self.invariant.first));
    }

pub returns-in-Ok-clause-told : goal.returns-in-Ok-clause-told
returns-in-Ok-clause-told g c =
    let place = c.args.range.now.start in
    let tells : WasmFeatures → TypesSoFar → Spaces → Error g.row.A.Denot → Type 0 = λ (f : WasmFeatures) (us : TypesSoFar) (m : Spaces) (e : Error g.row.A.Denot). TellsStart place c.args.function us m e in
    let module_read = c.in-Ok.state.«module» in
    let told = told_of_start place (types_of_list c.self.inside.types) module_read c.args.function in
    all_told_within c.self.inside.id c.self.inside.features (types_of_list c.self.inside.types) c.self.inside.state module_read tells place c.args.self.now c.lift_refusal.result c.put_back.result c.in-Ok.ensures.ok c.self.view_is c.put_back.ensures.same
    (checked_told c.check_start-answer.result c.lift_refusal.result told place c.lift_refusal.ensures.same c.lift_refusal.ensures.refusal c.check_start-answer.ensures.told (search rules))
