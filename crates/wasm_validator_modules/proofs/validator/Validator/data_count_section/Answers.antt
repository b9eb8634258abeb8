use Rattle.std.proofs.Common.{Some, sym, subst, rules}
use Rattle.wasm_readers_errors.specs.WasmReadersFeatures.declared.features.WasmFeatures.{WasmFeatures}
use Rattle.wasm_validator_states.specs.WasmValidatorTypeList.DefTypes.{types_of_list}
use Rattle.wasm_validator_states.specs.WasmValidatorTypes.Spaces.{Spaces}
use Rattle.wasm_validator_states.specs.WasmValidatorSections.WasmValidatorCore.declared.error.Error.{Error}
use Rattle.wasm_validator_states.specs.WasmValidatorSections.WasmValidatorCore.Answers.{TypesSoFar}
use Rattle.wasm_validator_states.specs.WasmValidatorSections.WasmValidatorCore.AddedItemRefusals.{told_of_data_count}
use Rattle.wasm_validator_states.specs.OrderRefusals.{TellsDataCount}
use Rattle.wasm_validator_states.proofs.SectionAnswers.{all_told_within, checked_told}
use Rattle.wasm_validator_states.specs.WasmValidatorSections.declared.module_state.ModuleState.{ModuleState}
use Rattle.wasm_validator_states.specs.ModuleInvariants.{AreIdsIn, AreValidIn, AreFirstIn}
use Rattle.wasm_validator_states.proofs.OpenModules.{open-ids, open-valid, open-first, kept-ids, kept-valid, kept-first}
use Rattle.wasm_validator_modules.proofs.validator.Validator.data_count_section.Goals as goal

pub invariant_of-self : goal.invariant_of-self
invariant_of-self g c =
    let list = c.self.inside.types in
    let features = c.self.inside.features in
    let before = c.in-Ok.state in
    let after : ModuleState g.row.A.Denot = record before { data_count = Some c.args.count } in
    let types = c.self.inside.constants.types in
    record {
      list = c.self.invariant.list;
      ids = subst (AreIdsIn list) (sym c.put_back.ensures.kept) (kept-ids list after c.lift_refusal-accepted.result (open-ids list c.self.inside.state before.«module» c.in-Ok.ensures.ok c.self.invariant.ids));
      valid = subst (AreValidIn features list) (sym c.put_back.ensures.kept) (kept-valid list after features c.lift_refusal-accepted.result (open-valid features list c.self.inside.state before.«module» c.in-Ok.ensures.ok c.self.invariant.valid));
      first = subst (AreFirstIn list types) (sym c.put_back.ensures.kept) (kept-first list after types c.lift_refusal-accepted.result (open-first list types c.self.inside.state before.«module» c.in-Ok.ensures.ok c.self.invariant.first));
    }

pub returns-in-Ok-clause-told : goal.returns-in-Ok-clause-told
returns-in-Ok-clause-told g c =
    let place = c.args.range.now.start in
    let tells : WasmFeatures → TypesSoFar → Spaces → Error g.row.A.Denot → Type 0 = λ (f : WasmFeatures) (us : TypesSoFar) (m : Spaces) (e : Error g.row.A.Denot). TellsDataCount f place c.args.count us m e in
    let module_read = c.in-Ok.state.«module» in
    let told = told_of_data_count c.self.inside.features place c.args.count in
    all_told_within c.self.inside.id c.self.inside.features (types_of_list c.self.inside.types) c.self.inside.state module_read tells place c.args.self.now c.lift_refusal-accepted.result c.put_back.result c.in-Ok.ensures.ok c.self.view_is c.put_back.ensures.same
    (checked_told c.check_data_count.result c.lift_refusal-accepted.result told place c.lift_refusal-accepted.ensures.same c.lift_refusal-accepted.ensures.refusal c.check_data_count.ensures.told (search rules))
