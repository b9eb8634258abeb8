use Rattle.std.proofs.Common.{sym, subst}
use Rattle.wasm_spec_rules.specs.FeatureFlags.{features_of}
use Rattle.wasm_validator_states.specs.WasmValidatorTypeList.DefTypes.{types_of_list}
use Rattle.wasm_validator_states.specs.WasmValidatorTypes.Spaces.{Spaces}
use Rattle.wasm_validator_states.specs.WasmValidatorCanonical.Groups.{AreValid}
use Rattle.wasm_validator_states.specs.WasmValidatorSections.WasmValidatorCore.OpenLists.{IsOpenFor, AreIdsOf}
use Rattle.wasm_validator_states.specs.WasmValidatorSections.WasmLawsCore.WasmValidatorCoreResources.ById.{AreFirstByIds}
use Rattle.wasm_validator_states.proofs.OpenModules.{open-ids, open-valid, open-first}
use Rattle.wasm_validator_modules.proofs.validator.Validator.code_section_start.Goals as goal

pub started-requires-clause-held : goal.started-requires-clause-held
started-requires-clause-held g c = let ids = open-ids c.self.inside.types c.self.inside.state c.in-Ok.state.«module» c.in-Ok.ensures.ok c.self.invariant.ids in ids.known

pub started-requires-clause-first : goal.started-requires-clause-first
started-requires-clause-first g c = open-first c.self.inside.types c.self.inside.constants.types c.self.inside.state c.in-Ok.state.«module» c.in-Ok.ensures.ok c.self.invariant.first

pub invariant_of-self : goal.invariant_of-self
invariant_of-self g c =
    let list = c.self.inside.types in
    let features = c.self.inside.features in
    let before = c.in-Ok.state.«module» in
    let same = sym c.started.ensures.same in
    let ids = open-ids list c.self.inside.state before c.in-Ok.ensures.ok c.self.invariant.ids in
    record {
      list = subst (IsOpenFor features) same c.self.invariant.list;
      ids = subst (λ l. AreIdsOf l c.in-Ok-started.code.spaces.value.types) same (subst (λ (m : Spaces). AreIdsOf list m.types) (sym c.in-Ok-started.ensures.spaces) ids);
      valid = subst (λ l. AreValid (features_of features) (types_of_list l)) same (open-valid features list c.self.inside.state before c.in-Ok.ensures.ok c.self.invariant.valid);
      first = subst (λ l. AreFirstByIds l.groups c.started.new.constants.types) same c.in-Ok-started.ensures.first;
    }
