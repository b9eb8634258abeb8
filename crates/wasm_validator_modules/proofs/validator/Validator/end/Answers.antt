use Rattle.std.proofs.Common.{ap, sym, subst, ◌∙◌}
use Rattle.wasm_spec.specs.Features.{canonical}
use Rattle.wasm_spec_rules.specs.FeatureFlags.{features_of}
use Rattle.wasm_validator_states.specs.WasmValidatorTypeList.GroupInterning.{AreOnce}
use Rattle.wasm_validator_states.specs.WasmValidatorCanonical.Groups.{AreValid}
use Rattle.wasm_validator_states.specs.WasmValidatorTypeList.DefTypes.{types_of_list}
use Rattle.wasm_validator_states.specs.WasmValidatorTypes.ShownModules.{shown_of}
use Rattle.wasm_validator_states.specs.WasmValidatorSections.WasmValidatorCore.OpenLists.{IsOpenFor}
use Rattle.wasm_validator_states.specs.WasmValidatorSections.WasmLawsCore.WasmValidatorCoreResources.ById.{AreFirstByIds}
use Rattle.wasm_validator_states.specs.ValidatorStages.{Standing}
use Rattle.wasm_validator_states.specs.Views.{ended_spaces}
use Rattle.wasm_validator_states.proofs.OpenModules.{ended_from_open, shown_from_open, read-valid, read-first, shown-valid, shown-ids}
use Rattle.wasm_validator_modules.proofs.validator.Validator.end.Goals as goal

pub invariant_of-self : goal.invariant_of-self
invariant_of-self g c =
    let features = c.self.inside.features in
    let same = sym c.finish_types.ensures.same in
    record {
      list = subst (IsOpenFor features) same c.self.invariant.list;
      ids = tt;
      valid = subst (λ l. AreValid (features_of features) (types_of_list l)) same (read-valid features c.self.inside.types c.self.inside.state (ended_spaces c.in-Ok.state) c.in-Ok.ensures.ok c.self.invariant.valid);
      first = subst (λ l. AreFirstByIds l.groups c.self.inside.constants.types) same (read-first c.self.inside.types c.self.inside.constants.types c.self.inside.state (ended_spaces c.in-Ok.state) c.in-Ok.ensures.ok c.self.invariant.first);
    }

pub returns-in-Ok-finish_types-clause-moves : goal.returns-in-Ok-finish_types-clause-moves
returns-in-Ok-finish_types-clause-moves g c = ended_from_open c.self.inside.id c.self.inside.features (types_of_list c.self.inside.types) c.self.inside.state (ended_spaces c.in-Ok.state) c.args.self.now (types_of_list c.finish_types.new.types) c.self.view_is c.in-Ok.ensures.ok (ap types_of_list c.finish_types.ensures.same)

pub returns-in-Ok-finish_types-clause-shown : goal.returns-in-Ok-finish_types-clause-shown
returns-in-Ok-finish_types-clause-shown g c =
    let shown = c.in-Ok-finish_types.ensures.shown in
    record {
      held = shown_from_open c.self.inside.id c.self.inside.features (types_of_list c.self.inside.types) c.self.inside.state (ended_spaces c.in-Ok.state) c.args.self.now (types_of_list c.in-Ok-finish_types.types.types) c.in-Ok-finish_types.types.spaces.value c.self.view_is c.in-Ok.ensures.ok (ap (λ w. types_of_list w.list) shown) (ap (λ w. w.spaces) shown);
      same_id = ap (λ w. w.id) shown ∙ ap (λ (s : Standing). s.id) c.self.view_is;
      same_features = ap (λ w. w.features) shown ∙ ap (λ (s : Standing). features_of s.features) c.self.view_is;
      mode = ap (λ w. w.list.is_canonical) shown ∙ c.self.invariant.list.mode ∙ ap (λ (s : Standing). canonical (features_of s.features)) c.self.view_is;
      valid = shown-valid c.self.inside.features c.self.inside.types c.self.inside.id c.self.inside.state (ended_spaces c.in-Ok.state) c.args.self.now (types_of_list c.in-Ok-finish_types.types.types) c.self.view_is c.in-Ok.ensures.ok c.self.invariant.valid (ap (λ w. types_of_list w.list) shown);
      ids = shown-ids c.self.inside.id (features_of c.self.inside.features) c.self.inside.types c.self.inside.state (ended_spaces c.in-Ok.state) (shown_of c.in-Ok-finish_types.types) c.in-Ok.ensures.ok c.self.invariant.ids shown;
      once = λ e. subst AreOnce (sym (ap (λ w. w.list.groups) shown)) (c.finish_types.ensures.once (sym (ap (λ w. w.list.is_canonical) shown) ∙ e));
    }

pub returns-in-Ok-finish_types-clause-held : goal.returns-in-Ok-finish_types-clause-held
returns-in-Ok-finish_types-clause-held g c =
    shown-ids c.self.inside.id (features_of c.self.inside.features) c.self.inside.types c.self.inside.state (ended_spaces c.in-Ok.state) (shown_of c.in-Ok-finish_types.types) c.in-Ok.ensures.ok c.self.invariant.ids c.in-Ok-finish_types.ensures.shown
