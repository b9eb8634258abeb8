use Rattle.std.proofs.Common.{◌≡◌, true, false, None, refl, sym, ap, subst, ◌∙◌, rules}
use Rattle.std.specs.Prelude.{IsSome}
use Rattle.wasm_spec_rules.specs.FeatureFlags.{features_of}
use Rattle.wasm_validator_states.specs.WasmValidatorTypeList.DefTypes.{types_of_list}
use Rattle.wasm_validator_states.specs.WasmValidatorTypes.ShownModules.{shown_by}
use Rattle.wasm_validator_states.proofs.OpenModules.{lent-ids, shown_from_open, none-shows}
use Rattle.wasm_validator_states.specs.ValidatorStages.{Standing, shown_at}
use Rattle.wasm_validator_modules.proofs.validator.Validator.types.Goals as goal

pub returns-in-Some-clause-held : goal.returns-in-Some-clause-held
returns-in-Some-clause-held g c =
    lent-ids c.self.inside.id (features_of c.self.inside.features) c.self.inside.types c.self.inside.state c.in-Some.spaces.now c.in-Some.spaces.now (shown_by c.new.result) c.in-Some.ensures.some c.self.invariant.ids refl c.new.ensures

pub returns-in-Some-clause-shown : goal.returns-in-Some-clause-shown
returns-in-Some-clause-shown g c =
    shown_from_open c.self.inside.id c.self.inside.features (types_of_list c.self.inside.types) c.self.inside.state c.in-Some.spaces.now c.args.self.now (types_of_list c.new.result.list.now) c.new.result.spaces.now
    c.self.view_is c.in-Some.ensures.some (ap (λ w. types_of_list w.list) c.new.ensures) (ap (λ w. w.spaces) c.new.ensures)

pub returns-in-Some-clause-some : goal.returns-in-Some-clause-some
returns-in-Some-clause-some g c = (λ e. (search rules, subst IsSome (sym (returns-in-Some-clause-shown g c)) refl), λ h. refl)

pub returns-in-Some-clause-features : goal.returns-in-Some-clause-features
returns-in-Some-clause-features g c = ap (λ w. w.features) c.new.ensures ∙ ap (λ (s : Standing). features_of s.features) c.self.view_is

pub returns-in-Some-clause-id : goal.returns-in-Some-clause-id
returns-in-Some-clause-id g c = ap (λ w. w.id) c.new.ensures ∙ ap (λ (s : Standing). s.id) c.self.view_is

pub returns-in-None-clause-some : goal.returns-in-None-clause-some
returns-in-None-clause-some g c =
    let none : shown_at c.args.self.now.stage ≡ None = subst (λ (w : Standing). shown_at w.stage ≡ None) c.self.view_is (none-shows (types_of_list c.self.inside.types) c.self.inside.state c.in-None.ensures.none) in
    (λ e. absurd (let h : false ≡ true = e in cc), λ h. subst IsSome none h.1)
