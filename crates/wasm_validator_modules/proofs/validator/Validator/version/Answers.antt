use Rattle.std.proofs.Common.{sym, subst, ◌∙◌, ◌<◌, true≢false, length, arith}
use Rattle.std.proofs.lemmas.List.Elements.{All-nil}
use Rattle.wasm_validator_states.specs.WasmValidatorTypeList.DefTypes.{types_of_list}
use Rattle.wasm_validator_states.specs.WasmValidatorTypes.Spaces.{Spaces}
use Rattle.wasm_validator_states.specs.WasmValidatorSections.WasmValidatorCore.OpenLists.{AreIdsOf}
use Rattle.wasm_validator_states.proofs.OpenModules.{unparsed-valid, unparsed-first}
use Rattle.wasm_validator_modules.proofs.validator.Validator.version.Goals.{in-Unparsed, in_default}
use Rattle.wasm_validator_modules.proofs.validator.Validator.version.Goals as goal

pub invariant_of-self : goal.invariant_of-self
invariant_of-self g c =
    let list = c.self.inside.types in
    record {
      list = c.self.invariant.list;
      ids = subst (λ (s : Spaces). AreIdsOf list s.types) (sym c.new-2.ensures.lists) (record { known = All-nil (λ id. id < length (types_of_list list)); few = omega arith });
      valid = elim c.match-matches.branch [
        | in-Unparsed w ↦ unparsed-valid c.self.inside.features list c.self.inside.state w.in-Unparsed.is c.self.invariant.valid
        | in_default w ↦ absurd (true≢false (sym c.if-not-matches.false ∙ w.matches-is))
      ];
      first = elim c.match-matches.branch [
        | in-Unparsed w ↦ unparsed-first list c.self.inside.constants.types c.self.inside.state w.in-Unparsed.is c.self.invariant.first
        | in_default w ↦ absurd (true≢false (sym c.if-not-matches.false ∙ w.matches-is))
      ];
    }
