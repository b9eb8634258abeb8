-- What is always true of a validator's list of types and of the module that is being read.
use Rattle.wasm_validator_states.specs.WasmValidatorSections.WasmValidatorCore.OpenLists.{IsOpenFor}
use Rattle.wasm_validator_states.specs.ModuleInvariants.{AreIdsIn, AreValidIn, AreFirstIn}
use Rattle.wasm_validator_modules.specs.declared.validator.Validator.TheInside.{Inside}

module _ {A : Type 0} where
  pub record IsSound (a : Inside A) : Type 0 where
    pub list : IsOpenFor a.features a.types
    pub ids : AreIdsIn a.types a.state
    pub valid : AreValidIn a.features a.types a.state
    pub first : AreFirstIn a.types a.constants.types a.state
