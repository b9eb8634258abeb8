-- What is always true of the module that is being read, by the list of types.
use Rattle.std.specs.Prelude.{List, ⊤}
use Rattle.wasm_spec_rules.specs.FeatureFlags.{features_of}
use Rattle.wasm_readers_errors.specs.WasmReadersFeatures.declared.features.WasmFeatures.{WasmFeatures}
use Rattle.wasm_readers_types.specs.declared.types.SubType.{SubType}
use Rattle.wasm_validator_type_list.specs.ListViews.{Listing}
use Rattle.wasm_validator_canonical.specs.Groups.{AreValid}
use Rattle.wasm_validator_type_list.specs.DefTypes.{types_of_list}
use Rattle.wasm_validator_sections.specs.WasmValidatorCore.OpenLists.{AreIdsOf}
use Rattle.wasm_validator_sections.specs.WasmLawsCore.WasmValidatorCoreResources.ById.{AreFirstByIds}
use Rattle.wasm_validator_states.specs.declared.state.State.{State}
use Rattle.wasm_validator_states.specs.declared.state.State.TheVariants.{Unparsed, Module, Code, End, Failed}

module _ {A : Type 0} where
  -- the ids of the module that is being read, if there is one, are of the list
  abbrev pub AreIdsIn : Listing A → State A → Type 0
  AreIdsIn list (Module m) = AreIdsOf list m.«module».types
  AreIdsIn list (Code c) = AreIdsOf list c.spaces.value.types
  AreIdsIn list Unparsed = ⊤
  AreIdsIn list End = ⊤
  AreIdsIn list Failed = ⊤

  -- the types of the list are valid, unless one was refused
  abbrev pub AreValidIn : WasmFeatures → Listing A → State A → Type 0
  AreValidIn features list (Module m) = AreValid (features_of features) (types_of_list list)
  AreValidIn features list (Code c) = AreValid (features_of features) (types_of_list list)
  AreValidIn features list Unparsed = AreValid (features_of features) (types_of_list list)
  AreValidIn features list End = AreValid (features_of features) (types_of_list list)
  AreValidIn features list Failed = ⊤

  -- what is kept of the list for constant expressions are its first types by their ids, unless one was refused
  abbrev pub AreFirstIn : Listing A → List (SubType A) → State A → Type 0
  AreFirstIn list types (Module m) = AreFirstByIds list.groups types
  AreFirstIn list types (Code c) = AreFirstByIds list.groups types
  AreFirstIn list types Unparsed = AreFirstByIds list.groups types
  AreFirstIn list types End = AreFirstByIds list.groups types
  AreFirstIn list types Failed = ⊤
