-- What a contract sees of the look-ups of a module whose code section has started, and what is always true of them.
use Rattle.std.specs.Prelude.{ℕ, ◌<◌, ◌^◌, length}
use Rattle.std.specs.List.{All}
use Rattle.wasm_validator_resources.specs.WasmSpecRules.Contexts.{Context}
use Rattle.wasm_readers_types.specs.WasmReadersValues.declared.indices.UnpackedIndex.{UnpackedIndex}
use Rattle.wasm_validator_type_list.specs.DefTypes.{types_of_list}
use Rattle.wasm_validator_type_list.specs.GroupOrder.{AreListable}
use Rattle.wasm_validator_core_resources.specs.ModuleContexts.{flagged_from, module_context, with_references, AreByIds}
use Rattle.wasm_validator_core_resources.specs.declared.validator_resources.CodeModule.TheInside.{Inside}

module _ {A : Type 0} where
  -- the context of the module with all its element segments, where the functions whose flags are set count as referenced
  abbrev pub shown : Inside A → Context UnpackedIndex
  shown a = with_references (flagged_from 0 a.referenced.items) (module_context a.spaces.value a.list a.spaces.value.elements a.data_count)

  -- references in the list are known, the list has the module's types, the types are those of the list, and the count of element
  -- segments fits a `u32`
  pub record IsSound (a : Inside A) : Type 0 where
    pub listable : AreListable a.list.groups
    pub held : All (λ (id : ℕ). id < length (types_of_list a.list)) a.spaces.value.types
    pub types : AreByIds a.list.groups a.types
    pub elements : length a.spaces.value.elements < 2 ^ 32
