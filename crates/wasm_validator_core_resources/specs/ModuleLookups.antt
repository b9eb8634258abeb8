-- What a contract sees of the look-ups of a module, and what is always true of them.
use Rattle.std.specs.Prelude.{ℕ, ◌<◌, ◌^◌, Bool, List, map, length, Option}
use Rattle.std.specs.Borrow.{Bor}
use Rattle.std.specs.declared.option.Option.TheVariants.{None, Some}
use Rattle.std.specs.List.{All}
use Rattle.wasm_validator_resources.specs.WasmSpecRules.Contexts.{Context}
use Rattle.wasm_readers_types.specs.WasmReadersValues.SeenValues.{ref_of}
use Rattle.wasm_readers_types.specs.WasmReadersValues.declared.indices.TheConstants.{MAX_IDS}
use Rattle.wasm_readers_types.specs.WasmReadersValues.declared.indices.UnpackedIndex.{UnpackedIndex}
use Rattle.wasm_validator_type_list.specs.GroupOrder.{AreListable}
use Rattle.wasm_validator_core_resources.specs.declared.resources.ModuleResources.TheInside.{Inside}
use Rattle.wasm_validator_core_resources.specs.ModuleContexts.{numbers_from, flagged_from, module_context, with_references, AreByIds}

-- the functions that count as referenced: all of them, or those whose flags are set
abbrev pub references_of : List ℕ → Option (Bor (List Bool)) → List ℕ
references_of functions None = numbers_from 0 (length functions)
references_of functions (Some flags) = flagged_from 0 flags.now

module _ {A : Type 0} where
  abbrev pub shown : Inside A → Context UnpackedIndex
  shown a = with_references (references_of a.spaces.now.functions a.referenced) (module_context a.spaces.now a.list.now (map ref_of a.elements.now) a.data_count)

  -- references in the list are known, each id of the module can be packed, the types are those of the list, and the count of element
  -- segments fits a `u32`
  pub record IsSound (a : Inside A) : Type 0 where
    pub listable : AreListable a.list.now.groups
    pub small : All (λ (id : ℕ). id < MAX_IDS) a.spaces.now.types
    pub types : AreByIds a.list.now.groups a.types.now
    pub elements : length a.elements.now < 2 ^ 32
