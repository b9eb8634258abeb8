use Rattle.std.proofs.Common.{◌≡◌, ◌++◌, take}
use Rattle.wasm_validator_handles.specs.WasmValidator.WasmValidatorTypes.ShownModules.{shown_by}
use Rattle.ruthvelka_c.proofs.lists.push_types.Given as goal

abbrev pub invariant-types : goal.invariant-types
invariant-types l = l.ids.items ≡ l.initial.ids.items ++ take l.index (shown_by l.types).spaces.types
