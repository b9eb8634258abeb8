use Rattle.std.proofs.Common.{◌≡◌, ◌++◌, take}
use Rattle.wasm_validator_handles.specs.WasmValidator.WasmValidatorTypes.ShownModules.{shown_by}
use Rattle.ruthvelka_c.specs.Reports.{function_ids}
use Rattle.ruthvelka_c.proofs.lists.push_functions.Given as goal

abbrev pub invariant-functions : goal.invariant-functions
invariant-functions l = l.ids.items ≡ l.initial.ids.items ++ take l.index (function_ids (shown_by l.types).spaces)
