use Rattle.std.proofs.Common.{◌≡◌, length, slice_get}
use Rattle.wasm_validator.specs.WasmValidatorTypes.IteratorItems.{imports_left}
use Rattle.wasm_validator_handles.proofs.items.nth_import.Given as goal

abbrev pub invariant-imports : goal.invariant-imports
invariant-imports l = slice_get (imports_left l.imports) l.left ≡ slice_get (imports_left l.initial.imports) l.initial.left

abbrev pub decreases-imports : goal.decreases-imports
decreases-imports l = length (imports_left l.imports)
