use Rattle.std.proofs.Common.{◌≡◌, length, slice_get}
use Rattle.wasm_validator.specs.WasmValidatorTypes.IteratorItems.{exports_left}
use Rattle.wasm_validator_handles.proofs.items.nth_export.Given as goal

abbrev pub invariant-exports : goal.invariant-exports
invariant-exports l = slice_get (exports_left l.exports) l.left ≡ slice_get (exports_left l.initial.exports) l.initial.left

abbrev pub decreases-exports : goal.decreases-exports
decreases-exports l = length (exports_left l.exports)
