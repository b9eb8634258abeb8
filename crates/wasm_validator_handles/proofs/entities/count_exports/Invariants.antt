use Rattle.std.proofs.Common.{◌≡◌, ◌≤◌, ◌+◌, ◌-◌, ◌^◌, length}
use Rattle.wasm_validator.specs.WasmValidatorTypes.IteratorItems.{exports_left}
use Rattle.wasm_validator_handles.specs.Entities.{counted}
use Rattle.wasm_validator_handles.proofs.entities.count_exports.Given as goal

abbrev pub invariant-exports : goal.invariant-exports
invariant-exports l = record {
  fits : l.count ≤ 2 ^ 64 - 1;
  counts : counted (l.count + length (exports_left l.exports)) ≡ counted (length (exports_left l.initial.exports));
}

abbrev pub decreases-exports : goal.decreases-exports
decreases-exports l = length (exports_left l.exports)
