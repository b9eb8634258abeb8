use Rattle.std.proofs.Common.{◌≡◌, ◌≤◌, ◌+◌, ◌-◌, ◌^◌, length}
use Rattle.wasm_validator.specs.WasmValidatorTypes.IteratorItems.{imports_left}
use Rattle.wasm_validator_handles.specs.Entities.{counted}
use Rattle.wasm_validator_handles.proofs.entities.count_imports.Given as goal

abbrev pub invariant-imports : goal.invariant-imports
invariant-imports l = record {
  fits : l.count ≤ 2 ^ 64 - 1;
  counts : counted (l.count + length (imports_left l.imports)) ≡ counted (length (imports_left l.initial.imports));
}

abbrev pub decreases-imports : goal.decreases-imports
decreases-imports l = length (imports_left l.imports)
