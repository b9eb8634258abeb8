use Rattle.std.proofs.Common.{◌≡◌, ◌++◌, length}
use Rattle.wasm_validator.specs.WasmValidatorTypes.IteratorItems.{imports_left}
use Rattle.wasm_validator_handles.specs.Entities.{externs_behind, names_of}
use Rattle.wasm_validator_handles.proofs.entities.push_imports.Given as goal

abbrev pub invariant-imports : goal.invariant-imports
invariant-imports l =
    (l.externs.items ++ externs_behind l.names.items (imports_left l.imports)
    ≡ l.initial.externs.items ++ externs_behind l.initial.names.items (imports_left l.initial.imports))
    × (l.names.items ++ names_of (imports_left l.imports) ≡ l.initial.names.items ++ names_of (imports_left l.initial.imports))

abbrev pub decreases-imports : goal.decreases-imports
decreases-imports l = length (imports_left l.imports)
