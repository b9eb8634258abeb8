use Rattle.std.proofs.Common.{◌≡◌, ◌++◌, length}
use Rattle.wasm_validator.specs.WasmValidatorTypes.IteratorItems.{exports_left}
use Rattle.wasm_validator_handles.specs.Entities.{externs_behind, export_rows, names_of}
use Rattle.wasm_validator_handles.proofs.entities.push_exports.Given as goal

abbrev pub invariant-exports : goal.invariant-exports
invariant-exports l =
    (l.externs.items ++ externs_behind l.names.items (export_rows (exports_left l.exports))
    ≡ l.initial.externs.items ++ externs_behind l.initial.names.items (export_rows (exports_left l.initial.exports)))
    × (l.names.items ++ names_of (export_rows (exports_left l.exports))
    ≡ l.initial.names.items ++ names_of (export_rows (exports_left l.initial.exports)))

abbrev pub decreases-exports : goal.decreases-exports
decreases-exports l = length (exports_left l.exports)
