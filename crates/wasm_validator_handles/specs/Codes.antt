-- A code for what stands behind a handle, by which two such values can be told apart: what the kit asks of a ghost field that holds data.
use Rattle.std.specs.Prelude.{Option}
use Rattle.std.specs.Coded.{Coded, codes}
use Rattle.wasm_spec.specs.TreeCode.{coded_tree}
use Rattle.wasm_validator_handles.specs.declared.kept.Kept.{Kept}

pub coded_held : Coded (Option Kept)
coded_held = hlevel (codes, coded_tree)
