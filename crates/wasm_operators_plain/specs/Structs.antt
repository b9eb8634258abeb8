-- Core Specification 3.0, Binary Format, Instructions, Aggregate Instructions: structures.
use Rattle.std.specs.Prelude.{ℕ, ◌==◌, if◌then◌else◌, List, Option, None}
use Rattle.wasm_operators_plain.specs.Immediates.{one_index, two_indices}
use Rattle.wasm_operators_plain.specs.declared.structs.StructOperator.{StructOperator}
use Rattle.wasm_operators_plain.specs.declared.structs.StructOperator.TheVariants.{StructNew, StructNewDefault, StructGet, StructGetS, StructGetU, StructSet, StructNewDesc, StructNewDefaultDesc}

-- instructions on structures by their number behind the prefix fb; 32 and 33 are those of custom descriptors
unfoldable pub struct_from : ℕ → List ℕ → Option (StructOperator × List ℕ)
struct_from n bytes =
    if n == 0 then one_index StructNew bytes
    else (if n == 1 then one_index StructNewDefault bytes
    else (if n == 2 then two_indices StructGet bytes
    else (if n == 3 then two_indices StructGetS bytes
    else (if n == 4 then two_indices StructGetU bytes
    else (if n == 5 then two_indices StructSet bytes
    else (if n == 32 then one_index StructNewDesc bytes
    else (if n == 33 then one_index StructNewDefaultDesc bytes
    else None)))))))
