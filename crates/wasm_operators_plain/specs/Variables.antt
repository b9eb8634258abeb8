-- Core Specification 3.0, Binary Format, Instructions, Variable Instructions.
use Rattle.std.specs.Prelude.{ℕ, ◌==◌, if◌then◌else◌, List, Option, None}
use Rattle.wasm_operators_plain.specs.Immediates.{one_index}
use Rattle.wasm_operators_plain.specs.declared.variables.VariableOperator.{VariableOperator}
use Rattle.wasm_operators_plain.specs.declared.variables.VariableOperator.TheVariants.{LocalGet, LocalSet, LocalTee, GlobalGet, GlobalSet}

-- variable instructions by their byte
unfoldable pub variable_from : ℕ → List ℕ → Option (VariableOperator × List ℕ)
variable_from b bytes =
    if b == 0x20 then one_index LocalGet bytes
    else (if b == 0x21 then one_index LocalSet bytes
    else (if b == 0x22 then one_index LocalTee bytes
    else (if b == 0x23 then one_index GlobalGet bytes
    else (if b == 0x24 then one_index GlobalSet bytes
    else None))))
