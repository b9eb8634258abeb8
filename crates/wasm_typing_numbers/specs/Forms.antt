-- Parts of the forms of operators on vectors and of atomic ones.
use Rattle.std.specs.Prelude.{List, [], ◌∷◌, Option}
use Rattle.wasm_readers_errors.specs.WasmSpec.Syntax.{Val}
use Rattle.wasm_readers_types.specs.WasmReadersValues.declared.indices.UnpackedIndex.{UnpackedIndex}
use Rattle.wasm_typing_checks.specs.WasmSpecSteps.Forms.{value_type}
use Rattle.wasm_operators.specs.WasmOperatorsAtomic.WasmOperatorsVector.declared.forms.ValueType.{ValueType}
use Rattle.wasm_operators.specs.WasmOperatorsAtomic.WasmOperatorsVector.declared.forms.Operands.{Operands}
use Rattle.wasm_operators.specs.WasmOperatorsAtomic.WasmOperatorsVector.declared.forms.Operands.TheVariants.{Nothing, One, Two, Three}
use Rattle.wasm_operators.specs.WasmOperatorsAtomic.WasmOperatorsVector.declared.forms.Form.{Form}
use Rattle.wasm_operators.specs.WasmOperatorsAtomic.WasmOperatorsVector.declared.forms.Form.TheVariants.{Compute, Access}

-- the types of the first two operands
abbrev pub stored_types : Operands → List (Val UnpackedIndex)
stored_types Nothing = []
stored_types (One x) = value_type x ∷ []
stored_types (Two x y) = value_type x ∷ value_type y ∷ []
stored_types (Three x y z) = value_type x ∷ value_type y ∷ []

abbrev pub operands_in : Form → Operands
operands_in (Compute i t g) = t
operands_in (Access a lanes t g) = t

abbrev pub result_in : Form → Option ValueType
result_in (Compute i t g) = g
result_in (Access a lanes t g) = g
