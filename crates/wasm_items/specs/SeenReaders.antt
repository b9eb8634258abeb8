-- What contracts see of an expression, and of a reader of operators.
use Rattle.std.specs.Prelude.{ℕ, ◌≡◌, Bool, true, false, List, [], length, if◌then◌else◌, Option, Some, None}
use Rattle.std.specs.declared.result.Result.{Result}
use Rattle.std.specs.declared.result.Result.TheVariants.{Ok, Err}
use Rattle.wasm_readers.specs.WrittenIndices.{written}
use Rattle.wasm_readers.specs.WasmReadersBytes.Reader.{rest, SameInput, RefusedFrom, place_of_next}
use Rattle.wasm_readers.specs.WasmReadersBytes.declared.binary_reader.BinaryReader.{BinaryReader}
use Rattle.wasm_readers.specs.WasmReadersErrors.declared.error.Refusal.{Refusal}
use Rattle.wasm_operators.specs.Instructions.{instruction_at}
use Rattle.wasm_operators.specs.SeenOperators.{operator_of}
use Rattle.wasm_operators.specs.declared.operators.Operator.{Operator}
use Rattle.wasm_items.specs.declared.const_expr.ConstExpr.{ConstExpr}
use Rattle.wasm_items.specs.declared.operators_reader.OperatorsReader.{OperatorsReader}
use Rattle.wasm_items.specs.declared.operators_reader.OperatorsIterator.{OperatorsIterator}

-- the reader of an expression's bytes
abbrev pub expression_reader : ConstExpr → BinaryReader
expression_reader e = e.reader

-- the bytes of an expression
abbrev pub expression_of : ConstExpr → List ℕ
expression_of e = rest e.reader

-- the bytes that a reader of operators has still to read
abbrev pub operators_left : OperatorsReader → BinaryReader
operators_left r = r.reader

abbrev pub operators_to_come : OperatorsIterator → BinaryReader
operators_to_come s = operators_left s.operators

-- whether something was refused
abbrev pub operators_done : OperatorsIterator → Bool
operators_done s = s.done

-- it gives at most so many more, since each takes at least a byte
abbrev pub most_operators : OperatorsIterator → ℕ
most_operators s = if s.done then 0 else length (rest s.operators.reader)

-- What one turn of the iterator gives: the next operator, behind which it goes on; a refusal, after which it is done; or nothing,
-- where it is done or no bytes are left.
abbrev pub OperatorGives : Bool → BinaryReader → Option (Result (Operator × ℕ) Refusal) → Bool → BinaryReader → Type 0
OperatorGives true old r done new = (r ≡ None) × (done ≡ true) × (new ≡ old)
OperatorGives false old None done new = (rest old ≡ []) × (done ≡ false) × (new ≡ old)
OperatorGives false old (Some (Ok x)) done new =
    (instruction_at written (rest old) ≡ Some (operator_of x.0, rest new)) × (x.1 ≡ place_of_next old) × (done ≡ false) × SameInput old new
OperatorGives false old (Some (Err refusal)) done new = (instruction_at written (rest old) ≡ None) × RefusedFrom old refusal × (done ≡ true)
