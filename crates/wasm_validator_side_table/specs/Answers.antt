-- What the answer of a side table says of its body.
use Rattle.std.specs.Prelude.{◌≡◌, ◌≤◌, ◌<◌, ◌^◌, ◌+◌, ℕ, true, false, length, Result, Ok, Err, ⊤}
use Rattle.wasm_readers_errors.specs.declared.error.Error.{Error}
use Rattle.wasm_readers_errors.specs.declared.error.Error.TheVariants as error
use Rattle.wasm_readers.specs.WasmReadersBytes.Reader.{place_of_next, rest}
use Rattle.wasm_readers.specs.WasmReadersBytes.declared.binary_reader.BinaryReader.{BinaryReader}
use Rattle.wasm_validator_side_notes.specs.WasmTypingValidator.WasmSpecSteps.Steps.{is_finished}
use Rattle.wasm_validator_side_notes.specs.WasmTypingValidator.BodyTyping.{typed_state}
use Rattle.wasm_validator_side_notes.specs.WasmValidatorFunc.Functions.{StandsInOrFirst}
use Rattle.wasm_validator_side_notes.specs.WasmValidatorFunc.declared.func_validator.FuncValidator.{FuncValidator}
use Rattle.wasm_validator_side_table.specs.declared.error.SideTableError.{SideTableError}
use Rattle.wasm_validator_side_table.specs.declared.error.SideTableError.TheVariants.{Refused, OutOfMemory, TooLarge}

-- what a validator answers, as a table does
abbrev pub told : Error → SideTableError
told (error.Refused r) = Refused r
told error.OutOfMemory = OutOfMemory

-- the offset behind what is left to read
abbrev pub end_of : BinaryReader → ℕ
end_of r = place_of_next r + length (rest r)

-- A table is made where this holds and 32 bits have the offset behind the body. Where it doesn't hold the body is refused, and where the offset has
-- more bits the table is too large; memory aside.
abbrev pub Makes : {X : Type 0} → Type 0 → BinaryReader → Result X SideTableError → Type 0
Makes P r (Ok x) = P × (end_of r < 2 ^ 32)
Makes P r (Err (Refused f)) = P → ⊥
Makes P r (Err OutOfMemory) = ⊤
Makes P r (Err TooLarge) = P × (2 ^ 32 ≤ end_of r)

-- the validator behind a body that it validated, by these look-ups and with this index: nothing was refused, and every frame has ended
abbrev pub IsBehind : {T A : Type 0} → T → ℕ → FuncValidator T A → Type 0
IsBehind resources n v = (v.resources ≡ resources) × (v.index ≡ n) × (v.validator.failed ≡ false) × (is_finished (typed_state v.validator) ≡ true)

-- a refusal stands where that of the body's validation does
abbrev pub StandsSo : BinaryReader → SideTableError → Type 0
StandsSo r (Refused f) = StandsInOrFirst r (error.Refused f)
StandsSo r OutOfMemory = ⊤
StandsSo r TooLarge = ⊤
