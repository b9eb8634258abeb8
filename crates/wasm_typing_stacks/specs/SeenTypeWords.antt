-- What contracts see of words.
use Rattle.wasm_operators_plain.specs.WasmSpec.Syntax.{Val, i32, i64, f32, f64}
use Rattle.wasm_operators_plain.specs.declared.signatures.NumberType.{NumberType}
use Rattle.wasm_operators_plain.specs.declared.signatures.NumberType.TheVariants as number
use Rattle.wasm_operators_plain.specs.WasmReadersTypes.WasmReadersValues.declared.indices.UnpackedIndex.{UnpackedIndex}
use Rattle.wasm_typing_stacks.specs.declared.type_word.TypeWord.{TypeWord}
use Rattle.wasm_typing_stacks.specs.TypeWords.{val_at}

-- the type that a word stands for
abbrev pub val_in : TypeWord → Val UnpackedIndex
val_in w = val_at w.bits

-- a number type, over any identity
abbrev pub number_val : {R : Type 0} → NumberType → Val R
number_val number.I32 = i32
number_val number.I64 = i64
number_val number.F32 = f32
number_val number.F64 = f64
