-- Core Specification 3.0, Binary Format, Instructions, Numeric Instructions: those without immediates.
use Rattle.std.specs.Prelude.{ℕ, List, [], ◌∷◌, Option}
use Rattle.wasm_operators_plain.specs.Opcodes.{counted_from}
use Rattle.wasm_operators_plain.specs.declared.numeric.NumericOperator.{NumericOperator}
use Rattle.wasm_operators_plain.specs.declared.numeric.NumericOperator.TheVariants.{I32Eqz, I32Eq, I32Ne, I32LtS, I32LtU, I32GtS, I32GtU, I32LeS, I32LeU, I32GeS, I32GeU, I64Eqz, I64Eq, I64Ne, I64LtS, I64LtU, I64GtS, I64GtU, I64LeS, I64LeU, I64GeS, I64GeU, F32Eq, F32Ne, F32Lt, F32Gt, F32Le, F32Ge, F64Eq, F64Ne, F64Lt, F64Gt, F64Le, F64Ge, I32Clz, I32Ctz, I32Popcnt, I32Add, I32Sub, I32Mul, I32DivS, I32DivU, I32RemS, I32RemU, I32And, I32Or, I32Xor, I32Shl, I32ShrS, I32ShrU, I32Rotl, I32Rotr, I64Clz, I64Ctz, I64Popcnt, I64Add, I64Sub, I64Mul, I64DivS, I64DivU, I64RemS, I64RemU, I64And, I64Or, I64Xor, I64Shl, I64ShrS, I64ShrU, I64Rotl, I64Rotr, F32Abs, F32Neg, F32Ceil, F32Floor, F32Trunc, F32Nearest, F32Sqrt, F32Add, F32Sub, F32Mul, F32Div, F32Min, F32Max, F32Copysign, F64Abs, F64Neg, F64Ceil, F64Floor, F64Trunc, F64Nearest, F64Sqrt, F64Add, F64Sub, F64Mul, F64Div, F64Min, F64Max, F64Copysign, I32WrapI64, I32TruncF32S, I32TruncF32U, I32TruncF64S, I32TruncF64U, I64ExtendI32S, I64ExtendI32U, I64TruncF32S, I64TruncF32U, I64TruncF64S, I64TruncF64U, F32ConvertI32S, F32ConvertI32U, F32ConvertI64S, F32ConvertI64U, F32DemoteF64, F64ConvertI32S, F64ConvertI32U, F64ConvertI64S, F64ConvertI64U, F64PromoteF32, I32ReinterpretF32, I64ReinterpretF64, F32ReinterpretI32, F64ReinterpretI64, I32Extend8S, I32Extend16S, I64Extend8S, I64Extend16S, I64Extend32S}
use Rattle.wasm_operators_plain.specs.declared.numeric.SaturatingOperator.{SaturatingOperator}
use Rattle.wasm_operators_plain.specs.declared.numeric.SaturatingOperator.TheVariants.{I32TruncSatF32S, I32TruncSatF32U, I32TruncSatF64S, I32TruncSatF64U, I64TruncSatF32S, I64TruncSatF32U, I64TruncSatF64S, I64TruncSatF64U}

-- the byte of a numeric operator
abbrev pub numeric_opcode : NumericOperator → ℕ
numeric_opcode I32Eqz = 0x45
numeric_opcode I32Eq = 0x46
numeric_opcode I32Ne = 0x47
numeric_opcode I32LtS = 0x48
numeric_opcode I32LtU = 0x49
numeric_opcode I32GtS = 0x4a
numeric_opcode I32GtU = 0x4b
numeric_opcode I32LeS = 0x4c
numeric_opcode I32LeU = 0x4d
numeric_opcode I32GeS = 0x4e
numeric_opcode I32GeU = 0x4f
numeric_opcode I64Eqz = 0x50
numeric_opcode I64Eq = 0x51
numeric_opcode I64Ne = 0x52
numeric_opcode I64LtS = 0x53
numeric_opcode I64LtU = 0x54
numeric_opcode I64GtS = 0x55
numeric_opcode I64GtU = 0x56
numeric_opcode I64LeS = 0x57
numeric_opcode I64LeU = 0x58
numeric_opcode I64GeS = 0x59
numeric_opcode I64GeU = 0x5a
numeric_opcode F32Eq = 0x5b
numeric_opcode F32Ne = 0x5c
numeric_opcode F32Lt = 0x5d
numeric_opcode F32Gt = 0x5e
numeric_opcode F32Le = 0x5f
numeric_opcode F32Ge = 0x60
numeric_opcode F64Eq = 0x61
numeric_opcode F64Ne = 0x62
numeric_opcode F64Lt = 0x63
numeric_opcode F64Gt = 0x64
numeric_opcode F64Le = 0x65
numeric_opcode F64Ge = 0x66
numeric_opcode I32Clz = 0x67
numeric_opcode I32Ctz = 0x68
numeric_opcode I32Popcnt = 0x69
numeric_opcode I32Add = 0x6a
numeric_opcode I32Sub = 0x6b
numeric_opcode I32Mul = 0x6c
numeric_opcode I32DivS = 0x6d
numeric_opcode I32DivU = 0x6e
numeric_opcode I32RemS = 0x6f
numeric_opcode I32RemU = 0x70
numeric_opcode I32And = 0x71
numeric_opcode I32Or = 0x72
numeric_opcode I32Xor = 0x73
numeric_opcode I32Shl = 0x74
numeric_opcode I32ShrS = 0x75
numeric_opcode I32ShrU = 0x76
numeric_opcode I32Rotl = 0x77
numeric_opcode I32Rotr = 0x78
numeric_opcode I64Clz = 0x79
numeric_opcode I64Ctz = 0x7a
numeric_opcode I64Popcnt = 0x7b
numeric_opcode I64Add = 0x7c
numeric_opcode I64Sub = 0x7d
numeric_opcode I64Mul = 0x7e
numeric_opcode I64DivS = 0x7f
numeric_opcode I64DivU = 0x80
numeric_opcode I64RemS = 0x81
numeric_opcode I64RemU = 0x82
numeric_opcode I64And = 0x83
numeric_opcode I64Or = 0x84
numeric_opcode I64Xor = 0x85
numeric_opcode I64Shl = 0x86
numeric_opcode I64ShrS = 0x87
numeric_opcode I64ShrU = 0x88
numeric_opcode I64Rotl = 0x89
numeric_opcode I64Rotr = 0x8a
numeric_opcode F32Abs = 0x8b
numeric_opcode F32Neg = 0x8c
numeric_opcode F32Ceil = 0x8d
numeric_opcode F32Floor = 0x8e
numeric_opcode F32Trunc = 0x8f
numeric_opcode F32Nearest = 0x90
numeric_opcode F32Sqrt = 0x91
numeric_opcode F32Add = 0x92
numeric_opcode F32Sub = 0x93
numeric_opcode F32Mul = 0x94
numeric_opcode F32Div = 0x95
numeric_opcode F32Min = 0x96
numeric_opcode F32Max = 0x97
numeric_opcode F32Copysign = 0x98
numeric_opcode F64Abs = 0x99
numeric_opcode F64Neg = 0x9a
numeric_opcode F64Ceil = 0x9b
numeric_opcode F64Floor = 0x9c
numeric_opcode F64Trunc = 0x9d
numeric_opcode F64Nearest = 0x9e
numeric_opcode F64Sqrt = 0x9f
numeric_opcode F64Add = 0xa0
numeric_opcode F64Sub = 0xa1
numeric_opcode F64Mul = 0xa2
numeric_opcode F64Div = 0xa3
numeric_opcode F64Min = 0xa4
numeric_opcode F64Max = 0xa5
numeric_opcode F64Copysign = 0xa6
numeric_opcode I32WrapI64 = 0xa7
numeric_opcode I32TruncF32S = 0xa8
numeric_opcode I32TruncF32U = 0xa9
numeric_opcode I32TruncF64S = 0xaa
numeric_opcode I32TruncF64U = 0xab
numeric_opcode I64ExtendI32S = 0xac
numeric_opcode I64ExtendI32U = 0xad
numeric_opcode I64TruncF32S = 0xae
numeric_opcode I64TruncF32U = 0xaf
numeric_opcode I64TruncF64S = 0xb0
numeric_opcode I64TruncF64U = 0xb1
numeric_opcode F32ConvertI32S = 0xb2
numeric_opcode F32ConvertI32U = 0xb3
numeric_opcode F32ConvertI64S = 0xb4
numeric_opcode F32ConvertI64U = 0xb5
numeric_opcode F32DemoteF64 = 0xb6
numeric_opcode F64ConvertI32S = 0xb7
numeric_opcode F64ConvertI32U = 0xb8
numeric_opcode F64ConvertI64S = 0xb9
numeric_opcode F64ConvertI64U = 0xba
numeric_opcode F64PromoteF32 = 0xbb
numeric_opcode I32ReinterpretF32 = 0xbc
numeric_opcode I64ReinterpretF64 = 0xbd
numeric_opcode F32ReinterpretI32 = 0xbe
numeric_opcode F64ReinterpretI64 = 0xbf
numeric_opcode I32Extend8S = 0xc0
numeric_opcode I32Extend16S = 0xc1
numeric_opcode I64Extend8S = 0xc2
numeric_opcode I64Extend16S = 0xc3
numeric_opcode I64Extend32S = 0xc4

-- the numeric operators in the order of their bytes
unfoldable pub numeric_operators : List NumericOperator
numeric_operators =
    I32Eqz ∷ I32Eq ∷ I32Ne ∷ I32LtS ∷ I32LtU ∷ I32GtS ∷ I32GtU ∷ I32LeS ∷ I32LeU ∷ I32GeS ∷ I32GeU ∷
    I64Eqz ∷ I64Eq ∷ I64Ne ∷ I64LtS ∷ I64LtU ∷ I64GtS ∷ I64GtU ∷ I64LeS ∷ I64LeU ∷ I64GeS ∷ I64GeU ∷
    F32Eq ∷ F32Ne ∷ F32Lt ∷ F32Gt ∷ F32Le ∷ F32Ge ∷
    F64Eq ∷ F64Ne ∷ F64Lt ∷ F64Gt ∷ F64Le ∷ F64Ge ∷
    I32Clz ∷ I32Ctz ∷ I32Popcnt ∷ I32Add ∷ I32Sub ∷ I32Mul ∷ I32DivS ∷ I32DivU ∷ I32RemS ∷ I32RemU ∷ I32And ∷ I32Or ∷ I32Xor ∷ I32Shl ∷ I32ShrS ∷ I32ShrU ∷ I32Rotl ∷ I32Rotr ∷
    I64Clz ∷ I64Ctz ∷ I64Popcnt ∷ I64Add ∷ I64Sub ∷ I64Mul ∷ I64DivS ∷ I64DivU ∷ I64RemS ∷ I64RemU ∷ I64And ∷ I64Or ∷ I64Xor ∷ I64Shl ∷ I64ShrS ∷ I64ShrU ∷ I64Rotl ∷ I64Rotr ∷
    F32Abs ∷ F32Neg ∷ F32Ceil ∷ F32Floor ∷ F32Trunc ∷ F32Nearest ∷ F32Sqrt ∷ F32Add ∷ F32Sub ∷ F32Mul ∷ F32Div ∷ F32Min ∷ F32Max ∷ F32Copysign ∷
    F64Abs ∷ F64Neg ∷ F64Ceil ∷ F64Floor ∷ F64Trunc ∷ F64Nearest ∷ F64Sqrt ∷ F64Add ∷ F64Sub ∷ F64Mul ∷ F64Div ∷ F64Min ∷ F64Max ∷ F64Copysign ∷
    I32WrapI64 ∷ I32TruncF32S ∷ I32TruncF32U ∷ I32TruncF64S ∷ I32TruncF64U ∷
    I64ExtendI32S ∷ I64ExtendI32U ∷ I64TruncF32S ∷ I64TruncF32U ∷ I64TruncF64S ∷ I64TruncF64U ∷
    F32ConvertI32S ∷ F32ConvertI32U ∷ F32ConvertI64S ∷ F32ConvertI64U ∷ F32DemoteF64 ∷
    F64ConvertI32S ∷ F64ConvertI32U ∷ F64ConvertI64S ∷ F64ConvertI64U ∷ F64PromoteF32 ∷
    I32ReinterpretF32 ∷ I64ReinterpretF64 ∷ F32ReinterpretI32 ∷ F64ReinterpretI64 ∷
    I32Extend8S ∷ I32Extend16S ∷ I64Extend8S ∷ I64Extend16S ∷ I64Extend32S ∷ []

-- the numeric operator of a byte; the first is 45
unfoldable pub numeric_from : ℕ → Option NumericOperator
numeric_from = counted_from 0x45 numeric_operators

-- the number of a saturating truncation behind the prefix fc
abbrev pub saturating_code : SaturatingOperator → ℕ
saturating_code I32TruncSatF32S = 0
saturating_code I32TruncSatF32U = 1
saturating_code I32TruncSatF64S = 2
saturating_code I32TruncSatF64U = 3
saturating_code I64TruncSatF32S = 4
saturating_code I64TruncSatF32U = 5
saturating_code I64TruncSatF64S = 6
saturating_code I64TruncSatF64U = 7

-- the saturating truncations in the order of their numbers
unfoldable pub saturating_operators : List SaturatingOperator
saturating_operators =
    I32TruncSatF32S ∷ I32TruncSatF32U ∷ I32TruncSatF64S ∷ I32TruncSatF64U ∷ I64TruncSatF32S ∷ I64TruncSatF32U ∷ I64TruncSatF64S ∷ I64TruncSatF64U ∷ []

-- the saturating truncation of a number; the first is 0
unfoldable pub saturating_from : ℕ → Option SaturatingOperator
saturating_from = counted_from 0 saturating_operators
