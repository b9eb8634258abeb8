-- Core Specification 3.0, Validation, Instructions, Numeric Instructions: what a numeric instruction takes and gives.
use Rattle.std.specs.Prelude.{◌≡◌, ℕ, nat_lt, if◌then◌else◌, Option, Some, None}
use Rattle.wasm_operators_plain.specs.Numeric.{numeric_opcode}
use Rattle.wasm_operators_plain.specs.declared.numeric.NumericOperator.{NumericOperator}
use Rattle.wasm_operators_plain.specs.declared.numeric.NumericOperator.TheVariants.{I32Eqz, I32Eq, I32Ne, I32LtS, I32LtU, I32GtS, I32GtU, I32LeS, I32LeU, I32GeS, I32GeU, I64Eqz, I64Eq, I64Ne, I64LtS, I64LtU, I64GtS, I64GtU, I64LeS, I64LeU, I64GeS, I64GeU, F32Eq, F32Ne, F32Lt, F32Gt, F32Le, F32Ge, F64Eq, F64Ne, F64Lt, F64Gt, F64Le, F64Ge, I32Clz, I32Ctz, I32Popcnt, I32Add, I32Sub, I32Mul, I32DivS, I32DivU, I32RemS, I32RemU, I32And, I32Or, I32Xor, I32Shl, I32ShrS, I32ShrU, I32Rotl, I32Rotr, I64Clz, I64Ctz, I64Popcnt, I64Add, I64Sub, I64Mul, I64DivS, I64DivU, I64RemS, I64RemU, I64And, I64Or, I64Xor, I64Shl, I64ShrS, I64ShrU, I64Rotl, I64Rotr, F32Abs, F32Neg, F32Ceil, F32Floor, F32Trunc, F32Nearest, F32Sqrt, F32Add, F32Sub, F32Mul, F32Div, F32Min, F32Max, F32Copysign, F64Abs, F64Neg, F64Ceil, F64Floor, F64Trunc, F64Nearest, F64Sqrt, F64Add, F64Sub, F64Mul, F64Div, F64Min, F64Max, F64Copysign, I32WrapI64, I32TruncF32S, I32TruncF32U, I32TruncF64S, I32TruncF64U, I64ExtendI32S, I64ExtendI32U, I64TruncF32S, I64TruncF32U, I64TruncF64S, I64TruncF64U, F32ConvertI32S, F32ConvertI32U, F32ConvertI64S, F32ConvertI64U, F32DemoteF64, F64ConvertI32S, F64ConvertI32U, F64ConvertI64S, F64ConvertI64U, F64PromoteF32, I32ReinterpretF32, I64ReinterpretF64, F32ReinterpretI32, F64ReinterpretI64, I32Extend8S, I32Extend16S, I64Extend8S, I64Extend16S, I64Extend32S}
use Rattle.wasm_operators_plain.specs.declared.numeric.SaturatingOperator.{SaturatingOperator}
use Rattle.wasm_operators_plain.specs.declared.numeric.SaturatingOperator.TheVariants.{I32TruncSatF32S, I32TruncSatF32U, I32TruncSatF64S, I32TruncSatF64U, I64TruncSatF32S, I64TruncSatF32U, I64TruncSatF64S, I64TruncSatF64U}
use Rattle.wasm_operators_plain.specs.declared.signatures.NumberType.TheVariants as number
use Rattle.wasm_operators_plain.specs.declared.signatures.Signature.{Signature}
use Rattle.wasm_operators_plain.specs.declared.signatures.Signature.TheVariants.{Unary, Binary}

-- by instruction: the type of its one operand or of both, and that of its result
abbrev pub signature_of : NumericOperator → Signature
signature_of I32Eqz = Unary number.I32 number.I32
signature_of I32Eq = Binary number.I32 number.I32
signature_of I32Ne = Binary number.I32 number.I32
signature_of I32LtS = Binary number.I32 number.I32
signature_of I32LtU = Binary number.I32 number.I32
signature_of I32GtS = Binary number.I32 number.I32
signature_of I32GtU = Binary number.I32 number.I32
signature_of I32LeS = Binary number.I32 number.I32
signature_of I32LeU = Binary number.I32 number.I32
signature_of I32GeS = Binary number.I32 number.I32
signature_of I32GeU = Binary number.I32 number.I32
signature_of I64Eqz = Unary number.I64 number.I32
signature_of I64Eq = Binary number.I64 number.I32
signature_of I64Ne = Binary number.I64 number.I32
signature_of I64LtS = Binary number.I64 number.I32
signature_of I64LtU = Binary number.I64 number.I32
signature_of I64GtS = Binary number.I64 number.I32
signature_of I64GtU = Binary number.I64 number.I32
signature_of I64LeS = Binary number.I64 number.I32
signature_of I64LeU = Binary number.I64 number.I32
signature_of I64GeS = Binary number.I64 number.I32
signature_of I64GeU = Binary number.I64 number.I32
signature_of F32Eq = Binary number.F32 number.I32
signature_of F32Ne = Binary number.F32 number.I32
signature_of F32Lt = Binary number.F32 number.I32
signature_of F32Gt = Binary number.F32 number.I32
signature_of F32Le = Binary number.F32 number.I32
signature_of F32Ge = Binary number.F32 number.I32
signature_of F64Eq = Binary number.F64 number.I32
signature_of F64Ne = Binary number.F64 number.I32
signature_of F64Lt = Binary number.F64 number.I32
signature_of F64Gt = Binary number.F64 number.I32
signature_of F64Le = Binary number.F64 number.I32
signature_of F64Ge = Binary number.F64 number.I32
signature_of I32Clz = Unary number.I32 number.I32
signature_of I32Ctz = Unary number.I32 number.I32
signature_of I32Popcnt = Unary number.I32 number.I32
signature_of I32Add = Binary number.I32 number.I32
signature_of I32Sub = Binary number.I32 number.I32
signature_of I32Mul = Binary number.I32 number.I32
signature_of I32DivS = Binary number.I32 number.I32
signature_of I32DivU = Binary number.I32 number.I32
signature_of I32RemS = Binary number.I32 number.I32
signature_of I32RemU = Binary number.I32 number.I32
signature_of I32And = Binary number.I32 number.I32
signature_of I32Or = Binary number.I32 number.I32
signature_of I32Xor = Binary number.I32 number.I32
signature_of I32Shl = Binary number.I32 number.I32
signature_of I32ShrS = Binary number.I32 number.I32
signature_of I32ShrU = Binary number.I32 number.I32
signature_of I32Rotl = Binary number.I32 number.I32
signature_of I32Rotr = Binary number.I32 number.I32
signature_of I64Clz = Unary number.I64 number.I64
signature_of I64Ctz = Unary number.I64 number.I64
signature_of I64Popcnt = Unary number.I64 number.I64
signature_of I64Add = Binary number.I64 number.I64
signature_of I64Sub = Binary number.I64 number.I64
signature_of I64Mul = Binary number.I64 number.I64
signature_of I64DivS = Binary number.I64 number.I64
signature_of I64DivU = Binary number.I64 number.I64
signature_of I64RemS = Binary number.I64 number.I64
signature_of I64RemU = Binary number.I64 number.I64
signature_of I64And = Binary number.I64 number.I64
signature_of I64Or = Binary number.I64 number.I64
signature_of I64Xor = Binary number.I64 number.I64
signature_of I64Shl = Binary number.I64 number.I64
signature_of I64ShrS = Binary number.I64 number.I64
signature_of I64ShrU = Binary number.I64 number.I64
signature_of I64Rotl = Binary number.I64 number.I64
signature_of I64Rotr = Binary number.I64 number.I64
signature_of F32Abs = Unary number.F32 number.F32
signature_of F32Neg = Unary number.F32 number.F32
signature_of F32Ceil = Unary number.F32 number.F32
signature_of F32Floor = Unary number.F32 number.F32
signature_of F32Trunc = Unary number.F32 number.F32
signature_of F32Nearest = Unary number.F32 number.F32
signature_of F32Sqrt = Unary number.F32 number.F32
signature_of F32Add = Binary number.F32 number.F32
signature_of F32Sub = Binary number.F32 number.F32
signature_of F32Mul = Binary number.F32 number.F32
signature_of F32Div = Binary number.F32 number.F32
signature_of F32Min = Binary number.F32 number.F32
signature_of F32Max = Binary number.F32 number.F32
signature_of F32Copysign = Binary number.F32 number.F32
signature_of F64Abs = Unary number.F64 number.F64
signature_of F64Neg = Unary number.F64 number.F64
signature_of F64Ceil = Unary number.F64 number.F64
signature_of F64Floor = Unary number.F64 number.F64
signature_of F64Trunc = Unary number.F64 number.F64
signature_of F64Nearest = Unary number.F64 number.F64
signature_of F64Sqrt = Unary number.F64 number.F64
signature_of F64Add = Binary number.F64 number.F64
signature_of F64Sub = Binary number.F64 number.F64
signature_of F64Mul = Binary number.F64 number.F64
signature_of F64Div = Binary number.F64 number.F64
signature_of F64Min = Binary number.F64 number.F64
signature_of F64Max = Binary number.F64 number.F64
signature_of F64Copysign = Binary number.F64 number.F64
signature_of I32WrapI64 = Unary number.I64 number.I32
signature_of I32TruncF32S = Unary number.F32 number.I32
signature_of I32TruncF32U = Unary number.F32 number.I32
signature_of I32TruncF64S = Unary number.F64 number.I32
signature_of I32TruncF64U = Unary number.F64 number.I32
signature_of I64ExtendI32S = Unary number.I32 number.I64
signature_of I64ExtendI32U = Unary number.I32 number.I64
signature_of I64TruncF32S = Unary number.F32 number.I64
signature_of I64TruncF32U = Unary number.F32 number.I64
signature_of I64TruncF64S = Unary number.F64 number.I64
signature_of I64TruncF64U = Unary number.F64 number.I64
signature_of F32ConvertI32S = Unary number.I32 number.F32
signature_of F32ConvertI32U = Unary number.I32 number.F32
signature_of F32ConvertI64S = Unary number.I64 number.F32
signature_of F32ConvertI64U = Unary number.I64 number.F32
signature_of F32DemoteF64 = Unary number.F64 number.F32
signature_of F64ConvertI32S = Unary number.I32 number.F64
signature_of F64ConvertI32U = Unary number.I32 number.F64
signature_of F64ConvertI64S = Unary number.I64 number.F64
signature_of F64ConvertI64U = Unary number.I64 number.F64
signature_of F64PromoteF32 = Unary number.F32 number.F64
signature_of I32ReinterpretF32 = Unary number.F32 number.I32
signature_of I64ReinterpretF64 = Unary number.F64 number.I64
signature_of F32ReinterpretI32 = Unary number.I32 number.F32
signature_of F64ReinterpretI64 = Unary number.I64 number.F64
signature_of I32Extend8S = Unary number.I32 number.I32
signature_of I32Extend16S = Unary number.I32 number.I32
signature_of I64Extend8S = Unary number.I64 number.I64
signature_of I64Extend16S = Unary number.I64 number.I64
signature_of I64Extend32S = Unary number.I64 number.I64

-- those of the saturating truncations
abbrev pub saturating_signature_of : SaturatingOperator → Signature
saturating_signature_of I32TruncSatF32S = Unary number.F32 number.I32
saturating_signature_of I32TruncSatF32U = Unary number.F32 number.I32
saturating_signature_of I32TruncSatF64S = Unary number.F64 number.I32
saturating_signature_of I32TruncSatF64U = Unary number.F64 number.I32
saturating_signature_of I64TruncSatF32S = Unary number.F32 number.I64
saturating_signature_of I64TruncSatF32U = Unary number.F32 number.I64
saturating_signature_of I64TruncSatF64S = Unary number.F64 number.I64
saturating_signature_of I64TruncSatF64U = Unary number.F64 number.I64

-- by the byte of an instruction, in ranges
abbrev pub signature_at : ℕ → Option Signature
signature_at b =
    if nat_lt b 0x45 then None
    else (if nat_lt b 0x46 then Some (Unary number.I32 number.I32)
    else (if nat_lt b 0x50 then Some (Binary number.I32 number.I32)
    else (if nat_lt b 0x51 then Some (Unary number.I64 number.I32)
    else (if nat_lt b 0x5b then Some (Binary number.I64 number.I32)
    else (if nat_lt b 0x61 then Some (Binary number.F32 number.I32)
    else (if nat_lt b 0x67 then Some (Binary number.F64 number.I32)
    else (if nat_lt b 0x6a then Some (Unary number.I32 number.I32)
    else (if nat_lt b 0x79 then Some (Binary number.I32 number.I32)
    else (if nat_lt b 0x7c then Some (Unary number.I64 number.I64)
    else (if nat_lt b 0x8b then Some (Binary number.I64 number.I64)
    else (if nat_lt b 0x92 then Some (Unary number.F32 number.F32)
    else (if nat_lt b 0x99 then Some (Binary number.F32 number.F32)
    else (if nat_lt b 0xa0 then Some (Unary number.F64 number.F64)
    else (if nat_lt b 0xa7 then Some (Binary number.F64 number.F64)
    else (if nat_lt b 0xa8 then Some (Unary number.I64 number.I32)
    else (if nat_lt b 0xaa then Some (Unary number.F32 number.I32)
    else (if nat_lt b 0xac then Some (Unary number.F64 number.I32)
    else (if nat_lt b 0xae then Some (Unary number.I32 number.I64)
    else (if nat_lt b 0xb0 then Some (Unary number.F32 number.I64)
    else (if nat_lt b 0xb2 then Some (Unary number.F64 number.I64)
    else (if nat_lt b 0xb4 then Some (Unary number.I32 number.F32)
    else (if nat_lt b 0xb6 then Some (Unary number.I64 number.F32)
    else (if nat_lt b 0xb7 then Some (Unary number.F64 number.F32)
    else (if nat_lt b 0xb9 then Some (Unary number.I32 number.F64)
    else (if nat_lt b 0xbb then Some (Unary number.I64 number.F64)
    else (if nat_lt b 0xbc then Some (Unary number.F32 number.F64)
    else (if nat_lt b 0xbd then Some (Unary number.F32 number.I32)
    else (if nat_lt b 0xbe then Some (Unary number.F64 number.I64)
    else (if nat_lt b 0xbf then Some (Unary number.I32 number.F32)
    else (if nat_lt b 0xc0 then Some (Unary number.I64 number.F64)
    else (if nat_lt b 0xc2 then Some (Unary number.I32 number.I32)
    else (if nat_lt b 0xc5 then Some (Unary number.I64 number.I64)
    else None))))))))))))))))))))))))))))))))

-- what the numeric instructions take and give is told by their bytes
abbrev pub SignaturesByOpcode : Type 0
SignaturesByOpcode = (op : NumericOperator) → signature_at (numeric_opcode op) ≡ Some (signature_of op)
