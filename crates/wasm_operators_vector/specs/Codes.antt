-- Core Specification 3.0, Binary Format, Instructions, Vector Instructions: the operators on vectors by their numbers.
use Rattle.std.specs.Prelude.{ℕ, List, [], ◌∷◌, Option, Some, None}
use Rattle.wasm_operators_vector.specs.Tables.{entry}
use Rattle.wasm_operators_vector.specs.declared.operators.VectorOperator.{VectorOperator}
use Rattle.wasm_operators_vector.specs.declared.operators.VectorOperator.TheVariants.{V128Load, V128Load8x8S, V128Load8x8U, V128Load16x4S, V128Load16x4U, V128Load32x2S, V128Load32x2U, V128Load8Splat, V128Load16Splat, V128Load32Splat, V128Load64Splat, V128Store, I8x16Shuffle, I8x16Swizzle, I8x16Splat, I16x8Splat, I32x4Splat, I64x2Splat, F32x4Splat, F64x2Splat, I8x16ExtractLaneS, I8x16ExtractLaneU, I8x16ReplaceLane, I16x8ExtractLaneS, I16x8ExtractLaneU, I16x8ReplaceLane, I32x4ExtractLane, I32x4ReplaceLane, I64x2ExtractLane, I64x2ReplaceLane, F32x4ExtractLane, F32x4ReplaceLane, F64x2ExtractLane, F64x2ReplaceLane, I8x16Eq, I8x16Ne, I8x16LtS, I8x16LtU, I8x16GtS, I8x16GtU, I8x16LeS, I8x16LeU, I8x16GeS, I8x16GeU, I16x8Eq, I16x8Ne, I16x8LtS, I16x8LtU, I16x8GtS, I16x8GtU, I16x8LeS, I16x8LeU, I16x8GeS, I16x8GeU, I32x4Eq, I32x4Ne, I32x4LtS, I32x4LtU, I32x4GtS, I32x4GtU, I32x4LeS, I32x4LeU, I32x4GeS, I32x4GeU, F32x4Eq, F32x4Ne, F32x4Lt, F32x4Gt, F32x4Le, F32x4Ge, F64x2Eq, F64x2Ne, F64x2Lt, F64x2Gt, F64x2Le, F64x2Ge, V128Not, V128And, V128AndNot, V128Or, V128Xor, V128Bitselect, V128AnyTrue, V128Load8Lane, V128Load16Lane, V128Load32Lane, V128Load64Lane, V128Store8Lane, V128Store16Lane, V128Store32Lane, V128Store64Lane, V128Load32Zero, V128Load64Zero, F32x4DemoteF64x2Zero, F64x2PromoteLowF32x4, I8x16Abs, I8x16Neg, I8x16Popcnt, I8x16AllTrue, I8x16Bitmask, I8x16NarrowI16x8S, I8x16NarrowI16x8U, F32x4Ceil, F32x4Floor, F32x4Trunc, F32x4Nearest, I8x16Shl, I8x16ShrS, I8x16ShrU, I8x16Add, I8x16AddSatS, I8x16AddSatU, I8x16Sub, I8x16SubSatS, I8x16SubSatU, F64x2Ceil, F64x2Floor, I8x16MinS, I8x16MinU, I8x16MaxS, I8x16MaxU, F64x2Trunc, I8x16AvgrU, I16x8ExtAddPairwiseI8x16S, I16x8ExtAddPairwiseI8x16U, I32x4ExtAddPairwiseI16x8S, I32x4ExtAddPairwiseI16x8U, I16x8Abs, I16x8Neg, I16x8Q15MulrSatS, I16x8AllTrue, I16x8Bitmask, I16x8NarrowI32x4S, I16x8NarrowI32x4U, I16x8ExtendLowI8x16S, I16x8ExtendHighI8x16S, I16x8ExtendLowI8x16U, I16x8ExtendHighI8x16U, I16x8Shl, I16x8ShrS, I16x8ShrU, I16x8Add, I16x8AddSatS, I16x8AddSatU, I16x8Sub, I16x8SubSatS, I16x8SubSatU, F64x2Nearest, I16x8Mul, I16x8MinS, I16x8MinU, I16x8MaxS, I16x8MaxU, I16x8AvgrU, I16x8ExtMulLowI8x16S, I16x8ExtMulHighI8x16S, I16x8ExtMulLowI8x16U, I16x8ExtMulHighI8x16U, I32x4Abs, I32x4Neg, I32x4AllTrue, I32x4Bitmask, I32x4ExtendLowI16x8S, I32x4ExtendHighI16x8S, I32x4ExtendLowI16x8U, I32x4ExtendHighI16x8U, I32x4Shl, I32x4ShrS, I32x4ShrU, I32x4Add, I32x4Sub, I32x4Mul, I32x4MinS, I32x4MinU, I32x4MaxS, I32x4MaxU, I32x4DotI16x8S, I32x4ExtMulLowI16x8S, I32x4ExtMulHighI16x8S, I32x4ExtMulLowI16x8U, I32x4ExtMulHighI16x8U, I64x2Abs, I64x2Neg, I64x2AllTrue, I64x2Bitmask, I64x2ExtendLowI32x4S, I64x2ExtendHighI32x4S, I64x2ExtendLowI32x4U, I64x2ExtendHighI32x4U, I64x2Shl, I64x2ShrS, I64x2ShrU, I64x2Add, I64x2Sub, I64x2Mul, I64x2Eq, I64x2Ne, I64x2LtS, I64x2GtS, I64x2LeS, I64x2GeS, I64x2ExtMulLowI32x4S, I64x2ExtMulHighI32x4S, I64x2ExtMulLowI32x4U, I64x2ExtMulHighI32x4U, F32x4Abs, F32x4Neg, F32x4Sqrt, F32x4Add, F32x4Sub, F32x4Mul, F32x4Div, F32x4Min, F32x4Max, F32x4PMin, F32x4PMax, F64x2Abs, F64x2Neg, F64x2Sqrt, F64x2Add, F64x2Sub, F64x2Mul, F64x2Div, F64x2Min, F64x2Max, F64x2PMin, F64x2PMax, I32x4TruncSatF32x4S, I32x4TruncSatF32x4U, F32x4ConvertI32x4S, F32x4ConvertI32x4U, I32x4TruncSatF64x2SZero, I32x4TruncSatF64x2UZero, F64x2ConvertLowI32x4S, F64x2ConvertLowI32x4U, I8x16RelaxedSwizzle, I32x4RelaxedTruncF32x4S, I32x4RelaxedTruncF32x4U, I32x4RelaxedTruncF64x2SZero, I32x4RelaxedTruncF64x2UZero, F32x4RelaxedMadd, F32x4RelaxedNmadd, F64x2RelaxedMadd, F64x2RelaxedNmadd, I8x16RelaxedLaneselect, I16x8RelaxedLaneselect, I32x4RelaxedLaneselect, I64x2RelaxedLaneselect, F32x4RelaxedMin, F32x4RelaxedMax, F64x2RelaxedMin, F64x2RelaxedMax, I16x8RelaxedQ15MulrS, I16x8RelaxedDotI8x16I7x16S, I32x4RelaxedDotI8x16I7x16AddS}

-- the number of an operator, which stands behind the prefix fd
abbrev pub operator_code : VectorOperator → ℕ
operator_code V128Load = 0
operator_code V128Load8x8S = 1
operator_code V128Load8x8U = 2
operator_code V128Load16x4S = 3
operator_code V128Load16x4U = 4
operator_code V128Load32x2S = 5
operator_code V128Load32x2U = 6
operator_code V128Load8Splat = 7
operator_code V128Load16Splat = 8
operator_code V128Load32Splat = 9
operator_code V128Load64Splat = 10
operator_code V128Store = 11
operator_code I8x16Shuffle = 13
operator_code I8x16Swizzle = 14
operator_code I8x16Splat = 15
operator_code I16x8Splat = 16
operator_code I32x4Splat = 17
operator_code I64x2Splat = 18
operator_code F32x4Splat = 19
operator_code F64x2Splat = 20
operator_code I8x16ExtractLaneS = 21
operator_code I8x16ExtractLaneU = 22
operator_code I8x16ReplaceLane = 23
operator_code I16x8ExtractLaneS = 24
operator_code I16x8ExtractLaneU = 25
operator_code I16x8ReplaceLane = 26
operator_code I32x4ExtractLane = 27
operator_code I32x4ReplaceLane = 28
operator_code I64x2ExtractLane = 29
operator_code I64x2ReplaceLane = 30
operator_code F32x4ExtractLane = 31
operator_code F32x4ReplaceLane = 32
operator_code F64x2ExtractLane = 33
operator_code F64x2ReplaceLane = 34
operator_code I8x16Eq = 35
operator_code I8x16Ne = 36
operator_code I8x16LtS = 37
operator_code I8x16LtU = 38
operator_code I8x16GtS = 39
operator_code I8x16GtU = 40
operator_code I8x16LeS = 41
operator_code I8x16LeU = 42
operator_code I8x16GeS = 43
operator_code I8x16GeU = 44
operator_code I16x8Eq = 45
operator_code I16x8Ne = 46
operator_code I16x8LtS = 47
operator_code I16x8LtU = 48
operator_code I16x8GtS = 49
operator_code I16x8GtU = 50
operator_code I16x8LeS = 51
operator_code I16x8LeU = 52
operator_code I16x8GeS = 53
operator_code I16x8GeU = 54
operator_code I32x4Eq = 55
operator_code I32x4Ne = 56
operator_code I32x4LtS = 57
operator_code I32x4LtU = 58
operator_code I32x4GtS = 59
operator_code I32x4GtU = 60
operator_code I32x4LeS = 61
operator_code I32x4LeU = 62
operator_code I32x4GeS = 63
operator_code I32x4GeU = 64
operator_code F32x4Eq = 65
operator_code F32x4Ne = 66
operator_code F32x4Lt = 67
operator_code F32x4Gt = 68
operator_code F32x4Le = 69
operator_code F32x4Ge = 70
operator_code F64x2Eq = 71
operator_code F64x2Ne = 72
operator_code F64x2Lt = 73
operator_code F64x2Gt = 74
operator_code F64x2Le = 75
operator_code F64x2Ge = 76
operator_code V128Not = 77
operator_code V128And = 78
operator_code V128AndNot = 79
operator_code V128Or = 80
operator_code V128Xor = 81
operator_code V128Bitselect = 82
operator_code V128AnyTrue = 83
operator_code V128Load8Lane = 84
operator_code V128Load16Lane = 85
operator_code V128Load32Lane = 86
operator_code V128Load64Lane = 87
operator_code V128Store8Lane = 88
operator_code V128Store16Lane = 89
operator_code V128Store32Lane = 90
operator_code V128Store64Lane = 91
operator_code V128Load32Zero = 92
operator_code V128Load64Zero = 93
operator_code F32x4DemoteF64x2Zero = 94
operator_code F64x2PromoteLowF32x4 = 95
operator_code I8x16Abs = 96
operator_code I8x16Neg = 97
operator_code I8x16Popcnt = 98
operator_code I8x16AllTrue = 99
operator_code I8x16Bitmask = 100
operator_code I8x16NarrowI16x8S = 101
operator_code I8x16NarrowI16x8U = 102
operator_code F32x4Ceil = 103
operator_code F32x4Floor = 104
operator_code F32x4Trunc = 105
operator_code F32x4Nearest = 106
operator_code I8x16Shl = 107
operator_code I8x16ShrS = 108
operator_code I8x16ShrU = 109
operator_code I8x16Add = 110
operator_code I8x16AddSatS = 111
operator_code I8x16AddSatU = 112
operator_code I8x16Sub = 113
operator_code I8x16SubSatS = 114
operator_code I8x16SubSatU = 115
operator_code F64x2Ceil = 116
operator_code F64x2Floor = 117
operator_code I8x16MinS = 118
operator_code I8x16MinU = 119
operator_code I8x16MaxS = 120
operator_code I8x16MaxU = 121
operator_code F64x2Trunc = 122
operator_code I8x16AvgrU = 123
operator_code I16x8ExtAddPairwiseI8x16S = 124
operator_code I16x8ExtAddPairwiseI8x16U = 125
operator_code I32x4ExtAddPairwiseI16x8S = 126
operator_code I32x4ExtAddPairwiseI16x8U = 127
operator_code I16x8Abs = 128
operator_code I16x8Neg = 129
operator_code I16x8Q15MulrSatS = 130
operator_code I16x8AllTrue = 131
operator_code I16x8Bitmask = 132
operator_code I16x8NarrowI32x4S = 133
operator_code I16x8NarrowI32x4U = 134
operator_code I16x8ExtendLowI8x16S = 135
operator_code I16x8ExtendHighI8x16S = 136
operator_code I16x8ExtendLowI8x16U = 137
operator_code I16x8ExtendHighI8x16U = 138
operator_code I16x8Shl = 139
operator_code I16x8ShrS = 140
operator_code I16x8ShrU = 141
operator_code I16x8Add = 142
operator_code I16x8AddSatS = 143
operator_code I16x8AddSatU = 144
operator_code I16x8Sub = 145
operator_code I16x8SubSatS = 146
operator_code I16x8SubSatU = 147
operator_code F64x2Nearest = 148
operator_code I16x8Mul = 149
operator_code I16x8MinS = 150
operator_code I16x8MinU = 151
operator_code I16x8MaxS = 152
operator_code I16x8MaxU = 153
operator_code I16x8AvgrU = 155
operator_code I16x8ExtMulLowI8x16S = 156
operator_code I16x8ExtMulHighI8x16S = 157
operator_code I16x8ExtMulLowI8x16U = 158
operator_code I16x8ExtMulHighI8x16U = 159
operator_code I32x4Abs = 160
operator_code I32x4Neg = 161
operator_code I32x4AllTrue = 163
operator_code I32x4Bitmask = 164
operator_code I32x4ExtendLowI16x8S = 167
operator_code I32x4ExtendHighI16x8S = 168
operator_code I32x4ExtendLowI16x8U = 169
operator_code I32x4ExtendHighI16x8U = 170
operator_code I32x4Shl = 171
operator_code I32x4ShrS = 172
operator_code I32x4ShrU = 173
operator_code I32x4Add = 174
operator_code I32x4Sub = 177
operator_code I32x4Mul = 181
operator_code I32x4MinS = 182
operator_code I32x4MinU = 183
operator_code I32x4MaxS = 184
operator_code I32x4MaxU = 185
operator_code I32x4DotI16x8S = 186
operator_code I32x4ExtMulLowI16x8S = 188
operator_code I32x4ExtMulHighI16x8S = 189
operator_code I32x4ExtMulLowI16x8U = 190
operator_code I32x4ExtMulHighI16x8U = 191
operator_code I64x2Abs = 192
operator_code I64x2Neg = 193
operator_code I64x2AllTrue = 195
operator_code I64x2Bitmask = 196
operator_code I64x2ExtendLowI32x4S = 199
operator_code I64x2ExtendHighI32x4S = 200
operator_code I64x2ExtendLowI32x4U = 201
operator_code I64x2ExtendHighI32x4U = 202
operator_code I64x2Shl = 203
operator_code I64x2ShrS = 204
operator_code I64x2ShrU = 205
operator_code I64x2Add = 206
operator_code I64x2Sub = 209
operator_code I64x2Mul = 213
operator_code I64x2Eq = 214
operator_code I64x2Ne = 215
operator_code I64x2LtS = 216
operator_code I64x2GtS = 217
operator_code I64x2LeS = 218
operator_code I64x2GeS = 219
operator_code I64x2ExtMulLowI32x4S = 220
operator_code I64x2ExtMulHighI32x4S = 221
operator_code I64x2ExtMulLowI32x4U = 222
operator_code I64x2ExtMulHighI32x4U = 223
operator_code F32x4Abs = 224
operator_code F32x4Neg = 225
operator_code F32x4Sqrt = 227
operator_code F32x4Add = 228
operator_code F32x4Sub = 229
operator_code F32x4Mul = 230
operator_code F32x4Div = 231
operator_code F32x4Min = 232
operator_code F32x4Max = 233
operator_code F32x4PMin = 234
operator_code F32x4PMax = 235
operator_code F64x2Abs = 236
operator_code F64x2Neg = 237
operator_code F64x2Sqrt = 239
operator_code F64x2Add = 240
operator_code F64x2Sub = 241
operator_code F64x2Mul = 242
operator_code F64x2Div = 243
operator_code F64x2Min = 244
operator_code F64x2Max = 245
operator_code F64x2PMin = 246
operator_code F64x2PMax = 247
operator_code I32x4TruncSatF32x4S = 248
operator_code I32x4TruncSatF32x4U = 249
operator_code F32x4ConvertI32x4S = 250
operator_code F32x4ConvertI32x4U = 251
operator_code I32x4TruncSatF64x2SZero = 252
operator_code I32x4TruncSatF64x2UZero = 253
operator_code F64x2ConvertLowI32x4S = 254
operator_code F64x2ConvertLowI32x4U = 255
operator_code I8x16RelaxedSwizzle = 256
operator_code I32x4RelaxedTruncF32x4S = 257
operator_code I32x4RelaxedTruncF32x4U = 258
operator_code I32x4RelaxedTruncF64x2SZero = 259
operator_code I32x4RelaxedTruncF64x2UZero = 260
operator_code F32x4RelaxedMadd = 261
operator_code F32x4RelaxedNmadd = 262
operator_code F64x2RelaxedMadd = 263
operator_code F64x2RelaxedNmadd = 264
operator_code I8x16RelaxedLaneselect = 265
operator_code I16x8RelaxedLaneselect = 266
operator_code I32x4RelaxedLaneselect = 267
operator_code I64x2RelaxedLaneselect = 268
operator_code F32x4RelaxedMin = 269
operator_code F32x4RelaxedMax = 270
operator_code F64x2RelaxedMin = 271
operator_code F64x2RelaxedMax = 272
operator_code I16x8RelaxedQ15MulrS = 273
operator_code I16x8RelaxedDotI8x16I7x16S = 274
operator_code I32x4RelaxedDotI8x16I7x16AddS = 275

-- the operators in the order of their numbers
unfoldable pub operators : List (Option VectorOperator)
operators =
    Some V128Load ∷ Some V128Load8x8S ∷ Some V128Load8x8U ∷ Some V128Load16x4S ∷ Some V128Load16x4U ∷ Some V128Load32x2S ∷ Some V128Load32x2U ∷
    Some V128Load8Splat ∷ Some V128Load16Splat ∷ Some V128Load32Splat ∷ Some V128Load64Splat ∷ Some V128Store ∷ None ∷ Some I8x16Shuffle ∷
    Some I8x16Swizzle ∷ Some I8x16Splat ∷ Some I16x8Splat ∷ Some I32x4Splat ∷ Some I64x2Splat ∷ Some F32x4Splat ∷ Some F64x2Splat ∷ Some I8x16ExtractLaneS ∷
    Some I8x16ExtractLaneU ∷ Some I8x16ReplaceLane ∷ Some I16x8ExtractLaneS ∷ Some I16x8ExtractLaneU ∷ Some I16x8ReplaceLane ∷ Some I32x4ExtractLane ∷
    Some I32x4ReplaceLane ∷ Some I64x2ExtractLane ∷ Some I64x2ReplaceLane ∷ Some F32x4ExtractLane ∷ Some F32x4ReplaceLane ∷ Some F64x2ExtractLane ∷
    Some F64x2ReplaceLane ∷ Some I8x16Eq ∷ Some I8x16Ne ∷ Some I8x16LtS ∷ Some I8x16LtU ∷ Some I8x16GtS ∷ Some I8x16GtU ∷ Some I8x16LeS ∷ Some I8x16LeU ∷
    Some I8x16GeS ∷ Some I8x16GeU ∷ Some I16x8Eq ∷ Some I16x8Ne ∷ Some I16x8LtS ∷ Some I16x8LtU ∷ Some I16x8GtS ∷ Some I16x8GtU ∷ Some I16x8LeS ∷
    Some I16x8LeU ∷ Some I16x8GeS ∷ Some I16x8GeU ∷ Some I32x4Eq ∷ Some I32x4Ne ∷ Some I32x4LtS ∷ Some I32x4LtU ∷ Some I32x4GtS ∷ Some I32x4GtU ∷
    Some I32x4LeS ∷ Some I32x4LeU ∷ Some I32x4GeS ∷ Some I32x4GeU ∷ Some F32x4Eq ∷ Some F32x4Ne ∷ Some F32x4Lt ∷ Some F32x4Gt ∷ Some F32x4Le ∷ Some F32x4Ge ∷
    Some F64x2Eq ∷ Some F64x2Ne ∷ Some F64x2Lt ∷ Some F64x2Gt ∷ Some F64x2Le ∷ Some F64x2Ge ∷ Some V128Not ∷ Some V128And ∷ Some V128AndNot ∷ Some V128Or ∷
    Some V128Xor ∷ Some V128Bitselect ∷ Some V128AnyTrue ∷ Some V128Load8Lane ∷ Some V128Load16Lane ∷ Some V128Load32Lane ∷ Some V128Load64Lane ∷
    Some V128Store8Lane ∷ Some V128Store16Lane ∷ Some V128Store32Lane ∷ Some V128Store64Lane ∷ Some V128Load32Zero ∷ Some V128Load64Zero ∷
    Some F32x4DemoteF64x2Zero ∷ Some F64x2PromoteLowF32x4 ∷ Some I8x16Abs ∷ Some I8x16Neg ∷ Some I8x16Popcnt ∷ Some I8x16AllTrue ∷ Some I8x16Bitmask ∷
    Some I8x16NarrowI16x8S ∷ Some I8x16NarrowI16x8U ∷ Some F32x4Ceil ∷ Some F32x4Floor ∷ Some F32x4Trunc ∷ Some F32x4Nearest ∷ Some I8x16Shl ∷
    Some I8x16ShrS ∷ Some I8x16ShrU ∷ Some I8x16Add ∷ Some I8x16AddSatS ∷ Some I8x16AddSatU ∷ Some I8x16Sub ∷ Some I8x16SubSatS ∷ Some I8x16SubSatU ∷
    Some F64x2Ceil ∷ Some F64x2Floor ∷ Some I8x16MinS ∷ Some I8x16MinU ∷ Some I8x16MaxS ∷ Some I8x16MaxU ∷ Some F64x2Trunc ∷ Some I8x16AvgrU ∷
    Some I16x8ExtAddPairwiseI8x16S ∷ Some I16x8ExtAddPairwiseI8x16U ∷ Some I32x4ExtAddPairwiseI16x8S ∷ Some I32x4ExtAddPairwiseI16x8U ∷ Some I16x8Abs ∷
    Some I16x8Neg ∷ Some I16x8Q15MulrSatS ∷ Some I16x8AllTrue ∷ Some I16x8Bitmask ∷ Some I16x8NarrowI32x4S ∷ Some I16x8NarrowI32x4U ∷
    Some I16x8ExtendLowI8x16S ∷ Some I16x8ExtendHighI8x16S ∷ Some I16x8ExtendLowI8x16U ∷ Some I16x8ExtendHighI8x16U ∷ Some I16x8Shl ∷ Some I16x8ShrS ∷
    Some I16x8ShrU ∷ Some I16x8Add ∷ Some I16x8AddSatS ∷ Some I16x8AddSatU ∷ Some I16x8Sub ∷ Some I16x8SubSatS ∷ Some I16x8SubSatU ∷ Some F64x2Nearest ∷
    Some I16x8Mul ∷ Some I16x8MinS ∷ Some I16x8MinU ∷ Some I16x8MaxS ∷ Some I16x8MaxU ∷ None ∷ Some I16x8AvgrU ∷ Some I16x8ExtMulLowI8x16S ∷
    Some I16x8ExtMulHighI8x16S ∷ Some I16x8ExtMulLowI8x16U ∷ Some I16x8ExtMulHighI8x16U ∷ Some I32x4Abs ∷ Some I32x4Neg ∷ None ∷ Some I32x4AllTrue ∷
    Some I32x4Bitmask ∷ None ∷ None ∷ Some I32x4ExtendLowI16x8S ∷ Some I32x4ExtendHighI16x8S ∷ Some I32x4ExtendLowI16x8U ∷ Some I32x4ExtendHighI16x8U ∷
    Some I32x4Shl ∷ Some I32x4ShrS ∷ Some I32x4ShrU ∷ Some I32x4Add ∷ None ∷ None ∷ Some I32x4Sub ∷ None ∷ None ∷ None ∷ Some I32x4Mul ∷ Some I32x4MinS ∷
    Some I32x4MinU ∷ Some I32x4MaxS ∷ Some I32x4MaxU ∷ Some I32x4DotI16x8S ∷ None ∷ Some I32x4ExtMulLowI16x8S ∷ Some I32x4ExtMulHighI16x8S ∷
    Some I32x4ExtMulLowI16x8U ∷ Some I32x4ExtMulHighI16x8U ∷ Some I64x2Abs ∷ Some I64x2Neg ∷ None ∷ Some I64x2AllTrue ∷ Some I64x2Bitmask ∷ None ∷ None ∷
    Some I64x2ExtendLowI32x4S ∷ Some I64x2ExtendHighI32x4S ∷ Some I64x2ExtendLowI32x4U ∷ Some I64x2ExtendHighI32x4U ∷ Some I64x2Shl ∷ Some I64x2ShrS ∷
    Some I64x2ShrU ∷ Some I64x2Add ∷ None ∷ None ∷ Some I64x2Sub ∷ None ∷ None ∷ None ∷ Some I64x2Mul ∷ Some I64x2Eq ∷ Some I64x2Ne ∷ Some I64x2LtS ∷
    Some I64x2GtS ∷ Some I64x2LeS ∷ Some I64x2GeS ∷ Some I64x2ExtMulLowI32x4S ∷ Some I64x2ExtMulHighI32x4S ∷ Some I64x2ExtMulLowI32x4U ∷
    Some I64x2ExtMulHighI32x4U ∷ Some F32x4Abs ∷ Some F32x4Neg ∷ None ∷ Some F32x4Sqrt ∷ Some F32x4Add ∷ Some F32x4Sub ∷ Some F32x4Mul ∷ Some F32x4Div ∷
    Some F32x4Min ∷ Some F32x4Max ∷ Some F32x4PMin ∷ Some F32x4PMax ∷ Some F64x2Abs ∷ Some F64x2Neg ∷ None ∷ Some F64x2Sqrt ∷ Some F64x2Add ∷ Some F64x2Sub ∷
    Some F64x2Mul ∷ Some F64x2Div ∷ Some F64x2Min ∷ Some F64x2Max ∷ Some F64x2PMin ∷ Some F64x2PMax ∷ Some I32x4TruncSatF32x4S ∷ Some I32x4TruncSatF32x4U ∷
    Some F32x4ConvertI32x4S ∷ Some F32x4ConvertI32x4U ∷ Some I32x4TruncSatF64x2SZero ∷ Some I32x4TruncSatF64x2UZero ∷ Some F64x2ConvertLowI32x4S ∷
    Some F64x2ConvertLowI32x4U ∷ Some I8x16RelaxedSwizzle ∷ Some I32x4RelaxedTruncF32x4S ∷ Some I32x4RelaxedTruncF32x4U ∷ Some I32x4RelaxedTruncF64x2SZero ∷
    Some I32x4RelaxedTruncF64x2UZero ∷ Some F32x4RelaxedMadd ∷ Some F32x4RelaxedNmadd ∷ Some F64x2RelaxedMadd ∷ Some F64x2RelaxedNmadd ∷
    Some I8x16RelaxedLaneselect ∷ Some I16x8RelaxedLaneselect ∷ Some I32x4RelaxedLaneselect ∷ Some I64x2RelaxedLaneselect ∷ Some F32x4RelaxedMin ∷
    Some F32x4RelaxedMax ∷ Some F64x2RelaxedMin ∷ Some F64x2RelaxedMax ∷ Some I16x8RelaxedQ15MulrS ∷ Some I16x8RelaxedDotI8x16I7x16S ∷
    Some I32x4RelaxedDotI8x16I7x16AddS ∷
    []

-- the operator of a number
unfoldable pub operator_from : ℕ → Option VectorOperator
operator_from = entry operators
