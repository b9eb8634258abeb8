-- Bodies that are valid and bodies that aren't: operators on vectors, and atomic ones.
use Rattle.std.specs.Prelude.{ℕ, ◌≡◌, ◌+◌, ◌^◌, true, false, [], ◌∷◌}
use Rattle.wasm_spec_rules.specs.WasmSpec.TypeExamples.{features}
use Rattle.wasm_operators.specs.Instructions.{Instruction, constant, vector, atomic}
use Rattle.wasm_operators.specs.WasmOperatorsPlain.declared.constants.ConstantOperator.TheVariants.{V128Const}
use Rattle.wasm_operators.specs.WasmOperatorsAtomic.WasmOperatorsVector.declared.operators.VectorOperator.TheVariants.{V128Load, V128Store, V128Load8Lane, I8x16Shuffle, I8x16Splat, F32x4Splat, F64x2Splat, I8x16ExtractLaneS, I8x16Add, F32x4RelaxedMadd}
use Rattle.wasm_operators.specs.WasmOperatorsAtomic.declared.operators.AtomicOperator.TheVariants.{AtomicFence, I32AtomicLoad, MemoryAtomicNotify}
use Rattle.wasm_operators.specs.declared.immediates.ImmediateValues.{ImmediateValues}
use Rattle.wasm_operators.specs.declared.immediates.ImmediateValues.TheVariants.{Nothing, Lane, Lanes, MemArg, MemArgLane}
use Rattle.wasm_spec_steps.specs.Samples.{body, runs, gives_i32, an_i32, an_i64, an_f32, dropped, trap, all_pass, none_pass}

abbrev pub a_v128 : Instruction ℕ
a_v128 = constant (V128Const (record { low = 0; high = 0 }))

-- a memory argument of this alignment, offset and memory
abbrev pub at_place : ℕ → ℕ → ℕ → ImmediateValues
at_place align offset x = MemArg (record { align = align; offset = offset; memory = x })

-- sixteen lanes, fifteen of them the greatest, and this one
abbrev pub lanes : ℕ → ImmediateValues
lanes n = Lanes (record { low = 0x1f1f1f1f1f1f1f00 + n; high = 0x1f1f1f1f1f1f1f1f })

abbrev pub Vectors : Type 0
Vectors =
    all_pass (
    gives_i32 (a_v128 ∷ vector I8x16ExtractLaneS (Lane 15) ∷ []) ∷
    runs (an_i32 ∷ vector I8x16Splat Nothing ∷ dropped ∷ []) ∷
    runs (an_f32 ∷ vector F32x4Splat Nothing ∷ dropped ∷ []) ∷
    runs (a_v128 ∷ a_v128 ∷ vector I8x16Add Nothing ∷ dropped ∷ []) ∷
    runs (a_v128 ∷ a_v128 ∷ a_v128 ∷ vector F32x4RelaxedMadd Nothing ∷ dropped ∷ []) ∷
    runs (a_v128 ∷ a_v128 ∷ vector I8x16Shuffle (lanes 31) ∷ dropped ∷ []) ∷
    runs (an_i32 ∷ vector V128Load (at_place 4 0 0) ∷ dropped ∷ []) ∷
    runs (an_i64 ∷ vector V128Load (at_place 0 (2 ^ 32) 1) ∷ dropped ∷ []) ∷
    runs (an_i32 ∷ a_v128 ∷ vector V128Store (at_place 4 0 0) ∷ []) ∷
    runs (an_i32 ∷ a_v128 ∷ vector V128Load8Lane (MemArgLane (record { align = 0; offset = 0; memory = 0 }) 15) ∷ dropped ∷ []) ∷ []) ≡ true

abbrev pub NoVectors : Type 0
NoVectors =
    none_pass (
    gives_i32 (a_v128 ∷ vector I8x16ExtractLaneS (Lane 16) ∷ []) ∷
    runs (an_i64 ∷ vector I8x16Splat Nothing ∷ dropped ∷ []) ∷
    runs (an_f32 ∷ vector F64x2Splat Nothing ∷ dropped ∷ []) ∷
    runs (a_v128 ∷ an_i32 ∷ vector I8x16Add Nothing ∷ dropped ∷ []) ∷
    runs (a_v128 ∷ a_v128 ∷ vector F32x4RelaxedMadd Nothing ∷ dropped ∷ []) ∷
    runs (a_v128 ∷ a_v128 ∷ vector I8x16Shuffle (lanes 32) ∷ dropped ∷ []) ∷
    runs (an_i32 ∷ vector V128Load (at_place 5 0 0) ∷ dropped ∷ []) ∷
    runs (an_i32 ∷ vector V128Load (at_place 4 (2 ^ 32) 0) ∷ dropped ∷ []) ∷
    runs (an_i32 ∷ vector V128Load (at_place 4 0 1) ∷ dropped ∷ []) ∷
    runs (an_i32 ∷ vector V128Load (at_place 4 0 2) ∷ dropped ∷ []) ∷
    runs (an_i32 ∷ a_v128 ∷ vector V128Load8Lane (MemArgLane (record { align = 0; offset = 0; memory = 0 }) 16) ∷ dropped ∷ []) ∷ []) ≡ true

abbrev pub Atomics : Type 0
Atomics =
    all_pass (
    runs (atomic AtomicFence Nothing ∷ []) ∷
    gives_i32 (an_i32 ∷ atomic I32AtomicLoad (at_place 2 0 0) ∷ []) ∷
    gives_i32 (an_i64 ∷ an_i32 ∷ atomic MemoryAtomicNotify (at_place 2 (2 ^ 32) 1) ∷ []) ∷ []) ≡ true

abbrev pub NoAtomics : Type 0
NoAtomics =
    none_pass (
    gives_i32 (an_i32 ∷ atomic I32AtomicLoad (at_place 1 0 0) ∷ []) ∷
    gives_i32 (an_i32 ∷ atomic I32AtomicLoad (at_place 3 0 0) ∷ []) ∷
    gives_i32 (an_i32 ∷ an_i32 ∷ atomic MemoryAtomicNotify (at_place 2 0 1) ∷ []) ∷
    gives_i32 (an_i32 ∷ atomic I32AtomicLoad (at_place 2 0 2) ∷ []) ∷ []) ≡ true

-- each needs two features
abbrev pub FormsNeedFeatures : Type 0
FormsNeedFeatures =
    none_pass (
    body (record (features true) { vector_operators = false }) 0 (trap ∷ vector I8x16Splat Nothing ∷ dropped ∷ []) ∷
    body (record (features true) { simd = false }) 0 (trap ∷ vector I8x16ExtractLaneS (Lane 0) ∷ dropped ∷ []) ∷
    body (record (features true) { atomic_operators = false }) 0 (atomic AtomicFence Nothing ∷ []) ∷
    body (record (features true) { threads = false }) 0 (atomic AtomicFence Nothing ∷ []) ∷ []) ≡ true
