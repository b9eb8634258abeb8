-- The types that a name stands for, and the checks that look something up of the module.
use Rattle.std.proofs.Common.{◌≡◌, ℕ, Bool, false, ◌&&◌, ◌||◌, ◌^◌, List, [], ◌∷◌, ◌++◌, refl}
use Rattle.std.specs.Option.{option_map}
use Rattle.std.specs.Prelude.{Some, None, slice_get, nat_le, nat_lt}
use Rattle.wasm_validator_resources.specs.WasmSpec.Syntax.{Val, i32}
use Rattle.wasm_validator_resources.specs.WasmSpecRules.Contexts.{Context}
use Rattle.wasm_typing_stacks.specs.WasmOperatorsPlain.declared.signatures.NumberType.{NumberType}
use Rattle.wasm_typing_stacks.specs.WasmOperatorsPlain.declared.signatures.NumberType.TheVariants as number
use Rattle.wasm_validator_resources.specs.WasmReadersTypes.SeenExterns.{memory_of}
use Rattle.wasm_validator_resources.specs.WasmReadersTypes.declared.externs.MemoryType.{MemoryType}
use Rattle.wasm_validator_resources.specs.WasmReadersTypes.WasmReadersValues.declared.indices.UnpackedIndex.{UnpackedIndex}
use Rattle.wasm_typing_stacks.specs.WasmOperatorsPlain.Memories.{max_align_of}
use Rattle.wasm_typing_stacks.specs.WasmOperatorsPlain.declared.memories.MemoryOperator.{MemoryOperator}
use Rattle.wasm_typing_stacks.specs.WasmOperatorsPlain.declared.memories.MemArg.{MemArg}
use Rattle.wasm_typing_stacks.specs.SeenTypeWords.{number_val}
use Rattle.wasm_typing_stacks.specs.WasmSpecSteps.Actions.{OperandTypes, these, memory_address, lesser_memory_address, joined, is_aligned, data_is_there}
use Rattle.wasm_validator_resources.specs.WasmSpecRules.Attempts.{◌>>=◌, passes}
use Rattle.wasm_validator_resources.specs.WasmSpecRules.Signatures.{resolve_val}
use Rattle.wasm_typing_stacks.specs.WasmSpecSteps.Meanings.{types_at, address}
use Rattle.wasm_typing_stacks.specs.WasmSpecSteps.Shapes.{number_type}
use Rattle.wasm_validator_resources.specs.Answers.{world}
use Rattle.wasm_typing_stacks.specs.BodyStacks.{state_of, around}
use Rattle.wasm_typing_stacks.specs.declared.stacks.Stacks.{Stacks}
use Rattle.wasm_typing_checks.specs.Steps.{typed, held}

module _ {A : Type 0} (v : Stacks A) (C : Context UnpackedIndex) where
  pub nothing_typed : typed v C (these []) ≡ Some []
  unfolding typed
  nothing_typed = refl

  -- a written type that is known
  pub written_typed : (w : Val ℕ) (x : Val UnpackedIndex) → resolve_val C.types w ≡ Some x → typed v C (these (w ∷ [])) ≡ Some (x ∷ [])
  unfolding typed
  written_typed w x e = rw e refl

  pub number_typed : (n : NumberType) (x : Val UnpackedIndex) → x ≡ number_val n → typed v C (these (number_type n ∷ [])) ≡ Some (x ∷ [])
  unfolding typed
  number_typed number.I32 x e = rw e refl
  number_typed number.I64 x e = rw e refl
  number_typed number.F32 x e = rw e refl
  number_typed number.F64 x e = rw e refl

  pub two_numbers_typed : (n : NumberType) (x y : Val UnpackedIndex) → x ≡ number_val n → y ≡ number_val n → typed v C (these (number_type n ∷ number_type n ∷ [])) ≡ Some (x ∷ y ∷ [])
  unfolding typed
  two_numbers_typed number.I32 x y e f = rw (e, f) refl
  two_numbers_typed number.I64 x y e f = rw (e, f) refl
  two_numbers_typed number.F32 x y e f = rw (e, f) refl
  two_numbers_typed number.F64 x y e f = rw (e, f) refl

  pub i32_typed : (x : Val UnpackedIndex) → x ≡ i32 → typed v C (these (i32 ∷ [])) ≡ Some (x ∷ [])
  unfolding typed
  i32_typed x e = rw e refl

  pub two_i32s_typed : (x y : Val UnpackedIndex) → x ≡ i32 → y ≡ i32 → typed v C (these (i32 ∷ i32 ∷ [])) ≡ Some (x ∷ y ∷ [])
  unfolding typed
  two_i32s_typed x y e f = rw (e, f) refl

  -- lists one behind another
  pub joined_typed : (t u : OperandTypes) (x : Val UnpackedIndex) (xs : List (Val UnpackedIndex)) → typed v C t ≡ Some (x ∷ []) → typed v C u ≡ Some xs → typed v C (joined t u) ≡ Some (x ∷ xs)
  unfolding typed
  joined_typed t u x xs e f = rw (e, f) refl

  pub both_typed : (t u : OperandTypes) (xs ys : List (Val UnpackedIndex)) → typed v C t ≡ Some xs → typed v C u ≡ Some ys → typed v C (joined t u) ≡ Some (xs ++ ys)
  unfolding typed
  both_typed t u xs ys e f = rw (e, f) refl

  pub first_untyped : (t u : OperandTypes) → typed v C t ≡ None → typed v C (joined t u) ≡ None
  unfolding typed
  first_untyped t u e = rw e refl

  -- memories
  pub memory_typed : (n : ℕ) (m : MemoryType) (x : Val UnpackedIndex) → option_map memory_of (Some m) ≡ slice_get C.memories n → x ≡ address m.memory64 → typed v C (memory_address n) ≡ Some (x ∷ [])
  unfolding typed
  memory_typed n m x e f = rw (← e, f) refl

  pub memory_untyped : (n : ℕ) → option_map memory_of None ≡ slice_get C.memories n → typed v C (memory_address n) ≡ None
  unfolding typed
  memory_untyped n e = rw (← e) refl

  pub lesser_memory_typed : (n k : ℕ) (m p : MemoryType) (x : Val UnpackedIndex) → option_map memory_of (Some m) ≡ slice_get C.memories n → option_map memory_of (Some p) ≡ slice_get C.memories k → x ≡ address (m.memory64 && p.memory64) → typed v C (lesser_memory_address n k) ≡ Some (x ∷ [])
  unfolding typed
  lesser_memory_typed n k m p x e f g = rw (← e, ← f, g) refl

  pub second_untyped : (t u : OperandTypes) → typed v C u ≡ None → typed v C (joined t u) ≡ None
  unfolding typed
  second_untyped t u e = elim (types_at (world C) (around v C) (state_of v) t) as (λ o. (o >>= λ vs. types_at (world C) (around v C) (state_of v) u >>= λ ws. Some (vs ++ ws)) ≡ None) [ None ↦ refl | Some vs ↦ rw e refl ]

  pub aligned_held : (op : MemoryOperator) (a : MemArg) (m : MemoryType) (b : Bool) → option_map memory_of (Some m) ≡ slice_get C.memories a.memory → (nat_le a.align (max_align_of op) && (m.memory64 || nat_lt a.offset (2 ^ 32))) ≡ b → held v C (is_aligned op a) ≡ b
  unfolding held
  aligned_held op a m b e f = rw (← e) f

  pub aligned_missing : (op : MemoryOperator) (a : MemArg) → option_map memory_of None ≡ slice_get C.memories a.memory → held v C (is_aligned op a) ≡ false
  unfolding held
  aligned_missing op a e = rw (← e) refl

  -- data segments
  pub data_held : (n : ℕ) (b : Bool) → passes (nat_lt n) C.data_count ≡ b → held v C (data_is_there n) ≡ b
  unfolding held
  data_held n b e = e

pub ruleset types = (nothing_typed, number_typed, two_numbers_typed, i32_typed, two_i32s_typed, joined_typed, first_untyped, second_untyped)

pub ruleset memories = (memory_typed, memory_untyped, lesser_memory_typed, aligned_held, aligned_missing, data_held)
