-- Instructions that are read and stepped at once.
use Rattle.std.proofs.Common.{◌≡◌, ◌≤◌, ◌<◌, ◌==◌, ℕ, ℤ, Bool, true, false, List, [], ◌∷◌, refl, sym, arith, ◌∙◌, ap, subst}
use Rattle.std.specs.Option.{option_map}
use Rattle.std.specs.Prelude.{Some, None, Option, Result, Ok, Err, nat_lt}
use Rattle.std.proofs.lemmas.Bool.Decides.{nat_tests}
use Rattle.wasm_typing_fast.specs.WasmSpec.Values.{u32_at, signed_at}
use Rattle.wasm_typing_fast.specs.WasmTypingControl.WasmTypingChecks.WasmSpecRules.Contexts.{Context}
use Rattle.wasm_typing_fast.specs.WasmOperatorsPlain.WasmReaders.WrittenIndices.{written}
use Rattle.wasm_typing_fast.specs.WasmReadersValues.declared.indices.UnpackedIndex.{UnpackedIndex}
use Rattle.wasm_typing_fast.specs.WasmOperatorsPlain.Calls.{call_from}
use Rattle.wasm_typing_fast.specs.WasmOperatorsPlain.Variables.{variable_from}
use Rattle.wasm_typing_fast.specs.WasmOperatorsPlain.Constants.{bits_32_at, bits_64_at, constant_from}
use Rattle.wasm_typing_fast.specs.WasmOperatorsPlain.Memories.{access_from, memarg_at}
use Rattle.wasm_typing_fast.specs.WasmOperatorsPlain.declared.calls.CallOperator.TheVariants.{Call, CallIndirect}
use Rattle.wasm_typing_fast.specs.WasmOperatorsPlain.declared.memories.MemoryOperator.{MemoryOperator}
use Rattle.wasm_typing_fast.specs.WasmOperatorsPlain.declared.memories.MemArg.{MemArg}
use Rattle.wasm_typing_fast.specs.WasmOperatorsPlain.declared.variables.VariableOperator.TheVariants.{LocalGet, LocalSet, LocalTee, GlobalGet, GlobalSet}
use Rattle.wasm_typing_fast.specs.WasmOperatorsPlain.declared.constants.ConstantOperator.TheVariants.{I32Const, I64Const, F32Const, F64Const}
use Rattle.wasm_typing_fast.specs.WasmOperatorsPlain.Numeric.{numeric_from}
use Rattle.wasm_typing_fast.specs.WasmOperatorsPlain.Signatures.{signature_of}
use Rattle.wasm_typing_fast.specs.WasmOperatorsPlain.declared.numeric.NumericOperator.{NumericOperator}
use Rattle.wasm_typing_fast.specs.WasmOperatorsPlain.declared.signatures.NumberType.{NumberType}
use Rattle.wasm_typing_fast.specs.WasmOperatorsPlain.declared.signatures.NumberType.TheVariants as number
use Rattle.wasm_typing_fast.specs.WasmOperatorsPlain.declared.signatures.Signature.{Signature}
use Rattle.wasm_typing_fast.specs.WasmOperators.Control.{Block, block_at, parametric_from, drop_, select, control_from, block, loop, if_, end_, br, br_if, return_, nop, unreachable}
use Rattle.wasm_typing_fast.specs.WasmOperators.Continuations.{continuation_from}
use Rattle.wasm_typing_fast.specs.WasmOperators.Instructions.{Instruction, instruction_at, plain_from, variable, constant, numeric, parametric, control, call, access}
use Rattle.wasm_typing_fast.specs.WasmOperators.Maps.{map_block, map_instruction}
use Rattle.wasm_typing_fast.specs.WasmTypingControl.WasmTypingChecks.WasmSpecSteps.Actions.{allows}
use Rattle.wasm_typing_fast.specs.WasmTypingControl.WasmTypingChecks.WasmSpecSteps.Machine.{State}
use Rattle.wasm_typing_fast.specs.WasmTypingControl.WasmTypingChecks.WasmSpecSteps.Shapes.{Shape, shape_of, call_shape, variable_shape, computing, dropping, choosing, access_shape, control_shape, plain, one, nothing, closing, number_type}
use Rattle.wasm_typing_fast.specs.WasmTypingControl.WasmTypingChecks.WasmSpecRules.Attempts.{◌>>=◌}
use Rattle.wasm_typing_fast.specs.WasmTypingControl.WasmTypingChecks.WasmSpecSteps.Steps.{is_open, step_in, actions_of}
use Rattle.wasm_typing_fast.specs.WasmTypingControl.WasmTypingChecks.WasmValidatorResources.Answers.{world, written_index}
use Rattle.wasm_typing_fast.specs.WasmTypingControl.WasmTypingChecks.WasmTypingStacks.BodyStacks.{state_of, around}
use Rattle.wasm_typing_fast.specs.WasmTypingControl.WasmTypingChecks.WasmTypingStacks.declared.stacks.Stacks.{Stacks}
use Rattle.wasm_typing_fast.specs.WasmTypingControl.WasmTypingChecks.Steps.{acted}
use Rattle.wasm_typing_fast.specs.Blocks.{block_giving, block_named}
use Rattle.wasm_typing_fast.specs.WasmTypingControl.FastSteps.{Fast}
use Rattle.wasm_typing_steps.specs.InstructionSteps.{Fused, FusedAs, performed, performed_from, step_at}
use Rattle.wasm_typing_fast.specs.SignedNumbers.{behind_signed}
use Rattle.wasm_typing_fast.specs.WasmTypingControl.declared.not_taken.NotTaken.{NotTaken}
use Rattle.wasm_typing_fast.specs.WasmTypingControl.declared.not_taken.NotTaken.TheVariants as not_taken
use Rattle.wasm_typing_steps.specs.declared.told.Told.{Told}
use Rattle.wasm_typing_steps.specs.declared.told.Told.TheVariants.{Quiet}
use Rattle.wasm_typing_steps.specs.ToldSteps.{is_taken, left_for, told_of, told_at, told_as, Tells, IsPlain}

below : (b m : ℕ) → b < m → nat_lt b m ≡ true
below b m h = grind (arith, nat_tests)

not_below : (b m : ℕ) → m ≤ b → nat_lt b m ≡ false
not_below b m h = grind (arith, nat_tests)

under : (b m : ℕ) → nat_lt b m ≡ false → m ≤ b
under b m e = grind (arith, nat_tests)

differ : (b m : ℕ) → m < b → (b == m) ≡ false
differ b m h = grind (arith, nat_tests)

-- no prefix is an opcode
no_plain : (b : ℕ) (bytes : List ℕ) → 0xfb ≤ b → plain_from written b bytes ≡ None
unfolding plain_from continuation_from
no_plain b bytes h =
    rw (
      not_below b 0x06 (omega arith),
      not_below b 0x08 (omega arith),
      not_below b 0x09 (omega arith),
      not_below b 0x0a (omega arith),
      not_below b 0x10 (omega arith),
      not_below b 0x18 (omega arith),
      not_below b 0x1a (omega arith),
      not_below b 0x1f (omega arith),
      not_below b 0x20 (omega arith),
      not_below b 0x25 (omega arith),
      not_below b 0x28 (omega arith),
      not_below b 0x3f (omega arith),
      not_below b 0x41 (omega arith),
      not_below b 0x45 (omega arith),
      not_below b 0xd0 (omega arith),
      not_below b 0xe0 (omega arith),
      differ b 0xe0 (omega arith),
      differ b 0xe1 (omega arith),
      differ b 0xe2 (omega arith),
      differ b 0xe3 (omega arith),
      differ b 0xe4 (omega arith),
      differ b 0xe5 (omega arith),
      differ b 0xe6 (omega arith),
    ) refl

is_plain : (b : ℕ) (bytes : List ℕ) (i : Instruction UnpackedIndex × List ℕ) (t : Bool) → nat_lt b 0xfb ≡ t → plain_from written b bytes ≡ Some i → nat_lt b 0xfb ≡ true
is_plain b bytes i true e f = e
is_plain b bytes i false e f = let n : plain_from written b bytes ≡ None = no_plain b bytes (under b 0xfb e) in absurd cc

pub fused_left : (e : NotTaken) (o : Option (State UnpackedIndex × List ℕ)) (old new : State UnpackedIndex) (bytes : List ℕ) → new ≡ old → Fused (Err e) o old new bytes
unfolding Fused
fused_left e o old new bytes h = h

never_taken : (y : NotTaken) → is_taken (left_for y) ≡ false
never_taken not_taken.Left = refl
never_taken not_taken.OutOfMemory = refl

-- where none is taken all stays
pub told_left : (q : Told) (o : Option (State UnpackedIndex × List ℕ)) (old new : State UnpackedIndex) (bytes : List ℕ) → is_taken q ≡ false → new ≡ old → FusedAs q o old new bytes
unfolding FusedAs
told_left q o old new bytes e h = (λ f. absurd cc, λ f. h)

-- a step, and what is told of it
pub fused_told : (q : Told) (r : Result (Unit {0}) NotTaken) (t : Told) (o : Option (State UnpackedIndex × List ℕ)) (old new : State UnpackedIndex) (bytes : List ℕ) → q ≡ told_as r t → is_taken t ≡ true → Fused r o old new bytes → FusedAs q o old new bytes
unfolding Fused told_as FusedAs
fused_told q (Ok x) t o old new bytes e d p = (λ f. p, λ f. absurd cc)
fused_told q (Err y) t o old new bytes e d p = told_left q o old new bytes (ap is_taken e ∙ never_taken y) p

between : (b : ℕ) → 0x20 ≤ b → b < 0xd0 → told_of b ≡ Some Quiet
between b l h =
    rw (
      not_below b 0x02 (omega arith),
      differ b 0x02 (omega arith),
      differ b 0x03 (omega arith),
      differ b 0x04 (omega arith),
      not_below b 0x0b (omega arith),
      differ b 0x0b (omega arith),
      differ b 0x0c (omega arith),
      differ b 0x0d (omega arith),
      differ b 0x0e (omega arith),
      not_below b 0x12 (omega arith),
      not_below b 0x1a (omega arith),
      not_below b 0x1c (omega arith),
      not_below b 0x20 l,
      below b 0xd0 h,
    ) refl

module _ (b : ℕ) (q : Told) where
  -- a step that is told so, if that is what the first byte says
  tells : (r : Result (Unit {0}) NotTaken) (t : Told) → q ≡ told_as r t → told_of b ≡ Some t → Tells q b
  unfolding Tells told_as
  tells (Ok x) t e f = λ h. f ∙ ap (λ (u : Told). Some u) (sym e)
  tells (Err y) t e f = λ h. let n : is_taken q ≡ false = ap is_taken e ∙ never_taken y in absurd cc

  not_told : is_taken q ≡ false → Tells q b
  unfolding Tells
  not_told e = λ h. absurd cc

  pub tells_of : (r : Result (Unit {0}) NotTaken) (t : Told) (k : ℕ) → b ≡ k → q ≡ told_as r t → told_of k ≡ Some t → Tells q b
  tells_of r t k f e g = tells r t e (ap told_of f ∙ g)

  pub tells_plain : (r : Result (Unit {0}) NotTaken) → q ≡ told_as r Quiet → IsPlain r b → Tells q b
  unfolding told_as IsPlain
  tells_plain (Ok x) e h = tells (Ok x) Quiet e (between b h.0 h.1)
  tells_plain (Err y) e h = not_told (ap is_taken e ∙ never_taken y)

-- which opcodes the tables take
module _ (b : ℕ) where
  pub plain_left : (e : NotTaken) → IsPlain (Err e) b
  unfolding IsPlain
  plain_left e = tt

  plain_at : (r : Result (Unit {0}) NotTaken) → 0x20 ≤ b → b < 0xd0 → IsPlain r b
  unfolding IsPlain
  plain_at (Ok x) l h = (l, h)
  plain_at (Err y) l h = tt

  pub plain_numeric : (r : Result (Unit {0}) NotTaken) → 0x45 ≤ b → b < 0xd0 → IsPlain r b
  plain_numeric r l h = plain_at r (omega arith) h

  pub plain_access : (r : Result (Unit {0}) NotTaken) → 0x28 ≤ b → b < 0x3f → IsPlain r b
  plain_access r l h = plain_at r (omega arith) (omega arith)

pub tells_left : (q : Told) (b : ℕ) → is_taken q ≡ false → Tells q b
unfolding Tells
tells_left q b e = λ h. absurd cc

-- a block type that is read, as it is written
again : (g : Option NumberType) → map_block written_index (block_named g) ≡ block_giving g
again None = refl
again (Some number.I32) = refl
again (Some number.I64) = refl
again (Some number.F32) = refl
again (Some number.F64) = refl

-- reading, by opcodes
read_numeric : (b : ℕ) (op : NumericOperator) (bytes : List ℕ) → 0x45 ≤ b → b < 0xd0 → numeric_from b ≡ Some op → plain_from written b bytes ≡ Some (numeric op, bytes)
unfolding plain_from
read_numeric b op bytes l h f = rw (not_below b 0x06 (omega arith), not_below b 0x08 (omega arith), not_below b 0x09 (omega arith), not_below b 0x0a (omega arith), not_below b 0x10 (omega arith), not_below b 0x18 (omega arith), not_below b 0x1a (omega arith), not_below b 0x1f (omega arith), not_below b 0x20 (omega arith), not_below b 0x25 (omega arith), not_below b 0x28 (omega arith), not_below b 0x3f (omega arith), not_below b 0x41 (omega arith), not_below b 0x45 l, below b 0xd0 h, f) refl

read_access : (b : ℕ) (op : MemoryOperator) (m : MemArg) (bytes rest : List ℕ) → 0x28 ≤ b → b < 0x3f → access_from b ≡ Some op → memarg_at bytes ≡ Some (m, rest) → plain_from written b bytes ≡ Some (access op m, rest)
unfolding plain_from
read_access b op m bytes rest l h f g = rw (not_below b 0x06 (omega arith), not_below b 0x08 (omega arith), not_below b 0x09 (omega arith), not_below b 0x0a (omega arith), not_below b 0x10 (omega arith), not_below b 0x18 (omega arith), not_below b 0x1a (omega arith), not_below b 0x1f (omega arith), not_below b 0x20 (omega arith), not_below b 0x25 (omega arith), not_below b 0x28 l, below b 0x3f h, f, g) refl

module _ {A : Type 0} (v : Stacks A) (C : Context UnpackedIndex) (r : Result (Unit {0}) NotTaken) (b : ℕ) (bytes rest : List ℕ) (old new : State UnpackedIndex) where
  abbrev Steps : Shape → Type 0
  Steps shape = Fast r (acted v C (actions_of shape)) old new

  abbrev Goes : Type 0
  Goes = Fused r (performed_from v C b bytes) old new rest

  -- an instruction that is read, and its step
  fuse : (q : Result (Unit {0}) NotTaken) (i : Instruction UnpackedIndex) → plain_from written b bytes ≡ Some (i, rest) → Fast q (acted v C (actions_of (shape_of (map_instruction written_index i)))) old new → Fused q (performed_from v C b bytes) old new rest
  unfolding Fast Fused performed_from
  fuse (Ok x) i e h = rw (e, h) refl
  fuse (Err y) i e h = h

  -- a number with these bytes behind
  number_before : (n : ℤ × List ℕ) → Some n.1 ≡ Some rest → Some n ≡ Some (n.0, rest)
  number_before n e = let f : n.1 ≡ rest = cc in rw (← f) refl

  read_get : (n : ℕ) → b ≡ 0x20 → u32_at bytes ≡ Some (n, rest) → plain_from written b bytes ≡ Some (variable (LocalGet n), rest)
  unfolding plain_from variable_from
  read_get n e f = rw (e, f) refl

  read_set : (n : ℕ) → b ≡ 0x21 → u32_at bytes ≡ Some (n, rest) → plain_from written b bytes ≡ Some (variable (LocalSet n), rest)
  unfolding plain_from variable_from
  read_set n e f = rw (e, f) refl

  read_tee : (n : ℕ) → b ≡ 0x22 → u32_at bytes ≡ Some (n, rest) → plain_from written b bytes ≡ Some (variable (LocalTee n), rest)
  unfolding plain_from variable_from
  read_tee n e f = rw (e, f) refl

  read_global : (n : ℕ) → b ≡ 0x23 → u32_at bytes ≡ Some (n, rest) → plain_from written b bytes ≡ Some (variable (GlobalGet n), rest)
  unfolding plain_from variable_from
  read_global n e f = rw (e, f) refl

  read_put : (n : ℕ) → b ≡ 0x24 → u32_at bytes ≡ Some (n, rest) → plain_from written b bytes ≡ Some (variable (GlobalSet n), rest)
  unfolding plain_from variable_from
  read_put n e f = rw (e, f) refl

  read_i32 : (n : ℤ) → b ≡ 0x41 → signed_at 32 bytes ≡ Some (n, rest) → plain_from written b bytes ≡ Some (constant (I32Const n), rest)
  unfolding plain_from constant_from
  read_i32 n e f = rw (e, f) refl

  read_i64 : (n : ℤ) → b ≡ 0x42 → signed_at 64 bytes ≡ Some (n, rest) → plain_from written b bytes ≡ Some (constant (I64Const n), rest)
  unfolding plain_from constant_from
  read_i64 n e f = rw (e, f) refl

  read_f32 : (n : ℕ) → b ≡ 0x43 → bits_32_at bytes ≡ Some (n, rest) → plain_from written b bytes ≡ Some (constant (F32Const (record { 0 = n })), rest)
  unfolding plain_from constant_from
  read_f32 n e f = rw (e, f) refl

  read_f64 : (n : ℕ) → b ≡ 0x44 → bits_64_at bytes ≡ Some (n, rest) → plain_from written b bytes ≡ Some (constant (F64Const (record { 0 = n })), rest)
  unfolding plain_from constant_from
  read_f64 n e f = rw (e, f) refl

  pub at_get : (n : ℕ) → b ≡ 0x20 → u32_at bytes ≡ Some (n, rest) → Steps (variable_shape (LocalGet n)) → Goes
  at_get n e f h = fuse r (variable (LocalGet n)) (read_get n e f) h

  pub at_set : (n : ℕ) → b ≡ 0x21 → u32_at bytes ≡ Some (n, rest) → Steps (variable_shape (LocalSet n)) → Goes
  at_set n e f h = fuse r (variable (LocalSet n)) (read_set n e f) h

  pub at_tee : (n : ℕ) → b ≡ 0x22 → u32_at bytes ≡ Some (n, rest) → Steps (variable_shape (LocalTee n)) → Goes
  at_tee n e f h = fuse r (variable (LocalTee n)) (read_tee n e f) h

  pub at_global : (n : ℕ) → b ≡ 0x23 → u32_at bytes ≡ Some (n, rest) → Steps (variable_shape (GlobalGet n)) → Goes
  at_global n e f h = fuse r (variable (GlobalGet n)) (read_global n e f) h

  pub at_put : (n : ℕ) → b ≡ 0x24 → u32_at bytes ≡ Some (n, rest) → Steps (variable_shape (GlobalSet n)) → Goes
  at_put n e f h = fuse r (variable (GlobalSet n)) (read_put n e f) h

  -- a constant, of which only the type counts
  some_i32 : (o : Option (ℤ × List ℕ)) → b ≡ 0x41 → signed_at 32 bytes ≡ o → option_map (λ n. n.1) o ≡ Some rest → Steps (plain (allows (number_type number.I32) ∷ []) nothing (one (number_type number.I32))) → Goes
  some_i32 None e f g h = cc
  some_i32 (Some n) e f g h = fuse r (constant (I32Const n.0)) (read_i32 n.0 e (f ∙ number_before n g)) h

  some_i64 : (o : Option (ℤ × List ℕ)) → b ≡ 0x42 → signed_at 64 bytes ≡ o → option_map (λ n. n.1) o ≡ Some rest → Steps (plain (allows (number_type number.I64) ∷ []) nothing (one (number_type number.I64))) → Goes
  some_i64 None e f g h = cc
  some_i64 (Some n) e f g h = fuse r (constant (I64Const n.0)) (read_i64 n.0 e (f ∙ number_before n g)) h

  pub at_i32 : b ≡ 0x41 → behind_signed 32 bytes ≡ Some rest → Steps (plain (allows (number_type number.I32) ∷ []) nothing (one (number_type number.I32))) → Goes
  unfolding behind_signed
  at_i32 e f h = some_i32 (signed_at 32 bytes) e refl f h

  pub at_i64 : b ≡ 0x42 → behind_signed 64 bytes ≡ Some rest → Steps (plain (allows (number_type number.I64) ∷ []) nothing (one (number_type number.I64))) → Goes
  unfolding behind_signed
  at_i64 e f h = some_i64 (signed_at 64 bytes) e refl f h

  pub at_f32 : (n : ℕ) → b ≡ 0x43 → bits_32_at bytes ≡ Some (n, rest) → Steps (plain (allows (number_type number.F32) ∷ []) nothing (one (number_type number.F32))) → Goes
  at_f32 n e f h = fuse r (constant (F32Const (record { 0 = n }))) (read_f32 n e f) h

  pub at_f64 : (n : ℕ) → b ≡ 0x44 → bits_64_at bytes ≡ Some (n, rest) → Steps (plain (allows (number_type number.F64) ∷ []) nothing (one (number_type number.F64))) → Goes
  at_f64 n e f h = fuse r (constant (F64Const (record { 0 = n }))) (read_f64 n e f) h

  read_block : (x : Block UnpackedIndex) → b ≡ 0x02 → block_at written bytes ≡ Some (x, rest) → plain_from written b bytes ≡ Some (control (block x), rest)
  unfolding plain_from control_from
  read_block x e f = rw (e, f) refl

  read_loop : (x : Block UnpackedIndex) → b ≡ 0x03 → block_at written bytes ≡ Some (x, rest) → plain_from written b bytes ≡ Some (control (loop x), rest)
  unfolding plain_from control_from
  read_loop x e f = rw (e, f) refl

  read_if : (x : Block UnpackedIndex) → b ≡ 0x04 → block_at written bytes ≡ Some (x, rest) → plain_from written b bytes ≡ Some (control (if_ x), rest)
  unfolding plain_from control_from
  read_if x e f = rw (e, f) refl

  pub at_block : (g : Option NumberType) → b ≡ 0x02 → block_at written bytes ≡ Some (block_named g, rest) → Steps (control_shape (block (block_giving g))) → Goes
  at_block g e f h = fuse r (control (block (block_named g))) (read_block (block_named g) e f) (subst (λ x. Steps (control_shape (block x))) (sym (again g)) h)

  pub at_loop : (g : Option NumberType) → b ≡ 0x03 → block_at written bytes ≡ Some (block_named g, rest) → Steps (control_shape (loop (block_giving g))) → Goes
  at_loop g e f h = fuse r (control (loop (block_named g))) (read_loop (block_named g) e f) (subst (λ x. Steps (control_shape (loop x))) (sym (again g)) h)

  pub at_if : (g : Option NumberType) → b ≡ 0x04 → block_at written bytes ≡ Some (block_named g, rest) → Steps (control_shape (if_ (block_giving g))) → Goes
  at_if g e f h = fuse r (control (if_ (block_named g))) (read_if (block_named g) e f) (subst (λ x. Steps (control_shape (if_ x))) (sym (again g)) h)

  read_br : (n : ℕ) → b ≡ 0x0c → u32_at bytes ≡ Some (n, rest) → plain_from written b bytes ≡ Some (control (br n), rest)
  unfolding plain_from control_from
  read_br n e f = rw (e, f) refl

  read_br_if : (n : ℕ) → b ≡ 0x0d → u32_at bytes ≡ Some (n, rest) → plain_from written b bytes ≡ Some (control (br_if n), rest)
  unfolding plain_from control_from
  read_br_if n e f = rw (e, f) refl

  pub at_br : (n : ℕ) → b ≡ 0x0c → u32_at bytes ≡ Some (n, rest) → Steps (control_shape (br n)) → Goes
  at_br n e f h = fuse r (control (br n)) (read_br n e f) h

  pub at_br_if : (n : ℕ) → b ≡ 0x0d → u32_at bytes ≡ Some (n, rest) → Steps (control_shape (br_if n)) → Goes
  at_br_if n e f h = fuse r (control (br_if n)) (read_br_if n e f) h

  read_call : (n : ℕ) → b ≡ 0x10 → u32_at bytes ≡ Some (n, rest) → plain_from written b bytes ≡ Some (call (Call n), rest)
  unfolding plain_from call_from
  read_call n e f = rw (e, f) refl

  pub at_call : (n : ℕ) → b ≡ 0x10 → u32_at bytes ≡ Some (n, rest) → Steps (call_shape (Call n)) → Goes
  at_call n e f h = fuse r (call (Call n)) (read_call n e f) h

  read_call_indirect : (n m : ℕ) (behind : List ℕ) → b ≡ 0x11 → u32_at bytes ≡ Some (n, behind) → u32_at behind ≡ Some (m, rest) → plain_from written b bytes ≡ Some (call (CallIndirect n m), rest)
  unfolding plain_from call_from
  read_call_indirect n m behind e f g = rw (e, f, g) refl

  pub at_call_indirect : (n m : ℕ) (behind : List ℕ) → b ≡ 0x11 → u32_at bytes ≡ Some (n, behind) → u32_at behind ≡ Some (m, rest) → Steps (call_shape (CallIndirect n m)) → Goes
  at_call_indirect n m behind e f g h = fuse r (call (CallIndirect n m)) (read_call_indirect n m behind e f g) h

  pub at_access : (op : MemoryOperator) (m : MemArg) → 0x28 ≤ b → b < 0x3f → Some op ≡ access_from b → memarg_at bytes ≡ Some (m, rest) → Steps (access_shape op m) → Goes
  at_access op m l h f g k = fuse r (access op m) (read_access b op m bytes rest l h (sym f) g) k

module _ {A : Type 0} (v : Stacks A) (C : Context UnpackedIndex) (r : Result (Unit {0}) NotTaken) (b : ℕ) (bytes : List ℕ) (old new : State UnpackedIndex) where
  read_end : b ≡ 0x0b → plain_from written b bytes ≡ Some (control end_, bytes)
  unfolding plain_from control_from
  read_end e = rw e refl

  read_drop : b ≡ 0x1a → plain_from written b bytes ≡ Some (parametric drop_, bytes)
  unfolding plain_from parametric_from
  read_drop e = rw e refl

  read_select : b ≡ 0x1b → plain_from written b bytes ≡ Some (parametric select, bytes)
  unfolding plain_from parametric_from
  read_select e = rw e refl

  read_return : b ≡ 0x0f → plain_from written b bytes ≡ Some (control return_, bytes)
  unfolding plain_from control_from
  read_return e = rw e refl

  read_unreachable : b ≡ 0x00 → plain_from written b bytes ≡ Some (control unreachable, bytes)
  unfolding plain_from control_from
  read_unreachable e = rw e refl

  read_nop : b ≡ 0x01 → plain_from written b bytes ≡ Some (control nop, bytes)
  unfolding plain_from control_from
  read_nop e = rw e refl

  pub at_unreachable : b ≡ 0x00 → Fast r (acted v C (actions_of (control_shape unreachable))) old new → Fused r (performed_from v C b bytes) old new bytes
  at_unreachable e h = fuse v C r b bytes bytes old new r (control unreachable) (read_unreachable e) h

  pub at_nop : b ≡ 0x01 → Fast r (acted v C (actions_of (control_shape nop))) old new → Fused r (performed_from v C b bytes) old new bytes
  at_nop e h = fuse v C r b bytes bytes old new r (control nop) (read_nop e) h

  pub at_return : b ≡ 0x0f → Fast r (acted v C (actions_of (control_shape return_))) old new → Fused r (performed_from v C b bytes) old new bytes
  at_return e h = fuse v C r b bytes bytes old new r (control return_) (read_return e) h

  pub at_end : b ≡ 0x0b → Fast r (acted v C (actions_of closing)) old new → Fused r (performed_from v C b bytes) old new bytes
  at_end e h = fuse v C r b bytes bytes old new r (control end_) (read_end e) h

  pub at_drop : b ≡ 0x1a → Fast r (acted v C (actions_of dropping)) old new → Fused r (performed_from v C b bytes) old new bytes
  at_drop e h = fuse v C r b bytes bytes old new r (parametric drop_) (read_drop e) h

  pub at_select : b ≡ 0x1b → Fast r (acted v C (actions_of choosing)) old new → Fused r (performed_from v C b bytes) old new bytes
  at_select e h = fuse v C r b bytes bytes old new r (parametric select) (read_select e) h

  pub at_numeric : (op : NumericOperator) (g : Signature) → 0x45 ≤ b → b < 0xd0 → Some op ≡ numeric_from b → g ≡ signature_of op → Fast r (acted v C (actions_of (computing g))) old new → Fused r (performed_from v C b bytes) old new bytes
  at_numeric op g l h f s k = fuse v C r b bytes bytes old new r (numeric op) (read_numeric b op bytes l h (sym f)) (subst (λ (x : Signature). Fast r (acted v C (actions_of (computing x))) old new) s k)

pub ruleset variables = (told_left, fused_told, tells_left, tells_of, at_get, at_set, at_tee, at_global, at_put)

pub ruleset structures = (told_left, fused_told, tells_left, tells_of, tells_plain, at_block, at_loop, at_if, at_end, at_br, at_br_if, at_return, at_unreachable, at_nop, at_call, at_call_indirect, at_drop, at_select, at_i32, at_i64, at_f32, at_f64)

pub ruleset tables = (fused_left, plain_left, plain_numeric, plain_access, at_numeric, at_access)

-- in a frame that is open
module _ {A : Type 0} (v : Stacks A) (C : Context UnpackedIndex) (b : ℕ) (bytes behind rest : List ℕ) (old new : State UnpackedIndex) where
  opened : v.is_open ≡ true → is_open (state_of v) ≡ true
  opened e = rw e refl

  stepped : (op : Instruction ℕ) → v.is_open ≡ true → step_in (world C) (around v C) op (state_of v) ≡ acted v C (actions_of (shape_of op))
  unfolding acted
  stepped op e = rw (opened e) refl

  performs_one : (o : Option (Instruction UnpackedIndex × List ℕ)) → v.is_open ≡ true → bytes ≡ b ∷ behind → plain_from written b behind ≡ o → performed v C o ≡ Some (new, rest) → step_at (world C) (around v C) (state_of v) bytes ≡ Some (new, rest)
  unfolding step_at instruction_at
  performs_one None e f g p = cc
  performs_one (Some i) e f g p = rw (f, is_plain b behind i (nat_lt b 0xfb) refl g, g) (ap (λ o. o >>= λ t. Some (t, i.1)) (stepped (map_instruction written_index i.0) e) ∙ p)

  pub step_taken : (x : Told) → v.is_open ≡ true → bytes ≡ b ∷ behind → is_taken x ≡ true → FusedAs x (performed_from v C b behind) old new rest → step_at (world C) (around v C) (state_of v) bytes ≡ Some (new, rest)
  unfolding FusedAs performed_from
  step_taken x e f h p = performs_one (plain_from written b behind) e f refl (p.0 h)

-- the first byte of the bytes that are read
pub is_told : (t : Told) (b : ℕ) (bytes behind : List ℕ) → bytes ≡ b ∷ behind → is_taken t ≡ true → Tells t b → told_at bytes ≡ Some t
unfolding Tells told_at
is_told t b bytes behind e h p = rw e (p h)

pub step_left : (t : Told) (o : Option (State UnpackedIndex × List ℕ)) (old new : State UnpackedIndex) (rest : List ℕ) → is_taken t ≡ false → FusedAs t o old new rest → new ≡ old
unfolding FusedAs
step_left t o old new rest e p = p.1 e

pub ruleset steps = (step_taken, is_told, step_left)
