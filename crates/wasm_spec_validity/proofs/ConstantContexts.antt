-- What a constant expression sees of its context.
use Rattle.std.proofs.Common.{◌≡◌, refl, ap, ◌∙◌, ℕ, Bool, true, false, ◌&&◌, List, [], ◌∷◌, Option, Some, None}
use Rattle.std.specs.List.{All}
use Rattle.std.proofs.lemmas.List.Elements.{All-head, All-tail}
use Rattle.wasm_spec.specs.Features.{Features}
use Rattle.wasm_spec.specs.MatchingTests.{World}
use Rattle.wasm_operators.specs.WasmOperatorsPlain.Signatures.{signature_of}
use Rattle.wasm_operators.specs.WasmOperatorsPlain.declared.signatures.Signature as numbers
use Rattle.wasm_operators.specs.WasmOperatorsPlain.declared.signatures.Signature.TheVariants.{Unary, Binary}
use Rattle.wasm_operators.specs.Control as control
use Rattle.wasm_operators.specs.Control.{Block, empty_block, value_block, func_block}
use Rattle.wasm_operators.specs.References as references
use Rattle.wasm_operators.specs.Instructions as instruction
use Rattle.wasm_operators.specs.Instructions.{Instruction}
use Rattle.wasm_operators.specs.WasmOperatorsPlain.declared.variables.VariableOperator.TheVariants.{GlobalGet}
use Rattle.wasm_operators.specs.WasmOperatorsPlain.declared.conversions.ConversionOperator.TheVariants.{AnyConvertExtern, ExternConvertAny, RefI31, RefI31Shared}
use Rattle.wasm_operators.specs.WasmOperatorsPlain.declared.structs.StructOperator.TheVariants.{StructNew, StructNewDefault, StructNewDesc, StructNewDefaultDesc}
use Rattle.wasm_operators.specs.WasmOperatorsPlain.declared.arrays.ArrayOperator.TheVariants.{ArrayNew, ArrayNewDefault, ArrayNewFixed}
use Rattle.wasm_spec_steps.specs.WasmSpecRules.Attempts.{◌>>=◌, guard}
use Rattle.wasm_spec_steps.specs.WasmSpecRules.Contexts.{Context}
use Rattle.wasm_spec_steps.specs.WasmSpecRules.Signatures.{Signature}
use Rattle.wasm_spec_steps.specs.Bodies.{Surroundings}
use Rattle.wasm_spec_steps.specs.ConstantExpressions.{is_constant}
use Rattle.wasm_spec_steps.specs.ConstantRules.{is_allowed, IsConstantExpression}
use Rattle.wasm_spec_steps.specs.Machine.{Kind, block_kind, loop_kind, if_kind, else_kind, try_table_kind, legacy_try_kind, legacy_catch_kind, legacy_catch_all_kind, Frame, State, push_vals}
use Rattle.wasm_spec_steps.specs.Meanings.{block_signature, pop_frame, may_end, leave_in, run}
use Rattle.wasm_spec_steps.specs.Shapes.{computing, shape_of}
use Rattle.wasm_spec_steps.specs.Steps.{actions_of, is_open, step_in, steps_in}
use Rattle.wasm_spec_validity.specs.OtherContexts.{elsewhere, ConstantsSeeLittle}

not_both : false ≡ true → ⊥
not_both e = cc

both_left : (a b : Bool) → (a && b) ≡ true → a ≡ true
both_left true b h = refl
both_left false b h = h

both_right : (a b : Bool) → (a && b) ≡ true → b ≡ true
both_right true b h = h
both_right false b h = absurd (not_both h)

-- the second attempt may be another that gives the same
then_same : {A B : Type 0} (o : Option A) (g h : A → Option B) → ((a : A) → g a ≡ h a) → (o >>= g) ≡ (o >>= h)
then_same None g h e = refl
then_same (Some a) g h e = e a

module _ {R : Type 0} (W : World R) (B : Surroundings R) (D : Context R) where
  signature_same : (b : Block R) → block_signature W (elsewhere B D) b ≡ block_signature W B b
  signature_same empty_block = refl
  signature_same (value_block v) = refl
  signature_same (func_block n) = refl

  ending_same : (k : Kind) (g : Signature R) → may_end W (elsewhere B D) k g ≡ may_end W B k g
  ending_same block_kind g = refl
  ending_same loop_kind g = refl
  ending_same if_kind g = refl
  ending_same else_kind g = refl
  ending_same try_table_kind g = refl
  ending_same legacy_try_kind g = refl
  ending_same legacy_catch_kind g = refl
  ending_same legacy_catch_all_kind g = refl

  -- what is left behind a frame of this signature
  abbrev left : Surroundings R → Frame R → List (Frame R) → State R → Signature R → Option (State R)
  left E x xs s g = pop_frame W E x xs g s >>= λ t. guard (may_end W E x.kind g) (push_vals g.gives t)

  leaving : (xs : List (Frame R)) (s : State R) → leave_in W (elsewhere B D) xs s ≡ leave_in W B xs s
  leaving [] s = refl
  leaving (x ∷ xs) s =
      ap (λ (o : Option (Signature R)). o >>= left (elsewhere B D) x xs s) (signature_same x.block)
      ∙ then_same (block_signature W B x.block) (left (elsewhere B D) x xs s) (left B x xs s)
      (λ g. ap (λ b. pop_frame W B x xs g s >>= λ t. guard b (push_vals g.gives t)) (ending_same x.kind g))

  computing_same : (g : numbers.Signature) (s : State R) → run W (elsewhere B D) (actions_of (computing g)) s ≡ run W B (actions_of (computing g)) s
  computing_same (Unary a b) s = refl
  computing_same (Binary a b) s = refl

  abbrev Same : Instruction ℕ → Type 0
  Same op = (s : State R) → run W (elsewhere B D) (actions_of (shape_of op)) s ≡ run W B (actions_of (shape_of op)) s

  run_same : (F : Features) (op : Instruction ℕ) → is_constant F op ≡ true → Same op
  run_same F (instruction.control control.end_) h s = ap (λ (o : Option (State R)). o >>= run W B []) (leaving s.frames s)
  run_same F (instruction.control _) h s = absurd (not_both h)
  run_same F (instruction.constant c) h s = refl
  run_same F (instruction.reference (references.ref_null t)) h s = refl
  run_same F (instruction.reference (references.ref_func x)) h s = refl
  run_same F (instruction.reference _) h s = absurd (not_both h)
  run_same F (instruction.variable (GlobalGet x)) h s = refl
  run_same F (instruction.variable _) h s = absurd (not_both h)
  run_same F (instruction.numeric op) h s = computing_same (signature_of op) s
  run_same F (instruction.structure (StructNew x)) h s = refl
  run_same F (instruction.structure (StructNewDefault x)) h s = refl
  run_same F (instruction.structure (StructNewDesc x)) h s = refl
  run_same F (instruction.structure (StructNewDefaultDesc x)) h s = refl
  run_same F (instruction.structure _) h s = absurd (not_both (both_right F.gc false h))
  run_same F (instruction.array (ArrayNew x)) h s = refl
  run_same F (instruction.array (ArrayNewDefault x)) h s = refl
  run_same F (instruction.array (ArrayNewFixed x n)) h s = refl
  run_same F (instruction.array _) h s = absurd (not_both (both_right F.gc false h))
  run_same F (instruction.conversion AnyConvertExtern) h s = refl
  run_same F (instruction.conversion ExternConvertAny) h s = refl
  run_same F (instruction.conversion RefI31) h s = refl
  run_same F (instruction.conversion RefI31Shared) h s = refl
  run_same F (instruction.conversion _) h s = absurd (not_both h)
  run_same F (instruction.legacy op) h s = absurd (not_both h)
  run_same F (instruction.call op) h s = absurd (not_both h)
  run_same F (instruction.parametric op) h s = absurd (not_both h)
  run_same F (instruction.table op) h s = absurd (not_both h)
  run_same F (instruction.access op m) h s = absurd (not_both h)
  run_same F (instruction.memory op) h s = absurd (not_both h)
  run_same F (instruction.saturating op) h s = absurd (not_both h)
  run_same F (instruction.cast op) h s = absurd (not_both h)
  run_same F (instruction.vector op values) h s = absurd (not_both h)
  run_same F (instruction.atomic op values) h s = absurd (not_both h)
  run_same F (instruction.wide op) h s = absurd (not_both h)
  run_same F (instruction.shared op values) h s = absurd (not_both h)
  run_same F (instruction.continuation op) h s = absurd (not_both h)

  step_same : (F : Features) (op : Instruction ℕ) (s : State R) → is_constant F op ≡ true → step_in W (elsewhere B D) op s ≡ step_in W B op s
  step_same F op s h = then_same (guard (is_open s) s) _ _ (run_same F op h)

module _ {R : Type 0} (W : World R) (B : Surroundings R) (D : Context R) (imported : ℕ) where
  allowed_constant : (op : Instruction ℕ) → is_allowed B imported op ≡ true → is_constant B.features op ≡ true
  allowed_constant op h = both_left (is_constant B.features op) _ h

  pub steps_same : (ops : List (Instruction ℕ)) (s : State R) → All (λ op. is_allowed B imported op ≡ true) ops → steps_in W (elsewhere B D) ops s ≡ steps_in W B ops s
  steps_same [] s h = refl
  steps_same (op ∷ ops) s h =
      let first : step_in W (elsewhere B D) op s ≡ step_in W B op s =
      step_same W B D B.features op s (allowed_constant op (All-head (λ i. is_allowed B imported i ≡ true) op ops h)) in
      ap (λ (o : Option (State R)). o >>= steps_in W (elsewhere B D) ops) first
      ∙ then_same (step_in W B op s) _ _ (λ t. steps_same ops t (All-tail (λ i. is_allowed B imported i ≡ true) op ops h))

  expression_same : (s : State R) (bytes : List ℕ) (t : State R) (more : List ℕ) → IsConstantExpression W B imported s bytes t more → IsConstantExpression W (elsewhere B D) imported s bytes t more
  expression_same s bytes t more e = record {
    instructions = e.instructions;
    written = e.written;
    allowed = e.allowed;
    typed = steps_same e.instructions s e.allowed ∙ e.typed;
    finished = e.finished;
  }

pub constants_see_little : {R : Type 0} → ConstantsSeeLittle R
constants_see_little W B D = record { step = step_same W B D; expression = expression_same W B D }
