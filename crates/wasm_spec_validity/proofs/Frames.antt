-- What the instructions of constant expressions do to frames: `end` leaves one, and the others leave them as they are.
use Rattle.std.proofs.Common.{◌≡◌, refl, sym, ap, ◌∙◌, subst, ℕ, Bool, true, false, ◌&&◌, List, [], ◌∷◌, Option, Some, None}
use Rattle.std.proofs.lemmas.Option.{same_Some, none-some}
use Rattle.wasm_spec.specs.Syntax.{AbstractHeap, Val}
use Rattle.wasm_spec.specs.MatchingTests.{World}
use Rattle.wasm_spec.specs.Features.{Features}
use Rattle.wasm_operators.specs.WasmOperatorsPlain.Signatures.{signature_of}
use Rattle.wasm_operators.specs.WasmOperatorsPlain.declared.signatures.Signature.{Signature}
use Rattle.wasm_operators.specs.WasmOperatorsPlain.declared.signatures.Signature.TheVariants.{Unary, Binary}
use Rattle.wasm_operators.specs.WasmOperatorsPlain.declared.variables.VariableOperator.TheVariants.{LocalGet, LocalSet, LocalTee, GlobalGet, GlobalSet}
use Rattle.wasm_operators.specs.WasmOperatorsPlain.declared.conversions.ConversionOperator.TheVariants.{AnyConvertExtern, ExternConvertAny, RefI31, I31GetS, I31GetU, RefI31Shared}
use Rattle.wasm_operators.specs.WasmOperatorsPlain.declared.structs.StructOperator.{StructOperator}
use Rattle.wasm_operators.specs.WasmOperatorsPlain.declared.structs.StructOperator.TheVariants.{StructNew, StructNewDefault, StructGet, StructGetS, StructGetU, StructSet, StructNewDesc, StructNewDefaultDesc}
use Rattle.wasm_operators.specs.WasmOperatorsPlain.declared.arrays.ArrayOperator.{ArrayOperator}
use Rattle.wasm_operators.specs.WasmOperatorsPlain.declared.arrays.ArrayOperator.TheVariants.{ArrayNew, ArrayNewDefault, ArrayNewFixed, ArrayNewData, ArrayNewElem, ArrayGet, ArrayGetS, ArrayGetU, ArraySet, ArrayLen, ArrayFill, ArrayCopy, ArrayInitData, ArrayInitElem}
use Rattle.wasm_operators.specs.Control.{Control, unreachable, nop, else_, end_, throw_ref, return_, block, loop, if_, try_table, throw, br, br_if, br_table}
use Rattle.wasm_operators.specs.References as references
use Rattle.wasm_operators.specs.Instructions as instruction
use Rattle.wasm_operators.specs.Instructions.{Instruction, control}
use Rattle.wasm_spec_steps.specs.WasmSpecRules.Attempts.{◌>>=◌, guard}
use Rattle.wasm_spec_steps.specs.Bodies.{Surroundings}
use Rattle.wasm_spec_steps.specs.Machine.{Operand, Frame, State, push_operand, push_vals, pop_any, as_reference, pop_reference, pop_vals}
use Rattle.wasm_spec_steps.specs.Actions.{OperandTypes, Check, Action, take, give, convert}
use Rattle.wasm_spec_steps.specs.Shapes.{Shape, plain, converting, computing, shape_of}
use Rattle.wasm_spec_steps.specs.Meanings.{frame_signature, types_at, holds, is_below_either, converted, pop_frame, may_end, leave_in, act, run}
use Rattle.wasm_spec_steps.specs.Steps.{checked, actions_of, is_open, step_in}
use Rattle.wasm_spec_steps.specs.ConstantExpressions.{is_constant}
use Rattle.wasm_spec_steps.proofs.OperandSequences.{pop_any-frames, pop_vals-frames}
use Rattle.wasm_spec_validity.specs.Expressions.{is_end}

no : false ≡ true → ⊥
no e = cc

not_end : true ≡ false → ⊥
not_end e = cc

-- an attempt that gives something, taken apart
pub bind-gives : {A B : Type 0} (o : Option A) (g : A → Option B) (b : B) → (o >>= g) ≡ Some b → (a : A) × (o ≡ Some a) × (g a ≡ Some b)
bind-gives None g b e = absurd (none-some b e)
bind-gives (Some a) g b e = (a, refl, e)

pub guard-gives : {A : Type 0} (c : Bool) (x y : A) → guard c x ≡ Some y → (c ≡ true) × (x ≡ y)
guard-gives true x y e = (refl, same_Some x y e)
guard-gives false x y e = absurd (none-some y e)

-- shapes that leave the frames as they are
abbrev keeps : Shape → Bool
keeps (plain cs t u) = true
keeps (converting cs j k) = true
keeps _ = false

module _ {R : Type 0} (W : World R) (B : Surroundings R) where
  checked-runs : (cs : List Check) (as_ : List Action) (s t : State R) → run W B (checked cs as_) s ≡ Some t → run W B as_ s ≡ Some t
  checked-runs [] as_ s t e = e
  checked-runs (c ∷ cs) as_ s t e =
      let f = bind-gives (guard (holds W B s c) s) (run W B (checked cs as_)) t e in
      let g = guard-gives (holds W B s c) s f.0 f.1 in
      checked-runs cs as_ s t (subst (λ (w : State R). run W B (checked cs as_) w ≡ Some t) (sym g.1) f.2)

  -- the types of what is given
  pub plain-types : (cs : List Check) (t u : OperandTypes) (s r : State R) → run W B (actions_of (plain cs t u)) s ≡ Some r → (m : State R) × (ws : List (Val R)) × (types_at W B m u ≡ Some ws)
  plain-types cs t u s r e =
      let a = bind-gives (act W B (take t) s) (run W B (give u ∷ [])) r (checked-runs cs (take t ∷ give u ∷ []) s r e) in
      let c = bind-gives (act W B (give u) a.0) (run W B []) r a.2 in
      let d = bind-gives (types_at W B a.0 u) _ c.0 c.1 in
      (a.0, d.0, d.1)

  plain-keeps : (cs : List Check) (t u : OperandTypes) (s r : State R) → run W B (actions_of (plain cs t u)) s ≡ Some r → r.frames ≡ s.frames
  plain-keeps cs t u s r e =
      let a = bind-gives (act W B (take t) s) (run W B (give u ∷ [])) r (checked-runs cs (take t ∷ give u ∷ []) s r e) in
      let b = bind-gives (types_at W B s t) _ a.0 a.1 in
      let c = bind-gives (act W B (give u) a.0) (run W B []) r a.2 in
      let d = bind-gives (types_at W B a.0 u) _ c.0 c.1 in
      let after : push_vals d.0 a.0 ≡ r = same_Some (push_vals d.0 a.0) c.0 d.2 ∙ same_Some c.0 r c.2 in
      sym (ap (λ (q : State R). q.frames) after) ∙ (pop_vals-frames W b.0 s a.0 b.2).0

  converting-keeps : (cs : List Check) (j k : AbstractHeap) (s r : State R) → run W B (actions_of (converting cs j k)) s ≡ Some r → r.frames ≡ s.frames
  converting-keeps cs j k s r e =
      let a = bind-gives (act W B (convert j k) s) (run W B []) r (checked-runs cs (convert j k ∷ []) s r e) in
      let b = bind-gives (pop_reference s) _ a.0 a.1 in
      let c = guard-gives (is_below_either W B j b.0.0) (push_operand (converted W B k b.0.0) b.0.1) a.0 b.2 in
      let f = bind-gives (pop_any s) _ b.0 b.1 in
      let g = bind-gives (as_reference f.0.0) _ b.0 f.2 in
      let popped : (g.0, f.0.1) ≡ b.0 = same_Some (g.0, f.0.1) b.0 g.2 in
      sym (ap (λ (q : State R). q.frames) (c.1 ∙ same_Some a.0 r a.2)) ∙ sym (ap (λ (q : Operand R × State R). q.1.frames) popped) ∙ (pop_any-frames s f.0 f.1).0

  run-keeps : (x : Shape) → keeps x ≡ true → (s r : State R) → run W B (actions_of x) s ≡ Some r → r.frames ≡ s.frames
  run-keeps (plain cs t u) k s r e = plain-keeps cs t u s r e
  run-keeps (converting cs i j) k s r e = converting-keeps cs i j s r e
  run-keeps _ k s r e = absurd (no k)

  -- a step is a run of its actions, where a frame is left
  pub step-runs : (op : Instruction ℕ) (s t : State R) → step_in W B op s ≡ Some t → run W B (actions_of (shape_of op)) s ≡ Some t
  step-runs op s t e =
      let f = bind-gives (guard (is_open s) s) (run W B (actions_of (shape_of op))) t e in
      let g = guard-gives (is_open s) s f.0 f.1 in
      subst (λ (w : State R). run W B (actions_of (shape_of op)) w ≡ Some t) (sym g.1) f.2

computing-keeps : (g : Signature) → keeps (computing g) ≡ true
computing-keeps (Unary a b) = refl
computing-keeps (Binary a b) = refl

both : (a b : Bool) → (a && b) ≡ true → b ≡ true
both true b e = e
both false b e = absurd (no e)

structure-keeps : (op : StructOperator) → keeps (shape_of (instruction.structure op)) ≡ true
structure-keeps (StructNew x) = refl
structure-keeps (StructNewDefault x) = refl
structure-keeps (StructGet x i) = refl
structure-keeps (StructGetS x i) = refl
structure-keeps (StructGetU x i) = refl
structure-keeps (StructSet x i) = refl
structure-keeps (StructNewDesc x) = refl
structure-keeps (StructNewDefaultDesc x) = refl

module _ (F : Features) where
  control-ends : (op : Control ℕ) → is_constant F (control op) ≡ true → is_end (control op) ≡ false → keeps (shape_of (control op)) ≡ true
  control-ends end_ a e = absurd (not_end e)
  control-ends unreachable a e = absurd (no a)
  control-ends nop a e = absurd (no a)
  control-ends else_ a e = absurd (no a)
  control-ends throw_ref a e = absurd (no a)
  control-ends return_ a e = absurd (no a)
  control-ends (block b) a e = absurd (no a)
  control-ends (loop b) a e = absurd (no a)
  control-ends (if_ b) a e = absurd (no a)
  control-ends (try_table b cs) a e = absurd (no a)
  control-ends (throw x) a e = absurd (no a)
  control-ends (br l) a e = absurd (no a)
  control-ends (br_if l) a e = absurd (no a)
  control-ends (br_table ls l) a e = absurd (no a)

  array-keeps : (op : ArrayOperator) → is_constant F (instruction.array op) ≡ true → keeps (shape_of (instruction.array op)) ≡ true
  array-keeps (ArrayNew x) a = refl
  array-keeps (ArrayNewDefault x) a = refl
  array-keeps (ArrayNewFixed x n) a = refl
  array-keeps (ArrayNewData x y) a = refl
  array-keeps (ArrayNewElem x y) a = refl
  array-keeps (ArrayGet x) a = refl
  array-keeps (ArrayGetS x) a = refl
  array-keeps (ArrayGetU x) a = refl
  array-keeps (ArraySet x) a = refl
  array-keeps ArrayLen a = absurd (no (both F.gc false a))
  array-keeps (ArrayFill x) a = refl
  array-keeps (ArrayCopy x y) a = refl
  array-keeps (ArrayInitData x y) a = refl
  array-keeps (ArrayInitElem x y) a = refl

  constant-keeps : (op : Instruction ℕ) → is_constant F op ≡ true → is_end op ≡ false → keeps (shape_of op) ≡ true
  constant-keeps (control op) a e = control-ends op a e
  constant-keeps (instruction.constant c) a e = refl
  constant-keeps (instruction.reference (references.ref_null h)) a e = refl
  constant-keeps (instruction.reference (references.ref_func x)) a e = refl
  constant-keeps (instruction.reference references.ref_is_null) a e = absurd (no a)
  constant-keeps (instruction.reference references.ref_eq) a e = absurd (no a)
  constant-keeps (instruction.reference references.ref_as_non_null) a e = absurd (no a)
  constant-keeps (instruction.reference (references.br_on_null l)) a e = absurd (no a)
  constant-keeps (instruction.reference (references.br_on_non_null l)) a e = absurd (no a)
  constant-keeps (instruction.variable (GlobalGet x)) a e = refl
  constant-keeps (instruction.variable (GlobalSet x)) a e = absurd (no a)
  constant-keeps (instruction.variable (LocalGet x)) a e = absurd (no a)
  constant-keeps (instruction.variable (LocalSet x)) a e = absurd (no a)
  constant-keeps (instruction.variable (LocalTee x)) a e = absurd (no a)
  constant-keeps (instruction.numeric op) a e = computing-keeps (signature_of op)
  constant-keeps (instruction.structure op) a e = structure-keeps op
  constant-keeps (instruction.array op) a e = array-keeps op a
  constant-keeps (instruction.conversion AnyConvertExtern) a e = refl
  constant-keeps (instruction.conversion ExternConvertAny) a e = refl
  constant-keeps (instruction.conversion RefI31) a e = refl
  constant-keeps (instruction.conversion RefI31Shared) a e = refl
  constant-keeps (instruction.conversion I31GetS) a e = absurd (no a)
  constant-keeps (instruction.conversion I31GetU) a e = absurd (no a)
  constant-keeps (instruction.legacy op) a e = absurd (no a)
  constant-keeps (instruction.call op) a e = absurd (no a)
  constant-keeps (instruction.parametric op) a e = absurd (no a)
  constant-keeps (instruction.table op) a e = absurd (no a)
  constant-keeps (instruction.access op m) a e = absurd (no a)
  constant-keeps (instruction.memory op) a e = absurd (no a)
  constant-keeps (instruction.saturating op) a e = absurd (no a)
  constant-keeps (instruction.cast op) a e = absurd (no a)
  constant-keeps (instruction.vector op values) a e = absurd (no a)
  constant-keeps (instruction.atomic op values) a e = absurd (no a)
  constant-keeps (instruction.wide op) a e = absurd (no a)
  constant-keeps (instruction.shared op values) a e = absurd (no a)
  constant-keeps (instruction.continuation op) a e = absurd (no a)

module _ {R : Type 0} (W : World R) (B : Surroundings R) where
  pub step-keeps : (op : Instruction ℕ) → is_constant B.features op ≡ true → is_end op ≡ false → (s t : State R) → step_in W B op s ≡ Some t → t.frames ≡ s.frames
  step-keeps op a e s t f = run-keeps W B (shape_of op) (constant-keeps B.features op a e) s t (step-runs W B op s t f)

  -- the last frame left
  leave-frames : (x : Frame R) (xs : List (Frame R)) (s t : State R) → leave_in W B (x ∷ xs) s ≡ Some t → t.frames ≡ xs
  leave-frames x xs s t e =
      let a = bind-gives (frame_signature W B x) _ t e in
      let b = bind-gives (pop_frame W B x xs a.0 s) _ t a.2 in
      let c = guard-gives (may_end W B x.kind a.0) (push_vals a.0.gives b.0) t b.2 in
      let d = bind-gives (pop_vals W a.0.gives s) _ b.0 b.1 in
      let g = guard-gives _ _ b.0 d.2 in
      sym (ap (λ (q : State R). q.frames) c.1) ∙ sym (ap (λ (q : State R). q.frames) g.1)

  pub end-frames : (x : Frame R) (s t : State R) → s.frames ≡ x ∷ [] → step_in W B (control end_) s ≡ Some t → t.frames ≡ []
  end-frames x s t one e =
      let a = bind-gives (leave_in W B s.frames s) (run W B []) t (step-runs W B (control end_) s t e) in
      let left = subst (λ fs. leave_in W B fs s ≡ Some a.0) one a.1 in
      sym (ap (λ (q : State R). q.frames) (same_Some a.0 t a.2)) ∙ leave-frames x [] s a.0 left
