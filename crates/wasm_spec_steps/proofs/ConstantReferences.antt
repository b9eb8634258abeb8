-- The references that instructions of constant expressions take and give.
use Rattle.std.proofs.Common.{◌≡◌, refl, sym, ap, ◌∙◌, subst, ℕ, Bool, true, false, List, [], ◌∷◌, Option, Some, None, option_map, slice_get}
use Rattle.std.specs.Prelude.{⊤}
use Rattle.std.proofs.lemmas.Option.{same_Some, none-some}
use Rattle.wasm_spec_rules.specs.WasmSpec.MatchingTests.{World}
use Rattle.wasm_spec_rules.specs.WasmSpec.Syntax.{AbstractHeap, any_heap, i31_heap, extern_heap, Heap, abstract_heap, Ref, Val, i32, i64, f32, f64, v128, reference}
use Rattle.wasm_operators.specs.WasmOperatorsPlain.Signatures.{signature_of}
use Rattle.wasm_operators.specs.WasmOperatorsPlain.declared.signatures.NumberType.{NumberType}
use Rattle.wasm_operators.specs.WasmOperatorsPlain.declared.signatures.NumberType.TheVariants as number
use Rattle.wasm_operators.specs.WasmOperatorsPlain.declared.signatures.Signature.{Signature}
use Rattle.wasm_operators.specs.WasmOperatorsPlain.declared.signatures.Signature.TheVariants.{Unary, Binary}
use Rattle.wasm_operators.specs.References as references
use Rattle.wasm_operators.specs.Instructions as instruction
use Rattle.wasm_operators.specs.Instructions.{Instruction}
use Rattle.wasm_operators.specs.WasmOperatorsPlain.declared.variables.VariableOperator.TheVariants.{LocalGet, LocalSet, LocalTee, GlobalGet, GlobalSet}
use Rattle.wasm_operators.specs.WasmOperatorsPlain.declared.conversions.ConversionOperator.TheVariants.{AnyConvertExtern, ExternConvertAny, RefI31, I31GetS, I31GetU, RefI31Shared}
use Rattle.wasm_operators.specs.WasmOperatorsPlain.declared.structs.StructOperator.TheVariants.{StructNew, StructNewDefault, StructGet, StructGetS, StructGetU, StructSet, StructNewDesc, StructNewDefaultDesc}
use Rattle.wasm_operators.specs.WasmOperatorsPlain.declared.arrays.ArrayOperator.TheVariants.{ArrayNew, ArrayNewDefault, ArrayNewFixed, ArrayNewData, ArrayNewElem, ArrayGet, ArrayGetS, ArrayGetU, ArraySet, ArrayLen, ArrayFill, ArrayCopy, ArrayInitData, ArrayInitElem}
use Rattle.wasm_spec_rules.specs.Attempts.{◌>>=◌, guard}
use Rattle.wasm_spec_rules.specs.Worlds.{world_of}
use Rattle.wasm_spec_steps.specs.Bodies.{Surroundings}
use Rattle.wasm_spec_steps.specs.Machine.{Operand, bottom, bottom_reference, open_reference, known, State, push_operand, push_vals, popped, pop_any, as_reference, pop_reference, same_number, matches_operand, pop_val, pop_vals}
use Rattle.wasm_spec_steps.specs.Actions.{OperandTypes, these, global, function_reference, new_reference, Check, Action, take, give, convert}
use Rattle.wasm_spec_steps.specs.Shapes.{Shape, plain, converting, nothing, one, number_type, computing, shape_of}
use Rattle.wasm_spec_rules.specs.Signatures.{resolve_ref, resolve_val}
use Rattle.wasm_spec_steps.specs.Meanings.{ref_to, exact_if, function_heap, types_at, holds, is_below_either, converted, act, run}
use Rattle.wasm_spec_steps.specs.Meanings as meanings
use Rattle.wasm_spec_steps.specs.Steps.{checked, actions_of, is_open, step}
use Rattle.wasm_spec_steps.specs.ConstantExpressions.{gives_reference, takes_no_reference, is_reference, is_number, IsLeft, none_taken, one_taken, GivesOne, GivesOneReference}
use Rattle.wasm_spec_steps.specs.Laws.{ConstantsGiveReferences}

not_both : false ≡ true → ⊥
not_both e = cc

-- an attempt that gives something, taken apart
bind-gives : {A B : Type 0} (o : Option A) (g : A → Option B) (b : B) → (o >>= g) ≡ Some b → (a : A) × (o ≡ Some a) × (g a ≡ Some b)
bind-gives None g b e = absurd (none-some b e)
bind-gives (Some a) g b e = (a, refl, e)

guard-gives : {A : Type 0} (c : Bool) (x y : A) → guard c x ≡ Some y → (c ≡ true) × (x ≡ y)
guard-gives true x y e = (refl, same_Some x y e)
guard-gives false x y e = absurd (none-some y e)

module _ {R : Type 0} (test : Operand R → Bool) where
  left-trans : {xs ys zs : List (Operand R)} → IsLeft test xs ys → IsLeft test ys zs → IsLeft test xs zs
  left-trans none_taken q = q
  left-trans (one_taken e p) q = one_taken e (left-trans p q)

  popped-left : (b u : Bool) (xs : List (Operand R)) (s : State R) (p : Operand R × State R) → s.operands ≡ xs → test p.0 ≡ true → popped b u xs s ≡ Some p → IsLeft test s.operands p.1.operands
  popped-left true true xs s p e a q = subst (λ (w : Operand R × State R). IsLeft test s.operands w.1.operands) (same_Some (bottom, s) p q) none_taken
  popped-left true false xs s p e a q = absurd (none-some p q)
  popped-left false u [] s p e a q = absurd (none-some p q)
  popped-left false u (x ∷ xs) s p e a q =
      let same : (x, record s { operands = xs }) ≡ p = same_Some (x, record s { operands = xs }) p q in
      subst (λ (w : Operand R × State R). IsLeft test s.operands w.1.operands) same
      (subst (λ (zs : List (Operand R)). IsLeft test zs xs) (sym e) (one_taken (subst (λ (w : Operand R × State R). test w.0 ≡ true) (sym same) a) none_taken))

  pop_any-left : (s : State R) (p : Operand R × State R) → test p.0 ≡ true → pop_any s ≡ Some p → IsLeft test s.operands p.1.operands
  pop_any-left s p a e = let f = bind-gives (slice_get s.frames 0) _ p e in popped-left _ _ s.operands s p refl a f.2

module _ {R : Type 0} (W : World R) (test : Operand R → Bool) where
  pop_val-left : (v : Val R) (s t : State R) → ((x : Operand R) → matches_operand W x v ≡ true → test x ≡ true) → pop_val W v s ≡ Some t → IsLeft test s.operands t.operands
  pop_val-left v s t h e =
      let f = bind-gives (pop_any s) _ t e in
      let g = guard-gives (matches_operand W f.0.0 v) f.0.1 t f.2 in
      subst (λ (w : State R). IsLeft test s.operands w.operands) g.1 (pop_any-left test s f.0 (h f.0.0 g.0) f.1)

  -- operands that match these types pass the test
  abbrev Passes : List (Val R) → Type 0
  Passes [] = ⊤
  Passes (v ∷ vs) = ((x : Operand R) → matches_operand W x v ≡ true → test x ≡ true) × Passes vs

  pop_vals-left : (vs : List (Val R)) (s t : State R) → Passes vs → pop_vals W vs s ≡ Some t → IsLeft test s.operands t.operands
  pop_vals-left [] s t h e = subst (λ (w : State R). IsLeft test s.operands w.operands) (same_Some s t e) none_taken
  pop_vals-left (v ∷ vs) s t h e = let f = bind-gives (pop_vals W vs s) _ t e in left-trans test (pop_vals-left vs s f.0 h.1 f.1) (pop_val-left v f.0 t h.0 f.2)

all_pass : {R : Type 0} (W : World R) (vs : List (Val R)) → Passes W (λ x. true) vs
all_pass W [] = tt
all_pass W (v ∷ vs) = ((λ x e. refl), all_pass W vs)

-- operands that match a number type are no references
matches_number : {R : Type 0} (W : World R) (w : Val R) → same_number w w ≡ true → (x : Operand R) → matches_operand W x w ≡ true → is_number x ≡ true
matches_number W w n bottom e = refl
matches_number W w n (known i32) e = refl
matches_number W w n (known i64) e = refl
matches_number W w n (known f32) e = refl
matches_number W w n (known f64) e = refl
matches_number W w n (known v128) e = refl
matches_number W (reference q) n (known (reference r)) e = n
matches_number W i32 n (known (reference r)) e = e
matches_number W i64 n (known (reference r)) e = e
matches_number W f32 n (known (reference r)) e = e
matches_number W f64 n (known (reference r)) e = e
matches_number W v128 n (known (reference r)) e = e
matches_number W (reference q) n bottom_reference e = n
matches_number W i32 n bottom_reference e = e
matches_number W i64 n bottom_reference e = e
matches_number W f32 n bottom_reference e = e
matches_number W f64 n bottom_reference e = e
matches_number W v128 n bottom_reference e = e
matches_number W (reference q) n (open_reference k) e = n
matches_number W i32 n (open_reference k) e = e
matches_number W i64 n (open_reference k) e = e
matches_number W f32 n (open_reference k) e = e
matches_number W f64 n (open_reference k) e = e
matches_number W v128 n (open_reference k) e = e

-- what is known of each run of a shape's actions
record Gives {R : Type 0} (W : World R) (B : Surroundings R) (x : Shape) : Type 0 where
  at : (s r : State R) → run W B (actions_of x) s ≡ Some r → GivesOneReference s.operands r.operands

record Keeps {R : Type 0} (W : World R) (B : Surroundings R) (x : Shape) : Type 0 where
  at : (s r : State R) → run W B (actions_of x) s ≡ Some r → GivesOne is_number s.operands r.operands

module _ {R : Type 0} (W : World R) (B : Surroundings R) where
  checked-runs : (cs : List Check) (as_ : List Action) (s t : State R) → run W B (checked cs as_) s ≡ Some t → run W B as_ s ≡ Some t
  checked-runs [] as_ s t e = e
  checked-runs (c ∷ cs) as_ s t e =
      let f = bind-gives (guard (holds W B s c) s) (run W B (checked cs as_)) t e in
      let g = guard-gives (holds W B s c) s f.0 f.1 in
      checked-runs cs as_ s t (subst (λ (w : State R). run W B (checked cs as_) w ≡ Some t) (sym g.1) f.2)

  -- types that are one, with a property
  abbrev IsOne : (Val R → Type 0) → OperandTypes → Type 0
  IsOne P u = (m : State R) (ws : List (Val R)) → types_at W B m u ≡ Some ws → (w : Val R) × P w × (ws ≡ w ∷ [])

  abbrev TakesOnly : (Operand R → Bool) → OperandTypes → Type 0
  TakesOnly test t = (m : State R) (vs : List (Val R)) → types_at W B m t ≡ Some vs → Passes W test vs

  plain-gives : (test : Operand R → Bool) (P : Val R → Type 0) (cs : List Check) (t u : OperandTypes) → TakesOnly test t → IsOne P u → (s r : State R) → run W B (actions_of (plain cs t u)) s ≡ Some r → (g : GivesOne test s.operands r.operands) × (w : Val R) × P w × (g.given ≡ known w)
  plain-gives test P cs t u only is_one s r e =
      let a = bind-gives (act W B (take t) s) (run W B (give u ∷ [])) r (checked-runs cs (take t ∷ give u ∷ []) s r e) in
      let b = bind-gives (types_at W B s t) _ a.0 a.1 in
      let c = bind-gives (act W B (give u) a.0) (run W B []) r a.2 in
      let d = bind-gives (types_at W B a.0 u) _ c.0 c.1 in
      let w = is_one a.0 d.0 d.1 in
      let after : push_vals d.0 a.0 ≡ r = same_Some (push_vals d.0 a.0) c.0 d.2 ∙ same_Some c.0 r c.2 in (
        record {
          given = known w.0;
          left = a.0.operands;
          gives = sym (ap (λ (q : State R). q.operands) after) ∙ ap (λ (ws : List (Val R)). (push_vals ws a.0).operands) w.2;
          takes = pop_vals-left W test b.0 s a.0 (only s b.0 b.1) b.2;
        },
        w.0,
        w.1,
        refl,
      )

  -- what is taken
  any : (t : OperandTypes) → TakesOnly (λ x. true) t
  any t m vs e = all_pass W vs

  takes_nothing : TakesOnly is_number nothing
  takes_nothing m vs e = subst (λ (w : List (Val R)). Passes W is_number w) (same_Some [] vs e) tt

  takes_one : (a : NumberType) → TakesOnly is_number (one (number_type a))
  takes_one number.I32 m vs e = subst (λ (w : List (Val R)). Passes W is_number w) (same_Some (i32 ∷ []) vs e) (matches_number W i32 refl, tt)
  takes_one number.I64 m vs e = subst (λ (w : List (Val R)). Passes W is_number w) (same_Some (i64 ∷ []) vs e) (matches_number W i64 refl, tt)
  takes_one number.F32 m vs e = subst (λ (w : List (Val R)). Passes W is_number w) (same_Some (f32 ∷ []) vs e) (matches_number W f32 refl, tt)
  takes_one number.F64 m vs e = subst (λ (w : List (Val R)). Passes W is_number w) (same_Some (f64 ∷ []) vs e) (matches_number W f64 refl, tt)

  takes_two : (a : NumberType) → TakesOnly is_number (these (number_type a ∷ number_type a ∷ []))
  takes_two number.I32 m vs e = subst (λ (w : List (Val R)). Passes W is_number w) (same_Some (i32 ∷ i32 ∷ []) vs e) (matches_number W i32 refl, (matches_number W i32 refl, tt))
  takes_two number.I64 m vs e = subst (λ (w : List (Val R)). Passes W is_number w) (same_Some (i64 ∷ i64 ∷ []) vs e) (matches_number W i64 refl, (matches_number W i64 refl, tt))
  takes_two number.F32 m vs e = subst (λ (w : List (Val R)). Passes W is_number w) (same_Some (f32 ∷ f32 ∷ []) vs e) (matches_number W f32 refl, (matches_number W f32 refl, tt))
  takes_two number.F64 m vs e = subst (λ (w : List (Val R)). Passes W is_number w) (same_Some (f64 ∷ f64 ∷ []) vs e) (matches_number W f64 refl, (matches_number W f64 refl, tt))

  -- what is given
  abbrev IsAny : Val R → Type 0
  IsAny v = ⊤

  abbrev IsRef : Val R → Type 0
  IsRef v = (r : Ref R) × (v ≡ reference r)

  by_val : (o : Option (Val R)) (ws : List (Val R)) → (o >>= λ w. Some [] >>= λ rest. Some (w ∷ rest)) ≡ Some ws → (w : Val R) × IsAny w × (ws ≡ w ∷ [])
  by_val None ws e = absurd (none-some ws e)
  by_val (Some w) ws e = (w, tt, sym (same_Some (w ∷ []) ws e))

  written : (v : Val ℕ) → IsOne IsAny (one v)
  written v m ws e = by_val (resolve_val B.context.types v) ws e

  by_global : (o : Option (Val R)) (ws : List (Val R)) → meanings.one o ≡ Some ws → (w : Val R) × IsAny w × (ws ≡ w ∷ [])
  by_global None ws e = absurd (none-some ws e)
  by_global (Some w) ws e = (w, tt, sym (same_Some (w ∷ []) ws e))

  of_global : (n : ℕ) → IsOne IsAny (global n)
  of_global n m ws e = by_global (option_map (λ g. g.content) (slice_get B.context.globals n)) ws e

  by_ref : (o : Option (Ref R)) (ws : List (Val R)) → (option_map reference o >>= λ w. Some [] >>= λ rest. Some (w ∷ rest)) ≡ Some ws → (w : Val R) × IsRef w × (ws ≡ w ∷ [])
  by_ref None ws e = absurd (none-some ws e)
  by_ref (Some r) ws e = (reference r, (r, refl), sym (same_Some (reference r ∷ []) ws e))

  written_ref : (r : Ref ℕ) → IsOne IsRef (one (reference r))
  written_ref r m ws e = by_ref (resolve_ref B.context.types r) ws e

  by_heap : {A : Type 0} (g : A → Heap R) (o : Option A) (ws : List (Val R)) → meanings.one (option_map (λ a. ref_to false (g a)) o) ≡ Some ws → (w : Val R) × IsRef w × (ws ≡ w ∷ [])
  by_heap g None ws e = absurd (none-some ws e)
  by_heap g (Some a) ws e = (ref_to false (g a), (record { nullable = false; heap = g a }, refl), sym (same_Some (ref_to false (g a) ∷ []) ws e))

  made : (n : ℕ) → IsOne IsRef (new_reference n)
  made n m ws e = by_heap (exact_if W B true) (slice_get B.context.types n) ws e

  of_function : (n : ℕ) → IsOne IsRef (function_reference n)
  of_function n m ws e = by_heap (λ h. h) (function_heap W B n) ws e

  is_reference-known : (w : Val R) → IsRef w → (x : Operand R) → x ≡ known w → is_reference x ≡ true
  is_reference-known w h x e = ap is_reference (e ∙ ap known h.1)

  one_reference : (cs : List Check) (t u : OperandTypes) → IsOne IsRef u → Gives W B (plain cs t u)
  one_reference cs t u h = record {
    at = λ s r e. let g = plain-gives (λ x. true) IsRef cs t u (any t) h s r e in record { one = g.0; is_one = is_reference-known g.1 g.2 g.0.given g.3 };
  }

  no_reference : (cs : List Check) (t u : OperandTypes) → TakesOnly is_number t → IsOne IsAny u → Keeps W B (plain cs t u)
  no_reference cs t u h i = record { at = λ s r e. (plain-gives is_number IsAny cs t u h i s r e).0 }

  computes : (g : Signature) → Keeps W B (computing g)
  computes (Unary a b) = no_reference _ (one (number_type a)) (one (number_type b)) (takes_one a) (written (number_type b))
  computes (Binary a b) = no_reference _ (these (number_type a ∷ number_type a ∷ [])) (one (number_type b)) (takes_two a) (written (number_type b))

  -- conversions
  converted_is_reference : (k : AbstractHeap) (x : Operand R) → is_reference (converted W B k x) ≡ true
  converted_is_reference k (known (reference r)) = refl
  converted_is_reference k (known i32) = refl
  converted_is_reference k (known i64) = refl
  converted_is_reference k (known f32) = refl
  converted_is_reference k (known f64) = refl
  converted_is_reference k (known v128) = refl
  converted_is_reference k bottom = refl
  converted_is_reference k bottom_reference = refl
  converted_is_reference k (open_reference j) = refl

  pop_reference-left : (s : State R) (p : Operand R × State R) → pop_reference s ≡ Some p → IsLeft (λ x. true) s.operands p.1.operands
  pop_reference-left s p e =
      let f = bind-gives (pop_any s) _ p e in
      let g = bind-gives (as_reference f.0.0) _ p f.2 in
      subst (λ (w : State R). IsLeft (λ x. true) s.operands w.operands) (ap (λ (q : Operand R × State R). q.1) (same_Some (g.0, f.0.1) p g.2)) (pop_any-left (λ x. true) s f.0 refl f.1)

  converts : (cs : List Check) (j k : AbstractHeap) → Gives W B (converting cs j k)
  converts cs j k = record {
    at = λ s r e.
        let a = bind-gives (act W B (convert j k) s) (run W B []) r (checked-runs cs (convert j k ∷ []) s r e) in
        let b = bind-gives (pop_reference s) _ a.0 a.1 in
        let c = guard-gives (is_below_either W B j b.0.0) (push_operand (converted W B k b.0.0) b.0.1) a.0 b.2 in
        record {
          one = record {
            given = converted W B k b.0.0;
            left = b.0.1.operands;
            gives = sym (ap (λ (q : State R). q.operands) (c.1 ∙ same_Some a.0 r a.2));
            takes = pop_reference-left s b.0 b.1;
          };
          is_one = converted_is_reference k b.0.0;
        };
  }

  gives_one : (op : Instruction ℕ) → gives_reference op ≡ true → Gives W B (shape_of op)
  gives_one (instruction.reference (references.ref_null h)) g = one_reference _ _ (one (reference _)) (written_ref _)
  gives_one (instruction.reference (references.ref_func x)) g = one_reference _ nothing (function_reference x) (of_function x)
  gives_one (instruction.reference references.ref_is_null) g = absurd (not_both g)
  gives_one (instruction.reference references.ref_eq) g = absurd (not_both g)
  gives_one (instruction.reference references.ref_as_non_null) g = absurd (not_both g)
  gives_one (instruction.reference (references.br_on_null l)) g = absurd (not_both g)
  gives_one (instruction.reference (references.br_on_non_null l)) g = absurd (not_both g)
  gives_one (instruction.structure (StructNew x)) g = one_reference _ _ (new_reference x) (made x)
  gives_one (instruction.structure (StructNewDefault x)) g = one_reference _ _ (new_reference x) (made x)
  gives_one (instruction.structure (StructNewDesc x)) g = one_reference _ _ (new_reference x) (made x)
  gives_one (instruction.structure (StructNewDefaultDesc x)) g = one_reference _ _ (new_reference x) (made x)
  gives_one (instruction.structure (StructGet x i)) g = absurd (not_both g)
  gives_one (instruction.structure (StructGetS x i)) g = absurd (not_both g)
  gives_one (instruction.structure (StructGetU x i)) g = absurd (not_both g)
  gives_one (instruction.structure (StructSet x i)) g = absurd (not_both g)
  gives_one (instruction.array (ArrayNew x)) g = one_reference _ _ (new_reference x) (made x)
  gives_one (instruction.array (ArrayNewDefault x)) g = one_reference _ _ (new_reference x) (made x)
  gives_one (instruction.array (ArrayNewFixed x n)) g = one_reference _ _ (new_reference x) (made x)
  gives_one (instruction.array (ArrayNewData x y)) g = absurd (not_both g)
  gives_one (instruction.array (ArrayNewElem x y)) g = absurd (not_both g)
  gives_one (instruction.array (ArrayGet x)) g = absurd (not_both g)
  gives_one (instruction.array (ArrayGetS x)) g = absurd (not_both g)
  gives_one (instruction.array (ArrayGetU x)) g = absurd (not_both g)
  gives_one (instruction.array (ArraySet x)) g = absurd (not_both g)
  gives_one (instruction.array ArrayLen) g = absurd (not_both g)
  gives_one (instruction.array (ArrayFill x)) g = absurd (not_both g)
  gives_one (instruction.array (ArrayCopy x y)) g = absurd (not_both g)
  gives_one (instruction.array (ArrayInitData x y)) g = absurd (not_both g)
  gives_one (instruction.array (ArrayInitElem x y)) g = absurd (not_both g)
  gives_one (instruction.conversion AnyConvertExtern) g = converts _ extern_heap any_heap
  gives_one (instruction.conversion ExternConvertAny) g = converts _ any_heap extern_heap
  gives_one (instruction.conversion RefI31) g = one_reference _ _ (one (reference _)) (written_ref (record { nullable = false; heap = abstract_heap false i31_heap }))
  gives_one (instruction.conversion RefI31Shared) g = one_reference _ _ (one (reference _)) (written_ref (record { nullable = false; heap = abstract_heap true i31_heap }))
  gives_one (instruction.conversion I31GetS) g = absurd (not_both g)
  gives_one (instruction.conversion I31GetU) g = absurd (not_both g)
  gives_one (instruction.control op) g = absurd (not_both g)
  gives_one (instruction.legacy op) g = absurd (not_both g)
  gives_one (instruction.call op) g = absurd (not_both g)
  gives_one (instruction.parametric op) g = absurd (not_both g)
  gives_one (instruction.variable op) g = absurd (not_both g)
  gives_one (instruction.table op) g = absurd (not_both g)
  gives_one (instruction.access op m) g = absurd (not_both g)
  gives_one (instruction.memory op) g = absurd (not_both g)
  gives_one (instruction.constant op) g = absurd (not_both g)
  gives_one (instruction.numeric op) g = absurd (not_both g)
  gives_one (instruction.saturating op) g = absurd (not_both g)
  gives_one (instruction.cast op) g = absurd (not_both g)
  gives_one (instruction.vector op values) g = absurd (not_both g)
  gives_one (instruction.atomic op values) g = absurd (not_both g)
  gives_one (instruction.wide op) g = absurd (not_both g)
  gives_one (instruction.shared op values) g = absurd (not_both g)
  gives_one (instruction.continuation op) g = absurd (not_both g)

  takes_none : (op : Instruction ℕ) → takes_no_reference op ≡ true → Keeps W B (shape_of op)
  takes_none (instruction.constant c) g = no_reference _ nothing (one _) takes_nothing (written _)
  takes_none (instruction.numeric op) g = computes (signature_of op)
  takes_none (instruction.variable (GlobalGet x)) g = no_reference _ nothing (global x) takes_nothing (of_global x)
  takes_none (instruction.variable (GlobalSet x)) g = absurd (not_both g)
  takes_none (instruction.variable (LocalGet x)) g = absurd (not_both g)
  takes_none (instruction.variable (LocalSet x)) g = absurd (not_both g)
  takes_none (instruction.variable (LocalTee x)) g = absurd (not_both g)
  takes_none (instruction.reference op) g = absurd (not_both g)
  takes_none (instruction.structure op) g = absurd (not_both g)
  takes_none (instruction.array op) g = absurd (not_both g)
  takes_none (instruction.conversion op) g = absurd (not_both g)
  takes_none (instruction.control op) g = absurd (not_both g)
  takes_none (instruction.legacy op) g = absurd (not_both g)
  takes_none (instruction.call op) g = absurd (not_both g)
  takes_none (instruction.parametric op) g = absurd (not_both g)
  takes_none (instruction.table op) g = absurd (not_both g)
  takes_none (instruction.access op m) g = absurd (not_both g)
  takes_none (instruction.memory op) g = absurd (not_both g)
  takes_none (instruction.saturating op) g = absurd (not_both g)
  takes_none (instruction.cast op) g = absurd (not_both g)
  takes_none (instruction.vector op values) g = absurd (not_both g)
  takes_none (instruction.atomic op values) g = absurd (not_both g)
  takes_none (instruction.wide op) g = absurd (not_both g)
  takes_none (instruction.shared op values) g = absurd (not_both g)
  takes_none (instruction.continuation op) g = absurd (not_both g)

module _ {R : Type 0} (same : R → R → Bool) (B : Surroundings R) where
  step-runs : (op : Instruction ℕ) (s t : State R) → step same B op s ≡ Some t → run (world_of same B.context) B (actions_of (shape_of op)) s ≡ Some t
  step-runs op s t e =
      let f = bind-gives (guard (is_open s) s) (run (world_of same B.context) B (actions_of (shape_of op))) t e in
      let g = guard-gives (is_open s) s f.0 f.1 in
      subst (λ (w : State R). run (world_of same B.context) B (actions_of (shape_of op)) w ≡ Some t) (sym g.1) f.2

pub constants_give_references : {R : Type 0} → ConstantsGiveReferences R
constants_give_references same B = record {
  gives_one = λ op s t g e. (gives_one (world_of same B.context) B op g).at s t (step-runs same B op s t e);
  takes_none = λ op s t g e. (takes_none (world_of same B.context) B op g).at s t (step-runs same B op s t e);
}
