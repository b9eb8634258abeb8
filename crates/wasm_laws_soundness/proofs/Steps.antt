-- One instruction does what its rule promises.
use Rattle.std.proofs.Common.{◌≡◌, refl, sym, ap, subst, ◌∙◌, ℕ, zero, suc, Bool, true, false, not, List, [], ◌∷◌, ◌++◌, append_assoc, append-nil, Option, Some, length, slice_get}
use Rattle.wasm_spec_steps.specs.WasmSpecRules.WasmSpec.Syntax.{func_heap, Heap, abstract_heap, concrete, exact, Ref, Val, i32, reference, Table}
use Rattle.wasm_spec_steps.specs.WasmSpecRules.WasmSpec.MatchingTests.{World, matches_heap, matches_val}
use Rattle.wasm_spec_steps.specs.WasmSpecRules.Signatures.{Signature, resolve_ref}
use Rattle.wasm_operators.specs.Control as control
use Rattle.wasm_operators.specs.Control.{Control, Parametric}
use Rattle.wasm_operators.specs.Legacy as legacy
use Rattle.wasm_operators.specs.Legacy.{Legacy}
use Rattle.wasm_operators.specs.References as references
use Rattle.wasm_operators.specs.References.{Reference, Cast}
use Rattle.wasm_operators.specs.Continuations as continuations
use Rattle.wasm_operators.specs.Continuations.{Continuation}
use Rattle.wasm_operators.specs.WasmOperatorsProposals.declared.continuations.Handle.{Handle}
use Rattle.wasm_operators.specs.Instructions as instruction
use Rattle.wasm_operators.specs.Instructions.{Instruction}
use Rattle.wasm_operators.specs.WasmOperatorsPlain.Signatures.{signature_of, saturating_signature_of}
use Rattle.wasm_operators.specs.WasmOperatorsPlain.declared.calls.CallOperator.{CallOperator}
use Rattle.wasm_operators.specs.WasmOperatorsPlain.declared.calls.CallOperator.TheVariants.{Call, CallIndirect, ReturnCall, ReturnCallIndirect, CallRef, ReturnCallRef}
use Rattle.wasm_operators.specs.WasmOperatorsPlain.declared.variables.VariableOperator.{VariableOperator}
use Rattle.wasm_operators.specs.WasmOperatorsPlain.declared.variables.VariableOperator.TheVariants.{LocalGet, LocalSet, LocalTee, GlobalGet, GlobalSet}
use Rattle.wasm_spec_steps.specs.Bodies.{Local, Surroundings}
use Rattle.wasm_spec_steps.specs.Actions.{of_tag, has, allows, reaches_type, reference_types, function_references, descriptor_operators, custom_descriptors}
use Rattle.wasm_spec_steps.specs.Shapes.{shape_of, reference_to, branch_checks, kept, difference}
use Rattle.wasm_spec_steps.specs.Meanings.{signature_at, function_heap, descriptor_heap, address}
use Rattle.wasm_spec_instructions.specs.Code.{Code}
use Rattle.wasm_spec_instructions.specs.ValueTypes.{ValueType, val, vals, reference_at, reference_type, matches_type, Match, each, IsInOrder}
use Rattle.wasm_spec_instructions.specs.Scopes.{Scope, is_set}
use Rattle.wasm_spec_instructions.specs.Rules.{sets_of, MatchLabels, Rule, plain_rule}
use Rattle.wasm_spec_instructions.specs.Sequences.{Typed}
use Rattle.wasm_spec_instructions.specs.Names.{RulesByName}
use Rattle.wasm_spec_instructions.specs.FixedShapes.{FixedTypes}
use Rattle.wasm_spec_instructions.specs.ContinuationShapes.{HandlesAll}
use Rattle.wasm_spec_instructions.specs.Expressions.{body_scope}
use Rattle.wasm_spec_instructions.proofs.Attempts.{no, the_same, absent}
use Rattle.wasm_spec_instructions.proofs.OperandFits.{vals-append, val-through, true-match}
use Rattle.wasm_spec_instructions.proofs.Names.{instructions_have_their_rules}
use Rattle.wasm_spec_instructions.proofs.FixedTypeRules.{fixed_types_have_their_rules}
use Rattle.wasm_spec_instructions.proofs.ContinuationRules.{handles}
use Rattle.wasm_laws_soundness.specs.Values.{Value, i32_value, null, function_at, exception_at, other, Instance, Definition, defined, hosted, Function, Store, exception_heap, signature_in, is_of, HasType, is_i32, is_null, is_function, is_exception, is_other, HaveTypes, no_values, and_value}
use Rattle.wasm_laws_soundness.specs.Outcomes.{State, branches, throws, calls_in_place, returns, traps, Outcome, falls_through, leaves, Resumed, Primitives, with_top, on_some, on_number, on_one, on_exception, on_function, on_reference, pick, either, on_choice, on_set, holding, writing, pushing, with_store, answered, on_answer, threw, entered, back}
use Rattle.wasm_laws_soundness.specs.StoreValidity.{Grows, Reaches, Carries, IsTypedCode, IsTypedFunction, InstanceFits, StoreFits, Fits, branching, returning, throwing, calling, rethrowing, delegating, trapping, waiting, IsPromised, falling, leaving}
use Rattle.wasm_laws_soundness.proofs.Values.{long, type-match, types-match, above-match, types-append, grows-refl, types-grow, must_hold, start-fits, get-last}
use Rattle.wasm_laws_soundness.proofs.Outcomes.{with_top-promised, on_some-promised, pick-promised, either-promised, on_number-promised, on_one-promised, on_reference-promised, on_choice-promised, on_exception-promised, on_function-promised, func-of_functions, concrete-of_functions, fits-with, fits-now, fits-in, promised-since, lesser, put_on, writing-promised, answered-promised, on_answer-promised, threw-fits, back-fits, cast-has, cast-lacks}
use Rattle.wasm_laws_soundness.specs.Roles as role
use Rattle.wasm_laws_soundness.specs.Roles.{by_index, by_reference, by_table, role_of, handler_at, operand_count}
use Rattle.wasm_laws_soundness.specs.Interpreter.{Task, does, invokes, label_for, finish, enter_function, with_function, invoke, invoke_in_place, if_of_type, with_callee, by_cast, is_described, by_description, resumed, step_as, step}
use Rattle.wasm_laws_soundness.specs.Promises.{RefersToContinuation, IsResumed, it_ends, it_suspends}
use Rattle.wasm_laws_soundness.proofs.DescriptorsAndHandlers.{with_descriptor, handler_is}
use Rattle.wasm_laws_soundness.specs.Laws.{AreSound}
use Rattle.wasm_operators.specs.WasmOperatorsAtomic.SharedForms as shareds
use Rattle.wasm_laws_soundness.proofs.Inversions.{sets-nothing, is_computing, counted, table-computes, access-computes, memory-computes, signature-computes, conversion-computes, struct-computes, array-computes, form-computes, wide-computes, access_form-computes, function_signed, gives_null as gives_a_null, selects_of, calls_by_reference, calls_by_table, calls_by_reference_in_place, calls_by_table_in_place, Casts, branches_on_cast as are_cast, branches_on_failure as are_not_cast}

-- the label that a table names
pub record Labelled {R : Type 0} (W : World R) (labels : List (List (Val R))) (ts : List (ValueType R)) (n : ℕ) : Type 0 where
  pub types : List (Val R)
  pub there : slice_get labels n ≡ Some types
  pub match : Match W ts (vals types)

in_table :
    {R : Type 0} (W : World R) (labels : List (List (Val R))) (ts : List (ValueType R)) (n : ℕ) (ns : List ℕ) (k : ℕ) → MatchLabels W labels ts (n ∷ ns)
    → Labelled W labels ts (label_for ns n k)
in_table {R} W labels ts n ns k m = among_them ns k m.3
  where
    among_them : (ns : List ℕ) (k : ℕ) → MatchLabels W labels ts ns → Labelled W labels ts (label_for ns n k)
    among_them [] k q = record { types = m.0; there = m.1; match = m.2 }
    among_them (l ∷ ns) zero q = record { types = q.0; there = q.1; match = q.2 }
    among_them (l ∷ ns) (suc k) q = among_them ns k q.3

-- what does with typed code, and with functions, what typing promises, whatever lies below
pub record Sound {R : Type 0} (W : World R) (P : Primitives R) (performs : Task R → State R → Outcome R) : Type 0 where
  pub code :
      (B : Surroundings R) (I : Instance) (C : Scope R) (c : Code) (ts : List (ValueType R)) (xs : List ℕ) (us : List (ValueType R)) → Typed W B C c ts xs us
      → (rest : List (ValueType R)) (s : State R) → Fits W P B I s.store C.sets (rest ++ ts) s
      → IsPromised W P B I s.store C xs (rest ++ us) (performs (does B I c) s)
  pub function :
      (B : Surroundings R) (I : Instance) (C : Scope R) (a : ℕ) (f : Function R) (g : Signature R) (rest : List (ValueType R)) (s : State R)
      → slice_get s.store.functions a ≡ Some f
      → signature_in W f.type ≡ Some g → Fits W P B I s.store C.sets (rest ++ vals g.takes) s
      → IsPromised W P B I s.store C [] (rest ++ vals g.gives) (performs (invokes a) s)

pub vals-through :
    {R : Type 0} (W : World R) → IsInOrder W → (ts us vs : List (Val R)) → Match W (vals ts) (vals us) → Match W (vals us) (vals vs)
    → Match W (vals ts) (vals vs)
vals-through W o [] [] vs m k = k
vals-through W o (t ∷ ts) (u ∷ us) (v ∷ vs) (each e m) (each f k) = each (val-through W o t u v e f) (vals-through W o ts us vs m k)
vals-through W o (t ∷ ts) [] vs m k = elim m [ ]
vals-through W o [] (u ∷ us) vs m k = elim m [ ]
vals-through W o (t ∷ ts) (u ∷ us) [] m k = elim k [ ]

not-true : (b : Bool) → not b ≡ true → b ≡ false
not-true true e = sym e
not-true false e = refl

not-false : (b : Bool) → not b ≡ false → b ≡ true
not-false true e = refl
not-false false e = sym e

module _ {R : Type 0} (W : World R) (P : Primitives R) (a : AreSound W P) (again : Task R → State R → Outcome R) (sound : Sound W P again) where
  -- the end of a function
  finish-promised :
      (B D : Surroundings R) (I J : Instance) (C : Scope R) (gs : List (Val R)) (xs : List ℕ) (below : List (Value R)) (rest ts : List (ValueType R))
      (s : State R) (o : Outcome R)
      → Fits W P B I s.store C.sets ts s → HaveTypes W s.store below rest → IsPromised W P D J s.store (body_scope gs) xs (vals gs) o
      → IsPromised W P B I s.store C [] (rest ++ vals gs) (finish W P again (length gs) below s o)
  finish-promised B D I J C gs xs below rest ts s o h b (falling {s = t} k) =
      falling (back-fits W P B D I J (below ++ t.operands) s t h k (types-append (types-grow k.grown b) k.operands))
  finish-promised B D I J C gs xs below rest ts s o h b (leaving (branching {l = zero} {s = t} ls left e k)) =
      with_top-promised (λ o. IsPromised W P B I s.store C [] (rest ++ vals gs) o) (length gs) t.operands (λ _ v. falls_through (back (below ++ v) s t)) left
      (vals gs) (long gs)
      (subst (λ (z : List (Val R)). HaveTypes W t.store t.operands (left ++ vals z)) (sym (the_same gs ls e)) k.operands)
      (λ l v _ q. falling (back-fits W P B D I J (below ++ v) s t h k (types-append (types-grow k.grown b) q)))
  finish-promised B D I J C gs xs below rest ts s o h b (leaving (branching {l = suc l} ls left e k)) = absurd (absent ls e)
  finish-promised B D I J C gs xs below rest ts s o h b (leaving (returning {s = t} rs left e k)) =
      with_top-promised (λ o. IsPromised W P B I s.store C [] (rest ++ vals gs) o) (length gs) t.operands (λ _ v. falls_through (back (below ++ v) s t)) left
      (vals gs) (long gs)
      (subst (λ (z : List (Val R)). HaveTypes W t.store t.operands (left ++ vals z)) (sym (the_same gs rs e)) k.operands)
      (λ l v _ q. falling (back-fits W P B D I J (below ++ v) s t h k (types-append (types-grow k.grown b) q)))
  finish-promised B D I J C gs xs below rest ts s o h b (leaving (throwing {s = t} e left i k)) =
      leaving (throwing e [] i (back-fits W P B D I J [] s t h k no_values))
  finish-promised B D I J C gs xs below rest ts s o h b (leaving (calling {a = x} {s = t} f g rs i j e m k)) =
      promised-since W P B I k.grown
      (lesser W P B I a.in_order C [] [] rest (vals g.gives) (vals gs) (again (invokes x) (back (below ++ t.operands) s t))
      (subst (λ (z : List (Val R)). Match W (vals g.gives) (vals z)) (sym (the_same gs rs e)) m) tt
      (sound.function B I C x f g rest (back (below ++ t.operands) s t) i j
      (fits-now W P B I (back-fits W P B D I J (below ++ t.operands) s t h k (types-append (types-grow k.grown b) k.operands)))))
  finish-promised B D I J C gs xs below rest ts s o h b (leaving (rethrowing {l = zero} left e k)) = no (the_same false true e)
  finish-promised B D I J C gs xs below rest ts s o h b (leaving (rethrowing {l = suc l} left e k)) = absurd (absent true e)
  finish-promised B D I J C gs xs below rest ts s o h b (leaving (delegating {l = zero} {s = t} ls e left j i k)) =
      leaving (throwing e [] i (back-fits W P B D I J [] s t h k no_values))
  finish-promised B D I J C gs xs below rest ts s o h b (leaving (delegating {l = suc l} ls e left j i k)) = absurd (absent ls j)
  finish-promised B D I J C gs xs below rest ts s o h b (leaving trapping) = leaving trapping
  finish-promised B D I J C gs xs below rest ts s o h b (leaving waiting) = leaving waiting

  module _ (B : Surroundings R) (I : Instance) (C : Scope R) where
    abbrev Q : Store R → List ℕ → List (ValueType R) → Outcome R → Type 0
    Q S xs us o = IsPromised W P B I S C xs us o

    -- a function and its arguments
    with_function-promised :
        (us : List (ValueType R)) (k : Function R → Signature R → List (Value R) → List (Value R) → Outcome R)
        (x : ℕ) (f : Function R) (g : Signature R) (rest : List (ValueType R)) (s : State R)
        → slice_get s.store.functions x ≡ Some f → signature_in W f.type ≡ Some g → Fits W P B I s.store C.sets (rest ++ vals g.takes) s
        → ((below vs : List (Value R)) → HaveTypes W s.store below rest → HaveTypes W s.store vs (vals g.takes) → Q s.store [] us (k f g below vs))
        → Q s.store [] us (with_function W P again k x s)
    with_function-promised us k x f g rest s e w h q =
        on_some-promised (Q s.store [] us) (λ f. on_some (λ g. with_top (length g.takes) s.operands (λ below top. k f g below top)) (signature_in W f.type))
        (slice_get s.store.functions x) f e
        (on_some-promised (Q s.store [] us) (λ g. with_top (length g.takes) s.operands (λ below top. k f g below top)) (signature_in W f.type) g w
        (with_top-promised (Q s.store [] us) (length g.takes) s.operands (λ below top. k f g below top) rest (vals g.takes) (long g.takes) h.operands
        (λ below top b t. q below top b t)))

    enter_function-promised :
        (x : ℕ) (f : Function R) (g : Signature R) (rest : List (ValueType R)) (s : State R) (below vs : List (Value R)) (d : Definition R) → f.definition ≡ d
        → slice_get s.store.functions x ≡ Some f
        → signature_in W f.type ≡ Some g → Fits W P B I s.store C.sets (rest ++ vals g.takes) s → HaveTypes W s.store below rest
        → HaveTypes W s.store vs (vals g.takes)
        → Q s.store [] (rest ++ vals g.gives) (enter_function W P again d (length g.gives) below vs s)
    enter_function-promised x f g rest s below vs (defined D J c) e i w h b v =
        let t : IsTypedFunction W P s.store f = h.store.functions x f i in
        let k : IsTypedCode W P s.store g D J c =
        subst (λ (z : Signature R). IsTypedCode W P s.store z D J c) (the_same t.signature g (sym t.is ∙ w)) (t.code D J c e) in
        finish-promised B D I J C g.gives k.sets below rest (rest ++ vals g.takes) s (again (does D J c) (entered D.locals vs s)) h b
        (sound.code D J (body_scope g.gives) c [] k.sets (vals g.gives) k.typed [] (entered D.locals vs s)
        (record {
          operands = no_values;
          locals = start-fits D g.takes k.extra vs k.locals v;
          store = h.store;
          instance = k.instance;
          grown = grows-refl s.store;
        }))
    enter_function-promised x f g rest s below vs (hosted k) e i w h b v =
        answered-promised W P B I C s below rest (vals g.gives) (rest ++ vals g.takes) (P.acts k vs s.store) h b
        (a.keep.acts x k f g vs s.store i e w h.store v)

    pub invoke-promised :
        (x : ℕ) (f : Function R) (g : Signature R) (rest : List (ValueType R)) (s : State R) → slice_get s.store.functions x ≡ Some f
        → signature_in W f.type ≡ Some g
        → Fits W P B I s.store C.sets (rest ++ vals g.takes) s → Q s.store [] (rest ++ vals g.gives) (invoke W P again x s)
    invoke-promised x f g rest s e w h =
        with_function-promised (rest ++ vals g.gives) (λ f g below vs. enter_function W P again f.definition (length g.gives) below vs s) x f g rest s e w h
        (λ below vs b v. enter_function-promised x f g rest s below vs f.definition refl e w h b v)

    -- a function that is known to be of a greater type
    invoke-as :
        (x : ℕ) (f : Function R) (t : R) (g : Signature R) (rest : List (ValueType R)) (s : State R) → slice_get s.store.functions x ≡ Some f
        → W.below f.type t ≡ true → signature_in W t ≡ Some g
        → Fits W P B I s.store C.sets (rest ++ vals g.takes) s → Q s.store [] (rest ++ vals g.gives) (invoke W P again x s)
    invoke-as x f t g rest s e m w h =
        let k = a.functions f.type t g m w in
        lesser W P B I a.in_order C [] [] rest (vals k.0.gives) (vals g.gives) (invoke W P again x s) k.3 tt
        (invoke-promised x f k.0 rest s e k.1 (fits-with W P B I s.operands h (above-match W a.in_order s.store rest s.operands h.operands k.2)))

    in_place-as :
        (us : List (ValueType R)) (x : ℕ) (f : Function R) (t : R) (g : Signature R) (rs : List (Val R)) (rest : List (ValueType R)) (s : State R)
        → slice_get s.store.functions x ≡ Some f
        → W.below f.type t ≡ true → signature_in W t ≡ Some g → C.returns ≡ Some rs → Match W (vals g.gives) (vals rs)
        → Fits W P B I s.store C.sets (rest ++ vals g.takes) s
        → Q s.store [] us (invoke_in_place W P again x s)
    in_place-as us x f t g rs rest s e m w r n h =
        let k = a.functions f.type t g m w in
        let j = fits-with W P B I s.operands h (above-match W a.in_order s.store rest s.operands h.operands k.2) in
        with_function-promised us (λ f g below vs. leaves (calls_in_place x (holding vs s))) x f k.0 rest s e k.1 j
        (λ below vs b v. leaving (calling f k.0 rs e k.1 r (vals-through W a.in_order k.0.gives g.gives rs k.3 n) (fits-with W P B I vs h v)))

    -- the uppermost operands
    on_top :
        (n : ℕ) (xs : List ℕ) (us rest ts : List (ValueType R)) (s : State R) (f : List (Value R) → List (Value R) → Outcome R) → n ≡ length ts
        → Fits W P B I s.store C.sets (rest ++ ts) s
        → ((below top : List (Value R)) → Fits W P B I s.store C.sets rest (holding below s) → HaveTypes W s.store top ts → Q s.store xs us (f below top))
        → Q s.store xs us (with_top n s.operands f)
    on_top n xs us rest ts s f e h k =
        with_top-promised (Q s.store xs us) n s.operands f rest ts e h.operands (λ below top b t. k below top (fits-with W P B I below h b) t)

    -- regrouped
    fits-left :
        (rest ts us : List (ValueType R)) (s : State R) → Fits W P B I s.store C.sets (rest ++ (ts ++ us)) s
        → Fits W P B I s.store C.sets ((rest ++ ts) ++ us) s
    fits-left rest ts us s h = subst (λ (z : List (ValueType R)). Fits W P B I s.store C.sets z s) (sym (append_assoc rest ts us)) h

    fits-none : (rest : List (ValueType R)) (s : State R) → Fits W P B I s.store C.sets (rest ++ []) s → Fits W P B I s.store C.sets rest s
    fits-none rest s h = subst (λ (z : List (ValueType R)). Fits W P B I s.store C.sets z s) (append-nil rest) h

    gives-left : {xs : List ℕ} {S : Store R} (rest ts us : List (ValueType R)) (o : Outcome R) → Q S xs ((rest ++ ts) ++ us) o → Q S xs (rest ++ (ts ++ us)) o
    gives-left {xs = xs} {S = S} rest ts us o h = subst (λ (z : List (ValueType R)). Q S xs z o) (append_assoc rest ts us) h

    gives-none : {xs : List ℕ} {S : Store R} (rest : List (ValueType R)) (o : Outcome R) → Q S xs rest o → Q S xs (rest ++ []) o
    gives-none {xs = xs} {S = S} rest o h = subst (λ (z : List (ValueType R)). Q S xs z o) (sym (append-nil rest)) h

    push :
        {xs : List ℕ} {t : ValueType R} (rest : List (ValueType R)) (below : List (Value R)) (v : Value R) (s : State R)
        → Fits W P B I s.store (xs ++ C.sets) rest (holding below s) → HasType W s.store v t →
        Q s.store xs (rest ++ t ∷ []) (pushing below v s)
    push rest below v s h t = put_on W P B I below (v ∷ []) h h.operands (and_value t no_values)

    -- the roles
    computes :
        (i : Instruction ℕ) (ts us : List (ValueType R)) → role_of i ≡ role.computing → is_computing (shape_of i) ≡ true → Rule W B C (shape_of i) ts us
        → (rest : List (ValueType R)) (s : State R)
        → Fits W P B I s.store C.sets (rest ++ ts) s → Q s.store (sets_of (shape_of i)) (rest ++ us) (step_as W P again B I role.computing i s)
    computes i ts us e c r rest s h =
        subst (λ (xs : List ℕ). Q s.store xs (rest ++ us) (step_as W P again B I role.computing i s)) (sym (sets-nothing (shape_of i) c))
        (on_some-promised (Q s.store [] (rest ++ us)) (λ n. with_top n s.operands (λ below top. answered below s (P.computes i B I top s.store)))
        (operand_count W B (shape_of i)) (length ts)
        (counted W B C (shape_of i) ts us c r)
        (with_top-promised (Q s.store [] (rest ++ us)) (length ts) s.operands
        (λ below top. answered below s (P.computes i B I top s.store)) rest ts refl h.operands
        (λ below top b t. answered-promised W P B I C s below rest us (rest ++ ts) (P.computes i B I top s.store) h b
        (a.keep.computes i B I C ts us top s.store e r h.store h.instance t))))

    returns_to :
        (rs : List (Val R)) (below us rest : List (ValueType R)) (s : State R) → C.returns ≡ Some rs
        → Fits W P B I s.store C.sets (rest ++ (below ++ vals rs)) s → Q s.store [] us (leaves (returns s))
    returns_to rs below us rest s e h = leaving (returning rs (rest ++ below) e (fits-left rest below (vals rs) s h))

    branches_to :
        (l : ℕ) (ls : List (Val R)) (below us rest : List (ValueType R)) (s : State R) → slice_get C.labels l ≡ Some ls
        → Fits W P B I s.store C.sets (rest ++ (below ++ vals ls)) s
        → Q s.store [] us (leaves (branches l s))
    branches_to l ls below us rest s e h = leaving (branching ls (rest ++ below) e (fits-left rest below (vals ls) s h))

    drops :
        (t : ValueType R) (i : Instruction ℕ) (rest : List (ValueType R)) (s : State R) → Fits W P B I s.store C.sets (rest ++ t ∷ []) s
        → Q s.store [] (rest ++ []) (step_as W P again B I role.dropping i s)
    drops t i rest s h =
        on_top 1 [] (rest ++ []) rest (t ∷ []) s (λ below top. falls_through (holding below s)) refl h
        (λ below top f q. gives-none rest (falls_through (holding below s)) (falling f))

    chooses :
        (t : ValueType R) (i : Instruction ℕ) (rest : List (ValueType R)) (s : State R) → Fits W P B I s.store C.sets (rest ++ (t ∷ t ∷ val i32 ∷ [])) s
        → Q s.store [] (rest ++ t ∷ []) (step_as W P again B I role.choosing i s)
    chooses t i rest s h =
        on_top 3 [] (rest ++ t ∷ []) rest (t ∷ t ∷ val i32 ∷ []) s (λ below top. on_choice (λ v. pushing below v s) top) refl h
        (λ below top f q. on_choice-promised (Q s.store [] (rest ++ t ∷ [])) (λ v. pushing below v s) top q (λ v k. push rest below v s f k))

    branches_if :
        (l : ℕ) (ls : List (Val R)) (i : Instruction ℕ) (rest : List (ValueType R)) (s : State R) → slice_get C.labels l ≡ Some ls
        → Fits W P B I s.store C.sets (rest ++ (vals ls ++ val i32 ∷ [])) s
        → Q s.store [] (rest ++ vals ls) (step_as W P again B I (role.branching_if l) i s)
    branches_if l ls i rest s e h =
        on_top 1 [] (rest ++ vals ls) (rest ++ vals ls) (val i32 ∷ []) s
        (λ below top. on_number (λ n. pick n (leaves (branches l (holding below s))) (falls_through (holding below s))) top) refl
        (fits-left rest (vals ls) (val i32 ∷ []) s h)
        (λ below top f q. on_number-promised (Q s.store [] (rest ++ vals ls))
        (λ n. pick n (leaves (branches l (holding below s))) (falls_through (holding below s))) top q
        (λ n. pick-promised (Q s.store [] (rest ++ vals ls)) n (leaves (branches l (holding below s))) (falls_through (holding below s))
        (leaving (branching ls rest e f)) (falling f)))

    branches_by_table :
        (ls : List ℕ) (l : ℕ) (sent below us : List (ValueType R)) (i : Instruction ℕ) (rest : List (ValueType R)) (s : State R)
        → MatchLabels W C.labels sent (l ∷ ls)
        → Fits W P B I s.store C.sets (rest ++ (below ++ (sent ++ val i32 ∷ []))) s
        → Q s.store [] (rest ++ us) (step_as W P again B I (role.branching_by_table ls l) i s)
    branches_by_table ls l sent left us i rest s m h =
        on_top 1 [] (rest ++ us) ((rest ++ left) ++ sent) (val i32 ∷ []) s
        (λ below top. on_number (λ n. leaves (branches (label_for ls l n) (holding below s))) top) refl
        (fits-left (rest ++ left) sent (val i32 ∷ []) s (fits-left rest left (sent ++ val i32 ∷ []) s h))
        (λ below top f q. on_number-promised (Q s.store [] (rest ++ us)) (λ n. leaves (branches (label_for ls l n) (holding below s))) top q
        (λ n. let t : Labelled W C.labels sent (label_for ls l n) = in_table W C.labels sent l ls n m in
        leaving (branching t.types (rest ++ left) t.there
        (fits-with W P B I below f (above-match W a.in_order s.store (rest ++ left) below f.operands t.match)))))

    reads :
        (x : ℕ) (l : Local R) (i : Instruction ℕ) (rest : List (ValueType R)) (s : State R) → slice_get B.locals x ≡ Some l → is_set W B x C.sets ≡ true
        → Fits W P B I s.store C.sets (rest ++ []) s
        → Q s.store [] (rest ++ val l.content ∷ []) (step_as W P again B I (role.reading x) i s)
    reads x l i rest s e f h =
        let o = h.locals.holds x l e in
        let v = must_hold o.2 f in
        subst (λ (z : Option (Option (Value R))). Q s.store [] (rest ++ val l.content ∷ []) (on_set (λ w. pushing s.operands w s) z))
        (sym (o.1 ∙ ap (λ (z : Option (Value R)). Some z) v.1))
        (push rest s.operands v.0 s (fits-none rest s h) v.2)

    writes :
        (x : ℕ) (l : Local R) (i : Instruction ℕ) (rest : List (ValueType R)) (s : State R) → slice_get B.locals x ≡ Some l
        → Fits W P B I s.store C.sets (rest ++ val l.content ∷ []) s
        → Q s.store (x ∷ []) (rest ++ []) (step_as W P again B I (role.writing x) i s)
    writes x l i rest s e h =
        on_top 1 (x ∷ []) (rest ++ []) rest (val l.content ∷ []) s (λ below top. on_one (λ v. writing x below v s) top) refl h
        (λ below top f q. on_one-promised (Q s.store (x ∷ []) (rest ++ [])) (λ v. writing x below v s) top q
        (λ v k. gives-none rest (writing x below v s) (writing-promised W P B I C x l (rest ++ val l.content ∷ []) rest below v s e h k f.operands)))

    gives_back :
        (x : ℕ) (l : Local R) (i : Instruction ℕ) (rest : List (ValueType R)) (s : State R) → slice_get B.locals x ≡ Some l
        → Fits W P B I s.store C.sets (rest ++ val l.content ∷ []) s
        → Q s.store (x ∷ []) (rest ++ val l.content ∷ []) (step_as W P again B I (role.giving_back x) i s)
    gives_back x l i rest s e h =
        on_top 1 (x ∷ []) (rest ++ val l.content ∷ []) rest (val l.content ∷ []) s (λ below top. on_one (λ v. writing x (below ++ v ∷ []) v s) top) refl h
        (λ below top f q. on_one-promised (Q s.store (x ∷ []) (rest ++ val l.content ∷ [])) (λ v. writing x (below ++ v ∷ []) v s) top q
        (λ v k. writing-promised W P B I C x l (rest ++ val l.content ∷ []) (rest ++ val l.content ∷ []) (below ++ v ∷ []) v s e h k
        (types-append f.operands (and_value k no_values))))

    -- null, and references to functions
    gives_null :
        (k : Heap R) (i : Instruction ℕ) (rest : List (ValueType R)) (s : State R) → Fits W P B I s.store C.sets (rest ++ []) s
        → Q s.store [] (rest ++ val (reference_at true k) ∷ []) (step_as W P again B I role.giving_null i s)
    gives_null k i rest s h = push rest s.operands null s (fits-none rest s h) (is_null refl)

    names :
        (x : ℕ) (k : Heap R) (i : Instruction ℕ) (rest : List (ValueType R)) (s : State R) → function_heap W B x ≡ Some k
        → Fits W P B I s.store C.sets (rest ++ []) s →
        Q s.store [] (rest ++ val (reference_at false k) ∷ []) (step_as W P again B I (role.naming x) i s)
    names x k i rest s e h =
        let c : Reaches W s.store I x k = h.instance.references x k e in
        on_some-promised (Q s.store [] (rest ++ val (reference_at false k) ∷ [])) (λ a. pushing s.operands (function_at a) s)
        (slice_get I.functions x) c.address c.known
        (push rest s.operands (function_at c.address) s (fits-none rest s h) (is_function c.function c.there c.matches))

    tests :
        (k : Option (Heap R)) (i : Instruction ℕ) (rest : List (ValueType R)) (s : State R)
        → Fits W P B I s.store C.sets (rest ++ reference_type true k ∷ []) s
        → Q s.store [] (rest ++ val i32 ∷ []) (step_as W P again B I role.testing_null i s)
    tests k i rest s h =
        on_top 1 [] (rest ++ val i32 ∷ []) rest (reference_type true k ∷ []) s
        (λ below top. on_reference (pushing below (i32_value 1) s) (λ v. pushing below (i32_value 0) s) top) refl h
        (λ below top f q. on_reference-promised (Q s.store [] (rest ++ val i32 ∷ [])) k (pushing below (i32_value 1) s)
        (λ v. pushing below (i32_value 0) s) top q
        (push rest below (i32_value 1) s f is_i32) (λ v t. push rest below (i32_value 0) s f is_i32))

    asserts :
        (k : Option (Heap R)) (i : Instruction ℕ) (rest : List (ValueType R)) (s : State R) → Fits W P B I s.store C.sets (rest ++ reference_type true k ∷ []) s
        → Q s.store [] (rest ++ reference_type false k ∷ []) (step_as W P again B I role.asserting_non_null i s)
    asserts k i rest s h =
        on_top 1 [] (rest ++ reference_type false k ∷ []) rest (reference_type true k ∷ []) s
        (λ below top. on_reference (leaves traps) (λ v. pushing below v s) top) refl h
        (λ below top f q. on_reference-promised (Q s.store [] (rest ++ reference_type false k ∷ [])) k (leaves traps) (λ v. pushing below v s) top q
        (leaving trapping) (λ v t. push rest below v s f t))

    branches_on_null :
        (l : ℕ) (ls : List (Val R)) (k : Option (Heap R)) (i : Instruction ℕ) (rest : List (ValueType R)) (s : State R) → slice_get C.labels l ≡ Some ls
        → Fits W P B I s.store C.sets (rest ++ (vals ls ++ reference_type true k ∷ [])) s
        → Q s.store [] (rest ++ (vals ls ++ reference_type false k ∷ [])) (step_as W P again B I (role.branching_on_null l) i s)
    branches_on_null l ls k i rest s e h =
        on_top 1 [] (rest ++ (vals ls ++ reference_type false k ∷ [])) (rest ++ vals ls) (reference_type true k ∷ []) s
        (λ below top. on_reference (leaves (branches l (holding below s))) (λ v. pushing below v s) top) refl
        (fits-left rest (vals ls) (reference_type true k ∷ []) s h)
        (λ below top f q. on_reference-promised (Q s.store [] (rest ++ (vals ls ++ reference_type false k ∷ []))) k (leaves (branches l (holding below s)))
        (λ v. pushing below v s) top q
        (leaving (branching ls rest e f))
        (λ v t. gives-left rest (vals ls) (reference_type false k ∷ []) (pushing below v s) (push (rest ++ vals ls) below v s f t)))

    any-null : (b : Bool) (k : Heap R) → matches_type W (val (reference_at false k)) (val (reference_at b k)) ≡ true
    any-null b k = a.in_order.itself k

    -- operands with one more on top, where a label takes them
    sends :
        (l : ℕ) (sent : List (Val R)) (last : Val R) (us rest : List (ValueType R)) (below : List (Value R)) (v : Value R) (s : State R)
        → slice_get C.labels l ≡ Some (sent ++ last ∷ [])
        → Fits W P B I s.store C.sets (rest ++ vals sent) (holding below s) → HasType W s.store v (val last)
        → Q s.store [] us (leaves (branches l (holding (below ++ v ∷ []) s)))
    sends l sent last us rest below v s e f t =
        leaving (branching (sent ++ last ∷ []) rest e
        (fits-with W P B I (below ++ v ∷ []) f
        (subst (λ (z : List (ValueType R)). HaveTypes W s.store (below ++ v ∷ []) z)
        (append_assoc rest (vals sent) (val last ∷ []) ∙ ap (λ (z : List (ValueType R)). rest ++ z) (sym (vals-append sent (last ∷ []))))
        (types-append f.operands (and_value t no_values)))))

    branches_on_non_null :
        (l : ℕ) (sent : List (Val R)) (r : Ref R) (i : Instruction ℕ) (rest : List (ValueType R)) (s : State R)
        → slice_get C.labels l ≡ Some (sent ++ reference r ∷ [])
        → Fits W P B I s.store C.sets (rest ++ (vals sent ++ val (reference_at true r.heap) ∷ [])) s
        → Q s.store [] (rest ++ vals sent) (step_as W P again B I (role.branching_on_non_null l) i s)
    branches_on_non_null l sent r i rest s e h =
        on_top 1 [] (rest ++ vals sent) (rest ++ vals sent) (val (reference_at true r.heap) ∷ []) s
        (λ below top. on_reference (falls_through (holding below s)) (λ v. leaves (branches l (holding (below ++ v ∷ []) s))) top) refl
        (fits-left rest (vals sent) (val (reference_at true r.heap) ∷ []) s h)
        (λ below top f q. on_reference-promised (Q s.store [] (rest ++ vals sent)) (Some r.heap) (falls_through (holding below s))
        (λ v. leaves (branches l (holding (below ++ v ∷ []) s))) top q
        (falling f)
        (λ v t. sends l sent (reference r) (rest ++ vals sent) rest below v s e f
        (type-match W a.in_order s.store (val (reference_at false r.heap)) (val (reference r)) (any-null r.nullable r.heap) t)))

    -- casts
    branches_on_cast :
        (l : ℕ) (q : Ref ℕ) (ts : List (ValueType R)) (c : Casts W B C l q ts) (i : Instruction ℕ) (rest : List (ValueType R)) (s : State R)
        → matches_val W (reference c.to) c.last ≡ true
        → Fits W P B I s.store C.sets (rest ++ (vals c.sent ++ val (reference c.from) ∷ [])) s
        → Q s.store [] (rest ++ (vals c.sent ++ val (reference c.lacking) ∷ [])) (step_as W P again B I (role.branching_on_cast l q) i s)
    branches_on_cast l q ts c i rest s m h =
        let us = rest ++ (vals c.sent ++ val (reference c.lacking) ∷ []) in
        on_top 1 [] us (rest ++ vals c.sent) (val (reference c.from) ∷ []) s
        (λ below top. on_some (λ r. on_one (λ v. by_cast W P again B I (λ b. b) l s below v (is_of W s.store r v)) top) (resolve_ref B.context.types q)) refl
        (fits-left rest (vals c.sent) (val (reference c.from) ∷ []) s h)
        (λ below top f t. on_some-promised (Q s.store [] us) (λ r. on_one (λ v. by_cast W P again B I (λ b. b) l s below v (is_of W s.store r v)) top)
        (resolve_ref B.context.types q) c.to c.is
        (on_one-promised (Q s.store [] us) (λ v. by_cast W P again B I (λ b. b) l s below v (is_of W s.store c.to v)) top t
        (λ v k. either-promised (Q s.store [] us) (is_of W s.store c.to v) (leaves (branches l (holding (below ++ v ∷ []) s))) (pushing below v s)
        (λ e. sends l c.sent c.last us rest below v s c.there f
        (type-match W a.in_order s.store (val (reference c.to)) (val c.last) m (cast-has W s.store c.from c.to k e)))
        (λ e. gives-left rest (vals c.sent) (val (reference c.lacking) ∷ []) (pushing below v s)
        (push (rest ++ vals c.sent) below v s f (cast-lacks W s.store c.from c.to c.lacking c.same_heap c.same_null k e))))))

    branches_on_failure :
        (l : ℕ) (q : Ref ℕ) (ts : List (ValueType R)) (c : Casts W B C l q ts) (i : Instruction ℕ) (rest : List (ValueType R)) (s : State R)
        → matches_val W (reference c.lacking) c.last ≡ true
        → Fits W P B I s.store C.sets (rest ++ (vals c.sent ++ val (reference c.from) ∷ [])) s
        → Q s.store [] (rest ++ (vals c.sent ++ val (reference c.to) ∷ [])) (step_as W P again B I (role.branching_on_failure l q) i s)
    branches_on_failure l q ts c i rest s m h =
        let us = rest ++ (vals c.sent ++ val (reference c.to) ∷ []) in
        on_top 1 [] us (rest ++ vals c.sent) (val (reference c.from) ∷ []) s
        (λ below top. on_some (λ r. on_one (λ v. by_cast W P again B I not l s below v (is_of W s.store r v)) top) (resolve_ref B.context.types q)) refl
        (fits-left rest (vals c.sent) (val (reference c.from) ∷ []) s h)
        (λ below top f t. on_some-promised (Q s.store [] us) (λ r. on_one (λ v. by_cast W P again B I not l s below v (is_of W s.store r v)) top)
        (resolve_ref B.context.types q) c.to c.is
        (on_one-promised (Q s.store [] us) (λ v. by_cast W P again B I not l s below v (is_of W s.store c.to v)) top t
        (λ v k. either-promised (Q s.store [] us) (not (is_of W s.store c.to v)) (leaves (branches l (holding (below ++ v ∷ []) s))) (pushing below v s)
        (λ e. sends l c.sent c.last us rest below v s c.there f
        (type-match W a.in_order s.store (val (reference c.lacking)) (val c.last) m
        (cast-lacks W s.store c.from c.to c.lacking c.same_heap c.same_null k (not-true (is_of W s.store c.to v) e))))
        (λ e. gives-left rest (vals c.sent) (val (reference c.to) ∷ []) (pushing below v s)
        (push (rest ++ vals c.sent) below v s f (cast-has W s.store c.from c.to k (not-false (is_of W s.store c.to v) e)))))))

    -- branches by descriptors
    has-described :
        (q : Ref ℕ) (from to : Ref R) (k : Heap R) (d : Value R) {v : Value R} (S : Store R)
        → resolve_ref B.context.types q ≡ Some to → descriptor_heap W B q.heap ≡ Some k → StoreFits W P S → InstanceFits W P S B I
        → HasType W S d (val (reference_at false k)) → HasType W S v (val (reference from)) → is_described P S to d v ≡ true → HasType W S v (val (reference to))
    has-described q from to k d S e f g h w (is_null n) m = is_null m
    has-described q from to k d S e f g h w (is_function {a = x} z i j) m = a.keep.describes q to from k B I d (function_at x) S e f g h w (is_function z i j) m
    has-described q from to k d S e f g h w (is_exception {a = x} z i j) m = a.keep.describes q to from k B I d (exception_at x) S e f g h w (is_exception z i j) m
    has-described q from to k d S e f g h w (is_other {h = x} {n = n} i j) m = a.keep.describes q to from k B I d (other x n) S e f g h w (is_other i j) m

    lacks-described :
        (from to lacking : Ref R) (d : Value R) {v : Value R} (S : Store R) → lacking.heap ≡ from.heap → (to.nullable ≡ false → lacking.nullable ≡ from.nullable)
        → HasType W S v (val (reference from)) → is_described P S to d v ≡ false → HasType W S v (val (reference lacking))
    lacks-described from to lacking d S w n (is_null m) e = is_null (n e ∙ m)
    lacks-described from to lacking d S w n (is_function f i m) e = is_function f i (ap (matches_heap W (exact f.type)) w ∙ m)
    lacks-described from to lacking d S w n (is_exception x i m) e = is_exception x i (ap (matches_heap W exception_heap) w ∙ m)
    lacks-described from to lacking d S w n (is_other {h = x} i m) e = is_other i (ap (matches_heap W x) w ∙ m)

    by_descriptor :
        (sends_it : Bool → Bool) (l : ℕ) (q : Ref ℕ) (ts us : List (ValueType R)) (c : Casts W B C l q ts) (k : Heap R) (rest : List (ValueType R)) (s : State R)
        → descriptor_heap W B q.heap ≡ Some k
        → ((below : List (Value R)) (d v : Value R) → Fits W P B I s.store C.sets (rest ++ vals c.sent) (holding below s)
        → HasType W s.store d (val (reference_at false k)) → HasType W s.store v (val (reference c.from))
        → (sends_it (is_described P s.store c.to d v) ≡ true → Q s.store [] us (leaves (branches l (holding (below ++ v ∷ []) s))))
        × (sends_it (is_described P s.store c.to d v) ≡ false → Q s.store [] us (pushing below v s)))
        → Fits W P B I s.store C.sets (rest ++ ((vals c.sent ++ val (reference c.from) ∷ []) ++ val (reference_at true k) ∷ [])) s
        → Q s.store [] us (with_top 1 s.operands (λ below top. on_reference (leaves traps) (λ d. by_description W P again B I sends_it l q (holding below s) d) top))
    by_descriptor sends_it l q ts us c k rest s e g h =
        on_top 1 [] us (rest ++ (vals c.sent ++ val (reference c.from) ∷ [])) (val (reference_at true k) ∷ []) s
        (λ below top. on_reference (leaves traps) (λ d. by_description W P again B I sends_it l q (holding below s) d) top) refl
        (fits-left rest (vals c.sent ++ val (reference c.from) ∷ []) (val (reference_at true k) ∷ []) s h)
        (λ left top f t. on_reference-promised (Q s.store [] us) (Some k) (leaves traps) (λ d. by_description W P again B I sends_it l q (holding left s) d) top t
        (leaving trapping)
        (λ d w. on_top 1 [] us (rest ++ vals c.sent) (val (reference c.from) ∷ []) (holding left s)
        (λ below top. on_some (λ r. on_one (λ v. by_cast W P again B I sends_it l (holding left s) below v (is_described P s.store r d v)) top) (resolve_ref B.context.types q)) refl
        (fits-left rest (vals c.sent) (val (reference c.from) ∷ []) (holding left s) f)
        (λ below top j t. on_some-promised (Q s.store [] us)
        (λ r. on_one (λ v. by_cast W P again B I sends_it l (holding left s) below v (is_described P s.store r d v)) top)
        (resolve_ref B.context.types q) c.to c.is
        (on_one-promised (Q s.store [] us) (λ v. by_cast W P again B I sends_it l (holding left s) below v (is_described P s.store c.to d v)) top t
        (λ v m. let y = g below d v j w m in
        either-promised (Q s.store [] us) (sends_it (is_described P s.store c.to d v)) (leaves (branches l (holding (below ++ v ∷ []) s))) (pushing below v s) y.0 y.1)))))

    branches_on_description :
        (l : ℕ) (q : Ref ℕ) (ts : List (ValueType R)) (c : Casts W B C l q ts) (k : Heap R) (i : Instruction ℕ) (rest : List (ValueType R)) (s : State R)
        → descriptor_heap W B q.heap ≡ Some k → matches_val W (reference c.to) c.last ≡ true
        → Fits W P B I s.store C.sets (rest ++ ((vals c.sent ++ val (reference c.from) ∷ []) ++ val (reference_at true k) ∷ [])) s
        → Q s.store [] (rest ++ (vals c.sent ++ val (reference c.lacking) ∷ [])) (step_as W P again B I (role.branching_on_description l q) i s)
    branches_on_description l q ts c k i rest s e m h =
        let us = rest ++ (vals c.sent ++ val (reference c.lacking) ∷ []) in
        by_descriptor (λ b. b) l q ts us c k rest s e
        (λ below d v f w t. (
          (λ y. sends l c.sent c.last us rest below v s c.there f
              (type-match W a.in_order s.store (val (reference c.to)) (val c.last) m (has-described q c.from c.to k d s.store c.is e h.store h.instance w t y))),
          (λ y. gives-left rest (vals c.sent) (val (reference c.lacking) ∷ []) (pushing below v s)
              (push (rest ++ vals c.sent) below v s f (lacks-described c.from c.to c.lacking d s.store c.same_heap c.same_null t y))),
        ))
        h

    branches_on_no_description :
        (l : ℕ) (q : Ref ℕ) (ts : List (ValueType R)) (c : Casts W B C l q ts) (k : Heap R) (i : Instruction ℕ) (rest : List (ValueType R)) (s : State R)
        → descriptor_heap W B q.heap ≡ Some k → matches_val W (reference c.lacking) c.last ≡ true
        → Fits W P B I s.store C.sets (rest ++ ((vals c.sent ++ val (reference c.from) ∷ []) ++ val (reference_at true k) ∷ [])) s
        → Q s.store [] (rest ++ (vals c.sent ++ val (reference c.to) ∷ [])) (step_as W P again B I (role.branching_on_no_description l q) i s)
    branches_on_no_description l q ts c k i rest s e m h =
        let us = rest ++ (vals c.sent ++ val (reference c.to) ∷ []) in
        by_descriptor not l q ts us c k rest s e
        (λ below d v f w t. (
          (λ y. sends l c.sent c.last us rest below v s c.there f
              (type-match W a.in_order s.store (val (reference c.lacking)) (val c.last) m
              (lacks-described c.from c.to c.lacking d s.store c.same_heap c.same_null t (not-true (is_described P s.store c.to d v) y)))),
          (λ y. gives-left rest (vals c.sent) (val (reference c.to) ∷ []) (pushing below v s)
              (push (rest ++ vals c.sent) below v s f
              (has-described q c.from c.to k d s.store c.is e h.store h.instance w t (not-false (is_described P s.store c.to d v) y)))),
        ))
        h

    -- continuations that are resumed
    resumed-promised :
        (hs : List Handle) (given : List (Val R)) (below : List (Value R)) (rest ts : List (ValueType R)) (s : State R) (o : Resumed R)
        → HandlesAll W B C given hs → Fits W P B I s.store C.sets ts s → HaveTypes W s.store below rest
        → IsResumed W P B hs s.store (vals given) o → Q s.store [] (rest ++ vals given) (resumed W P again B I hs below s o)
    resumed-promised hs given below rest ts s o c h b (it_ends {r = r} k) = answered-promised W P B I C s below rest (vals given) ts r h b k
    resumed-promised hs given below rest ts s o c h b (it_suspends {k = k} {vs = vs} {v = v} {T = T} y g f t w x p q) =
        let d = handler_is W B C hs k y given f c in
        let same : d.tag ≡ g = the_same d.tag g (sym d.tagged ∙ t) in
        let refers : RefersToContinuation W B g.gives (vals given) d.last = record {
          signature = d.left;
          is = d.refers;
          takes_those = subst (λ (z : Signature R). Match W (vals d.left.takes) (vals z.gives)) same d.goes_on;
          gives_those = d.ends;
        } in
        on_some-promised (Q s.store [] (rest ++ vals given)) (λ z. leaves (branches z.1 (holding (vs ++ v ∷ []) (with_store T s)))) (handler_at hs k) y f
        (leaving (branching (d.sent ++ d.last ∷ []) [] d.labelled (fits-in W P B I (vs ++ v ∷ []) h p q
        (subst (λ (z : List (ValueType R)). HaveTypes W T (vs ++ v ∷ []) z) (sym (vals-append d.sent (d.last ∷ [])))
        (types-append (types-match W a.in_order T w (subst (λ (z : Signature R). Match W (vals z.takes) (vals d.sent)) same d.sends)) (and_value (x d.last refers) no_values))))))

    resumes :
        (hs : List Handle) (i : Instruction ℕ) (ts : List (ValueType R)) (given : List (Val R)) → role_of i ≡ role.resuming hs → is_computing (shape_of i) ≡ true
        → Rule W B C (shape_of i) ts (vals given) → HandlesAll W B C given hs
        → (rest : List (ValueType R)) (s : State R) → Fits W P B I s.store C.sets (rest ++ ts) s → Q s.store [] (rest ++ vals given) (step_as W P again B I (role.resuming hs) i s)
    resumes hs i ts given e c r k rest s h =
        on_some-promised (Q s.store [] (rest ++ vals given)) (λ n. with_top n s.operands (λ below top. resumed W P again B I hs below s (P.resumes i B I top s.store)))
        (operand_count W B (shape_of i)) (length ts)
        (counted W B C (shape_of i) ts (vals given) c r)
        (with_top-promised (Q s.store [] (rest ++ vals given)) (length ts) s.operands
        (λ below top. resumed W P again B I hs below s (P.resumes i B I top s.store)) rest ts refl h.operands
        (λ below top b t. resumed-promised hs given below rest (rest ++ ts) s (P.resumes i B I top s.store) k h b
        (a.keep.resumes i hs B I C ts (vals given) top s.store e r h.store h.instance t)))

    -- exceptions
    throws_new :
        (x : ℕ) (g : Signature R) (below us : List (ValueType R)) (i : Instruction ℕ) (rest : List (ValueType R)) (s : State R)
        → signature_at W B (of_tag x) ≡ Some g
        → Fits W P B I s.store C.sets (rest ++ (below ++ vals g.takes)) s → Q s.store [] us (step_as W P again B I (role.throwing x) i s)
    throws_new x g left us i rest s e h =
        let c : Carries W s.store I x g.takes = h.instance.tags x g e in
        on_some-promised (Q s.store [] us)
        (λ t. on_some (λ ts. with_top (length ts) s.operands (λ below top. leaves (throws (length s.store.exceptions) (threw t top s))))
        (slice_get s.store.tags t)) (slice_get I.tags x) c.address c.known
        (on_some-promised (Q s.store [] us)
        (λ ts. with_top (length ts) s.operands (λ below top. leaves (throws (length s.store.exceptions) (threw c.address top s))))
        (slice_get s.store.tags c.address) g.takes c.there
        (with_top-promised (Q s.store [] us) (length g.takes) s.operands (λ below top. leaves (throws (length s.store.exceptions) (threw c.address top s)))
        (rest ++ left) (vals g.takes) (long g.takes)
        (fits-left rest left (vals g.takes) s h).operands
        (λ below top b q. leaving
        (throwing (record { tag = c.address; values = top }) [] (get-last s.store.exceptions (record { tag = c.address; values = top }))
        (threw-fits W P B I c.address g.takes top s (λ D J w. a.keep.throws D J c.address top s.store w) c.there h q)))))

    throws_again :
        (below us : List (ValueType R)) (i : Instruction ℕ) (rest : List (ValueType R)) (s : State R)
        → Fits W P B I s.store C.sets (rest ++ (below ++ val (reference_at true exception_heap) ∷ [])) s
        → Q s.store [] us (step_as W P again B I role.throwing_again i s)
    throws_again left us i rest s h =
        on_top 1 [] us (rest ++ left) (val (reference_at true exception_heap) ∷ []) s
        (λ below top. on_exception (λ a. leaves (throws a (holding below s))) top) refl
        (fits-left rest left (val (reference_at true exception_heap) ∷ []) s h)
        (λ below top f q. on_exception-promised (Q s.store [] us) (λ a. leaves (throws a (holding below s))) top q (leaving trapping)
        (λ x e j. leaving (throwing e (rest ++ left) j f)))

    -- calls: what is done with the function that is called, and its arguments
    by_index-promised :
        (x n : ℕ) (t : R) (g : Signature R) (us rest : List (ValueType R)) (k : ℕ → State R → Outcome R) (s : State R)
        → slice_get B.context.functions x ≡ Some n → slice_get B.context.types n ≡ Some t
        → Fits W P B I s.store C.sets (rest ++ vals g.takes) s
        → ((y : ℕ) (f : Function R) → slice_get s.store.functions y ≡ Some f → W.below f.type t ≡ true → Q s.store [] us (k y s))
        → Q s.store [] us (with_callee W P again B I (by_index x) k s)
    by_index-promised x n t g us rest k s e i h q =
        let c : Reaches W s.store I x (concrete t) = h.instance.functions x n t e i in
        on_some-promised (Q s.store [] us) (λ a. k a s) (slice_get I.functions x) c.address c.known (q c.address c.function c.there c.matches)

    by_reference-promised :
        (t : R) (g : Signature R) (us rest : List (ValueType R)) (k : ℕ → State R → Outcome R) (s : State R) → signature_in W t ≡ Some g
        → Fits W P B I s.store C.sets (rest ++ (vals g.takes ++ val (reference_at true (concrete t)) ∷ [])) s
        → ((y : ℕ) (f : Function R) (below : List (Value R)) → slice_get s.store.functions y ≡ Some f
        → W.below f.type t ≡ true → Fits W P B I s.store C.sets (rest ++ vals g.takes) (holding below s)
        → Q s.store [] us (k y (holding below s)))
        → Q s.store [] us (with_callee W P again B I by_reference k s)
    by_reference-promised t g us rest k s w h q =
        on_top 1 [] us (rest ++ vals g.takes) (val (reference_at true (concrete t)) ∷ []) s (λ below top. on_function (λ a. k a (holding below s)) top) refl
        (fits-left rest (vals g.takes) (val (reference_at true (concrete t)) ∷ []) s h)
        (λ below top f j. on_function-promised (Q s.store [] us) (record { nullable = true; heap = concrete t }) (concrete-of_functions W a.functions t g w)
        (λ a. k a (holding below s)) top j (leaving trapping)
        (λ y z i m. q y z below i m f))

    by_table-promised :
        (y x : ℕ) (b : Table R) (t : R) (g : Signature R) (us rest : List (ValueType R)) (k : ℕ → State R → Outcome R) (s : State R)
        → slice_get B.context.tables x ≡ Some b
        → matches_val W (reference b.element) (reference_at true (abstract_heap false func_heap)) ≡ true → slice_get B.context.types y ≡ Some t
        → Fits W P B I s.store C.sets (rest ++ (vals g.takes ++ val (address b.is_64) ∷ [])) s
        → ((z : ℕ) (f : Function R) (u : State R) → slice_get u.store.functions z ≡ Some f
        → W.below f.type t ≡ true → Fits W P B I u.store C.sets (rest ++ vals g.takes) u → Q u.store [] us (k z u))
        → Q s.store [] us (with_callee W P again B I (by_table y x) k s)
    by_table-promised y x b t g us rest k s e m w h q =
        on_top 1 [] us (rest ++ vals g.takes) (val (address b.is_64) ∷ []) s
        (λ below top. on_answer (λ v u. on_function (if_of_type W P again B I y k u) (v ∷ [])) (holding below s) (P.finds x B I top s.store)) refl
        (fits-left rest (vals g.takes) (val (address b.is_64) ∷ []) s h)
        (λ below top f j. on_answer-promised W P B I C (holding below s) (val (reference b.element)) (rest ++ vals g.takes) us
        (λ v u. on_function (if_of_type W P again B I y k u) (v ∷ [])) (P.finds x B I top s.store) f
        (a.keep.finds x b B I top s.store e h.store h.instance j)
        (λ v T p c v_has. found below v T f p c
        (type-match W a.in_order T (val (reference b.element)) (val (reference_at true (abstract_heap false func_heap))) m v_has)))
      where
        found :
            (below : List (Value R)) (v : Value R) (T : Store R) → Fits W P B I s.store C.sets (rest ++ vals g.takes) (holding below s) → Grows P s.store T
            → StoreFits W P T
            → HasType W T v (val (reference_at true (abstract_heap false func_heap)))
            → Q s.store [] us (on_function (if_of_type W P again B I y k (with_store T (holding below s))) (v ∷ []))
        found below v T f p c h =
            let u = with_store T (holding below s) in
            let now : Fits W P B I u.store C.sets (rest ++ vals g.takes) u = fits-now W P B I (fits-in W P B I below f p c (types-grow p f.operands)) in
            promised-since W P B I p
            (on_function-promised (Q T [] us) (record { nullable = true; heap = abstract_heap false func_heap }) (func-of_functions W)
            (if_of_type W P again B I y k u) (v ∷ []) (and_value h no_values) (leaving trapping)
            (λ z f i n. on_some-promised (Q T [] us) (λ t. on_some (λ f. either (W.below f.type t) (k z u) (leaves traps)) (slice_get u.store.functions z))
            (slice_get B.context.types y) t w
            (on_some-promised (Q T [] us) (λ f. either (W.below f.type t) (k z u) (leaves traps)) (slice_get u.store.functions z) f i
            (either-promised (Q T [] us) (W.below f.type t) (k z u) (leaves traps) (λ l. q z f u i l now) (λ l. leaving trapping)))))

    -- each instruction
    as_typed :
        {xs : List ℕ} (ts us vs ws rest : List (ValueType R)) (s : State R) (o : Outcome R) → ts ≡ vs → us ≡ ws
        → (Fits W P B I s.store C.sets (rest ++ vs) s → Q s.store xs (rest ++ ws) o)
        → Fits W P B I s.store C.sets (rest ++ ts) s → Q s.store xs (rest ++ us) o
    as_typed {xs = xs} ts us vs ws rest s o e f k h =
        subst (λ (z : List (ValueType R)). Q s.store xs (rest ++ z) o) (sym f)
        (k (subst (λ (z : List (ValueType R)). Fits W P B I s.store C.sets (rest ++ z) s) e h))

    abbrev named : RulesByName W B C
    named = instructions_have_their_rules R W B C

    abbrev typed_by_context : FixedTypes W B C
    typed_by_context = fixed_types_have_their_rules R W B C

    -- what each instruction is to do
    abbrev Stepped : Instruction ℕ → Type 0
    Stepped i =
        (ts us : List (ValueType R)) → Rule W B C (shape_of i) ts us → (rest : List (ValueType R)) (s : State R) → Fits W P B I s.store C.sets (rest ++ ts) s
        → Q s.store (sets_of (shape_of i)) (rest ++ us) (step W P again B I i s)

    control-steps : (op : Control ℕ) → Stepped (instruction.control op)
    control-steps control.unreachable ts us r rest s h = leaving trapping
    control-steps control.nop ts us r rest s h = computes (instruction.control control.nop) ts us refl refl r rest s h
    control-steps (control.throw x) ts us r rest s h =
        let k = (typed_by_context.throw x ts us).0 r in
        as_typed ts us (k.below ++ vals k.tag.takes) us rest s (step W P again B I (instruction.control (control.throw x)) s) k.takes refl
        (throws_new x k.tag k.below (rest ++ us) (instruction.control (control.throw x)) rest s k.there) h
    control-steps control.throw_ref ts us r rest s h =
        let k = (typed_by_context.throw_ref ts us).0 r in
        as_typed ts us (k.below ++ val (reference_at true exception_heap) ∷ []) us rest s
        (step W P again B I (instruction.control control.throw_ref) s) k.takes refl
        (throws_again k.below (rest ++ us) (instruction.control control.throw_ref) rest s) h
    control-steps (control.br l) ts us r rest s h =
        let k = (named.br l ts us).0 r in
        as_typed ts us (k.below ++ vals k.sent) us rest s (leaves (branches l s)) k.takes refl (branches_to l k.sent k.below (rest ++ us) rest s k.there) h
    control-steps (control.br_if l) ts us r rest s h =
        let k = (named.br_if l ts us).0 r in
        as_typed ts us (vals k.sent ++ val i32 ∷ []) (vals k.sent) rest s (step W P again B I (instruction.control (control.br_if l)) s) k.takes k.gives
        (branches_if l k.sent (instruction.control (control.br_if l)) rest s k.there) h
    control-steps (control.br_table ls l) ts us r rest s h =
        let k = (named.br_table ls l ts us).0 r in
        as_typed ts us (k.below ++ (k.sent ++ val i32 ∷ [])) us rest s (step W P again B I (instruction.control (control.br_table ls l)) s) k.takes refl
        (branches_by_table ls l k.sent k.below us (instruction.control (control.br_table ls l)) rest s k.there) h
    control-steps control.return_ ts us r rest s h =
        let k = (named.return_ ts us).0 r in
        as_typed ts us (k.below ++ vals k.sent) us rest s (leaves (returns s)) k.takes refl (returns_to k.sent k.below (rest ++ us) rest s k.there) h
    control-steps (control.block b) ts us r rest s h = elim r [ ]
    control-steps (control.loop b) ts us r rest s h = elim r [ ]
    control-steps (control.if_ b) ts us r rest s h = elim r [ ]
    control-steps control.else_ ts us r rest s h = elim r [ ]
    control-steps control.end_ ts us r rest s h = elim r [ ]
    control-steps (control.try_table b cs) ts us r rest s h = elim r [ ]

    legacy-steps : (op : Legacy ℕ) → Stepped (instruction.legacy op)
    legacy-steps (legacy.rethrow l) ts us r rest s h = let k = (named.rethrow l ts us).0 r in leaving (rethrowing (rest ++ ts) k.there h)
    legacy-steps (legacy.try_ b) ts us r rest s h = elim r [ ]
    legacy-steps (legacy.catch_ x) ts us r rest s h = elim r [ ]
    legacy-steps (legacy.delegate l) ts us r rest s h = elim r [ ]
    legacy-steps legacy.catch_all ts us r rest s h = elim r [ ]

    call-steps : (op : CallOperator) → Stepped (instruction.call op)
    call-steps (Call x) ts us r rest s h =
        let k = (typed_by_context.call x ts us).0 r in
        let t = function_signed W B C x k.callee k.there in
        as_typed ts us (vals k.callee.takes) (vals k.callee.gives) rest s (step W P again B I (instruction.call (Call x)) s) k.takes k.gives
        (λ w. by_index-promised x t.0 t.1 k.callee (rest ++ vals k.callee.gives) rest (invoke W P again) s t.2 t.3 w
        (λ y f e m. invoke-as y f t.1 k.callee rest s e m t.4 w)) h
    call-steps (CallRef y) ts us r rest s h =
        let k = calls_by_reference W B C (has function_references ∷ reaches_type y ∷ []) y ts us r in
        let g = k.callee.callee in
        let t = k.callee.type in
        as_typed ts us (vals g.takes ++ val (reference_at true (concrete t)) ∷ []) (vals g.gives) rest s (step W P again B I (instruction.call (CallRef y)) s)
        (k.takes ∙ k.callee.takes) k.gives
        (λ w. by_reference-promised t g (rest ++ vals g.gives) rest (invoke W P again) s k.callee.signed w
        (λ z f below e m j. invoke-as z f t g rest (holding below s) e m k.callee.signed j)) h
    call-steps (CallIndirect y x) ts us r rest s h =
        let k = calls_by_table W B C y x ts us r in
        let g = k.callee.callee in
        let t = k.callee.type in
        as_typed ts us (vals g.takes ++ val (address k.callee.table.is_64) ∷ []) (vals g.gives) rest s
        (step W P again B I (instruction.call (CallIndirect y x)) s) (k.takes ∙ k.callee.takes) k.gives
        (λ w. by_table-promised y x k.callee.table t g (rest ++ vals g.gives) rest (invoke W P again) s k.callee.there_is k.callee.of_functions k.callee.named w
        (λ z f u e m j. invoke-as z f t g rest u e m k.callee.signed j)) h
    call-steps (ReturnCall x) ts us r rest s h =
        let k = (named.return_call x ts us).0 r in
        let t = function_signed W B C x k.callee k.there in
        as_typed ts us (k.below ++ vals k.callee.takes) us rest s (step W P again B I (instruction.call (ReturnCall x)) s) k.takes refl
        (λ w. let v = fits-left rest k.below (vals k.callee.takes) s w in
        by_index-promised x t.0 t.1 k.callee (rest ++ us) (rest ++ k.below) (invoke_in_place W P again) s t.2 t.3 v
        (λ y f e m. in_place-as (rest ++ us) y f t.1 k.callee k.results (rest ++ k.below) s e m t.4 k.returned
        (true-match W k.callee.gives k.results k.matches) v)) h
    call-steps (ReturnCallRef y) ts us r rest s h =
        let k = calls_by_reference_in_place W B C (has function_references) (reaches_type y) y ts us r in
        let g = k.callee.callee in
        let t = k.callee.type in
        as_typed ts us (k.below ++ (vals g.takes ++ val (reference_at true (concrete t)) ∷ [])) us rest s
        (step W P again B I (instruction.call (ReturnCallRef y)) s)
        (k.takes ∙ ap (λ (z : List (ValueType R)). k.below ++ z) k.callee.takes) refl
        (λ w. by_reference-promised t g (rest ++ us) (rest ++ k.below) (invoke_in_place W P again) s k.callee.signed
        (fits-left rest k.below (vals g.takes ++ val (reference_at true (concrete t)) ∷ []) s w)
        (λ z f below e m j. in_place-as (rest ++ us) z f t g k.returned.results (rest ++ k.below)
        (holding below s) e m k.callee.signed k.returned.returned k.returned.matches j)) h
    call-steps (ReturnCallIndirect y x) ts us r rest s h =
        let k = calls_by_table_in_place W B C y x ts us r in
        let g = k.callee.callee in
        let t = k.callee.type in
        as_typed ts us (k.below ++ (vals g.takes ++ val (address k.callee.table.is_64) ∷ [])) us rest s
        (step W P again B I (instruction.call (ReturnCallIndirect y x)) s)
        (k.takes ∙ ap (λ (z : List (ValueType R)). k.below ++ z) k.callee.takes) refl
        (λ w. by_table-promised y x k.callee.table t g (rest ++ us) (rest ++ k.below)
        (invoke_in_place W P again) s k.callee.there_is k.callee.of_functions k.callee.named
        (fits-left rest k.below (vals g.takes ++ val (address k.callee.table.is_64) ∷ []) s w)
        (λ z f u e m j. in_place-as (rest ++ us) z f t g k.returned.results (rest ++ k.below) u e m k.callee.signed k.returned.returned k.returned.matches j)) h

    parametric-steps : (op : Parametric ℕ) → Stepped (instruction.parametric op)
    parametric-steps control.drop_ ts us r rest s h =
        let k = (named.drop_ ts us).0 r in
        as_typed ts us (k.it ∷ []) [] rest s (step W P again B I (instruction.parametric control.drop_) s) k.takes k.gives
        (drops k.it (instruction.parametric control.drop_) rest s) h
    parametric-steps control.select ts us r rest s h =
        let k = (named.select ts us).0 r in
        as_typed ts us (k.it ∷ k.it ∷ val i32 ∷ []) (k.it ∷ []) rest s (step W P again B I (instruction.parametric control.select) s) k.takes k.gives
        (chooses k.it (instruction.parametric control.select) rest s) h
    parametric-steps (control.select_of []) ts us r rest s h = elim r [ ]
    parametric-steps (control.select_of (v ∷ [])) ts us r rest s h =
        let k = selects_of W B C (has reference_types ∷ allows v ∷ []) v ts us r in
        as_typed ts us (val k.it ∷ val k.it ∷ val i32 ∷ []) (val k.it ∷ []) rest s
        (step W P again B I (instruction.parametric (control.select_of (v ∷ []))) s) k.takes k.gives
        (chooses (val k.it) (instruction.parametric (control.select_of (v ∷ []))) rest s) h
    parametric-steps (control.select_of (v ∷ w ∷ vs)) ts us r rest s h = elim r [ ]

    variable-steps : (op : VariableOperator) → Stepped (instruction.variable op)
    variable-steps (LocalGet x) ts us r rest s h =
        let k = (named.local_get x ts us).0 r in
        as_typed ts us [] (val k.it.content ∷ []) rest s (step W P again B I (instruction.variable (LocalGet x)) s) k.takes k.gives
        (reads x k.it (instruction.variable (LocalGet x)) rest s k.there k.set) h
    variable-steps (LocalSet x) ts us r rest s h =
        let k = (named.local_set x ts us).0 r in
        as_typed ts us (val k.it.content ∷ []) [] rest s (step W P again B I (instruction.variable (LocalSet x)) s) k.takes k.gives
        (writes x k.it (instruction.variable (LocalSet x)) rest s k.there) h
    variable-steps (LocalTee x) ts us r rest s h =
        let k = (named.local_tee x ts us).0 r in
        as_typed ts us (val k.it.content ∷ []) (val k.it.content ∷ []) rest s (step W P again B I (instruction.variable (LocalTee x)) s) k.takes k.gives
        (gives_back x k.it (instruction.variable (LocalTee x)) rest s k.there) h
    variable-steps (GlobalGet x) ts us r rest s h = computes (instruction.variable (GlobalGet x)) ts us refl refl r rest s h
    variable-steps (GlobalSet x) ts us r rest s h = computes (instruction.variable (GlobalSet x)) ts us refl refl r rest s h

    reference-steps : (op : Reference ℕ) → Stepped (instruction.reference op)
    reference-steps (references.ref_null k) ts us r rest s h =
        let n = gives_a_null W B C (has reference_types ∷ allows (reference_to true k) ∷ []) k ts us r in
        as_typed ts us [] (val (reference_at true n.heap) ∷ []) rest s (step W P again B I (instruction.reference (references.ref_null k)) s) n.takes n.gives
        (gives_null n.heap (instruction.reference (references.ref_null k)) rest s) h
    reference-steps references.ref_is_null ts us r rest s h =
        let k = (named.ref_is_null ts us).0 r in
        as_typed ts us (reference_type true k.heap ∷ []) (val i32 ∷ []) rest s
        (step W P again B I (instruction.reference references.ref_is_null) s) k.takes k.gives
        (tests k.heap (instruction.reference references.ref_is_null) rest s) h
    reference-steps references.ref_eq ts us r rest s h = computes (instruction.reference references.ref_eq) ts us refl refl r rest s h
    reference-steps references.ref_as_non_null ts us r rest s h =
        let k = (named.ref_as_non_null ts us).0 r in
        as_typed ts us (reference_type true k.heap ∷ []) (reference_type false k.heap ∷ []) rest s
        (step W P again B I (instruction.reference references.ref_as_non_null) s) k.takes k.gives
        (asserts k.heap (instruction.reference references.ref_as_non_null) rest s) h
    reference-steps (references.ref_func x) ts us r rest s h =
        let k = (typed_by_context.ref_func x ts us).0 r in
        as_typed ts us [] (val (reference_at false k.it) ∷ []) rest s (step W P again B I (instruction.reference (references.ref_func x)) s) k.takes k.gives
        (names x k.it (instruction.reference (references.ref_func x)) rest s k.there) h
    reference-steps (references.br_on_null l) ts us r rest s h =
        let k = (named.br_on_null l ts us).0 r in
        as_typed ts us (vals k.sent ++ reference_type true k.heap ∷ []) (vals k.sent ++ reference_type false k.heap ∷ []) rest s
        (step W P again B I (instruction.reference (references.br_on_null l)) s) k.takes k.gives
        (branches_on_null l k.sent k.heap (instruction.reference (references.br_on_null l)) rest s k.there) h
    reference-steps (references.br_on_non_null l) ts us r rest s h =
        let k = (named.br_on_non_null l ts us).0 r in
        as_typed ts us (vals k.sent ++ val (reference_at true k.it.heap) ∷ []) (vals k.sent) rest s
        (step W P again B I (instruction.reference (references.br_on_non_null l)) s) k.takes k.gives
        (branches_on_non_null l k.sent k.it (instruction.reference (references.br_on_non_null l)) rest s k.there) h

    cast-steps : (op : Cast ℕ) → Stepped (instruction.cast op)
    cast-steps (references.ref_test q) ts us r rest s h = computes (instruction.cast (references.ref_test q)) ts us refl refl r rest s h
    cast-steps (references.ref_cast q) ts us r rest s h = computes (instruction.cast (references.ref_cast q)) ts us refl refl r rest s h
    cast-steps (references.ref_cast_desc_eq q) ts us r rest s h = computes (instruction.cast (references.ref_cast_desc_eq q)) ts us refl refl r rest s h
    cast-steps (references.br_on_cast l p q) ts us r rest s h =
        let k = are_cast W B C l p q ts us r in
        as_typed ts us (vals k.casts.sent ++ val (reference k.casts.from) ∷ []) (vals k.casts.sent ++ val (reference k.casts.lacking) ∷ []) rest s
        (step W P again B I (instruction.cast (references.br_on_cast l p q)) s) k.casts.takes k.gives
        (branches_on_cast l q ts k.casts (instruction.cast (references.br_on_cast l p q)) rest s k.matches) h
    cast-steps (references.br_on_cast_fail l p q) ts us r rest s h =
        let k = are_not_cast W B C l p q ts us r in
        as_typed ts us (vals k.casts.sent ++ val (reference k.casts.from) ∷ []) (vals k.casts.sent ++ val (reference k.casts.to) ∷ []) rest s
        (step W P again B I (instruction.cast (references.br_on_cast_fail l p q)) s) k.casts.takes k.gives
        (branches_on_failure l q ts k.casts (instruction.cast (references.br_on_cast_fail l p q)) rest s k.matches) h
    cast-steps (references.ref_get_desc x) ts us r rest s h = computes (instruction.cast (references.ref_get_desc x)) ts us refl refl r rest s h
    cast-steps (references.br_on_cast_desc_eq l p q) ts us r rest s h =
        let d = with_descriptor W B C (has descriptor_operators) (has custom_descriptors) (branch_checks l p q (reference q)) q (kept l (reference p)) (kept l (difference p q)) ts us r in
        let k = are_cast W B C l p q d.left us d.rule in
        as_typed ts us ((vals k.casts.sent ++ val (reference k.casts.from) ∷ []) ++ val (reference_at true d.heap) ∷ []) (vals k.casts.sent ++ val (reference k.casts.lacking) ∷ []) rest s
        (step W P again B I (instruction.cast (references.br_on_cast_desc_eq l p q)) s)
        (d.takes ∙ ap (λ (z : List (ValueType R)). z ++ val (reference_at true d.heap) ∷ []) k.casts.takes) k.gives
        (branches_on_description l q d.left k.casts d.heap (instruction.cast (references.br_on_cast_desc_eq l p q)) rest s d.there k.matches) h
    cast-steps (references.br_on_cast_desc_eq_fail l p q) ts us r rest s h =
        let d = with_descriptor W B C (has descriptor_operators) (has custom_descriptors) (branch_checks l p q (difference p q)) q (kept l (reference p)) (kept l (reference q)) ts us r in
        let k = are_not_cast W B C l p q d.left us d.rule in
        as_typed ts us ((vals k.casts.sent ++ val (reference k.casts.from) ∷ []) ++ val (reference_at true d.heap) ∷ []) (vals k.casts.sent ++ val (reference k.casts.to) ∷ []) rest s
        (step W P again B I (instruction.cast (references.br_on_cast_desc_eq_fail l p q)) s)
        (d.takes ∙ ap (λ (z : List (ValueType R)). z ++ val (reference_at true d.heap) ∷ []) k.casts.takes) k.gives
        (branches_on_no_description l q d.left k.casts d.heap (instruction.cast (references.br_on_cast_desc_eq_fail l p q)) rest s d.there k.matches) h

    continuation-steps : (op : Continuation) → Stepped (instruction.continuation op)
    continuation-steps (continuations.cont_new n) ts us r rest s h = computes (instruction.continuation (continuations.cont_new n)) ts us refl refl r rest s h
    continuation-steps (continuations.cont_bind m n) ts us r rest s h = computes (instruction.continuation (continuations.cont_bind m n)) ts us refl refl r rest s h
    continuation-steps (continuations.suspend x) ts us r rest s h = computes (instruction.continuation (continuations.suspend x)) ts us refl refl r rest s h
    continuation-steps (continuations.switch n x) ts us r rest s h = computes (instruction.continuation (continuations.switch n x)) ts us refl refl r rest s h
    continuation-steps (continuations.resume n hs) ts us (plain_rule {us = given} c e f) rest s h =
        resumes hs (instruction.continuation (continuations.resume n hs)) ts given refl refl (plain_rule c e f) (handles W B C n hs given f c.1.1.1) rest s h
    continuation-steps (continuations.resume_throw n x hs) ts us (plain_rule {us = given} c e f) rest s h =
        resumes hs (instruction.continuation (continuations.resume_throw n x hs)) ts given refl refl (plain_rule c e f) (handles W B C n hs given f c.1.1.1.1) rest s h
    continuation-steps (continuations.resume_throw_ref n hs) ts us (plain_rule {us = given} c e f) rest s h =
        resumes hs (instruction.continuation (continuations.resume_throw_ref n hs)) ts given refl refl (plain_rule c e f) (handles W B C n hs given f c.1.1.1) rest s h

    pub steps : (i : Instruction ℕ) → Stepped i
    steps (instruction.control op) ts us r rest s h = control-steps op ts us r rest s h
    steps (instruction.legacy op) ts us r rest s h = legacy-steps op ts us r rest s h
    steps (instruction.call op) ts us r rest s h = call-steps op ts us r rest s h
    steps (instruction.parametric op) ts us r rest s h = parametric-steps op ts us r rest s h
    steps (instruction.variable op) ts us r rest s h = variable-steps op ts us r rest s h
    steps (instruction.reference op) ts us r rest s h = reference-steps op ts us r rest s h
    steps (instruction.cast op) ts us r rest s h = cast-steps op ts us r rest s h
    steps (instruction.table op) ts us r rest s h = computes (instruction.table op) ts us refl (table-computes op) r rest s h
    steps (instruction.access op m) ts us r rest s h = computes (instruction.access op m) ts us refl (access-computes op m) r rest s h
    steps (instruction.memory op) ts us r rest s h = computes (instruction.memory op) ts us refl (memory-computes op) r rest s h
    steps (instruction.constant op) ts us r rest s h = computes (instruction.constant op) ts us refl refl r rest s h
    steps (instruction.numeric op) ts us r rest s h = computes (instruction.numeric op) ts us refl (signature-computes (signature_of op)) r rest s h
    steps (instruction.saturating op) ts us r rest s h =
        computes (instruction.saturating op) ts us refl (signature-computes (saturating_signature_of op)) r rest s h
    steps (instruction.conversion op) ts us r rest s h = computes (instruction.conversion op) ts us refl (conversion-computes op) r rest s h
    steps (instruction.structure op) ts us r rest s h = computes (instruction.structure op) ts us refl (struct-computes op) r rest s h
    steps (instruction.array op) ts us r rest s h = computes (instruction.array op) ts us refl (array-computes op) r rest s h
    steps (instruction.vector op values) ts us r rest s h = computes (instruction.vector op values) ts us refl (form-computes values) r rest s h
    steps (instruction.atomic op values) ts us r rest s h = computes (instruction.atomic op values) ts us refl (form-computes values) r rest s h
    steps (instruction.wide op) ts us r rest s h = computes (instruction.wide op) ts us refl (wide-computes op) r rest s h
    steps (instruction.shared op values) ts us r rest s h =
        computes (instruction.shared op values) ts us refl (access_form-computes (shareds.shared_form_of op) values) r rest s h
    steps (instruction.continuation op) ts us r rest s h = continuation-steps op ts us r rest s h
