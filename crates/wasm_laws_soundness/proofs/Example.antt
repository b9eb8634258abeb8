-- The small engine keeps its promises, and the example in it fits and computes.
use Rattle.std.proofs.Common.{◌≡◌, refl, sym, ap, subst, ◌∙◌, ℕ, zero, suc, Bool, true, false, not, ◌+◌, ◌&&◌, if◌then◌else◌, List, [], ◌∷◌, ◌++◌, Option, Some, None, is_some, option_map, slice_get}
use Rattle.std.proofs.lemmas.Bool.Decides.{Decides-eqb}
use Rattle.wasm_spec_steps.specs.WasmSpecRules.WasmSpec.Syntax.{Heap, concrete, exact, Val, i32, Comp, func, array, struct, cont, Sub, Field}
use Rattle.wasm_spec_steps.specs.WasmSpecRules.WasmSpec.Features.{Features}
use Rattle.wasm_spec_steps.specs.WasmSpecRules.WasmSpec.SupertypeOrder.{IsAncestor, ancestor_at}
use Rattle.wasm_spec_steps.specs.WasmSpecRules.WasmSpec.MatchingTests.{World, IsWorld, matches_heap}
use Rattle.wasm_spec_steps.specs.WasmSpecRules.WasmSpec.TypeLaws.{KeepsKind}
use Rattle.wasm_spec_steps.specs.WasmSpecRules.Attempts.{◌>>=◌}
use Rattle.wasm_spec_steps.specs.WasmSpecRules.Signatures.{Signature, signature_of}
use Rattle.wasm_operators.specs.Control.{value_block}
use Rattle.wasm_operators.specs.Instructions as instruction
use Rattle.wasm_operators.specs.Instructions.{Instruction}
use Rattle.wasm_operators.specs.WasmOperatorsPlain.declared.constants.ConstantOperator.{ConstantOperator}
use Rattle.wasm_operators.specs.WasmOperatorsPlain.declared.constants.ConstantOperator.TheVariants.{I32Const}
use Rattle.wasm_operators.specs.WasmOperatorsPlain.declared.memories.MemoryOperator.{MemoryOperator}
use Rattle.wasm_operators.specs.WasmOperatorsPlain.declared.memories.MemoryOperator.TheVariants.{I32Load8U, I32Store8}
use Rattle.wasm_operators.specs.WasmOperatorsPlain.declared.memories.MemArg.{MemArg}
use Rattle.wasm_operators.specs.WasmOperatorsPlain.declared.numeric.NumericOperator.{NumericOperator}
use Rattle.wasm_operators.specs.WasmOperatorsPlain.declared.numeric.NumericOperator.TheVariants.{I32Add, I32Sub, I32Mul}
use Rattle.wasm_operators.specs.WasmOperatorsPlain.declared.structs.StructOperator.{StructOperator}
use Rattle.wasm_operators.specs.WasmOperatorsPlain.declared.structs.StructOperator.TheVariants.{StructNew, StructGet}
use Rattle.wasm_operators.specs.WasmOperatorsPlain.declared.variables.VariableOperator.TheVariants.{LocalGet}
use Rattle.wasm_spec_steps.specs.Bodies.{Surroundings}
use Rattle.wasm_spec_steps.specs.Shapes.{shape_of}
use Rattle.wasm_spec_steps.specs.Meanings.{function_heap, fields_of, fields_at, exact_if, unpack_field}
use Rattle.wasm_spec_instructions.specs.Code.{Code, done, simply}
use Rattle.wasm_spec_instructions.specs.ValueTypes.{ValueType, val, vals, reference_at, IsInOrder}
use Rattle.wasm_spec_instructions.specs.Scopes.{Scope, behind}
use Rattle.wasm_spec_instructions.specs.Rules.{sets_of, Rule, plain_rule}
use Rattle.wasm_spec_instructions.specs.Sequences.{Typed, instruction_rule, if_else_rule, sequence_rule, frame_rule}
use Rattle.wasm_spec_instructions.specs.Expressions.{body_scope}
use Rattle.wasm_spec_instructions.proofs.Attempts.{no, the_same, absent}
use Rattle.wasm_spec_instructions.proofs.OperandFits.{match-itself}
use Rattle.wasm_spec_instructions.proofs.FixedTypeRules.{fixed_types_have_their_rules}
use Rattle.wasm_spec_instructions.proofs.Orders.{worlds_are_in_order}
use Rattle.wasm_laws_soundness.specs.Values.{Value, i32_value, other, Instance, Definition, defined, hosted, Function, Store, signature_in, is_apart, is_i32, is_other, no_values, and_value}
use Rattle.wasm_laws_soundness.specs.Outcomes.{Answer, gives, Primitives}
use Rattle.wasm_laws_soundness.specs.StoreValidity.{Grows, Reaches, InstanceFits, IsTypedCode, IsTypedFunction, StoreFits, IsKept, gives_them, may_fail, FunctionsMatch}
use Rattle.wasm_laws_soundness.proofs.Values.{grows-refl}
use Rattle.wasm_laws_soundness.proofs.Outcomes.{function-grows, exception-grows}
use Rattle.wasm_laws_soundness.specs.Promises.{it_ends, KeepsPromises}
use Rattle.wasm_laws_soundness.specs.Example.{bits_of, number, of_two, calculated, given, with_contents, row_at, number_in, written, stored, accessed, made, read_as, content_at, structured, computed, small, declared_there, small_world, product, factorial_code, around_it, its_instance, factorial, its_store, ExampleWorks}

module _ {R : Type 0} (W : World R) (o : IsInOrder W) where
  -- other contents
  grown : (rows : List (List (Value R))) (S : Store R) → Grows (small W) S (with_contents rows S)
  grown rows S = record { functions = λ a f e. e; tags = λ a ts e. e; exceptions = λ a f e. e; others = λ B I e. refl }

  still-fits : (rows : List (List (Value R))) (S : Store R) → StoreFits W (small W) S → StoreFits W (small W) (with_contents rows S)
  still-fits rows S h =
      record {
        functions = λ a f e. function-grows W (small W) (grown rows S) (h.functions a f e);
        exceptions = λ a f e. exception-grows W (small W)
            (grown rows S) (h.exceptions a f e);
      }

  abbrev Kept : Store R → List (Val R) → Answer R → Type 0
  Kept S us answer = IsKept W (small W) S (vals us) answer

  as_given : {S : Store R} {answer : Answer R} (us ws : List (Val R)) → Some us ≡ Some ws → Kept S us answer → Kept S ws answer
  as_given {S = S} {answer = answer} us ws e k = subst (λ (z : List (Val R)). Kept S z answer) (the_same us ws e) k

  one_number : (n : ℕ) (S : Store R) → StoreFits W (small W) S → Kept S (i32 ∷ []) (gives (i32_value n ∷ []) S)
  one_number n S h = gives_them (and_value is_i32 no_values) (grows-refl S) h

  of_two-kept : (f : ℕ → ℕ → ℕ) (vs : List (Value R)) (S : Store R) → StoreFits W (small W) S → Kept S (i32 ∷ []) (of_two f vs S)
  of_two-kept f (i32_value a ∷ i32_value b ∷ []) S h = one_number (f a b) S h
  of_two-kept f _ S h = may_fail

  number_in-kept : (o : Option (Value R)) (S : Store R) → StoreFits W (small W) S → Kept S (i32 ∷ []) (number_in o S)
  number_in-kept (Some (i32_value n)) S h = one_number n S h
  number_in-kept _ S h = may_fail

  module _ (B : Surroundings R) (C : Scope R) where
    calculated-kept :
        (op : NumericOperator) (ts us : List (ValueType R)) (vs : List (Value R)) (S : Store R) → Rule W B C (shape_of (instruction.numeric op)) ts us
        → StoreFits W (small W) S → IsKept W (small W) S us (calculated op vs S)
    calculated-kept I32Add ts us vs S (plain_rule {us = us'} c e f) h = as_given (i32 ∷ []) us' f (of_two-kept _ vs S h)
    calculated-kept I32Sub ts us vs S (plain_rule {us = us'} c e f) h = as_given (i32 ∷ []) us' f (of_two-kept _ vs S h)
    calculated-kept I32Mul ts us vs S (plain_rule {us = us'} c e f) h = as_given (i32 ∷ []) us' f (of_two-kept _ vs S h)
    calculated-kept _ ts us vs S r h = may_fail

    given-kept :
        (op : ConstantOperator) (ts us : List (ValueType R)) (S : Store R) → Rule W B C (shape_of (instruction.constant op)) ts us → StoreFits W (small W) S
        → IsKept W (small W) S us (given op S)
    given-kept (I32Const n) ts us S (plain_rule {us = us'} c e f) h = as_given (i32 ∷ []) us' f (one_number (bits_of n) S h)
    given-kept _ ts us S r h = may_fail

    written-kept : (m : Option ℕ) (a n : ℕ) (S : Store R) (row : Option (List (Value R))) → StoreFits W (small W) S → Kept S [] (written m a n S row)
    written-kept (Some m) a n S (Some row) h = gives_them no_values (grown _ S) (still-fits _ S h)
    written-kept (Some m) a n S None h = may_fail
    written-kept None a n S row h = may_fail

    stored-kept : (m : Option ℕ) (a n : ℕ) (S : Store R) (b : Option (Value R)) → StoreFits W (small W) S → Kept S [] (stored m a n S b)
    stored-kept m a n S None h = may_fail
    stored-kept m a n S (Some b) h = written-kept m a n S (row_at S m) h

    accessed-kept :
        (op : MemoryOperator) (m : MemArg) (I : Instance) (ts us : List (ValueType R)) (vs : List (Value R)) (S : Store R)
        → Rule W B C (shape_of (instruction.access op m)) ts us → StoreFits W (small W) S
        → IsKept W (small W) S us (accessed op m I vs S)
    accessed-kept I32Load8U m I ts us (i32_value a ∷ []) S (plain_rule {us = us'} c e f) h =
        as_given (i32 ∷ []) us' f (number_in-kept (row_at S (slice_get I.others m.memory) >>= λ row. slice_get row (a + m.offset)) S h)
    accessed-kept I32Store8 m I ts us (i32_value a ∷ i32_value n ∷ []) S (plain_rule {us = us'} c e f) h =
        as_given [] us' f
        (stored-kept (slice_get I.others m.memory) (a + m.offset) n S (row_at S (slice_get I.others m.memory) >>= λ row. slice_get row (a + m.offset)) h)
    accessed-kept _ m I ts us vs S r h = may_fail

    -- the type of a structure is none of functions
    apart_as : (b : Bool) (a : R) → is_apart W (concrete a) ≡ true → is_apart W (if b then exact a else concrete a) ≡ true
    apart_as true a e = e
    apart_as false a e = e

    structure-apart :
        (d : Option (Sub R)) (xs : List (Field R)) → (option_map (λ (s : Sub R). s.comp) d >>= fields_of) ≡ Some xs
        → not (is_some (d >>= λ s. signature_of s.comp)) ≡ true
    structure-apart None xs e = refl
    structure-apart (Some s) xs e = comp-apart s.comp e
      where
        comp-apart : (c : Comp R) → fields_of c ≡ Some xs → not (is_some (signature_of c)) ≡ true
        comp-apart (struct ys) e = refl
        comp-apart (array y) e = refl
        comp-apart (cont y) e = refl
        comp-apart (func ps rs) e = absurd (absent xs e)

    made-kept :
        (x : ℕ) (a : R) (xs : List (Field R)) (vs : List (Value R)) (S : Store R) → slice_get B.context.types x ≡ Some a → fields_at W B x ≡ Some xs
        → StoreFits W (small W) S
        → Kept S (reference_at false (exact_if W B true a) ∷ []) (made W B (slice_get B.context.types x) vs S)
    made-kept x a xs vs S e f h =
        subst (λ (z : Option R). Kept S (reference_at false (exact_if W B true a) ∷ []) (made W B z vs S)) (sym e)
        (gives_them
        (and_value
        (is_other
        (apart_as (true && B.features.custom_descriptors) a
        (structure-apart (W.declared a) xs (ap (λ (z : Option R). option_map (λ (s : Sub R). s.comp) (z >>= W.declared) >>= fields_of) (sym e) ∙ f)))
        (o.itself (exact_if W B true a))) no_values)
        (grown _ S) (still-fits _ S h))

    read_as-kept :
        (t : Option (Val R)) (v : Val R) (w : Option (Value R)) (S : Store R) → t ≡ Some v → StoreFits W (small W) S → Kept S (v ∷ []) (read_as W B t w S)
    read_as-kept (Some i32) v w S e h = as_given (i32 ∷ []) (v ∷ []) (ap (λ (z : Option (Val R)). option_map (λ u. u ∷ []) z) e) (number_in-kept w S h)
    read_as-kept _ v w S e h = may_fail

    structured-kept :
        (op : StructOperator) (ts us : List (ValueType R)) (vs : List (Value R)) (S : Store R) → Rule W B C (shape_of (instruction.structure op)) ts us
        → StoreFits W (small W) S
        → IsKept W (small W) S us (structured W B op vs S)
    structured-kept (StructNew x) ts us vs S r h =
        let k = ((fixed_types_have_their_rules R W B C).struct_new x ts us).0 r in
        subst (λ (z : List (ValueType R)). IsKept W (small W) S z (structured W B (StructNew x) vs S)) (sym k.gives)
        (made-kept x k.it k.fields vs S k.is k.there h)
    structured-kept (StructGet x i) ts us (other j n ∷ []) S r h =
        let k = ((fixed_types_have_their_rules R W B C).struct_get x i ts us).0 r in
        subst (λ (z : List (ValueType R)). IsKept W (small W) S z (structured W B (StructGet x i) (other j n ∷ []) S)) (sym k.gives)
        (read_as-kept (content_at W B x i) (unpack_field k.field) (slice_get S.contents n >>= λ row. slice_get row i) S
        (ap (λ (z : Option (Field R)). z >>= λ f. Some (unpack_field f)) k.there) h)
    structured-kept _ ts us vs S r h = may_fail

    computed-kept :
        (i : Instruction ℕ) (I : Instance) (ts us : List (ValueType R)) (vs : List (Value R)) (S : Store R) → Rule W B C (shape_of i) ts us
        → StoreFits W (small W) S → IsKept W (small W) S us (computed W i B I vs S)
    computed-kept (instruction.numeric op) I ts us vs S r h = calculated-kept op ts us vs S r h
    computed-kept (instruction.constant op) I ts us vs S r h = given-kept op ts us S r h
    computed-kept (instruction.access op m) I ts us vs S r h = accessed-kept op m I ts us vs S r h
    computed-kept (instruction.structure op) I ts us vs S r h = structured-kept op ts us vs S r h
    computed-kept _ I ts us vs S r h = may_fail

  pub small-keeps : KeepsPromises W (small W)
  small-keeps = record {
    computes = λ i B I C ts us vs S e r h k v. computed-kept B C i I ts us vs S r h;
    resumes = λ i hs B I C ts us vs S e r h k v. it_ends may_fail;
    describes = λ q r from h B I d v S e f w k i j m. no m;
    finds = λ x t B I vs S e h k v. may_fail;
    acts = λ a k f g vs S e w q h v. may_fail;
    throws = λ B I x vs S e. refl;
  }

-- the world of the example
ancestor : (a b : ℕ) → IsAncestor declared_there a b → a ≡ b
ancestor a b m = go a m.steps m.leads
  where
    go : (a n : ℕ) → ancestor_at declared_there n a ≡ Some b → a ≡ b
    go a zero e = the_same a b e
    go zero (suc n) e = absurd (absent b e)
    go (suc a) (suc n) e = absurd (absent b e)

world-right : IsWorld small_world
world-right = record {
  below = λ a b. ((λ e. record { steps = 0; leads = ap (λ (z : ℕ). Some z) ((Decides-eqb a b).0 e) }), (λ m. (Decides-eqb a b).1 (ancestor a b m)));
  same = Decides-eqb;
}

kinds-kept : (a : ℕ) → KeepsKind declared_there a
kinds-kept a b s m e = record { sub = s; declares = ap declared_there (sym (ancestor a b m)) ∙ e; same_shared = refl; same_kind = refl }

in_order : IsInOrder small_world
in_order = worlds_are_in_order ℕ small_world world-right kinds-kept

functions-match : FunctionsMatch small_world
functions-match a b g e w = (
  g,
  ap (signature_in small_world) ((Decides-eqb a b).0 e) ∙ w,
  match-itself small_world in_order (vals g.takes),
  match-itself small_world in_order
      (vals g.gives),
)

-- the code of the example
module _ (F : Features) where
  abbrev B : Surroundings ℕ
  B = around_it F

  -- one instruction before others
  before :
      {C : Scope ℕ} {i : Instruction ℕ} {d : Code} {ts us vs : List (ValueType ℕ)} {ys : List ℕ} (below : List (ValueType ℕ))
      → Rule small_world B C (shape_of i) ts us
      → Typed small_world B (behind (sets_of (shape_of i)) C) d (below ++ us) ys vs
      → Typed small_world B C (simply i d) (below ++ ts) (ys ++ sets_of (shape_of i)) vs
  before {i = i} {d = d} below r t = sequence_rule {c = simply i done} {d = d} refl (frame_rule below (instruction_rule r)) t

  argument-goes : {C : Scope ℕ} → Rule small_world B C (shape_of (instruction.variable (LocalGet 0))) [] (val i32 ∷ [])
  argument-goes = plain_rule {ts = []} {us = i32 ∷ []} (refl, tt) refl refl

  number-goes : {C : Scope ℕ} (n : ℕ) → Rule small_world B C (shape_of (number n)) [] (val i32 ∷ [])
  number-goes n = plain_rule {ts = []} {us = i32 ∷ []} (refl, tt) refl refl

  product-typed : {C : Scope ℕ} → Typed small_world B C product [] [] (val i32 ∷ [])
  product-typed =
      before [] argument-goes
      (before (val i32 ∷ []) argument-goes
      (before (val i32 ∷ val i32 ∷ []) (number-goes 1)
      (before (val i32 ∷ []) (plain_rule {ts = i32 ∷ i32 ∷ []} {us = i32 ∷ []} (refl, (refl, tt)) refl refl)
      (before (val i32 ∷ []) (plain_rule {ts = i32 ∷ []} {us = i32 ∷ []} (refl, tt) refl refl)
      (instruction_rule (plain_rule {ts = i32 ∷ i32 ∷ []} {us = i32 ∷ []} (refl, (refl, tt)) refl refl))))))

  factorial-typed : Typed small_world B (body_scope (i32 ∷ [])) factorial_code [] [] (val i32 ∷ [])
  factorial-typed =
      before [] argument-goes
      (if_else_rule (value_block i32) (record { takes = []; gives = i32 ∷ [] })
      (record { block = value_block i32; holds = (refl, tt); resolves = refl; signed = refl }) product-typed
      (instruction_rule (number-goes 1)))

  abbrev signature : Signature ℕ
  signature = record { takes = i32 ∷ []; gives = i32 ∷ [] }

  abbrev P : Primitives ℕ
  P = small small_world

  reached :
      (x : ℕ) (h : Heap ℕ) → slice_get its_instance.functions x ≡ Some 0 → matches_heap small_world (exact 0) h ≡ true
      → Reaches small_world (its_store F) its_instance x h
  reached zero h e m = record { address = 0; function = factorial F; known = refl; there = refl; matches = m }
  reached (suc x) h e m = absurd (absent 0 e)

  pub instance-fits : InstanceFits small_world P (its_store F) B its_instance
  instance-fits = record { functions = by_type; references = referenced; tags = λ x g e. absurd (absent g e); others = refl }
    where
      by_type :
          (x n : ℕ) (a : ℕ) → slice_get B.context.functions x ≡ Some n → slice_get B.context.types n ≡ Some a
          → Reaches small_world (its_store F) its_instance x (concrete a)
      by_type zero zero a e f = reached zero (concrete a) refl ((Decides-eqb 0 a).1 (the_same 0 a f))
      by_type zero (suc n) a e f = absurd (absent a f)
      by_type (suc x) n a e f = absurd (absent n e)

      exactly : (b : Bool) (h : Heap ℕ) → Some (if true && b then exact 0 else concrete 0) ≡ Some h → matches_heap small_world (exact 0) h ≡ true
      exactly true h e = ap (matches_heap small_world (exact 0)) (sym (the_same (exact 0) h e))
      exactly false h e = ap (matches_heap small_world (exact 0)) (sym (the_same (concrete 0) h e))

      referenced : (x : ℕ) (h : Heap ℕ) → function_heap small_world B x ≡ Some h → Reaches small_world (its_store F) its_instance x h
      referenced zero h e = reached zero h refl (exactly F.custom_descriptors h e)
      referenced (suc x) h e = absurd (absent h e)

  -- what a definition is asked for
  abbrev TypedAs : Definition ℕ → Type 0
  TypedAs (defined D J c) = IsTypedCode small_world P (its_store F) signature D J c
  TypedAs (hosted k) = Unit {0}

  code-typed : TypedAs (defined B its_instance factorial_code)
  code-typed = record { extra = []; sets = []; locals = refl; typed = factorial-typed; instance = instance-fits }

  function-typed : IsTypedFunction small_world P (its_store F) (factorial F)
  function-typed = record { signature = signature; is = refl; code = λ D J c e. subst TypedAs e code-typed }

  store-fits : StoreFits small_world P (its_store F)
  store-fits = record { functions = there; exceptions = λ a e i. absurd (absent e i) }
    where
      there : (a : ℕ) (f : Function ℕ) → slice_get (its_store F).functions a ≡ Some f → IsTypedFunction small_world P (its_store F) f
      there zero f e = subst (IsTypedFunction small_world P (its_store F)) (the_same (factorial F) f e) function-typed
      there (suc a) f e = absurd (absent f e)

pub example_works : ExampleWorks
example_works F = record {
  sound = record { in_order = in_order; functions = functions-match; keep = small-keeps small_world in_order };
  store = store-fits F;
  instance = instance-fits F;
  computes = refl;
  waits = refl;
  remembers = refl;
}
