-- What the rules say of instructions whose types need more than one look: calls by reference and by a table, branches on casts, `select` of
-- a type, and null; and how many operands plain instructions take.
use Rattle.std.proofs.Common.{◌≡◌, refl, sym, ap, ◌∙◌, ℕ, Bool, true, false, ◌&&◌, if◌then◌else◌, List, [], ◌∷◌, ◌++◌, length, Option, Some, None, option_map, slice_get}
use Rattle.wasm_spec_steps.specs.WasmSpecRules.WasmSpec.Syntax.{func_heap, Heap, abstract_heap, concrete, Ref, Val, i32, reference, Sub, Table}
use Rattle.wasm_spec_steps.specs.WasmSpecRules.WasmSpec.MatchingTests.{World, matches_val}
use Rattle.wasm_spec_steps.specs.WasmSpecRules.Attempts.{◌>>=◌, passes, last_of, front_of}
use Rattle.wasm_spec_steps.specs.WasmSpecRules.Signatures.{Signature, signature_of, resolve_heap, resolve_ref, resolve_val, resolve_vals}
use Rattle.wasm_operators.specs.WasmOperatorsPlain.declared.memories.MemArg.{MemArg}
use Rattle.wasm_operators.specs.WasmOperatorsPlain.declared.memories.MemoryOperator.{MemoryOperator}
use Rattle.wasm_operators.specs.WasmOperatorsPlain.declared.memories.MemoryOperator.TheVariants.{I32Load}
use Rattle.wasm_operators.specs.WasmOperatorsPlain.declared.memories.BulkMemoryOperator.{BulkMemoryOperator}
use Rattle.wasm_operators.specs.WasmOperatorsPlain.declared.memories.BulkMemoryOperator.TheVariants.{MemorySize}
use Rattle.wasm_operators.specs.WasmOperatorsPlain.declared.tables.TableOperator.{TableOperator}
use Rattle.wasm_operators.specs.WasmOperatorsPlain.declared.tables.TableOperator.TheVariants.{TableGet}
use Rattle.wasm_operators.specs.WasmOperatorsPlain.declared.conversions.ConversionOperator.{ConversionOperator}
use Rattle.wasm_operators.specs.WasmOperatorsPlain.declared.conversions.ConversionOperator.TheVariants.{AnyConvertExtern}
use Rattle.wasm_operators.specs.WasmOperatorsPlain.declared.structs.StructOperator.{StructOperator}
use Rattle.wasm_operators.specs.WasmOperatorsPlain.declared.structs.StructOperator.TheVariants.{StructNew}
use Rattle.wasm_operators.specs.WasmOperatorsPlain.declared.arrays.ArrayOperator.{ArrayOperator}
use Rattle.wasm_operators.specs.WasmOperatorsAtomic.declared.wide.WideOperator.{WideOperator}
use Rattle.wasm_operators.specs.WasmOperatorsPlain.declared.arrays.ArrayOperator.TheVariants.{ArrayNew}
use Rattle.wasm_operators.specs.WasmOperatorsPlain.declared.signatures.Signature.{Signature as OperatorSignature}
use Rattle.wasm_operators.specs.WasmOperatorsPlain.declared.signatures.Signature.TheVariants.{Unary, Binary}
use Rattle.wasm_operators.specs.declared.immediates.ImmediateValues.{ImmediateValues}
use Rattle.wasm_spec_steps.specs.Forms.{memarg_of}
use Rattle.wasm_spec_steps.specs.Bodies.{Surroundings}
use Rattle.wasm_spec_steps.specs.Matching.{matches_vals}
use Rattle.wasm_operators.specs.WasmOperatorsAtomic.declared.shared_forms.SharedForm.{SharedForm}
use Rattle.wasm_operators.specs.WasmOperatorsAtomic.declared.shared_forms.SharedForm.TheVariants as form
use Rattle.wasm_operators.specs.WasmOperatorsAtomic.declared.shared_forms.Access.{Access}
use Rattle.wasm_operators.specs.WasmOperatorsAtomic.declared.shared_forms.Access.TheVariants as access
use Rattle.wasm_operators.specs.WasmOperatorsProposals.declared.accesses.AccessValues.{AccessValues}
use Rattle.wasm_spec_steps.specs.Actions.{OperandTypes, these, label, returned, repeated, front, last, taken_by, given_by, joined, before, behind, params, results, of_type, of_function, table_address, table_element, global, field, element, Check, each_matches}
use Rattle.wasm_spec_steps.specs.Shapes.{Shape, plain, ending, measuring, comparing, converting, describing, computing, table_shape, access_shape, memory_shape, conversion_shape, struct_shape, array_shape, wide_shape, address_of, access_taken, access_of, shared_place, shared_value, nothing, one, nullable_to, difference, returns, holds_functions, indirect_checks, reference_to, branch_checks, kept}
use Rattle.wasm_spec_steps.specs.Meanings.{signature_at, address, continued_signature}
use Rattle.wasm_spec_steps.specs.Meanings as meaning
use Rattle.wasm_spec_instructions.specs.ValueTypes.{ValueType, val, vals, reference_at, Match}
use Rattle.wasm_spec_instructions.specs.Scopes.{Scope, types_in, AllHold}
use Rattle.wasm_spec_instructions.specs.Rules.{sets_of, Rule, plain_rule, ending_rule, measuring_rule, comparing_rule, converting_rule, describing_exactly_rule, describing_rule}
use Rattle.wasm_spec_instructions.proofs.Attempts.{no, the_same, absent, bind-gives, passes-gives, and-both, with_last}
use Rattle.wasm_spec_instructions.proofs.OperandFits.{vals-append, true-match}
use Rattle.wasm_laws_soundness.specs.Values.{signature_in}
use Rattle.wasm_laws_soundness.proofs.Values.{length-vals}
use Rattle.wasm_laws_soundness.specs.Roles.{operand_count}

pub mapped : {A X : Type 0} (f : A → X) (o : Option A) (x : X) → option_map f o ≡ Some x → (a : A) × (o ≡ Some a) × (x ≡ f a)
mapped f None x e = absurd (absent x e)
mapped f (Some a) x e = (a, refl, sym (the_same (f a) x e))

-- one type
pub single :
    {A R : Type 0} (f : A → Val R) (o : Option A) (us : List (Val R)) → meaning.one (option_map f o) ≡ Some us → (a : A) × (o ≡ Some a) × (us ≡ f a ∷ [])
single f None us e = absurd (absent us e)
single f (Some a) us e = (a, refl, sym (the_same (f a ∷ []) us e))

-- what two attempts give one after another
pub both_give :
    {A : Type 0} (o p : Option (List A)) (ts : List A) → (o >>= λ vs. p >>= λ ws. Some (vs ++ ws)) ≡ Some ts
    → (vs : List A) × (ws : List A) × (o ≡ Some vs) × (p ≡ Some ws) × (ts ≡ vs ++ ws)
both_give None p ts e = absurd (absent ts e)
both_give (Some vs) None ts e = absurd (absent ts e)
both_give (Some vs) (Some ws) ts e = (vs, ws, refl, refl, sym (the_same (vs ++ ws) ts e))

-- how many operands plain instructions take, whatever the labels are
abbrev is_fixed : OperandTypes → Bool
is_fixed (label n) = false
is_fixed returned = false
is_fixed (repeated n t) = is_fixed t
is_fixed (front t) = is_fixed t
is_fixed (last t) = is_fixed t
is_fixed (taken_by t) = is_fixed t
is_fixed (given_by t) = is_fixed t
is_fixed (joined t u) = is_fixed t && is_fixed u
is_fixed (before t u) = is_fixed t && is_fixed u
is_fixed (behind t u) = is_fixed t && is_fixed u
is_fixed _ = true

abbrev pub is_computing : Shape → Bool
is_computing (plain cs t u) = is_fixed t
is_computing (measuring cs k t) = true
is_computing (comparing cs t) = true
is_computing (converting cs j k) = true
is_computing (describing cs n) = true
is_computing _ = false

pub sets-nothing : (s : Shape) → is_computing s ≡ true → sets_of s ≡ []
sets-nothing (plain cs t u) e = refl
sets-nothing (measuring cs k t) e = refl
sets-nothing (comparing cs t) e = refl
sets-nothing (converting cs j k) e = refl
sets-nothing (describing cs n) e = refl
sets-nothing _ e = no e

-- all instructions whose role it is
pub table-computes : (op : TableOperator) → is_computing (table_shape op) ≡ true
table-computes (TableGet x) = refl
table-computes _ = refl

pub access-computes : (op : MemoryOperator) (m : MemArg) → is_computing (access_shape op m) ≡ true
access-computes I32Load m = refl
access-computes _ m = refl

pub memory-computes : (op : BulkMemoryOperator) → is_computing (memory_shape op) ≡ true
memory-computes (MemorySize x) = refl
memory-computes _ = refl

pub signature-computes : (g : OperatorSignature) → is_computing (computing g) ≡ true
signature-computes (Unary a b) = refl
signature-computes (Binary a b) = refl

pub conversion-computes : (op : ConversionOperator) → is_computing (conversion_shape op) ≡ true
conversion-computes AnyConvertExtern = refl
conversion-computes _ = refl

pub struct-computes : (op : StructOperator) → is_computing (struct_shape op) ≡ true
struct-computes (StructNew x) = refl
struct-computes _ = refl

pub array-computes : (op : ArrayOperator) → is_computing (array_shape op) ≡ true
array-computes (ArrayNew x) = refl
array-computes _ = refl

pub wide-computes : (op : WideOperator) → is_computing (wide_shape op) ≡ true
wide-computes op = refl

address-computes : (o : Option MemArg) → is_fixed (address_of o) ≡ true
address-computes None = refl
address-computes (Some m) = refl

pub form-computes : (values : ImmediateValues) → (is_fixed (address_of (memarg_of values)) && true) ≡ true
form-computes values = ap (λ (b : Bool). b && true) (address-computes (memarg_of values))

-- what atomic accesses to globals, tables, structures and arrays take
taken-computes : (a : Access) (t u : OperandTypes) → is_fixed t ≡ true → is_fixed u ≡ true → is_fixed (access_taken a t u) ≡ true
taken-computes access.Get t u h k = h
taken-computes access.Set t u h k = rw (h, k) refl
taken-computes access.Compute t u h k = rw (h, k) refl
taken-computes access.Exchange t u h k = rw (h, k) refl
taken-computes access.Compare t u h k = rw (h, k) refl

pub access_form-computes : (f : SharedForm) (v : AccessValues) → is_fixed (access_taken (access_of f) (shared_place f v) (shared_value f v)) ≡ true
access_form-computes form.Pause v = refl
access_form-computes (form.Global a) v = taken-computes a nothing (global v.index) refl refl
access_form-computes (form.Table a) v = taken-computes a (table_address v.index) (table_element v.index) refl refl
access_form-computes (form.Field a) v = taken-computes a (one (nullable_to v.index)) (field v.index v.field_index) refl refl
access_form-computes form.PackedField v = refl
access_form-computes (form.Element a) v = taken-computes a (these (nullable_to v.index ∷ i32 ∷ [])) (element v.index) refl refl
access_form-computes form.PackedElement v = refl

module _ {R : Type 0} (W : World R) (B : Surroundings R) where
  fixed :
      (labels : List (List (Val R))) (returns : Option (List (Val R))) (t : OperandTypes) → is_fixed t ≡ true
      → types_in W B labels returns t ≡ types_in W B [] None t
  fixed labels returns (label n) e = no e
  fixed labels returns returned e = no e
  fixed labels returns (repeated n t) e = ap (option_map (meaning.copies n)) (fixed labels returns t e)
  fixed labels returns (front t) e = ap (option_map front_of) (fixed labels returns t e)
  fixed labels returns (last t) e = ap (λ (o : Option (List (Val R))). meaning.one (o >>= last_of)) (fixed labels returns t e)
  fixed labels returns (joined t u) e =
      let k = and-both (is_fixed t) (is_fixed u) e in
      (λ i. fixed labels returns t k.0 i >>= λ vs. fixed labels returns u k.1 i >>= λ ws. Some (vs ++ ws))
  fixed labels returns (taken_by t) e = ap (λ (o : Option (List (Val R))). option_map (λ g. g.takes) (o >>= continued_signature W B)) (fixed labels returns t e)
  fixed labels returns (given_by t) e = ap (λ (o : Option (List (Val R))). option_map (λ g. g.gives) (o >>= continued_signature W B)) (fixed labels returns t e)
  fixed labels returns (before t u) e =
      let k = and-both (is_fixed t) (is_fixed u) e in
      (λ i. fixed labels returns t k.0 i >>= λ vs. fixed labels returns u k.1 i >>= λ ws. meaning.all_but (length ws) vs)
  fixed labels returns (behind t u) e =
      let k = and-both (is_fixed t) (is_fixed u) e in
      (λ i. fixed labels returns t k.0 i >>= λ vs. fixed labels returns u k.1 i >>= λ ws. meaning.last_ones (length ws) vs)
  fixed labels returns _ e = refl

  module _ (C : Scope R) where
    pub counted : (s : Shape) (ts us : List (ValueType R)) → is_computing s ≡ true → Rule W B C s ts us → operand_count W B s ≡ Some (length ts)
    counted (plain cs t u) ts us e (plain_rule {ts = taken} h f g) =
        ap (option_map length) (sym (fixed C.labels C.returns t e) ∙ f) ∙ ap (λ (n : ℕ). Some n) (sym (length-vals taken))
    counted (measuring cs k t) ts us e (measuring_rule b h f) = refl
    counted (comparing cs t) ts us e (comparing_rule b h f) = refl
    counted (converting cs j k) ts us e (converting_rule n b h) = refl
    counted (describing cs n) ts us e (describing_exactly_rule h f g) = refl
    counted (describing cs n) ts us e (describing_rule h f g) = refl
    counted _ ts us e r = no e

    -- the type of an index, and its signature
    pub signed :
        (o : Option R) (g : Signature R) → (option_map (λ (d : Sub R). d.comp) (o >>= W.declared) >>= signature_of) ≡ Some g
        → (a : R) × (o ≡ Some a) × (signature_in W a ≡ Some g)
    signed None g e = absurd (absent g e)
    signed (Some a) g e = (a, refl, declared (W.declared a) e)
      where
        declared : (d : Option (Sub R)) → (option_map (λ (d : Sub R). d.comp) d >>= signature_of) ≡ Some g → (d >>= λ s. signature_of s.comp) ≡ Some g
        declared None f = f
        declared (Some d) f = f

    pub type_signed :
        (y : ℕ) (g : Signature R) → signature_at W B (of_type y) ≡ Some g → (a : R) × (slice_get B.context.types y ≡ Some a) × (signature_in W a ≡ Some g)
    type_signed y g e = signed (slice_get B.context.types y) g e

    pub function_signed :
        (x : ℕ) (g : Signature R) → signature_at W B (of_function x) ≡ Some g
        → (n : ℕ) × (a : R) × (slice_get B.context.functions x ≡ Some n) × (slice_get B.context.types n ≡ Some a) × (signature_in W a ≡ Some g)
    function_signed x g e =
        let n = bind-gives (slice_get B.context.functions x) (λ n. signature_at W B (of_type n)) g e in
        let t = type_signed n.0 g n.2 in
        (n.0, t.0, n.1, t.1, t.2)

    -- a reference type of the context
    one_reference :
        (b : Bool) (o : Option (Heap R)) (ws : List (Val R)) →
        (option_map reference (option_map (λ (h : Heap R). record { nullable = b; heap = h }) o) >>= λ w. Some (w ∷ [])) ≡ Some ws
        → (h : Heap R) × (o ≡ Some h) × (ws ≡ reference_at b h ∷ [])
    one_reference b None ws e = absurd (absent ws e)
    one_reference b (Some h) ws e = (h, refl, sym (the_same (reference_at b h ∷ []) ws e))

    -- null
    pub record GivesNull (ts us : List (ValueType R)) : Type 0 where
      pub heap : Heap R
      pub takes : ts ≡ []
      pub gives : us ≡ val (reference_at true heap) ∷ []

    pub gives_null :
        (cs : List Check) (h : Heap ℕ) (ts us : List (ValueType R)) → Rule W B C (plain cs nothing (one (reference_to true h))) ts us → GivesNull ts us
    gives_null cs h ts us (plain_rule {ts = taken} {us = given} c e f) =
        let k = one_reference true (resolve_heap B.context.types h) given f in
        record { heap = k.0; takes = ap vals (sym (the_same [] taken e)); gives = ap vals k.2 }

    -- `select` of a type
    pub record SelectsOf (ts us : List (ValueType R)) : Type 0 where
      pub it : Val R
      pub takes : ts ≡ val it ∷ val it ∷ val i32 ∷ []
      pub gives : us ≡ val it ∷ []

    thrice :
        (o : Option (Val R)) (ts us : List (Val R)) → (o >>= λ w. (o >>= λ x. Some (x ∷ i32 ∷ [])) >>= λ ws. Some (w ∷ ws)) ≡ Some ts
        → (o >>= λ w. Some (w ∷ [])) ≡ Some us
        → (v : Val R) × (ts ≡ v ∷ v ∷ i32 ∷ []) × (us ≡ v ∷ [])
    thrice None ts us e f = absurd (absent ts e)
    thrice (Some v) ts us e f = (v, sym (the_same (v ∷ v ∷ i32 ∷ []) ts e), sym (the_same (v ∷ []) us f))

    pub selects_of :
        (cs : List Check) (v : Val ℕ) (ts us : List (ValueType R)) → Rule W B C (plain cs (these (v ∷ v ∷ i32 ∷ [])) (one v)) ts us → SelectsOf ts us
    selects_of cs v ts us (plain_rule {ts = taken} {us = given} c e f) =
        let k = thrice (resolve_val B.context.types v) taken given e f in
        record { it = k.0; takes = ap vals k.1; gives = ap vals k.2 }

    -- calls by a reference
    pub record ByReference (y : ℕ) (taken : List (Val R)) : Type 0 where
      pub type : R
      pub callee : Signature R
      pub named : slice_get B.context.types y ≡ Some type
      pub signed : signature_in W type ≡ Some callee
      pub there : signature_at W B (of_type y) ≡ Some callee
      pub takes : vals taken ≡ vals callee.takes ++ val (reference_at true (concrete type)) ∷ []

    by_reference :
        (y : ℕ) (taken : List (Val R)) → types_in W B C.labels C.returns (joined (params (of_type y)) (one (nullable_to y))) ≡ Some taken
        → ByReference y taken
    by_reference y taken e =
        let k =
        both_give (option_map (λ (g : Signature R). g.takes) (signature_at W B (of_type y))) (resolve_vals B.context.types (nullable_to y ∷ [])) taken e in
        let g = mapped (λ (g : Signature R). g.takes) (signature_at W B (of_type y)) k.0 k.2 in
        let t = type_signed y g.0 g.1 in
        let h = one_reference true (option_map concrete (slice_get B.context.types y)) k.1 k.3 in
        let c = mapped concrete (slice_get B.context.types y) h.0 h.1 in
        let w : h.0 ≡ concrete t.0 = c.2 ∙ ap concrete (the_same c.0 t.0 (sym c.1 ∙ t.1)) in
        record {
          type = t.0;
          callee = g.0;
          named = t.1;
          signed = t.2;
          there = g.1;
          takes =
              ap vals k.4 ∙ vals-append k.0 k.1 ∙ (λ i. vals (g.2 i) ++ vals (h.2 i)) ∙ ap
              (λ (z : Heap R). vals g.0.takes ++ val (reference_at true z) ∷ []) w;
        }

    -- and by a table
    pub record ByTable (y x : ℕ) (taken : List (Val R)) : Type 0 where
      pub table : Table R
      pub type : R
      pub callee : Signature R
      pub there_is : slice_get B.context.tables x ≡ Some table
      pub of_functions : matches_val W (reference table.element) (reference_at true (abstract_heap false func_heap)) ≡ true
      pub named : slice_get B.context.types y ≡ Some type
      pub signed : signature_in W type ≡ Some callee
      pub there : signature_at W B (of_type y) ≡ Some callee
      pub takes : vals taken ≡ vals callee.takes ++ val (address table.is_64) ∷ []

    by_table :
        (y x : ℕ) (taken : List (Val R)) → AllHold W B C (holds_functions x ∷ [])
        → types_in W B C.labels C.returns (joined (params (of_type y)) (table_address x)) ≡ Some taken → ByTable y x taken
    by_table y x taken a e =
        let o = slice_get B.context.tables x in
        let k =
        both_give (option_map (λ (g : Signature R). g.takes) (signature_at W B (of_type y)))
        (meaning.one (option_map address (option_map (λ (t : Table R). t.is_64) o))) taken e in
        let g = mapped (λ (g : Signature R). g.takes) (signature_at W B (of_type y)) k.0 k.2 in
        let s = type_signed y g.0 g.1 in
        let b = single address (option_map (λ (t : Table R). t.is_64) o) k.1 k.3 in
        let t = mapped (λ (t : Table R). t.is_64) o b.0 b.1 in
        let m : matches_vals W (reference t.0.element ∷ []) (reference_at true (abstract_heap false func_heap) ∷ []) ≡ true =
        ap (λ (p : Option (Table R)). passes (λ (vs : List (Val R)). matches_vals W vs (reference_at true (abstract_heap false func_heap) ∷ []))
        (meaning.one (option_map (λ (t : Table R). reference t.element) p))) (sym t.1) ∙ a.0 in
        record {
          table = t.0;
          type = s.0;
          callee = g.0;
          there_is = t.1;
          of_functions = (and-both (matches_val W (reference t.0.element) (reference_at true (abstract_heap false func_heap))) true m).0;
          named = s.1;
          signed = s.2;
          there = g.1;
          takes = ap vals k.4 ∙ vals-append k.0 k.1 ∙ (λ i. vals (g.2 i) ++ vals (b.2 i)) ∙ ap (λ (z : Bool). vals g.0.takes ++ val (address z) ∷ []) t.2;
        }

    -- the results of a callee, and those of a caller in whose place it is called
    results_of :
        (y : ℕ) (g : Signature R) (given : List (Val R)) → signature_at W B (of_type y) ≡ Some g
        → types_in W B C.labels C.returns (results (of_type y)) ≡ Some given → given ≡ g.gives
    results_of y g given e f = sym (the_same g.gives given (ap (option_map (λ (g : Signature R). g.gives)) (sym e) ∙ f))

    pub record MayReturn (g : Signature R) : Type 0 where
      pub results : List (Val R)
      pub returned : C.returns ≡ Some results
      pub matches : Match W (vals g.gives) (vals results)

    may_return : (y : ℕ) (g : Signature R) → signature_at W B (of_type y) ≡ Some g → AllHold W B C (returns (results (of_type y)) ∷ []) → MayReturn g
    may_return y g e a =
        let m : passes (matches_vals W g.gives) C.returns ≡ true =
        ap (λ (o : Option (Signature R)). passes (λ (vs : List (Val R)). passes (matches_vals W vs) C.returns) (option_map (λ (g : Signature R). g.gives) o))
        (sym e) ∙ a.0 in
        let k = passes-gives (matches_vals W g.gives) C.returns m in
        record { results = k.0; returned = k.1; matches = true-match W g.gives k.0 k.2 }

    pub record CallsByReference (y : ℕ) (ts us : List (ValueType R)) : Type 0 where
      pub taken : List (Val R)
      pub callee : ByReference y taken
      pub takes : ts ≡ vals taken
      pub gives : us ≡ vals callee.callee.gives

    pub calls_by_reference :
        (cs : List Check) (y : ℕ) (ts us : List (ValueType R))
        → Rule W B C (plain cs (joined (params (of_type y)) (one (nullable_to y))) (results (of_type y))) ts us → CallsByReference y ts us
    calls_by_reference cs y ts us (plain_rule {ts = taken} {us = given} c e f) =
        let k = by_reference y taken e in
        record { taken = taken; callee = k; takes = refl; gives = ap vals (results_of y k.callee given k.there f) }

    pub record CallsByTable (y x : ℕ) (ts us : List (ValueType R)) : Type 0 where
      pub taken : List (Val R)
      pub callee : ByTable y x taken
      pub takes : ts ≡ vals taken
      pub gives : us ≡ vals callee.callee.gives

    pub calls_by_table :
        (y x : ℕ) (ts us : List (ValueType R))
        → Rule W B C (plain (indirect_checks y x) (joined (params (of_type y)) (table_address x)) (results (of_type y))) ts us → CallsByTable y x ts us
    calls_by_table y x ts us (plain_rule {ts = taken} {us = given} c e f) =
        let k = by_table y x taken (c.1.1.0, tt) e in
        record { taken = taken; callee = k; takes = refl; gives = ap vals (results_of y k.callee given k.there f) }

    pub record CallsByReferenceInPlace (y : ℕ) (ts : List (ValueType R)) : Type 0 where
      pub taken : List (Val R)
      pub below : List (ValueType R)
      pub callee : ByReference y taken
      pub returned : MayReturn callee.callee
      pub takes : ts ≡ below ++ vals taken

    pub calls_by_reference_in_place :
        (c d : Check) (y : ℕ) (ts us : List (ValueType R))
        → Rule W B C (ending (c ∷ d ∷ returns (results (of_type y)) ∷ []) (joined (params (of_type y)) (one (nullable_to y)))) ts us
        → CallsByReferenceInPlace y ts
    calls_by_reference_in_place c d y ts us (ending_rule {ts = taken} below after h e) =
        let k = by_reference y taken e in
        record { taken = taken; below = below; callee = k; returned = may_return y k.callee k.there h.1.1; takes = refl }

    pub record CallsByTableInPlace (y x : ℕ) (ts : List (ValueType R)) : Type 0 where
      pub taken : List (Val R)
      pub below : List (ValueType R)
      pub callee : ByTable y x taken
      pub returned : MayReturn callee.callee
      pub takes : ts ≡ below ++ vals taken

    pub calls_by_table_in_place :
        (y x : ℕ) (ts us : List (ValueType R))
        → Rule W B C (ending (returns (results (of_type y)) ∷ indirect_checks y x) (joined (params (of_type y)) (table_address x))) ts us
        → CallsByTableInPlace y x ts
    calls_by_table_in_place y x ts us (ending_rule {ts = taken} below after h e) =
        let k = by_table y x taken (h.1.1.1.0, tt) e in
        record { taken = taken; below = below; callee = k; returned = may_return y k.callee k.there (h.0, tt); takes = refl }

    -- branches on a cast: the label takes a greater type than that of the reference that it gets
    pub record Casts (l : ℕ) (q : Ref ℕ) (ts : List (ValueType R)) : Type 0 where
      pub sent : List (Val R)
      pub last : Val R
      pub from : Ref R
      pub to : Ref R
      pub lacking : Ref R
      pub there : slice_get C.labels l ≡ Some (sent ++ last ∷ [])
      pub is : resolve_ref B.context.types q ≡ Some to
      pub same_heap : lacking.heap ≡ from.heap
      pub same_null : to.nullable ≡ false → lacking.nullable ≡ from.nullable
      pub takes : ts ≡ vals sent ++ val (reference from) ∷ []

    pub record BranchesOnCast (l : ℕ) (q : Ref ℕ) (ts us : List (ValueType R)) : Type 0 where
      pub casts : Casts l q ts
      pub matches : matches_val W (reference casts.to) casts.last ≡ true
      pub gives : us ≡ vals casts.sent ++ val (reference casts.lacking) ∷ []

    pub record BranchesOnFailure (l : ℕ) (q : Ref ℕ) (ts us : List (ValueType R)) : Type 0 where
      pub casts : Casts l q ts
      pub matches : matches_val W (reference casts.lacking) casts.last ≡ true
      pub gives : us ≡ vals casts.sent ++ val (reference casts.to) ∷ []

    -- operands of which the last one is of another type, which a label has
    pub record Kept (l : ℕ) (b : Bool) (h : Heap ℕ) (taken : List (Val R)) : Type 0 where
      pub labelled : List (Val R)
      pub heap : Heap R
      pub there : slice_get C.labels l ≡ Some labelled
      pub is : resolve_heap B.context.types h ≡ Some heap
      pub types : taken ≡ front_of labelled ++ reference_at b heap ∷ []

    kept_as :
        (l : ℕ) (b : Bool) (h : Heap ℕ) (taken : List (Val R)) → types_in W B C.labels C.returns (kept l (reference_to b h)) ≡ Some taken → Kept l b h taken
    kept_as l b h taken e =
        let k = both_give (option_map front_of (slice_get C.labels l)) (resolve_vals B.context.types (reference_to b h ∷ [])) taken e in
        let f = mapped front_of (slice_get C.labels l) k.0 k.2 in
        let r = one_reference b (resolve_heap B.context.types h) k.1 k.3 in
        record { labelled = f.0; heap = r.0; there = f.1; is = r.1; types = k.4 ∙ (λ i. f.2 i ++ r.2 i) }

    -- what the label gets matches its last type
    pub record Sent (labelled : List (Val R)) (b : Bool) (heap : Heap R) : Type 0 where
      pub last : Val R
      pub is_last : last_of labelled ≡ Some last
      pub matches : matches_val W (reference_at b heap) last ≡ true

    sent_as :
        (l : ℕ) (b : Bool) (h : Heap ℕ) (ls : List (Val R)) (k : Heap R) → slice_get C.labels l ≡ Some ls → resolve_heap B.context.types h ≡ Some k
        → AllHold W B C (each_matches (one (reference_to b h)) (last (label l)) ∷ []) → Sent ls b k
    sent_as l b h ls k e f a =
        let m : passes (matches_vals W (reference_at b k ∷ [])) (meaning.one (last_of ls)) ≡ true =
        (λ i. passes (λ (vs : List (Val R)). passes (matches_vals W vs) (meaning.one (sym e i >>= last_of)))
        (option_map reference (option_map (λ (h : Heap R). record { nullable = b; heap = h }) (sym f i)) >>= λ w. Some (w ∷ [])))
        ∙ a.0 in
        last_one (last_of ls) refl m
      where
        last_one : (o : Option (Val R)) → last_of ls ≡ o → passes (matches_vals W (reference_at b k ∷ [])) (meaning.one o) ≡ true → Sent ls b k
        last_one None w m = no m
        last_one (Some x) w m = record { last = x; is_last = w; matches = (and-both (matches_val W (reference_at b k) x) true m).0 }

    lacks_null : (r q : Ref ℕ) → q.nullable ≡ false → (if q.nullable then false else r.nullable) ≡ r.nullable
    lacks_null r q e = ap (λ (b : Bool). if b then false else r.nullable) e

    pub branches_on_cast :
        (l : ℕ) (r q : Ref ℕ) (ts us : List (ValueType R))
        → Rule W B C (plain (branch_checks l r q (reference q)) (kept l (reference r)) (kept l (difference r q))) ts us → BranchesOnCast l q ts us
    branches_on_cast l r q ts us (plain_rule {ts = taken} {us = given} c e f) =
        let t : Kept l r.nullable r.heap taken = kept_as l r.nullable r.heap taken e in
        let g : Kept l (if q.nullable then false else r.nullable) r.heap given = kept_as l (if q.nullable then false else r.nullable) r.heap given f in
        let p =
        passes-gives (λ vs. passes (matches_vals W vs) (types_in W B C.labels C.returns (last (label l))))
        (types_in W B C.labels C.returns (one (reference q))) c.1.1.1.1.0 in
        let k = one_reference q.nullable (resolve_heap B.context.types q.heap) p.0 p.1 in
        let s = sent_as l q.nullable q.heap t.labelled k.0 t.there k.1 (c.1.1.1.1.0, tt) in
        let w : g.labelled ≡ t.labelled = the_same g.labelled t.labelled (sym g.there ∙ t.there) in
        let v : g.heap ≡ t.heap = the_same g.heap t.heap (sym g.is ∙ t.is) in
        record {
          casts = record {
            sent = front_of t.labelled;
            last = s.last;
            from = record { nullable = r.nullable; heap = t.heap };
            to = record { nullable = q.nullable; heap = k.0 };
            lacking = record { nullable = if q.nullable then false else r.nullable; heap = t.heap };
            there = t.there ∙ ap (λ (z : List (Val R)). Some z) (with_last t.labelled s.last s.is_last);
            is = ap (option_map (λ (h : Heap R). record { nullable = q.nullable; heap = h })) k.1;
            same_heap = refl;
            same_null = lacks_null r q;
            takes = ap vals t.types ∙ vals-append (front_of t.labelled) (reference_at r.nullable t.heap ∷ []);
          };
          matches = s.matches;
          gives =
              ap vals g.types
              ∙ (λ i. vals (front_of (w i) ++ reference_at (if q.nullable then false else r.nullable) (v i) ∷ []))
              ∙ vals-append (front_of t.labelled) (reference_at (if q.nullable then false else r.nullable) t.heap ∷ []);
        }

    pub branches_on_failure :
        (l : ℕ) (r q : Ref ℕ) (ts us : List (ValueType R))
        → Rule W B C (plain (branch_checks l r q (difference r q)) (kept l (reference r)) (kept l (reference q))) ts us → BranchesOnFailure l q ts us
    branches_on_failure l r q ts us (plain_rule {ts = taken} {us = given} c e f) =
        let t : Kept l r.nullable r.heap taken = kept_as l r.nullable r.heap taken e in
        let g : Kept l q.nullable q.heap given = kept_as l q.nullable q.heap given f in
        let s = sent_as l (if q.nullable then false else r.nullable) r.heap t.labelled t.heap t.there t.is (c.1.1.1.1.0, tt) in
        let w : g.labelled ≡ t.labelled = the_same g.labelled t.labelled (sym g.there ∙ t.there) in
        record {
          casts = record {
            sent = front_of t.labelled;
            last = s.last;
            from = record { nullable = r.nullable; heap = t.heap };
            to = record { nullable = q.nullable; heap = g.heap };
            lacking = record { nullable = if q.nullable then false else r.nullable; heap = t.heap };
            there = t.there ∙ ap (λ (z : List (Val R)). Some z) (with_last t.labelled s.last s.is_last);
            is = ap (option_map (λ (h : Heap R). record { nullable = q.nullable; heap = h })) g.is;
            same_heap = refl;
            same_null = lacks_null r q;
            takes = ap vals t.types ∙ vals-append (front_of t.labelled) (reference_at r.nullable t.heap ∷ []);
          };
          matches = s.matches;
          gives =
              ap vals g.types
              ∙ (λ i. vals (front_of (w i) ++ reference_at q.nullable g.heap ∷ []))
              ∙ vals-append (front_of t.labelled) (reference_at q.nullable g.heap ∷ []);
        }
