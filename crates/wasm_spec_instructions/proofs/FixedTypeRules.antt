-- The rules of shapes, read for instructions whose types the context fixes.
use Rattle.std.proofs.Common.{◌≡◌, refl, sym, ap, ◌∙◌, ℕ, Bool, true, false, ◌==◌, List, [], ◌∷◌, ◌++◌, length, Option, map, Some, option_map, slice_get}
use Rattle.std.proofs.lemmas.Bool.Decides.{Decides-eqb}
use Rattle.wasm_spec_steps.specs.WasmSpecRules.WasmSpec.Syntax.{exn_heap, abstract_heap, concrete, Heap, Ref, Val, Field, Global, Table, Memory, i32, i64, reference}
use Rattle.wasm_spec_steps.specs.WasmSpecRules.WasmSpec.MatchingTests.{World}
use Rattle.wasm_spec_steps.specs.WasmSpecRules.Attempts.{◌>>=◌, passes}
use Rattle.wasm_operators.specs.WasmOperatorsPlain.declared.memories.MemoryOperator.{MemoryOperator}
use Rattle.wasm_operators.specs.WasmOperatorsPlain.declared.memories.MemArg.{MemArg}
use Rattle.wasm_spec_steps.specs.WasmSpecRules.Signatures.{Signature, resolve_ref, resolve_val}
use Rattle.wasm_spec_steps.specs.Bodies.{Surroundings}
use Rattle.wasm_spec_steps.specs.Actions.{of_type, joined, top, descriptor_for, fields, new_reference, has_no_descriptor, reaches_type, of_function, of_tag, params, results, global, table_address, table_element, function_reference, has, reference_types, function_references, exceptions, is_exception, function_is_referenced, global_is_mutable, reaches_function, reaches_global, reaches_table}
use Rattle.wasm_operators.specs.WasmOperatorsAtomic.declared.wide.WideOperator.TheVariants.{I64Add128, I64MulWideS}
use Rattle.wasm_spec_steps.specs.Shapes.{Shape, plain, ending, nothing, one, reference_to, nullable_to, cast_checks, descriptor_checks, loading, getting, item, aggregate_checks, wide_shape}
use Rattle.wasm_spec_steps.specs.Meanings.{signature_at, function_heap, top_heap, descriptor_heap, exact_if, fields_at, field_at, element_at, unpack_field, allows_memarg, address, ref_to}
use Rattle.wasm_spec_steps.specs.Meanings as meaning
use Rattle.wasm_spec_instructions.specs.ValueTypes.{ValueType, val, vals, reference_at}
use Rattle.wasm_spec_instructions.specs.Scopes.{Scope}
use Rattle.wasm_spec_instructions.specs.Rules.{Rule, plain_rule, ending_rule}
use Rattle.wasm_spec_instructions.specs.FixedShapes.{DoesNothing, Calls, Throws, ThrowsAgain, GetsGlobal, SetsGlobal, GetsElement, RefersTo, CallsReference, CastsTo, CastsByDescriptor, Loads, MakesStructure, GetsField, GetsItem, AddsWide, MultipliesWide, FixedTypesHaveTheirRules}
use Rattle.wasm_spec_instructions.proofs.Attempts.{the_same, bind-gives, bind-at}
use Rattle.wasm_spec_instructions.proofs.OperandFits.{vals-append}
use Rattle.wasm_spec_instructions.proofs.Names.{as_written}
use Rattle.wasm_spec_instructions.proofs.AttemptResults.{mapped, single, null_and, null_to, by_null_to, found_one}
use Rattle.wasm_spec_instructions.proofs.ContinuationRules.{makes_continuation, by_making_continuation, suspends, by_suspending, resumes, by_resuming, resumes_by_tag, by_resuming_by_tag, resumes_by_exception, by_resuming_by_exception}
use Rattle.wasm_spec_instructions.proofs.BindAndSwitchRules.{binds, by_binding, switches, by_switching}

module _ {R : Type 0} (W : World R) (B : Surroundings R) (C : Scope R) where
  rests : (ts us : List (ValueType R)) → Rule W B C (plain [] nothing nothing) ts us → DoesNothing W B ts us
  rests ts us (plain_rule {ts = taken} {us = given} h e f) = record { takes = ap vals (sym (the_same [] taken e)); gives = ap vals (sym (the_same [] given f)) }

  by_rest : (ts us : List (ValueType R)) → DoesNothing W B ts us → Rule W B C (plain [] nothing nothing) ts us
  by_rest ts us b = as_written W B C (plain [] nothing nothing) ts us [] [] b.takes b.gives (plain_rule tt refl refl)

  abbrev called : ℕ → Shape
  called x = plain (reaches_function x ∷ []) (params (of_function x)) (results (of_function x))

  calls : (x : ℕ) (ts us : List (ValueType R)) → Rule W B C (called x) ts us → Calls W B x ts us
  calls x ts us (plain_rule {ts = taken} {us = given} h e f) =
      let k = mapped (λ (g : Signature R). g.takes) (signature_at W B (of_function x)) taken e in
      let m : k.0.gives ≡ given = the_same k.0.gives given (ap (option_map (λ (g : Signature R). g.gives)) (sym k.1) ∙ f) in
      record { callee = k.0; reached = h.0; there = k.1; takes = ap vals k.2; gives = ap vals (sym m) }

  by_calling : (x : ℕ) (ts us : List (ValueType R)) → Calls W B x ts us → Rule W B C (called x) ts us
  by_calling x ts us b =
      as_written W B C (called x) ts us (vals b.callee.takes) (vals b.callee.gives) b.takes b.gives
      (plain_rule (b.reached, tt) (ap (option_map (λ (g : Signature R). g.takes)) b.there) (ap (option_map (λ (g : Signature R). g.gives)) b.there))

  abbrev thrown : ℕ → Shape
  thrown x = ending (has exceptions ∷ is_exception x ∷ []) (params (of_tag x))

  throws : (x : ℕ) (ts us : List (ValueType R)) → Rule W B C (thrown x) ts us → Throws W B x ts
  throws x ts us (ending_rule {ts = taken} below after h e) =
      let k = mapped (λ (g : Signature R). g.takes) (signature_at W B (of_tag x)) taken e in
      let n : (length k.0.gives == 0) ≡ true = ap (passes (λ (g : Signature R). length g.gives == 0)) (sym k.1) ∙ h.1.0 in
      record {
        on = h.0;
        tag = k.0;
        below = below;
        there = k.1;
        gives_nothing = (Decides-eqb (length k.0.gives) 0).0 n;
        takes = ap (λ (z : List (Val R)). below ++ vals z) k.2;
      }

  by_throwing : (x : ℕ) (ts us : List (ValueType R)) → Throws W B x ts → Rule W B C (thrown x) ts us
  by_throwing x ts us b =
      as_written W B C (thrown x) ts us (b.below ++ vals b.tag.takes) us b.takes refl
      (ending_rule b.below us (b.on, (ap (passes (λ (g : Signature R). length g.gives == 0)) b.there ∙ (Decides-eqb (length b.tag.gives) 0).1 b.gives_nothing, tt))
      (ap (option_map (λ (g : Signature R). g.takes)) b.there))

  abbrev thrown_again : Shape
  thrown_again = ending (has exceptions ∷ []) (one (reference_to true (abstract_heap false exn_heap)))

  throws_again : (ts us : List (ValueType R)) → Rule W B C thrown_again ts us → ThrowsAgain W B ts
  throws_again ts us (ending_rule {ts = taken} below after h e) = record {
    on = h.0;
    below = below;
    takes = ap (λ (z : List (Val R)). below ++ vals z) (sym (the_same (reference_at true (abstract_heap false exn_heap) ∷ []) taken e));
  }

  by_throwing_again : (ts us : List (ValueType R)) → ThrowsAgain W B ts → Rule W B C thrown_again ts us
  by_throwing_again ts us b =
      as_written W B C thrown_again ts us (b.below ++ val (reference_at true (abstract_heap false exn_heap)) ∷ []) us b.takes refl
      (ending_rule {ts = reference_at true (abstract_heap false exn_heap) ∷ []} b.below us (b.on, tt) refl)

  abbrev got_global : ℕ → Shape
  got_global x = plain (reaches_global x ∷ []) nothing (global x)

  gets_global : (x : ℕ) (ts us : List (ValueType R)) → Rule W B C (got_global x) ts us → GetsGlobal W B x ts us
  gets_global x ts us (plain_rule {ts = taken} {us = given} h e f) =
      let k = single (λ (g : Global R). g.content) (slice_get B.context.globals x) given f in
      record { it = k.0; reached = h.0; there = k.1; takes = ap vals (sym (the_same [] taken e)); gives = ap vals k.2 }

  by_getting_global : (x : ℕ) (ts us : List (ValueType R)) → GetsGlobal W B x ts us → Rule W B C (got_global x) ts us
  by_getting_global x ts us b =
      as_written W B C (got_global x) ts us [] (val b.it.content ∷ []) b.takes b.gives
      (plain_rule (b.reached, tt) refl (ap (λ (o : Option (Global R)). meaning.one (option_map (λ g. g.content) o)) b.there))

  abbrev set_global : ℕ → Shape
  set_global x = plain (reaches_global x ∷ global_is_mutable x ∷ []) (global x) nothing

  sets_global : (x : ℕ) (ts us : List (ValueType R)) → Rule W B C (set_global x) ts us → SetsGlobal W B x ts us
  sets_global x ts us (plain_rule {ts = taken} {us = given} h e f) =
      let k = single (λ (g : Global R). g.content) (slice_get B.context.globals x) taken e in
      record {
        it = k.0;
        reached = h.0;
        there = k.1;
        mutable = ap (passes (λ (g : Global R). g.mutable)) (sym k.1) ∙ h.1.0;
        takes = ap vals k.2;
        gives = ap vals (sym (the_same [] given f));
      }

  by_setting_global : (x : ℕ) (ts us : List (ValueType R)) → SetsGlobal W B x ts us → Rule W B C (set_global x) ts us
  by_setting_global x ts us b =
      as_written W B C (set_global x) ts us (val b.it.content ∷ []) [] b.takes b.gives
      (plain_rule (b.reached, (ap (passes (λ (g : Global R). g.mutable)) b.there ∙ b.mutable, tt))
      (ap (λ (o : Option (Global R)). meaning.one (option_map (λ g. g.content) o)) b.there) refl)

  abbrev got_element : ℕ → Shape
  got_element x = plain (has reference_types ∷ reaches_table x ∷ []) (table_address x) (table_element x)

  gets_element : (x : ℕ) (ts us : List (ValueType R)) → Rule W B C (got_element x) ts us → GetsElement W B x ts us
  gets_element x ts us (plain_rule {ts = taken} {us = given} h e f) =
      let k = single (λ (t : Table R). reference t.element) (slice_get B.context.tables x) given f in
      let m : address k.0.is_64 ∷ [] ≡ taken =
      the_same (address k.0.is_64 ∷ []) taken (ap (λ (o : Option (Table R)). meaning.one (option_map address (option_map (λ t. t.is_64) o))) (sym k.1) ∙ e) in
      record { it = k.0; on = h.0; reached = h.1.0; there = k.1; takes = ap vals (sym m); gives = ap vals k.2 }

  by_getting_element : (x : ℕ) (ts us : List (ValueType R)) → GetsElement W B x ts us → Rule W B C (got_element x) ts us
  by_getting_element x ts us b =
      as_written W B C (got_element x) ts us (val (address b.it.is_64) ∷ []) (val (reference b.it.element) ∷ []) b.takes b.gives
      (plain_rule (b.on, (b.reached, tt)) (ap (λ (o : Option (Table R)). meaning.one (option_map address (option_map (λ t. t.is_64) o))) b.there)
      (ap (λ (o : Option (Table R)). meaning.one (option_map (λ t. reference t.element) o)) b.there))

  abbrev referred : ℕ → Shape
  referred x = plain (has reference_types ∷ function_is_referenced x ∷ []) nothing (function_reference x)

  refers : (x : ℕ) (ts us : List (ValueType R)) → Rule W B C (referred x) ts us → RefersTo W B x ts us
  refers x ts us (plain_rule {ts = taken} {us = given} h e f) =
      let k = single (ref_to false) (function_heap W B x) given f in
      record { it = k.0; on = h.0; referenced = h.1.0; there = k.1; takes = ap vals (sym (the_same [] taken e)); gives = ap vals k.2 }

  by_referring : (x : ℕ) (ts us : List (ValueType R)) → RefersTo W B x ts us → Rule W B C (referred x) ts us
  by_referring x ts us b =
      as_written W B C (referred x) ts us [] (val (reference_at false b.it) ∷ []) b.takes b.gives
      (plain_rule (b.on, (b.referenced, tt)) refl (ap (λ (o : Option (Heap R)). meaning.one (option_map (ref_to false) o)) b.there))

module _ {R : Type 0} (W : World R) (B : Surroundings R) (C : Scope R) where
  abbrev called_by : ℕ → Shape
  called_by x = plain (has function_references ∷ reaches_type x ∷ []) (joined (params (of_type x)) (one (nullable_to x))) (results (of_type x))

  calls_reference : (x : ℕ) (ts us : List (ValueType R)) → Rule W B C (called_by x) ts us → CallsReference W B x ts us
  calls_reference x ts us (plain_rule {ts = taken} {us = given} h e f) =
      let k = mapped (λ (g : Signature R). g.gives) (signature_at W B (of_type x)) given f in
      let m = bind-gives (option_map (λ (g : Signature R). g.takes) (signature_at W B (of_type x))) (λ vs. null_and [] (slice_get B.context.types x) >>= λ ws. Some (vs ++ ws)) taken e in
      let n = bind-gives (null_and [] (slice_get B.context.types x)) (λ ws. Some (m.0 ++ ws)) taken m.2 in
      let r = null_to [] (slice_get B.context.types x) n.0 n.1 in
      let s : m.0 ≡ k.0.takes = the_same m.0 k.0.takes (sym m.1 ∙ ap (option_map (λ (g : Signature R). g.takes)) k.1) in
      let q : taken ≡ k.0.takes ++ reference_at true (concrete r.0) ∷ [] =
      sym (the_same (m.0 ++ n.0) taken n.2) ∙ ap (λ (z : List (Val R)). z ++ n.0) s ∙ ap (λ (z : List (Val R)). k.0.takes ++ z) r.2 in
      record {
        it = r.0;
        callee = k.0;
        on = h.0;
        reached = h.1.0;
        is = r.1;
        there = k.1;
        takes = ap vals q ∙ vals-append k.0.takes (reference_at true (concrete r.0) ∷ []);
        gives = ap vals k.2;
      }

  by_calling_reference : (x : ℕ) (ts us : List (ValueType R)) → CallsReference W B x ts us → Rule W B C (called_by x) ts us
  by_calling_reference x ts us b =
      as_written W B C (called_by x) ts us (vals (b.callee.takes ++ reference_at true (concrete b.it) ∷ [])) (vals b.callee.gives)
      (b.takes ∙ sym (vals-append b.callee.takes (reference_at true (concrete b.it) ∷ []))) b.gives
      (plain_rule (b.on, (b.reached, tt))
      (bind-at (λ vs. null_and [] (slice_get B.context.types x) >>= λ ws. Some (vs ++ ws)) (ap (option_map (λ (g : Signature R). g.takes)) b.there)
      (bind-at (λ ws. Some (b.callee.takes ++ ws)) (by_null_to [] (slice_get B.context.types x) b.it b.is) refl))
      (ap (option_map (λ (g : Signature R). g.gives)) b.there))

  abbrev cast : Ref ℕ → Shape
  cast q = plain (cast_checks q) (top q) (one (reference q))

  casts_to : (q : Ref ℕ) (ts us : List (ValueType R)) → Rule W B C (cast q) ts us → CastsTo W B q ts us
  casts_to q ts us (plain_rule {ts = taken} {us = given} h e f) =
      let k = single (ref_to true) (top_heap W B q.heap) taken e in
      let m = found_one reference (resolve_ref B.context.types q) given f in
      record { it = m.0; greatest = k.0; on = h.0; allowed = h.1.0; tested = h.1.1.0; is = m.1; above = k.1; takes = ap vals k.2; gives = ap vals m.2 }

  by_cast : (q : Ref ℕ) (ts us : List (ValueType R)) → CastsTo W B q ts us → Rule W B C (cast q) ts us
  by_cast q ts us b =
      as_written W B C (cast q) ts us (val (reference_at true b.greatest) ∷ []) (val (reference b.it) ∷ []) b.takes b.gives
      (plain_rule (b.on, (b.allowed, (b.tested, tt))) (ap (λ (o : Option (Heap R)). meaning.one (option_map (ref_to true) o)) b.above)
      (ap (λ (o : Option (Ref R)). option_map reference o >>= λ w. Some (w ∷ [])) b.is))

  abbrev cast_by_descriptor : Ref ℕ → Shape
  cast_by_descriptor q = plain (descriptor_checks (cast_checks q)) (joined (top q) (descriptor_for q.heap)) (one (reference q))

  -- a reference, or null, to a heap type that was found
  null_at : Option (Heap R) → Option (List (Val R))
  null_at o = meaning.one (option_map (ref_to true) o)

  casts_by : (q : Ref ℕ) (ts us : List (ValueType R)) → Rule W B C (cast_by_descriptor q) ts us → CastsByDescriptor W B q ts us
  unfolding null_at
  casts_by q ts us (plain_rule {ts = taken} {us = given} h e f) =
      let a = bind-gives (null_at (top_heap W B q.heap)) (λ vs. null_at (descriptor_heap W B q.heap) >>= λ ws. Some (vs ++ ws)) taken e in
      let b = bind-gives (null_at (descriptor_heap W B q.heap)) (λ ws. Some (a.0 ++ ws)) taken a.2 in
      let k = single (ref_to true) (top_heap W B q.heap) a.0 a.1 in
      let d = single (ref_to true) (descriptor_heap W B q.heap) b.0 b.1 in
      let m = found_one reference (resolve_ref B.context.types q) given f in
      record {
        it = m.0;
        greatest = k.0;
        descriptor = d.0;
        served = h.0;
        described = h.1.0;
        on = h.1.1.0;
        allowed = h.1.1.1.0;
        tested = h.1.1.1.1.0;
        is = m.1;
        above = k.1;
        there = d.1;
        takes = ap vals (sym (the_same (a.0 ++ b.0) taken b.2) ∙ (λ i. k.2 i ++ d.2 i));
        gives = ap vals m.2;
      }

  by_casting_by : (q : Ref ℕ) (ts us : List (ValueType R)) → CastsByDescriptor W B q ts us → Rule W B C (cast_by_descriptor q) ts us
  unfolding null_at
  by_casting_by q ts us b =
      as_written W B C (cast_by_descriptor q) ts us (val (reference_at true b.greatest) ∷ val (reference_at true b.descriptor) ∷ []) (val (reference b.it) ∷ []) b.takes b.gives
      (plain_rule (b.served, (b.described, (b.on, (b.allowed, (b.tested, tt)))))
      (bind-at (λ vs. null_at (descriptor_heap W B q.heap) >>= λ ws. Some (vs ++ ws)) (ap null_at b.above)
      (bind-at (λ ws. Some (reference_at true b.greatest ∷ ws)) (ap null_at b.there) refl))
      (ap (λ (o : Option (Ref R)). option_map reference o >>= λ w. Some (w ∷ [])) b.is))

  loads : (op : MemoryOperator) (m : MemArg) (v : Val ℕ) (ts us : List (ValueType R)) → Rule W B C (loading op m v) ts us → Loads W B op m v ts us
  loads op m v ts us (plain_rule {ts = taken} {us = given} h e f) =
      let k = single address (option_map (λ (x : Memory). x.is_64) (slice_get B.context.memories m.memory)) taken e in
      let n = mapped (λ (x : Memory). x.is_64) (slice_get B.context.memories m.memory) k.0 k.1 in
      let r = bind-gives (resolve_val B.context.types v) (λ w. Some (w ∷ [])) given f in
      record {
        it = n.0;
        loaded = r.0;
        allowed = h.0;
        there = n.1;
        aligned = ap (passes (allows_memarg op m)) (sym n.1) ∙ h.1.0;
        is = r.1;
        takes = ap vals (k.2 ∙ ap (λ (z : Bool). address z ∷ []) n.2);
        gives = ap vals (sym (the_same (r.0 ∷ []) given r.2));
      }

  by_load : (op : MemoryOperator) (m : MemArg) (v : Val ℕ) (ts us : List (ValueType R)) → Loads W B op m v ts us → Rule W B C (loading op m v) ts us
  by_load op m v ts us b =
      as_written W B C (loading op m v) ts us (val (address b.it.is_64) ∷ []) (val b.loaded ∷ []) b.takes b.gives
      (plain_rule (b.allowed, (ap (passes (allows_memarg op m)) b.there ∙ b.aligned, tt))
      (ap (λ (o : Option Memory). meaning.one (option_map address (option_map (λ (x : Memory). x.is_64) o))) b.there) (bind-at (λ w. Some (w ∷ [])) b.is refl))

  abbrev made : ℕ → Shape
  made x = plain (aggregate_checks x (has_no_descriptor x ∷ [])) (fields x) (new_reference x)

  makes : (x : ℕ) (ts us : List (ValueType R)) → Rule W B C (made x) ts us → MakesStructure W B x ts us
  makes x ts us (plain_rule {ts = taken} {us = given} h e f) =
      let k = mapped (map unpack_field) (fields_at W B x) taken e in
      let m = single (λ a. ref_to false (exact_if W B true a)) (slice_get B.context.types x) given f in
      record { it = m.0; fields = k.0; on = h.0; reached = h.1.0; plain = h.1.1.0; is = m.1; there = k.1; takes = ap vals k.2; gives = ap vals m.2 }

  by_making : (x : ℕ) (ts us : List (ValueType R)) → MakesStructure W B x ts us → Rule W B C (made x) ts us
  by_making x ts us b =
      as_written W B C (made x) ts us (vals (map unpack_field b.fields)) (val (reference_at false (exact_if W B true b.it)) ∷ []) b.takes b.gives
      (plain_rule (b.on, (b.reached, (b.plain, tt))) (ap (option_map (map unpack_field)) b.there)
      (ap (λ (o : Option R). meaning.one (option_map (λ a. ref_to false (exact_if W B true a)) o)) b.is))

  gets_field : (x i : ℕ) (ts us : List (ValueType R)) → Rule W B C (getting false x i) ts us → GetsField W B x i ts us
  gets_field x i ts us (plain_rule {ts = taken} {us = given} h e f) =
      let k = null_to [] (slice_get B.context.types x) taken e in
      let m = single unpack_field (field_at W B x i) given f in
      record { it = k.0; field = m.0; on = h.0; reached = h.1.0; unpacked = h.1.1.0; is = k.1; there = m.1; takes = ap vals k.2; gives = ap vals m.2 }

  by_getting_field : (x i : ℕ) (ts us : List (ValueType R)) → GetsField W B x i ts us → Rule W B C (getting false x i) ts us
  by_getting_field x i ts us b =
      as_written W B C (getting false x i) ts us (val (reference_at true (concrete b.it)) ∷ []) (val (unpack_field b.field) ∷ []) b.takes b.gives
      (plain_rule (b.on, (b.reached, (b.unpacked, tt))) (by_null_to [] (slice_get B.context.types x) b.it b.is)
      (ap (λ (o : Option (Field R)). meaning.one (option_map unpack_field o)) b.there))

  gets_item : (x : ℕ) (ts us : List (ValueType R)) → Rule W B C (item false x) ts us → GetsItem W B x ts us
  gets_item x ts us (plain_rule {ts = taken} {us = given} h e f) =
      let k = null_to (i32 ∷ []) (slice_get B.context.types x) taken e in
      let m = single unpack_field (element_at W B x) given f in
      record { it = k.0; element = m.0; on = h.0; reached = h.1.0; unpacked = h.1.1.0; is = k.1; there = m.1; takes = ap vals k.2; gives = ap vals m.2 }

  by_getting_item : (x : ℕ) (ts us : List (ValueType R)) → GetsItem W B x ts us → Rule W B C (item false x) ts us
  by_getting_item x ts us b =
      as_written W B C (item false x) ts us (val (reference_at true (concrete b.it)) ∷ val i32 ∷ []) (val (unpack_field b.element) ∷ []) b.takes b.gives
      (plain_rule (b.on, (b.reached, (b.unpacked, tt))) (by_null_to (i32 ∷ []) (slice_get B.context.types x) b.it b.is)
      (ap (λ (o : Option (Field R)). meaning.one (option_map unpack_field o)) b.there))

  adds_wide : (ts us : List (ValueType R)) → Rule W B C (wide_shape I64Add128) ts us → AddsWide W B ts us
  adds_wide ts us (plain_rule {ts = taken} {us = given} h e f) =
      record { on = h.0; takes = ap vals (sym (the_same (i64 ∷ i64 ∷ i64 ∷ i64 ∷ []) taken e)); gives = ap vals (sym (the_same (i64 ∷ i64 ∷ []) given f)) }

  by_adding_wide : (ts us : List (ValueType R)) → AddsWide W B ts us → Rule W B C (wide_shape I64Add128) ts us
  by_adding_wide ts us b =
      as_written W B C (wide_shape I64Add128) ts us (val i64 ∷ val i64 ∷ val i64 ∷ val i64 ∷ []) (val i64 ∷ val i64 ∷ []) b.takes b.gives
      (plain_rule {ts = i64 ∷ i64 ∷ i64 ∷ i64 ∷ []} {us = i64 ∷ i64 ∷ []} (b.on, tt) refl refl)

  multiplies_wide : (ts us : List (ValueType R)) → Rule W B C (wide_shape I64MulWideS) ts us → MultipliesWide W B ts us
  multiplies_wide ts us (plain_rule {ts = taken} {us = given} h e f) =
      record { on = h.0; takes = ap vals (sym (the_same (i64 ∷ i64 ∷ []) taken e)); gives = ap vals (sym (the_same (i64 ∷ i64 ∷ []) given f)) }

  by_multiplying_wide : (ts us : List (ValueType R)) → MultipliesWide W B ts us → Rule W B C (wide_shape I64MulWideS) ts us
  by_multiplying_wide ts us b =
      as_written W B C (wide_shape I64MulWideS) ts us (val i64 ∷ val i64 ∷ []) (val i64 ∷ val i64 ∷ []) b.takes b.gives
      (plain_rule {ts = i64 ∷ i64 ∷ []} {us = i64 ∷ i64 ∷ []} (b.on, tt) refl refl)

pub fixed_types_have_their_rules : (R : Type 0) → FixedTypesHaveTheirRules R
fixed_types_have_their_rules R W B C = record {
  nop = λ ts us. (rests W B C ts us, by_rest W B C ts us);
  call = λ x ts us. (calls W B C x ts us, by_calling W B C x ts us);
  throw = λ x ts us. (throws W B C x ts us, by_throwing W B C x ts us);
  throw_ref = λ ts us. (throws_again W B C ts us, by_throwing_again W B C ts us);
  global_get = λ x ts us. (gets_global W B C x ts us, by_getting_global W B C x ts us);
  global_set = λ x ts us. (sets_global W B C x ts us, by_setting_global W B C x ts us);
  table_get = λ x ts us. (gets_element W B C x ts us, by_getting_element W B C x ts us);
  ref_func = λ x ts us. (refers W B C x ts us, by_referring W B C x ts us);
  call_ref = λ x ts us. (calls_reference W B C x ts us, by_calling_reference W B C x ts us);
  ref_cast = λ q ts us. (casts_to W B C q ts us, by_cast W B C q ts us);
  ref_cast_desc_eq = λ q ts us. (casts_by W B C q ts us, by_casting_by W B C q ts us);
  load = λ op m v ts us. (loads W B C op m v ts us, by_load W B C op m v ts us);
  struct_new = λ x ts us. (makes W B C x ts us, by_making W B C x ts us);
  struct_get = λ x i ts us. (gets_field W B C x i ts us, by_getting_field W B C x i ts us);
  array_get = λ x ts us. (gets_item W B C x ts us, by_getting_item W B C x ts us);
  add128 = λ ts us. (adds_wide W B C ts us, by_adding_wide W B C ts us);
  cont_new = λ x ts us. (makes_continuation W B C x ts us, by_making_continuation W B C x ts us);
  cont_bind = λ x y ts us. (binds W B C x y ts us, by_binding W B C x y ts us);
  suspend = λ x ts us. (suspends W B C x ts us, by_suspending W B C x ts us);
  resume = λ x hs ts us. (resumes W B C x hs ts us, by_resuming W B C x hs ts us);
  resume_throw = λ x y hs ts us. (resumes_by_tag W B C x y hs ts us, by_resuming_by_tag W B C x y hs ts us);
  resume_throw_ref = λ x hs ts us. (resumes_by_exception W B C x hs ts us, by_resuming_by_exception W B C x hs ts us);
  switch = λ x y ts us. (switches W B C x y ts us, by_switching W B C x y ts us);
  mul_wide_s = λ ts us. (multiplies_wide W B C ts us, by_multiplying_wide W B C ts us);
}
