-- The rules of shapes, read for instructions on continuations.
use Rattle.std.proofs.Common.{◌≡◌, refl, sym, ap, subst, ◌∙◌, ℕ, Bool, true, false, ◌==◌, List, [], ◌∷◌, ◌++◌, length, Option, Some, None, option_map, slice_get, arith}
use Rattle.std.proofs.lemmas.Bool.Decides.{Decides-eqb}
use Rattle.wasm_spec_steps.specs.WasmSpecRules.WasmSpec.Syntax.{exn_heap, abstract_heap, concrete, Val, Comp, func, array, struct, cont, reference}
use Rattle.wasm_spec_steps.specs.WasmSpecRules.WasmSpec.MatchingTests.{World}
use Rattle.wasm_spec_steps.specs.WasmSpecRules.Attempts.{◌>>=◌, passes, last_of, front_of}
use Rattle.wasm_spec_steps.specs.WasmSpecRules.Signatures.{Signature}
use Rattle.wasm_operators.specs.Continuations as continuations
use Rattle.wasm_operators.specs.WasmOperatorsProposals.declared.continuations.Handle.{Handle}
use Rattle.wasm_operators.specs.WasmOperatorsProposals.declared.continuations.Handle.TheVariants as handle
use Rattle.wasm_spec_steps.specs.Matching.{matches_vals}
use Rattle.wasm_spec_steps.specs.Bodies.{Surroundings}
use Rattle.wasm_spec_steps.specs.Actions.{of_tag, reaches_type}
use Rattle.wasm_spec_steps.specs.Shapes.{continuation_shape, gives_of, handle_checks}
use Rattle.wasm_spec_steps.specs.Meanings.{ref_to, cont_of, referred, comp_at, signature_at, continuation_signature, continued_signature, holds}
use Rattle.wasm_spec_steps.specs.Meanings as meaning
use Rattle.wasm_spec_instructions.specs.ValueTypes.{ValueType, val, vals, reference_at}
use Rattle.wasm_spec_instructions.specs.Scopes.{Scope, nowhere, types_in, AllHold}
use Rattle.wasm_spec_instructions.specs.Rules.{Rule, plain_rule}
use Rattle.wasm_spec_instructions.specs.ContinuationShapes.{AreServed, MakesContinuation, Suspends, HandlesByLabel, HandlesSwitches, HandlesAll, IsContinuation, IsResumed, Resumes, ResumesByTag, ResumesByException}
use Rattle.wasm_spec_instructions.proofs.Attempts.{no, the_same, absent, bind-gives, bind-at, passes-gives, with_last, last-of_last, front-of_last}
use Rattle.wasm_spec_instructions.proofs.OperandFits.{vals-append, match-true, true-match}
use Rattle.wasm_spec_instructions.proofs.Names.{as_written}
use Rattle.wasm_spec_instructions.proofs.AttemptResults.{mapped, single, null_and, by_null_to}

pub no_types : {R : Type 0} (W : World R) (vs : List (Val R)) → matches_vals W vs [] ≡ true → vs ≡ []
no_types W [] e = refl
no_types W (v ∷ vs) e = no e

module _ {R : Type 0} (W : World R) (B : Surroundings R) (C : Scope R) where
  -- what a reference to continuations tells
  abbrev pub signed : Option R → Option (Signature R)
  signed o = null_and [] o >>= continued_signature W B

  -- handlers: what the label of one takes, by the option that has it
  abbrev Sends : Signature R → Option (List (Val R)) → Bool
  Sends g o = passes (matches_vals W g.takes) (option_map front_of o)

  abbrev GoesOn : Signature R → Option (List (Val R)) → Bool
  GoesOn g o = passes (λ vs. matches_vals W vs g.gives) (option_map (λ (s : Signature R). s.takes) (o >>= continued_signature W B))

  abbrev Ends : List (Val R) → Option (List (Val R)) → Bool
  Ends ts o = passes (matches_vals W ts) (option_map (λ (s : Signature R). s.gives) (o >>= continued_signature W B))

  pub last_refers :
      (ls : List (Val R)) (s : Signature R) → continued_signature W B ls ≡ Some s
      → (t : Val R) × (last_of ls ≡ Some t) × (continued_signature W B (t ∷ []) ≡ Some s)
  last_refers ls s e =
      let a = bind-gives (last_of ls >>= referred) (continuation_signature W B) s e in
      let b = bind-gives (last_of ls) referred a.0 a.1 in
      (b.0, b.1, bind-at (continuation_signature W B) b.2 a.2)

  by_signature :
      (x l : ℕ) (ls : List (Val R)) (g : Signature R) (ts : List (Val R)) (o : Option (Signature R)) → signature_at W B (of_tag x) ≡ Some g → slice_get C.labels l ≡ Some ls
      → continued_signature W B ls ≡ o → matches_vals W g.takes (front_of ls) ≡ true
      → passes (λ vs. matches_vals W vs g.gives) (option_map (λ (s : Signature R). s.takes) o) ≡ true
      → passes (matches_vals W ts) (option_map (λ (s : Signature R). s.gives) o) ≡ true → HandlesByLabel W B C ts x l
  by_signature x l ls g ts None d e f a b c = no b
  by_signature x l ls g ts (Some s) d e f a b c =
      let t = last_refers ls s f in
      record {
        tag = g;
        left = s;
        sent = front_of ls;
        last = t.0;
        tagged = d;
        labelled = e ∙ ap (λ (z : List (Val R)). Some z) (with_last ls t.0 t.1);
        refers = t.2;
        sends = true-match W g.takes (front_of ls) a;
        goes_on = true-match W s.takes g.gives b;
        ends = true-match W ts s.gives c;
      }

  by_label :
      (x l : ℕ) (g : Signature R) (ts : List (Val R)) (o : Option (List (Val R))) → signature_at W B (of_tag x) ≡ Some g → slice_get C.labels l ≡ o
      → Sends g o ≡ true → GoesOn g o ≡ true → Ends ts o ≡ true → HandlesByLabel W B C ts x l
  by_label x l g ts None d e a b c = no a
  by_label x l g ts (Some ls) d e a b c = by_signature x l ls g ts (continued_signature W B ls) d e refl a b c

  by_tag :
      (x l : ℕ) (ts : List (Val R)) (p : Option (Signature R)) → signature_at W B (of_tag x) ≡ p
      → passes (λ vs. passes (matches_vals W vs) (option_map front_of (slice_get C.labels l))) (option_map (λ (s : Signature R). s.takes) p) ≡ true
      → passes (λ vs. passes (matches_vals W vs) (option_map (λ (s : Signature R). s.gives) p)) (option_map (λ (s : Signature R). s.takes) (slice_get C.labels l >>= continued_signature W B)) ≡ true
      → Ends ts (slice_get C.labels l) ≡ true → HandlesByLabel W B C ts x l
  by_tag x l ts None d a b c = no a
  by_tag x l ts (Some g) d a b c = by_label x l g ts (slice_get C.labels l) d refl a b c

  by_switch :
      (x : ℕ) (ts : List (Val R)) (p : Option (Signature R)) → signature_at W B (of_tag x) ≡ p
      → passes (λ vs. matches_vals W vs []) (option_map (λ (s : Signature R). s.takes) p) ≡ true
      → passes (λ vs. matches_vals W vs ts) (option_map (λ (s : Signature R). s.gives) p) ≡ true → HandlesSwitches W B ts x
  by_switch x ts None d a b = no a
  by_switch x ts (Some g) d a b = record { tag = g; tagged = d; takes = no_types W g.takes a; gives = true-match W g.gives ts b }

  pub handles :
      (n : ℕ) (hs : List Handle) (ts : List (Val R)) → types_in W B C.labels C.returns (gives_of n) ≡ Some ts → AllHold W B C (handle_checks n hs) → HandlesAll W B C ts hs
  handles n [] ts e h = tt
  handles n (handle.OnLabel x l ∷ hs) ts e h = (
    by_tag x l ts (signature_at W B (of_tag x)) refl h.0 h.1.0
        (subst (λ (p : Option (List (Val R))). passes (λ vs. Ends vs (slice_get C.labels l)) p ≡ true) e h.1.1.0),
    handles n hs ts e h.1.1.1,
  )
  handles n (handle.OnSwitch x ∷ hs) ts e h = (
    by_switch x ts (signature_at W B (of_tag x)) refl h.0
        (subst (λ (p : Option (List (Val R))). passes (λ vs. passes (matches_vals W vs) p) (option_map (λ (s : Signature R). s.gives) (signature_at W B (of_tag x))) ≡ true) e h.1.0),
    handles n hs ts e h.1.1,
  )

  -- and back
  pub label_refers : (sent : List (Val R)) (last : Val R) → continued_signature W B (sent ++ last ∷ []) ≡ continued_signature W B (last ∷ [])
  label_refers sent last = ap (λ (o : Option (Val R)). (o >>= referred) >>= continuation_signature W B) (last-of_last sent last)

  label_checks :
      (n x l : ℕ) (ts : List (Val R)) → types_in W B C.labels C.returns (gives_of n) ≡ Some ts → HandlesByLabel W B C ts x l
      → AllHold W B C (handle_checks n (handle.OnLabel x l ∷ []))
  label_checks n x l ts e b =
      let o : (slice_get C.labels l >>= continued_signature W B) ≡ Some b.left = bind-at (continued_signature W B) b.labelled (label_refers b.sent b.last ∙ b.refers) in (
        (λ i. passes (λ vs. passes (matches_vals W vs) (option_map front_of (b.labelled i))) (option_map (λ (s : Signature R). s.takes) (b.tagged i)))
            ∙ ap (matches_vals W b.tag.takes) (front-of_last b.sent b.last) ∙ match-true W b.tag.takes b.sent b.sends,
        (
          (λ i. passes (λ vs. passes (matches_vals W vs) (option_map (λ (s : Signature R). s.gives) (b.tagged i))) (option_map (λ (s : Signature R). s.takes) (o i)))
              ∙ match-true W b.left.takes b.tag.gives b.goes_on,
          (
            (λ i. passes (λ vs. passes (matches_vals W vs) (option_map (λ (s : Signature R). s.gives) (o i))) (e i))
                ∙ match-true W ts b.left.gives b.ends,
            tt,
          ),
        ),
      )

  switch_checks :
      (n x : ℕ) (ts : List (Val R)) → types_in W B C.labels C.returns (gives_of n) ≡ Some ts → HandlesSwitches W B ts x → AllHold W B C (handle_checks n (handle.OnSwitch x ∷ []))
  switch_checks n x ts e b = (
    (λ i. passes (λ vs. passes (matches_vals W vs) (Some [])) (option_map (λ (s : Signature R). s.takes) (b.tagged i))) ∙ ap (λ (vs : List (Val R)). matches_vals W vs []) b.takes,
    (
      (λ i. passes (λ vs. passes (matches_vals W vs) (e i)) (option_map (λ (s : Signature R). s.gives) (b.tagged i))) ∙ match-true W b.tag.gives ts b.gives,
      tt,
    ),
  )

  by_handling :
      (n : ℕ) (hs : List Handle) (ts : List (Val R)) → types_in W B C.labels C.returns (gives_of n) ≡ Some ts → HandlesAll W B C ts hs → AllHold W B C (handle_checks n hs)
  by_handling n [] ts e b = tt
  by_handling n (handle.OnLabel x l ∷ hs) ts e b = let a = label_checks n x l ts e b.0 in (a.0, (a.1.0, (a.1.1.0, by_handling n hs ts e b.1)))
  by_handling n (handle.OnSwitch x ∷ hs) ts e b = let a = switch_checks n x ts e b.0 in (a.0, (a.1.0, by_handling n hs ts e b.1))

  -- what a continuation of a type takes or gives
  tells :
      (f : Signature R → List (Val R)) (o : Option R) (ts : List (Val R)) → option_map f (signed o) ≡ Some ts
      → (a : R) × (g : Signature R) × (o ≡ Some a) × (continuation_signature W B a ≡ Some g) × (ts ≡ f g)
  tells f None ts e = absurd (absent ts e)
  tells f (Some a) ts e = let k = mapped f (continuation_signature W B a) ts e in (a, k.0, refl, k.1, k.2)

  told : (f : Signature R → List (Val R)) (o : Option R) (a : R) (g : Signature R) → o ≡ Some a → continuation_signature W B a ≡ Some g → option_map f (signed o) ≡ Some (f g)
  told f o a g e h = ap (λ (p : Option R). option_map f (signed p)) e ∙ ap (option_map f) h

  -- the type of an index, by what is told of it
  pub continuation_at :
      (f : Signature R → List (Val R)) (x : ℕ) (ts : List (Val R)) → option_map f (signed (slice_get B.context.types x)) ≡ Some ts
      → holds W B (nowhere W B) (reaches_type x) ≡ true → IsContinuation W B x
  continuation_at f x ts e r = let k = tells f (slice_get B.context.types x) ts e in record { it = k.0; signature = k.1; reached = r; is = k.2; there = k.3 }

  pub told_of : (f : Signature R → List (Val R)) (x : ℕ) (b : IsContinuation W B x) → option_map f (signed (slice_get B.context.types x)) ≡ Some (f b.signature)
  told_of f x b = told f (slice_get B.context.types x) b.it b.signature b.is b.there

  -- making one
  pub makes_continuation : (x : ℕ) (ts us : List (ValueType R)) → Rule W B C (continuation_shape (continuations.cont_new x)) ts us → MakesContinuation W B x ts us
  makes_continuation x ts us (plain_rule {ts = taken} {us = given} h e f) =
      let k = single (λ a. ref_to true (concrete a)) (comp_at W B x >>= cont_of) taken e in
      let c = bind-gives (comp_at W B x) cont_of k.0 k.1 in
      let m = found (slice_get B.context.types x) given f in
      record {
        it = m.0;
        function = k.0;
        features = record { served = h.0; on = h.1.0 };
        reached = h.1.1.0;
        is = m.1;
        there = c.1 ∙ ap (λ (z : Comp R). Some z) (is_cont c.0 k.0 c.2);
        takes = ap vals k.2;
        gives = ap vals m.2;
      }
    where
      is_cont : (c : Comp R) (b : R) → cont_of c ≡ Some b → c ≡ cont b
      is_cont (cont a) b e = ap (λ (z : R). cont z) (the_same a b e)
      is_cont (func ps rs) b e = absurd (absent b e)
      is_cont (array y) b e = absurd (absent b e)
      is_cont (struct ys) b e = absurd (absent b e)

      found :
          (o : Option R) (vs : List (Val R)) → (option_map reference (option_map (λ k. record { nullable = false; heap = k }) (option_map concrete o)) >>= λ w. Some (w ∷ [])) ≡ Some vs
          → (a : R) × (o ≡ Some a) × (vs ≡ reference_at false (concrete a) ∷ [])
      found None vs e = absurd (absent vs e)
      found (Some a) vs e = (a, refl, sym (the_same (reference_at false (concrete a) ∷ []) vs e))

  pub by_making_continuation : (x : ℕ) (ts us : List (ValueType R)) → MakesContinuation W B x ts us → Rule W B C (continuation_shape (continuations.cont_new x)) ts us
  by_making_continuation x ts us b =
      as_written W B C (continuation_shape (continuations.cont_new x)) ts us (val (reference_at true (concrete b.function)) ∷ []) (val (reference_at false (concrete b.it)) ∷ []) b.takes b.gives
      (plain_rule {ts = reference_at true (concrete b.function) ∷ []} {us = reference_at false (concrete b.it) ∷ []} (b.features.served, (b.features.on, (b.reached, tt)))
      (ap (λ (o : Option (Comp R)). meaning.one (option_map (λ a. ref_to true (concrete a)) (o >>= cont_of))) b.there)
      (ap (λ (o : Option R). option_map reference (option_map (λ k. record { nullable = false; heap = k }) (option_map concrete o)) >>= λ w. Some (w ∷ [])) b.is))

  -- suspending
  pub suspends : (x : ℕ) (ts us : List (ValueType R)) → Rule W B C (continuation_shape (continuations.suspend x)) ts us → Suspends W B x ts us
  suspends x ts us (plain_rule {ts = taken} {us = given} h e f) =
      let k = mapped (λ (g : Signature R). g.takes) (signature_at W B (of_tag x)) taken e in
      let m : k.0.gives ≡ given = the_same k.0.gives given (ap (option_map (λ (g : Signature R). g.gives)) (sym k.1) ∙ f) in
      record { tag = k.0; features = record { served = h.0; on = h.1.0 }; there = k.1; takes = ap vals k.2; gives = ap vals (sym m) }

  pub by_suspending : (x : ℕ) (ts us : List (ValueType R)) → Suspends W B x ts us → Rule W B C (continuation_shape (continuations.suspend x)) ts us
  by_suspending x ts us b =
      as_written W B C (continuation_shape (continuations.suspend x)) ts us (vals b.tag.takes) (vals b.tag.gives) b.takes b.gives
      (plain_rule (b.features.served, (b.features.on, tt)) (ap (option_map (λ (g : Signature R). g.takes)) b.there) (ap (option_map (λ (g : Signature R). g.gives)) b.there))

  -- resuming: by what an instruction gives, and checks
  resumed :
      (x : ℕ) (hs : List Handle) (us : List (Val R)) → AreServed W B → holds W B (nowhere W B) (reaches_type x) ≡ true
      → option_map (λ (s : Signature R). s.gives) (signed (slice_get B.context.types x)) ≡ Some us → AllHold W B C (handle_checks x hs) → IsResumed W B C x hs
  resumed x hs us d r f h =
      let k : IsContinuation W B x = continuation_at (λ s. s.gives) x us f r in
      record { features = d; continued = k; handlers = handles x hs k.signature.gives (told_of (λ s. s.gives) x k) h }

  resumed_gives :
      (x : ℕ) (hs : List Handle) (us : List (Val R)) (b : IsResumed W B C x hs)
      → option_map (λ (s : Signature R). s.gives) (signed (slice_get B.context.types x)) ≡ Some us → us ≡ b.continued.signature.gives
  resumed_gives x hs us b f = the_same us b.continued.signature.gives (sym f ∙ told_of (λ s. s.gives) x b.continued)

  -- the checks of its handlers
  handled : (x : ℕ) (hs : List Handle) (b : IsResumed W B C x hs) → AllHold W B C (handle_checks x hs)
  handled x hs b = by_handling x hs b.continued.signature.gives (told_of (λ s. s.gives) x b.continued) b.handlers

  -- types, and a reference to the continuation behind them
  pub handed :
      (x : ℕ) (t : Option (List (Val R))) (vs : List (Val R)) (b : IsContinuation W B x) → t ≡ Some vs
      → (t >>= λ us. null_and [] (slice_get B.context.types x) >>= λ ws. Some (us ++ ws)) ≡ Some (vs ++ reference_at true (concrete b.it) ∷ [])
  handed x t vs b e =
      bind-at (λ us. null_and [] (slice_get B.context.types x) >>= λ ws. Some (us ++ ws)) e
      (bind-at (λ ws. Some (vs ++ ws)) (by_null_to [] (slice_get B.context.types x) b.it b.is) refl)

  pub taken_by_handing :
      (x : ℕ) (t : Option (List (Val R))) (vs taken : List (Val R)) (b : IsContinuation W B x) → t ≡ Some vs
      → (t >>= λ us. null_and [] (slice_get B.context.types x) >>= λ ws. Some (us ++ ws)) ≡ Some taken
      → vals taken ≡ vals vs ++ val (reference_at true (concrete b.it)) ∷ []
  taken_by_handing x t vs taken b d e =
      ap vals (the_same taken (vs ++ reference_at true (concrete b.it) ∷ []) (sym e ∙ handed x t vs b d)) ∙ vals-append vs (reference_at true (concrete b.it) ∷ [])

  pub resumes : (x : ℕ) (hs : List Handle) (ts us : List (ValueType R)) → Rule W B C (continuation_shape (continuations.resume x hs)) ts us → Resumes W B C x hs ts us
  resumes x hs ts us (plain_rule {ts = taken} {us = given} h e f) =
      let b : IsResumed W B C x hs = resumed x hs given (record { served = h.0; on = h.1.0 }) h.1.1.0 f h.1.1.1 in
      record {
        resumed = b;
        takes = taken_by_handing x (option_map (λ (s : Signature R). s.takes) (signed (slice_get B.context.types x))) b.continued.signature.takes taken b.continued (told_of (λ s. s.takes) x b.continued) e;
        gives = ap vals (resumed_gives x hs given b f);
      }

  pub by_resuming : (x : ℕ) (hs : List Handle) (ts us : List (ValueType R)) → Resumes W B C x hs ts us → Rule W B C (continuation_shape (continuations.resume x hs)) ts us
  by_resuming x hs ts us b =
      let k = b.resumed.continued in
      let c = reference_at true (concrete k.it) in
      as_written W B C (continuation_shape (continuations.resume x hs)) ts us (vals (k.signature.takes ++ c ∷ [])) (vals k.signature.gives)
      (b.takes ∙ sym (vals-append k.signature.takes (c ∷ []))) b.gives
      (plain_rule (b.resumed.features.served, (b.resumed.features.on, (k.reached, handled x hs b.resumed)))
      (handed x (option_map (λ (s : Signature R). s.takes) (signed (slice_get B.context.types x))) k.signature.takes k (told_of (λ s. s.takes) x k)) (told_of (λ s. s.gives) x k))

  -- by a tag, which gives nothing
  none_given : (vs : List (Val R)) → (length vs == 0) ≡ true → vs ≡ []
  none_given [] e = refl
  none_given (v ∷ vs) e = let n : length (v ∷ vs) ≡ 0 = (Decides-eqb (length (v ∷ vs)) 0).0 e in absurd (omega (arith, n))

  pub resumes_by_tag :
      (x y : ℕ) (hs : List Handle) (ts us : List (ValueType R)) → Rule W B C (continuation_shape (continuations.resume_throw x y hs)) ts us → ResumesByTag W B C x y hs ts us
  resumes_by_tag x y hs ts us (plain_rule {ts = taken} {us = given} h e f) =
      let b : IsResumed W B C x hs = resumed x hs given (record { served = h.0; on = h.1.0 }) h.1.1.0 f h.1.1.1.1 in
      let g = passes-gives (λ (s : Signature R). length s.gives == 0) (signature_at W B (of_tag y)) h.1.1.1.0 in
      record {
        resumed = b;
        tag = g.0;
        tagged = g.1;
        gives_nothing = none_given g.0.gives g.2;
        takes = taken_by_handing x (option_map (λ (s : Signature R). s.takes) (signature_at W B (of_tag y))) g.0.takes taken b.continued (ap (option_map (λ (s : Signature R). s.takes)) g.1) e;
        gives = ap vals (resumed_gives x hs given b f);
      }

  pub by_resuming_by_tag :
      (x y : ℕ) (hs : List Handle) (ts us : List (ValueType R)) → ResumesByTag W B C x y hs ts us → Rule W B C (continuation_shape (continuations.resume_throw x y hs)) ts us
  by_resuming_by_tag x y hs ts us b =
      let k = b.resumed.continued in
      let c = reference_at true (concrete k.it) in
      let e = ap (passes (λ (s : Signature R). length s.gives == 0)) b.tagged ∙ ap (λ (vs : List (Val R)). length vs == 0) b.gives_nothing in
      as_written W B C (continuation_shape (continuations.resume_throw x y hs)) ts us (vals (b.tag.takes ++ c ∷ [])) (vals k.signature.gives)
      (b.takes ∙ sym (vals-append b.tag.takes (c ∷ []))) b.gives
      (plain_rule (b.resumed.features.served, (b.resumed.features.on, (k.reached, (e, handled x hs b.resumed))))
      (handed x (option_map (λ (s : Signature R). s.takes) (signature_at W B (of_tag y))) b.tag.takes k (ap (option_map (λ (s : Signature R). s.takes)) b.tagged)) (told_of (λ s. s.gives) x k))

  pub resumes_by_exception :
      (x : ℕ) (hs : List Handle) (ts us : List (ValueType R)) → Rule W B C (continuation_shape (continuations.resume_throw_ref x hs)) ts us → ResumesByException W B C x hs ts us
  resumes_by_exception x hs ts us (plain_rule {ts = taken} {us = given} h e f) =
      let b : IsResumed W B C x hs = resumed x hs given (record { served = h.0; on = h.1.0 }) h.1.1.0 f h.1.1.1 in
      record {
        resumed = b;
        takes = taken_by_handing x (Some (reference_at true (abstract_heap false exn_heap) ∷ [])) (reference_at true (abstract_heap false exn_heap) ∷ []) taken b.continued refl e;
        gives = ap vals (resumed_gives x hs given b f);
      }

  pub by_resuming_by_exception :
      (x : ℕ) (hs : List Handle) (ts us : List (ValueType R)) → ResumesByException W B C x hs ts us → Rule W B C (continuation_shape (continuations.resume_throw_ref x hs)) ts us
  by_resuming_by_exception x hs ts us b =
      let k = b.resumed.continued in
      let n = reference_at true (abstract_heap false exn_heap) in
      as_written W B C (continuation_shape (continuations.resume_throw_ref x hs)) ts us (vals (n ∷ reference_at true (concrete k.it) ∷ [])) (vals k.signature.gives) b.takes b.gives
      (plain_rule (b.resumed.features.served, (b.resumed.features.on, (k.reached, handled x hs b.resumed)))
      (handed x (Some (n ∷ [])) (n ∷ []) k refl) (told_of (λ s. s.gives) x k))
