-- The rules of shapes, read for `cont.bind` and `switch`.
use Rattle.std.specs.Prelude.{nat_le}
use Rattle.std.proofs.Common.{◌≡◌, refl, sym, ap, ◌∙◌, ℕ, zero, suc, ◌+◌, ◌-◌, true, false, List, [], ◌∷◌, ◌++◌, length, drop, Option, Some, option_map, slice_get, length-append, arith}
use Rattle.std.proofs.Math.Seq.{drop-append_seam}
use Rattle.std.proofs.lemmas.Bool.Decides.{nat_tests}
use Rattle.wasm_spec_steps.specs.WasmSpecRules.WasmSpec.Syntax.{concrete, Val, reference}
use Rattle.wasm_spec_steps.specs.WasmSpecRules.WasmSpec.MatchingTests.{World, matches_val}
use Rattle.wasm_spec_steps.specs.WasmSpecRules.Attempts.{◌>>=◌, passes, front_of}
use Rattle.wasm_spec_steps.specs.WasmSpecRules.Signatures.{Signature}
use Rattle.wasm_operators.specs.Continuations as continuations
use Rattle.wasm_spec_steps.specs.Matching.{matches_vals}
use Rattle.wasm_spec_steps.specs.Bodies.{Surroundings}
use Rattle.wasm_spec_steps.specs.Actions.{of_tag}
use Rattle.wasm_spec_steps.specs.Shapes.{continuation_shape}
use Rattle.wasm_spec_steps.specs.Meanings.{firsts, all_but, last_ones, signature_at, continued_signature}
use Rattle.wasm_spec_instructions.specs.ValueTypes.{ValueType, val, vals, reference_at}
use Rattle.wasm_spec_instructions.specs.Scopes.{Scope}
use Rattle.wasm_spec_instructions.specs.Rules.{Rule, plain_rule}
use Rattle.wasm_spec_instructions.specs.ContinuationShapes.{AreServed, IsContinuation, Binds, Switches}
use Rattle.wasm_spec_instructions.proofs.Attempts.{no, the_same, bind-gives, bind-at, passes-gives, guard-gives, guard-at, and-both, with_last, front-of_last}
use Rattle.wasm_spec_instructions.proofs.OperandFits.{vals-append, match-true, true-match}
use Rattle.wasm_spec_instructions.proofs.Names.{as_written}
use Rattle.wasm_spec_instructions.proofs.AttemptResults.{mapped, null_and}
use Rattle.wasm_spec_instructions.proofs.ContinuationRules.{no_types, signed, last_refers, label_refers, continuation_at, told_of, handed, taken_by_handing}

-- two parts of a list
module _ {R : Type 0} where
  firsts-drop : (n : ℕ) (vs : List (Val R)) → firsts n vs ++ drop n vs ≡ vs
  firsts-drop zero vs = refl
  firsts-drop (suc n) [] = refl
  firsts-drop (suc n) (v ∷ vs) = ap (λ (ws : List (Val R)). v ∷ ws) (firsts-drop n vs)

  firsts-append : (us vs : List (Val R)) → firsts (length us) (us ++ vs) ≡ us
  firsts-append [] vs = refl
  firsts-append (u ∷ us) vs = ap (λ (ws : List (Val R)). u ∷ ws) (firsts-append us vs)

  two_parts : (n : ℕ) (vs us : List (Val R)) → all_but n vs ≡ Some us → (ws : List (Val R)) × (vs ≡ us ++ ws) × (last_ones n vs ≡ Some ws)
  two_parts n vs us e =
      let g = guard-gives (nat_le n (length vs)) (firsts (length vs - n) vs) us e in (
        drop (length vs - n) vs,
        sym (firsts-drop (length vs - n) vs) ∙ ap (λ (ws : List (Val R)). ws ++ drop (length vs - n) vs) g.1,
        guard-at (nat_le n (length vs)) (drop (length vs - n) vs) g.0,
      )

  is_enough : (us vs : List (Val R)) → nat_le (length vs) (length (us ++ vs)) ≡ true
  is_enough us vs = let e : length (us ++ vs) ≡ length us + length vs = length-append us vs in grind (arith, nat_tests, e)

  is_left : (us vs : List (Val R)) → length (us ++ vs) - length vs ≡ length us
  is_left us vs = let e : length (us ++ vs) ≡ length us + length vs = length-append us vs in omega (arith, e)

  first_part : (us vs : List (Val R)) → all_but (length vs) (us ++ vs) ≡ Some us
  first_part us vs =
      guard-at (nat_le (length vs) (length (us ++ vs))) (firsts (length (us ++ vs) - length vs) (us ++ vs)) (is_enough us vs)
      ∙ (λ i. Some (firsts (is_left us vs i) (us ++ vs))) ∙ ap (λ (z : List (Val R)). Some z) (firsts-append us vs)

  last_part : (us vs : List (Val R)) → last_ones (length vs) (us ++ vs) ≡ Some vs
  last_part us vs =
      guard-at (nat_le (length vs) (length (us ++ vs))) (drop (length (us ++ vs) - length vs) (us ++ vs)) (is_enough us vs)
      ∙ (λ i. Some (drop (is_left us vs i) (us ++ vs))) ∙ ap (λ (z : List (Val R)). Some z) (drop-append_seam us vs)

matched-length : {R : Type 0} (W : World R) (ts us : List (Val R)) → matches_vals W ts us ≡ true → length ts ≡ length us
matched-length W [] [] e = refl
matched-length W (t ∷ ts) (u ∷ us) e = ap suc (matched-length W ts us (and-both (matches_val W t u) (matches_vals W ts us) e).1)
matched-length W _ _ e = no e

module _ {R : Type 0} (W : World R) (B : Surroundings R) (C : Scope R) where
  -- what the type of an index takes, or gives
  abbrev taken_at : ℕ → Option (List (Val R))
  taken_at x = option_map (λ (s : Signature R). s.takes) (signed W B C (slice_get B.context.types x))

  abbrev given_at : ℕ → Option (List (Val R))
  given_at x = option_map (λ (s : Signature R). s.gives) (signed W B C (slice_get B.context.types x))

  takes_told : (x : ℕ) (b : IsContinuation W B x) → taken_at x ≡ Some b.signature.takes
  takes_told x b = told_of W B C (λ s. s.takes) x b

  gives_told : (x : ℕ) (b : IsContinuation W B x) → given_at x ≡ Some b.signature.gives
  gives_told x b = told_of W B C (λ s. s.gives) x b

  -- a reference to the type of an index
  abbrev made_at : ℕ → Option (List (Val R))
  made_at x = option_map reference (option_map (λ k. record { nullable = false; heap = k }) (option_map concrete (slice_get B.context.types x))) >>= λ w. Some (w ∷ [])

  made_told : (x : ℕ) (b : IsContinuation W B x) → made_at x ≡ Some (reference_at false (concrete b.it) ∷ [])
  made_told x b = ap (λ (o : Option R). option_map reference (option_map (λ k. record { nullable = false; heap = k }) (option_map concrete o)) >>= λ w. Some (w ∷ [])) b.is

  -- binding: what is bound, and what is taken still
  abbrev bound_of : Option (List (Val R)) → Option (List (Val R)) → Option (List (Val R))
  bound_of o p = o >>= λ vs. p >>= λ ws. all_but (length ws) vs

  abbrev left_of : Option (List (Val R)) → Option (List (Val R)) → Option (List (Val R))
  left_of o p = o >>= λ vs. p >>= λ ws. last_ones (length ws) vs

  left_told :
      (x y : ℕ) (from : IsContinuation W B x) (to : IsContinuation W B y) (left : List (Val R)) → last_ones (length to.signature.takes) from.signature.takes ≡ Some left
      → passes (λ vs. passes (matches_vals W vs) (left_of (taken_at x) (taken_at y))) (taken_at y) ≡ matches_vals W to.signature.takes left
  left_told x y from to left e =
      (λ i. passes (λ vs. passes (matches_vals W vs) (left_of (takes_told x from i) (takes_told y to i))) (takes_told y to i)) ∙ ap (passes (matches_vals W to.signature.takes)) e

  ends_told :
      (x y : ℕ) (from : IsContinuation W B x) (to : IsContinuation W B y)
      → passes (λ vs. passes (matches_vals W vs) (given_at y)) (given_at x) ≡ matches_vals W from.signature.gives to.signature.gives
  ends_told x y from to = λ i. passes (λ vs. passes (matches_vals W vs) (gives_told y to i)) (gives_told x from i)

  bound_so :
      (x y : ℕ) (taken given : List (Val R)) → AreServed W B → (from : IsContinuation W B x) (to : IsContinuation W B y)
      → passes (λ vs. passes (matches_vals W vs) (left_of (taken_at x) (taken_at y))) (taken_at y) ≡ true
      → passes (λ vs. passes (matches_vals W vs) (given_at y)) (given_at x) ≡ true
      → (bound_of (taken_at x) (taken_at y) >>= λ vs. null_and [] (slice_get B.context.types x) >>= λ ws. Some (vs ++ ws)) ≡ Some taken
      → made_at y ≡ Some given → Binds W B x y (vals taken) (vals given)
  bound_so x y taken given d from to l n e f =
      let a = bind-gives (bound_of (taken_at x) (taken_at y)) (λ vs. null_and [] (slice_get B.context.types x) >>= λ ws. Some (vs ++ ws)) taken e in
      let b : bound_of (taken_at x) (taken_at y) ≡ all_but (length to.signature.takes) from.signature.takes = λ i. bound_of (takes_told x from i) (takes_told y to i) in
      let s = two_parts (length to.signature.takes) from.signature.takes a.0 (sym b ∙ a.1) in
      record {
        features = d;
        from = from;
        to = to;
        bound = a.0;
        left = s.0;
        parts = s.1;
        goes_on = true-match W to.signature.takes s.0 (sym (left_told x y from to s.0 s.2) ∙ l);
        ends = true-match W from.signature.gives to.signature.gives (sym (ends_told x y from to) ∙ n);
        takes = taken_by_handing W B C x (bound_of (taken_at x) (taken_at y)) a.0 taken from a.1 e;
        gives = ap vals (the_same given (reference_at false (concrete to.it) ∷ []) (sym f ∙ made_told y to));
      }

  pub binds : (x y : ℕ) (ts us : List (ValueType R)) → Rule W B C (continuation_shape (continuations.cont_bind x y)) ts us → Binds W B x y ts us
  binds x y ts us (plain_rule {ts = taken} {us = given} h e f) =
      let p = passes-gives (λ vs. passes (matches_vals W vs) (given_at y)) (given_at x) h.1.1.1.1.1.0 in
      let q = passes-gives (matches_vals W p.0) (given_at y) p.2 in
      bound_so x y taken given (record { served = h.0; on = h.1.0 }) (continuation_at W B C (λ s. s.gives) x p.0 p.1 h.1.1.0)
      (continuation_at W B C (λ s. s.gives) y q.0 q.1 h.1.1.1.0) h.1.1.1.1.0 h.1.1.1.1.1.0 e f

  pub by_binding : (x y : ℕ) (ts us : List (ValueType R)) → Binds W B x y ts us → Rule W B C (continuation_shape (continuations.cont_bind x y)) ts us
  by_binding x y ts us b =
      let r = reference_at true (concrete b.from.it) in
      let t = reference_at false (concrete b.to.it) in
      let m = match-true W b.to.signature.takes b.left b.goes_on in
      let n = matched-length W b.to.signature.takes b.left m in
      let v : all_but (length b.to.signature.takes) b.from.signature.takes ≡ Some b.bound = (λ i. all_but (n i) (b.parts i)) ∙ first_part b.bound b.left in
      let w : last_ones (length b.to.signature.takes) b.from.signature.takes ≡ Some b.left = (λ i. last_ones (n i) (b.parts i)) ∙ last_part b.bound b.left in
      let l = left_told x y b.from b.to b.left w ∙ m in
      let g = ends_told x y b.from b.to ∙ match-true W b.from.signature.gives b.to.signature.gives b.ends in
      as_written W B C (continuation_shape (continuations.cont_bind x y)) ts us (vals (b.bound ++ r ∷ [])) (val t ∷ []) (b.takes ∙ sym (vals-append b.bound (r ∷ []))) b.gives
      (plain_rule {ts = b.bound ++ r ∷ []} {us = t ∷ []} (b.features.served, (b.features.on, (b.from.reached, (b.to.reached, (l, (g, tt))))))
      (handed W B C x (bound_of (taken_at x) (taken_at y)) b.bound b.from ((λ i. bound_of (takes_told x b.from i) (takes_told y b.to i)) ∙ v))
      (made_told y b.to))

  -- switching: what a tag takes, and gives
  abbrev carried_at : ℕ → Option (List (Val R))
  carried_at y = option_map (λ (s : Signature R). s.takes) (signature_at W B (of_tag y))

  abbrev answered_at : ℕ → Option (List (Val R))
  answered_at y = option_map (λ (s : Signature R). s.gives) (signature_at W B (of_tag y))

  -- the continuation that is switched from
  left_at : (x : ℕ) (b : IsContinuation W B x) (left : Signature R) → continued_signature W B b.signature.takes ≡ Some left → (taken_at x >>= continued_signature W B) ≡ Some left
  left_at x b left e = bind-at (continued_signature W B) (takes_told x b) e

  tag_ends :
      (x y : ℕ) (to : IsContinuation W B x) (tag : Signature R) → signature_at W B (of_tag y) ≡ Some tag
      → passes (λ vs. passes (matches_vals W vs) (answered_at y)) (given_at x) ≡ matches_vals W to.signature.gives tag.gives
  tag_ends x y to tag e = λ i. passes (λ vs. passes (matches_vals W vs) (option_map (λ (s : Signature R). s.gives) (e i))) (gives_told x to i)

  left_ends :
      (x y : ℕ) (tag left : Signature R) → signature_at W B (of_tag y) ≡ Some tag → (taken_at x >>= continued_signature W B) ≡ Some left
      → passes (λ vs. passes (matches_vals W vs) (option_map (λ (s : Signature R). s.gives) (taken_at x >>= continued_signature W B))) (answered_at y) ≡ matches_vals W tag.gives left.gives
  left_ends x y tag left e f = λ i. passes (λ vs. passes (matches_vals W vs) (option_map (λ (s : Signature R). s.gives) (f i))) (option_map (λ (s : Signature R). s.gives) (e i))

  nothing_carried : (y : ℕ) (tag : Signature R) → signature_at W B (of_tag y) ≡ Some tag → passes (λ vs. matches_vals W vs []) (carried_at y) ≡ matches_vals W tag.takes []
  nothing_carried y tag e = ap (λ (o : Option (Signature R)). passes (λ vs. matches_vals W vs []) (option_map (λ (s : Signature R). s.takes) o)) e

  switched_so :
      (x y : ℕ) (taken given : List (Val R)) → AreServed W B → (to : IsContinuation W B x) (tag left : Signature R) → signature_at W B (of_tag y) ≡ Some tag
      → continued_signature W B to.signature.takes ≡ Some left → given ≡ left.takes → passes (λ vs. matches_vals W vs []) (carried_at y) ≡ true
      → passes (λ vs. passes (matches_vals W vs) (answered_at y)) (given_at x) ≡ true
      → passes (λ vs. passes (matches_vals W vs) (option_map (λ (s : Signature R). s.gives) (taken_at x >>= continued_signature W B))) (answered_at y) ≡ true
      → (option_map front_of (taken_at x) >>= λ vs. null_and [] (slice_get B.context.types x) >>= λ ws. Some (vs ++ ws)) ≡ Some taken
      → Switches W B x y (vals taken) (vals given)
  switched_so x y taken given d to tag left g l k a n m e =
      let t = last_refers W B C to.signature.takes left l in
      record {
        features = d;
        to = to;
        tag = tag;
        left = left;
        sent = front_of to.signature.takes;
        last = t.0;
        parts = with_last to.signature.takes t.0 t.1;
        refers = t.2;
        tagged = g;
        takes_nothing = no_types W tag.takes (sym (nothing_carried y tag g) ∙ a);
        ends = true-match W to.signature.gives tag.gives (sym (tag_ends x y to tag g) ∙ n);
        left_ends = true-match W tag.gives left.gives (sym (left_ends x y tag left g (left_at x to left l)) ∙ m);
        takes = taken_by_handing W B C x (option_map front_of (taken_at x)) (front_of to.signature.takes) taken to (ap (option_map front_of) (takes_told x to)) e;
        gives = ap vals k;
      }

  -- what is given, by the type that is switched to
  given_left :
      (x : ℕ) (to : IsContinuation W B x) (given : List (Val R)) → option_map (λ (s : Signature R). s.takes) (taken_at x >>= continued_signature W B) ≡ Some given
      → (left : Signature R) × (continued_signature W B to.signature.takes ≡ Some left) × (given ≡ left.takes)
  given_left x to given f =
      mapped (λ (s : Signature R). s.takes) (continued_signature W B to.signature.takes) given
      (sym (λ i. option_map (λ (s : Signature R). s.takes) (takes_told x to i >>= continued_signature W B)) ∙ f)

  pub switches : (x y : ℕ) (ts us : List (ValueType R)) → Rule W B C (continuation_shape (continuations.switch x y)) ts us → Switches W B x y ts us
  switches x y ts us (plain_rule {ts = taken} {us = given} h e f) =
      let p = passes-gives (λ vs. passes (matches_vals W vs) (answered_at y)) (given_at x) h.1.1.1.1.0 in
      let q = passes-gives (matches_vals W p.0) (answered_at y) p.2 in
      let g = mapped (λ (s : Signature R). s.gives) (signature_at W B (of_tag y)) q.0 q.1 in
      let to : IsContinuation W B x = continuation_at W B C (λ s. s.gives) x p.0 p.1 h.1.1.0 in
      let l = given_left x to given f in
      switched_so x y taken given (record { served = h.0; on = h.1.0 }) to g.0 l.0 g.1 l.1 l.2 h.1.1.1.0 h.1.1.1.1.0 h.1.1.1.1.1.0 e

  pub by_switching : (x y : ℕ) (ts us : List (ValueType R)) → Switches W B x y ts us → Rule W B C (continuation_shape (continuations.switch x y)) ts us
  by_switching x y ts us b =
      let r = reference_at true (concrete b.to.it) in
      let v : front_of b.to.signature.takes ≡ b.sent = ap front_of b.parts ∙ front-of_last b.sent b.last in
      let c : continued_signature W B b.to.signature.takes ≡ Some b.left = ap (continued_signature W B) b.parts ∙ label_refers W B C b.sent b.last ∙ b.refers in
      let d = left_at x b.to b.left c in
      let n = nothing_carried y b.tag b.tagged ∙ ap (λ (vs : List (Val R)). matches_vals W vs []) b.takes_nothing in
      let e = tag_ends x y b.to b.tag b.tagged ∙ match-true W b.to.signature.gives b.tag.gives b.ends in
      let l = left_ends x y b.tag b.left b.tagged d ∙ match-true W b.tag.gives b.left.gives b.left_ends in
      as_written W B C (continuation_shape (continuations.switch x y)) ts us (vals (b.sent ++ r ∷ [])) (vals b.left.takes) (b.takes ∙ sym (vals-append b.sent (r ∷ []))) b.gives
      (plain_rule (b.features.served, (b.features.on, (b.to.reached, (n, (e, (l, tt))))))
      (handed W B C x (option_map front_of (taken_at x)) b.sent b.to (ap (option_map front_of) (takes_told x b.to) ∙ ap (λ (z : List (Val R)). Some z) v))
      (ap (option_map (λ (s : Signature R). s.takes)) d))
