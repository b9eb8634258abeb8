-- Steps of operators on continuations, operator by operator.
use Rattle.std.proofs.Common.{◌≡◌, ◌<◌, ◌≤◌, ◌-◌, ℕ, suc, zero, Bool, true, false, ◌&&◌, ◌==◌, List, [], ◌∷◌, ◌++◌, length, drop, map, refl, sym, ap, ◌∙◌}
use Rattle.std.proofs.Common as list
use Rattle.std.specs.Option.{option_map}
use Rattle.std.specs.Prelude.{Option, Some, None, Result, Err, slice_get}
use Rattle.std.proofs.lemmas.Bool.{le-leb, lt-leb}
use Rattle.std.proofs.lemmas.List.{drop-map, length-map, take-map, take_rest}
use Rattle.wasm_typing_control.specs.WasmSpec.Syntax.{Val, concrete}
use Rattle.wasm_typing_control.specs.WasmSpec.MatchingTests.{World}
use Rattle.wasm_typing_control.specs.WasmSpecRules.Attempts.{◌>>=◌, passes, front_of}
use Rattle.wasm_typing_control.specs.WasmSpecRules.Contexts.{Context}
use Rattle.wasm_typing_control.specs.WasmSpecRules.Signatures.{Signature}
use Rattle.wasm_typing_control.specs.WasmReadersTypes.WasmReadersValues.SeenValues.{val_of}
use Rattle.wasm_typing_control.specs.WasmReadersTypes.WasmReadersValues.declared.values.ValType.{ValType}
use Rattle.wasm_typing_control.specs.WasmReadersTypes.WasmReadersValues.declared.indices.UnpackedIndex.{UnpackedIndex}
use Rattle.wasm_typing_control.specs.WasmOperators.Continuations.{Continuation, cont_new, cont_bind, suspend, resume, resume_throw, resume_throw_ref, switch}
use Rattle.wasm_typing_control.specs.WasmTypingChecks.WasmSpecSteps.Actions.{these, of_tag, params, results, continued, joined, before, behind, front, taken_by, given_by, has, stack_switching, stack_switching_operators, each_matches, reaches_type, Action, need, take, give}
use Rattle.wasm_typing_control.specs.WasmTypingChecks.WasmSpecSteps.Machine.{State}
use Rattle.wasm_typing_control.specs.WasmTypingChecks.WasmSpecSteps.Matching.{matches_vals}
use Rattle.wasm_typing_control.specs.WasmTypingChecks.WasmSpecSteps.Meanings.{ref_to, firsts, all_but, continued_signature}
use Rattle.wasm_typing_control.specs.WasmTypingChecks.WasmSpecSteps.Shapes.{reference_to, nullable_to, takes_of, gives_of, continuing, continuation_shape}
use Rattle.wasm_typing_control.specs.WasmTypingChecks.WasmSpecSteps.Steps.{actions_of}
use Rattle.wasm_typing_control.specs.WasmTypingChecks.WasmValidatorResources.Answers.{world, tag_in}
use Rattle.wasm_typing_control.specs.WasmTypingChecks.WasmTypingStacks.BodyStacks.{state_of, around}
use Rattle.wasm_typing_control.specs.WasmTypingChecks.WasmTypingStacks.declared.stacks.Stacks.{Stacks}
use Rattle.wasm_typing_control.specs.WasmTypingChecks.Steps.{Took, acted, typed, held}
use Rattle.wasm_typing_control.specs.WasmTypingChecks.SeenTypes.{exchanged}
use Rattle.wasm_typing_control.specs.WasmTypingChecks.declared.faults.OperatorFault.{OperatorFault}
use Rattle.wasm_typing_control.specs.WasmTypingChecks.declared.faults.OperatorError.{OperatorError}
use Rattle.wasm_typing_control.specs.WasmTypingChecks.declared.faults.OperatorError.TheVariants.{Refused}
use Rattle.wasm_typing_control.proofs.WasmTypingChecks.ActionSteps.{took_along, needed, refused_here, refused_later, refused_takes, refused_gives, plainly}
use Rattle.wasm_typing_control.proofs.WasmTypingChecks.TypeLookups.{nothing_typed, both_typed, first_untyped}
use Rattle.wasm_typing_continuations.specs.ContinuationLookups.{continuation_in, continuation_named, type_named, function_named, last_continued, continued_at, may_switch}
use Rattle.wasm_typing_continuations.proofs.ContinuationSteps.{Found, both_held, reached_held, function_typed, function_unreached, named_typed, named_untyped, continued_held, takes_typed, gives_typed, continued_typed, discontinued, tag_params, tag_results, no_tag_params}
use Rattle.wasm_typing_continuations.proofs.HandlerChecks.{none_match}

-- the first ones of a list
firsts_taken : (k : ℕ) (vs : List (Val UnpackedIndex)) → firsts k vs ≡ list.take k vs
firsts_taken zero [] = refl
firsts_taken zero (v ∷ vs) = refl
firsts_taken (suc k) [] = refl
firsts_taken (suc k) (v ∷ vs) = ap (λ ws. v ∷ ws) (firsts_taken k vs)

no_kept : (o p : Option (List (Val UnpackedIndex))) → p ≡ None → (o >>= λ vs. p >>= λ ws. all_but (length ws) vs) ≡ None
no_kept None p e = refl
no_kept (Some vs) p e = rw e refl

-- types as they are seen of the module's
pub fewer_seen : (ts us fs ks : List ValType) → ts ≡ fs → us ≡ ks → length ts < length us → length (map val_of fs) < length (map val_of ks)
fewer_seen ts us fs ks e f h = rw (length-map fs val_of, length-map ks val_of, ← e, ← f) h

pub enough_seen : (ts us fs ks : List ValType) → ts ≡ fs → us ≡ ks → length us ≤ length ts → length (map val_of ks) ≤ length (map val_of fs)
enough_seen ts us fs ks e f h = rw (length-map fs val_of, length-map ks val_of, ← e, ← f) h

pub bound_seen : (k : ℕ) (ts us fs ks : List ValType) → ts ≡ fs → us ≡ ks → k ≡ length ts - length us → k ≡ length (map val_of fs) - length (map val_of ks)
bound_seen k ts us fs ks e f h = rw (length-map fs val_of, length-map ks val_of, ← e, ← f) h

pub first_fails : (r a b : Bool) → r ≡ a → r ≡ false → r ≡ (a && b)
first_fails r a b e f = f ∙ sym (ap (λ c. c && b) (sym e ∙ f))

pub both_pass : (r t a b : Bool) → t ≡ a → t ≡ true → r ≡ b → r ≡ (a && b)
both_pass r t a b e f h = h ∙ sym (ap (λ c. c && b) (sym e ∙ f))

pub kept_seen : (W : World UnpackedIndex) (k : ℕ) (ts us fs ks : List ValType) → ts ≡ fs → us ≡ ks → matches_vals W (map val_of us) (map val_of (list.take (length ts - k) (drop k ts))) ≡ matches_vals W (map val_of ks) (drop k (map val_of fs))
kept_seen W k ts us fs ks e f = rw (take_rest ts k, e, f, drop-map val_of k fs) refl

pub taken_seen : (k : ℕ) (ts fs : List ValType) → ts ≡ fs → map val_of (list.take k ts) ≡ list.take k (map val_of fs)
taken_seen k ts fs e = rw (e, take-map val_of k fs) refl

pub empty_seen : (ts fs : List ValType) (b : Bool) → b ≡ (length ts == 0) → ts ≡ fs → (length (map val_of fs) == 0) ≡ b
empty_seen ts fs b e f = rw (length-map fs val_of, ← f) (sym e)

module _ {A : Type 0} (v : Stacks A) (C : Context UnpackedIndex) where
  -- `cont.new`
  pub made : (r : Result (Unit {0}) OperatorError) (n : ℕ) (i a : UnpackedIndex) (x y : Val UnpackedIndex) (old new : State UnpackedIndex)
      → Took r (exchanged (world C) (x ∷ []) (y ∷ []) (state_of v)) old new → continuation_in C v.is_shared n ≡ Some i → Some a ≡ slice_get C.types n → x ≡ ref_to true (concrete i) → y ≡ ref_to false (concrete a)
      → Took r (acted v C (need (reaches_type n) ∷ take (continued n) ∷ give (these (reference_to false (concrete n) ∷ [])) ∷ [])) old new
  made r n i a x y old new k e f g h =
      needed v C r (reaches_type n) _ old new (reached_held v C n i e) (plainly v C r _ _ (x ∷ []) (y ∷ []) old new k (function_typed v C n i x e g) (named_typed v C false n a y (sym f) h))

  pub not_made : (f : OperatorFault) (n : ℕ) (old : State UnpackedIndex) → continuation_in C v.is_shared n ≡ None → Took (Err (Refused f)) (acted v C (need (reaches_type n) ∷ take (continued n) ∷ give (these (reference_to false (concrete n) ∷ [])) ∷ [])) old old
  not_made f n old e = function_unreached v C f n _ old e (λ q. refused_takes v C f (continued n) _ old q)

  pub unnamed : (f : OperatorFault) (n : ℕ) → None ≡ slice_get C.types n → Took (Err (Refused f)) (acted v C (need (reaches_type n) ∷ take (continued n) ∷ give (these (reference_to false (concrete n) ∷ [])) ∷ [])) (state_of v) (state_of v)
  unnamed f n e = refused_later v C f (reaches_type n) _ (state_of v) (state_of v) (refused_gives v C f (continued n) _ (state_of v) (named_untyped v C false n e))

  -- `cont.bind`
  abbrev binding : ℕ → ℕ → List Action
  binding m n =
      need (reaches_type m) ∷ need (reaches_type n) ∷ need (each_matches (takes_of n) (behind (takes_of m) (takes_of n))) ∷ need (each_matches (gives_of m) (gives_of n))
      ∷ take (joined (before (takes_of m) (takes_of n)) (these (nullable_to m ∷ []))) ∷ give (these (reference_to false (concrete n) ∷ [])) ∷ []

  parts_untyped : (m n : ℕ) → typed v C (takes_of m) ≡ None → typed v C (before (takes_of m) (takes_of n)) ≡ None
  unfolding typed
  parts_untyped m n e = rw e refl

  kept_untyped : (m n : ℕ) → typed v C (takes_of n) ≡ None → typed v C (before (takes_of m) (takes_of n)) ≡ None
  unfolding typed
  kept_untyped m n e = no_kept (typed v C (takes_of m)) (typed v C (takes_of n)) e

  few_untyped : (m n : ℕ) (vs ws : List (Val UnpackedIndex)) → typed v C (takes_of m) ≡ Some vs → typed v C (takes_of n) ≡ Some ws → length vs < length ws → typed v C (before (takes_of m) (takes_of n)) ≡ None
  unfolding typed
  few_untyped m n vs ws e f h = rw (e, f, lt-leb (length ws) (length vs) h) refl

  before_typed : (m n : ℕ) (vs ws : List (Val UnpackedIndex)) → typed v C (takes_of m) ≡ Some vs → typed v C (takes_of n) ≡ Some ws → length ws ≤ length vs → typed v C (before (takes_of m) (takes_of n)) ≡ Some (list.take (length vs - length ws) vs)
  unfolding typed
  before_typed m n vs ws e f h = rw (e, f, le-leb (length ws) (length vs) h) (ap Some (firsts_taken (length vs - length ws) vs))

  behind_typed : (m n : ℕ) (vs ws : List (Val UnpackedIndex)) → typed v C (takes_of m) ≡ Some vs → typed v C (takes_of n) ≡ Some ws → length ws ≤ length vs → typed v C (behind (takes_of m) (takes_of n)) ≡ Some (drop (length vs - length ws) vs)
  unfolding typed
  behind_typed m n vs ws e f h = rw (e, f, le-leb (length ws) (length vs) h) refl

  refused_before : (f : OperatorFault) (m n : ℕ) (old : State UnpackedIndex) → typed v C (before (takes_of m) (takes_of n)) ≡ None → Took (Err (Refused f)) (acted v C (take (joined (before (takes_of m) (takes_of n)) (these (nullable_to m ∷ []))) ∷ give (these (reference_to false (concrete n) ∷ [])) ∷ [])) old old
  refused_before f m n old e = refused_takes v C f _ _ old (first_untyped v C _ _ e)

  behind_checks : (f : OperatorFault) (m n : ℕ) (old : State UnpackedIndex) → typed v C (before (takes_of m) (takes_of n)) ≡ None
      → Took (Err (Refused f)) (acted v C (need (each_matches (takes_of n) (behind (takes_of m) (takes_of n))) ∷ need (each_matches (gives_of m) (gives_of n)) ∷ take (joined (before (takes_of m) (takes_of n)) (these (nullable_to m ∷ []))) ∷ give (these (reference_to false (concrete n) ∷ [])) ∷ [])) old old
  behind_checks f m n old e = refused_later v C f _ _ old old (refused_later v C f _ _ old old (refused_before f m n old e))

  pub unbound_argument : (f : OperatorFault) (m n : ℕ) (old : State UnpackedIndex) → continued_at C v.is_shared m ≡ None → Took (Err (Refused f)) (acted v C (binding m n)) old old
  unbound_argument f m n old e = discontinued v C f m _ old e (λ q p. refused_later v C f (reaches_type n) _ old old (behind_checks f m n old (parts_untyped m n q)))

  pub unbound_result : (f : OperatorFault) (m n : ℕ) (old : State UnpackedIndex) → continued_at C v.is_shared n ≡ None → Took (Err (Refused f)) (acted v C (binding m n)) old old
  unbound_result f m n old e = refused_later v C f (reaches_type m) _ old old (discontinued v C f n _ old e (λ q p. behind_checks f m n old (kept_untyped m n q)))

  pub too_few : (f : OperatorFault) (m n : ℕ) (p q : Found) (old : State UnpackedIndex) → continued_at C v.is_shared m ≡ Some p → continued_at C v.is_shared n ≡ Some q → length p.1.takes < length q.1.takes → Took (Err (Refused f)) (acted v C (binding m n)) old old
  too_few f m n p q old e g h = refused_later v C f _ _ old old (refused_later v C f _ _ old old (behind_checks f m n old (few_untyped m n p.1.takes q.1.takes (takes_typed v C m p e) (takes_typed v C n q g) h)))

  -- both tests, and one of them
  abbrev kept_matches : Found → Found → Bool
  kept_matches p q = matches_vals (world C) q.1.takes (drop (length p.1.takes - length q.1.takes) p.1.takes)

  abbrev given_matches : Found → Found → Bool
  given_matches p q = matches_vals (world C) p.1.gives q.1.gives

  module _ (m n : ℕ) (p q : Found) (e : continued_at C v.is_shared m ≡ Some p) (g : continued_at C v.is_shared n ≡ Some q) (h : length q.1.takes ≤ length p.1.takes) where
    kept_held : (b : Bool) → kept_matches p q ≡ b → held v C (each_matches (takes_of n) (behind (takes_of m) (takes_of n))) ≡ b
    kept_held b k = both_held v C _ _ q.1.takes (drop (length p.1.takes - length q.1.takes) p.1.takes) b (takes_typed v C n q g) (behind_typed m n p.1.takes q.1.takes (takes_typed v C m p e) (takes_typed v C n q g) h) k

    given_held : (b : Bool) → given_matches p q ≡ b → held v C (each_matches (gives_of m) (gives_of n)) ≡ b
    given_held b k = both_held v C _ _ p.1.gives q.1.gives b (gives_typed v C m p e) (gives_typed v C n q g) k

    unmatched_by : (f : OperatorFault) (old : State UnpackedIndex) (a b : Bool) → kept_matches p q ≡ a → given_matches p q ≡ b → (a && b) ≡ false → Took (Err (Refused f)) (acted v C (binding m n)) old old
    unmatched_by f old false b i j k = refused_later v C f _ _ old old (refused_later v C f _ _ old old (refused_here v C f _ _ old (kept_held false i)))
    unmatched_by f old true b i j k = refused_later v C f _ _ old old (refused_later v C f _ _ old old (refused_later v C f _ _ old old (refused_here v C f _ _ old (given_held false (j ∙ k)))))

    -- both tests, where so many are bound
    abbrev both_match : ℕ → Bool
    both_match k = matches_vals (world C) q.1.takes (drop k p.1.takes) && given_matches p q

    pub unmatched : (f : OperatorFault) (old : State UnpackedIndex) (k : ℕ) (c : Bool) → k ≡ length p.1.takes - length q.1.takes → c ≡ both_match k → c ≡ false → Took (Err (Refused f)) (acted v C (binding m n)) old old
    unmatched f old k c d i j = unmatched_by f old (kept_matches p q) (given_matches p q) refl refl (sym (i ∙ ap both_match d) ∙ j)

    bound_by : (r : Result (Unit {0}) OperatorError) (xs : List (Val UnpackedIndex)) (x y : Val UnpackedIndex) (old new : State UnpackedIndex) (a b : Bool) → kept_matches p q ≡ a → given_matches p q ≡ b → (a && b) ≡ true
        → Took r (exchanged (world C) (xs ++ x ∷ []) (y ∷ []) (state_of v)) old new → xs ≡ list.take (length p.1.takes - length q.1.takes) p.1.takes → x ≡ ref_to true (concrete p.0) → y ≡ ref_to false (concrete q.0) → Took r (acted v C (binding m n)) old new
    bound_by r xs x y old new true true i j k t f u w =
        needed v C r _ _ old new (continued_held v C m p e)
        (needed v C r _ _ old new (continued_held v C n q g)
        (needed v C r _ _ old new (kept_held true i)
        (needed v C r _ _ old new (given_held true j)
        (plainly v C r _ _ (xs ++ x ∷ []) (y ∷ []) old new t
        (both_typed v C _ _ xs (x ∷ []) (before_typed m n p.1.takes q.1.takes (takes_typed v C m p e) (takes_typed v C n q g) h ∙ ap Some (sym f)) (continued_typed v C true m p x e u))
        (continued_typed v C false n q y g w)))))
    bound_by r xs x y old new true false i j k t f u w = cc
    bound_by r xs x y old new false b i j k t f u w = cc

    pub bound : (r : Result (Unit {0}) OperatorError) (xs : List (Val UnpackedIndex)) (x y : Val UnpackedIndex) (old new : State UnpackedIndex) (k : ℕ) (c : Bool) → Took r (exchanged (world C) (xs ++ x ∷ []) (y ∷ []) (state_of v)) old new → k ≡ length p.1.takes - length q.1.takes → c ≡ both_match k → c ≡ true
        → xs ≡ list.take k p.1.takes → x ≡ ref_to true (concrete p.0) → y ≡ ref_to false (concrete q.0) → Took r (acted v C (binding m n)) old new
    bound r xs x y old new k c t d i j f u w = bound_by r xs x y old new (kept_matches p q) (given_matches p q) refl refl (sym (i ∙ ap both_match d) ∙ j) t (f ∙ ap (λ a. list.take a p.1.takes) d) u w

  -- `suspend`
  pub suspended : (r : Result (Unit {0}) OperatorError) (x : ℕ) (g : Signature UnpackedIndex) (vs ws : List (Val UnpackedIndex)) (old new : State UnpackedIndex)
      → Took r (exchanged (world C) vs ws (state_of v)) old new → tag_in C x ≡ Some g → vs ≡ g.takes → ws ≡ g.gives → Took r (acted v C (take (params (of_tag x)) ∷ give (results (of_tag x)) ∷ [])) old new
  suspended r x g vs ws old new t e f h = plainly v C r _ _ vs ws old new t (tag_params v C x g e ∙ ap Some (sym f)) (tag_results v C x g e ∙ ap Some (sym h))

  pub not_suspended : (f : OperatorFault) (x : ℕ) (old : State UnpackedIndex) → tag_in C x ≡ None → Took (Err (Refused f)) (acted v C (take (params (of_tag x)) ∷ give (results (of_tag x)) ∷ [])) old old
  not_suspended f x old e = refused_takes v C f _ _ old (no_tag_params v C x e)

-- `switch`: whether a tag suits
module _ (C : Context UnpackedIndex) (to from : Signature UnpackedIndex) (x : ℕ) where
  pub no_tag : tag_in C x ≡ None → false ≡ may_switch C to from x
  unfolding may_switch
  no_tag e = rw e refl

  pub takes_something : (g : Signature UnpackedIndex) → tag_in C x ≡ Some g → (length g.takes == 0) ≡ false → false ≡ may_switch C to from x
  unfolding may_switch
  takes_something g e f = rw (e, f) refl

  pub is_between : (g : Signature UnpackedIndex) (c b : Bool) → tag_in C x ≡ Some g → (length g.takes == 0) ≡ true → c ≡ (matches_vals (world C) to.gives g.gives && matches_vals (world C) g.gives from.gives) → c ≡ b → b ≡ may_switch C to from x
  unfolding may_switch
  is_between g c b e f h k = rw (e, f) (sym k ∙ h)

pub ruleset switches = (no_tag, takes_something, is_between)

module _ {A : Type 0} (v : Stacks A) (C : Context UnpackedIndex) where
  -- what the continuation that is switched from takes and gives
  last_gives : (n : ℕ) (vs : List (Val UnpackedIndex)) (o : Option (Signature UnpackedIndex)) → typed v C (takes_of n) ≡ Some vs → o ≡ last_continued C vs → typed v C (given_by (takes_of n)) ≡ option_map (λ g. g.gives) o
  unfolding typed last_continued continuation_named type_named function_named
  last_gives n vs o e f = ap (λ (p : Option (List (Val UnpackedIndex))). option_map (λ (g : Signature UnpackedIndex). g.gives) (p >>= continued_signature (world C) (around v C))) e ∙ ap (option_map (λ (g : Signature UnpackedIndex). g.gives)) (sym f)

  last_takes : (n : ℕ) (vs : List (Val UnpackedIndex)) (o : Option (Signature UnpackedIndex)) → typed v C (takes_of n) ≡ Some vs → o ≡ last_continued C vs → typed v C (taken_by (takes_of n)) ≡ option_map (λ g. g.takes) o
  unfolding typed last_continued continuation_named type_named function_named
  last_takes n vs o e f = ap (λ (p : Option (List (Val UnpackedIndex))). option_map (λ (g : Signature UnpackedIndex). g.takes) (p >>= continued_signature (world C) (around v C))) e ∙ ap (option_map (λ (g : Signature UnpackedIndex). g.takes)) (sym f)

  front_typed : (n : ℕ) (vs : List (Val UnpackedIndex)) → typed v C (takes_of n) ≡ Some vs → typed v C (front (takes_of n)) ≡ Some (front_of vs)
  unfolding typed
  front_typed n vs e = rw e refl

  front_untyped : (n : ℕ) → typed v C (takes_of n) ≡ None → typed v C (front (takes_of n)) ≡ None
  unfolding typed
  front_untyped n e = rw e refl

  nothing_untaken : (x : ℕ) → typed v C (params (of_tag x)) ≡ None → held v C (each_matches (params (of_tag x)) (these [])) ≡ false
  unfolding typed held
  nothing_untaken x e = rw e refl

  abbrev switching : ℕ → ℕ → List Action
  switching n x =
      need (reaches_type n) ∷ need (each_matches (params (of_tag x)) (these [])) ∷ need (each_matches (gives_of n) (results (of_tag x))) ∷ need (each_matches (results (of_tag x)) (given_by (takes_of n)))
      ∷ take (joined (front (takes_of n)) (these (nullable_to n ∷ []))) ∷ give (taken_by (takes_of n)) ∷ []

  pub not_found : (f : OperatorFault) (n x : ℕ) (old : State UnpackedIndex) → continued_at C v.is_shared n ≡ None → Took (Err (Refused f)) (acted v C (switching n x)) old old
  not_found f n x old e = discontinued v C f n _ old e (λ q p. refused_later v C f _ _ old old (refused_later v C f _ _ old old (refused_later v C f _ _ old old (refused_takes v C f _ _ old (first_untyped v C _ _ (front_untyped n q))))))

  pub from_none : (f : OperatorFault) (n x : ℕ) (p : Found) → continued_at C v.is_shared n ≡ Some p → None ≡ last_continued C p.1.takes → Took (Err (Refused f)) (acted v C (switching n x)) (state_of v) (state_of v)
  from_none f n x p e g =
      refused_later v C f _ _ (state_of v) (state_of v) (refused_later v C f _ _ (state_of v) (state_of v) (refused_later v C f _ _ (state_of v) (state_of v) (refused_later v C f _ _ (state_of v) (state_of v)
      (refused_gives v C f _ _ (state_of v) (last_takes n p.1.takes None (takes_typed v C n p e) g)))))

  module _ (n x : ℕ) (p : Found) (g : Signature UnpackedIndex) (e : continued_at C v.is_shared n ≡ Some p) (h : Some g ≡ last_continued C p.1.takes) where
    abbrev empty : Signature UnpackedIndex → Bool
    empty t = length t.takes == 0

    abbrev below : Signature UnpackedIndex → Bool
    below t = matches_vals (world C) p.1.gives t.gives

    abbrev above : Signature UnpackedIndex → Bool
    above t = matches_vals (world C) t.gives g.gives

    empty_held : (t : Signature UnpackedIndex) (b : Bool) → tag_in C x ≡ Some t → empty t ≡ b → held v C (each_matches (params (of_tag x)) (these [])) ≡ b
    empty_held t b i j = both_held v C _ _ t.takes [] b (tag_params v C x t i) (nothing_typed v C) (none_match (world C) t.takes ∙ j)

    below_held : (t : Signature UnpackedIndex) (b : Bool) → tag_in C x ≡ Some t → below t ≡ b → held v C (each_matches (gives_of n) (results (of_tag x))) ≡ b
    below_held t b i j = both_held v C _ _ p.1.gives t.gives b (gives_typed v C n p e) (tag_results v C x t i) j

    above_held : (t : Signature UnpackedIndex) (b : Bool) → tag_in C x ≡ Some t → above t ≡ b → held v C (each_matches (results (of_tag x)) (given_by (takes_of n))) ≡ b
    above_held t b i j = both_held v C _ _ t.gives g.gives b (tag_results v C x t i) (last_gives n p.1.takes (Some g) (takes_typed v C n p e) h) j

    refused_by : (f : OperatorFault) (t : Signature UnpackedIndex) (old : State UnpackedIndex) (a b c : Bool) → tag_in C x ≡ Some t → empty t ≡ a → below t ≡ b → above t ≡ c → (a && b && c) ≡ false → Took (Err (Refused f)) (acted v C (switching n x)) old old
    refused_by f t old false b c i j k l m = refused_later v C f _ _ old old (refused_here v C f _ _ old (empty_held t false i j))
    refused_by f t old true false c i j k l m = refused_later v C f _ _ old old (refused_later v C f _ _ old old (refused_here v C f _ _ old (below_held t false i k)))
    refused_by f t old true true false i j k l m = refused_later v C f _ _ old old (refused_later v C f _ _ old old (refused_later v C f _ _ old old (refused_here v C f _ _ old (above_held t false i l))))
    refused_by f t old true true true i j k l m = cc

    refused_with : (f : OperatorFault) (o : Option (Signature UnpackedIndex)) (old : State UnpackedIndex) → tag_in C x ≡ o → passes (λ t. empty t && below t && above t) o ≡ false → Took (Err (Refused f)) (acted v C (switching n x)) old old
    refused_with f None old i j = refused_later v C f _ _ old old (refused_here v C f _ _ old (nothing_untaken x (no_tag_params v C x i)))
    refused_with f (Some t) old i j = refused_by f t old (empty t) (below t) (above t) i refl refl refl j

    pub not_switched : (f : OperatorFault) (old : State UnpackedIndex) → false ≡ may_switch C p.1 g x → Took (Err (Refused f)) (acted v C (switching n x)) old old
    unfolding may_switch
    not_switched f old i = refused_with f (tag_in C x) old refl (sym i)

    abbrev Switched : Result (Unit {0}) OperatorError → List (Val UnpackedIndex) → List (Val UnpackedIndex) → Val UnpackedIndex → State UnpackedIndex → State UnpackedIndex → Type 0
    Switched r xs ys y old new =
        Took r (exchanged (world C) (xs ++ y ∷ []) ys (state_of v)) old new → xs ≡ front_of p.1.takes → y ≡ ref_to true (concrete p.0) → ys ≡ g.takes → Took r (acted v C (switching n x)) old new

    switched_by : (r : Result (Unit {0}) OperatorError) (t : Signature UnpackedIndex) (xs ys : List (Val UnpackedIndex)) (y : Val UnpackedIndex) (old new : State UnpackedIndex) (a b c : Bool)
        → tag_in C x ≡ Some t → empty t ≡ a → below t ≡ b → above t ≡ c → (a && b && c) ≡ true → Switched r xs ys y old new
    switched_by r t xs ys y old new true true true i j k l m s u w z =
        needed v C r _ _ old new (continued_held v C n p e)
        (needed v C r _ _ old new (empty_held t true i j)
        (needed v C r _ _ old new (below_held t true i k)
        (needed v C r _ _ old new (above_held t true i l)
        (plainly v C r _ _ (xs ++ y ∷ []) ys old new s
        (both_typed v C _ _ xs (y ∷ []) (front_typed n p.1.takes (takes_typed v C n p e) ∙ ap Some (sym u)) (continued_typed v C true n p y e w)) (last_takes n p.1.takes (Some g) (takes_typed v C n p e) h ∙ ap Some (sym z))))))
    switched_by r t xs ys y old new true true false i j k l m s u w z = cc
    switched_by r t xs ys y old new true false c i j k l m s u w z = cc
    switched_by r t xs ys y old new false b c i j k l m s u w z = cc

    switched_with : (r : Result (Unit {0}) OperatorError) (o : Option (Signature UnpackedIndex)) (xs ys : List (Val UnpackedIndex)) (y : Val UnpackedIndex) (old new : State UnpackedIndex) → tag_in C x ≡ o → passes (λ t. empty t && below t && above t) o ≡ true → Switched r xs ys y old new
    switched_with r None xs ys y old new i j s u w z = cc
    switched_with r (Some t) xs ys y old new i j s u w z = switched_by r t xs ys y old new (empty t) (below t) (above t) i refl refl refl j s u w z

    pub switched : (r : Result (Unit {0}) OperatorError) (xs ys : List (Val UnpackedIndex)) (y : Val UnpackedIndex) (old new : State UnpackedIndex) → true ≡ may_switch C p.1 g x → Switched r xs ys y old new
    unfolding may_switch
    switched r xs ys y old new i s u w z = switched_with r (tag_in C x) xs ys y old new refl (sym i) s u w z

  -- behind both features
  behind_features : (op : Continuation) → actions_of (continuation_shape op) ≡ need (has stack_switching_operators) ∷ need (has stack_switching) ∷ actions_of (continuing [] op)
  behind_features (cont_new n) = refl
  behind_features (cont_bind m n) = refl
  behind_features (suspend x) = refl
  behind_features (resume n hs) = refl
  behind_features (resume_throw n x hs) = refl
  behind_features (resume_throw_ref n hs) = refl
  behind_features (switch n x) = refl

  pub gated : (r : Result (Unit {0}) OperatorError) (op : Continuation) (old new : State UnpackedIndex) → held v C (has stack_switching_operators) ≡ true → held v C (has stack_switching) ≡ true → Took r (acted v C (actions_of (continuing [] op))) old new
      → Took r (acted v C (actions_of (continuation_shape op))) old new
  gated r op old new e f t = took_along r _ _ old new (ap (acted v C) (behind_features op)) (needed v C r _ _ old new e (needed v C r _ _ old new f t))

  pub no_operators : (f : OperatorFault) (op : Continuation) (old : State UnpackedIndex) → held v C (has stack_switching_operators) ≡ false → Took (Err (Refused f)) (acted v C (actions_of (continuation_shape op))) old old
  no_operators f op old e = took_along (Err (Refused f)) _ _ old old (ap (acted v C) (behind_features op)) (refused_here v C f _ _ old e)

  pub no_types : (f : OperatorFault) (op : Continuation) (old : State UnpackedIndex) → held v C (has stack_switching) ≡ false → Took (Err (Refused f)) (acted v C (actions_of (continuation_shape op))) old old
  no_types f op old e = took_along (Err (Refused f)) _ _ old old (ap (acted v C) (behind_features op)) (refused_later v C f _ _ old old (refused_here v C f _ _ old e))

pub ruleset gates = (gated, no_operators, no_types)

pub ruleset steps = (made, not_made, unnamed, unbound_argument, unbound_result, too_few, suspended, not_suspended, not_found, from_none)
