-- The checks of handlers, and what continuations with handlers are resumed by.
use Rattle.std.proofs.Common.{◌≡◌, inl, inr, ℕ, suc, Bool, true, false, ◌&&◌, ◌==◌, List, [], ◌∷◌, ◌++◌, length, refl, sym, ap, ◌∙◌, arith}
use Rattle.std.specs.Option.{option_map}
use Rattle.std.specs.Prelude.{Option, Some, None, Result, Err}
use Rattle.std.proofs.lemmas.Bool.Decides.{nat_tests}
use Rattle.std.proofs.Math.Bool.{and-true}
use Rattle.wasm_typing_control.specs.WasmSpec.Syntax.{Val, concrete}
use Rattle.wasm_typing_control.specs.WasmSpec.MatchingTests.{World}
use Rattle.wasm_typing_control.specs.WasmSpecRules.Attempts.{◌>>=◌, guard, passes, front_of}
use Rattle.wasm_typing_control.specs.WasmSpecRules.Contexts.{Context}
use Rattle.wasm_typing_control.specs.WasmSpecRules.Signatures.{Signature}
use Rattle.wasm_typing_control.specs.WasmReadersTypes.WasmReadersValues.declared.indices.UnpackedIndex.{UnpackedIndex}
use Rattle.wasm_typing_control.specs.WasmOperators.WasmOperatorsProposals.declared.continuations.Handle.{Handle}
use Rattle.wasm_typing_control.specs.WasmOperators.WasmOperatorsProposals.declared.continuations.Handle.TheVariants.{OnLabel, OnSwitch}
use Rattle.wasm_typing_control.specs.WasmTypingChecks.WasmSpecSteps.Actions.{OperandTypes, these, of_tag, params, results, label, front, taken_by, given_by, joined, Check, each_matches, reaches_type, is_exception, Action, need, take, give}
use Rattle.wasm_typing_control.specs.WasmTypingChecks.WasmSpecSteps.Bodies.{Surroundings}
use Rattle.wasm_typing_control.specs.WasmTypingChecks.WasmSpecSteps.Machine.{State}
use Rattle.wasm_typing_control.specs.WasmTypingChecks.WasmSpecSteps.Matching.{matches_vals}
use Rattle.wasm_typing_control.specs.WasmTypingChecks.WasmSpecSteps.Meanings.{ref_to, types_at, continued_signature, holds, run}
use Rattle.wasm_typing_control.specs.WasmTypingChecks.WasmSpecSteps.Shapes.{nullable_to, gives_of, handle_checks}
use Rattle.wasm_typing_control.specs.WasmTypingChecks.WasmSpecSteps.Steps.{checked}
use Rattle.wasm_typing_control.specs.WasmTypingChecks.WasmValidatorResources.Answers.{world, tag_in}
use Rattle.wasm_typing_control.specs.WasmTypingChecks.WasmTypingStacks.BodyStacks.{state_of, around}
use Rattle.wasm_typing_control.specs.WasmTypingChecks.WasmTypingStacks.declared.stacks.Stacks.{Stacks}
use Rattle.wasm_typing_control.specs.WasmTypingChecks.Steps.{Took, acted, typed, held}
use Rattle.wasm_typing_control.specs.WasmTypingChecks.SeenTypes.{exchanged}
use Rattle.wasm_typing_control.specs.WasmTypingChecks.declared.faults.OperatorFault.{OperatorFault}
use Rattle.wasm_typing_control.specs.WasmTypingChecks.declared.faults.OperatorError.{OperatorError}
use Rattle.wasm_typing_control.specs.WasmTypingChecks.declared.faults.OperatorError.TheVariants.{Refused}
use Rattle.wasm_typing_control.proofs.WasmTypingChecks.ActionSteps.{took_along, took_refused, needed, refused_here, refused_later, refused_gives, plainly}
use Rattle.wasm_typing_control.proofs.WasmTypingChecks.TypeLookups.{both_typed}
use Rattle.wasm_typing_continuations.specs.ContinuationLookups.{type_named, function_named, continuation_named, last_continued, continued_at}
use Rattle.wasm_typing_continuations.specs.HandlerTypes.{is_handled, all_handled, resumed_at}
use Rattle.wasm_typing_continuations.proofs.ContinuationSteps.{Found, is_or_not, same_tag, gives_typed, continued_typed, gives_gone_at}

-- checks, one after another
module _ (W : World UnpackedIndex) (B : Surroundings UnpackedIndex) (s : State UnpackedIndex) where
  abbrev hold_all : List Check → Bool
  hold_all [] = true
  hold_all (c ∷ cs) = holds W B s c && hold_all cs

  guarded : (b c : Bool) (cs : List Check) (rest : List Action) → hold_all cs ≡ c → (b && c) ≡ true → (c ≡ true → run W B (checked cs rest) s ≡ run W B rest s) → (guard b s >>= run W B (checked cs rest)) ≡ run W B rest s
  guarded true c cs rest e h f = f h
  guarded false c cs rest e h f = cc

  all_checked : (cs : List Check) (rest : List Action) → hold_all cs ≡ true → run W B (checked cs rest) s ≡ run W B rest s
  all_checked [] rest e = refl
  all_checked (c ∷ cs) rest e = guarded (holds W B s c) (hold_all cs) cs rest refl e (λ h. all_checked cs rest h)

  unguarded : (b c : Bool) (cs : List Check) (rest : List Action) → (b && c) ≡ false → (c ≡ false → run W B (checked cs rest) s ≡ None) → (guard b s >>= run W B (checked cs rest)) ≡ None
  unguarded true c cs rest h f = f h
  unguarded false c cs rest h f = refl

  not_checked : (cs : List Check) (rest : List Action) → hold_all cs ≡ false → run W B (checked cs rest) s ≡ None
  not_checked [] rest e = cc
  not_checked (c ∷ cs) rest e = unguarded (holds W B s c) (hold_all cs) cs rest e (λ h. not_checked cs rest h)

  -- what is refused behind them is refused
  behind_one : (b : Bool) (cs : List Check) (rest : List Action) → run W B (checked cs rest) s ≡ None → (guard b s >>= run W B (checked cs rest)) ≡ None
  behind_one true cs rest e = e
  behind_one false cs rest e = refl

  behind_all : (cs : List Check) (rest : List Action) → run W B rest s ≡ None → run W B (checked cs rest) s ≡ None
  behind_all [] rest e = e
  behind_all (c ∷ cs) rest e = behind_one (holds W B s c) cs rest (behind_all cs rest e)

-- tests, in another order
and_false : (b : Bool) → (b && false) ≡ false
and_false true = refl
and_false false = refl

turned : (a b c : Bool) → (a && (b && (c && true))) ≡ ((b && c) && a)
turned true true true = refl
turned true true false = refl
turned true false c = refl
turned false true true = refl
turned false true false = refl
turned false false c = refl

three_apart : (a b c d : Bool) → (a && (b && (c && d))) ≡ ((a && (b && (c && true))) && d)
three_apart true true true d = refl
three_apart true true false d = refl
three_apart true false c d = refl
three_apart false b c d = refl

two_apart : (a b d : Bool) → (a && (b && d)) ≡ ((a && (b && true)) && d)
two_apart true true d = refl
two_apart true false d = refl
two_apart false b d = refl

more_than_none : (n : ℕ) → (suc n == 0) ≡ false
more_than_none n = grind (arith, nat_tests)

pub none_match : (W : World UnpackedIndex) (vs : List (Val UnpackedIndex)) → matches_vals W vs [] ≡ (length vs == 0)
none_match W [] = refl
none_match W (v ∷ vs) = sym (more_than_none (length vs))

module _ {A : Type 0} (v : Stacks A) (C : Context UnpackedIndex) (rs : List (Val UnpackedIndex)) where
  abbrev goes_on : List (Val UnpackedIndex) → Option (Signature UnpackedIndex)
  goes_on ls = continued_signature (world C) (around v C) ls

  abbrev suits : Signature UnpackedIndex → Option (Signature UnpackedIndex) → List (Val UnpackedIndex) → Bool
  suits tag k ls = passes (λ g. matches_vals (world C) g.takes tag.gives && matches_vals (world C) rs g.gives) k && matches_vals (world C) tag.takes (front_of ls)

  same_last : (ls : List (Val UnpackedIndex)) → goes_on ls ≡ last_continued C ls
  unfolding last_continued continuation_named type_named function_named
  same_last ls = refl

  -- the checks of a handler of suspensions, by its tag, by what its label takes, and by what is given in the end
  abbrev label_held : Option (Signature UnpackedIndex) → Option (List (Val UnpackedIndex)) → Option (List (Val UnpackedIndex)) → Bool
  label_held t o g =
      passes (λ vs. passes (matches_vals (world C) vs) (option_map front_of o)) (option_map (λ g. g.takes) t)
      && (passes (λ vs. passes (matches_vals (world C) vs) (option_map (λ g. g.gives) t)) (option_map (λ g. g.takes) (o >>= goes_on))
      && (passes (λ vs. passes (matches_vals (world C) vs) (option_map (λ g. g.gives) (o >>= goes_on))) g && true))

  by_last : (tag : Signature UnpackedIndex) (k : Option (Signature UnpackedIndex)) (ls : List (Val UnpackedIndex))
      → (matches_vals (world C) tag.takes (front_of ls)
      && (passes (λ vs. matches_vals (world C) vs tag.gives) (option_map (λ g. g.takes) k) && (passes (matches_vals (world C) rs) (option_map (λ g. g.gives) k) && true)))
      ≡ suits tag k ls
  by_last tag None ls = and_false (matches_vals (world C) tag.takes (front_of ls))
  by_last tag (Some g) ls = turned (matches_vals (world C) tag.takes (front_of ls)) (matches_vals (world C) g.takes tag.gives) (matches_vals (world C) rs g.gives)

  by_label : (tag : Signature UnpackedIndex) (o : Option (List (Val UnpackedIndex))) → label_held (Some tag) o (Some rs) ≡ passes (λ ls. suits tag (last_continued C ls) ls) o
  by_label tag None = refl
  by_label tag (Some ls) = by_last tag (goes_on ls) ls ∙ ap (λ k. suits tag k ls) (same_last ls)

  by_tag : (t : Option (Signature UnpackedIndex)) (o : Option (List (Val UnpackedIndex))) → label_held t o (Some rs) ≡ passes (λ tag. passes (λ ls. suits tag (last_continued C ls) ls) o) t
  by_tag None o = refl
  by_tag (Some tag) o = by_label tag o

  -- and those of a handler of switches
  abbrev switch_held : Option (Signature UnpackedIndex) → Option (List (Val UnpackedIndex)) → Bool
  switch_held t g = passes (λ vs. matches_vals (world C) vs []) (option_map (λ g. g.takes) t) && (passes (λ vs. passes (matches_vals (world C) vs) g) (option_map (λ g. g.gives) t) && true)

  by_switch : (t : Option (Signature UnpackedIndex)) → switch_held t (Some rs) ≡ passes (λ tag. (length tag.takes == 0) && matches_vals (world C) tag.gives rs) t
  by_switch None = refl
  by_switch (Some tag) = ap (λ b. b && (matches_vals (world C) tag.gives rs && true)) (none_match (world C) tag.takes) ∙ ap (λ b. (length tag.takes == 0) && b) (and-true (matches_vals (world C) tag.gives rs))

  module _ (n : ℕ) (e : typed v C (gives_of n) ≡ Some rs) where
    abbrev label_of : ℕ → Option (List (Val UnpackedIndex))
    label_of l = types_at (world C) (around v C) (state_of v) (label l)

    abbrev holding : Check → Bool
    holding c = holds (world C) (around v C) (state_of v) c

    label_handled : (x l : ℕ) → hold_all (world C) (around v C) (state_of v) (handle_checks n (OnLabel x l ∷ [])) ≡ is_handled v C rs (OnLabel x l)
    unfolding typed
    label_handled x l = ap (λ t. label_held t (label_of l) (types_at (world C) (around v C) (state_of v) (gives_of n))) (same_tag v C x) ∙ ap (λ g. label_held (tag_in C x) (label_of l) g) e ∙ by_tag (tag_in C x) (label_of l)

    switch_handled : (x : ℕ) → hold_all (world C) (around v C) (state_of v) (handle_checks n (OnSwitch x ∷ [])) ≡ is_handled v C rs (OnSwitch x)
    unfolding typed
    switch_handled x = ap (λ t. switch_held t (types_at (world C) (around v C) (state_of v) (gives_of n))) (same_tag v C x) ∙ ap (λ g. switch_held (tag_in C x) g) e ∙ by_switch (tag_in C x)

    all_same : (hs : List Handle) → hold_all (world C) (around v C) (state_of v) (handle_checks n hs) ≡ all_handled v C rs hs
    unfolding all_handled
    all_same [] = refl
    all_same (OnLabel x l ∷ hs) =
        three_apart (holding (each_matches (params (of_tag x)) (front (label l)))) (holding (each_matches (taken_by (label l)) (results (of_tag x)))) (holding (each_matches (gives_of n) (given_by (label l)))) (hold_all (world C) (around v C) (state_of v) (handle_checks n hs))
        ∙ ap (λ b. b && hold_all (world C) (around v C) (state_of v) (handle_checks n hs)) (label_handled x l) ∙ ap (λ b. is_handled v C rs (OnLabel x l) && b) (all_same hs)
    all_same (OnSwitch x ∷ hs) =
        two_apart (holding (each_matches (params (of_tag x)) (these []))) (holding (each_matches (results (of_tag x)) (gives_of n))) (hold_all (world C) (around v C) (state_of v) (handle_checks n hs))
        ∙ ap (λ b. b && hold_all (world C) (around v C) (state_of v) (handle_checks n hs)) (switch_handled x) ∙ ap (λ b. is_handled v C rs (OnSwitch x) && b) (all_same hs)

    handled : (hs : List Handle) (rest : List Action) → all_handled v C rs hs ≡ true → acted v C (checked (handle_checks n hs) rest) ≡ acted v C rest
    unfolding acted
    handled hs rest h = all_checked (world C) (around v C) (state_of v) (handle_checks n hs) rest (all_same hs ∙ h)

    unhandled : (hs : List Handle) (rest : List Action) → all_handled v C rs hs ≡ false → acted v C (checked (handle_checks n hs) rest) ≡ None
    unfolding acted
    unhandled hs rest h = not_checked (world C) (around v C) (state_of v) (handle_checks n hs) rest (all_same hs ∙ h)

guarded_none : {X : Type 0} (b : Bool) (x : X) → guard b x ≡ None → b ≡ false
guarded_none true x e = cc
guarded_none false x e = refl

module _ {A : Type 0} (v : Stacks A) (C : Context UnpackedIndex) (n : ℕ) (hs : List Handle) where
  abbrev resuming_by : OperandTypes → List Action
  resuming_by t = checked (handle_checks n hs) (take (joined t (these (nullable_to n ∷ []))) ∷ give (gives_of n) ∷ [])

  -- a continuation that is resumed
  pub resumes : (r : Result (Unit {0}) OperatorError) (p : Found) (t : OperandTypes) (xs ys : List (Val UnpackedIndex)) (x : Val UnpackedIndex) (old new : State UnpackedIndex)
      → Took r (exchanged (world C) (xs ++ x ∷ []) ys (state_of v)) old new → continued_at C v.is_shared n ≡ Some p → all_handled v C p.1.gives hs ≡ true → typed v C t ≡ Some xs → x ≡ ref_to true (concrete p.0) → ys ≡ p.1.gives
      → Took r (acted v C (resuming_by t)) old new
  resumes r p t xs ys x old new k e h f i j =
      took_along r _ _ old new (handled v C p.1.gives n (gives_typed v C n p e) hs _ h)
      (plainly v C r _ _ (xs ++ x ∷ []) ys old new k (both_typed v C _ _ xs (x ∷ []) f (continued_typed v C true n p x e i)) (gives_typed v C n p e ∙ ap Some (sym j)))

  -- and one that isn't
  none_given : (f : OperatorFault) (t : OperandTypes) → typed v C (gives_of n) ≡ None → acted v C (resuming_by t) ≡ None
  unfolding acted Took
  none_given f t e = behind_all (world C) (around v C) (state_of v) (handle_checks n hs) _ (refused_gives v C f (joined t (these (nullable_to n ∷ []))) (gives_of n) (state_of v) e).0

  by_found : (f : OperatorFault) (t : OperandTypes) (o : Option Found) → continued_at C v.is_shared n ≡ o → (o >>= λ p. guard (all_handled v C p.1.gives hs) p) ≡ None → (o ≡ None → typed v C (gives_of n) ≡ None) → acted v C (resuming_by t) ≡ None
  by_found f t None h e g = none_given f t (g refl)
  by_found f t (Some p) h e g = unhandled v C p.1.gives n (gives_typed v C n p h) hs _ (guarded_none (all_handled v C p.1.gives hs) p e)

  not_resuming : (f : OperatorFault) (t : OperandTypes) → resumed_at v C n hs ≡ None → held v C (reaches_type n) ≡ true → acted v C (resuming_by t) ≡ None
  unfolding resumed_at
  not_resuming f t e h = by_found f t (continued_at C v.is_shared n) refl e (λ q. gives_gone_at v C n q h)

  pub not_resumed : (f : OperatorFault) (t : OperandTypes) (old : State UnpackedIndex) → resumed_at v C n hs ≡ None → Took (Err (Refused f)) (acted v C (need (reaches_type n) ∷ resuming_by t)) old old
  not_resumed f t old e =
      elim (is_or_not (held v C (reaches_type n))) [
        | inl p ↦ needed v C (Err (Refused f)) (reaches_type n) _ old old p (took_refused f _ old old (not_resuming f t e p) refl)
        | inr p ↦ refused_here v C f (reaches_type n) _ old p
      ]

  pub not_resumed_by : (f : OperatorFault) (x : ℕ) (t : OperandTypes) (old : State UnpackedIndex) → resumed_at v C n hs ≡ None → Took (Err (Refused f)) (acted v C (need (reaches_type n) ∷ need (is_exception x) ∷ resuming_by t)) old old
  not_resumed_by f x t old e =
      elim (is_or_not (held v C (reaches_type n))) [
        | inl p ↦ needed v C (Err (Refused f)) (reaches_type n) _ old old p (refused_later v C f (is_exception x) _ old old (took_refused f _ old old (not_resuming f t e p) refl))
        | inr p ↦ refused_here v C f (reaches_type n) _ old p
      ]

  -- what is found of both
  pub not_found : continued_at C v.is_shared n ≡ None → resumed_at v C n hs ≡ None
  unfolding resumed_at
  not_found e = rw e refl

  pub not_suited : (p : Found) → continued_at C v.is_shared n ≡ Some p → false ≡ all_handled v C p.1.gives hs → resumed_at v C n hs ≡ None
  unfolding resumed_at
  not_suited p e f = rw (e, ← f) refl

pub ruleset resumptions = (not_found, not_suited)
