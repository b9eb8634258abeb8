-- What branches on casts send.
use Rattle.std.proofs.Common.{◌≡◌, ℕ, Bool, true, false, List, [], ◌∷◌, ◌++◌, refl, ◌∙◌, ap}
use Rattle.std.specs.Prelude.{Some, None, Option, Result, if◌then◌else◌}
use Rattle.std.proofs.Math.Bool.{and-true}
use Rattle.wasm_typing_references.specs.WasmSpec.MatchingTests.{World, matches_val}
use Rattle.wasm_typing_references.specs.WasmSpec.Syntax.{Ref, Val, reference}
use Rattle.wasm_typing_references.specs.WasmSpecRules.Contexts.{Context}
use Rattle.wasm_typing_references.specs.WasmReadersTypes.WasmReadersValues.declared.indices.UnpackedIndex.{UnpackedIndex}
use Rattle.wasm_typing_references.specs.WasmTypingChecks.WasmSpecSteps.Actions.{OperandTypes, descriptor_for, descriptor_operators, custom_descriptors, has, gc, allows, may_be_cast, each_matches, these, front, last, label, joined, Action, need, take, give}
use Rattle.wasm_typing_references.specs.WasmSpecRules.Attempts.{◌>>=◌, guard, last_of, front_of}
use Rattle.wasm_typing_references.specs.WasmTypingChecks.WasmSpecSteps.Machine.{State}
use Rattle.wasm_typing_references.specs.WasmTypingChecks.WasmSpecSteps.Shapes.{difference}
use Rattle.wasm_typing_references.specs.WasmTypingChecks.WasmValidatorResources.Answers.{world}
use Rattle.wasm_typing_references.specs.WasmTypingChecks.WasmTypingStacks.BodyStacks.{state_of}
use Rattle.wasm_typing_references.specs.WasmTypingChecks.WasmTypingStacks.declared.stacks.Stacks.{Stacks}
use Rattle.wasm_typing_references.proofs.WasmTypingChecks.ActionSteps.{needed, plainly, took_along}
use Rattle.wasm_typing_references.proofs.WasmTypingChecks.TypeLookups.{both_typed}
use Rattle.wasm_typing_references.specs.WasmTypingChecks.Steps.{Took, acted, typed, held}
use Rattle.wasm_typing_references.specs.WasmTypingChecks.SeenTypes.{exchanged}
use Rattle.wasm_typing_references.specs.WasmTypingChecks.declared.faults.OperatorError.{OperatorError}
use Rattle.wasm_typing_references.proofs.WrittenHeapTypes.{reference_typed}
use Rattle.wasm_typing_casts.specs.BranchOperands.{sending, IsCastable}
use Rattle.wasm_typing_casts.specs.CastDescriptors.{IsDescribed}
use Rattle.wasm_typing_casts.proofs.CastTargets.{heap_resolved}
use Rattle.wasm_typing_casts.proofs.DescriptorTypes.{descriptor_typed}

module _ (W : World UnpackedIndex) (o : Option (List (Val UnpackedIndex))) (a b : Val UnpackedIndex) (us : List (Val UnpackedIndex)) (c : Val UnpackedIndex) (s : State UnpackedIndex) where
  pub unsent_label : o ≡ None → sending W o a b us c s ≡ None
  unfolding sending
  unsent_label e = rw e refl

  pub unsent_last : (vs : List (Val UnpackedIndex)) → o ≡ Some vs → None ≡ last_of vs → sending W o a b us c s ≡ None
  unfolding sending
  unsent_last vs e f = rw (e, ← f) refl

  pub unsent_type : (vs : List (Val UnpackedIndex)) (w y : Val UnpackedIndex) (d : Bool) → o ≡ Some vs → Some w ≡ last_of vs → y ≡ w → d ≡ matches_val W a y → d ≡ false → sending W o a b us c s ≡ None
  unfolding sending
  unsent_type vs w y d e f g h i = rw (e, ← f, ← g, ← h, i) refl

  sends_all : (vs xs : List (Val UnpackedIndex)) (w y j k : Val UnpackedIndex) (d : Bool) → o ≡ Some vs → Some w ≡ last_of vs → y ≡ w → d ≡ matches_val W a y → d ≡ true → xs ≡ front_of vs → j ≡ b → k ≡ c → sending W o a b us c s ≡ exchanged W (xs ++ j ∷ us) (xs ++ k ∷ []) s
  unfolding sending
  sends_all vs xs w y j k d e f g h i m n p = rw (e, ← f, ← g, ← h, i, m, n, p) refl

  pub is_sent : (r : Result (Unit {0}) OperatorError) (old new : State UnpackedIndex) (vs xs : List (Val UnpackedIndex)) (w y j k : Val UnpackedIndex) (d : Bool) → Took r (exchanged W (xs ++ j ∷ us) (xs ++ k ∷ []) s) old new → o ≡ Some vs → Some w ≡ last_of vs → y ≡ w
      → d ≡ matches_val W a y → d ≡ true → xs ≡ front_of vs → j ≡ b → k ≡ c → Took r (sending W o a b us c s) old new
  is_sent r old new vs xs w y j k d t e f g h i m n p = took_along r (exchanged W (xs ++ j ∷ us) (xs ++ k ∷ []) s) (sending W o a b us c s) old new (sends_all vs xs w y j k d e f g h i m n p) t

pub ruleset sends = (unsent_label, unsent_last, unsent_type, is_sent)

module _ {A : Type 0} (v : Stacks A) (C : Context UnpackedIndex) (l : ℕ) (x : Val ℕ) (a : Val UnpackedIndex) (e : typed v C (these (x ∷ [])) ≡ Some (a ∷ [])) where
  -- whether a type matches the last one of a label
  unmatched_label : typed v C (label l) ≡ None → held v C (each_matches (these (x ∷ [])) (last (label l))) ≡ false
  unfolding typed held
  unmatched_label f = rw (e, f) refl

  unmatched_last : (vs : List (Val UnpackedIndex)) → typed v C (label l) ≡ Some vs → last_of vs ≡ None → held v C (each_matches (these (x ∷ [])) (last (label l))) ≡ false
  unfolding typed held
  unmatched_last vs f g = rw (e, f, g) refl

  matched_last : (vs : List (Val UnpackedIndex)) (w : Val UnpackedIndex) (d : Bool) → typed v C (label l) ≡ Some vs → last_of vs ≡ Some w → matches_val (world C) a w ≡ d → held v C (each_matches (these (x ∷ [])) (last (label l))) ≡ d
  unfolding typed held
  matched_last vs w d f g h = rw (e, f, g) (and-true (matches_val (world C) a w) ∙ h)

front_typed : {A : Type 0} (v : Stacks A) (C : Context UnpackedIndex) (l : ℕ) (vs : List (Val UnpackedIndex)) → typed v C (label l) ≡ Some vs → typed v C (front (label l)) ≡ Some (front_of vs)
unfolding typed
front_typed v C l vs f = rw f refl

module _ {A : Type 0} (v : Stacks A) (C : Context UnpackedIndex) (l : ℕ) (x z : Val ℕ) (t : OperandTypes) (a b c : Val UnpackedIndex) (us : List (Val UnpackedIndex)) (e : typed v C (these (x ∷ [])) ≡ Some (a ∷ []))
    (f : (vs : List (Val UnpackedIndex)) → typed v C (label l) ≡ Some vs → typed v C t ≡ Some (front_of vs ++ b ∷ us)) (g : typed v C (these (z ∷ [])) ≡ Some (c ∷ [])) (r : Result (Unit {0}) OperatorError) (old new : State UnpackedIndex) where
  abbrev keeping : List Action
  keeping = need (each_matches (these (x ∷ [])) (last (label l))) ∷ take t ∷ give (joined (front (label l)) (these (z ∷ []))) ∷ []

  refused_by : held v C (each_matches (these (x ∷ [])) (last (label l))) ≡ false → acted v C keeping ≡ None
  unfolding acted held
  refused_by h = rw h refl

  by_match : (vs : List (Val UnpackedIndex)) (w : Val UnpackedIndex) (d : Bool) → typed v C (label l) ≡ Some vs → last_of vs ≡ Some w → matches_val (world C) a w ≡ d → Took r (guard d (state_of v) >>= exchanged (world C) (front_of vs ++ b ∷ us) (front_of vs ++ c ∷ [])) old new
      → Took r (acted v C keeping) old new
  by_match vs w true i j k m =
      needed v C r _ _ old new (matched_last v C l x a e vs w true i j k)
      (plainly v C r _ _ (front_of vs ++ b ∷ us) (front_of vs ++ c ∷ []) old new m (f vs i) (both_typed v C _ _ _ _ (front_typed v C l vs i) g))
  by_match vs w false i j k m = took_along r None (acted v C keeping) old new (refused_by (matched_last v C l x a e vs w false i j k)) m

  by_last : (vs : List (Val UnpackedIndex)) (p : Option (Val UnpackedIndex)) → typed v C (label l) ≡ Some vs → last_of vs ≡ p → Took r (p >>= λ w. guard (matches_val (world C) a w) (state_of v) >>= exchanged (world C) (front_of vs ++ b ∷ us) (front_of vs ++ c ∷ [])) old new
      → Took r (acted v C keeping) old new
  by_last vs None i j m = took_along r None (acted v C keeping) old new (refused_by (unmatched_last v C l x a e vs i j)) m
  by_last vs (Some w) i j m = by_match vs w (matches_val (world C) a w) i j refl m

  pub by_label : (o : Option (List (Val UnpackedIndex))) → typed v C (label l) ≡ o → Took r (sending (world C) o a b us c (state_of v)) old new → Took r (acted v C keeping) old new
  unfolding sending
  by_label None i m = took_along r None (acted v C keeping) old new (refused_by (unmatched_label v C l x a e i)) m
  by_label (Some vs) i m = by_last vs (last_of vs) i refl m

-- what is taken with a type, and with a descriptor above it
alone_typed : {A : Type 0} (v : Stacks A) (C : Context UnpackedIndex) (l : ℕ) (y : Val ℕ) (b : Val UnpackedIndex) → typed v C (these (y ∷ [])) ≡ Some (b ∷ []) → (vs : List (Val UnpackedIndex)) → typed v C (label l) ≡ Some vs
    → typed v C (joined (front (label l)) (these (y ∷ []))) ≡ Some (front_of vs ++ b ∷ [])
alone_typed v C l y b f vs i = both_typed v C _ _ _ _ (front_typed v C l vs i) f

put_above : (xs us : List (Val UnpackedIndex)) (b : Val UnpackedIndex) → (xs ++ b ∷ []) ++ us ≡ xs ++ b ∷ us
put_above [] us b = refl
put_above (x ∷ xs) us b = ap (λ ys. x ∷ ys) (put_above xs us b)

above_typed : {A : Type 0} (v : Stacks A) (C : Context UnpackedIndex) (l : ℕ) (y : Val ℕ) (t : OperandTypes) (b d : Val UnpackedIndex) → typed v C (these (y ∷ [])) ≡ Some (b ∷ []) → typed v C t ≡ Some (d ∷ []) → (vs : List (Val UnpackedIndex)) → typed v C (label l) ≡ Some vs
    → typed v C (joined (joined (front (label l)) (these (y ∷ []))) t) ≡ Some (front_of vs ++ b ∷ d ∷ [])
above_typed v C l y t b d f g vs i = both_typed v C _ _ (front_of vs ++ b ∷ []) (d ∷ []) (alone_typed v C l y b f vs i) g ∙ ap Some (put_above (front_of vs) (d ∷ []) b)

module _ {A : Type 0} (v : Stacks A) (C : Context UnpackedIndex) (l : ℕ) (p q : Ref ℕ) (a b d : Ref UnpackedIndex) where
  difference_typed : IsCastable v C p q a b → d ≡ record { nullable = if b.nullable then false else a.nullable; heap = a.heap } → typed v C (these (difference p q ∷ [])) ≡ Some (reference d ∷ [])
  unfolding typed
  difference_typed k e =
      let n = heap_resolved C p a k.from_named in
      let m = heap_resolved C q b k.to_named in
      rw (n.0, e, n.1, m.1) refl

  pub branched_on_cast : (r : Result (Unit {0}) OperatorError) (old new : State UnpackedIndex) → Took r (sending (world C) (typed v C (label l)) (reference b) (reference a) [] (reference d) (state_of v)) old new → IsCastable v C p q a b
      → d ≡ record { nullable = if b.nullable then false else a.nullable; heap = a.heap }
      → Took r
      (acted v C
      (need (has gc) ∷ need (allows (reference p)) ∷ need (allows (reference q)) ∷ need (may_be_cast p q) ∷ need (each_matches (these (reference q ∷ [])) (last (label l))) ∷ take (joined (front (label l)) (these (reference p ∷ [])))
      ∷ give (joined (front (label l)) (these (difference p q ∷ []))) ∷ []))
      old new
  branched_on_cast r old new t k e =
      needed v C r _ _ old new k.feature
      (needed v C r _ _ old new k.from_allowed
      (needed v C r _ _ old new k.to_allowed
      (needed v C r _ _ old new k.cast
      (by_label v C l (reference q) (difference p q) _ (reference b) (reference a) (reference d) [] (reference_typed v C q b (reference b) k.to_named refl) (alone_typed v C l (reference p) (reference a) (reference_typed v C p a (reference a) k.from_named refl))
      (difference_typed k e) r old new (typed v C (label l)) refl t))))

  pub branched_on_fail : (r : Result (Unit {0}) OperatorError) (old new : State UnpackedIndex) → Took r (sending (world C) (typed v C (label l)) (reference d) (reference a) [] (reference b) (state_of v)) old new → IsCastable v C p q a b
      → d ≡ record { nullable = if b.nullable then false else a.nullable; heap = a.heap }
      → Took r
      (acted v C
      (need (has gc) ∷ need (allows (reference p)) ∷ need (allows (reference q)) ∷ need (may_be_cast p q) ∷ need (each_matches (these (difference p q ∷ [])) (last (label l))) ∷ take (joined (front (label l)) (these (reference p ∷ [])))
      ∷ give (joined (front (label l)) (these (reference q ∷ []))) ∷ []))
      old new
  branched_on_fail r old new t k e =
      needed v C r _ _ old new k.feature
      (needed v C r _ _ old new k.from_allowed
      (needed v C r _ _ old new k.to_allowed
      (needed v C r _ _ old new k.cast
      (by_label v C l (difference p q) (reference q) _ (reference d) (reference a) (reference b) [] (difference_typed k e) (alone_typed v C l (reference p) (reference a) (reference_typed v C p a (reference a) k.from_named refl))
      (reference_typed v C q b (reference b) k.to_named refl) r old new (typed v C (label l)) refl t))))

  -- with a descriptor
  pub described_on_cast : (r : Result (Unit {0}) OperatorError) (w : Val UnpackedIndex) (old new : State UnpackedIndex) → Took r (sending (world C) (typed v C (label l)) (reference b) (reference a) (w ∷ []) (reference d) (state_of v)) old new → IsDescribed v C p q a b w
      → d ≡ record { nullable = if b.nullable then false else a.nullable; heap = a.heap }
      → Took r
      (acted v C
      (need (has descriptor_operators) ∷ need (has custom_descriptors) ∷ need (has gc) ∷ need (allows (reference p)) ∷ need (allows (reference q)) ∷ need (may_be_cast p q) ∷ need (each_matches (these (reference q ∷ [])) (last (label l)))
      ∷ take (joined (joined (front (label l)) (these (reference p ∷ []))) (descriptor_for q.heap)) ∷ give (joined (front (label l)) (these (difference p q ∷ []))) ∷ []))
      old new
  described_on_cast r w old new t n e =
      let k = n.castable in
      needed v C r _ _ old new n.operators
      (needed v C r _ _ old new n.types
      (needed v C r _ _ old new k.feature
      (needed v C r _ _ old new k.from_allowed
      (needed v C r _ _ old new k.to_allowed
      (needed v C r _ _ old new k.cast
      (by_label v C l (reference q) (difference p q) _ (reference b) (reference a) (reference d) (w ∷ []) (reference_typed v C q b (reference b) k.to_named refl)
      (above_typed v C l (reference p) (descriptor_for q.heap) (reference a) w (reference_typed v C p a (reference a) k.from_named refl) (descriptor_typed v C q.heap w n.descriptor)) (difference_typed k e) r old new (typed v C (label l)) refl t))))))

  pub described_on_fail : (r : Result (Unit {0}) OperatorError) (w : Val UnpackedIndex) (old new : State UnpackedIndex) → Took r (sending (world C) (typed v C (label l)) (reference d) (reference a) (w ∷ []) (reference b) (state_of v)) old new → IsDescribed v C p q a b w
      → d ≡ record { nullable = if b.nullable then false else a.nullable; heap = a.heap }
      → Took r
      (acted v C
      (need (has descriptor_operators) ∷ need (has custom_descriptors) ∷ need (has gc) ∷ need (allows (reference p)) ∷ need (allows (reference q)) ∷ need (may_be_cast p q) ∷ need (each_matches (these (difference p q ∷ [])) (last (label l)))
      ∷ take (joined (joined (front (label l)) (these (reference p ∷ []))) (descriptor_for q.heap)) ∷ give (joined (front (label l)) (these (reference q ∷ []))) ∷ []))
      old new
  described_on_fail r w old new t n e =
      let k = n.castable in
      needed v C r _ _ old new n.operators
      (needed v C r _ _ old new n.types
      (needed v C r _ _ old new k.feature
      (needed v C r _ _ old new k.from_allowed
      (needed v C r _ _ old new k.to_allowed
      (needed v C r _ _ old new k.cast
      (by_label v C l (difference p q) (reference q) _ (reference d) (reference a) (reference b) (w ∷ []) (difference_typed k e)
      (above_typed v C l (reference p) (descriptor_for q.heap) (reference a) w (reference_typed v C p a (reference a) k.from_named refl) (descriptor_typed v C q.heap w n.descriptor)) (reference_typed v C q b (reference b) k.to_named refl) r old new (typed v C (label l)) refl t))))))

pub ruleset kept_on = (branched_on_cast, branched_on_fail)

pub ruleset described_on = (described_on_cast, described_on_fail)
