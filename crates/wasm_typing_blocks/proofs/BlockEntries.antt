-- Frames that are entered behind the checks of their block type.
use Rattle.std.proofs.Common.{◌≡◌, ℕ, Bool, true, false, ◌&&◌, List, [], ◌∷◌, ◌++◌, refl, sym, ◌∙◌, ap}
use Rattle.std.specs.Option.{option_map}
use Rattle.std.specs.Prelude.{Option, Some, None, Result, if◌then◌else◌}
use Rattle.std.proofs.lemmas.Option.{same_Some}
use Rattle.wasm_spec.specs.MatchingTests.{World}
use Rattle.wasm_spec.specs.Syntax.{Val, i32}
use Rattle.wasm_spec_rules.specs.Contexts.{Context}
use Rattle.wasm_readers_types.specs.WasmReadersValues.declared.indices.UnpackedIndex.{UnpackedIndex}
use Rattle.wasm_operators.specs.Control.{Block}
use Rattle.wasm_typing_control.specs.WasmTypingChecks.WasmSpecSteps.Actions.{OperandTypes, Check, has, exceptions, Action, take, enter}
use Rattle.wasm_spec_rules.specs.Attempts.{◌>>=◌, guard}
use Rattle.wasm_typing_control.specs.WasmTypingChecks.WasmSpecSteps.Bodies.{Surroundings}
use Rattle.wasm_typing_control.specs.WasmTypingChecks.WasmSpecSteps.Machine.{Kind, State, pop_val, pop_vals, push_frame}
use Rattle.wasm_spec_rules.specs.Signatures.{Signature}
use Rattle.wasm_typing_control.specs.WasmTypingChecks.WasmSpecSteps.Meanings.{resolve_block, block_signature, types_at, holds, run}
use Rattle.wasm_typing_control.specs.WasmTypingChecks.WasmSpecSteps.Shapes.{block_checks, nothing, one}
use Rattle.wasm_typing_control.specs.WasmTypingChecks.WasmSpecSteps.Steps.{checked}
use Rattle.wasm_typing_control.specs.WasmTypingChecks.WasmValidatorResources.Answers.{world}
use Rattle.wasm_typing_control.specs.WasmTypingChecks.WasmTypingStacks.BodyStacks.{state_of, around}
use Rattle.wasm_typing_control.specs.WasmTypingChecks.WasmTypingStacks.declared.stacks.Stacks.{Stacks}
use Rattle.wasm_typing_control.specs.WasmTypingChecks.Steps.{Took, acted, held}
use Rattle.wasm_typing_control.specs.WasmTypingChecks.declared.faults.OperatorError.{OperatorError}
use Rattle.wasm_typing_control.proofs.WasmTypingChecks.ActionSteps.{took_along}
use Rattle.wasm_typing_control.specs.Blocks.{signature_in}
use Rattle.wasm_typing_control.specs.FrameEntries.{entered}
use Rattle.wasm_typing_blocks.specs.KnownBlockTypes.{hold_all, all_held, taken_by, block_known}
use Rattle.wasm_typing_control.proofs.LabelTypes.{same_signature}

-- checks, one after another
module _ (W : World UnpackedIndex) (B : Surroundings UnpackedIndex) where
  guarded : (b c : Bool) (s : State UnpackedIndex) (cs : List Check) (rest : List Action) → hold_all W B s cs ≡ c → (b && c) ≡ true → run W B (checked cs rest) s ≡ run W B rest s → (guard b s >>= run W B (checked cs rest)) ≡ run W B rest s
  guarded true c s cs rest e h f = f
  guarded false c s cs rest e h f = cc

  rest_holds : (b c : Bool) → (b && c) ≡ true → c ≡ true
  rest_holds true c e = e
  rest_holds false c e = cc

  all_checked : (cs : List Check) (rest : List Action) (s : State UnpackedIndex) → hold_all W B s cs ≡ true → run W B (checked cs rest) s ≡ run W B rest s
  all_checked [] rest s e = refl
  all_checked (c ∷ cs) rest s e = guarded (holds W B s c) (hold_all W B s cs) s cs rest refl e (all_checked cs rest s (rest_holds (holds W B s c) (hold_all W B s cs) e))

  unguarded : (b c : Bool) (s : State UnpackedIndex) (cs : List Check) (rest : List Action) → (b && c) ≡ false → (c ≡ false → run W B (checked cs rest) s ≡ None) → (guard b s >>= run W B (checked cs rest)) ≡ None
  unguarded true c s cs rest h f = f h
  unguarded false c s cs rest h f = refl

  not_checked : (cs : List Check) (rest : List Action) (s : State UnpackedIndex) → hold_all W B s cs ≡ false → run W B (checked cs rest) s ≡ None
  not_checked [] rest s e = cc
  not_checked (c ∷ cs) rest s e = unguarded (holds W B s c) (hold_all W B s cs) s cs rest e (λ h. not_checked cs rest s h)

  and_assoc : (a b c : Bool) → (a && (b && c)) ≡ ((a && b) && c)
  and_assoc true b c = refl
  and_assoc false b c = refl

  pub hold_both : (cs ds : List Check) (s : State UnpackedIndex) → hold_all W B s (cs ++ ds) ≡ (hold_all W B s cs && hold_all W B s ds)
  hold_both [] ds s = refl
  hold_both (c ∷ cs) ds s = ap (λ b. holds W B s c && b) (hold_both cs ds s) ∙ and_assoc (holds W B s c) (hold_all W B s cs) (hold_all W B s ds)

module _ {A : Type 0} (v : Stacks A) (C : Context UnpackedIndex) where
  -- what a known block type says
  record Named (o : Option (Block UnpackedIndex)) (c : Block UnpackedIndex) (vs : List (Val UnpackedIndex)) : Type 0 where
    resolved : o ≡ Some c
    signature : Signature UnpackedIndex
    signed : signature_in C c ≡ Some signature
    taken : signature.takes ≡ vs

  record Known (h : Bool) (o : Option (Block UnpackedIndex)) (c : Block UnpackedIndex) (vs : List (Val UnpackedIndex)) : Type 0 where
    checks : h ≡ true
    named : Named o c vs

  abbrev with_takes : Block UnpackedIndex → Signature UnpackedIndex → Block UnpackedIndex × List (Val UnpackedIndex)
  with_takes d g = (d, g.takes)

  named_by : (c d : Block UnpackedIndex) (vs : List (Val UnpackedIndex)) (o : Option (Signature UnpackedIndex)) → signature_in C d ≡ o → option_map (with_takes d) o ≡ Some (c, vs) → Named (Some d) c vs
  named_by c d vs None f e = cc
  named_by c d vs (Some g) f e =
      let q : (d, g.takes) ≡ (c, vs) = same_Some (d, g.takes) (c, vs) e in
      let p : d ≡ c = ap (λ (x : Block UnpackedIndex × List (Val UnpackedIndex)). x.0) q in
      record { resolved = ap Some p; signature = g; signed = ap (signature_in C) (sym p) ∙ f; taken = ap (λ (x : Block UnpackedIndex × List (Val UnpackedIndex)). x.1) q }

  known_by : (h : Bool) (o : Option (Block UnpackedIndex)) (c : Block UnpackedIndex) (vs : List (Val UnpackedIndex)) → (if h then (o >>= taken_by C) else None) ≡ Some (c, vs) → Known h o c vs
  known_by false o c vs e = cc
  known_by true None c vs e = cc
  known_by true (Some d) c vs e = record { checks = refl; named = named_by c d vs (signature_in C d) refl e }

  known : (b : Block ℕ) (c : Block UnpackedIndex) (vs : List (Val UnpackedIndex)) → block_known v C b ≡ Some (c, vs) → Known (hold_all (world C) (around v C) (state_of v) (block_checks b)) (resolve_block C.types b) c vs
  unfolding block_known
  known b c vs e = known_by (hold_all (world C) (around v C) (state_of v) (block_checks b)) (resolve_block C.types b) c vs e

  last_some : {X : Type 0} (o : Option X) → (o >>= Some) ≡ o
  last_some None = refl
  last_some (Some x) = refl

  entered_as : (k : Kind) (b : Block ℕ) (c : Block UnpackedIndex) (vs : List (Val UnpackedIndex)) (s : State UnpackedIndex) → Named (resolve_block C.types b) c vs → run (world C) (around v C) (enter k b ∷ []) s ≡ entered (world C) k c vs s
  unfolding entered
  entered_as k b c vs s q = rw (q.resolved, same_signature v C c, q.signed, q.taken) (last_some (pop_vals (world C) vs s >>= λ t. Some (push_frame k c vs t)))

  -- behind its checks, and others
  entering_as : (k : Kind) (b : Block ℕ) (c : Block UnpackedIndex) (vs : List (Val UnpackedIndex)) → block_known v C b ≡ Some (c, vs) → acted v C (checked (block_checks b) (take nothing ∷ enter k b ∷ [])) ≡ entered (world C) k c vs (state_of v)
  unfolding acted
  entering_as k b c vs e =
      let q = known b c vs e in
      all_checked (world C) (around v C) (block_checks b) (take nothing ∷ enter k b ∷ []) (state_of v) q.checks ∙ entered_as k b c vs (state_of v) q.named

  pub enters_plainly : (r : Result (Unit {0}) OperatorError) (k : Kind) (b : Block ℕ) (c : Block UnpackedIndex) (vs : List (Val UnpackedIndex)) (old new : State UnpackedIndex)
      → block_known v C b ≡ Some (c, vs) → Took r (entered (world C) k c vs (state_of v)) old new → Took r (acted v C (checked (block_checks b) (take nothing ∷ enter k b ∷ []))) old new
  enters_plainly r k b c vs old new e t = took_along r _ _ old new (entering_as k b c vs e) t

  conditioned_as : (k : Kind) (b : Block ℕ) (c : Block UnpackedIndex) (x : Val UnpackedIndex) (vs : List (Val UnpackedIndex)) (t : State UnpackedIndex) → block_known v C b ≡ Some (c, vs) → x ≡ i32 → pop_val (world C) x (state_of v) ≡ Some t
      → acted v C (checked (block_checks b) (take (one i32) ∷ enter k b ∷ [])) ≡ entered (world C) k c vs t
  unfolding acted
  conditioned_as k b c x vs t e f h =
      let q = known b c vs e in
      let p : pop_val (world C) i32 (state_of v) ≡ Some t = ap (λ y. pop_val (world C) y (state_of v)) (sym f) ∙ h in
      all_checked (world C) (around v C) (block_checks b) (take (one i32) ∷ enter k b ∷ []) (state_of v) q.checks ∙ ap (λ o. o >>= run (world C) (around v C) (enter k b ∷ [])) p ∙ entered_as k b c vs t q.named

  pub enters_conditioned : (r : Result (Unit {0}) OperatorError) (k : Kind) (b : Block ℕ) (c : Block UnpackedIndex) (x : Val UnpackedIndex) (vs : List (Val UnpackedIndex)) (old new t : State UnpackedIndex)
      → block_known v C b ≡ Some (c, vs) → x ≡ i32 → pop_val (world C) x (state_of v) ≡ Some t → Took r (entered (world C) k c vs t) old new → Took r (acted v C (checked (block_checks b) (take (one i32) ∷ enter k b ∷ []))) old new
  enters_conditioned r k b c x vs old new t e f h m = took_along r _ _ old new (conditioned_as k b c x vs t e f h) m

  pub condition_missing : (k : Kind) (b : Block ℕ) (c : Block UnpackedIndex) (x : Val UnpackedIndex) (vs : List (Val UnpackedIndex)) → block_known v C b ≡ Some (c, vs) → x ≡ i32 → pop_val (world C) x (state_of v) ≡ None
      → acted v C (checked (block_checks b) (take (one i32) ∷ enter k b ∷ [])) ≡ None
  unfolding acted
  condition_missing k b c x vs e f h =
      let q = known b c vs e in
      let p : pop_val (world C) i32 (state_of v) ≡ None = ap (λ y. pop_val (world C) y (state_of v)) (sym f) ∙ h in
      all_checked (world C) (around v C) (block_checks b) (take (one i32) ∷ enter k b ∷ []) (state_of v) q.checks ∙ ap (λ o. o >>= run (world C) (around v C) (enter k b ∷ [])) p

  -- a block type that isn't known
  unsigned_by : (c : Block UnpackedIndex) (o : Option (Signature UnpackedIndex)) → option_map (with_takes c) o ≡ None → o ≡ None
  unsigned_by c None e = refl
  unsigned_by c (Some g) e = cc

  abbrev entering : Kind → Option (Block UnpackedIndex) → State UnpackedIndex → Option (State UnpackedIndex)
  entering k o s = (o >>= λ c. block_signature (world C) (around v C) c >>= λ g. pop_vals (world C) g.takes s >>= λ t. Some (push_frame k c g.takes t)) >>= Some

  unsigned : (o : Option (Block UnpackedIndex)) (k : Kind) (s : State UnpackedIndex) → (o >>= taken_by C) ≡ None → entering k o s ≡ None
  unsigned None k s e = refl
  unsigned (Some c) k s e = rw (same_signature v C c, unsigned_by c (signature_in C c) e) refl

  not_entered : (k : Kind) (b : Block ℕ) (o : Option (State UnpackedIndex)) → (resolve_block C.types b >>= taken_by C) ≡ None → (o >>= run (world C) (around v C) (enter k b ∷ [])) ≡ None
  not_entered k b None e = refl
  not_entered k b (Some s) e = unsigned (resolve_block C.types b) k s e

  abbrev behind_checks : Block ℕ → List Action → Option (State UnpackedIndex)
  behind_checks b rest = run (world C) (around v C) (checked (block_checks b) rest) (state_of v)

  unknown_by : (h : Bool) (k : Kind) (b : Block ℕ) (t : OperandTypes) → hold_all (world C) (around v C) (state_of v) (block_checks b) ≡ h → (if h then (resolve_block C.types b >>= taken_by C) else None) ≡ None → behind_checks b (take t ∷ enter k b ∷ []) ≡ None
  unknown_by false k b t h e = not_checked (world C) (around v C) (block_checks b) (take t ∷ enter k b ∷ []) (state_of v) h
  unknown_by true k b t h e =
      all_checked (world C) (around v C) (block_checks b) (take t ∷ enter k b ∷ []) (state_of v) h ∙ not_entered k b (types_at (world C) (around v C) (state_of v) t >>= λ vs. pop_vals (world C) vs (state_of v)) e

  pub unknown_entered : (k : Kind) (b : Block ℕ) (t : OperandTypes) → block_known v C b ≡ None → acted v C (checked (block_checks b) (take t ∷ enter k b ∷ [])) ≡ None
  unfolding acted block_known
  unknown_entered k b t e = unknown_by (hold_all (world C) (around v C) (state_of v) (block_checks b)) k b t refl e

pub ruleset enters = (enters_plainly, enters_conditioned, condition_missing, unknown_entered)

-- behind other checks too
module _ {A : Type 0} (v : Stacks A) (C : Context UnpackedIndex) where
  abbrev trying : List Check → Kind → Block ℕ → List Action
  trying cs k b = checked (has exceptions ∷ block_checks b ++ cs) (take nothing ∷ enter k b ∷ [])

  both_true : (b c : Bool) → b ≡ true → c ≡ true → (b && c) ≡ true
  both_true b c e f = rw (e, f) refl

  second_false : (b c : Bool) → c ≡ false → (b && c) ≡ false
  second_false true c e = e
  second_false false c e = refl

  first_false : (b c : Bool) → b ≡ false → (b && c) ≡ false
  first_false b c e = rw e refl

  pub tries_entering : (r : Result (Unit {0}) OperatorError) (cs : List Check) (k : Kind) (b : Block ℕ) (c : Block UnpackedIndex) (vs : List (Val UnpackedIndex)) (old new : State UnpackedIndex)
      → held v C (has exceptions) ≡ true → block_known v C b ≡ Some (c, vs) → true ≡ all_held v C cs → Took r (entered (world C) k c vs (state_of v)) old new → Took r (acted v C (trying cs k b)) old new
  unfolding acted held all_held
  tries_entering r cs k b c vs old new h e f t =
      let q = known v C b c vs e in
      let all = both_true (holds (world C) (around v C) (state_of v) (has exceptions)) (hold_all (world C) (around v C) (state_of v) (block_checks b ++ cs)) h (hold_both (world C) (around v C) (block_checks b) cs (state_of v) ∙ both_true _ _ q.checks (sym f)) in
      took_along r _ _ old new (all_checked (world C) (around v C) (has exceptions ∷ block_checks b ++ cs) (take nothing ∷ enter k b ∷ []) (state_of v) all ∙ entered_as v C k b c vs (state_of v) q.named) t

  pub tries_without : (cs : List Check) (k : Kind) (b : Block ℕ) → held v C (has exceptions) ≡ false → acted v C (trying cs k b) ≡ None
  unfolding acted held
  tries_without cs k b h = not_checked (world C) (around v C) (has exceptions ∷ block_checks b ++ cs) (take nothing ∷ enter k b ∷ []) (state_of v) (first_false _ _ h)

  pub tries_unsent : (cs : List Check) (k : Kind) (b : Block ℕ) → false ≡ all_held v C cs → acted v C (trying cs k b) ≡ None
  unfolding acted all_held
  tries_unsent cs k b h =
      not_checked (world C) (around v C) (has exceptions ∷ block_checks b ++ cs) (take nothing ∷ enter k b ∷ []) (state_of v)
      (second_false _ _ (hold_both (world C) (around v C) (block_checks b) cs (state_of v) ∙ second_false _ _ (sym h)))

  tried_by : (h : Bool) (cs : List Check) (k : Kind) (b : Block ℕ) → hold_all (world C) (around v C) (state_of v) (has exceptions ∷ block_checks b ++ cs) ≡ h → (resolve_block C.types b >>= taken_by C) ≡ None → run (world C) (around v C) (trying cs k b) (state_of v) ≡ None
  tried_by false cs k b h e = not_checked (world C) (around v C) (has exceptions ∷ block_checks b ++ cs) (take nothing ∷ enter k b ∷ []) (state_of v) h
  tried_by true cs k b h e = all_checked (world C) (around v C) (has exceptions ∷ block_checks b ++ cs) (take nothing ∷ enter k b ∷ []) (state_of v) h ∙ not_entered v C k b (Some (state_of v)) e

  unheld : (h : Bool) (cs : List Check) (k : Kind) (b : Block ℕ) → hold_all (world C) (around v C) (state_of v) (block_checks b) ≡ h → (if h then (resolve_block C.types b >>= taken_by C) else None) ≡ None → run (world C) (around v C) (trying cs k b) (state_of v) ≡ None
  unheld false cs k b h e =
      not_checked (world C) (around v C) (has exceptions ∷ block_checks b ++ cs) (take nothing ∷ enter k b ∷ []) (state_of v)
      (second_false _ _ (hold_both (world C) (around v C) (block_checks b) cs (state_of v) ∙ first_false _ _ h))
  unheld true cs k b h e = tried_by (hold_all (world C) (around v C) (state_of v) (has exceptions ∷ block_checks b ++ cs)) cs k b refl e

  pub tries_unknown : (cs : List Check) (k : Kind) (b : Block ℕ) → block_known v C b ≡ None → acted v C (trying cs k b) ≡ None
  unfolding acted block_known
  tries_unknown cs k b e = unheld (hold_all (world C) (around v C) (state_of v) (block_checks b)) cs k b refl e

pub ruleset tries = (tries_entering, tries_without, tries_unsent, tries_unknown)
