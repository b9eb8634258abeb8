-- Calls of one validator, one after another, are a run of the state table; and what is kept where a module isn't accepted.
use Rattle.std.proofs.Common.{◌≡◌, refl, sym, ap, subst, ◌∙◌, ◌⊎◌, inl, inr, ℕ, Bool, true, false, true≢false, cond, ◌==◌, List, [], ◌∷◌, ◌++◌, Some, None, append_assoc, append-nil}
use Rattle.std.specs.Prelude.{IsSome}
use Rattle.std.specs.declared.result.Result.{Result}
use Rattle.std.specs.declared.result.Result.TheVariants.{Ok, Err}
use Rattle.wasm_spec.specs.Framing as framing
use Rattle.wasm_spec.specs.Framing.{Piece, Version, Custom, Counted, Start, DataCount, CodeStart, CodeEntry, Unknown}
use Rattle.wasm_spec_rules.specs.StateTable as table
use Rattle.wasm_spec_rules.specs.StateTable.{Phase, Call, refused_to}
use Rattle.wasm_validator_modules.specs.WasmValidatorCore.declared.error.Error.{Error}
use Rattle.wasm_validator_modules.specs.WasmValidatorCore.declared.error.Error.TheVariants.{Refused, DuplicateExport, InFunction, OutOfMemory}
use Rattle.wasm_validator_modules.specs.WasmValidatorCore.Answers.{TypesSoFar}
use Rattle.wasm_validator_modules.specs.ValidatorStages.{Stage, unparsed, in_module, in_code, ended, failed, Standing, HoldsAt, HoldsValid, can_reset_at, may_reset, reset_at, shown_at}
use Rattle.wasm_validator_modules.specs.States.{is_barred, after_piece, left_by}
use Rattle.wasm_validator_modules.specs.Payloads.{after_all, IsOutOfMemory, HasNoMemory, IsBehindCode}
use Rattle.wasm_validator_modules.specs.Table.{phase_of, call_of}
use Rattle.wasm_validator_modules.specs.Sequences.{KeepsTypes}
use Rattle.wasm_validator_modules.proofs.ListGrowth.{all_only, all_back}
use Rattle.wasm_validator_modules.proofs.Resets.{refused_keep_types}
use Rattle.wasm_validator_modules.proofs.TableSteps.{accepted_by_table, refused_by_table}
use Rattle.wasm_validator.specs.Calls.{OrReset, payload, reset, for_content, for_order, reset_to, has_turn, is_reading, HasContent, Leads, in_table, has_turn_at, Answers, kind_of, CallsFollowStateTable, UnacceptedModulesKeepTypes}

-- a custom section is never refused
counted_content : (a b : Bool) → HasContent (cond a table.data_section (cond b table.barred_section table.section))
counted_content true b = tt
counted_content false true = tt
counted_content false false = tt

content : (s : Standing) (p : Piece) → ((name bytes : List ℕ) → p ≡ Custom name bytes → ⊥) → HasContent (call_of s p)
content s (Version number kind) none = tt
content s (Custom name bytes) none = absurd (none name bytes refl)
content s (Counted id n bytes) none = counted_content (id == 11) (is_barred s.features id)
content s (Start x) none = tt
content s (DataCount n) none = tt
content s (CodeStart n size) none = tt
content s (CodeEntry bytes) none = tt
content s (Unknown id bytes) none = tt
content s framing.End none = tt

-- a refused call
refused : (c : Call) (g h : Phase) (turn : Bool) → has_turn c g ≡ turn → HasContent c → h ≡ refused_to c g → Leads (payload c) (cond turn for_content for_order) g h
refused c g h true e f l = (f, e, l)
refused c g h false e f l = (e, l)

left_phase : (old next : Standing) (p : Piece) (g : Stage) → g ≡ left_by old p → next ≡ record old { stage = g } → phase_of next.stage ≡ refused_to (call_of old p) (phase_of old.stage)
left_phase old next p g e n = ap (λ (s : Standing). phase_of s.stage) n ∙ ap phase_of e ∙ sym (refused_by_table old p)

reset_phase : (g : Stage) → can_reset_at g ≡ true → reset_to (phase_of g) ≡ Some (phase_of (reset_at g))
reset_phase (unparsed types) m = refl
reset_phase (in_module types spaces more) m = absurd cc
reset_phase (in_code types spaces more) m = absurd cc
reset_phase (ended types) m = refl
reset_phase failed m = absurd cc

-- a module is being read where its index spaces are shown
reads_at : (g : Stage) → IsSome (shown_at g) → is_reading (phase_of g) ≡ true
reads_at (unparsed types) s = absurd (true≢false (sym s))
reads_at (in_module types spaces more) s = refl
reads_at (in_code types spaces more) s = refl
reads_at (ended types) s = absurd (true≢false (sym s))
reads_at failed s = absurd (true≢false (sym s))

module _ {T A : Type 0} where
  one : (c : OrReset Piece) (r : Result T (Error A)) (old next : Standing) → HoldsValid old → Answers c r old next → Leads (in_table old c) (kind_of r (has_turn_at old c)) (phase_of old.stage) (phase_of next.stage)
  one (payload p) (Ok x) old next v h = accepted_by_table old next p h
  one (payload p) (Err (Refused r)) old next v h =
      refused (call_of old p) (phase_of old.stage) (phase_of next.stage) (has_turn (call_of old p) (phase_of old.stage)) refl
      (content old p (λ name bytes e. h.0 old (ap (after_piece old) e) v)) (left_phase old next p (left_by old p) refl h.1)
  one (payload p) (Err (DuplicateExport name offset)) old next v h =
      refused (call_of old p) (phase_of old.stage) (phase_of next.stage) (has_turn (call_of old p) (phase_of old.stage)) refl
      (content old p (λ name bytes e. h.0 old (ap (after_piece old) e) v)) (left_phase old next p (left_by old p) refl h.1)
  one (payload p) (Err (InFunction index r)) old next v h = absurd h
  one (payload p) (Err OutOfMemory) old next v h =
      (reads_at old.stage h.0, refused_by_table old p ∙ ap phase_of h.1, ap (λ (s : Standing). phase_of s.stage) h.2)
  one reset (Ok x) old next v h = reset_phase old.stage h.0 ∙ ap (λ (s : Standing). Some (phase_of s.stage)) (sym h.1)
  one reset (Err e) old next v h = absurd h

  pub calls_follow_state_table : CallsFollowStateTable T A
  calls_follow_state_table [] old new a = ap (λ (s : Standing). phase_of s.stage) a
  calls_follow_state_table (c ∷ cs) old new a = (phase_of a.0.stage, one c.0 c.1 old a.0 a.1 a.2, calls_follow_state_table cs a.0 new a.3)

-- the fronts of a list
abbrev IsFrontOf : TypesSoFar → TypesSoFar → Type 0
IsFrontOf whole us = (more : TypesSoFar) × (us ++ more ≡ whole)

front_of_front : (whole us more : TypesSoFar) → IsFrontOf whole (us ++ more) → IsFrontOf whole us
front_of_front whole us more f = (more ++ f.0, sym (append_assoc us more f.0) ∙ f.1)

module _ (old reached : Standing) (before : TypesSoFar) (pieces : List Piece) (began : old.stage ≡ unparsed before) (run : after_all old pieces ≡ Some reached) where
  kept_from : (whole : TypesSoFar) → may_reset reached ≡ true → HoldsAt (IsFrontOf whole) reached.stage → reset_at reached.stage ≡ unparsed whole → KeepsTypes old reached
  kept_from whole may f to =
      let only = all_only pieces old reached run in
      let front = subst (HoldsAt (IsFrontOf whole)) began (all_back (IsFrontOf whole) (front_of_front whole) pieces old reached run f) in
      record {
        before = before;
        began = began;
        may = may;
        more = front.0;
        after = (λ i. record (sym only i) { stage = to i }) ∙ (λ i. record old { stage = unparsed (sym front.1 i) });
      }

  -- at a stage that may be reset
  kept_at : (g : Stage) → reached.stage ≡ g → can_reset_at g ≡ true → KeepsTypes old reached
  kept_at (unparsed whole) e m = kept_from whole (ap can_reset_at e) (subst (HoldsAt (IsFrontOf whole)) (sym e) ([], append-nil whole)) (ap reset_at e)
  kept_at (in_module types spaces more) e m = absurd cc
  kept_at (in_code types spaces more) e m = absurd cc
  kept_at (ended whole) e m = kept_from whole (ap can_reset_at e) (subst (HoldsAt (IsFrontOf whole)) (sym e) ([], append-nil whole)) (ap reset_at e)
  kept_at failed e m = absurd cc

out_of_memory_keeps : (bytes : List ℕ) (old new : Standing) (before : TypesSoFar) → old.stage ≡ unparsed before → (l : IsOutOfMemory bytes old new) → may_reset new ≡ true
    → HasNoMemory l.behind l.reached new ⊎ (IsBehindCode l.reached.stage × (new ≡ l.reached)) → KeepsTypes old new
out_of_memory_keeps bytes old new before w l may (inl h) = absurd (let f : true ≡ false = sym may ∙ ap may_reset h.left in cc)
out_of_memory_keeps bytes old new before w l may (inr h) =
    subst (KeepsTypes old) (sym h.1) (kept_at old l.reached before (l.taken).pieces w (l.taken).run (l.reached).stage refl (ap may_reset (sym h.1) ∙ may))

pub unaccepted_modules_keep_types : {A : Type 0} → UnacceptedModulesKeepTypes A
unaccepted_modules_keep_types (Refused r) bytes old new before w d may = refused_keep_types (Some r) bytes old new before w d.1 may
unaccepted_modules_keep_types (DuplicateExport name offset) bytes old new before w d may = refused_keep_types None bytes old new before w d.1 may
unaccepted_modules_keep_types (InFunction index r) bytes old new before w d may = refused_keep_types (Some r) bytes old new before w d.1.0 may
unaccepted_modules_keep_types OutOfMemory bytes old new before w d may = out_of_memory_keeps bytes old new before w d may d.left
