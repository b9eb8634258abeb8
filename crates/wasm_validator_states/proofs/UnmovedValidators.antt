-- A module that is refused so that the validator may be reset, and that didn't come to its end, leaves the validator where it stood.
use Rattle.std.proofs.Common.{◌≡◌, refl, sym, ap, subst, ◌∙◌, inl, inr, ℕ, Bool, true, false, cond, eqb, leb, ◌&&◌, ◌||◌, List, [], ◌∷◌, length, Option, Some, None, true≢false}
use Rattle.std.specs.Option.{option_and_then}
use Rattle.std.specs.declared.result.Result.{Result}
use Rattle.std.specs.declared.result.Result.TheVariants.{Ok, Err}
use Rattle.std.proofs.lemmas.Option.{same_Some, none-some}
use Rattle.wasm_spec.specs.Framing as parts
use Rattle.wasm_spec.specs.Framing.{Piece, Version, Custom, Counted, Start, DataCount, CodeStart, CodeEntry, Unknown}
use Rattle.wasm_readers_errors.specs.declared.error.Refusal.{Refusal}
use Rattle.wasm_validator_types.specs.declared.shown.Types as shown
use Rattle.wasm_validator_sections.specs.WasmValidatorCore.declared.error.Error.{Error}
use Rattle.wasm_validator_sections.specs.WasmValidatorCore.declared.error.Error.TheVariants.{Refused, DuplicateExport, InFunction, OutOfMemory}
use Rattle.wasm_validator_sections.specs.WasmValidatorCore.Answers.{TypesSoFar}
use Rattle.wasm_validator_sections.specs.Machine.{section_items, start_item, data_count_item, beside}
use Rattle.wasm_validator_sections.specs.ModuleNotes.{Noted, naming, counting, noting_nothing}
use Rattle.wasm_validator_sections.specs.WasmValidatorReferences.References.{section_names}
use Rattle.wasm_validator_sections.specs.declared.code_state.TheConstants.{MAX_FUNCTION_SIZE}
use Rattle.wasm_validator_sections.specs.CodeProgress.{bodies_left, taking}
use Rattle.wasm_spec_rules.specs.FeatureFlags.{features_of}
use Rattle.wasm_validator_types.specs.Spaces.{Spaces}
use Rattle.wasm_validator_states.specs.ValidatorStages.{within, within_all, HasNotEnded}
use Rattle.wasm_validator_states.specs.States.{begun, code_started, body_taken, module_ended}
use Rattle.wasm_validator_states.specs.ValidatorStages.{Stage, unparsed, in_module, in_code, ended, failed, Standing, can_reset_at, may_reset, refused_at, read_refused_at, body_refused_at, ended_at, at_stage, IsEnded}
use Rattle.wasm_validator_states.specs.States.{after_piece, is_barred, left_by}
use Rattle.wasm_validator_states.specs.Payloads.{after_all, IsLeft, IsOutOfMemory}
use Rattle.wasm_validator_states.specs.Verdict.{DecidesModule, StopsModule}

-- no header has been read
abbrev pub IsBefore : Stage → Type 0
IsBefore (unparsed types) = Unit {0}
IsBefore (in_module types spaces more) = ⊥
IsBefore (in_code types spaces more) = ⊥
IsBefore (ended types) = ⊥
IsBefore failed = ⊥

-- no step but that of a custom section leads there
step_never : {X : Type 0} (s t : Standing) (o : Option X) (f : X → Stage) → ((x : X) → IsBefore (f x) → ⊥) → at_stage s (option_and_then (λ x. Some (f x)) o) ≡ Some t → IsBefore t.stage → ⊥
step_never s t None f n e b = none-some t e
step_never s t (Some x) f n e b = n x (subst (λ (u : Standing). IsBefore u.stage) (sym (same_Some (record s { stage = f x }) t e)) b)

one_never : (s t : Standing) (c : Bool) (g : Stage) → (IsBefore g → ⊥) → at_stage s (cond c (Some g) None) ≡ Some t → IsBefore t.stage → ⊥
one_never s t true g n e b = n (subst (λ (u : Standing). IsBefore u.stage) (sym (same_Some (record s { stage = g }) t e)) b)
one_never s t false g n e b = none-some t e

begun_never : (s t : Standing) (number : ℕ) (is_module : Bool) (g : Stage) → at_stage s (begun number is_module g) ≡ Some t → IsBefore t.stage → ⊥
begun_never s t number is_module (unparsed types) e b = one_never s t (eqb number 1 && is_module) _ (λ x. x) e b
begun_never s t number is_module (in_module types spaces more) e b = none-some t e
begun_never s t number is_module (in_code types spaces more) e b = none-some t e
begun_never s t number is_module (ended types) e b = none-some t e
begun_never s t number is_module failed e b = none-some t e

module _ (s t : Standing) (f : TypesSoFar × Spaces → Option (TypesSoFar × Spaces)) where
  within_never : (note : Noted → Noted) (g : Stage) → at_stage s (within note f g) ≡ Some t → IsBefore t.stage → ⊥
  within_never note (unparsed types) e b = none-some t e
  within_never note (in_module types spaces more) e b = step_never s t (f (types, spaces)) (λ p. in_module p.0 p.1 (note more)) (λ x y. y) e b
  within_never note (in_code types spaces more) e b = none-some t e
  within_never note (ended types) e b = none-some t e
  within_never note failed e b = none-some t e

  within_all_never : (g : Stage) → at_stage s (within_all f g) ≡ Some t → IsBefore t.stage → ⊥
  within_all_never (unparsed types) e b = none-some t e
  within_all_never (in_module types spaces more) e b = step_never s t (f (types, spaces)) (λ p. in_module p.0 p.1 more) (λ x y. y) e b
  within_all_never (in_code types spaces more) e b = step_never s t (f (types, spaces)) (λ p. in_code p.0 p.1 more) (λ x y. y) e b
  within_all_never (ended types) e b = none-some t e
  within_all_never failed e b = none-some t e

  section_never : (is_data : Bool) (note : Noted → Noted) (g : Stage) → at_stage s (cond is_data (within_all f g) (within note f g)) ≡ Some t → IsBefore t.stage → ⊥
  section_never true note g e b = within_all_never g e b
  section_never false note g e b = within_never note g e b

code_never : (s t : Standing) (g : Stage) → at_stage s (code_started g) ≡ Some t → IsBefore t.stage → ⊥
code_never s t (unparsed types) e b = none-some t e
code_never s t (in_module types spaces more) e b = one_never s t true _ (λ x. x) e b
code_never s t (in_code types spaces more) e b = none-some t e
code_never s t (ended types) e b = none-some t e
code_never s t failed e b = none-some t e

body_case : (s t : Standing) (none few : Bool) (g : Stage) → (IsBefore g → ⊥) → at_stage s (cond none None (cond few (Some g) None)) ≡ Some t → IsBefore t.stage → ⊥
body_case s t true few g n e b = none-some t e
body_case s t false few g n e b = one_never s t few g n e b

body_never : (s t : Standing) (bytes : List ℕ) (g : Stage) → at_stage s (body_taken bytes g) ≡ Some t → IsBefore t.stage → ⊥
body_never s t bytes (unparsed types) e b = none-some t e
body_never s t bytes (in_module types spaces more) e b = none-some t e
body_never s t bytes (in_code types spaces more) e b = body_case s t (eqb (bodies_left spaces more) 0) (leb (length bytes) MAX_FUNCTION_SIZE) (in_code types spaces (taking more)) (λ x. x) e b
body_never s t bytes (ended types) e b = none-some t e
body_never s t bytes failed e b = none-some t e

end_never : (s t : Standing) (g : Stage) → at_stage s (module_ended g) ≡ Some t → IsBefore t.stage → ⊥
end_never s t (unparsed types) e b = none-some t e
end_never s t (in_module types spaces more) e b = one_never s t true _ (λ x. x) e b
end_never s t (in_code types spaces more) e b = one_never s t true _ (λ x. x) e b
end_never s t (ended types) e b = none-some t e
end_never s t failed e b = none-some t e

piece_stays : (s t : Standing) (p : Piece) → after_piece s p ≡ Some t → IsBefore t.stage → t ≡ s
piece_stays s t (Version number kind) e b = absurd (begun_never s t number (eqb kind 0) s.stage e b)
piece_stays s t (Custom name bytes) e b = sym (same_Some s t e)
piece_stays s t (Counted id n bytes) e b =
    absurd (section_never s t (section_items s.features id n bytes) (eqb id 11) (naming (section_names id n bytes)) s.stage e b)
piece_stays s t (Start x) e b = absurd (within_never s t (beside (λ us u. start_item us u x)) noting_nothing s.stage e b)
piece_stays s t (DataCount n) e b = absurd (within_never s t (beside (λ us u. data_count_item (features_of s.features) u n)) (counting n) s.stage e b)
piece_stays s t (CodeStart n size) e b = absurd (code_never s t s.stage e b)
piece_stays s t (CodeEntry bytes) e b = absurd (body_never s t bytes s.stage e b)
piece_stays s t (Unknown id bytes) e b = absurd (none-some t e)
piece_stays s t parts.End e b = absurd (end_never s t s.stage e b)

then_some : {X Y : Type 0} (f : X → Option Y) (o : Option X) (y : Y) → option_and_then f o ≡ Some y → (x : X) × (o ≡ Some x) × (f x ≡ Some y)
then_some f None y e = absurd (none-some y e)
then_some f (Some x) y e = (x, refl, e)

all_stay : (ps : List Piece) (s t : Standing) → after_all s ps ≡ Some t → IsBefore t.stage → t ≡ s
all_stay [] s t e b = sym (same_Some s t e)
all_stay (p ∷ ps) s t e b =
    let a = then_some (λ (u : Standing). after_all u ps) (after_piece s p) t e in
    let same = all_stay ps a.0 t a.2 b in
    same ∙ piece_stays s a.0 p a.1 (subst (λ (u : Standing). IsBefore u.stage) same b)

-- what a refusal leaves there was there
refused_before : (g : Stage) → IsBefore (refused_at g) → refused_at g ≡ g
refused_before (unparsed types) b = refl
refused_before (in_module types spaces more) b = absurd b
refused_before (in_code types spaces more) b = absurd b
refused_before (ended types) b = absurd b
refused_before failed b = absurd b

read_before : (g : Stage) → IsBefore (read_refused_at g) → read_refused_at g ≡ g
read_before (unparsed types) b = refl
read_before (in_module types spaces more) b = absurd b
read_before (in_code types spaces more) b = absurd b
read_before (ended types) b = absurd b
read_before failed b = absurd b

section_before : (read : Bool) (g : Stage) → IsBefore (cond read (read_refused_at g) (refused_at g)) → cond read (read_refused_at g) (refused_at g) ≡ g
section_before true g b = read_before g b
section_before false g b = refused_before g b

code_before : (none : Bool) (g : Stage) → (IsBefore g → ⊥) → IsBefore (cond none g failed) → ⊥
code_before true g n b = n b
code_before false g n b = b

taken_before : (g : Stage) → IsBefore (body_refused_at g) → body_refused_at g ≡ g
taken_before (unparsed types) b = refl
taken_before (in_module types spaces more) b = absurd b
taken_before (in_code types spaces more) b = absurd (code_before (eqb (bodies_left spaces more) 0) (in_code types spaces more) (λ x. x) b)
taken_before (ended types) b = absurd b
taken_before failed b = absurd b

end_before : (g : Stage) → IsBefore (ended_at g) → ended_at g ≡ g
end_before (unparsed types) b = absurd b
end_before (in_module types spaces more) b = absurd b
end_before (in_code types spaces more) b = absurd b
end_before (ended types) b = absurd b
end_before failed b = absurd b

left_before : (s : Standing) (p : Piece) → IsBefore (left_by s p) → left_by s p ≡ s.stage
left_before s (Version number kind) b = refl
left_before s (Custom name bytes) b = refl
left_before s (Counted id n bytes) b = section_before (eqb id 11 || is_barred s.features id) s.stage b
left_before s (Start x) b = refused_before s.stage b
left_before s (DataCount n) b = refused_before s.stage b
left_before s (CodeStart n size) b = refused_before s.stage b
left_before s (CodeEntry bytes) b = taken_before s.stage b
left_before s (Unknown id bytes) b = refl
left_before s parts.End b = end_before s.stage b

module _ (bytes : List ℕ) (old new : Standing) (b : IsBefore new.stage) where
  reached_stays : (reached : Standing) (ps : List Piece) → after_all old ps ≡ Some reached → new ≡ reached → new ≡ old
  reached_stays reached ps run e = e ∙ all_stay ps old reached run (subst (λ (u : Standing). IsBefore u.stage) e b)

  refused_stays : (told : Option Refusal) → IsLeft told bytes old new → new ≡ old
  refused_stays told l =
      elim l.left [
        | inl a ↦ reached_stays l.reached l.taken.pieces l.taken.run a.2
        | inr a ↦ elim a [
          | inl h ↦
              let at : IsBefore (left_by l.reached h.next) = subst (λ (u : Standing). IsBefore u.stage) h.left b in
              let same : new ≡ l.reached = h.left ∙ ap (λ (g : Stage). record l.reached { stage = g }) (left_before l.reached h.next at) in
              reached_stays l.reached l.taken.pieces l.taken.run same
          | inr h ↦ reached_stays l.reached l.taken.pieces l.taken.run h.1
        ]
      ]

  memory_stays : IsOutOfMemory bytes old new → new ≡ old
  memory_stays l =
      elim l.left [
        | inl h ↦ absurd (subst (λ (u : Standing). IsBefore u.stage) h.left b)
        | inr h ↦ reached_stays l.reached l.taken.pieces l.taken.run h.1
      ]

  all_answers_stay : {A : Type 0} (r : Result (shown.Types A) (Error A)) → DecidesModule r bytes old new → StopsModule r bytes old new → new ≡ old
  all_answers_stay (Ok t) d h = absurd h
  all_answers_stay (Err (Refused r)) d h = refused_stays (Some r) d.1
  all_answers_stay (Err (DuplicateExport name offset)) d h = refused_stays None d.1
  all_answers_stay (Err (InFunction index r)) d h = absurd h
  all_answers_stay (Err OutOfMemory) d h = memory_stays d

ended_apart : (h : Stage) → IsBefore h → IsEnded h → ⊥
ended_apart (unparsed types) b e = absurd e
ended_apart (in_module types spaces more) b e = absurd b
ended_apart (in_code types spaces more) b e = absurd b
ended_apart (ended types) b e = absurd b
ended_apart failed b e = absurd b

-- at a module's end it isn't, unless it was before, and so where it may be reset no header has been read
before_at : (g h : Stage) → can_reset_at g ≡ true → (IsEnded g → IsEnded h) → IsBefore h → IsBefore g
before_at (unparsed types) h may n b = tt
before_at (in_module types spaces more) h may n b = absurd (true≢false (sym may))
before_at (in_code types spaces more) h may n b = absurd (true≢false (sym may))
before_at (ended types) h may n b = absurd (ended_apart h b (n tt))
before_at failed h may n b = absurd (true≢false (sym may))

not_ended : {A : Type 0} (r : Result (shown.Types A) (Error A)) (bytes : List ℕ) (old new : Standing) → StopsModule r bytes old new → HasNotEnded old new
not_ended (Ok t) bytes old new h = absurd h
not_ended (Err (Refused r)) bytes old new h = h.1
not_ended (Err (DuplicateExport name offset)) bytes old new h = h.1
not_ended (Err (InFunction index r)) bytes old new h = absurd h
not_ended (Err OutOfMemory) bytes old new h = h

pub stays : {A : Type 0} (r : Result (shown.Types A) (Error A)) (bytes : List ℕ) (old new : Standing) → DecidesModule r bytes old new → StopsModule r bytes old new
    → IsBefore old.stage → may_reset new ≡ true → new ≡ old
stays r bytes old new d h b may = all_answers_stay bytes old new (before_at new.stage old.stage may (not_ended r bytes old new h) b) r d h
