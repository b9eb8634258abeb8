-- A module that is refused so that the validator may be reset leaves a list that begins with the one before.
use Rattle.std.proofs.Common.{◌≡◌, refl, sym, ap, subst, ◌∙◌, inl, inr, ◌⊎◌, Bool, true, false, ◌||◌, cond, ◌==◌, List, [], ◌++◌, Option, Some, None, append_assoc, append-nil}
use Rattle.wasm_spec.specs.Framing as parts
use Rattle.wasm_spec.specs.Framing.{Piece, Version, Custom, Counted, Start, DataCount, CodeStart, CodeEntry, Unknown}
use Rattle.wasm_parser.specs.Machine.{State, next_of}
use Rattle.wasm_readers_errors.specs.declared.error.Refusal.{Refusal}
use Rattle.wasm_validator_types.specs.Spaces.{Spaces}
use Rattle.wasm_validator_sections.specs.WasmValidatorCore.Answers.{TypesSoFar}
use Rattle.wasm_validator_sections.specs.CodeProgress.{Started, bodies_left}
use Rattle.wasm_validator_states.specs.ValidatorStages.{Stage, unparsed, in_module, in_code, ended, failed, Standing, HoldsAt, can_reset_at, may_reset, reset_at, after_reset, refused_at, read_refused_at, body_refused_at, ended_at}
use Rattle.wasm_validator_states.specs.States.{is_barred, left_by}
use Rattle.wasm_validator_states.specs.Payloads.{after_all, HasRefused, IsToldOfFormat}
use Rattle.wasm_validator_states.specs.Sequences.{KeepsTypes, RefusedKeepTypes}
use Rattle.wasm_validator_states.proofs.ListGrowth.{all_only, all_back}

-- where a refusal leaves a validator that may be reset, its list was the same before
module _ (V : TypesSoFar → Type 0) where
  section_kept : (g : Stage) → can_reset_at (refused_at g) ≡ true → HoldsAt V (refused_at g) → HoldsAt V g
  section_kept (unparsed types) r h = h
  section_kept (in_module types spaces more) r h = absurd cc
  section_kept (in_code types spaces more) r h = absurd cc
  section_kept (ended types) r h = h
  section_kept failed r h = tt

  read_kept : (g : Stage) → can_reset_at (read_refused_at g) ≡ true → HoldsAt V (read_refused_at g) → HoldsAt V g
  read_kept (unparsed types) r h = h
  read_kept (in_module types spaces more) r h = absurd cc
  read_kept (in_code types spaces more) r h = absurd cc
  read_kept (ended types) r h = h
  read_kept failed r h = tt

  either_kept : (b : Bool) (g : Stage) → can_reset_at (cond b (read_refused_at g) (refused_at g)) ≡ true → HoldsAt V (cond b (read_refused_at g) (refused_at g)) → HoldsAt V g
  either_kept true g r h = read_kept g r h
  either_kept false g r h = section_kept g r h

  turn_kept : (b : Bool) (types : TypesSoFar) (spaces : Spaces) (more : Started) → can_reset_at (cond b (in_code types spaces more) failed) ≡ true → V types
  turn_kept true types spaces more r = absurd cc
  turn_kept false types spaces more r = absurd cc

  body_kept : (g : Stage) → can_reset_at (body_refused_at g) ≡ true → HoldsAt V (body_refused_at g) → HoldsAt V g
  body_kept (unparsed types) r h = h
  body_kept (in_module types spaces more) r h = absurd cc
  body_kept (in_code types spaces more) r h = turn_kept (bodies_left spaces more == 0) types spaces more r
  body_kept (ended types) r h = h
  body_kept failed r h = tt

  end_kept : (g : Stage) → can_reset_at (ended_at g) ≡ true → HoldsAt V (ended_at g) → HoldsAt V g
  end_kept (unparsed types) r h = h
  end_kept (in_module types spaces more) r h = absurd cc
  end_kept (in_code types spaces more) r h = absurd cc
  end_kept (ended types) r h = h
  end_kept failed r h = tt

  left_kept : (s : Standing) (p : Piece) → can_reset_at (left_by s p) ≡ true → HoldsAt V (left_by s p) → HoldsAt V s.stage
  left_kept s (Version number kind) r h = h
  left_kept s (Custom name bytes) r h = h
  left_kept s (Counted id n bytes) r h = either_kept ((id == 11) || is_barred s.features id) s.stage r h
  left_kept s (Start x) r h = section_kept s.stage r h
  left_kept s (DataCount n) r h = section_kept s.stage r h
  left_kept s (CodeStart n size) r h = section_kept s.stage r h
  left_kept s (CodeEntry bytes) r h = body_kept s.stage r h
  left_kept s (Unknown id bytes) r h = h
  left_kept s parts.End r h = end_kept s.stage r h

-- the fronts of a list
abbrev IsFrontOf : TypesSoFar → TypesSoFar → Type 0
IsFrontOf whole us = (more : TypesSoFar) × (us ++ more ≡ whole)

front_of_front : (whole us more : TypesSoFar) → IsFrontOf whole (us ++ more) → IsFrontOf whole us
front_of_front whole us more f = (more ++ f.0, sym (append_assoc us more f.0) ∙ f.1)

from_list : (old new reached : Standing) (before whole : TypesSoFar) (pieces : List Piece) → old.stage ≡ unparsed before → after_all old pieces ≡ Some reached → (h : Stage) → new ≡ record reached { stage = h } → reset_at h ≡ unparsed whole → can_reset_at h ≡ true
    → HoldsAt (IsFrontOf whole) reached.stage → KeepsTypes old new
from_list old new reached before whole pieces w run h is to can f =
    let only = all_only pieces old reached run in
    let front = subst (HoldsAt (IsFrontOf whole)) w (all_back (IsFrontOf whole) (front_of_front whole) pieces old reached run f) in
    record {
      before = before;
      began = w;
      may = ap (λ (s : Standing). can_reset_at s.stage) is ∙ can;
      more = front.0;
      after = ap after_reset is ∙ (λ i. record (sym only i) { stage = to i }) ∙ (λ i. record old { stage = unparsed (sym front.1 i) });
    }

-- at a stage that may be reset
list_kept : (old new reached : Standing) (before : TypesSoFar) (pieces : List Piece) → old.stage ≡ unparsed before → after_all old pieces ≡ Some reached → (h : Stage) → new ≡ record reached { stage = h } → can_reset_at h ≡ true
    → ((V : TypesSoFar → Type 0) → HoldsAt V h → HoldsAt V reached.stage) → KeepsTypes old new
list_kept old new reached before pieces w run (unparsed types) is may kept = from_list old new reached before types pieces w run (unparsed types) is refl refl (kept (IsFrontOf types) ([], append-nil types))
list_kept old new reached before pieces w run (in_module types spaces more) is may kept = absurd cc
list_kept old new reached before pieces w run (in_code types spaces more) is may kept = absurd cc
list_kept old new reached before pieces w run (ended types) is may kept = from_list old new reached before types pieces w run (ended types) is refl refl (kept (IsFrontOf types) ([], append-nil types))
list_kept old new reached before pieces w run failed is may kept = absurd cc

left_so : (told : Option Refusal) (old new reached : Standing) (before : TypesSoFar) (pieces : List Piece) (behind : State) → old.stage ≡ unparsed before → after_all old pieces ≡ Some reached → may_reset new ≡ true
    → ((next_of behind ≡ None) × IsToldOfFormat told × (new ≡ reached)) ⊎ (HasRefused behind reached new ⊎ ((next_of behind ≡ Some None) × (new ≡ reached))) → KeepsTypes old new
left_so told old new reached before pieces behind w run may (inl h) = list_kept old new reached before pieces w run reached.stage h.2 (ap (λ (s : Standing). can_reset_at s.stage) (sym h.2) ∙ may) (λ V k. k)
left_so told old new reached before pieces behind w run may (inr (inr h)) = list_kept old new reached before pieces w run reached.stage h.1 (ap (λ (s : Standing). can_reset_at s.stage) (sym h.1) ∙ may) (λ V k. k)
left_so told old new reached before pieces behind w run may (inr (inl h)) =
    list_kept old new reached before pieces w run (left_by reached h.next) h.left (ap (λ (s : Standing). can_reset_at s.stage) (sym h.left) ∙ may)
    (λ V k. left_kept V reached h.next (ap (λ (s : Standing). can_reset_at s.stage) (sym h.left) ∙ may) k)

pub refused_keep_types : RefusedKeepTypes
refused_keep_types told bytes old new before w l may = left_so told old new l.reached before (l.taken).pieces l.behind w (l.taken).run may l.left
