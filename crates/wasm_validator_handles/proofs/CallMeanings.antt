-- From calls on one handle to what they say of all modules.
use Rattle.std.proofs.Common.{◌≡◌, refl, sym, ap, subst, ◌∙◌, ◌⊎◌, inl, inr, ℕ, Bool, true, false, true≢false, List, [], ◌∷◌, Option, Some, None}
use Rattle.std.specs.declared.result.Result.TheVariants.{Ok, Err}
use Rattle.wasm_validator.specs.ValidatorStages.{Stage, unparsed, in_module, in_code, ended, failed, Standing, can_reset_at, may_reset, reset_at, after_reset}
use Rattle.wasm_validator.specs.Verdict.{DecidesModule, EndsModule, StopsModule}
use Rattle.wasm_validator.specs.Lists.{DecidesEach}
use Rattle.wasm_validator.proofs.Headline.{headline}
use Rattle.wasm_validator_handles.specs.declared.kept.Kept.{Kept}
use Rattle.wasm_validator_handles.specs.declared.kept.Kept.TheVariants.{Validator, Types}
use Rattle.wasm_validator_handles.specs.declared.kept.NotAsked.TheVariants.{NoValidator, HasFailed}
use Rattle.wasm_validator_handles.specs.Calls.{ModuleAnswer, IsNoAcceptance, Call, validate, reset, CallAnswers, CallsAnswer, CallAnswersNext, CallsAnswerNext, AreGiven, CallsSayOfAll}
use Rattle.wasm_validator.proofs.UnmovedValidators.{IsBefore, stays}

-- ---- where a validator stands behind a reset
before_reset : (g : Stage) → can_reset_at g ≡ true → IsBefore (reset_at g)
before_reset (unparsed types) m = tt
before_reset (in_module types spaces more) m = absurd (true≢false (sym m))
before_reset (in_code types spaces more) m = absurd (true≢false (sym m))
before_reset (ended types) m = tt
before_reset failed m = absurd (true≢false (sym m))

ready_again : (g : Stage) → can_reset_at g ≡ true → can_reset_at (reset_at g) ≡ true
ready_again (unparsed types) m = refl
ready_again (in_module types spaces more) m = absurd (true≢false (sym m))
ready_again (in_code types spaces more) m = absurd (true≢false (sym m))
ready_again (ended types) m = refl
ready_again failed m = absurd (true≢false (sym m))

reset_twice : (g : Stage) → reset_at (reset_at g) ≡ reset_at g
reset_twice (unparsed types) = refl
reset_twice (in_module types spaces more) = refl
reset_twice (in_code types spaces more) = refl
reset_twice (ended types) = refl
reset_twice failed = refl

twice : (s : Standing) → after_reset (after_reset s) ≡ after_reset s
twice s = ap (λ (g : Stage). record s { stage = g }) (reset_twice s.stage)

cannot : (s : Standing) {X : Type 0} → may_reset s ≡ true → may_reset s ≡ false → X
cannot s m n = absurd (true≢false (sym m ∙ n))

abbrev Answers : Type 0
Answers = List ModuleAnswer

-- a list that is decided from a validator is decided from each that a reset brings to the same place
record IsDecided (answers : Answers) (modules : List (List ℕ)) (old : Standing) : Type 0 where
  left : Standing
  each : DecidesEach answers modules old left

abbrev DecidedBehind : ModuleAnswer → Answers → List ℕ → List (List ℕ) → Standing → Standing → Type 0
DecidedBehind r rs m ms s new = (left : Standing) × DecidesModule r m s left × ((EndsModule m s left × DecidesEach rs ms left new) ⊎ (StopsModule r m s left × (rs ≡ []) × (new ≡ left)))

moved : (answers : Answers) (modules : List (List ℕ)) (u v : Standing) → after_reset u ≡ after_reset v → IsDecided answers modules u → IsDecided answers modules v
moved [] [] u v e d = record { left = v; each = refl }
moved [] (m ∷ ms) u v e d = absurd d.each
moved (r ∷ rs) [] u v e d = absurd d.each
moved (r ∷ rs) (m ∷ ms) u v e d = record { left = d.left; each = subst (λ (s : Standing). DecidedBehind r rs m ms s d.left) e d.each }

-- ---- behind a failure
record AreUnanswered (cs : List Call) (old new : Standing) (a : CallsAnswerNext cs old new) : Type 0 where
  modules : List (List ℕ)
  given : AreGiven cs old new a modules []

failed_rest : (cs : List Call) (old new : Standing) (a : CallsAnswerNext cs old new) → may_reset old ≡ false → AreUnanswered cs old new a
failed_rest [] old new a f = record { modules = []; given = (refl, refl) }
failed_rest (validate bytes (Ok answer) ∷ cs) old new a f = cannot old a.1.0 f
failed_rest (validate bytes (Err NoValidator) ∷ cs) old new a f = absurd a.1
failed_rest (validate bytes (Err HasFailed) ∷ cs) old new a f =
    let more = failed_rest cs a.0 new a.2 (ap may_reset a.1.1 ∙ f) in
    record { modules = bytes ∷ more.modules; given = record { behind = more.modules; modules_are = refl; none = refl; rest = more.given } }
failed_rest (reset (Ok x) ∷ cs) old new a f = cannot old a.1.0 f
failed_rest (reset (Err NoValidator) ∷ cs) old new a f = absurd a.1
failed_rest (reset (Err HasFailed) ∷ cs) old new a f =
    let more = failed_rest cs a.0 new a.2 (ap may_reset a.1.1 ∙ f) in
    record { modules = more.modules; given = more.given }

-- ---- all calls
record AreDecided (cs : List Call) (old new : Standing) (a : CallsAnswerNext cs old new) : Type 0 where
  modules : List (List ℕ)
  answers : Answers
  given : AreGiven cs old new a modules answers
  decided : IsDecided answers modules old

stopped : (r : ModuleAnswer) (bytes : List ℕ) (old new : Standing) → StopsModule r bytes old new → IsNoAcceptance r
stopped (Ok t) bytes old new h = h
stopped (Err e) bytes old new h = tt

truth : (b : Bool) → (b ≡ true) ⊎ (b ≡ false)
truth true = inl refl
truth false = inr refl

all_decided : (cs : List Call) (old new : Standing) (a : CallsAnswerNext cs old new) → may_reset old ≡ true → AreDecided cs old new a
all_decided [] old new a may = record { modules = []; answers = []; given = (refl, refl); decided = record { left = old; each = refl } }
all_decided (validate bytes (Ok r) ∷ cs) old new a may =
    elim a.1.2 [
      | inl ends ↦
          let more = all_decided cs a.0 new a.2 (ap may_reset ends.after) in
          record {
            modules = bytes ∷ more.modules;
            answers = r ∷ more.answers;
            given = inl (record { behind = more.modules; answers_behind = more.answers; modules_are = refl; answers_are = refl; rest = more.given });
            decided = record { left = more.decided.left; each = (a.0, a.1.1, inl (ends, more.decided.each)) };
          }
      | inr stops ↦ elim (truth (may_reset a.0)) [
        | inl goes ↦
            let same = stays r bytes (after_reset old) a.0 a.1.1 stops (before_reset old.stage may) goes in
            let more = all_decided cs a.0 new a.2 goes in
            record {
              modules = more.modules;
              answers = more.answers;
              given = inr (record {
                refused = stopped r bytes (after_reset old) a.0 stops;
                alone = headline (r ∷ []) (bytes ∷ []) old a.0 (a.0, a.1.1, inr (stops, refl, refl)) may;
                stands = same;
                rest = more.given;
              });
              decided = moved more.answers more.modules a.0 old (ap after_reset same ∙ twice old) more.decided;
            }
        | inr fails ↦
            let more = failed_rest cs a.0 new a.2 fails in
            record {
              modules = bytes ∷ more.modules;
              answers = r ∷ [];
              given = inl (record { behind = more.modules; answers_behind = []; modules_are = refl; answers_are = refl; rest = more.given });
              decided = record { left = a.0; each = (a.0, a.1.1, inr (stops, refl, refl)) };
            }
      ]
    ]
all_decided (validate bytes (Err NoValidator) ∷ cs) old new a may = absurd a.1
all_decided (validate bytes (Err HasFailed) ∷ cs) old new a may = cannot old may a.1.0
all_decided (reset (Ok x) ∷ cs) old new a may =
    let more = all_decided cs a.0 new a.2 (ap may_reset a.1.1 ∙ ready_again old.stage may) in
    record { modules = more.modules; answers = more.answers; given = more.given; decided = moved more.answers more.modules a.0 old (ap after_reset a.1.1 ∙ twice old) more.decided }
all_decided (reset (Err NoValidator) ∷ cs) old new a may = absurd a.1
all_decided (reset (Err HasFailed) ∷ cs) old new a may = cannot old may a.1.0

-- ---- of what stands behind a handle
step : (c : Call) (old : Standing) (next : Option Kept) → CallAnswers c (Some (Validator old)) next → (w : Standing) × (next ≡ Some (Validator w)) × CallAnswersNext c old w
step (validate bytes r) old (Some (Validator w)) h = (w, refl, h)
step (validate bytes r) old (Some (Types t)) h = absurd h
step (validate bytes r) old None h = absurd h
step (reset r) old (Some (Validator w)) h = (w, refl, h)
step (reset r) old (Some (Types t)) h = absurd h
step (reset r) old None h = absurd h

calls : (cs : List Call) (old : Standing) (new : Option Kept) → CallsAnswer cs (Some (Validator old)) new → (left : Standing) × (new ≡ Some (Validator left)) × CallsAnswerNext cs old left
calls [] old new a = (old, a, refl)
calls (c ∷ cs) old new a =
    let s = step c old a.0 a.1 in
    let more = calls cs s.0 new (subst (λ (k : Option Kept). CallsAnswer cs k new) s.1 a.2) in
    (more.0, more.1, (s.0, s.2, more.2))

pub calls_say_of_all : CallsSayOfAll
calls_say_of_all cs old new a may =
    let n = calls cs old new a in
    let d = all_decided cs old n.0 n.2 may in
    (n.0, n.1, (n.2, record { modules = d.modules; answers = d.answers; given = d.given; headline = headline d.answers d.modules old d.decided.left d.decided.each may }))
