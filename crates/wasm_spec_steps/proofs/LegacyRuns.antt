-- The bodies of legacy exceptions, run, and what is refused without the feature.
use Rattle.std.proofs.Common.{◌≡◌, refl, ℕ, Bool, true, false, ◌&&◌, List, [], ◌∷◌, Option, Some, None}
use Rattle.wasm_spec_rules.specs.WasmSpec.MatchingTests.{World}
use Rattle.wasm_spec_rules.specs.Attempts.{◌>>=◌, guard}
use Rattle.wasm_operators.specs.Legacy.{Legacy, try_, catch_, delegate, rethrow, catch_all}
use Rattle.wasm_spec_steps.specs.Bodies.{Surroundings}
use Rattle.wasm_spec_steps.specs.Machine.{legacy_try_kind, legacy_catch_kind, legacy_catch_all_kind, State}
use Rattle.wasm_spec_steps.specs.Actions.{of_tag, params, has, legacy_exceptions, exceptions, is_exception, Action, need, take, stop, leave, enter, turn_to_catch, find_outside, find_caught}
use Rattle.wasm_spec_steps.specs.Shapes.{nothing, block_checks, legacy_shape}
use Rattle.wasm_spec_steps.specs.Meanings.{run}
use Rattle.wasm_spec_steps.specs.Steps.{checked, actions_of, is_open}
use Rattle.wasm_spec_steps.specs.Laws.{LegacyNeedsFeatures}
use Rattle.wasm_spec_steps.specs.LegacyExamples.{Tries, NoTries, TriesNeedFeatures}

pub tries : Tries
tries = refl

pub no_tries : NoTries
no_tries = refl

pub tries_need_features : TriesNeedFeatures
tries_need_features = refl

pub ruleset legacy_runs = (tries, no_tries, tries_need_features)

-- what is refused from each state is refused behind any attempt
behind : {A B : Type 0} (o : Option A) (g : A → Option B) → ((x : A) → g x ≡ None) → (o >>= g) ≡ None
behind None g h = refl
behind (Some x) g h = h x

-- two checks, one of which fails
blocked : {A : Type 0} (a b : Bool) (x : A) (g : A → Option A) → (a && b) ≡ false → (guard a x >>= λ y. guard b y >>= g) ≡ None
blocked true true x g e = cc
blocked true false x g e = refl
blocked false b x g e = refl

module _ {R : Type 0} (W : World R) (B : Surroundings R) (e : (B.features.legacy_exceptions && B.features.exceptions) ≡ false) where
  -- the checks stand before the other actions
  unmet : (more : List Action) (t : State R) → run W B (need (has legacy_exceptions) ∷ need (has exceptions) ∷ more) t ≡ None
  unmet more t = blocked B.features.legacy_exceptions B.features.exceptions t (run W B more) e

  pub none_taken : (op : Legacy ℕ) (t : State R) → run W B (actions_of (legacy_shape op)) t ≡ None
  none_taken (try_ b) t = unmet (checked (block_checks b) (take nothing ∷ enter legacy_try_kind b ∷ [])) t
  none_taken (catch_ x) t = unmet (need (is_exception x) ∷ turn_to_catch (params (of_tag x)) legacy_catch_kind ∷ []) t
  none_taken (rethrow l) t = unmet (find_caught l ∷ stop ∷ []) t
  none_taken (delegate l) t = unmet (find_outside l ∷ leave ∷ []) t
  none_taken catch_all t = unmet (turn_to_catch nothing legacy_catch_all_kind ∷ []) t

pub legacy_needs_features : {R : Type 0} → LegacyNeedsFeatures R
legacy_needs_features W B op s e = behind (guard (is_open s) s) (run W B (actions_of (legacy_shape op))) (none_taken W B e op)
