-- What code is typed in beside the module and the locals: the part of a context that blocks and instructions change.
-- Core Specification 3.0, Validation, Conventions (Contexts: labels, return, and the locals that are set); and the legacy exception-handling
-- proposal (labels of handlers).
use Rattle.std.specs.Prelude.{◌≡◌, ℕ, Bool, true, false, ◌||◌, List, [], ◌∷◌, ◌++◌, length, Option, Some, slice_get}
use Rattle.std.specs.Option.{option_map}
use Rattle.wasm_spec_steps.specs.WasmSpecRules.WasmSpec.Syntax.{Val}
use Rattle.wasm_spec_steps.specs.WasmSpecRules.WasmSpec.MatchingTests.{World}
use Rattle.wasm_spec_steps.specs.WasmSpecRules.Attempts.{◌>>=◌, passes, among, last_of, front_of}
use Rattle.wasm_spec_steps.specs.Matching.{matches_vals, match_some}
use Rattle.wasm_spec_steps.specs.Bodies.{Surroundings}
use Rattle.wasm_spec_steps.specs.Machine.{State}
use Rattle.wasm_spec_steps.specs.Actions as actions
use Rattle.wasm_spec_steps.specs.Actions.{OperandTypes, label, returned, repeated, front, last, taken_by, given_by, joined, before, Check, local_is_set, each_matches, each_matches_some}
use Rattle.wasm_spec_steps.specs.Meanings.{copies, one, all_but, last_ones, continued_signature, types_at, holds}

-- the types at the labels, the innermost first; which of the labels are of handlers, where an exception is caught; the results of the
-- function; and the locals that were set
pub record Scope (R : Type 0) : Type 0 where
  pub labels : List (List (Val R))
  pub caught : List Bool
  pub returns : Option (List (Val R))
  pub sets : List ℕ

module _ {R : Type 0} where
  -- one more label, of a handler or not
  abbrev pub labelled : Bool → List (Val R) → Scope R → Scope R
  labelled b ls C = record { labels = ls ∷ C.labels; caught = b ∷ C.caught; returns = C.returns; sets = C.sets }

  -- in a block whose label has these types, and in a handler
  abbrev pub inside : List (Val R) → Scope R → Scope R
  inside ls C = labelled false ls C

  abbrev pub in_handler : List (Val R) → Scope R → Scope R
  in_handler ls C = labelled true ls C

  -- behind code that sets these locals
  abbrev pub behind : List ℕ → Scope R → Scope R
  behind xs C = record { labels = C.labels; caught = C.caught; returns = C.returns; sets = xs ++ C.sets }

module _ {R : Type 0} (W : World R) (B : Surroundings R) where
  abbrev pub nowhere : State R
  nowhere = record { operands = []; frames = []; inits = [] }

  -- A local is set from the start, or was set.
  abbrev pub is_set : ℕ → List ℕ → Bool
  is_set x sets = passes (λ l. l.set) (slice_get B.locals x) || among x sets

  -- What the table's words for types mean here: labels and results are those of the scope, and all else is in the module.
  abbrev pub types_in : List (List (Val R)) → Option (List (Val R)) → OperandTypes → Option (List (Val R))
  types_in labels returns (label n) = slice_get labels n
  types_in labels returns returned = returns
  types_in labels returns (repeated n t) = option_map (copies n) (types_in labels returns t)
  types_in labels returns (front t) = option_map front_of (types_in labels returns t)
  types_in labels returns (last t) = one (types_in labels returns t >>= last_of)
  types_in labels returns (taken_by t) = option_map (λ g. g.takes) (types_in labels returns t >>= continued_signature W B)
  types_in labels returns (given_by t) = option_map (λ g. g.gives) (types_in labels returns t >>= continued_signature W B)
  types_in labels returns (before t u) = do
    vs ← types_in labels returns t
    ws ← types_in labels returns u
    all_but (length ws) vs
  types_in labels returns (actions.behind t u) = do
    vs ← types_in labels returns t
    ws ← types_in labels returns u
    last_ones (length ws) vs
  types_in labels returns (joined t u) = do
    vs ← types_in labels returns t
    ws ← types_in labels returns u
    Some (vs ++ ws)
  types_in labels returns t = types_at W B nowhere t

  -- and its checks
  abbrev pub holds_in : List (List (Val R)) → Option (List (Val R)) → List ℕ → Check → Bool
  holds_in labels returns sets (local_is_set x) = is_set x sets
  holds_in labels returns sets (each_matches t u) = passes (λ vs. passes (matches_vals W vs) (types_in labels returns u)) (types_in labels returns t)
  holds_in labels returns sets (each_matches_some t u) = passes (λ vs. passes (λ ws. match_some W ws vs) (types_in labels returns u)) (types_in labels returns t)
  holds_in labels returns sets c = holds W B nowhere c

  abbrev pub AllHold : Scope R → List Check → Type 0
  AllHold C [] = Unit {0}
  AllHold C (c ∷ cs) = (holds_in C.labels C.returns C.sets c ≡ true) × AllHold C cs

  -- these locals are set behind code that sets those
  abbrev pub AreSet : List ℕ → List ℕ → Type 0
  AreSet sets [] = Unit {0}
  AreSet sets (x ∷ xs) = (is_set x sets ≡ true) × AreSet sets xs
