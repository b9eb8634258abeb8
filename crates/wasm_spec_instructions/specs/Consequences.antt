-- What follows of typings: what they say beyond single rules, and what they don't.
-- Core Specification 3.0, Validation, Instructions (Instruction Sequences), and Appendix, Validation Algorithm and Type Soundness (Principal Types).
use Rattle.std.specs.Prelude.{◌≡◌, ℕ, true, List, [], ◌∷◌, ◌++◌, Some, length, slice_get}
use Rattle.wasm_spec_steps.specs.WasmSpecRules.WasmSpec.Syntax.{Val}
use Rattle.wasm_spec_steps.specs.WasmSpecRules.WasmSpec.MatchingTests.{World}
use Rattle.wasm_spec_steps.specs.Bodies.{Surroundings}
use Rattle.wasm_spec_instructions.specs.Code.{Code, and_then, IsProper}
use Rattle.wasm_spec_instructions.specs.ValueTypes.{ValueType, vals, Match, IsInOrder, AreUnshared}
use Rattle.wasm_spec_instructions.specs.Scopes.{Scope, behind, is_set}
use Rattle.wasm_spec_instructions.specs.Sequences.{Typed}
use Rattle.wasm_spec_instructions.specs.Laws.{HasNoSharing}

module _ {R : Type 0} (W : World R) (B : Surroundings R) where
  -- The second scope has what the first one has, at the same places, and maybe more: labels outside, of handlers or not, results, and locals that are set.
  pub record Extends (C D : Scope R) : Type 0 where
    pub labels : (n : ℕ) (ls : List (Val R)) → slice_get C.labels n ≡ Some ls → slice_get D.labels n ≡ Some ls
    pub caught : (n : ℕ) → slice_get C.caught n ≡ Some true → slice_get D.caught n ≡ Some true
    pub returns : (rs : List (Val R)) → C.returns ≡ Some rs → D.returns ≡ Some rs
    pub sets : (x : ℕ) → is_set W B x C.sets ≡ true → is_set W B x D.sets ≡ true

-- Weakening: what is typed in a scope is typed, in the same way, in each that has more.
abbrev pub ScopesMayGrow : (R : Type 0) → Type 0
ScopesMayGrow R =
    (W : World R) (B : Surroundings R) (C D : Scope R) (c : Code) (ts us : List (ValueType R)) (xs : List ℕ) → Extends W B C D → Typed W B C c ts xs us → Typed W B D c ts xs us

-- The rule of sequences, for any code in place of the first instruction.
abbrev pub SequencesCompose : (R : Type 0) → Type 0
SequencesCompose R =
    (W : World R) (B : Surroundings R) (C : Scope R) (c d : Code) (ts us vs : List (ValueType R)) (xs ys : List ℕ) → IsInOrder W → Typed W B C c ts xs us
    → Typed W B (behind xs C) d us ys vs → Typed W B C (and_then c d) ts (ys ++ xs) vs

-- No instruction that opens, turns or closes a block has a rule by itself.
abbrev pub TypedCodeIsProper : (R : Type 0) → Type 0
TypedCodeIsProper R =
    (W : World R) (B : Surroundings R) (C : Scope R) (c : Code) (ts us : List (ValueType R)) (xs : List ℕ) → Typed W B C c ts xs us → IsProper c

module _ {R : Type 0} (W : World R) where
  abbrev pub HaveNoSharing : List (List (Val R)) → Type 0
  HaveNoSharing [] = Unit {0}
  HaveNoSharing (ls ∷ labels) = AreUnshared W ls × HaveNoSharing labels

-- Some types that code gives from these match all others, as many, that it gives from them.
pub record HasLeastResults {R : Type 0} (W : World R) (B : Surroundings R) (C : Scope R) (c : Code) (ts : List (Val R)) (n : ℕ) : Type 0 where
  pub results : List (ValueType R)
  pub given : Typed W B C c (vals ts) [] results
  pub least : (us : List (Val R)) (xs : List ℕ) → length us ≡ n → AreUnshared W us → Typed W B C c (vals ts) xs (vals us) → Match W results (vals us)

-- Principal results: where nothing is shared, the types that code gives from some are determined up to subsumption. Only as many: `unreachable`
-- gives no types, and it gives one i32, and no types match both. And not with shared types: `unreachable any.convert_extern` gives a shared
-- reference, and it gives one that isn't, and none is below both.
abbrev pub ResultsArePrincipal : (R : Type 0) → Type 0
ResultsArePrincipal R =
    (W : World R) (B : Surroundings R) (C : Scope R) (c : Code) (ts us : List (Val R)) (xs : List ℕ) → IsInOrder W → HasNoSharing W B.features → HaveNoSharing W C.labels
    → AreUnshared W us → Typed W B C c (vals ts) xs (vals us) → HasLeastResults W B C c ts (length us)
