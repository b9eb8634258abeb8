-- The context that a list of types gives: what its ids declare, where each id is an identity. Core Specification 3.0, Validation,
-- Conventions (Contexts), and Matching (Defined Types).
use Rattle.std.specs.Prelude.{ℕ, suc, ◌≡◌, Bool, false, ◌==◌, List, [], ◌∷◌, None}
use Rattle.std.specs.Bool.{Decides}
use Rattle.wasm_spec.specs.Syntax.{Val, map_val, Sub, map_sub}
use Rattle.wasm_spec.specs.MatchingTests.{IsWorld, matches_val}
use Rattle.wasm_validator_resources.specs.WasmSpecRules.Contexts.{Context}
use Rattle.wasm_readers_types.specs.declared.types.SubType.{SubType}
use Rattle.wasm_validator_type_list.specs.GroupOrder.{AreListable}
use Rattle.wasm_validator_type_list.specs.DeclarationsById.{subs_by_ids}
use Rattle.wasm_validator_type_list.specs.Worlds.{ids_world}
use Rattle.wasm_validator_resources.specs.WasmSpecRules.Worlds.{world_of}
use Rattle.wasm_spec_steps.specs.Renaming.{Renames}

module _ {R : Type 0} (f : ℕ → R) where
  -- these sub types under the ids from this number on
  abbrev pub under_ids : ℕ → List (Sub ℕ) → List (R × Sub R)
  under_ids n [] = []
  under_ids n (d ∷ ds) = (f n, map_sub f d) ∷ under_ids (suc n) ds

  -- what all ids of a list declare
  abbrev pub list_declares : {A : Type 0} → List (List (SubType A)) → List (R × Sub R)
  list_declares gs = under_ids 0 (subs_by_ids 0 gs)

  -- an identity that is no id
  abbrev pub IsNoId : (R → R → Bool) → R → Type 0
  IsNoId same a = (n : ℕ) → same (f n) a ≡ false

-- What a context says of ids is what the list says of them: what they declare, their order, which are the same, and so which value types
-- match. Identities that are no ids declare nothing, and are below themselves alone.
pub record IsSeen {A R : Type 0} (same : R → R → Bool) (f : ℕ → R) (gs : List (List (SubType A))) (C : Context R) : Type 0 where
  pub renames : Renames f (ids_world gs) (world_of same C)
  pub matches : (v w : Val ℕ) → matches_val (world_of same C) (map_val f v) (map_val f w) ≡ matches_val (ids_world gs) v w
  pub nothing_declared : (a : R) → IsNoId f same a → (world_of same C).declared a ≡ None
  pub nothing_below : (a b : R) → IsNoId f same a → (world_of same C).below a b ≡ same a b

-- So it is in each context that declares what a list does, where two ids are the same identity only if they are one.
abbrev pub ListsAreSeen : (A R : Type 0) → Type 0
ListsAreSeen A R =
    (same : R → R → Bool) (f : ℕ → R) → ((m n : ℕ) → same (f m) (f n) ≡ (m == n)) → (gs : List (List (SubType A))) → AreListable gs
    → (C : Context R) → C.declares ≡ list_declares f gs → IsSeen same f gs C

-- And the tests of such a context are right, where the test for the same identity is.
abbrev pub ListContextsAreWorlds : (A R : Type 0) → Type 0
ListContextsAreWorlds A R =
    (same : R → R → Bool) → ((a b : R) → Decides (same a b) (a ≡ b)) → (f : ℕ → R) → ((m n : ℕ) → same (f m) (f n) ≡ (m == n))
    → (gs : List (List (SubType A))) → AreListable gs → (C : Context R) → C.declares ≡ list_declares f gs → IsWorld (world_of same C)
