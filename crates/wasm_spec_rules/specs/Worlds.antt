-- What identities of types mean where code is checked: what each declares, which is an ancestor of which, and which are the same.
-- Core Specification 3.0, Validation, Matching (Defined Types). A context gives all of it, with a test for the same identity.
use Rattle.std.specs.Prelude.{ℕ, zero, suc, Bool, ◌||◌, List, [], ◌∷◌, length, Option, Some, None, if◌then◌else◌}
use Rattle.wasm_readers_errors.specs.WasmSpec.MatchingTests.{World}
use Rattle.wasm_readers_errors.specs.WasmSpec.Syntax.{Sub}
use Rattle.wasm_readers_errors.specs.WasmSpec.SupertypeOrder.{supertype}
use Rattle.wasm_spec_rules.specs.Contexts.{Context}
use Rattle.wasm_spec_rules.specs.Attempts.{◌>>=◌, passes}

module _ {R : Type 0} (same : R → R → Bool) where
  -- what an identity declares in a list of those that declare something
  abbrev pub declared_in : List (R × Sub R) → R → Option (Sub R)
  declared_in [] a = None
  declared_in (d ∷ ds) a = if same d.0 a then Some d.1 else declared_in ds a

  -- whether b is a, or an ancestor of it at so many steps at the most
  abbrev pub is_below : List (R × Sub R) → ℕ → R → R → Bool
  is_below ds zero a b = same a b
  is_below ds (suc n) a b = same a b || passes (λ c. is_below ds n c b) (declared_in ds a >>= supertype)

  -- no chain of supertypes is longer than the list of types that declare something
  abbrev pub world_of : Context R → World R
  world_of C = record {
    declared = declared_in C.declares;
    below = is_below C.declares (length C.declares);
    same = same;
  }
