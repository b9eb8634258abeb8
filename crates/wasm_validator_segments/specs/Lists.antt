-- Lists of items that are checked as they are read.
-- Core Specification 3.0, Binary Format, Conventions (Lists).
use Rattle.std.specs.Prelude.{ℕ, zero, suc, nat_le, if◌then◌else◌, List, Option, Some, None}
use Rattle.std.specs.Option.{option_and_then}
use Rattle.wasm_spec.specs.Values.{u32_at}
use Rattle.wasm_spec_rules.specs.Limits.{most_items}

module _ (behind : List ℕ → Option (List ℕ)) where
  -- the bytes behind so many items
  abbrev pub behind_many : ℕ → List ℕ → Option (List ℕ)
  behind_many zero bytes = Some bytes
  behind_many (suc n) bytes = option_and_then (behind_many n) (behind bytes)

  -- behind a count and that many items, which keep to the limit
  abbrev pub behind_list : List ℕ → Option (List ℕ)
  behind_list bytes = option_and_then (λ n. if nat_le n.0 most_items then behind_many n.0 n.1 else None) (u32_at bytes)
