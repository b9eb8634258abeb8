-- Signed numbers that are passed: what stands behind them, and not what they are.
use Rattle.std.specs.Prelude.{◌≡◌, ◌<◌, ◌-◌, ℕ, Bool, true, false, List, Option, Some, None}
use Rattle.std.specs.Option.{option_map}
use Rattle.wasm_spec.specs.Values.{signed_at}

-- the bytes behind a signed number of so many bits, if one stands there
unfoldable pub behind_signed : ℕ → List ℕ → Option (List ℕ)
behind_signed bits bytes = option_map (λ n. n.1) (signed_at bits bytes)

-- a signed number that four bytes hold, whatever more bits it may have
unfoldable pub PassesShort : List ℕ → List ℕ → Type 0
PassesShort bytes more = (bits : ℕ) → 28 < bits → behind_signed bits bytes ≡ Some more

-- four bytes of a signed number, of which more come
unfoldable pub Precedes : List ℕ → List ℕ → Type 0
Precedes bytes more = (bits : ℕ) → 28 < bits → behind_signed bits bytes ≡ behind_signed (bits - 28) more

-- no signed number stands there, of however many bits
unfoldable pub HasNoNumber : List ℕ → Type 0
HasNoNumber bytes = (bits : ℕ) → behind_signed bits bytes ≡ None

-- up to four bytes of a signed number, whether it ends with them or not
abbrev pub Passed : Bool → List ℕ → List ℕ → Type 0
Passed true bytes more = PassesShort bytes more
Passed false bytes more = Precedes bytes more
