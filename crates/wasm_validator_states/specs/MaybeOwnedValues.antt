-- What a `MaybeOwned` is to its callers.
use Rattle.std.specs.Prelude.{Bool, true, false}

-- a value, and whether it is still written or only read
pub data Held (T : Type 0) : Type 0 where
  owned : T → Held T
  shared : T → Held T

-- whether it is still written
abbrev pub is_owned : {T : Type 0} → Held T → Bool
is_owned (owned x) = true
is_owned (shared x) = false

-- the value that it shows
abbrev pub value_of : {T : Type 0} → Held T → T
value_of (owned x) = x
value_of (shared x) = x
