-- What the fields of a `MaybeOwned` stand for.
use Rattle.wasm_validator_states.specs.declared.maybe_owned.Inner.{Inner}
use Rattle.wasm_validator_states.specs.declared.maybe_owned.Inner.TheVariants.{Owned, Shared}
use Rattle.wasm_validator_states.specs.MaybeOwnedValues.{Held, owned, shared}

abbrev pub seen : {T A : Type 0} → Inner T A → Held T
seen (Owned x) = owned x
seen (Shared owner) = shared owner.value
