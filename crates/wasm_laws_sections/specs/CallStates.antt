-- Where calls by hand lead, in whatever order they come. Core Specification 3.0, Validation, Modules.
use Rattle.std.specs.Prelude.{ℕ, ◌≡◌, true, List, [], ◌∷◌, Some}
use Rattle.std.specs.declared.result.Result.{Result}
use Rattle.wasm_spec.specs.Framing.{Piece}
use Rattle.wasm_readers_errors.specs.WasmReadersFeatures.declared.features.WasmFeatures.{WasmFeatures}
use Rattle.wasm_validator_states.specs.WasmValidatorCore.declared.error.Error.{Error}
use Rattle.wasm_validator_states.specs.ValidatorStages.{Standing, failed, fresh, may_reset, after_reset, HoldsValid, Leaves}
use Rattle.wasm_validator_states.specs.States.{after_piece, left_by}

-- One call: a payload that is accepted or refused, a payload for which memory is refused, or a reset.
pub data Called : Type 0 where
  accepted refused : Piece → Called
  without_memory reset : Called

-- the state that it leads to: the types that are held after an accepted payload are valid
abbrev pub Leads : Called → Standing → Standing → Type 0
Leads (accepted p) s t = (after_piece s p ≡ Some t) × HoldsValid t
Leads (refused p) s t = t ≡ record s { stage = left_by s p }
Leads without_memory s t = t ≡ record s { stage = failed }
Leads reset s t = (may_reset s ≡ true) × (t ≡ after_reset s)

-- one call after another
abbrev pub LeadsAll : List Called → Standing → Standing → Type 0
LeadsAll [] s t = s ≡ t
LeadsAll (c ∷ cs) s t = (u : Standing) × Leads c s u × LeadsAll cs u t

-- Calls lead to this state from a new validator.
pub record IsReached (s : Standing) : Type 0 where
  pub id : ℕ
  pub features : WasmFeatures
  pub calls : List Called
  pub led : LeadsAll calls (fresh id features) s

-- A new validator's state is reached.
abbrev pub NewStatesAreReached : Type 0
NewStatesAreReached = (id : ℕ) (features : WasmFeatures) → IsReached (fresh id features)

-- So is the one that a call leaves of which a contract says this, and in which the types are valid.
abbrev pub CallsLeadOn : Type 0 → Type 0 → Type 0
CallsLeadOn T A =
    (answer : Result T (Error A)) (p : Piece) (old new : Standing) → IsReached old → Leaves answer (after_piece old p) (left_by old p) old new → HoldsValid new
    → IsReached new

-- So is the one after a reset.
abbrev pub ResetsLeadOn : Type 0
ResetsLeadOn = (s : Standing) → IsReached s → may_reset s ≡ true → IsReached (after_reset s)
