-- Lists of calls of one validator as runs of the state table. Core Specification 3.0, Binary Format, Modules, has the order of sections.
use Rattle.std.specs.Prelude.{ℕ, ◌≡◌, Bool, true, false, if◌then◌else◌, List, [], ◌∷◌, Option, Some, None, is_some, ⊤}
use Rattle.std.specs.declared.result.Result.{Result}
use Rattle.std.specs.declared.result.Result.TheVariants.{Ok, Err}
use Rattle.wasm_spec.specs.Framing.{Piece}
use Rattle.wasm_spec_rules.specs.StateTable as table
use Rattle.wasm_spec_rules.specs.StateTable.{Phase, Call, accepted_to, refused_to}
use Rattle.wasm_validator_modules.specs.WasmValidatorCore.declared.error.Error.{Error}
use Rattle.wasm_validator_modules.specs.WasmValidatorCore.declared.error.Error.TheVariants.{Refused, DuplicateExport, InFunction, OutOfMemory}
use Rattle.wasm_validator_modules.specs.WasmValidatorCore.Answers.{TypesSoFar}
use Rattle.wasm_validator_modules.specs.ValidatorStages.{unparsed, Standing, HoldsValid, may_reset, after_reset, Leaves}
use Rattle.wasm_validator_modules.specs.States.{after_piece, left_by}
use Rattle.wasm_validator_modules.specs.Table.{phase_of, call_of}
use Rattle.wasm_validator_modules.specs.Verdict.{DecidesModule}
use Rattle.wasm_validator_modules.specs.Sequences.{KeepsTypes}

-- a call of a payload, or `reset`
pub data OrReset (P : Type 0) : Type 0 where
  payload : P → OrReset P
  reset : OrReset P

-- The kinds of answers: accepted; refused for the content where it was the call's turn, or for the order where it wasn't; or memory was refused.
pub data Kind : Type 0 where
  accepted for_content for_order out_of_memory : Kind

-- `reset` makes ready for another module, where none is being read and none was refused
abbrev pub reset_to : Phase → Option Phase
reset_to table.unparsed = Some table.unparsed
reset_to table.ended = Some table.unparsed
reset_to _ = None

-- Whether it is a call's turn. A section whose proposal is missing, and one of an unknown id, are refused for that in every phase.
abbrev pub has_turn : Call → Phase → Bool
has_turn table.barred_section g = true
has_turn table.unknown g = true
has_turn c g = is_some (accepted_to c g)

-- a module is being read
abbrev pub is_reading : Phase → Bool
is_reading table.in_module = true
is_reading (table.in_code n) = true
is_reading _ = false

-- nothing in a custom section is refused
abbrev pub HasContent : Call → Type 0
HasContent table.custom = ⊥
HasContent _ = ⊤

-- one call with its answer, by the table
abbrev pub Leads : OrReset Call → Kind → Phase → Phase → Type 0
Leads reset accepted g h = reset_to g ≡ Some h
Leads reset _ g h = ⊥
Leads (payload c) accepted g h = accepted_to c g ≡ Some h
Leads (payload c) for_content g h = HasContent c × (has_turn c g ≡ true) × (h ≡ refused_to c g)
Leads (payload c) for_order g h = (has_turn c g ≡ false) × (h ≡ refused_to c g)
Leads (payload c) out_of_memory g h = (is_reading g ≡ true) × (refused_to c g ≡ table.failed) × (h ≡ table.failed)

-- calls one after another, each with its answer
abbrev pub IsRun : Phase → List (OrReset Call × Kind) → Phase → Type 0
IsRun g [] h = h ≡ g
IsRun g (c ∷ cs) h = (next : Phase) × Leads c.0 c.1 g next × IsRun next cs h

-- a validator's call as the table has it, and whether it is its turn
abbrev pub in_table : Standing → OrReset Piece → OrReset Call
in_table s (payload p) = payload (call_of s p)
in_table s reset = reset

abbrev pub has_turn_at : Standing → OrReset Piece → Bool
has_turn_at s (payload p) = has_turn (call_of s p) (phase_of s.stage)
has_turn_at s reset = true

module _ {T A : Type 0} where
  -- What is promised of a validator's call: of each payload, by `payload` and by the method of its section (`moves`), and of `reset`.
  abbrev pub Answers : OrReset Piece → Result T (Error A) → Standing → Standing → Type 0
  Answers (payload p) r old new = Leaves r (after_piece old p) (left_by old p) old new
  Answers reset (Ok x) old new = (may_reset old ≡ true) × (new ≡ after_reset old)
  Answers reset (Err e) old new = ⊥

  -- Of calls one after another; and that all types which the validator has are valid (`has_failed`).
  abbrev pub AnswersEach : List (OrReset Piece × Result T (Error A)) → Standing → Standing → Type 0
  AnswersEach [] old new = new ≡ old
  AnswersEach (c ∷ cs) old new = (next : Standing) × HoldsValid old × Answers c.0 c.1 old next × AnswersEach cs next new

  -- the kind of an answer, by whether it was the call's turn
  abbrev pub kind_of : Result T (Error A) → Bool → Kind
  kind_of (Ok x) turn = accepted
  kind_of (Err (Refused r)) turn = if turn then for_content else for_order
  kind_of (Err (DuplicateExport name offset)) turn = if turn then for_content else for_order
  kind_of (Err (InFunction index r)) turn = if turn then for_content else for_order
  kind_of (Err OutOfMemory) turn = out_of_memory

  -- the calls as the table has them, with the kinds of their answers
  abbrev pub kinds_of : (cs : List (OrReset Piece × Result T (Error A))) (old new : Standing) → AnswersEach cs old new → List (OrReset Call × Kind)
  kinds_of [] old new a = []
  kinds_of (c ∷ cs) old new a = (in_table old c.0, kind_of c.1 (has_turn_at old c.0)) ∷ kinds_of cs a.0 new a.3

-- Any calls of one validator are a run of the state table from the phase that the validator is in, `unparsed` where it is fresh.
abbrev pub CallsFollowStateTable : Type 0 → Type 0 → Type 0
CallsFollowStateTable T A =
    (cs : List (OrReset Piece × Result T (Error A))) (old new : Standing) (a : AnswersEach cs old new)
    → IsRun (phase_of old.stage) (kinds_of cs old new a) (phase_of new.stage)

-- A module that isn't accepted, also where memory was refused, leaves a list that begins with the types before it, where the validator may be reset.
abbrev pub UnacceptedModulesKeepTypes : Type 0 → Type 0
UnacceptedModulesKeepTypes A =
    (e : Error A) (bytes : List ℕ) (old new : Standing) (before : TypesSoFar) → old.stage ≡ unparsed before
    → DecidesModule {A = A} (Err e) bytes old new → may_reset new ≡ true → KeepsTypes old new
