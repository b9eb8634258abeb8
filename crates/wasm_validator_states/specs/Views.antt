-- What contracts see of what a validator is doing.
use Rattle.std.specs.Prelude.{Option, Some, None}
use Rattle.wasm_readers_errors.specs.declared.error.OutOfOrder.{OutOfOrder}
use Rattle.wasm_readers_errors.specs.declared.error.OutOfOrder.TheVariants.{SectionBeforeHeader, SectionAfterEnd, EndBeforeHeader, EndAfterEnd, SectionAfterFailure, SectionAfterCodeStart, CodeEntryBeforeCodeStart, CodeEntryWithoutFunction}
use Rattle.wasm_validator_types.specs.Spaces.{Spaces}
use Rattle.std.specs.declared.result.Result.{Result}
use Rattle.std.specs.declared.result.Result.TheVariants.{Ok, Err}
use Rattle.wasm_validator_sections.specs.WasmValidatorCore.declared.error.Error.{Error}
use Rattle.wasm_validator_states.specs.declared.state.State.{State}
use Rattle.wasm_validator_sections.specs.declared.module_state.ModuleState.{ModuleState}
use Rattle.wasm_validator_states.specs.declared.state.EndedSpaces.{EndedSpaces}
use Rattle.wasm_validator_states.specs.declared.state.EndedSpaces.TheVariants.{Owned, Shared}
use Rattle.wasm_validator_states.specs.declared.state.State.TheVariants.{Unparsed, Module, Code, End, Failed}
use Rattle.wasm_validator_sections.specs.WasmValidatorCore.Answers.{TypesSoFar}
use Rattle.wasm_validator_sections.specs.ModuleNotes.{noted_of}
use Rattle.wasm_validator_sections.specs.CodeProgress.{started_of}
use Rattle.wasm_validator_states.specs.ValidatorStages.{Stage, unparsed, in_module, in_code, ended, failed}

module _ {A : Type 0} where
  -- the module that is being read, before the start of its code
  abbrev pub open_of : State A → Option Spaces
  open_of (Module m) = Some m.«module»
  open_of (Code m) = None
  open_of Unparsed = None
  open_of End = None
  open_of Failed = None

  -- the module that is being read
  abbrev pub read_of : State A → Option Spaces
  read_of (Module m) = Some m.«module»
  read_of (Code c) = Some c.spaces.value
  read_of Unparsed = None
  read_of End = None
  read_of Failed = None

  -- what is told of the order where a section, or the end, may not come
  abbrev pub order_at : State A → OutOfOrder
  order_at Unparsed = SectionBeforeHeader
  order_at (Module m) = SectionAfterFailure
  order_at (Code m) = SectionAfterCodeStart
  order_at End = SectionAfterEnd
  order_at Failed = SectionAfterFailure

  abbrev pub end_order_at : State A → OutOfOrder
  end_order_at Unparsed = EndBeforeHeader
  end_order_at (Module m) = SectionAfterFailure
  end_order_at (Code m) = SectionAfterFailure
  end_order_at End = EndAfterEnd
  end_order_at Failed = SectionAfterFailure

  abbrev pub body_order_at : State A → OutOfOrder
  body_order_at Unparsed = SectionBeforeHeader
  body_order_at (Module m) = CodeEntryBeforeCodeStart
  body_order_at (Code c) = CodeEntryWithoutFunction
  body_order_at End = SectionAfterEnd
  body_order_at Failed = SectionAfterFailure

  -- the lists of a module that ends
  abbrev pub ended_spaces : EndedSpaces A → Spaces
  ended_spaces (Owned m) = m
  ended_spaces (Shared spaces) = spaces.value

  abbrev pub stage_of : TypesSoFar → State A → Stage
  stage_of types Unparsed = unparsed types
  stage_of types (Module m) = in_module types m.«module» (noted_of m)
  stage_of types (Code c) = in_code types c.spaces.value (started_of c)
  stage_of types End = ended types
  stage_of types Failed = failed

  -- what a section leaves: the module with what was added, or a failed validator
  abbrev pub state_kept : {T : Type 0} → Result T (Error A) → ModuleState A → State A
  state_kept (Ok x) m = Module m
  state_kept (Err e) m = Failed
