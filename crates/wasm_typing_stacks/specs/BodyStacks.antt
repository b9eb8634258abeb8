-- What contracts see of the stacks of a body.
use Rattle.std.specs.Prelude.{◌≡◌, ℕ, Bool, List, map, drop, false, ◌∷◌, ◌-◌, length}
use Rattle.wasm_operators_plain.specs.WasmSpec.Features.{Features}
use Rattle.wasm_spec_steps.specs.WasmSpecRules.Contexts.{Context}
use Rattle.wasm_spec_steps.specs.WasmSpecRules.FeatureFlags.{features_of}
use Rattle.wasm_operators_plain.specs.WasmReadersTypes.WasmReadersValues.declared.indices.UnpackedIndex.{UnpackedIndex}
use Rattle.wasm_spec_steps.specs.Control.{Block}
use Rattle.wasm_spec_steps.specs.Bodies.{Local, Surroundings}
use Rattle.wasm_spec_steps.specs.Machine.{Kind, State}
use Rattle.wasm_typing_stacks.specs.SeenOperands.{operand_of}
use Rattle.wasm_typing_stacks.specs.SeenBlocks.{frames_seen}
use Rattle.wasm_typing_stacks.specs.declared.stacks.Stacks.{Stacks}

abbrev pub state_of : {A : Type 0} → Stacks A → State UnpackedIndex
state_of v = record { operands = map operand_of v.operands; frames = frames_seen v.is_open v.frame v.outer; inits = v.locals.inits }

abbrev pub surroundings : Features → Bool → Context UnpackedIndex → List (Local UnpackedIndex) → Surroundings UnpackedIndex
surroundings F shared C locals = record { features = F; context = C; locals = locals; shared = shared }

-- what a body's code is checked in
abbrev pub around : {A : Type 0} → Stacks A → Context UnpackedIndex → Surroundings UnpackedIndex
around v C = surroundings (features_of v.features) v.is_shared C v.locals.content

-- the same features, sharedness and locals, so that what surrounds the code is the same
pub record Kept {A : Type 0} (v w : Stacks A) : Type 0 where
  pub features : w.features ≡ v.features
  pub shared : w.is_shared ≡ v.is_shared
  pub content : w.locals.content ≡ v.locals.content

-- the state without so many operands from the top
abbrev pub below : ℕ → State UnpackedIndex → State UnpackedIndex
below k s = record s { operands = drop k s.operands }

-- the state with a frame more, below so many operands
abbrev pub with_frame : Kind → Block UnpackedIndex → ℕ → State UnpackedIndex → State UnpackedIndex
with_frame k b taken s = record s { frames = record { kind = k; block = b; height = length s.operands - taken; unreachable = false; init_height = length s.inits } ∷ s.frames }
