-- The operators of the legacy exception-handling proposal, as code takes them.
use Rattle.std.specs.Prelude.{ℕ, ◌&&◌, Bool, List, [], ◌∷◌, Option}
use Rattle.wasm_spec.specs.Features.{Features}
use Rattle.wasm_spec.specs.Syntax.{Val}
use Rattle.wasm_spec_rules.specs.Contexts.{Context}
use Rattle.wasm_readers_types.specs.WasmReadersValues.declared.indices.UnpackedIndex.{UnpackedIndex}
use Rattle.wasm_operators.specs.Legacy.{Legacy, try_, catch_, rethrow, delegate, catch_all}
use Rattle.wasm_typing_control.specs.WasmTypingChecks.WasmSpecSteps.Actions.{of_tag, params, is_exception}
use Rattle.wasm_typing_control.specs.WasmTypingChecks.WasmSpecSteps.Machine.{Kind, legacy_try_kind, legacy_catch_kind, legacy_catch_all_kind, State}
use Rattle.wasm_typing_control.specs.WasmTypingChecks.WasmSpecSteps.Shapes.{Shape, opening, catching, delegating, rethrowing, nothing, block_checks}
use Rattle.wasm_typing_control.specs.WasmTypingChecks.WasmSpecSteps.Meanings.{catch_in}
use Rattle.wasm_typing_control.specs.WasmTypingChecks.WasmValidatorResources.Answers.{world}
use Rattle.wasm_typing_control.specs.WasmTypingChecks.WasmTypingStacks.BodyStacks.{state_of, around}
use Rattle.wasm_typing_control.specs.WasmTypingChecks.WasmTypingStacks.declared.stacks.Stacks.{Stacks}

-- both features that they need
abbrev pub are_on : Features → Bool
are_on F = F.legacy_exceptions && F.exceptions

-- the shapes behind the checks of these features
abbrev pub enabled_shape : Legacy ℕ → Shape
enabled_shape (try_ b) = opening (block_checks b) nothing legacy_try_kind b
enabled_shape (catch_ x) = catching (is_exception x ∷ []) (params (of_tag x)) legacy_catch_kind
enabled_shape catch_all = catching [] nothing legacy_catch_all_kind
enabled_shape (delegate l) = delegating [] l
enabled_shape (rethrow l) = rethrowing [] l

-- a frame of this kind in the place of the innermost one, in which these operands stand
unfoldable pub caught : {A : Type 0} → Stacks A → Context UnpackedIndex → Kind → List (Val UnpackedIndex) → Option (State UnpackedIndex)
caught v C k vs = catch_in (world C) (around v C) k vs (state_of v).frames (state_of v)
