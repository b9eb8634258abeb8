-- Frames that are entered, which take nothing.
use Rattle.std.proofs.Common.{◌≡◌, Bool, true, false, List, [], ◌∷◌, length, refl, sym, ◌∙◌, ap}
use Rattle.std.specs.Prelude.{Option, None, Some}
use Rattle.std.proofs.lemmas.List.{length-drop}
use Rattle.wasm_spec.specs.Syntax.{i32}
use Rattle.wasm_typing_control.specs.WasmTypingChecks.WasmSpecRules.Contexts.{Context}
use Rattle.wasm_typing_control.specs.WasmTypingChecks.WasmSpecRules.FeatureFlags.{features_of}
use Rattle.wasm_readers_types.specs.WasmReadersValues.declared.indices.UnpackedIndex.{UnpackedIndex}
use Rattle.wasm_operators_plain.specs.declared.signatures.NumberType.{NumberType}
use Rattle.wasm_operators_plain.specs.declared.signatures.NumberType.TheVariants as number
use Rattle.wasm_operators.specs.Control.{Block}
use Rattle.wasm_typing_control.specs.WasmTypingChecks.WasmSpecRules.Attempts.{◌>>=◌, guard}
use Rattle.wasm_typing_control.specs.WasmTypingChecks.WasmSpecSteps.Actions.{Action, take, enter}
use Rattle.wasm_typing_control.specs.WasmTypingChecks.WasmSpecSteps.Machine.{Kind, State, pop_val, push_frame}
use Rattle.wasm_typing_control.specs.WasmTypingChecks.WasmSpecSteps.Meanings.{run}
use Rattle.wasm_typing_control.specs.WasmTypingChecks.WasmSpecSteps.Shapes.{block_checks, nothing, one}
use Rattle.wasm_typing_control.specs.WasmTypingChecks.WasmSpecSteps.Steps.{checked}
use Rattle.wasm_typing_control.specs.WasmTypingChecks.WasmValidatorResources.Answers.{world}
use Rattle.wasm_typing_control.specs.WasmTypingChecks.WasmTypingStacks.BodyStacks.{state_of, around, below, with_frame}
use Rattle.wasm_typing_control.specs.WasmTypingChecks.WasmTypingStacks.declared.stacks.Stacks.{Stacks}
use Rattle.wasm_typing_control.specs.WasmTypingChecks.Steps.{acted}
use Rattle.wasm_typing_fast.specs.Blocks.{block_giving, block_named, allows_giving}

module _ {A : Type 0} (v : Stacks A) (C : Context UnpackedIndex) where
  passed : (b : Bool) (rest : List Action) (s : State UnpackedIndex) → b ≡ true → (guard b s >>= run (world C) (around v C) rest) ≡ run (world C) (around v C) rest s
  passed true rest s e = refl
  passed false rest s e = cc

  -- the checks of the block type hold
  checks_hold : (g : Option NumberType) (rest : List Action) (s : State UnpackedIndex) → allows_giving (features_of v.features) g ≡ true
      → run (world C) (around v C) (checked (block_checks (block_giving g)) rest) s ≡ run (world C) (around v C) rest s
  checks_hold None rest s e = refl
  checks_hold (Some number.I32) rest s e = refl
  checks_hold (Some number.I64) rest s e = refl
  checks_hold (Some number.F32) rest s e = passed (features_of v.features).floats rest s e
  checks_hold (Some number.F64) rest s e = passed (features_of v.features).floats rest s e

  -- and then the frame is entered
  entering : (g : Option NumberType) (k : Kind) (s : State UnpackedIndex) → run (world C) (around v C) (enter k (block_giving g) ∷ []) s ≡ Some (push_frame k (block_named g) [] s)
  entering None k s = refl
  entering (Some number.I32) k s = refl
  entering (Some number.I64) k s = refl
  entering (Some number.F32) k s = refl
  entering (Some number.F64) k s = refl

  pub enters_plainly : (g : Option NumberType) (k : Kind) (c : Block UnpackedIndex) (new : State UnpackedIndex) → c ≡ block_named g → allows_giving (features_of v.features) g ≡ true → new ≡ push_frame k c [] (state_of v)
      → acted v C (checked (block_checks (block_giving g)) (take nothing ∷ enter k (block_giving g) ∷ [])) ≡ Some new
  unfolding acted
  enters_plainly g k c new b e n =
      checks_hold g (take nothing ∷ enter k (block_giving g) ∷ []) (state_of v) e ∙ entering g k (state_of v) ∙ ap (λ d. Some (push_frame k d [] (state_of v))) (sym b) ∙ ap Some (sym n)

  -- below the condition
  under : (k : Kind) (c : Block UnpackedIndex) (s : State UnpackedIndex) → push_frame k c [] (below 1 s) ≡ below 1 (with_frame k c 1 s)
  under k c s = ap (λ n. record (below 1 s) { frames = record { kind = k; block = c; height = n; unreachable = false; init_height = length s.inits } ∷ s.frames }) (length-drop 1 s.operands)

  pub enters_conditioned : (g : Option NumberType) (k : Kind) (c : Block UnpackedIndex) (new : State UnpackedIndex) → c ≡ block_named g → allows_giving (features_of v.features) g ≡ true
      → pop_val (world C) i32 (state_of v) ≡ Some (below 1 (state_of v)) → new ≡ below 1 (with_frame k c 1 (state_of v))
      → acted v C (checked (block_checks (block_giving g)) (take (one i32) ∷ enter k (block_giving g) ∷ [])) ≡ Some new
  unfolding acted
  enters_conditioned g k c new b e p n =
      checks_hold g (take (one i32) ∷ enter k (block_giving g) ∷ []) (state_of v) e
      ∙ ap (λ o. o >>= run (world C) (around v C) (enter k (block_giving g) ∷ [])) p
      ∙ entering g k (below 1 (state_of v)) ∙ ap (λ d. Some (push_frame k d [] (below 1 (state_of v)))) (sym b) ∙ ap Some (under k c (state_of v)) ∙ ap Some (sym n)

pub ruleset enters = (enters_plainly, enters_conditioned)
