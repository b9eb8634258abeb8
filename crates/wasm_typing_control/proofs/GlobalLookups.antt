-- What operators on globals look up.
use Rattle.std.proofs.Common.{◌≡◌, ℕ, Bool, true, false, not, [], ◌∷◌, refl}
use Rattle.std.specs.Option.{option_map}
use Rattle.std.specs.Prelude.{Some, None, slice_get}
use Rattle.wasm_readers_types.specs.WasmSpec.Syntax.{Val}
use Rattle.wasm_readers_types.specs.WasmSpec.ValueTypes.{implies}
use Rattle.wasm_typing_numbers.specs.WasmTypingChecks.WasmValidatorResources.WasmSpecRules.Contexts.{Context}
use Rattle.wasm_readers_types.specs.SeenExterns.{global_of}
use Rattle.wasm_readers_types.specs.WasmReadersValues.SeenValues.{val_of}
use Rattle.wasm_readers_types.specs.declared.externs.GlobalType.{GlobalType}
use Rattle.wasm_readers_types.specs.WasmReadersValues.declared.indices.UnpackedIndex.{UnpackedIndex}
use Rattle.wasm_typing_numbers.specs.WasmSpecSteps.Actions.{global, global_is_mutable, reaches_global}
use Rattle.wasm_typing_numbers.specs.WasmTypingStacks.declared.stacks.Stacks.{Stacks}
use Rattle.wasm_typing_numbers.specs.WasmTypingChecks.Steps.{typed, held}

module _ {A : Type 0} (v : Stacks A) (C : Context UnpackedIndex) where
  pub global_typed : (n : ℕ) (g : GlobalType) (x : Val UnpackedIndex) → option_map global_of (Some g) ≡ slice_get C.globals n → x ≡ val_of g.content_type → typed v C (global n) ≡ Some (x ∷ [])
  unfolding typed
  global_typed n g x e f = rw (← e, f) refl

  pub global_untyped : (n : ℕ) → option_map global_of None ≡ slice_get C.globals n → typed v C (global n) ≡ None
  unfolding typed
  global_untyped n e = rw (← e) refl

  pub mutable_held : (n : ℕ) (g : GlobalType) (b : Bool) → option_map global_of (Some g) ≡ slice_get C.globals n → g.mutable ≡ b → held v C (global_is_mutable n) ≡ b
  unfolding held
  mutable_held n g b e f = rw (← e) f

  pub reached_held : (n : ℕ) (g : GlobalType) (b : Bool) → option_map global_of (Some g) ≡ slice_get C.globals n → implies v.is_shared g.shared ≡ b → held v C (reaches_global n) ≡ b
  unfolding held
  reached_held n g b e f = rw (← e) f

pub unnot : (b : Bool) → not b ≡ false → b ≡ true
unnot true e = refl
unnot false e = cc

pub ruleset globals = (global_typed, global_untyped, mutable_held, reached_held)
