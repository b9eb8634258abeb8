-- Locals that are declared, or refused.
use Rattle.std.proofs.Common.{◌≡◌, ℕ, ◌+◌, ◌<◌, ◌≤◌, Bool, true, false, ◌++◌, inl, inr, refl, sym, ◌∙◌, ap, length, arith}
use Rattle.std.proofs.lemmas.Option.{same_Some}
use Rattle.std.specs.Option.{option_map}
use Rattle.std.specs.Prelude.{Option, Some, None, Ok, Err, replicate, IsTrue, ◌↔◌}
use Rattle.wasm_typing_families.specs.WasmTypingBlocks.WasmTypingChecks.WasmSpecRules.WasmSpec.Syntax.{Val}
use Rattle.wasm_typing_families.specs.WasmTypingBlocks.WasmTypingChecks.WasmSpecRules.Limits.{most_locals}
use Rattle.wasm_readers_types.specs.WasmReadersValues.declared.indices.UnpackedIndex.{UnpackedIndex}
use Rattle.wasm_typing_families.specs.WasmTypingBlocks.WasmTypingChecks.WasmSpecSteps.Bodies.{Local}
use Rattle.wasm_typing_families.specs.WasmTypingBlocks.WasmTypingChecks.declared.faults.OperatorError.{OperatorError}
use Rattle.wasm_typing_families.specs.WasmTypingBlocks.WasmTypingChecks.declared.faults.OperatorError.TheVariants.{Refused, OutOfMemory}
use Rattle.wasm_typing_validator.specs.BodyTyping.{locals_in, declared_local, IsRefused, Defines}
use Rattle.wasm_typing_validator.specs.ValidatorFailures.{IsFailure}
use Rattle.wasm_typing_validator.specs.declared.validator.OperatorValidator.{OperatorValidator}

past : (k : ℕ) → (k ≤ most_locals → ⊥) → most_locals < k
past k h = grind arith

no_local : (o : Option (Val UnpackedIndex)) → None ≡ option_map declared_local o → o ≡ None
no_local None h = refl
no_local (Some t) h = absurd cc

pub declared_as : {A : Type 0} (o : Option (Val UnpackedIndex)) (n : ℕ) (v w : OperatorValidator A) (x : Unit {0}) (l : Local UnpackedIndex) → Some l ≡ option_map declared_local o → v.failed ≡ false → length (locals_in v) + n ≤ most_locals
    → locals_in w ≡ locals_in v ++ replicate n l → Defines (Ok x) o n v w
declared_as None n v w x l e f h j = absurd cc
declared_as (Some t) n v w x l e f h j = (f, h, j ∙ ap (λ m. locals_in v ++ replicate n m) (same_Some l (declared_local t) e))

module _ {A : Type 0} (o : Option (Val UnpackedIndex)) (n : ℕ) (v w : OperatorValidator A) where
  pub declared_behind : (e : OperatorError) → IsFailure (Err e) → v.failed ≡ true → locals_in w ≡ locals_in v → Defines (Err e) o n v w
  declared_behind (Refused f) r h k = (k, λ g. let q : true ≡ false = sym h ∙ g in cc)
  declared_behind OutOfMemory r h k = tt

  pub declared_untyped : (e : OperatorError) → IsRefused e → None ≡ option_map declared_local o → locals_in w ≡ locals_in v → Defines (Err e) o n v w
  declared_untyped (Refused f) r h k = (k, λ g. inl (no_local o h))
  declared_untyped OutOfMemory r h k = tt

  pub declared_past : (e : OperatorError) (b : Bool) → IsRefused e → (IsTrue b ↔ (length (locals_in v) + n ≤ most_locals)) → b ≡ false → locals_in w ≡ locals_in v → Defines (Err e) o n v w
  declared_past (Refused f) b r i h k = (k, λ g. inr (past (length (locals_in v) + n) (λ m. let q : true ≡ false = sym (i.1 m) ∙ h in cc)))
  declared_past OutOfMemory b r i h k = tt

  pub declared_not : (e : OperatorError) → e ≡ OutOfMemory → Defines (Err e) o n v w
  declared_not (Refused f) h = cc
  declared_not OutOfMemory h = tt

pub ruleset declares = (declared_behind, declared_untyped, declared_past, declared_not)
