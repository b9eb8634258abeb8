-- What surrounds the code stays, and a refusal ends what is read.
use Rattle.std.proofs.Common.{◌≡◌, ◌∙◌, refl, ℕ, List, Option, None, Err}
use Rattle.wasm_typing_families.specs.WasmTypingBlocks.WasmTypingChecks.WasmSpecRules.Contexts.{Context}
use Rattle.wasm_readers.specs.WasmReadersErrors.declared.error.Error.{Error}
use Rattle.wasm_readers.specs.WasmReadersErrors.declared.error.Error.TheVariants.{Refused, OutOfMemory}
use Rattle.wasm_readers_types.specs.WasmReadersValues.declared.indices.UnpackedIndex.{UnpackedIndex}
use Rattle.wasm_typing_families.specs.WasmTypingBlocks.WasmTypingChecks.WasmSpecSteps.Machine.{State}
use Rattle.wasm_typing_families.specs.WasmTypingBlocks.WasmTypingChecks.WasmTypingStacks.BodyStacks.{around, Kept}
use Rattle.wasm_typing_families.specs.WasmTypingBlocks.WasmTypingChecks.WasmTypingStacks.declared.stacks.Stacks.{Stacks}
use Rattle.wasm_typing_validator.specs.TypedInstructions.{TookAt, ReadsTo}

-- what surrounds the code stays
pub kept_around : {A : Type 0} (v w : Stacks A) (C : Context UnpackedIndex) → Kept v w → around w C ≡ around v C
kept_around v w C k = rw (k.features, k.shared, k.content) refl

pub kept_on : {A : Type 0} (u v w : Stacks A) → Kept u v → Kept v w → Kept u w
kept_on u v w j k = record { features = k.features ∙ j.features; shared = k.shared ∙ j.shared; content = k.content ∙ j.content }

pub same_kept : {A : Type 0} (v : Stacks A) → Kept v v
same_kept v = record { features = refl; shared = refl; content = refl }

-- a refused instruction refuses the expression
pub ends : (offset : ℕ) (e : Error) (o : Option (State UnpackedIndex)) (u : State UnpackedIndex) (all : Option (State UnpackedIndex × List ℕ)) (w : State UnpackedIndex) (more : List ℕ)
    → TookAt offset (Err e) o u → (o ≡ None → all ≡ None) → ReadsTo (Err e) all w more
ends offset (Refused r) o u all w more t f = f t.0
ends offset OutOfMemory o u all w more t f = tt
