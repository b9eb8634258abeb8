-- What a module's type index names, and whether operators may use it.
-- Core Specification 3.0, Validation, Instructions (Aggregate Instructions).
use Rattle.std.specs.Prelude.{◌≡◌, ℕ, Bool, false, List, Option, if◌then◌else◌}
use Rattle.std.specs.Option.{option_map}
use Rattle.wasm_validator_resources.specs.WasmSpec.Syntax.{Heap, concrete, exact, Field}
use Rattle.wasm_validator_resources.specs.WasmSpecRules.Contexts.{Context}
use Rattle.wasm_validator_resources.specs.WasmReadersTypes.WasmReadersValues.declared.indices.UnpackedIndex.{UnpackedIndex}
use Rattle.wasm_typing_stacks.specs.WasmSpecSteps.Actions.{Needed, has, reaches_type}
use Rattle.wasm_validator_resources.specs.WasmSpecRules.Attempts.{◌>>=◌}
use Rattle.wasm_typing_stacks.specs.WasmSpecSteps.Meanings.{fields_of, element_of}
use Rattle.wasm_validator_resources.specs.Answers.{sub_in}
use Rattle.wasm_typing_stacks.specs.declared.stacks.Stacks.{Stacks}
use Rattle.wasm_typing_checks.specs.Steps.{held}

-- what a new value of a type is known to be
abbrev pub new_heap : {R : Type 0} → Bool → R → Heap R
new_heap b a = if b then exact a else concrete a

module _ (C : Context UnpackedIndex) where
  -- the fields of a structure type, what an array type's places hold, and a type's descriptor, if it has one
  abbrev pub fields_in : ℕ → Option (List (Field UnpackedIndex))
  fields_in n = option_map (λ d. d.comp) (sub_in C n) >>= fields_of

  abbrev pub element_in : ℕ → Option (Field UnpackedIndex)
  element_in n = option_map (λ d. d.comp) (sub_in C n) >>= element_of

  abbrev pub descriptor_in : ℕ → Option (Option UnpackedIndex)
  descriptor_in n = option_map (λ d. d.descriptor) (sub_in C n)

-- Operators on the type of this index are refused: their proposal is off, the body may not reach the type, or what they need of it isn't
-- there.
pub data Barred {A : Type 0} (v : Stacks A) (C : Context UnpackedIndex) (p : Needed) (n : ℕ) (Missing : Type 0) : Type 0 where
  is_off : held v C (has p) ≡ false → Barred v C p n Missing
  is_unreached : held v C (reaches_type n) ≡ false → Barred v C p n Missing
  is_missing : Missing → Barred v C p n Missing
