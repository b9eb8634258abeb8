-- The descriptor that casts by descriptors ask for.
use Rattle.std.specs.Prelude.{◌≡◌, ℕ, Bool, true, ◌&&◌, List, ◌∷◌, Option, Some, None, Result, Ok, Err}
use Rattle.std.specs.Option.{option_map}
use Rattle.wasm_typing_references.specs.WasmSpec.Syntax.{Heap, abstract_heap, concrete, exact, Ref, Val, reference}
use Rattle.wasm_typing_references.specs.WasmSpec.Features.{Features}
use Rattle.wasm_typing_references.specs.WasmTypingChecks.WasmSpecSteps.Actions.{OperandTypes, descriptor_for, joined, Check, has, gc, custom_descriptors, descriptor_operators, allows, may_be_cast, Action, need, take}
use Rattle.wasm_typing_references.specs.WasmTypingChecks.WasmSpecSteps.Meanings.{ref_to}
use Rattle.wasm_typing_references.specs.WasmTypingChecks.WasmTypingStacks.BodyStacks.{state_of}
use Rattle.wasm_typing_references.specs.WasmTypingChecks.WasmTypingStacks.SeenTypeWords.{val_in}
use Rattle.wasm_typing_references.specs.WasmTypingChecks.WasmTypingStacks.declared.stacks.Stacks.{Stacks}
use Rattle.wasm_typing_references.specs.WasmTypingChecks.WasmTypingStacks.declared.type_word.TypeWord.{TypeWord}
use Rattle.wasm_typing_references.specs.WasmTypingChecks.Steps.{Took, acted, held}
use Rattle.wasm_typing_references.specs.WasmTypingChecks.declared.faults.OperatorFault.{OperatorFault}
use Rattle.wasm_typing_references.specs.WasmTypingChecks.declared.faults.OperatorError.TheVariants.{Refused}
use Rattle.wasm_typing_references.specs.WasmSpecRules.Contexts.{Context}
use Rattle.wasm_typing_references.specs.WasmReadersTypes.WasmReadersValues.SeenValues.{ref_of}
use Rattle.wasm_typing_references.specs.WasmReadersTypes.WasmReadersValues.declared.indices.UnpackedIndex.{UnpackedIndex}
use Rattle.wasm_typing_references.specs.WasmReadersTypes.WasmReadersValues.declared.values.RefType.{RefType}
use Rattle.wasm_typing_references.specs.WasmSpecRules.Attempts.{◌>>=◌}
use Rattle.wasm_typing_references.specs.WasmTypingChecks.WasmValidatorResources.Answers.{sub_in}
use Rattle.wasm_typing_casts.specs.BranchOperands.{IsCastable}

-- the one that the type of an index declares
unfoldable pub descriptor_declared : Context UnpackedIndex → ℕ → Option UnpackedIndex
descriptor_declared C n = sub_in C n >>= λ d. d.descriptor

-- of the type that a written heap type names, exactly where it does so
unfoldable pub descriptor_named : Context UnpackedIndex → Heap ℕ → Option (Heap UnpackedIndex)
descriptor_named C (abstract_heap s k) = None
descriptor_named C (concrete n) = option_map concrete (descriptor_declared C n)
descriptor_named C (exact n) = option_map exact (descriptor_declared C n)

-- whether the features have instructions on descriptors
abbrev pub serves_descriptors : Features → Bool
serves_descriptors F = F.descriptor_operators && F.custom_descriptors

-- two written types of a branch on a cast by descriptors, allowed, and the one may be cast to the other; with identities they are these, and
-- this is the descriptor that it takes
pub record IsDescribed {A : Type 0} (v : Stacks A) (C : Context UnpackedIndex) (r q : Ref ℕ) (a b : Ref UnpackedIndex) (d : Val UnpackedIndex) : Type 0 where
  pub operators : held v C (has descriptor_operators) ≡ true
  pub types : held v C (has custom_descriptors) ≡ true
  pub castable : IsCastable v C r q a b
  pub descriptor : Some d ≡ option_map (ref_to true) (descriptor_named C q.heap)

-- The types with identities, and the descriptor; or what begins with its checks, and takes that descriptor above other operands, is refused.
abbrev pub Described : {A : Type 0} → Result (RefType × RefType × TypeWord) OperatorFault → Stacks A → Context UnpackedIndex → Ref ℕ → Ref ℕ → Type 0
Described (Ok p) v C r q = IsDescribed v C r q (ref_of p.0) (ref_of p.1) (val_in p.2)
Described (Err f) v C r q =
    (c : Check) (t : OperandTypes) (rest : List Action)
    → Took (Err (Refused f))
    (acted v C
    (need (has descriptor_operators) ∷ need (has custom_descriptors) ∷ need (has gc) ∷ need (allows (reference r)) ∷ need (allows (reference q)) ∷ need (may_be_cast r q) ∷ need c
    ∷ take (joined t (descriptor_for q.heap)) ∷ rest))
    (state_of v) (state_of v)
