-- Continuation types that operators name, and those that references are to.
use Rattle.std.specs.Prelude.{ℕ, Bool, ◌&&◌, ◌==◌, List, length, Option, slice_get}
use Rattle.std.specs.Option.{option_map}
use Rattle.wasm_typing_control.specs.WasmSpec.Syntax.{Val, Sub}
use Rattle.wasm_typing_control.specs.WasmSpec.ValueTypes.{implies}
use Rattle.wasm_typing_control.specs.WasmSpecRules.Contexts.{Context}
use Rattle.wasm_typing_control.specs.WasmSpecRules.Attempts.{◌>>=◌, guard, passes, last_of}
use Rattle.wasm_typing_control.specs.WasmSpecRules.Signatures.{Signature, signature_of}
use Rattle.wasm_typing_control.specs.WasmReadersTypes.WasmReadersValues.declared.indices.UnpackedIndex.{UnpackedIndex}
use Rattle.wasm_typing_control.specs.WasmTypingChecks.WasmSpecSteps.Matching.{matches_vals}
use Rattle.wasm_typing_control.specs.WasmTypingChecks.WasmSpecSteps.Meanings.{cont_of, referred}
use Rattle.wasm_typing_control.specs.WasmTypingChecks.WasmValidatorResources.Answers.{world, sub_in, tag_in}

-- the identity of the function type that a continuation type of a type index is of, from a shared function or from another
unfoldable pub continuation_in : Context UnpackedIndex → Bool → ℕ → Option UnpackedIndex
continuation_in C shared n = sub_in C n >>= λ d. cont_of d.comp >>= guard (implies shared d.shared)

-- the type of an identity
unfoldable pub type_named : Context UnpackedIndex → UnpackedIndex → Option (Sub UnpackedIndex)
type_named C i = (world C).declared i

-- the signature of the function type of an identity
unfoldable pub function_named : Context UnpackedIndex → UnpackedIndex → Option (Signature UnpackedIndex)
function_named C i = (world C).declared i >>= λ d. signature_of d.comp

-- the signature of the function type that the continuation type of an identity is of
unfoldable pub continuation_named : Context UnpackedIndex → UnpackedIndex → Option (Signature UnpackedIndex)
continuation_named C i = type_named C i >>= λ d. cont_of d.comp >>= function_named C

-- that of the continuation that a value type refers to, and of the one that the last of some types refers to
unfoldable pub continued_in : Context UnpackedIndex → Val UnpackedIndex → Option (Signature UnpackedIndex)
continued_in C v = referred v >>= continuation_named C

unfoldable pub last_continued : Context UnpackedIndex → List (Val UnpackedIndex) → Option (Signature UnpackedIndex)
last_continued C vs = last_of vs >>= referred >>= continuation_named C

-- the identity of a continuation type of a type index, and what its continuations take and give, from a shared function or from another
unfoldable pub continued_at : Context UnpackedIndex → Bool → ℕ → Option (UnpackedIndex × Signature UnpackedIndex)
continued_at C shared n = continuation_in C shared n >>= λ i. slice_get C.types n >>= λ a. option_map (λ g. (a, g)) (function_named C i)

-- whether a continuation may be switched to by a tag: it takes nothing, and what it gives is between what the one gives and what the other does
unfoldable pub may_switch : Context UnpackedIndex → Signature UnpackedIndex → Signature UnpackedIndex → ℕ → Bool
may_switch C to from x =
    passes (λ tag. (length tag.takes == 0) && matches_vals (world C) to.gives tag.gives && matches_vals (world C) tag.gives from.gives) (tag_in C x)
