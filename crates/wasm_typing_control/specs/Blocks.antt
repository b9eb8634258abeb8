-- What blocks take and give, read from a context.
use Rattle.std.specs.Prelude.{ℕ, Bool, true, [], ◌∷◌, Option, Some}
use Rattle.std.specs.Option.{option_map}
use Rattle.wasm_readers_types.specs.WasmSpec.MatchingTests.{World}
use Rattle.wasm_typing_numbers.specs.WasmTypingChecks.WasmValidatorResources.WasmSpecRules.Contexts.{Context}
use Rattle.wasm_readers_types.specs.WasmReadersValues.declared.indices.UnpackedIndex.{UnpackedIndex}
use Rattle.wasm_typing_numbers.specs.WasmOperators.Control.{Block, empty_block, value_block, func_block}
use Rattle.wasm_typing_numbers.specs.WasmTypingChecks.WasmValidatorResources.WasmSpecRules.Attempts.{◌>>=◌}
use Rattle.wasm_typing_numbers.specs.WasmSpecSteps.Machine.{Kind, block_kind, loop_kind, if_kind, else_kind, try_table_kind, legacy_try_kind, legacy_catch_kind, legacy_catch_all_kind}
use Rattle.wasm_typing_numbers.specs.WasmSpecSteps.Matching.{matches_vals}
use Rattle.wasm_typing_numbers.specs.WasmTypingChecks.WasmValidatorResources.WasmSpecRules.Signatures.{Signature, signature_of}
use Rattle.wasm_typing_numbers.specs.WasmTypingChecks.WasmValidatorResources.Answers.{sub_in}

-- the function type of a type index
abbrev pub function_in : Context UnpackedIndex → ℕ → Option (Signature UnpackedIndex)
function_in C n = option_map (λ d. d.comp) (sub_in C n) >>= signature_of

abbrev pub signature_in : Context UnpackedIndex → Block UnpackedIndex → Option (Signature UnpackedIndex)
signature_in C empty_block = Some (record { takes = []; gives = [] })
signature_in C (value_block v) = Some (record { takes = []; gives = v ∷ [] })
signature_in C (func_block n) = function_in C n

-- an `if` without `else` gives what it takes
abbrev pub ends_in : World UnpackedIndex → Kind → Signature UnpackedIndex → Bool
ends_in W if_kind g = matches_vals W g.takes g.gives
ends_in W block_kind g = true
ends_in W loop_kind g = true
ends_in W else_kind g = true
ends_in W try_table_kind g = true
ends_in W legacy_try_kind g = true
ends_in W legacy_catch_kind g = true
ends_in W legacy_catch_all_kind g = true
