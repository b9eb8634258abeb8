-- The start of a body and of a constant expression.
use Rattle.std.proofs.Common.{◌≡◌, ◌<◌, ℕ, Bool, List, [], ◌++◌, map, length, sym, ◌∙◌, ap, subst}
use Rattle.std.proofs.lemmas.List.{length-map}
use Rattle.std.specs.Option.{option_map}
use Rattle.std.specs.Prelude.{Some, Err}
use Rattle.wasm_typing_families.specs.WasmTypingBlocks.WasmTypingChecks.WasmSpecRules.WasmSpec.Syntax.{Sub}
use Rattle.wasm_typing_families.specs.WasmTypingBlocks.WasmTypingChecks.WasmSpecRules.Contexts.{Context}
use Rattle.wasm_readers_types.specs.WasmReadersValues.declared.indices.UnpackedIndex.{UnpackedIndex}
use Rattle.wasm_readers_types.specs.WasmReadersValues.SeenValues.{val_of}
use Rattle.wasm_readers_types.specs.WasmReadersValues.declared.values.ValType.{ValType}
use Rattle.wasm_operators.specs.Control.{Block}
use Rattle.wasm_typing_families.specs.WasmTypingBlocks.WasmTypingChecks.WasmSpecRules.Attempts.{◌>>=◌}
use Rattle.wasm_typing_families.specs.WasmTypingBlocks.WasmTypingChecks.WasmSpecSteps.Bodies.{Local}
use Rattle.wasm_typing_families.specs.WasmTypingBlocks.WasmTypingChecks.WasmSpecSteps.Machine.{State, block_kind, push_frame}
use Rattle.wasm_typing_families.specs.WasmTypingBlocks.WasmTypingChecks.WasmSpecRules.Signatures.{Signature, signature_of}
use Rattle.wasm_typing_families.specs.WasmTypingBlocks.WasmTypingChecks.WasmSpecRules.Limits.{most_locals}
use Rattle.wasm_typing_families.specs.WasmTypingBlocks.WasmTypingChecks.WasmSpecSteps.Steps.{start}
use Rattle.wasm_typing_families.specs.WasmTypingBlocks.WasmTypingChecks.WasmValidatorResources.Answers.{sub_in}
use Rattle.wasm_typing_families.specs.WasmTypingSteps.WasmTypingControl.Blocks.{function_in}
use Rattle.wasm_typing_families.specs.WasmTypingBlocks.WasmTypingChecks.declared.faults.OperatorError.{OperatorError}
use Rattle.wasm_typing_families.specs.WasmTypingBlocks.WasmTypingChecks.declared.faults.OperatorError.TheVariants.{Refused, OutOfMemory}
use Rattle.wasm_typing_validator.specs.BodyTyping.{parameter, HasMany, IsRefused}

abbrev nothing : State UnpackedIndex
nothing = record { operands = []; frames = []; inits = [] }

-- a frame over nothing
pub begun : (s t : State UnpackedIndex) (is : List ℕ) (b c : Block UnpackedIndex) → s ≡ nothing → is ≡ s.inits → t ≡ push_frame block_kind c [] (record s { inits = is }) → c ≡ b → t ≡ start b
begun s t is b c e f g h =
    g ∙ ap (λ x. push_frame block_kind x [] (record s { inits = is })) h ∙ ap (λ js. push_frame block_kind b [] (record s { inits = js })) f ∙ ap (λ u. push_frame block_kind b [] u) e

-- the parameters of a function type, and whether it is shared
module _ (C : Context UnpackedIndex) (n : ℕ) (d : Sub UnpackedIndex) where
  pub parameters_found : (g : Signature UnpackedIndex) (xs ys zs : List (Local UnpackedIndex)) → Some d ≡ sub_in C n → signature_of d.comp ≡ Some g → xs ≡ [] → ys ≡ xs ++ map parameter g.takes → zs ≡ ys → Some zs ≡ option_map (λ h. map parameter h.takes) (function_in C n)
  parameters_found g xs ys zs e f h i j =
      ap Some (j ∙ i ∙ ap (λ us. us ++ map parameter g.takes) h) ∙ sym (ap (λ o. option_map (λ (k : Signature UnpackedIndex). map parameter k.takes) (option_map (λ (x : Sub UnpackedIndex). x.comp) o >>= signature_of)) (sym e) ∙ ap (option_map (λ (k : Signature UnpackedIndex). map parameter k.takes)) f)

  pub shared_found : (b c : Bool) → Some d ≡ sub_in C n → b ≡ d.shared → c ≡ b → Some c ≡ option_map (λ x. x.shared) (sub_in C n)
  shared_found b c e f h = ap Some (h ∙ f) ∙ ap (option_map (λ (x : Sub UnpackedIndex). x.shared)) e

  signature_found : (g : Signature UnpackedIndex) → Some d ≡ sub_in C n → signature_of d.comp ≡ Some g → Some g ≡ function_in C n
  signature_found g e f = sym f ∙ ap (λ o. option_map (λ (x : Sub UnpackedIndex). x.comp) o >>= signature_of) e

  -- too many parameters
  pub many_found : (X : Type 0) (r : OperatorError) (g : Signature UnpackedIndex) (xs : List ValType) → IsRefused r → Some d ≡ sub_in C n → signature_of d.comp ≡ Some g → g.takes ≡ map val_of xs → most_locals < length xs → HasMany {X = X} (Err r) (function_in C n)
  many_found X (Refused f) g xs i e h j k =
      subst (λ o. HasMany {X = X} (Err (Refused f)) o) (signature_found g e h) (subst (λ m. most_locals < m) (sym (length-map xs val_of) ∙ ap length (sym j)) k)
  many_found X OutOfMemory g xs i e h j k = absurd i

pub ruleset begins = (begun, parameters_found, shared_found, many_found)
