-- What labels count.
use Rattle.std.proofs.Common.{◌≡◌, ℕ, List, length, Option, Some, None, slice_get, refl, sym}
use Rattle.std.specs.Option.{option_map}
use Rattle.wasm_typing_families.specs.WasmTypingBlocks.WasmTypingChecks.WasmSpecRules.WasmSpec.Syntax.{Val}
use Rattle.wasm_typing_families.specs.WasmTypingBlocks.WasmTypingChecks.WasmSpecRules.Attempts.{◌>>=◌}
use Rattle.wasm_typing_families.specs.WasmTypingBlocks.WasmTypingChecks.WasmSpecRules.Contexts.{Context}
use Rattle.wasm_typing_families.specs.WasmTypingBlocks.WasmTypingChecks.WasmSpecRules.Signatures.{Signature}
use Rattle.wasm_readers_types.specs.WasmReadersValues.declared.indices.UnpackedIndex.{UnpackedIndex}
use Rattle.wasm_operators.specs.Control.{Block, empty_block, value_block, func_block}
use Rattle.wasm_typing_families.specs.WasmTypingBlocks.WasmTypingChecks.WasmSpecSteps.Machine as machine
use Rattle.wasm_typing_families.specs.WasmTypingBlocks.WasmTypingChecks.WasmSpecSteps.Machine.{Kind, block_kind, loop_kind, if_kind, else_kind, try_table_kind, legacy_try_kind, legacy_catch_kind, legacy_catch_all_kind}
use Rattle.wasm_typing_families.specs.WasmTypingBlocks.WasmTypingChecks.WasmSpecSteps.Meanings.{label_by}
use Rattle.wasm_typing_families.specs.WasmTypingSteps.WasmTypingControl.Blocks.{function_in, signature_in}
use Rattle.wasm_typing_validator.specs.QueryResults.{height_over}

-- this number of operands over that many
abbrev over : ℕ → ℕ → ℕ × ℕ
over n h = (n, h)

abbrev counted : Kind → ℕ → Signature UnpackedIndex → ℕ × ℕ
counted k h g = (length (label_by k g), h)

module _ (C : Context UnpackedIndex) where
  abbrev frame_counted : machine.Frame UnpackedIndex → Option (ℕ × ℕ)
  frame_counted x = option_map (counted x.kind x.height) (signature_in C x.block)

  -- a block without types, by any kind
  nothing_taken : (k : Kind) (h : ℕ) → Some (over 0 h) ≡ option_map (counted k h) (signature_in C empty_block)
  nothing_taken block_kind h = refl
  nothing_taken loop_kind h = refl
  nothing_taken if_kind h = refl
  nothing_taken else_kind h = refl
  nothing_taken try_table_kind h = refl
  nothing_taken legacy_try_kind h = refl
  nothing_taken legacy_catch_kind h = refl
  nothing_taken legacy_catch_all_kind h = refl

  -- what stands for a block type is the block type
  pub of_empty : (k : Kind) (h : ℕ) (b : Block UnpackedIndex) → empty_block ≡ b → Some (over 0 h) ≡ option_map (counted k h) (signature_in C b)
  of_empty k h b e = rw (← e) (nothing_taken k h)

  pub of_loop : (h : ℕ) (b : Block UnpackedIndex) (v : Val UnpackedIndex) → value_block v ≡ b → Some (over 0 h) ≡ option_map (counted loop_kind h) (signature_in C b)
  of_loop h b v e = rw (← e) refl

  pub of_value : (h : ℕ) (b : Block UnpackedIndex) (v : Val UnpackedIndex) → value_block v ≡ b → Some (over 1 h) ≡ option_map (counted block_kind h) (signature_in C b)
  of_value h b v e = rw (← e) refl

  pub of_func : (k : Kind) (h : ℕ) (b : Block UnpackedIndex) (n : ℕ) (o : Option (ℕ × ℕ)) → func_block n ≡ b → o ≡ option_map (counted k h) (function_in C n) → o ≡ option_map (counted k h) (signature_in C b)
  of_func k h b n o e f = rw (← e) f

  -- the frame of a label
  pub label_there : (fs : List (machine.Frame UnpackedIndex)) (n : ℕ) (x : machine.Frame UnpackedIndex) (o : Option (ℕ × ℕ)) → Some x ≡ slice_get fs n → o ≡ frame_counted x → o ≡ (slice_get fs n >>= frame_counted)
  label_there fs n x o e f = rw (← e) f

  pub no_label : (fs : List (machine.Frame UnpackedIndex)) (n : ℕ) → None ≡ slice_get fs n → None ≡ (slice_get fs n >>= frame_counted)
  no_label fs n e = rw (← e) refl

module _ (C : Context UnpackedIndex) where
  -- that of a block without types
  pub empty_there : (fs : List (machine.Frame UnpackedIndex)) (n : ℕ) (x : machine.Frame UnpackedIndex) → Some x ≡ slice_get fs n → empty_block ≡ x.block → (slice_get fs n >>= frame_counted C) ≡ Some (over 0 x.height)
  empty_there fs n x e f = sym (label_there C fs n x (Some (over 0 x.height)) e (of_empty C x.kind x.height x.block f))

-- the height, where a block has no types
pub over_empty : (h : ℕ) (b : Block UnpackedIndex) → empty_block ≡ b → Some h ≡ height_over b h
over_empty h b e = rw (← e) refl

pub over_value : (h : ℕ) (b : Block UnpackedIndex) (v : Val UnpackedIndex) → value_block v ≡ b → None ≡ height_over b h
over_value h b v e = rw (← e) refl

pub over_func : (h : ℕ) (b : Block UnpackedIndex) (n : ℕ) → func_block n ≡ b → None ≡ height_over b h
over_func h b n e = rw (← e) refl

pub over_there : (fs : List (machine.Frame UnpackedIndex)) (n : ℕ) (x : machine.Frame UnpackedIndex) (o : Option ℕ) → Some x ≡ slice_get fs n → o ≡ height_over x.block x.height → o ≡ (slice_get fs n >>= λ y. height_over y.block y.height)
over_there fs n x o e f = rw (← e) f

pub over_none : (fs : List (machine.Frame UnpackedIndex)) (n : ℕ) → None ≡ slice_get fs n → None ≡ (slice_get fs n >>= λ y. height_over y.block y.height)
over_none fs n e = rw (← e) refl

pub ruleset counts = (of_empty, of_loop, of_value, of_func)

pub ruleset labels = (label_there, no_label)

pub ruleset empties = (empty_there, over_empty, over_value, over_func, over_there, over_none)
