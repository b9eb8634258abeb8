-- The types of blocks and labels.
use Rattle.std.proofs.Common.{◌≡◌, ◌≢◌, ℕ, ◌-◌, Bool, true, false, List, [], ◌∷◌, length, map, refl, sym, arith}
use Rattle.std.specs.Option.{option_map}
use Rattle.std.specs.Prelude.{zero, suc, Option, Some, None, slice_get}
use Rattle.std.proofs.lemmas.Option.{slice_get-map}
use Rattle.wasm_readers_types.specs.WasmSpec.Syntax.{Val}
use Rattle.wasm_typing_numbers.specs.WasmTypingChecks.WasmValidatorResources.WasmSpecRules.Contexts.{Context}
use Rattle.wasm_readers_types.specs.WasmReadersValues.declared.indices.UnpackedIndex.{UnpackedIndex}
use Rattle.wasm_typing_numbers.specs.WasmOperators.Control.{Block, empty_block, value_block, func_block}
use Rattle.wasm_typing_numbers.specs.WasmTypingChecks.WasmValidatorResources.WasmSpecRules.Attempts.{last_of}
use Rattle.wasm_typing_numbers.specs.WasmSpecSteps.Actions.{label, returned}
use Rattle.wasm_typing_numbers.specs.WasmTypingChecks.WasmValidatorResources.WasmSpecRules.Signatures.{Signature}
use Rattle.wasm_typing_numbers.specs.WasmSpecSteps.Meanings.{block_signature, label_by}
use Rattle.wasm_typing_numbers.specs.WasmTypingChecks.WasmValidatorResources.Answers.{world}
use Rattle.wasm_typing_numbers.specs.WasmTypingStacks.BodyStacks.{state_of, around}
use Rattle.wasm_typing_numbers.specs.WasmTypingStacks.SeenBlocks.{block_in, kind_of, frame_of, frames_seen}
use Rattle.wasm_typing_numbers.specs.WasmTypingStacks.declared.stacks.Frame.{Frame}
use Rattle.wasm_typing_numbers.specs.WasmTypingStacks.declared.stacks.Stacks.{Stacks}
use Rattle.wasm_typing_numbers.specs.WasmTypingChecks.Steps.{typed}
use Rattle.wasm_typing_numbers.specs.WasmTypingChecks.SeenTypes.{types_seen}
use Rattle.wasm_typing_numbers.specs.WasmTypingChecks.declared.types.ValTypes as listed
use Rattle.wasm_typing_control.specs.Blocks.{function_in, signature_in}

-- what stands for a block type is the block type
pub of_empty : (C : Context UnpackedIndex) (b : Block UnpackedIndex) → empty_block ≡ b → signature_in C b ≡ Some (record { takes = []; gives = [] })
of_empty C b e = rw (← e) refl

pub of_value : (C : Context UnpackedIndex) (b : Block UnpackedIndex) (v : Val UnpackedIndex) → value_block v ≡ b → signature_in C b ≡ Some (record { takes = []; gives = v ∷ [] })
of_value C b v e = rw (← e) refl

pub of_func : (C : Context UnpackedIndex) (b : Block UnpackedIndex) (n : ℕ) (o : Option (Signature UnpackedIndex)) → func_block n ≡ b → o ≡ function_in C n → signature_in C b ≡ o
of_func C b n o e f = rw (← e) (sym f)

pub ruleset blocks = (of_empty, of_value, of_func)

pub no_frame : (b : Bool) (x : Frame) (xs : List Frame) (n : ℕ) → b ≡ false → None ≡ slice_get (frames_seen b x xs) n
no_frame true x xs n e = cc
no_frame false x xs zero e = refl
no_frame false x xs (suc n) e = refl

pub first_frame : (b : Bool) (x : Frame) (xs : List Frame) (n : ℕ) → b ≡ true → n ≡ 0 → Some (frame_of x) ≡ slice_get (frames_seen b x xs) n
first_frame true x xs n e h = rw h refl
first_frame false x xs n e h = cc

pub outer_frame : (b : Bool) (x : Frame) (xs : List Frame) (n : ℕ) → b ≡ true → n ≢ 0 → option_map frame_of (slice_get xs (n - 1)) ≡ slice_get (frames_seen b x xs) n
outer_frame true x xs zero e h = absurd (h refl)
outer_frame true x xs (suc n) e h = let q : suc n - 1 ≡ n = omega arith in rw q (sym (slice_get-map frame_of xs n))
outer_frame false x xs n e h = cc

pub ruleset frames = (no_frame, first_frame, outer_frame)

-- the last frame
pub no_last : (b : Bool) (x : Frame) (xs : List Frame) → b ≡ false → None ≡ last_of (frames_seen b x xs)
no_last true x xs e = cc
no_last false x xs e = refl

pub only_last : (b : Bool) (x : Frame) (xs : List Frame) → b ≡ true → length xs ≡ 0 → Some (frame_of x) ≡ last_of (frames_seen b x xs)
only_last true x [] e h = refl
only_last true x (y ∷ ys) e h = absurd (omega arith)
only_last false x xs e h = cc

last_mapped : (x : Frame) (xs : List Frame) → option_map frame_of (slice_get (x ∷ xs) (length xs)) ≡ last_of (frame_of x ∷ map frame_of xs)
last_mapped x [] = refl
last_mapped x (y ∷ ys) = last_mapped y ys

pub outer_last : (b : Bool) (x : Frame) (xs : List Frame) (n : ℕ) → b ≡ true → n ≡ length xs → n ≢ 0 → option_map frame_of (slice_get xs (n - 1)) ≡ last_of (frames_seen b x xs)
outer_last true x [] n e h i = absurd (i h)
outer_last true x (y ∷ ys) n e h i = let q : n - 1 ≡ length ys = omega arith in rw q (last_mapped y ys)
outer_last false x xs n e h i = cc

pub ruleset lasts = (no_last, only_last, outer_last)

module _ {A : Type 0} (v : Stacks A) (C : Context UnpackedIndex) where
  pub same_signature : (b : Block UnpackedIndex) → block_signature (world C) (around v C) b ≡ signature_in C b
  same_signature empty_block = refl
  same_signature (value_block w) = refl
  same_signature (func_block n) = refl

  pub label_found : (n : ℕ) (x : Frame) (o : Option listed.ValTypes) → option_map frame_of (Some x) ≡ slice_get (state_of v).frames n → option_map types_seen o ≡ option_map (label_by (kind_of x.kind)) (signature_in C (block_in x.block)) → typed v C (label n) ≡ option_map types_seen o
  unfolding typed
  label_found n x o e f = rw (← e, same_signature (block_in x.block), f) refl

  pub label_past : (n : ℕ) → option_map frame_of None ≡ slice_get (state_of v).frames n → typed v C (label n) ≡ None
  unfolding typed
  label_past n e = rw (← e) refl

  pub returned_found : (x : Frame) (o : Option listed.ValTypes) → option_map frame_of (Some x) ≡ last_of (state_of v).frames → option_map types_seen o ≡ option_map (λ g. g.gives) (signature_in C (block_in x.block)) → typed v C returned ≡ option_map types_seen o
  unfolding typed
  returned_found x o e f = rw (← e, same_signature (block_in x.block), f) refl

  pub returned_nowhere : option_map frame_of None ≡ last_of (state_of v).frames → typed v C returned ≡ None
  unfolding typed
  returned_nowhere e = rw (← e) refl

pub ruleset labels = (label_found, label_past, returned_found, returned_nowhere)
