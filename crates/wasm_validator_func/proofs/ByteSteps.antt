-- A step from bytes, on the way through the instructions of a body.
use Rattle.std.proofs.Common.{◌≡◌, ◌≤◌, ◌<◌, ◌∙◌, refl, sym, ap, ℕ, zero, suc, false, List, length, if◌then◌else◌, Option, Some, None, Err, arith}
use Rattle.std.specs.Option.{option_map, option_and_then}
use Rattle.wasm_spec_rules.specs.Attempts.{◌>>=◌}
use Rattle.wasm_spec_rules.specs.Contexts.{Context}
use Rattle.wasm_readers.specs.WrittenIndices.{written}
use Rattle.wasm_readers_errors.specs.declared.error.Error.{Error}
use Rattle.wasm_readers_errors.specs.declared.error.Error.TheVariants.{Refused, OutOfMemory}
use Rattle.wasm_readers_types.specs.WasmReadersValues.declared.indices.UnpackedIndex.{UnpackedIndex}
use Rattle.wasm_operators.specs.Instructions.{Instruction, instruction_at}
use Rattle.wasm_operators.specs.Maps.{map_instruction}
use Rattle.wasm_operators.proofs.Renamings.{instruction-renames}
use Rattle.wasm_spec_steps.specs.Bodies.{Surroundings}
use Rattle.wasm_spec_steps.specs.Machine.{State}
use Rattle.wasm_spec_steps.specs.Steps.{step_in, is_finished}
use Rattle.wasm_typing_validator.specs.WasmTypingSteps.InstructionSteps.{step_read, step_at}
use Rattle.wasm_validator_resources.specs.Answers.{world, written_index}
use Rattle.wasm_typing_validator.specs.TypedInstructions.{ReadsTo}
use Rattle.wasm_typing_validator.specs.StepsFromBytes.{ReadsStep}
use Rattle.wasm_validator_func.specs.Bodies.{typed_from}
use Rattle.wasm_validator_func.proofs.Machine.{here, stepped_from, read_from}

abbrev States : Type 0
States = State UnpackedIndex

abbrev by_numbers : Instruction UnpackedIndex × List ℕ → Instruction ℕ × List ℕ
by_numbers x = (map_instruction written_index x.0, x.1)

module _ (C : Context UnpackedIndex) (B : Surroundings UnpackedIndex) where
  abbrev on : ℕ → Option (States × List ℕ) → Option (States × List ℕ)
  on most o = option_and_then (λ x. typed_from (world C) B most x.0 x.1) o

  on_by_state : (most : ℕ) (more : List ℕ) (o : Option States) → stepped_from (world C) B most more o ≡ on most (o >>= λ t. Some (t, more))
  on_by_state most more None = refl
  on_by_state most more (Some t) = refl

  on_by_read : (most : ℕ) (s : States) (o : Option (Instruction UnpackedIndex × List ℕ)) → read_from (world C) B most s (option_map by_numbers o) ≡ on most (step_read (world C) B s o)
  on_by_read most s None = refl
  on_by_read most s (Some x) = on_by_state most x.1 (step_in (world C) B (map_instruction written_index x.0) s)

  -- the next step, and those behind it
  goes_on : (most : ℕ) (s : States) (bytes : List ℕ) → is_finished s ≡ false → typed_from (world C) B (suc most) s bytes ≡ on most (step_at (world C) B s bytes)
  unfolding step_at
  goes_on most s bytes open_ =
      ap (λ b. if b then here (world C) B s bytes else read_from (world C) B most s (instruction_at (λ n. n) bytes)) open_
      ∙ ap (read_from (world C) B most s) (instruction-renames written_index written bytes).is ∙ on_by_read most s (instruction_at written bytes)

  -- a step that is taken
  pub one_more : (most : ℕ) (s t : States) (bytes more : List ℕ) (all : Option (States × List ℕ))
      → length bytes ≤ most → length more < length bytes → is_finished s ≡ false → step_at (world C) B s bytes ≡ Some (t, more)
      → typed_from (world C) B most s bytes ≡ all → (m : ℕ) × (length more ≤ m) × (typed_from (world C) B m t more ≡ all)
  one_more zero s t bytes more all enough less open_ e so_far = absurd (omega arith)
  one_more (suc m) s t bytes more all enough less open_ e so_far = (m, omega arith, sym (goes_on m s bytes open_ ∙ ap (on m) e) ∙ so_far)

  none_more : (most : ℕ) (s : States) (bytes : List ℕ) (all : Option (States × List ℕ))
      → is_finished s ≡ false → step_at (world C) B s bytes ≡ None → typed_from (world C) B most s bytes ≡ all → all ≡ None
  none_more zero s bytes all open_ e so_far = sym so_far ∙ ap (λ b. if b then here (world C) B s bytes else None) open_
  none_more (suc m) s bytes all open_ e so_far = sym so_far ∙ goes_on m s bytes open_ ∙ ap (on m) e

  -- one that is refused
  pub stopped_here : (q : Error) (most : ℕ) (s : States) (bytes : List ℕ) (all : Option (States × List ℕ)) (t u : States) (more behind : List ℕ)
      → is_finished s ≡ false → ReadsStep (Err q) (step_at (world C) B s bytes) t more → typed_from (world C) B most s bytes ≡ all → ReadsTo (Err q) all u behind
  stopped_here (Refused r) most s bytes all t u more behind open_ e so_far = none_more most s bytes all open_ e so_far
  stopped_here OutOfMemory most s bytes all t u more behind open_ e so_far = tt
