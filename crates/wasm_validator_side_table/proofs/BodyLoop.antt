-- One step more on the way through a body.
use Rattle.std.proofs.Common.{◌≡◌, ◌≤◌, ◌<◌, ◌∙◌, sym, ap, subst, ℕ, max, false, List, length, Option, Some, Err}
use Rattle.wasm_spec.specs.MatchingTests.{World}
use Rattle.wasm_spec_rules.specs.Contexts.{Context}
use Rattle.wasm_readers.specs.WasmReadersBytes.Reader.{SameInput, position_in, place_of_next, rest}
use Rattle.wasm_readers.specs.WasmReadersBytes.declared.binary_reader.BinaryReader.{BinaryReader}
use Rattle.wasm_readers_errors.specs.declared.error.Error.{Error}
use Rattle.wasm_readers_types.specs.WasmReadersValues.declared.indices.UnpackedIndex.{UnpackedIndex}
use Rattle.wasm_operators.proofs.ExpressionEnds.{shorter}
use Rattle.wasm_validator_side_notes.specs.WasmTypingValidator.WasmSpecSteps.Bodies.{Surroundings}
use Rattle.wasm_validator_side_notes.specs.WasmTypingValidator.WasmSpecSteps.Machine.{State}
use Rattle.wasm_validator_side_notes.specs.WasmTypingValidator.WasmSpecSteps.Steps.{is_finished}
use Rattle.wasm_validator_resources.specs.Answers.{world}
use Rattle.wasm_validator_side_notes.specs.WasmTypingValidator.WasmTypingStacks.BodyStacks.{Kept}
use Rattle.wasm_validator_side_notes.specs.WasmTypingValidator.WasmTypingSteps.InstructionSteps.{step_at}
use Rattle.wasm_validator_side_notes.specs.WasmTypingValidator.BodyTyping.{typed_state}
use Rattle.wasm_validator_side_notes.specs.WasmTypingValidator.TypedInstructions.{within, ReadsTo}
use Rattle.wasm_validator_side_notes.specs.WasmTypingValidator.StepsFromBytes.{ReadsStep, stepped}
use Rattle.wasm_validator_side_notes.specs.WasmTypingValidator.declared.validator.OperatorValidator.{OperatorValidator}
use Rattle.wasm_validator_side_notes.proofs.WasmTypingValidator.CodeSurroundings.{kept_around}
use Rattle.wasm_validator_side_notes.specs.WasmValidatorFunc.Bodies.{typed_from}
use Rattle.wasm_validator_side_notes.proofs.WasmValidatorFunc.ByteSteps.{one_more, stopped_here}
use Rattle.wasm_validator_side_notes.specs.WasmSpecSideTables.OnePassTables.{Built}
use Rattle.wasm_validator_side_notes.specs.Tables.{Advances, Reaches}
use Rattle.wasm_validator_side_notes.proofs.NextInstructions.{reaches_more}

module _ {A : Type 0} (C : Context UnpackedIndex) (v w : OperatorValidator A) (old : BinaryReader) (kept : Kept v.stacks w.stacks) where
  -- the table
  pub table_more :
      (u : OperatorValidator A) (first new : BinaryReader) (S T U : Built) (high : ℕ)
      → Reaches (world C) (within v C) (typed_state v) S (place_of_next first) (rest first) (typed_state w) T high (place_of_next old) (rest old)
      → Advances (world C) (within w C) (typed_state w) T (place_of_next old) (rest old) (typed_state u) U (place_of_next new) (rest new)
      → Reaches (world C) (within v C) (typed_state v) S (place_of_next first) (rest first) (typed_state u) U (max high (length (typed_state u).operands)) (place_of_next new) (rest new)
  table_more u first new S T U high reaches advances =
      let step : Advances (world C) (within v C) (typed_state w) T (place_of_next old) (rest old) (typed_state u) U (place_of_next new) (rest new) =
      subst (λ (B : Surroundings UnpackedIndex). Advances (world C) B (typed_state w) T (place_of_next old) (rest old) (typed_state u) U (place_of_next new) (rest new)) (kept_around v.stacks w.stacks C kept) advances in
      reaches_more (world C) (within v C) (typed_state v) (typed_state w) (typed_state u) S T U (place_of_next first) high (place_of_next old) (place_of_next new) (rest first) (rest old) (rest new) reaches step

  -- by the height once its operands are counted
  pub table_raised :
      (first : BinaryReader) (S T : Built) (high count next : ℕ) → count ≡ length (typed_state w).operands → next ≡ max high count
      → Reaches (world C) (within v C) (typed_state v) S (place_of_next first) (rest first) (typed_state w) T (max high (length (typed_state w).operands)) (place_of_next old) (rest old)
      → Reaches (world C) (within v C) (typed_state v) S (place_of_next first) (rest first) (typed_state w) T next (place_of_next old) (rest old)
  table_raised first S T high count next many e reaches =
      subst (λ (n : ℕ). Reaches (world C) (within v C) (typed_state v) S (place_of_next first) (rest first) (typed_state w) T n (place_of_next old) (rest old)) (sym (e ∙ ap (λ (n : ℕ). max high n) many)) reaches

  module _ (most : ℕ) (all : Option (State UnpackedIndex × List ℕ)) (open_ : is_finished (typed_state w) ≡ false) (so_far : typed_from (world C) (within v C) most (typed_state w) (rest old) ≡ all) where
    -- the instructions
    pub far_more : (u : OperatorValidator A) (new : BinaryReader) → length (rest old) ≤ most → SameInput old new → position_in old < position_in new → stepped C w.stacks old ≡ Some (typed_state u, rest new)
        → (m : ℕ) × (length (rest new) ≤ m) × (typed_from (world C) (within v C) m (typed_state u) (rest new) ≡ all)
    far_more u new enough same further step =
        one_more C (within v C) most (typed_state w) (typed_state u) (rest old) (rest new) all enough (shorter old new same further) open_
        (subst (λ B. step_at (world C) B (typed_state w) (rest old) ≡ Some (typed_state u, rest new)) (kept_around v.stacks w.stacks C kept) step) so_far

    pub far_stopped : (e : Error) (t x : State UnpackedIndex) (more behind : List ℕ) → ReadsStep (Err e) (stepped C w.stacks old) t more → ReadsTo (Err e) all x behind
    far_stopped e t x more behind step =
        stopped_here C (within v C) e most (typed_state w) (rest old) all t x more behind open_
        (subst (λ B. ReadsStep (Err e) (step_at (world C) B (typed_state w) (rest old)) t more) (kept_around v.stacks w.stacks C kept) step) so_far

-- from where nothing changed
pub stepped_same : {A : Type 0} (C D : Context UnpackedIndex) (v w : OperatorValidator A) (r s : BinaryReader) → D ≡ C → Kept v.stacks w.stacks → typed_state w ≡ typed_state v → s ≡ r → stepped D w.stacks s ≡ stepped C v.stacks r
stepped_same C D v w r s d k e f =
    ap (λ (X : Context UnpackedIndex). step_at (world X) (within w X) (typed_state w) (rest s)) d
    ∙ ap (λ (x : BinaryReader). step_at (world C) (within w C) (typed_state w) (rest x)) f
    ∙ ap (λ (t : State UnpackedIndex). step_at (world C) (within w C) t (rest r)) e
    ∙ ap (λ (B : Surroundings UnpackedIndex). step_at (world C) B (typed_state v) (rest r)) (kept_around v.stacks w.stacks C k)

-- what was reached, at a reader that stands there
pub reaches_at : (W : World UnpackedIndex) (B : Surroundings UnpackedIndex) (s : State UnpackedIndex) (T : Built) (at : ℕ) (bytes : List ℕ) (t : State UnpackedIndex) (U : Built) (height end behind : ℕ) (more next : List ℕ)
    → behind ≡ end → next ≡ more → Reaches W B s T at bytes t U height end more → Reaches W B s T at bytes t U height behind next
reaches_at W B s T at bytes t U height end behind more next e f r =
    let a = subst (λ (n : ℕ). Reaches W B s T at bytes t U height n more) (sym e) r in
    subst (λ (xs : List ℕ). Reaches W B s T at bytes t U height behind xs) (sym f) a
