-- Where refusals stand.
use Rattle.std.proofs.Common.{ap, ℕ, ◌+◌, ◌≤◌, length, arith}
use Rattle.std.specs.Prelude.{IfErr}
use Rattle.std.specs.declared.result.Result.{Result}
use Rattle.std.specs.declared.result.Result.TheVariants.{Ok, Err}
use Rattle.wasm_readers_errors.specs.declared.error.Error as below
use Rattle.wasm_readers_errors.specs.declared.error.Error.TheVariants as read
use Rattle.wasm_readers.specs.WasmReadersBytes.Reader.{SameInput, input, original, position_in}
use Rattle.wasm_readers.specs.WasmReadersBytes.declared.binary_reader.BinaryReader.{BinaryReader}
use Rattle.wasm_validator_core.specs.declared.error.Error.{Error}
use Rattle.wasm_validator_core.specs.declared.error.Error.TheVariants.{Refused, DuplicateExport, InFunction, OutOfMemory}
use Rattle.wasm_validator_core.specs.Errors.{IsAt, IsMemory, lifted}
use Rattle.wasm_validator_segments.specs.TypedInstructions.{StandsIn}
use Rattle.wasm_validator_items.specs.Answers.{StandsBetween, StandsBehind}

module _ {A : Type 0} where
  -- within wider bounds
  pub wider : (from to low high : ℕ) (e : Error A) → low ≤ from → to ≤ high → StandsBetween from to e → StandsBetween low high e
  wider from to low high (Refused r) a b h = let l = h.0 in let m = h.1 in (omega (arith, a, l), omega (arith, b, m))
  wider from to low high (DuplicateExport name offset) a b h = let l = h.0 in let m = h.1 in (omega (arith, a, l), omega (arith, b, m))
  wider from to low high (InFunction index r) a b h = let l = h.0 in let m = h.1 in (omega (arith, a, l), omega (arith, b, m))
  wider from to low high OutOfMemory a b h = tt

  -- at an offset between the bounds
  pub at_between : (place from to : ℕ) (e : Error A) → from ≤ place → place ≤ to → IsAt place e → StandsBetween from to e
  at_between place from to (Refused r) a b h = (omega (arith, a, h), omega (arith, b, h))
  at_between place from to (DuplicateExport name offset) a b h = (omega (arith, a, h), omega (arith, b, h))
  at_between place from to (InFunction index r) a b h = (omega (arith, a, h), omega (arith, b, h))
  at_between place from to OutOfMemory a b h = tt

  -- a refusal of memory stands nowhere
  pub memory_behind : (r : BinaryReader) (e : Error A) → IsMemory e → StandsBehind r e
  memory_behind r (Refused x) h = absurd h
  memory_behind r (DuplicateExport name offset) h = absurd h
  memory_behind r (InFunction index x) h = absurd h
  memory_behind r OutOfMemory h = tt

  -- behind what was read further
  pub behind_earlier : (r s : BinaryReader) (e : Error A) → SameInput r s → position_in r ≤ position_in s → StandsBehind s e → StandsBehind r e
  behind_earlier r s e same onward h =
      let starts = same.1 in
      let ends = ap length same.0 in
      wider (original s + position_in s) (original s + length (input s)) (original r + position_in r) (original r + length (input r)) e
      (omega (arith, starts, onward)) (omega (arith, starts, ends)) h

  -- behind a section's count, and so in the section
  pub section_place : (s : BinaryReader) (e : Error A) → StandsBehind s e → StandsBetween (original s) (original s + length (input s)) e
  section_place s e h = wider (original s + position_in s) (original s + length (input s)) (original s) (original s + length (input s)) e (omega arith) (omega arith) h

  pub in_section : {T : Type 0} (r : Result T (Error A)) (s : BinaryReader) → IfErr r (StandsBehind s) → IfErr r (StandsBetween (original s) (original s + length (input s)))
  in_section (Ok x) s h = tt
  in_section (Err e) s h = section_place s e h

-- the refusal of what is read, as that of an item
pub lifted_behind : (A : Type 0) (r : BinaryReader) (e : below.Error) → StandsIn r e → StandsBehind {A = A} r (lifted e)
lifted_behind A r (read.Refused x) h = h
lifted_behind A r read.OutOfMemory h = tt
