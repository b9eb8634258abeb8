-- What a section adds whose items are read and then added is what its items add one after another; and what is told of one item.
use Rattle.std.proofs.Common.{◌≡◌, subst, ℕ, ◌+◌, ◌-◌, ◌≤◌, Bool, true, false, if◌then◌else◌, List, length, Option, Some, None, arith}
use Rattle.std.specs.Prelude.{IsTrue, IfErr, ⊤}
use Rattle.std.specs.declared.result.Result.{Result}
use Rattle.std.specs.declared.result.Result.TheVariants.{Ok, Err}
use Rattle.std.proofs.lemmas.List.{length-drop}
use Rattle.wasm_readers_bytes.specs.Reader.{input, original, position_in, rest}
use Rattle.wasm_readers_bytes.specs.declared.binary_reader.BinaryReader.{BinaryReader}
use Rattle.wasm_readers_errors.specs.declared.error.Refusal.{Refusal}
use Rattle.wasm_validator_items.specs.ItemSteps.{steps_of, tells_read}
use Rattle.wasm_validator_items.specs.WasmValidatorCore.Answers.{Adds, AddsWhere, IsNowhere}
use Rattle.wasm_validator_items.specs.WasmValidatorCore.Errors.{IsAt}
use Rattle.wasm_validator_items.specs.WasmValidatorCore.AddedItemRefusals.{Tells}
use Rattle.wasm_validator_items.specs.WasmValidatorCore.declared.error.Error.{Error}
use Rattle.wasm_validator_items.specs.WasmValidatorCore.declared.error.Error.TheVariants.{Refused, DuplicateExport, InFunction, OutOfMemory}
use Rattle.wasm_validator_items.proofs.SectionLoop.{adds_items, steps_are_items, adds_where, added_told, told_at}
use Rattle.wasm_validator_sections.specs.Sections.{read_one, read_section}
use Rattle.wasm_validator_sections.specs.SectionFaults.{IsNone, OfContent, TellsAt}

module _ {A T S V : Type 0} (reads : List ℕ → Option (V × List ℕ)) (adds : S → V → Option S) (there most count : ℕ) (bytes : List ℕ) (r : Result T (Error A)) (s t : S) where
  -- where only some of what they lead to is accepted
  pub added_where : (P : S → Type 0) → AddsWhere P r (steps_of (read_one reads adds) there most count bytes s) t → AddsWhere P r (read_section reads adds there most count bytes s) t
  added_where P h = subst (λ o. AddsWhere P r o t) (steps_are_items reads adds there most count bytes s) h

  -- where a feature is on without which there is no such section
  pub added_if : (on : Bool) → IsTrue on → AddsWhere (λ x. ⊤) r (steps_of (read_one reads adds) there most count bytes s) t → Adds r (if on then read_section reads adds there most count bytes s else None) t
  added_if true is h = adds_items reads adds there most count bytes r s t h
  added_if false is h = absurd cc

-- an item that is read from here, and then added
module _ {A T S V : Type 0} (reads : List ℕ → Option (V × List ℕ)) (adds : S → V → Option S) (reader : BinaryReader) (place : ℕ) (v : V) (more : List ℕ) (s : S) (r : Result T (Error A)) (new : S)
    (read : reads (rest reader) ≡ Some (v, more)) (here : place ≡ original reader + position_in reader) (within : position_in reader ≤ length (input reader)) where
  abbrev stop : ℕ
  stop = original reader + length (input reader)

  from_end : place ≡ stop - length (rest reader)
  from_end = let left = length-drop (position_in reader) (input reader) in omega (arith, here, within, left)

  -- what its call tells is told of it
  pub told_of_added : (told : ℕ → S → V → Option Refusal) → Adds r (adds s v) new → Tells r (told place s v) → IfErr r (IsAt place)
      → IfErr r (OfContent (tells_read reads adds IsNone (λ at u w e. TellsAt at (told at u w) e) stop s (rest reader)))
  told_of_added told added tells at =
      added_told reads adds IsNone (λ (p : ℕ) (u : S) (w : V) (e : Error A). TellsAt p (told p u w) e) (λ (x : S). ⊤) stop s (rest reader) v more read r place from_end
      (told_at r (adds s v) new place (told place s v) added tells at)

  -- the same of what is told by a relation
  pub told_of_read : (tells : ℕ → S → V → Error A → Type 0) → IfErr r (OfContent (λ e. IsNone (adds s v) × tells place s v e)) → IfErr r (OfContent (tells_read reads adds IsNone tells stop s (rest reader)))
  told_of_read tells h = added_told reads adds IsNone tells (λ (x : S). ⊤) stop s (rest reader) v more read r place from_end h

  -- where only some of what it leads to is accepted
  module _ (P : S → Type 0) (added : AddsWhere P r (adds s v) new) where
    tells_nowhere : (Q : Error A → Type 0) (a : Result T (Error A)) → AddsWhere P a (adds s v) new → IfErr a (IsAt place) → IfErr a Q → IfErr a (OfContent (λ e. IsNowhere P (adds s v) × (IsAt place e × Q e)))
    tells_nowhere Q (Ok x) h at q = tt
    tells_nowhere Q (Err (Refused x)) h at q = (h, (at, q))
    tells_nowhere Q (Err (DuplicateExport name offset)) h at q = (h, (at, q))
    tells_nowhere Q (Err (InFunction index x)) h at q = absurd h
    tells_nowhere Q (Err OutOfMemory) h at q = tt

    pub told_where : (tells : ℕ → S → V → Error A → Type 0) → IfErr r (IsAt place) → IfErr r (tells place s v)
        → IfErr r (OfContent (tells_read reads adds (IsNowhere P) (λ at u w e. IsAt at e × tells at u w e) stop s (rest reader)))
    told_where tells at q =
        added_told reads adds (IsNowhere P) (λ (p : ℕ) (u : S) (w : V) (e : Error A). IsAt p e × tells p u w e) P stop s (rest reader) v more read r place from_end
        (tells_nowhere (tells place s v) r added at q)

    pub adds_read : AddsWhere (λ (x : S × List ℕ). P x.0) r (read_one reads adds s (rest reader)) (new, more)
    adds_read = adds_where reads adds (IsNowhere P) (λ (p : ℕ) (u : S) (w : V) (e : Error A). ⊤) P stop s (rest reader) v more read r new added
