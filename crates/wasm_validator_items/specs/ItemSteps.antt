-- The items of a section, each of which is read and added to what those before it left: a step of what they are added to, from the bytes that
-- it begins to those behind it. Core Specification 3.0, Binary Format, Modules, Sections.
use Rattle.std.specs.Prelude.{ℕ, zero, suc, ◌+◌, ◌-◌, ◌⊎◌, nat_le, if◌then◌else◌, Bool, List, length, Option, None}
use Rattle.std.specs.Option.{option_map}
use Rattle.wasm_validator_items.specs.Machine.{items_from}
use Rattle.wasm_validator_core.specs.declared.error.Error.{Error}
use Rattle.wasm_validator_segments.specs.WasmValidatorReferences.References.{marked}
use Rattle.wasm_validator_items.specs.SectionRefusals.{TellsFormat, Read, Added}

-- a section: so many steps, where its count keeps to the limit with what is there
abbrev pub steps_of : {S : Type 0} → (S → List ℕ → Option (S × List ℕ)) → ℕ → ℕ → ℕ → List ℕ → S → Option S
steps_of step there most count bytes s = if nat_le (there + count) most then items_from step count bytes s else None

-- a step that also notes the functions that the item names
abbrev pub naming_step : {S : Type 0} → (S → List ℕ → Option (S × List ℕ)) → (List ℕ → List ℕ) → S × List Bool → List ℕ → Option ((S × List Bool) × List ℕ)
naming_step step names p bytes = option_map (λ x. ((x.0, marked (names bytes) p.1), x.1)) (step p.0 bytes)

module _ {A : Type 0} where
  -- What is told of a step that is refused, in a part of the input that ends at this offset, where an item is read and then added: it can't be
  -- read; or it leads nowhere, and that is told of it.
  abbrev pub tells_read : {S V : Type 0} → (List ℕ → Option (V × List ℕ)) → (S → V → Option S) → (Option S → Type 0) → (ℕ → S → V → Error A → Type 0) → ℕ → S → List ℕ → Error A → Type 0
  tells_read encoded add nowhere tells stop s bytes e =
      Read (TellsFormat (stop - length bytes) stop e) (λ x. nowhere (add s x.0) × tells (stop - length bytes) s x.0 e) (encoded bytes)

  -- Steps one after another, with this offset behind the last: one is refused; or it is taken, and one behind it is refused.
  module _ {S : Type 0} (step : S → List ℕ → Option (S × List ℕ)) (tells : ℕ → S → List ℕ → Error A → Type 0) (stop : ℕ) (e : Error A) where
    abbrev pub TellsSteps : ℕ → List ℕ → S → Type 0
    TellsSteps zero bytes s = TellsFormat (stop - length bytes) stop e
    TellsSteps (suc n) bytes s = tells stop s bytes e ⊎ Added (λ x. TellsSteps n x.1 x.0) (step s bytes)
