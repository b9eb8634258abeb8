-- The functions that lists and element segments name, as they are checked part by part.
-- Core Specification 3.0, Validation, Modules (the set refs), and Binary Format, Modules (Element Section).
use Rattle.std.specs.Prelude.{ℕ, if◌then◌else◌, List, [], ◌∷◌, Some, None}
use Rattle.wasm_spec.specs.Values.{u32_at}
use Rattle.wasm_spec.specs.BinaryTypes.{has_bit}
use Rattle.wasm_spec.specs.BinarySections.{element_from}
use Rattle.wasm_readers.specs.WrittenIndices.{written}
use Rattle.wasm_validator_constants.specs.WasmValidatorReferences.WasmSpecValidity.Expressions.{expression_at, named}
use Rattle.wasm_validator_constants.specs.WasmValidatorReferences.Notes.{names_along}
use Rattle.wasm_validator_constants.specs.WasmValidatorReferences.References.{names_at, names_of_expression, element_names}
use Rattle.wasm_validator_segments.specs.Elements.{index_if}

-- an index names its function
abbrev pub itself : ℕ → List ℕ
itself x = x ∷ []

-- so many indices of functions, and so many expressions
abbrev pub names_of_functions : ℕ → List ℕ → List ℕ
names_of_functions count bytes = names_along u32_at itself count bytes

abbrev pub names_of_expressions : ℕ → List ℕ → List ℕ
names_of_expressions count bytes = names_along expression_at named count bytes

-- a list of such, behind its count
abbrev pub names_of_list : (ℕ → List ℕ → List ℕ) → List ℕ → List ℕ
names_of_list names bytes = elim (u32_at bytes) [ None ↦ [] | Some n ↦ names n.0 n.1 ]

-- the offset of a segment with this flag, if it has one
abbrev pub names_of_place : ℕ → List ℕ → List ℕ
names_of_place flag bytes = if has_bit flag 1 then [] else (elim (index_if (has_bit flag 2) bytes) [ None ↦ [] | Some x ↦ names_of_expression x.1 ])

-- its items
abbrev pub names_of_items : ℕ → List ℕ → List ℕ
names_of_items flag bytes = if has_bit flag 4 then names_of_list names_of_expressions bytes else names_of_list names_of_functions bytes

-- the element segment behind its flag, as the grammar reads it
abbrev pub names_of_element_from : ℕ → List ℕ → List ℕ
names_of_element_from flag bytes = names_at (element_from expression_at written flag) element_names bytes
