-- Which functions of a module count as referenced: those that its exports and element segments name, and those that its constant
-- expressions name. Core Specification 3.0, Validation, Modules (the set refs).
use Rattle.std.specs.Prelude.{ℕ, zero, suc, ◌==◌, if◌then◌else◌, Bool, true, false, List, [], ◌∷◌, ◌++◌, Option, Some, None}
use Rattle.std.specs.List.{flat_map}
use Rattle.wasm_spec.specs.BinaryModules.{export_at}
use Rattle.wasm_spec.specs.BinarySections.{TableEntry, GlobalEntry, Element, ElementItems, functions, expressions, SegmentMode, passive, active, declarative, table_entry_at, global_entry_at, element_at}
use Rattle.wasm_spec.specs.Framing.{Piece, Version, Custom, Counted, Start, DataCount, CodeStart, CodeEntry, Unknown, End}
use Rattle.wasm_spec.specs.Values.{items_at}
use Rattle.wasm_spec_validity.specs.WasmSpecSteps.WasmSpecRules.LinkRules.{exported_functions}
use Rattle.wasm_spec_validity.specs.WasmSpecSteps.WasmSpecRules.Parts.{Expression}
use Rattle.wasm_readers.specs.WrittenIndices.{written}
use Rattle.wasm_spec_validity.specs.Expressions.{expression_at, named}
use Rattle.wasm_validator_references.specs.Notes.{noting}

-- A flag stands at a function's index, and is set where the function counts. One more function: where there are no flags up to it, they
-- are there, not set.
abbrev pub mark : ℕ → List Bool → List Bool
mark zero [] = true ∷ []
mark zero (b ∷ bs) = true ∷ bs
mark (suc i) [] = false ∷ mark i []
mark (suc i) (b ∷ bs) = b ∷ mark i bs

-- some more functions, one after another
abbrev pub marked : List ℕ → List Bool → List Bool
marked xs flags = noting mark xs flags

-- the functions that the items of sections name
abbrev pub optional_names : Option Expression → List ℕ
optional_names None = []
optional_names (Some e) = named e

abbrev pub table_names : {R : Type 0} → TableEntry Expression R → List ℕ
table_names t = optional_names t.init

abbrev pub global_names : {R : Type 0} → GlobalEntry Expression R → List ℕ
global_names g = named g.init

abbrev pub mode_names : SegmentMode Expression → List ℕ
mode_names passive = []
mode_names declarative = []
mode_names (active x e) = named e

abbrev pub items_names : {R : Type 0} → ElementItems Expression R → List ℕ
items_names (functions xs) = xs
items_names (expressions r es) = flat_map named es

abbrev pub element_names : {R : Type 0} → Element Expression R → List ℕ
element_names e = mode_names e.mode ++ items_names e.items

-- the functions that so many items name, where they can be read to the end of their section
abbrev pub names_or_none : {V : Type 0} → (V → List ℕ) → Option (List V) → List ℕ
names_or_none names None = []
names_or_none names (Some xs) = flat_map names xs

abbrev pub names_in : {V : Type 0} → (List ℕ → Option (V × List ℕ)) → (V → List ℕ) → ℕ → List ℕ → List ℕ
names_in reads names count bytes = names_or_none names (items_at reads count bytes)

abbrev pub names_of_tables : ℕ → List ℕ → List ℕ
names_of_tables count bytes = names_in (table_entry_at expression_at written) table_names count bytes

abbrev pub names_of_globals : ℕ → List ℕ → List ℕ
names_of_globals count bytes = names_in (global_entry_at expression_at written) global_names count bytes

abbrev pub names_of_exports : ℕ → List ℕ → List ℕ
names_of_exports count bytes = names_in export_at exported_functions count bytes

abbrev pub names_of_elements : ℕ → List ℕ → List ℕ
names_of_elements count bytes = names_in (element_at expression_at written) element_names count bytes

-- the functions that the item names which the bytes begin with, if they begin with one
abbrev pub names_if : {V : Type 0} → (V → List ℕ) → Option (V × List ℕ) → List ℕ
names_if names None = []
names_if names (Some x) = names x.0

abbrev pub names_at : {V : Type 0} → (List ℕ → Option (V × List ℕ)) → (V → List ℕ) → List ℕ → List ℕ
names_at reads names bytes = names_if names (reads bytes)

abbrev pub names_of_expression : List ℕ → List ℕ
names_of_expression bytes = names_at expression_at named bytes

abbrev pub names_of_table : List ℕ → List ℕ
names_of_table bytes = names_at (table_entry_at expression_at written) table_names bytes

abbrev pub names_of_global : List ℕ → List ℕ
names_of_global bytes = names_at (global_entry_at expression_at written) global_names bytes

abbrev pub names_of_element : List ℕ → List ℕ
names_of_element bytes = names_at (element_at expression_at written) element_names bytes

-- those that a section names, by its id. The offset of a data segment is a number, and names none.
abbrev pub section_names : ℕ → ℕ → List ℕ → List ℕ
section_names id count bytes =
    if id == 4 then names_of_tables count bytes
    else (if id == 6 then names_of_globals count bytes
    else (if id == 7 then names_of_exports count bytes
    else (if id == 9 then names_of_elements count bytes
    else [])))

abbrev pub piece_names : Piece → List ℕ
piece_names (Version number kind) = []
piece_names (Custom name bytes) = []
piece_names (Counted id count bytes) = section_names id count bytes
piece_names (Start x) = []
piece_names (DataCount n) = []
piece_names (CodeStart n size) = []
piece_names (CodeEntry bytes) = []
piece_names (Unknown id bytes) = []
piece_names End = []
