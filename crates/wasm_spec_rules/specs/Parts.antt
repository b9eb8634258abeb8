-- What a module is made of: the items of its sections, each in the order in which they are written.
-- Core Specification 3.0, Structure, Modules, and Binary Format, Modules.
use Rattle.std.specs.Prelude.{ℕ, Bool, ◌≡◌, ◌==◌, if◌then◌else◌, List, [], ◌∷◌, ◌++◌, map, Option, Some, None}
use Rattle.std.specs.Option.{option_map, option_and_then}
use Rattle.std.specs.List.{flat_map}
use Rattle.wasm_readers_errors.specs.WasmSpec.Syntax.{Rec, Memory}
use Rattle.wasm_readers_errors.specs.WasmSpec.Values.{u32_at, items_at}
use Rattle.wasm_readers_errors.specs.WasmSpec.BinaryTypes.{rec_at, memory_at, tag_at}
use Rattle.wasm_readers_errors.specs.WasmSpec.BinaryModules.{Import, Export, import_at, entry_at, export_at}
use Rattle.wasm_readers_errors.specs.WasmSpec.BinarySections.{TableEntry, GlobalEntry, Element, ElementItems, functions, expressions, Data, SegmentMode, passive, active, declarative, table_entry_at, global_entry_at, element_at, data_at}
use Rattle.wasm_readers_errors.specs.WasmSpec.Framing.{Piece, Counted, Start, DataCount, CodeEntry}

-- a constant expression, as the bytes of its instructions
abbrev pub Expression : Type 0
Expression = List ℕ

-- The parts of a module. Functions and tags are written as their type's index, bodies as their bytes.
pub record Parts : Type 0 where
  pub groups : List (Rec ℕ)
  pub imports : List (Import ℕ)
  pub functions : List ℕ
  pub tables : List (TableEntry Expression ℕ)
  pub memories : List Memory
  pub tags : List ℕ
  pub globals : List (GlobalEntry Expression ℕ)
  pub exports : List Export
  pub starts : List ℕ
  pub elements : List (Element Expression ℕ)
  pub data_counts : List ℕ
  pub bodies : List (List ℕ)
  pub segments : List (Data Expression)

-- a type index, as it is written
abbrev pub index : ℕ → ℕ
index x = x

-- the items of a piece, if it is the section with this id, read to its end
abbrev pub items_of : {V : Type 0} → ℕ → (List ℕ → Option (V × List ℕ)) → Piece → Option (List V)
items_of id reads (Counted i n bytes) = if i == id then items_at reads n bytes else Some []
items_of id reads _ = Some []

-- the items of all sections with this id
abbrev pub all_items : {V : Type 0} → ℕ → (List ℕ → Option (V × List ℕ)) → List Piece → Option (List V)
all_items id reads [] = Some []
all_items id reads (p ∷ ps) = option_and_then (λ xs. option_map (λ ys. xs ++ ys) (all_items id reads ps)) (items_of id reads p)

-- the imports of all entries, in their order
abbrev pub in_order : {R : Type 0} → List (List (Import R)) → List (Import R)
in_order entries = flat_map (λ is. is) entries

-- The imports of a section of so many entries, or of all import sections: with compact imports an entry may stand for
-- several, or for none; without them it is one.
abbrev pub section_imports : {R : Type 0} → (ℕ → R) → Bool → ℕ → List ℕ → Option (List (Import R))
section_imports to compact n bytes = if compact then option_map in_order (items_at (entry_at to) n bytes) else items_at (import_at to) n bytes

abbrev pub imports_of : Bool → List Piece → Option (List (Import ℕ))
imports_of compact pieces = if compact then option_map in_order (all_items 2 (entry_at index) pieces) else all_items 2 (import_at index) pieces

abbrev pub starts_of : Piece → List ℕ
starts_of (Start x) = x ∷ []
starts_of _ = []

abbrev pub data_counts_of : Piece → List ℕ
data_counts_of (DataCount n) = n ∷ []
data_counts_of _ = []

abbrev pub bodies_of : Piece → List (List ℕ)
bodies_of (CodeEntry bytes) = bytes ∷ []
bodies_of _ = []

-- These are the parts of the pieces, where `expression_at` reads a constant expression, and entries of imports may be
-- compact or not: each section's items can be read to its end. There is one such record at most.
pub record HasParts (compact : Bool) (expression_at : List ℕ → Option (Expression × List ℕ)) (pieces : List Piece) (parts : Parts) : Type 0 where
  pub groups : all_items 1 (rec_at index) pieces ≡ Some parts.groups
  pub imports : imports_of compact pieces ≡ Some parts.imports
  pub functions : all_items 3 u32_at pieces ≡ Some parts.functions
  pub tables : all_items 4 (table_entry_at expression_at index) pieces ≡ Some parts.tables
  pub memories : all_items 5 memory_at pieces ≡ Some parts.memories
  pub globals : all_items 6 (global_entry_at expression_at index) pieces ≡ Some parts.globals
  pub exports : all_items 7 export_at pieces ≡ Some parts.exports
  pub starts : flat_map starts_of pieces ≡ parts.starts
  pub elements : all_items 9 (element_at expression_at index) pieces ≡ Some parts.elements
  pub bodies : flat_map bodies_of pieces ≡ parts.bodies
  pub segments : all_items 11 (data_at expression_at) pieces ≡ Some parts.segments
  pub data_counts : flat_map data_counts_of pieces ≡ parts.data_counts
  pub tags : all_items 13 tag_at pieces ≡ Some parts.tags

-- the constant expressions of an offset, of a segment's items and of a table
abbrev pub mode_expressions : SegmentMode Expression → List Expression
mode_expressions passive = []
mode_expressions declarative = []
mode_expressions (active x e) = e ∷ []

abbrev pub items_expressions : ElementItems Expression ℕ → List Expression
items_expressions (functions xs) = []
items_expressions (expressions ty es) = es

abbrev pub table_expressions : Option Expression → List Expression
table_expressions None = []
table_expressions (Some e) = e ∷ []

-- all constant expressions of a module: of tables, globals, element segments and data
abbrev pub expressions_of : Parts → List Expression
expressions_of parts =
    flat_map (λ (t : TableEntry Expression ℕ). table_expressions t.init) parts.tables
    ++ (map (λ (g : GlobalEntry Expression ℕ). g.init) parts.globals
    ++ (flat_map (λ (e : Element Expression ℕ). mode_expressions e.mode ++ items_expressions e.items) parts.elements
    ++ flat_map (λ (d : Data Expression). mode_expressions d.mode) parts.segments))
