-- What each section adds to a module, in the words of the definition: behind any lists that the module has so far a
-- section is accepted exactly where its bytes are items that keep their rules on these lists and the limit, and then the
-- list has these items behind. Core Specification 3.0, Validation, Modules.
use Rattle.std.specs.Prelude.{ℕ, ◌≡◌, ◌↔◌, ◌≤◌, ◌+◌, ◌++◌, List, [], ◌∷◌, length, Option, Some, IsTrue}
use Rattle.std.specs.List.{All}
use Rattle.wasm_spec.specs.Syntax.{Rec, reference, map_ref, map_val}
use Rattle.wasm_spec.specs.Values.{u32_at, items_at}
use Rattle.wasm_spec.specs.BinaryModules.{Import, export_at}
use Rattle.wasm_spec.specs.BinaryTypes.{rec_at, memory_at, tag_at}
use Rattle.wasm_spec.specs.BinarySections.{TableEntry, GlobalEntry, Element, Data, table_entry_at, global_entry_at, element_at, data_at}
use Rattle.wasm_spec.specs.Closing.{closed, positions}
use Rattle.wasm_spec.specs.Features.{Features, canonical}
use Rattle.wasm_spec.specs.GroupRules.{IsValidType}
use Rattle.wasm_spec.specs.Trees.{RecTree, DefType, declared}
use Rattle.wasm_spec_rules.specs.FeatureFlags.{features_of}
use Rattle.wasm_spec_rules.specs.Parts.{Expression, index, section_imports}
use Rattle.wasm_spec_rules.specs.IndexSpaces.{IndexSpaces, IsFunctionType}
use Rattle.wasm_spec_rules.specs.ItemRules.{IsValidTableEntry, IsValidMemory, IsValidTag, IsValidGlobal}
use Rattle.wasm_spec_rules.specs.LinkRules.{IsValidExport}
use Rattle.wasm_spec_rules.specs.Limits.{most_types, most_imports, most_functions, most_tables, most_memories, most_globals, most_tags, most_exports, most_elements, most_segments}
use Rattle.wasm_readers_types.specs.WasmReadersValues.declared.indices.TheConstants.{MAX_IDS}
use Rattle.wasm_readers.specs.WrittenIndices.{written}
use Rattle.wasm_validator_canonical.specs.Groups.{placed, held}
use Rattle.wasm_validator_sections.specs.WasmValidatorChecks.Laws.{Stand}
use Rattle.wasm_validator_types.specs.Spaces.{Spaces}
use Rattle.wasm_validator_sections.specs.WasmValidatorCore.Answers.{TypesSoFar}
use Rattle.wasm_validator_sections.specs.WasmLawsCore.Exports.{HasSpaces, FitExports, with_exports}
use Rattle.wasm_validator_sections.specs.WasmLawsCore.Imports.{KeepsLimits, FitsImport, with_entry}
use Rattle.wasm_validator_sections.specs.WasmLawsCore.ModuleParts.{listed, listed_table, listed_global, listed_element}
use Rattle.wasm_validator_sections.specs.WasmLawsCore.ListedTypes.{types_declare}
use Rattle.wasm_spec_validity.specs.Expressions.{expression_at}
use Rattle.wasm_validator_sections.specs.Entries.{is_constant_of, is_constant_or_none, are_items, may_be_placed, may_be_stored}
use Rattle.wasm_validator_sections.specs.WasmLawsModules.Maps.{map_items}
use Rattle.wasm_validator_sections.specs.ModuleNotes.{Noted, naming}
use Rattle.wasm_validator_states.specs.ValidatorStages.{Standing, in_module, HoldsValid}
use Rattle.wasm_validator_sections.specs.WasmValidatorReferences.References.{names_of_tables, names_of_globals, names_of_exports, names_of_elements}
use Rattle.wasm_validator_states.specs.States.{after_section}

-- A module is being read, before the start of its code: the types of all modules, its lists, what is noted of it, and its own types,
-- which stand in the list of types under the ids of its list.
pub record IsReading (s : Standing) (us : TypesSoFar) (m : Spaces) (n : Noted) (types : List DefType) : Type 0 where
  pub stage : s.stage ≡ in_module us m n
  pub stand : Stand (canonical (features_of s.features)) us m.types types

-- The bytes are so many items of which each keeps its rule, with so many that are there they keep to the limit, and the
-- module has the lists that they make, and this is noted of it.
pub record HasAdded {V : Type 0} (reads : List ℕ → Option (V × List ℕ)) (rule : V → Type 0) (there most : ℕ) (lists : List V → Spaces) (old new : Standing) (us : TypesSoFar) (n : Noted) (count : ℕ) (bytes : List ℕ) : Type 0 where
  pub items : List V
  pub read : items_at reads count bytes ≡ Some items
  pub rules : All rule items
  pub few : there + length items ≤ most
  pub after : new ≡ record old { stage = in_module us (lists items) n }

abbrev pub FunctionsAdd : Type 0
FunctionsAdd =
    (old new : Standing) (us : TypesSoFar) (m : Spaces) (n : Noted) (types : List DefType) (count : ℕ) (bytes : List ℕ) → IsReading old us m n types
    → (after_section old 3 count bytes ≡ Some new)
    ↔ HasAdded u32_at (IsFunctionType types) (length m.functions) most_functions (λ xs. record m { functions = m.functions ++ xs }) old new us n count bytes

abbrev pub MemoriesAdd : Type 0
MemoriesAdd =
    (old new : Standing) (us : TypesSoFar) (m : Spaces) (n : Noted) (types : List DefType) (count : ℕ) (bytes : List ℕ) → IsReading old us m n types
    → (after_section old 5 count bytes ≡ Some new)
    ↔ HasAdded memory_at (IsValidMemory (features_of old.features)) (length m.memories) (most_memories (features_of old.features)) (λ ms. record m { memories = m.memories ++ ms }) old new us n count bytes

-- tags, be they none, are there with exceptions alone
abbrev pub TagsAdd : Type 0
TagsAdd =
    (old new : Standing) (us : TypesSoFar) (m : Spaces) (n : Noted) (types : List DefType) (count : ℕ) (bytes : List ℕ) → IsReading old us m n types
    → (after_section old 13 count bytes ≡ Some new)
    ↔ ((IsTrue (features_of old.features).exceptions)
    × HasAdded tag_at (IsValidTag (features_of old.features) types) (length m.tags) most_tags (λ xs. record m { tags = m.tags ++ xs }) old new us n count bytes)

-- Each item keeps its rule on the lists that those before it have made of the first, and they make the last.
abbrev pub AddsEach : {V : Type 0} → (Spaces → V → Type 0) → (Spaces → V → Spaces) → Spaces → List V → Spaces → Type 0
AddsEach rule next s [] t = s ≡ t
AddsEach rule next s (x ∷ xs) t = rule s x × AddsEach rule next (next s x) xs t

-- The bytes are so many items of which each keeps its rule on the lists so far, with so many that are there they keep to
-- the limit, and the module has the lists that they make.
pub record HasAddedEach {V : Type 0} (reads : List ℕ → Option (V × List ℕ)) (rule : Spaces → V → Type 0) (next : Spaces → V → Spaces) (there most : ℕ) (old new : Standing) (us : TypesSoFar) (m : Spaces) (n : Noted) (count : ℕ) (bytes : List ℕ) : Type 0 where
  pub items : List V
  pub read : items_at reads count bytes ≡ Some items
  pub few : there + length items ≤ most
  pub lists : Spaces
  pub added : AddsEach rule next m items lists
  pub after : new ≡ record old { stage = in_module us lists n }

-- Items with constant expressions, each typed in the module as far as it has been read, over what the ids of all types declare.
abbrev pub FitsTable : Features → TypesSoFar → List DefType → Spaces → TableEntry Expression ℕ → Type 0
FitsTable F us types m t = IsValidTableEntry F types t × IsTrue (is_constant_or_none F (types_declare us us) m (reference (map_ref (listed m.types) t.ty.element)) t.init)

abbrev pub FitsGlobal : Features → TypesSoFar → List DefType → Spaces → GlobalEntry Expression ℕ → Type 0
FitsGlobal F us types m g = IsValidGlobal F types g.ty × IsTrue (is_constant_of F (types_declare us us) m (map_val (listed m.types) g.ty.content) g.init)

abbrev pub FitsElement : Features → TypesSoFar → Spaces → Element Expression ℕ → Type 0
FitsElement F us m e = IsTrue (are_items F (types_declare us us) m (map_items written e.items)) × IsTrue (may_be_placed F (types_declare us us) m (listed_element m.types e) e.mode)

abbrev pub FitsData : Features → TypesSoFar → Spaces → Data Expression → Type 0
FitsData F us m d = IsTrue (may_be_stored F (types_declare us us) m d.mode)

abbrev pub TablesAdd : Type 0
TablesAdd =
    (old new : Standing) (us : TypesSoFar) (m : Spaces) (n : Noted) (types : List DefType) (count : ℕ) (bytes : List ℕ) → IsReading old us m n types
    → (after_section old 4 count bytes ≡ Some new)
    ↔ HasAddedEach (table_entry_at expression_at index) (FitsTable (features_of old.features) us types) (λ s t. record s { tables = s.tables ++ listed_table s.types t.ty ∷ [] })
    (length m.tables) (most_tables (features_of old.features)) old new us m (naming (names_of_tables count bytes) n) count bytes

abbrev pub GlobalsAdd : Type 0
GlobalsAdd =
    (old new : Standing) (us : TypesSoFar) (m : Spaces) (n : Noted) (types : List DefType) (count : ℕ) (bytes : List ℕ) → IsReading old us m n types
    → (after_section old 6 count bytes ≡ Some new)
    ↔ HasAddedEach (global_entry_at expression_at index) (FitsGlobal (features_of old.features) us types) (λ s g. record s { globals = s.globals ++ listed_global s.types g.ty ∷ [] })
    (length m.globals) most_globals old new us m (naming (names_of_globals count bytes) n) count bytes

abbrev pub ElementsAdd : Type 0
ElementsAdd =
    (old new : Standing) (us : TypesSoFar) (m : Spaces) (n : Noted) (types : List DefType) (count : ℕ) (bytes : List ℕ) → IsReading old us m n types
    → (after_section old 9 count bytes ≡ Some new)
    ↔ HasAddedEach (element_at expression_at index) (FitsElement (features_of old.features) us) (λ s e. record s { elements = s.elements ++ listed_element s.types e ∷ [] })
    (length m.elements) most_elements old new us m (naming (names_of_elements count bytes) n) count bytes

-- data segments leave the lists as they are
abbrev pub SegmentsAdd : Type 0
SegmentsAdd =
    (old new : Standing) (us : TypesSoFar) (m : Spaces) (n : Noted) (types : List DefType) (count : ℕ) (bytes : List ℕ) → IsReading old us m n types
    → (after_section old 11 count bytes ≡ Some new)
    ↔ HasAddedEach (data_at expression_at) (FitsData (features_of old.features) us) (λ s d. s) 0 most_segments old new us m n count bytes

-- The bytes are so many entries of an import section, each of whose imports keeps its rule on the lists so far. With as many imports as
-- are there the entries keep to the limit, and the module has the lists that the imports make.
pub record HasAddedImports (types : List DefType) (old new : Standing) (us : TypesSoFar) (m : Spaces) (n : Noted) (count : ℕ) (bytes : List ℕ) : Type 0 where
  pub items : List (Import ℕ)
  pub read : section_imports index (features_of old.features).compact_imports count bytes ≡ Some items
  pub few : length m.imports + count ≤ most_imports
  pub lists : Spaces
  pub added : AddsEach (FitsImport (features_of old.features) types) (with_entry m.types types) m items lists
  pub after : new ≡ record old { stage = in_module us lists n }

-- imports, behind lists that keep their limits
abbrev pub ImportsAdd : Type 0
ImportsAdd =
    (old new : Standing) (us : TypesSoFar) (m : Spaces) (n : Noted) (types : List DefType) (count : ℕ) (bytes : List ℕ) → IsReading old us m n types → KeepsLimits (features_of old.features) m
    → (after_section old 2 count bytes ≡ Some new)
    ↔ HasAddedImports types old new us m n count bytes

-- exports, behind lists that are the index spaces of a module
abbrev pub ExportsAdd : Type 0
ExportsAdd =
    (old new : Standing) (us : TypesSoFar) (m : Spaces) (n : Noted) (C : IndexSpaces) (count : ℕ) (bytes : List ℕ) → IsReading old us m n C.types → HasSpaces C m
    → (after_section old 7 count bytes ≡ Some new)
    ↔ ((added : HasAdded export_at (IsValidExport (features_of old.features) C) (length m.exports) most_exports (with_exports (features_of old.features) C m) old new us (naming (names_of_exports count bytes) n) count bytes)
    × FitExports C m added.items)

-- What is held of a module's types: the types of all modules, the ids among them of this module's types, and these types.
pub record TypesHeld : Type 0 where
  pub all : TypesSoFar
  pub ids : List ℕ
  pub types : List DefType

-- all types with those of a group, and the ids of the module's types with theirs
abbrev pub held_with : Features → TypesHeld → Rec ℕ → RecTree → TypesSoFar × List ℕ
held_with F h g t = held (canonical F) h.all h.ids (positions (placed (canonical F) (length h.all) t) 0 g.types)

-- A recursion group is valid behind the types of the module, which with it keep to the limit, and there are ids for all types
-- with those of the group, which adds none where equal types are one and they have it.
pub record FitsGroup (F : Features) (h : TypesHeld) (g : Rec ℕ) : Type 0 where
  pub tree : RecTree
  pub closes : closed F h.types g ≡ Some tree
  pub valid : All (IsValidType F declared) (positions tree 0 g.types)
  pub few : length h.types + length g.types ≤ most_types
  pub room : length (held_with F h g tree).0 ≤ MAX_IDS

-- the types with those of the group behind
abbrev pub with_group : Features → TypesHeld → Rec ℕ → RecTree → TypesHeld
with_group F h g t = record { all = (held_with F h g t).0; ids = (held_with F h g t).1; types = h.types ++ positions t 0 g.types }

-- Each group fits behind those before it, and they make of the first types the last.
abbrev pub AddsGroups : Features → TypesHeld → List (Rec ℕ) → TypesHeld → Type 0
AddsGroups F h [] k = h ≡ k
AddsGroups F h (g ∷ gs) k = (fits : FitsGroup F h g) × AddsGroups F (with_group F h g fits.tree) gs k

-- The bytes are so many groups of which each fits behind those before it, with the types that are there they are few
-- enough, and the module has the types that they make, which stand under its ids.
pub record HasAddedGroups (old new : Standing) (us : TypesSoFar) (m : Spaces) (n : Noted) (types : List DefType) (count : ℕ) (bytes : List ℕ) : Type 0 where
  pub groups : List (Rec ℕ)
  pub read : items_at (rec_at index) count bytes ≡ Some groups
  pub few : length m.types + length groups ≤ most_types
  pub held : TypesHeld
  pub added : AddsGroups (features_of old.features) (record { all = us; ids = m.types; types = types }) groups held
  pub after : new ≡ record old { stage = in_module held.all (record m { types = held.ids }) n }
  pub stand : Stand (canonical (features_of old.features)) held.all held.ids held.types

-- types, which the machine adds and the validator keeps where they are valid
abbrev pub TypesAdd : Type 0
TypesAdd =
    (old new : Standing) (us : TypesSoFar) (m : Spaces) (n : Noted) (types : List DefType) (count : ℕ) (bytes : List ℕ) → IsReading old us m n types → HoldsValid old
    → ((after_section old 1 count bytes ≡ Some new) × HoldsValid new) ↔ HasAddedGroups old new us m n types count bytes
