-- What each section method does in whatever state calls have led to, in the words of the definition: it is accepted exactly where the
-- rule of each of its items holds on the lists so far, and then they have these items at their ends. Core Specification 3.0, Validation, Modules.
use Rattle.std.specs.Prelude.{ℕ, ◌≡◌, ◌↔◌, ◌≤◌, ◌<◌, ◌++◌, nat_eq, List, [], ◌∷◌, map, length, Option, Some, IsTrue, IfSome, ⊤}
use Rattle.std.specs.List.{All}
use Rattle.wasm_spec.specs.Syntax.{reference, map_ref}
use Rattle.wasm_spec.specs.Values.{u32_at, items_at}
use Rattle.wasm_spec.specs.BinaryModules.{export_at}
use Rattle.wasm_spec.specs.BinaryTypes.{memory_at, tag_at}
use Rattle.wasm_spec.specs.BinarySections.{TableEntry, GlobalEntry, Element, Data, table_entry_at, global_entry_at, element_at, data_at}
use Rattle.wasm_spec.specs.Features.{Features}
use Rattle.wasm_spec_rules.specs.FeatureFlags.{features_of}
use Rattle.wasm_spec_rules.specs.IndexSpaces.{IndexSpaces, IsFunctionType}
use Rattle.wasm_spec_rules.specs.ItemRules.{IsValidTableEntry, IsValidMemory, IsValidTag, IsValidGlobal}
use Rattle.wasm_spec_rules.specs.Limits.{most_functions, most_tables, most_memories, most_globals, most_tags, most_exports, most_elements, most_segments, most_body_bytes}
use Rattle.wasm_spec_rules.specs.LinkRules.{IsValidExport, IsValidStart}
use Rattle.wasm_spec_rules.specs.Parts.{Parts, Expression, index}
use Rattle.wasm_spec_rules.specs.SegmentRules.{IsValidElement, IsValidData}
use Rattle.wasm_spec_validity.specs.Expressions.{expression_at}
use Rattle.wasm_spec_validity.specs.Modules.{Numbering, number_at, context_of, imported_globals}
use Rattle.wasm_spec_validity.specs.Typing.{IsConstant, IsTypedGlobal, IsTypedElement, IsTypedData}
use Rattle.wasm_validator_types.specs.Spaces.{Spaces}
use Rattle.wasm_validator_states.specs.WasmValidatorSections.WasmValidatorCore.Answers.{TypesSoFar}
use Rattle.wasm_validator_states.specs.WasmValidatorSections.WasmLawsCore.Exports.{FitExports, with_exports}
use Rattle.wasm_validator_states.specs.WasmValidatorSections.WasmLawsCore.ModuleParts.{listed_table, listed_global, listed_element}
use Rattle.wasm_validator_states.specs.WasmValidatorSections.WasmValidatorReferences.References.{names_of_tables, names_of_globals, names_of_exports, names_of_elements}
use Rattle.wasm_validator_states.specs.WasmValidatorSections.ModuleNotes.{Noted, naming, counting}
use Rattle.wasm_validator_states.specs.WasmValidatorSections.CodeProgress.{Started, starting, taking}
use Rattle.wasm_validator_states.specs.ValidatorStages.{Standing, in_module, in_code, HoldsValid}
use Rattle.wasm_validator_states.specs.States.{after_section, after_start, after_data_count, after_code_start, after_body}
use Rattle.wasm_validator_states.specs.SectionLaws.{HasAdded, HasAddedGroups, HasAddedImports}
use Rattle.wasm_laws_sections.specs.StateInvariants.{Shows}

-- A module is being read before the start of its code, with these lists.
pub record Reads (s : Standing) (us : TypesSoFar) (m : Spaces) (n : Noted) (C : IndexSpaces) (parts : Parts) : Type 0 where
  pub stage : s.stage ≡ in_module us m n
  pub shows : Shows (features_of s.features) us m C parts

-- And after it.
pub record ReadsCode (s : Standing) (us : TypesSoFar) (m : Spaces) (c : Started) (C : IndexSpaces) (parts : Parts) : Type 0 where
  pub stage : s.stage ≡ in_code us m c
  pub shows : Shows (features_of s.features) us m C parts

-- the start function
abbrev pub StartsAnywhere : Type 0
StartsAnywhere =
    (old new : Standing) (us : TypesSoFar) (m : Spaces) (n : Noted) (C : IndexSpaces) (parts : Parts) (x : ℕ) → Reads old us m n C parts
    → (after_start old x ≡ Some new) ↔ (IsValidStart C x × (new ≡ old))

-- the data count
abbrev pub DataCountsAnywhere : Type 0
DataCountsAnywhere =
    (old new : Standing) (us : TypesSoFar) (m : Spaces) (n : Noted) (C : IndexSpaces) (parts : Parts) (k : ℕ) → Reads old us m n C parts
    → (after_data_count old k ≡ Some new)
    ↔ ((IsTrue (features_of old.features).bulk_memory × (k ≤ most_segments)) × (new ≡ record old { stage = in_module us m (counting k n) }))

-- the start of the code
abbrev pub CodeStartsAnywhere : Type 0
CodeStartsAnywhere =
    (old new : Standing) (us : TypesSoFar) (m : Spaces) (n : Noted) (C : IndexSpaces) (parts : Parts) → Reads old us m n C parts
    → (after_code_start old ≡ Some new) ↔ (new ≡ record old { stage = in_code us m (starting us m n) })

-- a body: one for each function that is defined
abbrev pub BodiesAnywhere : Type 0
BodiesAnywhere =
    (old new : Standing) (us : TypesSoFar) (m : Spaces) (c : Started) (C : IndexSpaces) (parts : Parts) (bytes : List ℕ) → ReadsCode old us m c C parts
    → (after_body old bytes ≡ Some new)
    ↔ (((c.taken < length parts.functions) × (length bytes ≤ most_body_bytes)) × (new ≡ record old { stage = in_code us m (taking c) }))

-- the module's types, which the machine adds and the validator keeps where they are valid
abbrev pub TypesAnywhere : Type 0
TypesAnywhere =
    (old new : Standing) (us : TypesSoFar) (m : Spaces) (n : Noted) (C : IndexSpaces) (parts : Parts) (count : ℕ) (bytes : List ℕ) → Reads old us m n C parts
    → ((after_section old 1 count bytes ≡ Some new) × HoldsValid new) ↔ HasAddedGroups old new us m n C.types count bytes

abbrev pub ImportsAnywhere : Type 0
ImportsAnywhere =
    (old new : Standing) (us : TypesSoFar) (m : Spaces) (n : Noted) (C : IndexSpaces) (parts : Parts) (count : ℕ) (bytes : List ℕ) → Reads old us m n C parts
    → (after_section old 2 count bytes ≡ Some new)
    ↔ HasAddedImports C.types old new us m n count bytes

abbrev pub FunctionsAnywhere : Type 0
FunctionsAnywhere =
    (old new : Standing) (us : TypesSoFar) (m : Spaces) (n : Noted) (C : IndexSpaces) (parts : Parts) (count : ℕ) (bytes : List ℕ) → Reads old us m n C parts
    → (after_section old 3 count bytes ≡ Some new)
    ↔ HasAdded u32_at (IsFunctionType C.types) (length m.functions) most_functions (λ xs. record m { functions = m.functions ++ xs }) old new us n count bytes

abbrev pub MemoriesAnywhere : Type 0
MemoriesAnywhere =
    (old new : Standing) (us : TypesSoFar) (m : Spaces) (n : Noted) (C : IndexSpaces) (parts : Parts) (count : ℕ) (bytes : List ℕ) → Reads old us m n C parts
    → (after_section old 5 count bytes ≡ Some new)
    ↔ HasAdded memory_at (IsValidMemory (features_of old.features)) (length m.memories) (most_memories (features_of old.features)) (λ ms. record m { memories = m.memories ++ ms }) old new us n count bytes

abbrev pub TagsAnywhere : Type 0
TagsAnywhere =
    (old new : Standing) (us : TypesSoFar) (m : Spaces) (n : Noted) (C : IndexSpaces) (parts : Parts) (count : ℕ) (bytes : List ℕ) → Reads old us m n C parts
    → (after_section old 13 count bytes ≡ Some new)
    ↔ ((IsTrue (features_of old.features).exceptions)
    × HasAdded tag_at (IsValidTag (features_of old.features) C.types) (length m.tags) most_tags (λ xs. record m { tags = m.tags ++ xs }) old new us n count bytes)

abbrev pub ExportsAnywhere : Type 0
ExportsAnywhere =
    (old new : Standing) (us : TypesSoFar) (m : Spaces) (n : Noted) (C : IndexSpaces) (parts : Parts) (count : ℕ) (bytes : List ℕ) → Reads old us m n C parts
    → (after_section old 7 count bytes ≡ Some new)
    ↔ ((added : HasAdded export_at (IsValidExport (features_of old.features) C) (length m.exports) most_exports (with_exports (features_of old.features) C m) old new us (naming (names_of_exports count bytes) n) count bytes)
    × FitExports C m added.items)

-- Items with constant expressions, typed in the context of the lists so far, whose types go under numbers. An expression sees all globals
-- so far.
module _ (F : Features) (C : IndexSpaces) (parts : Parts) (k : Numbering C.types) where
  abbrev pub IsRightTable : TableEntry Expression ℕ → Type 0
  IsRightTable t =
      IsValidTableEntry F C.types t
      × IfSome t.init (IsConstant nat_eq F (context_of C k parts) (imported_globals parts) (length C.globals) (reference (map_ref (number_at k) t.ty.element)))

  abbrev pub IsRightGlobal : GlobalEntry Expression ℕ → Type 0
  IsRightGlobal g =
      IsValidGlobal F C.types g.ty × IsTypedGlobal nat_eq F (context_of C k parts) (imported_globals parts) (number_at k) (length C.globals) g

  abbrev pub IsRightElement : Element Expression ℕ → Type 0
  IsRightElement e = IsValidElement F C e × IsTypedElement nat_eq F (context_of C k parts) (imported_globals parts) (number_at k) e

  abbrev pub IsRightData : Data Expression → Type 0
  IsRightData d = IsValidData F C d × IsTypedData nat_eq F (context_of C k parts) (imported_globals parts) (number_at k) d

-- each global keeps its rules after those before it
abbrev pub AreRightGlobals : (F : Features) (C : IndexSpaces) (parts : Parts) → Numbering C.types → List (GlobalEntry Expression ℕ) → Type 0
AreRightGlobals F C parts k [] = ⊤
AreRightGlobals F C parts k (g ∷ gs) = IsRightGlobal F C parts k g × AreRightGlobals F (record C { globals = C.globals ++ g.ty ∷ [] }) parts k gs

abbrev pub TablesAnywhere : Type 0
TablesAnywhere =
    (old new : Standing) (us : TypesSoFar) (m : Spaces) (n : Noted) (C : IndexSpaces) (parts : Parts) (k : Numbering C.types) (count : ℕ) (bytes : List ℕ) → Reads old us m n C parts
    → (after_section old 4 count bytes ≡ Some new)
    ↔ HasAdded (table_entry_at expression_at index) (IsRightTable (features_of old.features) C parts k) (length m.tables) (most_tables (features_of old.features))
    (λ ts. record m { tables = m.tables ++ map (λ (t : TableEntry Expression ℕ). listed_table m.types t.ty) ts }) old new us (naming (names_of_tables count bytes) n) count bytes

abbrev pub GlobalsAnywhere : Type 0
GlobalsAnywhere =
    (old new : Standing) (us : TypesSoFar) (m : Spaces) (n : Noted) (C : IndexSpaces) (parts : Parts) (k : Numbering C.types) (count : ℕ) (bytes : List ℕ) → Reads old us m n C parts
    → (after_section old 6 count bytes ≡ Some new)
    ↔ ((added : HasAdded (global_entry_at expression_at index) (λ (g : GlobalEntry Expression ℕ). IsValidGlobal (features_of old.features) C.types g.ty) (length m.globals) most_globals
    (λ gs. record m { globals = m.globals ++ map (λ (g : GlobalEntry Expression ℕ). listed_global m.types g.ty) gs }) old new us (naming (names_of_globals count bytes) n) count bytes)
    × AreRightGlobals (features_of old.features) C parts k added.items)

abbrev pub ElementsAnywhere : Type 0
ElementsAnywhere =
    (old new : Standing) (us : TypesSoFar) (m : Spaces) (n : Noted) (C : IndexSpaces) (parts : Parts) (k : Numbering C.types) (count : ℕ) (bytes : List ℕ) → Reads old us m n C parts
    → (after_section old 9 count bytes ≡ Some new)
    ↔ HasAdded (element_at expression_at index) (IsRightElement (features_of old.features) C parts k) (length m.elements) most_elements
    (λ es. record m { elements = m.elements ++ map (listed_element m.types) es }) old new us (naming (names_of_elements count bytes) n) count bytes

-- The bytes are so many items of which each keeps its rule, few enough, and nothing changes.
pub record HasChecked {V : Type 0} (reads : List ℕ → Option (V × List ℕ)) (rule : V → Type 0) (most : ℕ) (old new : Standing) (count : ℕ) (bytes : List ℕ) : Type 0 where
  pub items : List V
  pub read : items_at reads count bytes ≡ Some items
  pub rules : All rule items
  pub few : length items ≤ most
  pub after : new ≡ old

-- data segments, before the start of the code and after it
abbrev pub SegmentsAnywhere : Type 0
SegmentsAnywhere =
    (old new : Standing) (us : TypesSoFar) (m : Spaces) (n : Noted) (C : IndexSpaces) (parts : Parts) (k : Numbering C.types) (count : ℕ) (bytes : List ℕ) → Reads old us m n C parts
    → (after_section old 11 count bytes ≡ Some new) ↔ HasChecked (data_at expression_at) (IsRightData (features_of old.features) C parts k) most_segments old new count bytes

abbrev pub SegmentsAfterCode : Type 0
SegmentsAfterCode =
    (old new : Standing) (us : TypesSoFar) (m : Spaces) (c : Started) (C : IndexSpaces) (parts : Parts) (k : Numbering C.types) (count : ℕ) (bytes : List ℕ) → ReadsCode old us m c C parts
    → (after_section old 11 count bytes ≡ Some new) ↔ HasChecked (data_at expression_at) (IsRightData (features_of old.features) C parts k) most_segments old new count bytes
