-- The context of a module over the ids of a list of types, and over the numbers of its distinct types. Core Specification 3.0, Validation,
-- Conventions (Contexts).
use Rattle.std.specs.Prelude.{ℕ, ◌≡◌, Bool, true, List, [], ◌++◌, map, Option}
use Rattle.std.specs.List.{flat_map, All, AllZip}
use Rattle.wasm_spec.specs.Syntax.{Ref, Table, Global, map_ref, map_table, map_global}
use Rattle.wasm_spec.specs.Features.{Features}
use Rattle.wasm_spec.specs.BinaryModules.{Import}
use Rattle.wasm_spec.specs.Trees.{DefType}
use Rattle.wasm_spec.specs.TypeLaws.{HasNoRepetition, AreIdsOf}
use Rattle.wasm_operators.specs.Control.{Block}
use Rattle.wasm_operators.specs.Maps.{map_block}
use Rattle.wasm_operators.specs.Instructions.{Instruction}
use Rattle.wasm_spec_rules.specs.Parts.{Parts}
use Rattle.wasm_spec_rules.specs.IndexSpaces.{IndexSpaces, imported, functions_in, IsRefInRange, IsValInRange}
use Rattle.wasm_spec_rules.specs.Contexts.{Context, exact_in, context_over, map_context, AreFirst}
use Rattle.wasm_readers_types.specs.WasmReadersValues.declared.indices.UnpackedIndex.{UnpackedIndex}
use Rattle.wasm_validator_type_list.specs.ListViews.{Listing}
use Rattle.wasm_validator_type_list.specs.GroupOrder.{AreListable}
use Rattle.wasm_validator_type_list.specs.DefTypes.{def_types}
use Rattle.wasm_validator_core.specs.WasmValidatorCanonical.Indices.{canonical_index}
use Rattle.wasm_validator_core.specs.WasmValidatorCanonical.Sections.{written, StandsFor}
use Rattle.wasm_validator_core_resources.specs.WasmValidatorTypes.Spaces.{Spaces}
use Rattle.wasm_spec_steps.specs.Bodies.{Local, Surroundings, map_local}
use Rattle.wasm_spec_steps.specs.Steps.{is_typed}
use Rattle.wasm_validator_core_resources.specs.ListContexts.{list_declares}
use Rattle.wasm_validator_core_resources.specs.IndexContexts.{id_of, same_index}
use Rattle.wasm_validator_core_resources.specs.ModuleContexts.{module_context}
use Rattle.wasm_laws_core.specs.ContextWorlds.{with_declared}
use Rattle.wasm_laws_core.specs.TypeNumbers.{AreNumbered, same_number, identity_at}

-- The lists of a module show its index spaces: each type under an id that stands for it in these types of a list, each function and tag
-- with its type's index, each table, memory and global with its type, where ids stand for type indices, and which imported functions are
-- exactly of their type. Functions are first those imported and then those defined, and type indices are in range.
pub record ShowSpaces (us : List DefType) (s : Spaces) (C : IndexSpaces) (parts : Parts) : Type 0 where
  pub types : AllZip (StandsFor true us) s.types C.types
  pub functions : s.functions ≡ C.functions
  pub imported_functions : s.imported_functions ≡ flat_map (λ (i : Import ℕ). exact_in i.ty) parts.imports
  pub tables : s.tables ≡ map (map_table (λ (x : ℕ). canonical_index s.types (written x))) C.tables
  pub memories : s.memories ≡ C.memories
  pub globals : s.globals ≡ map (map_global (λ (x : ℕ). canonical_index s.types (written x))) C.globals
  pub tags : s.tags ≡ C.tags
  pub imported_first : C.functions ≡ imported functions_in parts.imports ++ parts.functions
  pub tables_in_range : All (λ (t : Table ℕ). IsRefInRange C.types t.element) C.tables
  pub globals_in_range : All (λ (g : Global ℕ). IsValInRange C.types g.content) C.globals

-- The context of a module over the numbers of its distinct types, with these types of element segments, this data count, and these
-- functions that count as referenced: a body's are those of the module's own context, and a constant expression's are all functions.
abbrev pub numbered_context : (DefType → ℕ) → List DefType → IndexSpaces → Parts → List (Ref ℕ) → Option ℕ → List ℕ → Context ℕ
numbered_context n distinct C parts segments count references =
    record (context_over n distinct (λ e. []) C parts) { elements = segments; data_count = count; references = references }

-- The same over the ids of a list, where the numbers go to these identities.
abbrev pub listed_context : {A : Type 0} → (ℕ → UnpackedIndex) → Spaces → Listing A → List (Ref ℕ) → Option ℕ → List ℕ → Context UnpackedIndex
listed_context f s list segments count references = record (module_context s list (map (map_ref f) segments) count) { references = references }

-- what is checked in a context
abbrev pub within : {R : Type 0} → Features → Context R → List (Local R) → Bool → Surroundings R
within F C locals shared = record { features = F; context = C; locals = locals; shared = shared }

-- Each distinct type of the module has an id in the list, and the context over the list is the module's context with each number renamed
-- to that id. Instructions lead from the start of a frame to its end in the one exactly where they do in the other.
pub record IsOverIds {A : Type 0} (n : DefType → ℕ) (distinct : List DefType) (list : Listing A) (s : Spaces) (C : IndexSpaces) (parts : Parts) : Type 0 where
  pub ids : List ℕ
  pub stand : AreIdsOf (def_types true list.groups) ids distinct
  pub context :
      (segments : List (Ref ℕ)) (count : Option ℕ) (references : List ℕ)
      → listed_context (identity_at ids) s list segments count references
      ≡ with_declared (list_declares id_of list.groups) (map_context (identity_at ids) (numbered_context n distinct C parts segments count references))
  pub typed :
      (segments : List (Ref ℕ)) (count : Option ℕ) (references : List ℕ) (F : Features) (locals : List (Local ℕ)) (shared : Bool) (b : Block ℕ) (ops : List (Instruction ℕ))
      → is_typed same_index (within F (listed_context (identity_at ids) s list segments count references) (map (map_local (identity_at ids)) locals) shared) (map_block (identity_at ids) b) ops
      ≡ is_typed same_number (within F (numbered_context n distinct C parts segments count references) locals shared) b ops

-- So it is of each module whose lists show its index spaces, over a list in which no type has two ids.
abbrev pub ModulesAreOverIds : Type 0 → Type 0
ModulesAreOverIds A =
    (n : DefType → ℕ) (distinct : List DefType) → AreNumbered n distinct
    → (list : Listing A) → AreListable list.groups → HasNoRepetition (def_types true list.groups)
    → (s : Spaces) (C : IndexSpaces) (parts : Parts) → AreFirst C.types distinct → ShowSpaces (def_types true list.groups) s C parts
    → IsOverIds n distinct list s C parts
