-- What a refusal of an item says that is added to a module: the first of its rules that is broken, in the order in which
-- they are asked, with its fault, where the item stands, and the proposal that would lift it. Core Specification 3.0,
-- Validation, Modules.
use Rattle.std.specs.Prelude.{ℕ, ◌≡◌, ◌+◌, ◌<◌, ◌≤◌, nat_le, true, false, List, length, slice_get, Option, Some, None, is_some, ⊤, IsTrue}
use Rattle.std.specs.Option.{option_or}
use Rattle.std.specs.String.{string_bytes}
use Rattle.std.specs.declared.result.Result.{Result}
use Rattle.std.specs.declared.result.Result.TheVariants.{Ok, Err}
use Rattle.wasm_spec.specs.Syntax.{Rec, Table, Memory, Extern, func_extern, func_exact_extern, table_extern, memory_extern, global_extern, tag_extern}
use Rattle.wasm_spec.specs.BinaryModules.{Import}
use Rattle.wasm_spec_rules.specs.FeatureFlags.{features_of}
use Rattle.wasm_spec_rules.specs.Limits.{most_tables, most_memories}
use Rattle.wasm_readers_errors.specs.Refusals.{plain, unless, lack_if}
use Rattle.wasm_readers_errors.specs.declared.error.Counted.{Counted}
use Rattle.wasm_readers_errors.specs.declared.error.Counted.TheVariants.{Types, Functions, Tables, Memories, Globals, Tags}
use Rattle.wasm_readers_errors.specs.declared.error.Fault.TheVariants as fault
use Rattle.wasm_readers_errors.specs.declared.error.ItemKind.{ItemKind}
use Rattle.wasm_readers_errors.specs.declared.error.ItemKind.TheVariants as kind
use Rattle.wasm_readers_errors.specs.declared.error.Refusal.{Refusal}
use Rattle.wasm_readers_errors.specs.declared.error.Rule.TheVariants.{EffectiveSize}
use Rattle.wasm_readers_errors.specs.declared.item_rules.ItemRule.TheVariants.{StartType, DataCounts, DataCountLimit}
use Rattle.wasm_readers_errors.specs.WasmReadersFeatures.declared.features.WasmFeatures.{WasmFeatures}
use Rattle.wasm_readers_errors.specs.WasmReadersFeatures.declared.features.TheConstants.WasmFeatures.{BULK_MEMORY}
use Rattle.wasm_readers_types.specs.WasmReadersValues.declared.indices.UnpackedIndex.{UnpackedIndex}
use Rattle.wasm_readers_types.specs.declared.externs.ExternalKind.{ExternalKind}
use Rattle.wasm_readers_types.specs.declared.externs.ExternalKind.TheVariants as external
use Rattle.wasm_validator_checks.specs.WasmValidatorTypeList.ListViews.{Listing}
use Rattle.wasm_validator_checks.specs.WasmValidatorCanonical.GroupFaults.{ToldOfAdded}
use Rattle.wasm_validator_checks.specs.ItemRefusals.{told_of_function, told_of_defined_table, told_of_memory, told_of_tag, told_of_movable, told_of_extern}
use Rattle.wasm_validator_checks.specs.Names.{told_of_name, told_of_names}
use Rattle.wasm_validator_checks.specs.WasmValidatorTypes.Entities.{Entity}
use Rattle.wasm_validator_checks.specs.WasmValidatorTypes.Spaces.{Spaces, is_exported}
use Rattle.wasm_validator_core.specs.declared.error.Error.{Error}
use Rattle.wasm_validator_core.specs.declared.error.Error.TheVariants.{Refused, DuplicateExport, InFunction, OutOfMemory}
use Rattle.wasm_validator_core.specs.declared.limits.TheConstants.{MAX_TYPES, MAX_FUNCTIONS, MAX_GLOBALS, MAX_TAGS, MAX_DATA_SEGMENTS}
use Rattle.wasm_validator_core.specs.Answers.{TypesSoFar}
use Rattle.wasm_validator_core.specs.LimitRefusals.{beyond_limit}
use Rattle.wasm_validator_core.specs.Items.{types_of_module, listed, entity, entity_size, grown, arity_of_function, takes_and_gives_nothing}

-- the call tells this, unless memory is refused
abbrev pub Tells : {T A : Type 0} → Result T (Error A) → Option Refusal → Type 0
Tells (Ok x) told = told ≡ None
Tells (Err (Refused r)) told = told ≡ Some r
Tells (Err (DuplicateExport name offset)) told = ⊥
Tells (Err (InFunction index r)) told = ⊥
Tells (Err OutOfMemory) told = ⊤

-- The same of the call that adds an export under this name: where this tells nothing, the name may be one that is taken,
-- and is then told with where the export stands.
abbrev pub TellsExport : {T A : Type 0} → Spaces → List ℕ → ℕ → Result T (Error A) → Option Refusal → Type 0
TellsExport s name place (Ok x) told = told ≡ None
TellsExport s name place (Err (Refused r)) told = told ≡ Some r
TellsExport s name place (Err (DuplicateExport n offset)) told = (told ≡ None) × (string_bytes n ≡ name) × (offset ≡ place) × IsTrue (is_exported s.exports name)
TellsExport s name place (Err (InFunction index r)) told = ⊥
TellsExport s name place (Err OutOfMemory) told = ⊤

-- the kinds that have an index space
abbrev pub kind_named : ExternalKind → ItemKind
kind_named external.Func = kind.Function
kind_named external.Table = kind.Table
kind_named external.Memory = kind.Memory
kind_named external.Global = kind.Global
kind_named external.Tag = kind.Tag

module _ (offset : ℕ) where
  -- one more, besides those that are there
  abbrev pub told_of_limit : Counted → ℕ → ℕ → Option Refusal
  told_of_limit what there most = unless (nat_le (there + 1) most) (beyond_limit what most (there + 1) offset)

  -- the effective size with an entity more
  abbrev pub told_of_size : TypesSoFar → ℕ → Entity → Option Refusal
  told_of_size us size e = unless (is_some (grown size (entity_size us e))) (plain (fault.Rule EffectiveSize) offset)

  abbrev pub told_of_added_function : TypesSoFar → Spaces → ℕ → Option Refusal
  told_of_added_function us s x = option_or (told_of_function offset (types_of_module us s) x) (told_of_limit Functions (length s.functions) MAX_FUNCTIONS)

  -- the type index of a function, where there is one
  abbrev pub told_of_type_index : TypesSoFar → Spaces → ℕ → Option ℕ → Option Refusal
  told_of_type_index us s x None = Some (plain (fault.UnknownFunction x) offset)
  told_of_type_index us s x (Some type_index) = told_of_function offset (types_of_module us s) type_index

  abbrev pub told_of_function_type : TypesSoFar → Spaces → ℕ → Option Refusal
  told_of_function_type us s x = told_of_type_index us s x (slice_get s.functions x)

  abbrev pub told_of_start : TypesSoFar → Spaces → ℕ → Option Refusal
  told_of_start us s x = option_or (told_of_function_type us s x) (unless (takes_and_gives_nothing (arity_of_function us s x)) (plain (fault.Item StartType) offset))

  -- what an export names is there
  abbrev pub told_of_entity_there : ExternalKind → ℕ → Option Entity → Option Refusal
  told_of_entity_there kind index None = Some (plain (fault.UnknownExport (kind_named kind) index) offset)
  told_of_entity_there kind index (Some e) = None

module _ (features : WasmFeatures) (offset : ℕ) where
  abbrev pub told_of_table_limit : Spaces → Option Refusal
  told_of_table_limit s = told_of_limit offset Tables (length s.tables) (most_tables (features_of features))

  abbrev pub told_of_memory_limit : Spaces → Option Refusal
  told_of_memory_limit s = told_of_limit offset Memories (length s.memories) (most_memories (features_of features))

  abbrev pub told_of_added_table : TypesSoFar → Spaces → Table UnpackedIndex → Option Refusal
  told_of_added_table us s t = option_or (told_of_defined_table features offset (types_of_module us s) t false) (told_of_table_limit s)

  abbrev pub told_of_added_memory : Spaces → Memory → Option Refusal
  told_of_added_memory s m = option_or (told_of_memory features offset m) (told_of_memory_limit s)

  abbrev pub told_of_added_tag : TypesSoFar → Spaces → ℕ → Option Refusal
  told_of_added_tag us s x = option_or (told_of_tag features offset (types_of_module us s) x) (told_of_limit offset Tags (length s.tags) MAX_TAGS)

  -- an import at the end of its index space
  abbrev pub told_of_imported : Spaces → Extern UnpackedIndex → Option Refusal
  told_of_imported s (func_extern x) = told_of_limit offset Functions (length s.functions) MAX_FUNCTIONS
  told_of_imported s (func_exact_extern x) = told_of_limit offset Functions (length s.functions) MAX_FUNCTIONS
  told_of_imported s (table_extern t) = told_of_table_limit s
  told_of_imported s (memory_extern m) = told_of_memory_limit s
  told_of_imported s (global_extern g) = told_of_limit offset Globals (length s.globals) MAX_GLOBALS
  told_of_imported s (tag_extern x) = told_of_limit offset Tags (length s.tags) MAX_TAGS

  -- whether a global that is mutable may be imported and exported
  abbrev pub told_of_moved : Extern UnpackedIndex → Option Refusal
  told_of_moved (global_extern g) = told_of_movable features offset g
  told_of_moved _ = None

  -- an import, its names aside
  abbrev pub told_of_importing : TypesSoFar → Spaces → Import UnpackedIndex → Option Refusal
  told_of_importing us s i =
      option_or (told_of_extern features offset (types_of_module us s) i.ty)
      (option_or (told_of_moved i.ty)
      (option_or (told_of_imported s (listed s i.ty)) (told_of_size offset us s.size (entity s (listed s i.ty)))))

  abbrev pub told_of_import : TypesSoFar → Spaces → Import UnpackedIndex → Option Refusal
  told_of_import us s i = option_or (told_of_names features offset i) (told_of_importing us s i)

  -- an export: its name, and what it names: it is there, may be exported, and counts in the effective size
  abbrev pub told_of_entity : TypesSoFar → Spaces → ExternalKind → ℕ → Option Entity → Option Refusal
  told_of_entity us s kind index None = Some (plain (fault.UnknownExport (kind_named kind) index) offset)
  told_of_entity us s kind index (Some e) = option_or (told_of_moved e) (told_of_size offset us s.size e)

  abbrev pub told_of_export : TypesSoFar → Spaces → List ℕ → ExternalKind → ℕ → Option Entity → Option Refusal
  told_of_export us s name kind index e = option_or (told_of_name features offset name) (told_of_entity us s kind index e)

  abbrev pub told_of_data_count : ℕ → Option Refusal
  told_of_data_count count =
      option_or (lack_if true features BULK_MEMORY (fault.Item DataCounts) offset) (unless (nat_le count MAX_DATA_SEGMENTS) (plain (fault.Item DataCountLimit) offset))

-- a recursion group behind the module's types: the module would have too many, or the group can't come to the list
pub data ToldOfAddedGroup {A : Type 0} (features : WasmFeatures) (offset : ℕ) (list : Listing A) (s : Spaces) (g : Rec UnpackedIndex) (r : Refusal) : Type 0 where
  over_limit : MAX_TYPES < length s.types + length g.types → r ≡ plain (fault.Limit Types MAX_TYPES) offset → ToldOfAddedGroup features offset list s g r
  within_limit : length s.types + length g.types ≤ MAX_TYPES → ToldOfAdded features offset list s.types g r → ToldOfAddedGroup features offset list s g r
