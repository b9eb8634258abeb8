-- The types of a module under their numbers, and under the ids that a list has for them. Core Specification 3.0, Validation,
-- Conventions (Contexts), Types (Recursive Types) and Matching (Defined Types).
use Rattle.std.specs.Prelude.{ℕ, ◌≡◌, ◌==◌, Bool, true, List, slice_get, Option, Some, None, is_some, IsTrue}
use Rattle.std.specs.List.{flat_map, All, Contains}
use Rattle.wasm_spec.specs.Syntax.{Sub}
use Rattle.wasm_spec.specs.Features.{Features}
use Rattle.wasm_spec.specs.References.{refs_sub}
use Rattle.wasm_spec.specs.Trees.{DefType, declared}
use Rattle.wasm_spec.specs.TypeLaws.{HasNoRepetition, AreIdsOf, AreAccepted}
use Rattle.wasm_spec_rules.specs.Contexts.{Context, declares_at, AreFirst}
use Rattle.wasm_spec_rules.specs.Worlds.{world_of}
use Rattle.wasm_readers_types.specs.WasmReadersValues.declared.indices.UnpackedIndex.{UnpackedIndex}
use Rattle.wasm_readers_types.specs.WasmReadersValues.declared.indices.UnpackedIndex.TheVariants.{Module}
use Rattle.wasm_readers_types.specs.declared.types.SubType.{SubType}
use Rattle.wasm_validator_type_list.specs.GroupOrder.{AreListable}
use Rattle.wasm_validator_type_list.specs.DefTypes.{def_types}
use Rattle.wasm_spec_steps.specs.Renaming.{Renames}
use Rattle.wasm_validator_core_resources.specs.ListContexts.{list_declares}
use Rattle.wasm_validator_core_resources.specs.IndexContexts.{id_of, same_index}

-- The distinct types of a module: each has its place as its number, so that none comes twice, declares something, and mentions only
-- types among them.
pub record AreNumbered (n : DefType → ℕ) (distinct : List DefType) : Type 0 where
  pub number : (k : ℕ) (d : DefType) → slice_get distinct k ≡ Some d → n d ≡ k
  pub declare : All (λ d. IsTrue (is_some (declared d))) distinct
  pub mention : (d : DefType) (s : Sub DefType) → Contains distinct d → declared d ≡ Some s → All (Contains distinct) (refs_sub s)

-- So it is of the distinct types by first appearance of valid type sections.
abbrev pub AcceptedTypesAreNumbered : Type 0
AcceptedTypesAreNumbered =
    (F : Features) (types distinct : List DefType) (n : DefType → ℕ) → AreAccepted F declared types → AreFirst types distinct
    → ((k : ℕ) (d : DefType) → slice_get distinct k ≡ Some d → n d ≡ k) → AreNumbered n distinct

-- the same number
abbrev pub same_number : ℕ → ℕ → Bool
same_number a b = a == b

-- The id at a place, as a reference of types. A number that is no place stays what it is, an index of a module, which no list knows.
abbrev pub identity_or : ℕ → Option ℕ → UnpackedIndex
identity_or k None = Module k
identity_or k (Some id) = id_of id

abbrev pub identity_at : List ℕ → ℕ → UnpackedIndex
identity_at ids k = identity_or k (slice_get ids k)

-- Where each of a module's types stands under its id in a list in which no type has two ids, what a context over the list says of ids is
-- what the module's context says of numbers: what types declare, which is an ancestor of which, and which are the same.
abbrev pub IdsRenameNumbers : Type 0 → Type 0
IdsRenameNumbers A =
    (n : DefType → ℕ) (distinct : List DefType) → AreNumbered n distinct
    → (gs : List (List (SubType A))) → AreListable gs → HasNoRepetition (def_types true gs)
    → (ids : List ℕ) → AreIdsOf (def_types true gs) ids distinct
    → (C : Context ℕ) → C.declares ≡ flat_map (λ (d : DefType). declares_at n d (declared d)) distinct
    → (D : Context UnpackedIndex) → D.declares ≡ list_declares id_of gs
    → Renames (identity_at ids) (world_of same_number C) (world_of same_index D)
