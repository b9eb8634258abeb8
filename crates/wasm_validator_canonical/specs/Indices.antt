-- Type indices of a module as a list of types writes them. Core Specification 3.0, Validation, Types (Recursive Types):
-- an index of the types so far stands for the type there, and one behind them for a position in the group.
use Rattle.std.specs.Option.{option_map}
use Rattle.std.specs.Prelude.{ℕ, ◌≡◌, ◌+◌, ◌-◌, ◌==◌, ◌<◌, ◌≤◌, nat_lt, nat_le, Bool, true, false, ◌&&◌, ◌||◌, List, [], ◌∷◌, ◌++◌, map, length, slice_get, Option}
use Rattle.std.specs.declared.option.Option.TheVariants.{Some, None}
use Rattle.std.specs.List.{All, list_all}
use Rattle.wasm_spec.specs.Syntax.{Val, Field, Sub, Rec, map_sub}
use Rattle.wasm_spec.specs.References.{refs_option, refs_val, refs_field, refs_comp, refs_sub}
pub use Rattle.wasm_readers_types.specs.WasmReadersValues.Indices.{numbers}
use Rattle.wasm_readers_types.specs.WasmReadersValues.declared.indices.CoreTypeId.{CoreTypeId}
use Rattle.wasm_readers_types.specs.WasmReadersValues.declared.indices.PackedIndex.{PackedIndex}
use Rattle.wasm_readers_types.specs.WasmReadersValues.declared.indices.TheConstants.{MAX_IDS}
use Rattle.wasm_readers_types.specs.WasmReadersValues.declared.indices.UnpackedIndex.{UnpackedIndex}
use Rattle.wasm_readers_types.specs.WasmReadersValues.declared.indices.UnpackedIndex.TheVariants.{Module, RecGroup, Id}
use Rattle.wasm_readers_types.specs.declared.types.CompositeType.{CompositeType}
use Rattle.wasm_readers_types.specs.SeenTypes.{comp_of}
use Rattle.wasm_readers_types.specs.WasmReadersValues.SeenValues.{index_of}
use Rattle.wasm_validator_canonical.specs.declared.type_canonicalizer.TypeCanonicalizer.{TypeCanonicalizer}

-- the id of a type of the module, or from the end of these a position in the group
abbrev pub use_of_index : Option ℕ → ℕ → UnpackedIndex
use_of_index (Some id) i = Id (record { index = id })
use_of_index None i = RecGroup i

-- an index of a module whose types have these ids
abbrev pub canonical_index : List ℕ → UnpackedIndex → UnpackedIndex
canonical_index ids (Module k) = use_of_index (slice_get ids k) (k - length ids)
canonical_index ids (RecGroup i) = RecGroup i
canonical_index ids (Id id) = Id id

abbrev pub canonical_group : List ℕ → List (Sub UnpackedIndex) → List (Sub UnpackedIndex)
canonical_group ids g = map (map_sub (canonical_index ids)) g

-- the index is one of a module
abbrev pub is_written : UnpackedIndex → Bool
is_written (Module k) = true
is_written (RecGroup i) = false
is_written (Id id) = false

-- each reference is an index of a module
abbrev pub is_written_sub : Sub UnpackedIndex → Bool
is_written_sub s = list_all is_written (refs_sub s)

-- the number of an index of a module
abbrev pub number_in : UnpackedIndex → ℕ
number_in (Module k) = k
number_in (RecGroup i) = 0
number_in (Id id) = 0

-- the index is of a type before the group, or with gc of one in it, where the group stands at the indices from start
-- to below end
abbrev pub is_known : Bool → ℕ → ℕ → UnpackedIndex → Bool
is_known gc start end (Module k) = nat_lt k start || (gc && nat_lt k end)
is_known gc start end (RecGroup i) = false
is_known gc start end (Id id) = false

-- the index is of a type before the one at the index n
abbrev pub is_earlier : ℕ → UnpackedIndex → Bool
is_earlier n (Module k) = nat_lt k n
is_earlier n (RecGroup i) = false
is_earlier n (Id id) = false

-- the same of a group that is written as a list of types has it
abbrev pub canonical_by : TypeCanonicalizer → UnpackedIndex → UnpackedIndex
canonical_by c = canonical_index (numbers c.ids.now)

abbrev pub is_known_by : TypeCanonicalizer → UnpackedIndex → Bool
is_known_by c = is_known c.has_gc (length c.ids.now) c.end

-- each reference of a type is known
abbrev pub knows_val : TypeCanonicalizer → Val UnpackedIndex → Bool
knows_val c v = list_all (is_known_by c) (refs_val v)

abbrev pub knows_field : TypeCanonicalizer → Field UnpackedIndex → Bool
knows_field c x = list_all (is_known_by c) (refs_field x)

-- a type at the index n: what it extends and what it describes come before it, and any other reference is known
abbrev pub is_bound : Bool → ℕ → ℕ → ℕ → Sub UnpackedIndex → Bool
is_bound gc start end n s =
    list_all (is_earlier n) s.supers
    && (list_all (is_earlier n) (refs_option s.describes) && list_all (is_known gc start end) (refs_option s.descriptor ++ refs_comp s.comp))

-- types from the index n on
abbrev pub are_bound : Bool → ℕ → ℕ → ℕ → List (Sub UnpackedIndex) → Bool
are_bound gc start end n [] = true
are_bound gc start end n (s ∷ ss) = is_bound gc start end n s && are_bound gc start end (n + 1) ss

-- a composite type at the index n: what it describes comes before it, and any other reference is known
abbrev pub knows_composite : {A : Type 0} → TypeCanonicalizer → ℕ → CompositeType A → Bool
knows_composite c n ty =
    list_all (is_earlier n) (refs_option (option_map index_of ty.describes_idx))
    && list_all (is_known_by c) (refs_option (option_map index_of ty.descriptor_idx) ++ refs_comp (comp_of ty.inner))

-- the index, if there is one, as the list has it
abbrev pub IsCanonicalOf : TypeCanonicalizer → Option PackedIndex → Option PackedIndex → Type 0
IsCanonicalOf c old new = option_map index_of new ≡ option_map (canonical_by c) (option_map index_of old)

abbrev pub is_bound_by : TypeCanonicalizer → ℕ → Sub UnpackedIndex → Bool
is_bound_by c = is_bound c.has_gc (length c.ids.now) c.end

abbrev pub are_bound_by : TypeCanonicalizer → ℕ → List (Sub UnpackedIndex) → Bool
are_bound_by c = are_bound c.has_gc (length c.ids.now) c.end

abbrev pub extends_at_most_one : Sub UnpackedIndex → Bool
extends_at_most_one s = nat_le (length s.supers) 1

-- the same of each type of a group
abbrev pub extend_at_most_one : Rec UnpackedIndex → Bool
extend_at_most_one g = list_all extends_at_most_one g.types

-- the value type refers to no type
abbrev pub has_no_index : {R : Type 0} → Val R → Bool
has_no_index v = length (refs_val v) == 0

-- each id, and each position in the group, fits a packed index
pub record IsSmall (c : TypeCanonicalizer) : Type 0 where
  pub ids : All (λ (id : CoreTypeId). id.index < MAX_IDS) c.ids.now
  pub end : c.end ≤ length c.ids.now + MAX_IDS
