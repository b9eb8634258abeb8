-- What is looked up of a module: all of it is read from one context, over ids.
-- Core Specification 3.0, Validation, Conventions (Contexts).
use Rattle.std.specs.Prelude.{◌≡◌, ℕ, Bool, false, ◌==◌, map, Option, Some, None, Result, Ok, Err, slice_get, if◌then◌else◌, ⊤}
use Rattle.wasm_readers_errors.specs.WasmSpec.Syntax.{Heap, Ref, Val, reference, Sub, map_heap, map_ref, map_val}
use Rattle.wasm_readers_errors.specs.WasmSpec.Features.{Features}
use Rattle.wasm_readers_errors.specs.WasmSpec.ValueTypes.{allows_val}
use Rattle.wasm_readers_errors.specs.WasmSpec.MatchingTests.{World}
use Rattle.wasm_spec_rules.specs.Contexts.{Context}
use Rattle.wasm_readers_errors.specs.declared.error.Refusal.{Refusal}
use Rattle.wasm_readers_types.specs.WasmReadersValues.SeenValues.{val_of, index_in}
use Rattle.wasm_readers_types.specs.WasmReadersValues.declared.indices.CoreTypeId.{CoreTypeId}
use Rattle.wasm_readers_types.specs.WasmReadersValues.declared.indices.UnpackedIndex.{UnpackedIndex}
use Rattle.wasm_readers_types.specs.WasmReadersValues.declared.indices.UnpackedIndex.TheVariants.{Module, RecGroup, Id}
use Rattle.wasm_readers_types.specs.declared.types.FuncType.{FuncType}
use Rattle.wasm_spec_rules.specs.Attempts.{◌>>=◌}
use Rattle.wasm_spec_rules.specs.Signatures.{Signature, signature_of, resolve_heap, resolve_ref, resolve_val}
use Rattle.wasm_spec_rules.specs.Worlds.{world_of}

-- the id with this number
abbrev pub id_of : ℕ → UnpackedIndex
id_of n = Id (record { index = n })

-- the same form, with the same number
abbrev pub same_index : UnpackedIndex → UnpackedIndex → Bool
same_index (Module i) (Module j) = i == j
same_index (RecGroup i) (RecGroup j) = i == j
same_index (Id a) (Id b) = a.index == b.index
same_index _ _ = false

-- what identities mean in a context
abbrev pub world : Context UnpackedIndex → World UnpackedIndex
world C = world_of same_index C

-- the type index that is written in a module
abbrev pub written_index : UnpackedIndex → ℕ
written_index (Module i) = i
written_index (RecGroup i) = i
written_index (Id a) = a.index

-- it is a type index of a module
abbrev pub IsWritten : UnpackedIndex → Type 0
IsWritten (Module i) = ⊤
IsWritten (RecGroup i) = ⊥
IsWritten (Id a) = ⊥

-- an index in it, if there is one, is a type index of a module
abbrev pub IsWrittenIn : Option UnpackedIndex → Type 0
IsWrittenIn None = ⊤
IsWrittenIn (Some i) = IsWritten i

abbrev pub IsWrittenHeap : Heap UnpackedIndex → Type 0
IsWrittenHeap h = IsWrittenIn (index_in h)

abbrev pub IsWrittenVal : Val UnpackedIndex → Type 0
IsWrittenVal (reference r) = IsWrittenHeap r.heap
IsWrittenVal _ = ⊤

module _ (C : Context UnpackedIndex) where
  -- what the type of an index and that of an id declare
  abbrev pub sub_in : ℕ → Option (Sub UnpackedIndex)
  sub_in n = slice_get C.types n >>= (world C).declared

  abbrev pub sub_of_id : CoreTypeId → Option (Sub UnpackedIndex)
  sub_of_id id = (world C).declared (Id id)

  -- the type of a function, and the signature of a tag
  abbrev pub function_type_in : ℕ → Option UnpackedIndex
  function_type_in n = slice_get C.functions n >>= slice_get C.types

  abbrev pub tag_in : ℕ → Option (Signature UnpackedIndex)
  tag_in n = slice_get C.tags n >>= λ t. sub_in t >>= λ d. signature_of d.comp

  -- written types with their indices resolved to identities
  abbrev pub heap_in : Heap UnpackedIndex → Option (Heap UnpackedIndex)
  heap_in h = resolve_heap C.types (map_heap written_index h)

  abbrev pub ref_in : Ref UnpackedIndex → Option (Ref UnpackedIndex)
  ref_in r = resolve_ref C.types (map_ref written_index r)

  abbrev pub val_resolved : Val UnpackedIndex → Option (Val UnpackedIndex)
  val_resolved v = resolve_val C.types (map_val written_index v)

  -- the same, where the features allow the type
  abbrev pub val_in : Features → Val UnpackedIndex → Option (Val UnpackedIndex)
  val_in F v = if allows_val F v then val_resolved v else None

abbrev pub signature_seen : {A : Type 0} → FuncType A → Signature UnpackedIndex
signature_seen f = record { takes = map val_of f.params; gives = map val_of f.results }

-- the call puts this in the place of a type, and refuses where there is nothing to put
abbrev pub Puts : {X Y : Type 0} → Result X Refusal → Option Y → Y → Type 0
Puts (Ok x) o new = o ≡ Some new
Puts (Err e) o new = o ≡ None
