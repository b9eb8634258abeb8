-- Value types, written as numbers. Core Specification 3.0, Binary Format, Types, Value Types, with ids in place of type indices.
use Rattle.std.specs.Prelude.{ℕ, ◌≡◌, ◌==◌, if◌then◌else◌, nat_lt, Bool, true, false, length, Option, Some, None}
use Rattle.std.specs.Bool.{Decides}
use Rattle.std.specs.Option.{option_map}
use Rattle.std.specs.declared.alloc.Global.{Global}
use Rattle.wasm_spec.specs.BinaryTypes.{abstract_heap_from}
use Rattle.wasm_spec.specs.Syntax.{AbstractHeap, any_heap, eq_heap, i31_heap, struct_heap, array_heap, none_heap, func_heap, nofunc_heap}
use Rattle.wasm_spec.specs.Syntax.{extern_heap, noextern_heap, exn_heap, noexn_heap, cont_heap, nocont_heap}
use Rattle.wasm_spec.specs.Syntax.{Heap, Ref, Val, i32, i64, f32, f64, v128, reference, concrete, exact, abstract_heap}
use Rattle.wasm_spec.specs.Matching.{MatchesVal}
use Rattle.wasm_validator.specs.WasmValidatorTypes.WasmValidatorTypeList.DeclarationsById.{declares}
use Rattle.wasm_validator.specs.WasmValidatorTypes.WasmValidatorTypeList.ListViews.{Listing, types_in}
use Rattle.wasm_validator.specs.WasmValidatorTypes.WasmValidatorTypeList.Subtyping.{IsValOver, val_by_ids}
use Rattle.wasm_readers_types.specs.WasmReadersValues.declared.values.ValType.{ValType}
use Rattle.wasm_validator_handles.specs.declared.values.ValueType.{ValueType}
use Rattle.wasm_validator_handles.specs.declared.values.TheConstants.{I32, I64, F32, F64, V128, REFERENCE, NULL_OR_REFERENCE}
use Rattle.wasm_validator_handles.specs.declared.values.TheConstants.{TYPE_BY_ID, MOST_IDS, SHARED_HEAP, EXACT_HEAP, VALUE_SIZE}

-- a heap type by its id: with its subtypes, or exactly it
abbrev pub id_from : ValueType → Option (Heap ℕ)
id_from it =
    if nat_lt it.id MOST_IDS then (if it.flags == 0 then Some (concrete it.id) else (if it.flags == EXACT_HEAP then Some (exact it.id) else None))
    else None

-- an abstract one, which is shared between threads or isn't
abbrev pub abstract_from : ValueType → Option (Heap ℕ)
abstract_from it =
    if it.flags == 0 then option_map (abstract_heap false) (abstract_heap_from it.heap)
    else (if it.flags == SHARED_HEAP then option_map (abstract_heap true) (abstract_heap_from it.heap) else None)

abbrev pub heap_from : ValueType → Option (Heap ℕ)
heap_from it = if it.heap == TYPE_BY_ID then id_from it else abstract_from it

-- a reference to it
abbrev pub reference_from : Bool → ValueType → Option (Val ℕ)
reference_from nullable it = option_map (λ h. reference (record { nullable = nullable; heap = h })) (heap_from it)

abbrev pub value_from : ValueType → Option (Val ℕ)
value_from it =
    if it.kind == I32 then Some i32
    else (if it.kind == I64 then Some i64
    else (if it.kind == F32 then Some f32
    else (if it.kind == F64 then Some f64
    else (if it.kind == V128 then Some v128
    else (if it.kind == NULL_OR_REFERENCE then reference_from true it
    else (if it.kind == REFERENCE then reference_from false it
    else None))))))

-- The numbers of a value type that is no reference: all others are 0.
abbrev pub plain_numbers : ℕ → ValueType
plain_numbers kind = record { size = VALUE_SIZE; kind = kind; heap = 0; id = 0; flags = 0 }

-- the number of an abstract heap type in the binary format
abbrev pub abstract_number : AbstractHeap → ℕ
abstract_number func_heap = 0x70
abstract_number extern_heap = 0x6f
abstract_number any_heap = 0x6e
abstract_number eq_heap = 0x6d
abstract_number i31_heap = 0x6c
abstract_number struct_heap = 0x6b
abstract_number array_heap = 0x6a
abstract_number exn_heap = 0x69
abstract_number cont_heap = 0x68
abstract_number none_heap = 0x71
abstract_number noextern_heap = 0x72
abstract_number nofunc_heap = 0x73
abstract_number noexn_heap = 0x74
abstract_number nocont_heap = 0x75

-- a reference of this kind to a type by its id
abbrev pub numbers_by_id : ℕ → ℕ → ℕ → ValueType
numbers_by_id kind id flags = record { size = VALUE_SIZE; kind = kind; heap = TYPE_BY_ID; id = id; flags = flags }

-- a reference of this kind to a heap type
abbrev pub heap_numbers : ℕ → Heap ℕ → ValueType
heap_numbers kind (abstract_heap shared a) =
    record { size = VALUE_SIZE; kind = kind; heap = abstract_number a; id = 0; flags = (if shared then SHARED_HEAP else 0) }
heap_numbers kind (concrete id) = numbers_by_id kind id 0
heap_numbers kind (exact id) = numbers_by_id kind id EXACT_HEAP

abbrev pub reference_numbers : Ref ℕ → ValueType
reference_numbers r = heap_numbers (if r.nullable then NULL_OR_REFERENCE else REFERENCE) r.heap

abbrev pub numbers_of : Val ℕ → ValueType
numbers_of i32 = plain_numbers I32
numbers_of i64 = plain_numbers I64
numbers_of f32 = plain_numbers F32
numbers_of f64 = plain_numbers F64
numbers_of v128 = plain_numbers V128
numbers_of (reference r) = reference_numbers r

-- The list has all ids that both name, and the first matches the second. Core Specification 3.0, Validation, Matching, Value Types.
abbrev pub Match : Listing Global → ValType → ValType → Type 0
Match l a b = IsValOver (length (types_in l)) a × IsValOver (length (types_in l)) b × MatchesVal (declares l.groups) (val_by_ids a) (val_by_ids b)

-- there is an answer, and it says whether this holds
abbrev pub DecidesMaybe : Option Bool → Type 0 → Type 0
DecidesMaybe (Some answer) P = Decides answer P
DecidesMaybe None P = ⊥

abbrev pub SaysMatch : Listing Global → Option ValType → Option ValType → Option Bool → Type 0
SaysMatch l None b answer = answer ≡ None
SaysMatch l (Some a) None answer = answer ≡ None
SaysMatch l (Some a) (Some b) answer = DecidesMaybe answer (Match l a b)

-- What is answered to whether the first matches the second: whether it does, unless one of them is none.
pub record TellsMatch (l : Listing Global) (first second : ValueType) (answer : Option Bool) : Type 0 where
  pub a : Option ValType
  pub b : Option ValType
  pub is_first : option_map val_by_ids a ≡ value_from first
  pub is_second : option_map val_by_ids b ≡ value_from second
  pub says : SaysMatch l a b answer
