-- What atomic accesses take and give, and the types that they allow.
use Rattle.std.specs.Prelude.{ℕ, Bool, true, false, not, ◌&&◌, if◌then◌else◌, List, [], ◌∷◌, ◌++◌, Option}
use Rattle.wasm_spec.specs.Syntax.{AbstractHeap, any_heap, eq_heap, abstract_heap, concrete, Val, i32, i64, Field}
use Rattle.wasm_spec.specs.MatchingTests.{World}
use Rattle.wasm_readers_types.specs.WasmReadersValues.declared.indices.UnpackedIndex.{UnpackedIndex}
use Rattle.wasm_typing_checks.specs.WasmSpecRules.Contexts.{Context}
use Rattle.wasm_typing_checks.specs.WasmSpecSteps.Meanings.{ref_to, is_packed, unpack_field}
use Rattle.wasm_typing_checks.specs.WasmSpecSteps.Matching.{match_some}
use Rattle.wasm_typing_checks.specs.WasmTypingStacks.SeenTypeWords.{val_in}
use Rattle.wasm_typing_checks.specs.WasmSpecSteps.Access.{Access}
use Rattle.wasm_typing_checks.specs.WasmSpecSteps.Access.TheVariants as access
use Rattle.wasm_typing_checks.specs.WasmSpecSteps.Actions.{OperandTypes, these, element, field, gc, Check, has, reaches_type, each_matches_some, element_is_mutable, element_is_packed, field_is_mutable, field_is_packed}
use Rattle.wasm_typing_checks.specs.WasmSpecSteps.Shapes.{Shape, plain, one, nullable_to, allowed_types, where_written, where_given, access_taken, access_given}
use Rattle.wasm_typing_checks.specs.DeclaredTypes.{element_in}
use Rattle.wasm_typing_structs.specs.Fields.{field_in}
use Rattle.wasm_typing_structs.specs.declared.shared_places.Address.{Address}
use Rattle.wasm_typing_structs.specs.declared.shared_places.Address.TheVariants as address

abbrev pub with_below : Bool → AbstractHeap → List (Val UnpackedIndex)
with_below shared k = i32 ∷ i64 ∷ ref_to true (abstract_heap shared k) ∷ []

abbrev pub allowed_of : Bool → Access → List (Val UnpackedIndex)
allowed_of shared access.Get = with_below shared any_heap
allowed_of shared access.Set = with_below shared any_heap
allowed_of shared access.Compute = i32 ∷ i64 ∷ []
allowed_of shared access.Exchange = with_below shared any_heap
allowed_of shared access.Compare = with_below shared eq_heap

abbrev pub is_writing : Access → Bool
is_writing access.Get = false
is_writing _ = true

abbrev pub address_seen : Address → List (Val UnpackedIndex)
address_seen address.None = []
address_seen (address.One a) = val_in a ∷ []
address_seen (address.Two a b) = val_in a ∷ val_in b ∷ []

abbrev pub taken_seen : Access → List (Val UnpackedIndex) → Val UnpackedIndex → List (Val UnpackedIndex)
taken_seen access.Get place v = place
taken_seen access.Compare place v = place ++ v ∷ v ∷ []
taken_seen _ place v = place ++ v ∷ []

abbrev pub given_seen : Access → Val UnpackedIndex → List (Val UnpackedIndex)
given_seen access.Set v = []
given_seen _ v = v ∷ []

-- A member of a structure, or of an array where the flag says so: what is stored there, and what says where it is.
abbrev pub member_in : Context UnpackedIndex → Bool → ℕ → ℕ → Option (Field UnpackedIndex)
member_in C of_array n k = if of_array then element_in C n else field_in C n k

abbrev pub place_in : Bool → UnpackedIndex → List (Val UnpackedIndex)
place_in of_array a = if of_array then ref_to true (concrete a) ∷ i32 ∷ [] else ref_to true (concrete a) ∷ []

-- the same by their names
abbrev pub stored_at : Bool → ℕ → ℕ → OperandTypes
stored_at of_array n k = if of_array then element n else field n k

abbrev pub place_at : Bool → ℕ → OperandTypes
place_at of_array n = if of_array then these (nullable_to n ∷ i32 ∷ []) else one (nullable_to n)

-- that it is mutable, and whether it is packed
abbrev pub mutable_at : Bool → ℕ → ℕ → Check
mutable_at of_array n k = if of_array then element_is_mutable n else field_is_mutable n k

abbrev pub packed_at : Bool → Bool → ℕ → ℕ → Check
packed_at packed of_array n k = if of_array then element_is_packed packed n else field_is_packed packed n k

-- an access to it, and one that gives it where it is packed
abbrev pub member_shape : Bool → Access → ℕ → ℕ → Shape
member_shape of_array a n k =
    plain
    (has gc ∷ reaches_type n ∷ each_matches_some (stored_at of_array n k) (allowed_types true a)
    ∷ where_written a (mutable_at of_array n k ∷ []) ++ where_given a (packed_at false of_array n k ∷ []))
    (access_taken a (place_at of_array n) (stored_at of_array n k)) (access_given a (stored_at of_array n k))

abbrev pub packed_shape : Bool → ℕ → ℕ → Shape
packed_shape of_array n k = plain (has gc ∷ reaches_type n ∷ packed_at true of_array n k ∷ []) (place_at of_array n) (stored_at of_array n k)

-- what is stored isn't packed, where an access gives it, and is of a type that the access allows
abbrev pub stores : World UnpackedIndex → Access → Field UnpackedIndex → Bool
stores W access.Set x = match_some W (allowed_of true access.Set) (unpack_field x ∷ [])
stores W a x = not (is_packed x.storage) && match_some W (allowed_of true a) (unpack_field x ∷ [])
