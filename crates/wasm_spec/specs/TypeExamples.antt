-- Worked examples of closing, matching and the rules of groups, as facts that a contract can name.
use Rattle.std.specs.Prelude.{◌≡◌, ℕ, zero, suc, ◌+◌, Bool, true, false, List, [], ◌∷◌, ◌++◌, slice_get, Option, Some, None, option_map, is_some}
use Rattle.wasm_spec.specs.Syntax.{any_heap, eq_heap, Heap, abstract_heap, concrete, Val, v128, reference, i8, i16, unpacked, Field, Comp, func, struct, Sub, Rec}
use Rattle.wasm_spec.specs.Features.{Features}
use Rattle.wasm_spec.specs.Closing.{type_space}
use Rattle.wasm_spec.specs.Matching.{MatchesField, MatchesComp, MatchesSub}
use Rattle.wasm_spec.specs.SupertypeOrder.{IsDepth}
use Rattle.wasm_spec.specs.ValueTypes.{allows_storage}
use Rattle.wasm_spec.specs.GroupRules.{TypeRules, OfSupertype, IsValidTypeSection}

-- every proposal, or none, and no limits of `crate_limits`
abbrev pub features : Bool → Features
features b = record {
  mutable_global = b;
  reference_types = b;
  multi_value = b;
  bulk_memory = b;
  simd = b;
  threads = b;
  shared_everything_threads = b;
  floats = b;
  multi_memory = b;
  exceptions = b;
  memory64 = b;
  extended_const = b;
  function_references = b;
  gc = b;
  gc_types = b;
  custom_page_sizes = b;
  custom_descriptors = b;
  stack_switching = b;
  component_model = b;
  vector_operators = b;
  atomic_operators = b;
  legacy_exceptions = b;
  crate_limits = false;
  wide_arithmetic = b;
  memory_control = b;
  descriptor_operators = b;
  shared_atomic_operators = b;
  stack_switching_operators = b;
  compact_imports = b;
}

module _ {R : Type 0} where
  abbrev pub ref_null : Heap R → Val R
  ref_null h = reference (record { nullable = true; heap = h })

  abbrev pub field : Bool → Val R → Field R
  field mutable v = record { storage = unpacked v; mutable = mutable }

  -- a sub type with no clauses
  abbrev pub plain : Bool → List R → Comp R → Sub R
  plain is_final supers c = record { is_final = is_final; supers = supers; shared = false; comp = c; descriptor = None; describes = None }

-- two structs, each with a field for the other, as a group that begins at the index n
abbrev pub mutual_structs : ℕ → Rec ℕ
mutual_structs n = record {
  is_explicit = true;
  types = plain true [] (struct (field false (ref_null (concrete (n + 1))) ∷ [])) ∷ plain true [] (struct (field false (ref_null (concrete n)) ∷ [])) ∷ [];
}

-- Written at 0 and again at 2, the two structs are the same types.
abbrev pub MutualStructsAreOneTree : Type 0
MutualStructsAreOneTree = type_space (features true) (mutual_structs 0 ∷ mutual_structs 2 ∷ []) ≡ option_map (λ ts. ts ++ ts) (type_space (features true) (mutual_structs 0 ∷ []))

abbrev pub MutualStructsAreTypes : Type 0
MutualStructsAreTypes = is_some (type_space (features true) (mutual_structs 0 ∷ [])) ≡ true

-- Without gc there is no `rec`, and an index past the group's end is nothing.
abbrev pub NoRecWithoutGc : Type 0
NoRecWithoutGc = type_space (features false) (mutual_structs 0 ∷ []) ≡ None

abbrev pub NoIndexPastTheEnd : Type 0
NoIndexPastTheEnd = type_space (features true) (mutual_structs 1 ∷ []) ≡ None

-- a struct that is final or not, and one that extends it
abbrev pub extended : Bool → ℕ → Option (Sub ℕ)
extended is_final = slice_get (plain is_final [] (struct []) ∷ plain true (0 ∷ []) (struct []) ∷ [])

-- The second struct is valid where the first isn't final, and breaks the rule of final supertypes where it is.
abbrev pub ExtendsOpenStruct : Type 0
ExtendsOpenStruct = TypeRules (features true) (extended false) 1 (plain true (0 ∷ []) (struct []))

abbrev pub FinalStructIsNotExtended : Type 0
FinalStructIsNotExtended = OfSupertype (extended true) (plain true (0 ∷ []) (struct [])) (λ t. t.is_final ≡ false) → ⊥

-- It breaks no other: it matches, and its chain of supertypes is short. The rest don't look at the supertype.
abbrev pub FinalStructStillMatches : Type 0
FinalStructStillMatches = OfSupertype (extended true) (plain true (0 ∷ []) (struct [])) (MatchesSub (extended true) (plain true (0 ∷ []) (struct [])))

abbrev pub ExtendedStructHasOneAncestor : Type 0
ExtendedStructHasOneAncestor = IsDepth (extended true) 1 1

-- structs, each of which but the first extends the one before it
abbrev pub chain : ℕ → Option (Sub ℕ)
chain zero = Some (plain false [] (struct []))
chain (suc n) = Some (plain false (n ∷ []) (struct []))

-- A type may have 63 proper ancestors, as many as the struct 63 has.
abbrev pub SixtyThreeAncestors : Type 0
SixtyThreeAncestors = TypeRules (features true) chain 63 (plain false (62 ∷ []) (struct []))

-- breaks `few_ancestors`
abbrev pub NoSixtyFourAncestors : Type 0
NoSixtyFourAncestors = (F : Features) → TypeRules F chain 64 (plain false (63 ∷ []) (struct [])) → ⊥

-- A packed field needs no feature of its own.
abbrev pub PackedFieldsAreAllowed : Type 0
PackedFieldsAreAllowed = (allows_storage {R = ℕ} (features false) i8 ≡ true) × (allows_storage {R = ℕ} (features false) i16 ≡ true)

-- breaks `members_are_allowed`: a field of a vector needs simd
abbrev pub NoVectorFieldWithoutSimd : Type 0
NoVectorFieldWithoutSimd = (D : ℕ → Option (Sub ℕ)) (a : ℕ) → TypeRules (record (features true) { simd = false }) D a (plain true [] (struct (field false v128 ∷ []))) → ⊥

-- a struct and its descriptor
abbrev pub described_pair : Rec ℕ
described_pair = record {
  is_explicit = true;
  types =
      record { is_final = true; supers = []; shared = false; comp = struct []; descriptor = Some 1; describes = None }
      ∷ record { is_final = true; supers = []; shared = false; comp = struct []; descriptor = None; describes = Some 0 } ∷ [];
}

-- A type section of a struct and its descriptor is valid with every feature.
abbrev pub DescribedPairIsValid : Type 0
DescribedPairIsValid = IsValidTypeSection (features true) (described_pair ∷ [])

-- where nothing is declared
abbrev pub nothing : ℕ → Option (Sub ℕ)
nothing n = None

abbrev pub any_ref : Val ℕ
any_ref = ref_null (abstract_heap false any_heap)

abbrev pub eq_ref : Val ℕ
eq_ref = ref_null (abstract_heap false eq_heap)

-- A field that can be written matches only where it matches in both directions.
abbrev pub ImmutableFieldMatches : Type 0
ImmutableFieldMatches = MatchesField nothing (field false eq_ref) (field false any_ref)

abbrev pub MutableFieldDoesNotMatch : Type 0
MutableFieldDoesNotMatch = MatchesField nothing (field true eq_ref) (field true any_ref) → ⊥

-- Parameters match the other way round.
abbrev pub ParametersMatchBackwards : Type 0
ParametersMatchBackwards = MatchesComp nothing (func (any_ref ∷ []) []) (func (eq_ref ∷ []) [])

abbrev pub ParametersDoNotMatchForwards : Type 0
ParametersDoNotMatchForwards = MatchesComp nothing (func (eq_ref ∷ []) []) (func (any_ref ∷ []) []) → ⊥
