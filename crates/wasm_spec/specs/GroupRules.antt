-- When the recursive types that a module writes are valid. Core Specification 3.0, Validation, Types (Sub Types,
-- Composite Types), with the features that each form needs and the rules of shared types, continuations and
-- descriptors of the proposals. The bounds of indices are in the definition of closing.
use Rattle.std.specs.Prelude.{◌≡◌, ℕ, ◌+◌, ◌<◌, Bool, true, false, not, ◌||◌, nat_lt, List, [], ◌∷◌, ◌++◌, map, length, Option, Some, None, is_some, IsTrue, IfSome, ⊤}
use Rattle.std.specs.Option.{option_and_then}
use Rattle.std.specs.List.{list_all, All}
use Rattle.wasm_spec.specs.Syntax.{Storage, unpacked, Field, Comp, func, array, struct, cont, Sub, Rec}
use Rattle.wasm_spec.specs.Features.{Features}
use Rattle.wasm_spec.specs.Trees.{RecTree, DefType, members, declared}
use Rattle.wasm_spec.specs.Closing.{type_space}
use Rattle.wasm_spec.specs.SupertypeOrder.{supertype, supertype_of, descriptor_of, described_by, ancestor_at}
use Rattle.wasm_spec.specs.ValueTypes.{allows_storage}
use Rattle.wasm_spec.specs.Limits.{most_ancestors}
use Rattle.wasm_spec.specs.CrateLimits.{is_limited}
use Rattle.wasm_spec.specs.Matching.{MatchesSub, is_shared_storage}

-- the storage types in a composite type: of its fields, or its parameters and results
abbrev pub field_storage : {R : Type 0} → Field R → Storage R
field_storage x = x.storage

abbrev pub storages : {R : Type 0} → Comp R → List (Storage R)
storages (func ps rs) = map unpacked (ps ++ rs)
storages (array x) = x.storage ∷ []
storages (struct xs) = map field_storage xs
storages (cont r) = []

abbrev pub has_many_results : {R : Type 0} → Comp R → Bool
has_many_results (func ps rs) = nat_lt 1 (length rs)
has_many_results _ = false

abbrev pub is_func : {R : Type 0} → Comp R → Bool
is_func (func ps rs) = true
is_func _ = false

abbrev pub is_array : {R : Type 0} → Comp R → Bool
is_array (array x) = true
is_array _ = false

abbrev pub is_struct : {R : Type 0} → Comp R → Bool
is_struct (struct xs) = true
is_struct _ = false

abbrev pub is_cont : {R : Type 0} → Comp R → Bool
is_cont (cont r) = true
is_cont _ = false

-- what a is declared as is a function type
pub record IsFunction {R : Type 0} (D : R → Option (Sub R)) (a : R) : Type 0 where
  pub sub : Sub R
  pub declares : D a ≡ Some sub
  pub function : IsTrue (is_func sub.comp)

abbrev pub IsContinuationOfFunction : {R : Type 0} → (R → Option (Sub R)) → Comp R → Type 0
IsContinuationOfFunction D (cont r) = IsFunction D r
IsContinuationOfFunction D _ = ⊤

-- what holds of the sub type that the supertype of s declares, where s has one
abbrev pub OfSupertype : {R : Type 0} → (R → Option (Sub R)) → Sub R → (Sub R → Type 0) → Type 0
OfSupertype D s P = IfSome (option_and_then D (supertype s)) P

-- the rules of the type a, which declares s
pub record TypeRules {R : Type 0} (F : Features) (D : R → Option (Sub R)) (a : R) (s : Sub R) : Type 0 where
  pub subtyping_needs_gc : IsTrue (not s.is_final || is_some (supertype s)) → IsTrue F.gc
  pub supertype_is_not_final : OfSupertype D s (λ t. t.is_final ≡ false)
  pub matches_supertype : OfSupertype D s (MatchesSub D s)
  pub few_ancestors : ancestor_at D (most_ancestors + 1) a ≡ None
  pub shared_needs_shared_everything_threads : IsTrue s.shared → IsTrue F.shared_everything_threads
  pub members_of_shared_are_shared : IsTrue s.shared → IsTrue (list_all (is_shared_storage D) (storages s.comp))
  pub many_results_need_multi_value : IsTrue (has_many_results s.comp) → IsTrue F.multi_value
  pub array_needs_gc : IsTrue (is_array s.comp) → IsTrue F.gc
  pub array_needs_gc_types : IsTrue (is_array s.comp) → IsTrue F.gc_types
  pub struct_needs_gc : IsTrue (is_struct s.comp) → IsTrue F.gc
  pub struct_needs_gc_types : IsTrue (is_struct s.comp) → IsTrue F.gc_types
  pub continuation_needs_stack_switching : IsTrue (is_cont s.comp) → IsTrue F.stack_switching
  pub continuation_needs_gc_types : IsTrue (is_cont s.comp) → IsTrue F.gc_types
  pub continuation_is_of_function : IsContinuationOfFunction D s.comp
  pub members_are_allowed : IsTrue (list_all (allows_storage F) (storages s.comp))
  pub limits_are_kept : IsTrue (is_limited F s.comp)

-- the rules of its descriptor clauses
pub record DescriptorRules {R : Type 0} (F : Features) (D : R → Option (Sub R)) (a : R) (s : Sub R) : Type 0 where
  pub clauses_need_custom_descriptors : IsTrue (is_some s.descriptor || is_some s.describes) → IsTrue F.custom_descriptors
  pub descriptor_is_of_struct : IsTrue (is_some s.descriptor) → IsTrue (is_struct s.comp)
  pub describes_is_of_struct : IsTrue (is_some s.describes) → IsTrue (is_struct s.comp)
  pub with_descriptor_supertype_has_one : IsTrue (is_some s.descriptor) → OfSupertype D s (λ t. IsTrue (is_some t.descriptor))
  pub without_descriptor_supertype_has_none : s.descriptor ≡ None → OfSupertype D s (λ t. t.descriptor ≡ None)
  pub supertype_of_descriptor : IfSome s.descriptor (λ d. OfSupertype D s (λ t. supertype_of D d ≡ t.descriptor))
  pub supertype_of_described : IfSome s.describes (λ d. OfSupertype D s (λ t. supertype_of D d ≡ t.describes))
  pub without_describes_supertype_has_none : s.describes ≡ None → OfSupertype D s (λ t. t.describes ≡ None)
  pub with_describes_supertype_has_one : IsTrue (is_some s.describes) → OfSupertype D s (λ t. IsTrue (is_some t.describes))
  pub descriptor_describes_this : IfSome s.descriptor (λ d. described_by D d ≡ Some a)
  pub described_has_this_descriptor : IfSome s.describes (λ d. descriptor_of D d ≡ Some a)
  pub same_finality : IfSome s.descriptor (λ d. IfSome (D d) (λ t. t.is_final ≡ s.is_final))

-- the rules of what is declared at a
pub record IsValidType {R : Type 0} (F : Features) (D : R → Option (Sub R)) (a : R) : Type 0 where
  pub sub : Sub R
  pub declares : D a ≡ Some sub
  pub rules : TypeRules F D a sub
  pub descriptor_rules : DescriptorRules F D a sub

-- a recursive type is valid where each of its types is
abbrev pub IsValidGroup : Features → RecTree → Type 0
IsValidGroup F t = (i : ℕ) → i < length (members t) → IsValidType F declared (record { tree = t; position = i })

-- A module's type section is valid where its groups can be closed one after another, and each of the types is valid.
pub record IsValidTypeSection (F : Features) (gs : List (Rec ℕ)) : Type 0 where
  pub types : List DefType
  pub gives : type_space F gs ≡ Some types
  pub valid : All (IsValidType F declared) types
