-- The rules of a type in the parts in which they are asked. Core Specification 3.0, Validation, Types (Sub Types,
-- Composite Types), with the rules of the proposals.
use Rattle.std.specs.Prelude.{◌≡◌, ℕ, Bool, false, not, ◌&&◌, ◌||◌, List, Option, Some, None, is_some, IsTrue, IfSome}
use Rattle.std.specs.List.{list_all}
use Rattle.wasm_spec.specs.Syntax.{Sub}
use Rattle.wasm_spec.specs.Features.{Features}
use Rattle.wasm_spec.specs.SupertypeOrder.{supertype, supertype_of, descriptor_of, described_by, ancestor_at}
use Rattle.wasm_spec.specs.ValueTypes.{implies, allows_storage}
use Rattle.wasm_spec.specs.CrateLimits.{is_limited}
use Rattle.wasm_spec.specs.Matching.{is_shared_storage}
use Rattle.wasm_spec.specs.GroupRules.{storages, has_many_results, is_array, is_struct, is_cont, IsContinuationOfFunction, TypeRules, DescriptorRules, IsValidType}
use Rattle.wasm_readers_types.specs.declared.types.CompositeInnerType.{CompositeInnerType}
use Rattle.wasm_readers_types.specs.declared.types.SubType.{SubType}
use Rattle.wasm_validator_type_list.specs.WasmValidatorTypeGroups.Groups.{IsInGroup}
use Rattle.wasm_validator_type_list.specs.DeclarationsById.{declares}
use Rattle.wasm_validator_type_list.specs.GroupTypes.{comp_in, MatchesDeclared}

-- a declares something, and this holds of what it declares
pub record Declares {R : Type 0} (D : R → Option (Sub R)) (a : R) (P : Sub R → Type 0) : Type 0 where
  pub sub : Sub R
  pub declares : D a ≡ Some sub
  pub holds : P sub

-- the rules of the composite type of a sub type with its shared flag
pub record CompositeRules {R : Type 0} (F : Features) (D : R → Option (Sub R)) (s : Sub R) : Type 0 where
  pub shared_needs_shared_everything_threads : IsTrue s.shared → IsTrue F.shared_everything_threads
  pub members_of_shared_are_shared : IsTrue s.shared → IsTrue (list_all (is_shared_storage D) (storages s.comp))
  pub many_results_need_multi_value : IsTrue (has_many_results s.comp) → IsTrue F.multi_value
  pub array_needs_gc : IsTrue (is_array s.comp) → IsTrue F.gc
  pub array_needs_gc_types : IsTrue (is_array s.comp) → IsTrue F.gc_types
  pub struct_needs_gc : IsTrue (is_struct s.comp) → IsTrue F.gc
  pub struct_needs_gc_types : IsTrue (is_struct s.comp) → IsTrue F.gc_types
  pub continuation_needs_stack_switching : IsTrue (is_cont s.comp) → IsTrue F.stack_switching
  pub continuation_needs_gc_types : IsTrue (is_cont s.comp) → IsTrue F.gc_types
  pub continuation_is_of_function : IsContinuationOfFunction D s.comp
  pub members_are_allowed : IsTrue (list_all (allows_storage F) (storages s.comp))
  pub limits_are_kept : IsTrue (is_limited F s.comp)

-- whether the features allow a sub type to extend or to be extended as it does
abbrev pub allows_extending : {R : Type 0} → Features → Sub R → Bool
allows_extending F s = implies (not s.is_final || is_some (supertype s)) F.gc

-- whether the features and the form of a sub type allow its descriptor clauses
abbrev pub allows_clauses : {R : Type 0} → Features → Sub R → Bool
allows_clauses F s = implies (is_some s.descriptor || is_some s.describes) F.custom_descriptors && (implies (is_some s.descriptor) (is_struct s.comp) && implies (is_some s.describes) (is_struct s.comp))

module _ {R : Type 0} (D : R → Option (Sub R)) where
  -- what b declares is not final
  abbrev pub IsOpen : R → Type 0
  IsOpen b = IfSome (D b) (λ t. t.is_final ≡ false)

  -- what a and b declare is of one finality
  abbrev pub HasSameFinality : R → R → Type 0
  HasSameFinality a b = IfSome (D b) (λ t. IfSome (D a) (λ s. t.is_final ≡ s.is_final))

  -- b has a descriptor exactly where a has one
  abbrev pub HasDescriptorLike : R → R → Type 0
  HasDescriptorLike a b = is_some (descriptor_of D b) ≡ is_some (descriptor_of D a)

  -- b describes a type exactly where a does
  abbrev pub DescribesLike : R → R → Type 0
  DescribesLike a b = is_some (described_by D b) ≡ is_some (described_by D a)

  -- the descriptor of a, if it has one, extends that of b
  abbrev pub ExtendsDescriptor : R → R → Type 0
  ExtendsDescriptor a b = IfSome (descriptor_of D a) (λ d. supertype_of D d ≡ descriptor_of D b)

  -- the type that a describes, if there is one, extends the one that b describes
  abbrev pub ExtendsDescribed : R → R → Type 0
  ExtendsDescribed a b = IfSome (described_by D a) (λ d. supertype_of D d ≡ described_by D b)

  -- the descriptor of a describes a, and what a describes has it as its descriptor
  abbrev pub DescriptorDescribes : R → Type 0
  DescriptorDescribes a = IfSome (descriptor_of D a) (λ d. described_by D d ≡ Some a)

  abbrev pub DescribedHasDescriptor : R → Type 0
  DescribedHasDescriptor a = IfSome (described_by D a) (λ d. descriptor_of D d ≡ Some a)

  abbrev pub DescriptorHasSameFinality : R → Type 0
  DescriptorHasSameFinality a = IfSome (descriptor_of D a) (HasSameFinality a)

-- a has fewer proper ancestors than so many
abbrev pub IsShallow : {R : Type 0} → (R → Option (Sub R)) → ℕ → R → Type 0
IsShallow D n a = (m : ℕ) → m ≡ n → ancestor_at D m a ≡ None

-- a may extend b
pub record MayExtend (D : ℕ → Option (Sub ℕ)) (a b : ℕ) : Type 0 where
  pub open_supertype : IsOpen D b
  pub matching : MatchesDeclared D a b

-- the descriptor clauses of a are those of a type that extends b
pub record ExtendsClauses {R : Type 0} (D : R → Option (Sub R)) (a b : R) : Type 0 where
  pub descriptor : HasDescriptorLike D a b
  pub descriptor_extends : ExtendsDescriptor D a b
  pub describes : DescribesLike D a b
  pub described_extends : ExtendsDescribed D a b

-- What a extends, if it extends something, has clauses like it.
abbrev pub ExtendsSupertypeClauses : {R : Type 0} → (R → Option (Sub R)) → R → Type 0
ExtendsSupertypeClauses D a = IfSome (supertype_of D a) (ExtendsClauses D a)

-- what a declares keeps the rules of its composite type, of what it extends and of its depth, and of its clauses
module _ {R : Type 0} (F : Features) (D : R → Option (Sub R)) (a : R) where
  abbrev pub KeepsCompositeRules : Type 0
  KeepsCompositeRules = Declares D a (CompositeRules F D)

  abbrev pub KeepsTypeRules : Type 0
  KeepsTypeRules = Declares D a (TypeRules F D a)

  abbrev pub KeepsDescriptorRules : Type 0
  KeepsDescriptorRules = Declares D a (DescriptorRules F D a)

-- all that is in a composite type of the k-th group may be shared
abbrev pub are_members_shareable : {A : Type 0} → List (List (SubType A)) → ℕ → CompositeInnerType A → Bool
are_members_shareable gs k c = list_all (is_shared_storage (declares gs)) (storages (comp_in gs k c))

-- each type of the k-th group keeps its rules
abbrev pub IsValidGroupAt : {A : Type 0} → Features → List (List (SubType A)) → ℕ → Type 0
IsValidGroupAt F gs k = (id : ℕ) → IsInGroup gs k id → IsValidType F (declares gs) id
