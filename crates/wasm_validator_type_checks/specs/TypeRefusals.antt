-- What a refusal of a type in a list says: the first of the rules that is broken, in the order in which they are asked,
-- with its fault, where the type's group stands, and the proposal that would lift it. Core Specification 3.0, Validation,
-- Types (Sub Types, Composite Types), with the rules of the proposals.
use Rattle.std.specs.Prelude.{ℕ, ◌≡◌, ◌<◌, Bool, not, ◌||◌, if◌then◌else◌, List, Option, Some, None, is_some}
use Rattle.std.specs.List.{list_all}
use Rattle.std.specs.Option.{option_or}
use Rattle.wasm_spec.specs.Syntax.{Comp, cont, Sub}
use Rattle.wasm_spec.specs.SupertypeOrder.{supertype, supertype_of, descriptor_of, described_by}
use Rattle.wasm_spec.specs.ValueTypes.{implies}
use Rattle.wasm_spec.specs.Matching.{is_shared_storage}
use Rattle.wasm_spec.specs.GroupRules.{storages, is_struct, IsFunction, IsValidType}
use Rattle.wasm_validator_resources.specs.WasmSpecRules.FeatureFlags.{features_of}
use Rattle.wasm_validator_resources.specs.WasmReadersErrors.Refusals.{plain, unless, lack_if}
use Rattle.wasm_validator_resources.specs.WasmReadersErrors.declared.error.Fault.TheVariants.{Group, Descriptor, NotAFunctionId, SubtypesTooDeep}
use Rattle.wasm_validator_resources.specs.WasmReadersErrors.declared.error.Refusal.{Refusal}
use Rattle.wasm_validator_resources.specs.WasmReadersErrors.WasmReadersFeatures.declared.type_rules.DescriptorRule.{DescriptorRule}
use Rattle.wasm_validator_resources.specs.WasmReadersErrors.WasmReadersFeatures.declared.type_rules.DescriptorRule.TheVariants.{Descriptors, DescriptorOfNonStruct, DescribesOfNonStruct, SubtypeWithDescriptor, SubtypeWithoutDescriptor, DescribedSupertype, DescriptorSupertype, NonDescriptorSupertype, DescriptorOfNonDescriptor, DescriptorWithoutDescribes, DescribesWithoutDescriptor, DescriptorFinality}
use Rattle.wasm_validator_resources.specs.WasmReadersErrors.WasmReadersFeatures.declared.type_rules.GroupRule.TheVariants.{Subtypes, FinalSupertype, SupertypeMatch, SharedComposites, SharedMembers}
use Rattle.wasm_validator_resources.specs.WasmReadersErrors.WasmReadersFeatures.declared.features.WasmFeatures.{WasmFeatures}
use Rattle.wasm_validator_resources.specs.WasmReadersErrors.WasmReadersFeatures.declared.features.TheConstants.WasmFeatures.{GC, SHARED_EVERYTHING_THREADS, CUSTOM_DESCRIPTORS}
use Rattle.wasm_readers_types.specs.declared.types.SubType.{SubType}
use Rattle.wasm_validator_type_list.specs.WasmValidatorTypeGroups.Groups.{IsInGroup}
use Rattle.wasm_validator_type_list.specs.DeclarationsById.{declares}
use Rattle.wasm_validator_type_list.specs.GroupTypes.{MatchesDeclared}
use Rattle.wasm_validator_resources.specs.ProposalRefusals.{told_of_comp}
use Rattle.wasm_validator_type_checks.specs.Rules.{IsOpen, IsShallow, HasDescriptorLike, DescribesLike, ExtendsDescriptor, ExtendsDescribed, DescriptorDescribes, DescribedHasDescriptor, DescriptorHasSameFinality}

-- nothing is told where this holds, and this refusal where it doesn't
pub data Unless (P : Type 0) (r : Refusal) : Option Refusal → Type 0 where
  holds : P → Unless P r None
  broken : (¬ P) → Unless P r (Some r)

-- what the first tells, and where that tells nothing what the second does
pub data FirstOf (A B : Option Refusal → Type 0) : Option Refusal → Type 0 where
  first : (r : Refusal) → A (Some r) → FirstOf A B (Some r)
  second : (t : Option Refusal) → A None → B t → FirstOf A B t

-- what is told of a thing, where there is one
pub data AtSome {X : Type 0} (A : X → Option Refusal → Type 0) : Option X → Option Refusal → Type 0 where
  absent : AtSome A None None
  present : (x : X) (t : Option Refusal) → A x t → AtSome A (Some x) t

-- a shared type has members that may be shared
abbrev pub told_of_members : ℕ → Bool → Bool → Option Refusal
told_of_members offset shared are_shareable = unless (implies shared are_shareable) (plain (Group SharedMembers) offset)

module _ (features : WasmFeatures) (offset : ℕ) where
  abbrev pub told_of_extending : {R : Type 0} → Sub R → Option Refusal
  told_of_extending s = lack_if (not s.is_final || is_some (supertype s)) features GC (Group Subtypes) offset

  abbrev pub told_of_shared : Bool → Option Refusal
  told_of_shared shared = lack_if shared features SHARED_EVERYTHING_THREADS (Group SharedComposites) offset

  -- the clauses need their proposal, and a structure
  abbrev pub clause_of_non_struct : {R : Type 0} → Sub R → DescriptorRule
  clause_of_non_struct s = if is_some s.descriptor then DescriptorOfNonStruct else DescribesOfNonStruct

  abbrev pub told_of_clauses : {R : Type 0} → Sub R → Option Refusal
  told_of_clauses s =
      let has_clause = is_some s.descriptor || is_some s.describes in
      option_or (lack_if has_clause features CUSTOM_DESCRIPTORS (Descriptor Descriptors) offset)
      (unless (not has_clause || is_struct s.comp) (plain (Descriptor (clause_of_non_struct s)) offset))

-- rules that no proposal lifts, of the type a over what the ids declare
module _ (offset : ℕ) (D : ℕ → Option (Sub ℕ)) where
  abbrev pub IsDescriptorRule : DescriptorRule → Type 0 → Option Refusal → Type 0
  IsDescriptorRule rule P = Unless P (plain (Descriptor rule) offset)

  -- a continuation is of a function
  abbrev pub ToldOfContinuation : Comp ℕ → Option Refusal → Type 0
  ToldOfContinuation (cont r) t = Unless (IsFunction D r) (plain (NotAFunctionId r) offset) t
  ToldOfContinuation _ t = t ≡ None

  -- a may extend b
  abbrev pub ToldOfExtended : ℕ → ℕ → Option Refusal → Type 0
  ToldOfExtended a b = FirstOf (Unless (IsOpen D b) (plain (Group FinalSupertype) offset)) (Unless (MatchesDeclared D a b) (plain (Group SupertypeMatch) offset))

  abbrev pub ToldOfSupertype : ℕ → Option Refusal → Type 0
  ToldOfSupertype a = AtSome (ToldOfExtended a) (supertype_of D a)

  abbrev pub ToldOfDepth : ℕ → Option Refusal → Type 0
  ToldOfDepth a = Unless (IsShallow D 64 a) (plain (SubtypesTooDeep 64) offset)

  -- the clauses of a are those of a type that extends b
  abbrev pub unlike_descriptor : ℕ → DescriptorRule
  unlike_descriptor a = if is_some (descriptor_of D a) then SubtypeWithDescriptor else SubtypeWithoutDescriptor

  abbrev pub unlike_describes : ℕ → DescriptorRule
  unlike_describes a = if is_some (described_by D a) then DescriptorOfNonDescriptor else NonDescriptorSupertype

  abbrev pub ToldOfExtendedClauses : ℕ → ℕ → Option Refusal → Type 0
  ToldOfExtendedClauses a b =
      FirstOf (IsDescriptorRule (unlike_descriptor a) (HasDescriptorLike D a b))
      (FirstOf (IsDescriptorRule DescribedSupertype (ExtendsDescriptor D a b))
      (FirstOf (IsDescriptorRule (unlike_describes a) (DescribesLike D a b))
      (IsDescriptorRule DescriptorSupertype (ExtendsDescribed D a b))))

  abbrev pub ToldOfSupertypeClauses : ℕ → Option Refusal → Type 0
  ToldOfSupertypeClauses a = AtSome (ToldOfExtendedClauses a) (supertype_of D a)

  -- a type and its descriptor name one another, and are of one finality
  abbrev pub ToldOfPair : ℕ → Option Refusal → Type 0
  ToldOfPair a =
      FirstOf (IsDescriptorRule DescriptorWithoutDescribes (DescriptorDescribes D a))
      (FirstOf (IsDescriptorRule DescribesWithoutDescriptor (DescribedHasDescriptor D a))
      (IsDescriptorRule DescriptorFinality (DescriptorHasSameFinality D a)))

module _ (features : WasmFeatures) (offset : ℕ) (D : ℕ → Option (Sub ℕ)) where
  -- the shared flag, the form and the members with the proposals that they need, shared members, and continuations
  abbrev pub told_before_continuation : Sub ℕ → Option Refusal
  told_before_continuation s =
      option_or (told_of_shared features offset s.shared)
      (option_or (told_of_comp features offset s.comp)
      (told_of_members offset s.shared (list_all (is_shared_storage D) (storages s.comp))))

  abbrev pub ToldOfComposite : ℕ → Option Refusal → Type 0
  ToldOfComposite a = AtSome (λ s. FirstOf (λ t. t ≡ told_before_continuation s) (ToldOfContinuation offset D s.comp)) (D a)

  -- all but the descriptor clauses
  abbrev pub ToldOfSubtype : ℕ → Option Refusal → Type 0
  ToldOfSubtype a =
      FirstOf (AtSome (λ s t. t ≡ told_of_extending features offset s) (D a))
      (FirstOf (ToldOfComposite a) (FirstOf (ToldOfSupertype offset D a) (ToldOfDepth offset D a)))

  abbrev pub ToldOfDescriptors : ℕ → Option Refusal → Type 0
  ToldOfDescriptors a =
      FirstOf (AtSome (λ s t. t ≡ told_of_clauses features offset s) (D a))
      (FirstOf (ToldOfSupertypeClauses offset D a) (ToldOfPair offset D a))

  abbrev pub ToldOfType : ℕ → Option Refusal → Type 0
  ToldOfType a = FirstOf (ToldOfSubtype a) (ToldOfDescriptors a)

-- of a group: of the first type that is not valid
pub record ToldOfGroup {A : Type 0} (features : WasmFeatures) (offset : ℕ) (gs : List (List (SubType A))) (k : ℕ) (r : Refusal) : Type 0 where
  pub id : ℕ
  pub inside : IsInGroup gs k id
  pub told : ToldOfType features offset (declares gs) id (Some r)
  pub valid_before : (before : ℕ) → IsInGroup gs k before → before < id → IsValidType (features_of features) (declares gs) before
