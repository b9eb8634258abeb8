-- What the answers on a list of modules say of all of them. Core Specification 3.0, Validation, Modules, and Validation, Types and Matching.
use Rattle.std.specs.Prelude.{ℕ, suc, ◌≡◌, ◌≤◌, ◌<◌, ◌+◌, ◌++◌, ◌↔◌, Bool, true, false, List, [], ◌∷◌, length, take, slice_get, Some, ⊤}
use Rattle.std.specs.List.{All}
use Rattle.std.specs.declared.result.Result.{Result}
use Rattle.std.specs.declared.result.Result.TheVariants.{Ok, Err}
use Rattle.wasm_spec.specs.Syntax.{Val, map_val, Sub}
use Rattle.wasm_spec.specs.References.{refs_val}
use Rattle.wasm_spec.specs.Features.{Features, canonical}
use Rattle.wasm_spec.specs.Trees.{DefType, declared}
use Rattle.wasm_spec.specs.TypeLaws.{HasNoRepetition}
use Rattle.wasm_spec.specs.SupertypeOrder.{IsAncestor}
use Rattle.wasm_spec.specs.Matching.{MatchesVal, MatchesSub}
use Rattle.wasm_spec_rules.specs.IndexSpaces.{index_spaces}
use Rattle.wasm_spec_rules.specs.Modules.{IsWellFormed}
use Rattle.wasm_validator_modules.specs.WasmSpecValidity.Expressions.{expression_at}
use Rattle.wasm_validator_modules.specs.WasmSpecValidity.Modules.{IsValidUpToBodies, IsValidModule}
use Rattle.wasm_readers_types.specs.WasmReadersValues.declared.indices.TheConstants.{MAX_IDS}
use Rattle.wasm_validator_type_list.specs.ListViews.{Listing}
use Rattle.wasm_validator_type_list.specs.GroupOrder.{AreListable}
use Rattle.wasm_validator_type_list.specs.DeclarationsById.{declares}
use Rattle.wasm_validator_type_list.specs.DefTypes.{types_of_list}
use Rattle.wasm_validator_modules.specs.WasmValidatorCanonical.TypeTotals.{with_types}
use Rattle.wasm_validator_modules.specs.WasmValidatorTypes.ShownModules.{shown_of}
use Rattle.wasm_validator_modules.specs.WasmValidatorTypes.declared.shown.Types as shown
use Rattle.wasm_validator_modules.specs.WasmValidatorCore.declared.error.Error.{Error}
use Rattle.wasm_validator_modules.specs.WasmValidatorCore.declared.error.Error.TheVariants.{OutOfMemory}
use Rattle.wasm_validator_modules.specs.WasmValidatorCore.Answers.{TypesSoFar}
use Rattle.wasm_validator_modules.specs.ShownModules.{ShowModule}
use Rattle.wasm_validator_modules.specs.ValidatorStages.{Stage, unparsed, in_module, in_code, ended, failed}

-- the types that a validator holds
abbrev pub types_held : Stage → TypesSoFar
types_held (unparsed types) = types
types_held (in_module types spaces more) = types
types_held (in_code types spaces more) = types
types_held (ended types) = types
types_held failed = []

-- the list begins with these types
pub record Begins (front list : TypesSoFar) : Type 0 where
  pub more : TypesSoFar
  pub is : list ≡ front ++ more

-- a type of a module, and the id under which it is shown
pub record TypeWithId : Type 0 where
  pub id : ℕ
  pub ty : DefType

abbrev pub its_id : TypeWithId → ℕ
its_id p = p.id

abbrev pub its_type : TypeWithId → DefType
its_type p = p.ty

-- each of these types has the id of each of those
abbrev pub AreUnderOneId : List TypeWithId → List TypeWithId → Type 0
AreUnderOneId ps qs = All (λ (p : TypeWithId). All (λ (q : TypeWithId). p.id ≡ q.id) qs) ps

-- There are ids for these types with those of all modules, one after another: where equal types are one, as the first argument says, for each that
-- isn't there yet, and else for all that are written. Nothing is asked of bytes that aren't well formed, and of what is behind them.
abbrev pub HaveIds : Bool → Features → TypesSoFar → List (List ℕ) → Type 0
HaveIds is_canonical F us [] = ⊤
HaveIds is_canonical F us (bytes ∷ more) =
    (m : IsWellFormed expression_at F bytes)
    → (length (with_types is_canonical us m.types.types) ≤ MAX_IDS) × HaveIds is_canonical F (with_types is_canonical us m.types.types) more

module _ {A : Type 0} (F : Features) (modules : List (List ℕ)) (answers : List (Result (shown.Types A) (Error A))) where
  -- The module at this place was looked at, with this answer.
  pub record IsAnswered (k : ℕ) (bytes : List ℕ) (answer : Result (shown.Types A) (Error A)) : Type 0 where
    pub given : slice_get modules k ≡ Some bytes
    pub answered : slice_get answers k ≡ Some answer

  -- There are ids for these types with those of all modules that were looked at.
  abbrev pub HasRoom : TypesSoFar → Type 0
  HasRoom held = HaveIds (canonical F) F held (take (length answers) modules)

  -- The bytes are a valid module, and the types show exactly its index spaces.
  pub record IsShown (bytes : List ℕ) (t : shown.Types A) : Type 0 where
    pub module_valid : IsValidModule F bytes
    pub shows :
        ShowModule F (types_of_list (shown_of t).list) (shown_of t).spaces
        (index_spaces module_valid.well_formed.types.types module_valid.well_formed.parts) module_valid.well_formed.parts

  -- The type with this index of the accepted module at this place of the list is d, and its types show it under this id.
  pub record IsTypeOf (k : ℕ) (t : shown.Types A) (index id : ℕ) (d : DefType) : Type 0 where
    pub bytes : List ℕ
    pub accepted : IsAnswered k bytes (Ok t)
    pub shown : IsShown bytes t
    pub its_id : slice_get (shown_of t).spaces.types index ≡ Some id
    pub its_type : slice_get shown.module_valid.well_formed.types.types index ≡ Some d

  -- An accepted module has this type under this id, and the list has under the id what that module's list of types has.
  pub record IsIn (l : Listing A) (p : TypeWithId) : Type 0 where
    pub module_index : ℕ
    pub types : shown.Types A
    pub type_index : ℕ
    pub is_type : IsTypeOf module_index types type_index p.id p.ty
    pub kept : slice_get (types_of_list l) p.id ≡ slice_get (types_of_list (shown_of types).list) p.id

  -- the list of types of an accepted module begins this list
  abbrev pub BeginsWith : Listing A → shown.Types A → Type 0
  BeginsWith l t = Begins (types_of_list (shown_of t).list) (types_of_list l)

  -- What the answers say of all modules, where the validator held these types before.
  pub record Headline (before : TypesSoFar) : Type 0 where
    -- What is accepted is a valid module, and its types show exactly its index spaces.
    pub accepted : (k : ℕ) (bytes : List ℕ) (t : shown.Types A) → IsAnswered k bytes (Ok t) → IsShown bytes t
    -- What is refused is no valid module, where there is room, unless the answer is that memory was refused.
    pub refused : HasRoom before → (k : ℕ) (bytes : List ℕ) (e : Error A) → IsAnswered k bytes (Err e) → IsValidModule F bytes → e ≡ OutOfMemory
    -- It goes on only behind a module that is valid up to its bodies.
    pub goes_on : (k : ℕ) (bytes : List ℕ) (r : Result (shown.Types A) (Error A)) → IsAnswered k bytes r → suc k < length answers → IsValidUpToBodies F bytes
    -- Where there is room, it stops before the end only behind a module that isn't, or where memory was refused.
    pub stops :
        HasRoom before
        → (k : ℕ) (bytes : List ℕ) (r : Result (shown.Types A) (Error A)) → IsAnswered k bytes r → suc k ≡ length answers → length answers < length modules → IsValidUpToBodies F bytes → r ≡ Err OutOfMemory
    pub at_most : length answers ≤ length modules
    pub first : 0 < length modules → 0 < length answers
    -- Where equal types are one, two types of any accepted modules have one id exactly where they are equal: the same place of equal recursive types.
    pub one_id :
        canonical F ≡ true → (j k : ℕ) (t u : shown.Types A) (h i x y : ℕ) (d e : DefType)
        → IsTypeOf j t h x d → IsTypeOf k u i y e → (x ≡ y) ↔ (d ≡ e)
    -- Where they aren't, each type that is written has its own.
    pub own_id :
        canonical F ≡ false → (j k : ℕ) (t u : shown.Types A) (h i x y : ℕ) (d e : DefType)
        → IsTypeOf j t h x d → IsTypeOf k u i y e → (x ≡ y) ↔ ((j ≡ k) × (h ≡ i))
    -- In every list that has two such types under their ids, the order of the ids is the declared order of the types. Where equal types aren't one,
    -- types with different ids count as different.
    pub ordered :
        (l : Listing A) → AreListable l.groups → HasNoRepetition (types_of_list l) → (p q : TypeWithId) → IsIn l p → IsIn l q
        → IsAncestor (declares l.groups) p.id q.id ↔ (IsAncestor declared p.ty q.ty × (canonical F ≡ false → p.id ≡ q.id))
    -- Value types, and so reference types, match over such ids exactly where they do over the types, by the standard's rules. Where equal types aren't
    -- one, types with different ids count as different.
    pub matched :
        (l : Listing A) → AreListable l.groups → HasNoRepetition (types_of_list l) → (v w : Val TypeWithId) → All (IsIn l) (refs_val v) → All (IsIn l) (refs_val w)
        → MatchesVal (declares l.groups) (map_val its_id v) (map_val its_id w)
        ↔ (MatchesVal declared (map_val its_type v) (map_val its_type w) × (canonical F ≡ false → AreUnderOneId (refs_val v) (refs_val w)))
    -- Each type matches each of its declared ancestors.
    pub ancestors_match :
        (k : ℕ) (t : shown.Types A) (i x : ℕ) (d e : DefType) (s u : Sub DefType)
        → IsTypeOf k t i x d → IsAncestor declared d e → declared d ≡ Some s → declared e ≡ Some u → MatchesSub declared s u
    -- Ids keep their data: the list of types of a module is the beginning of that of each later one, and the types from before that of all.
    pub kept : (j k : ℕ) (b c : List ℕ) (t u : shown.Types A) → j ≤ k → IsAnswered j b (Ok t) → IsAnswered k c (Ok u) → BeginsWith (shown_of u).list t
    pub kept_before : (k : ℕ) (bytes : List ℕ) (t : shown.Types A) → IsAnswered k bytes (Ok t) → Begins before (types_of_list (shown_of t).list)
