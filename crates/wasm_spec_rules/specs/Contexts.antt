-- What instructions look up of a module, over any kind of identity R of types: the context of the Core Specification
-- 3.0 (Validation, Conventions, Contexts), as finite lists.
use Rattle.std.specs.Prelude.{ℕ, ◌≡◌, ◌≢◌, ◌<◌, Bool, true, false, List, [], ◌∷◌, ◌++◌, map, slice_get, Option, Some, None}
use Rattle.std.specs.List.{flat_map, All, Contains}
use Rattle.wasm_readers_errors.specs.WasmSpec.Syntax.{Ref, Table, Memory, Global, Sub, Extern, func_extern, func_exact_extern, map_ref, map_table, map_global, map_sub}
use Rattle.wasm_readers_errors.specs.WasmSpec.BinaryModules.{Import}
use Rattle.wasm_readers_errors.specs.WasmSpec.BinarySections.{Element}
use Rattle.wasm_readers_errors.specs.WasmSpec.Trees.{DefType, declared}
use Rattle.wasm_readers_errors.specs.WasmSpec.TypeLaws.{HasNoRepetition}
use Rattle.wasm_spec_rules.specs.Parts.{Parts, Expression}
use Rattle.wasm_spec_rules.specs.IndexSpaces.{IndexSpaces, type_at}
use Rattle.wasm_spec_rules.specs.SegmentRules.{items_type}
use Rattle.wasm_spec_rules.specs.LinkRules.{referenced}

-- The types by index, and what each declares; functions and tags by the index of their type, and which functions are
-- exactly of their type; tables, memories and globals; the types of element segments; the data count, where there is
-- one; and the functions that count as referenced.
pub record Context (R : Type 0) : Type 0 where
  pub types : List R
  pub declares : List (R × Sub R)
  pub functions : List ℕ
  pub exact : List Bool
  pub tables : List (Table R)
  pub memories : List Memory
  pub globals : List (Global R)
  pub tags : List ℕ
  pub elements : List (Ref R)
  pub data_count : Option ℕ
  pub references : List ℕ

-- what one type declares
abbrev pub declares_at : {R : Type 0} → (DefType → R) → DefType → Option (Sub DefType) → List (R × Sub R)
declares_at n d None = []
declares_at n d (Some s) = (n d, map_sub n s) ∷ []

-- which functions an import adds exactly of their type
abbrev pub exact_in : Extern ℕ → List Bool
exact_in (func_extern x) = false ∷ []
exact_in (func_exact_extern x) = true ∷ []
exact_in _ = []

-- functions that are defined are exactly of their type
abbrev pub is_exact : ℕ → Bool
is_exact x = true

-- The context of a module with these index spaces and parts, where each type goes under n, the distinct types are
-- these in order, and `named` are the functions that an expression names.
abbrev pub context_over : {R : Type 0} → (DefType → R) → List DefType → (Expression → List ℕ) → IndexSpaces → Parts → Context R
context_over n distinct named C parts = record {
  types = map n C.types;
  declares = flat_map (λ (d : DefType). declares_at n d (declared d)) distinct;
  functions = C.functions;
  exact = flat_map (λ (i : Import ℕ). exact_in i.ty) parts.imports ++ map is_exact parts.functions;
  tables = map (map_table (λ (x : ℕ). n (type_at C.types x))) C.tables;
  memories = C.memories;
  globals = map (map_global (λ (x : ℕ). n (type_at C.types x))) C.globals;
  tags = C.tags;
  elements = map (λ (e : Element Expression ℕ). map_ref (λ (x : ℕ). n (type_at C.types x)) (items_type e.items)) parts.elements;
  data_count = slice_get parts.data_counts 0;
  references = referenced named parts;
}

-- each identity renamed
abbrev pub renamed_declared : {R S : Type 0} → (R → S) → R × Sub R → S × Sub S
renamed_declared f p = (f p.0, map_sub f p.1)

abbrev pub map_context : {R S : Type 0} → (R → S) → Context R → Context S
map_context f c = record {
  types = map f c.types;
  declares = map (renamed_declared f) c.declares;
  functions = c.functions;
  exact = c.exact;
  tables = map (map_table f) c.tables;
  memories = c.memories;
  globals = map (map_global f) c.globals;
  tags = c.tags;
  elements = map (map_ref f) c.elements;
  data_count = c.data_count;
  references = c.references;
}

-- The distinct types of a module by first appearance: each of its types is there, once, and where one stands before
-- another it appears first.
pub record AreFirst (types distinct : List DefType) : Type 0 where
  pub all : All (Contains distinct) types
  pub only : All (Contains types) distinct
  pub once : HasNoRepetition distinct
  pub in_order :
      (i j k : ℕ) (a b : DefType) → i < j → slice_get distinct i ≡ Some a → slice_get distinct j ≡ Some b → slice_get types k ≡ Some b
      → (h : ℕ) × (h < k) × (slice_get types h ≡ Some a)

-- A context over other identities is the context with each identity renamed.
abbrev pub ContextsAreRenamed : (R S : Type 0) → Type 0
ContextsAreRenamed R S =
    (f : R → S) (n : DefType → R) (distinct : List DefType) (named : Expression → List ℕ) (C : IndexSpaces) (parts : Parts)
    → map_context f (context_over n distinct named C parts) ≡ context_over (λ d. f (n d)) distinct named C parts

-- A type that comes twice is one of the distinct types.
abbrev pub RepeatedTypeIsOne : Type 0
RepeatedTypeIsOne = (a b : DefType) → a ≢ b → AreFirst (a ∷ b ∷ a ∷ []) (a ∷ b ∷ [])

-- One that it doesn't have is none of them.
abbrev pub TypeOfOthersIsNone : Type 0
TypeOfOthersIsNone = (a b : DefType) → a ≢ b → AreFirst (a ∷ []) (a ∷ b ∷ []) → ⊥
