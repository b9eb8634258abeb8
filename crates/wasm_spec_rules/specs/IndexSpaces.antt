-- The index spaces of a module: its types, and of each other kind first what is imported and then what is
-- defined. Core Specification 3.0, Structure, Modules, Indices, and Validation, Conventions, Contexts.
use Rattle.std.specs.Prelude.{ℕ, ◌<◌, List, [], ◌∷◌, ◌++◌, map, length, get_or, slice_get, Option, Some, None, is_some, IsTrue}
use Rattle.std.specs.Option.{option_and_then}
use Rattle.std.specs.List.{flat_map, All}
use Rattle.wasm_readers_errors.specs.WasmSpec.Syntax.{Ref, Val, Sub, Comp, func, array, struct, cont, Table, Memory, Global, Extern, func_extern, func_exact_extern, table_extern, memory_extern, global_extern, tag_extern, map_ref, map_val}
use Rattle.wasm_readers_errors.specs.WasmSpec.BinaryModules.{Import}
use Rattle.wasm_readers_errors.specs.WasmSpec.BinarySections.{TableEntry, GlobalEntry}
use Rattle.wasm_readers_errors.specs.WasmSpec.References.{refs_heap, refs_val}
use Rattle.wasm_readers_errors.specs.WasmSpec.Trees.{rec_tree, no_uses, DefType, declared}
use Rattle.wasm_spec_rules.specs.Parts.{Parts, Expression}

-- the index spaces; functions and tags by the index of their type
pub record IndexSpaces : Type 0 where
  pub types : List DefType
  pub functions : List ℕ
  pub tables : List (Table ℕ)
  pub memories : List Memory
  pub globals : List (Global ℕ)
  pub tags : List ℕ

-- what an import adds to the index space of each kind
abbrev pub functions_in : Extern ℕ → List ℕ
functions_in (func_extern x) = x ∷ []
functions_in (func_exact_extern x) = x ∷ []
functions_in _ = []

abbrev pub tables_in : Extern ℕ → List (Table ℕ)
tables_in (table_extern t) = t ∷ []
tables_in _ = []

abbrev pub memories_in : Extern ℕ → List Memory
memories_in (memory_extern m) = m ∷ []
memories_in _ = []

abbrev pub globals_in : Extern ℕ → List (Global ℕ)
globals_in (global_extern g) = g ∷ []
globals_in _ = []

abbrev pub tags_in : Extern ℕ → List ℕ
tags_in (tag_extern x) = x ∷ []
tags_in _ = []

-- what all imports add
abbrev pub imported : {X : Type 0} → (Extern ℕ → List X) → List (Import ℕ) → List X
imported adds imports = flat_map (λ (i : Import ℕ). adds i.ty) imports

-- the type of a table and of a global that is defined
abbrev pub table_type : TableEntry Expression ℕ → Table ℕ
table_type t = t.ty

abbrev pub global_type : GlobalEntry Expression ℕ → Global ℕ
global_type g = g.ty

-- the index spaces of a module with these parts, whose types are these
abbrev pub index_spaces : List DefType → Parts → IndexSpaces
index_spaces types parts = record {
  types = types;
  functions = imported functions_in parts.imports ++ parts.functions;
  tables = imported tables_in parts.imports ++ map table_type parts.tables;
  memories = imported memories_in parts.imports ++ parts.memories;
  globals = imported globals_in parts.imports ++ map global_type parts.globals;
  tags = imported tags_in parts.imports ++ parts.tags;
}

-- the sub type that is declared at a type index, if there is one
abbrev pub declared_at : List DefType → ℕ → Option (Sub DefType)
declared_at types x = option_and_then declared (slice_get types x)

-- the parameters and results of a function type
abbrev pub signature : Comp DefType → Option (List (Val DefType) × List (Val DefType))
signature (func ps rs) = Some (ps, rs)
signature (array x) = None
signature (struct xs) = None
signature (cont r) = None

abbrev pub signature_at : List DefType → ℕ → Option (List (Val DefType) × List (Val DefType))
signature_at types x = option_and_then (λ (s : Sub DefType). signature s.comp) (declared_at types x)

-- the type index names a function type
abbrev pub IsFunctionType : List DefType → ℕ → Type 0
IsFunctionType types x = IsTrue (is_some (signature_at types x))

-- a reference type and a value type over the types that its indices stand for; rules ask first that they are in range
abbrev pub nowhere : DefType
nowhere = record { tree = rec_tree None [] no_uses; position = 0 }

abbrev pub type_at : List DefType → ℕ → DefType
type_at types x = get_or types x nowhere

abbrev pub ref_over : List DefType → Ref ℕ → Ref DefType
ref_over types r = map_ref (type_at types) r

abbrev pub val_over : List DefType → Val ℕ → Val DefType
val_over types v = map_val (type_at types) v

-- each type index in it is in range
abbrev pub IsRefInRange : List DefType → Ref ℕ → Type 0
IsRefInRange types r = All (λ x. x < length types) (refs_heap r.heap)

abbrev pub IsValInRange : List DefType → Val ℕ → Type 0
IsValInRange types v = All (λ x. x < length types) (refs_val v)
