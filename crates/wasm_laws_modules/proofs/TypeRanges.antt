-- The types of valid tables and globals, imported or defined, are in range.
use Rattle.std.proofs.Common.{ℕ, List, [], ◌∷◌, ◌++◌, map, All}
use Rattle.std.proofs.lemmas.List.Elements.{All-nil, All-cons, All-head, All-tail, All-append, All-map}
use Rattle.wasm_spec.specs.Syntax.{Table, Global, Extern, func_extern, func_exact_extern, table_extern, memory_extern, global_extern, tag_extern}
use Rattle.wasm_spec.specs.BinaryModules.{Import}
use Rattle.wasm_spec.specs.BinarySections.{TableEntry, GlobalEntry}
use Rattle.wasm_spec.specs.Features.{Features}
use Rattle.wasm_spec.specs.Trees.{DefType}
use Rattle.wasm_spec_rules.specs.IndexSpaces.{imported, tables_in, table_type, globals_in, global_type, IsRefInRange, IsValInRange}
use Rattle.wasm_spec_rules.specs.ItemRules.{IsValidTableEntry, IsValidGlobal}
use Rattle.wasm_spec_rules.specs.LinkRules.{IsValidExtern, IsValidImport}
use Rattle.wasm_spec_rules.specs.Parts.{Expression}
use Rattle.wasm_laws_core.proofs.AddedItems.{for_each}

module _ (F : Features) (types : List DefType) where
  -- what holds of all that a valid import adds holds of all that valid imports add
  module _ {X : Type 0} (adds : Extern ℕ → List X) (P : X → Type 0) (one : (x : Extern ℕ) → IsValidExtern F types x → All P (adds x)) where
    of_imports : (is : List (Import ℕ)) → All (IsValidImport F types) is → All P (imported adds is)
    of_imports [] v = All-nil P
    of_imports (i ∷ is) v = All-append P (adds i.ty) (imported adds is) (one i.ty (All-head (IsValidImport F types) i is v).item) (of_imports is (All-tail (IsValidImport F types) i is v))

  abbrev pub IsTableInRange : Table ℕ → Type 0
  IsTableInRange t = IsRefInRange types t.element

  abbrev pub IsGlobalInRange : Global ℕ → Type 0
  IsGlobalInRange g = IsValInRange types g.content

  table_of_import : (x : Extern ℕ) → IsValidExtern F types x → All IsTableInRange (tables_in x)
  table_of_import (func_extern x) v = All-nil IsTableInRange
  table_of_import (func_exact_extern x) v = All-nil IsTableInRange
  table_of_import (table_extern t) v = All-cons IsTableInRange t [] v.element.in_range (All-nil IsTableInRange)
  table_of_import (memory_extern m) v = All-nil IsTableInRange
  table_of_import (global_extern g) v = All-nil IsTableInRange
  table_of_import (tag_extern x) v = All-nil IsTableInRange

  global_of_import : (x : Extern ℕ) → IsValidExtern F types x → All IsGlobalInRange (globals_in x)
  global_of_import (func_extern x) v = All-nil IsGlobalInRange
  global_of_import (func_exact_extern x) v = All-nil IsGlobalInRange
  global_of_import (table_extern t) v = All-nil IsGlobalInRange
  global_of_import (memory_extern m) v = All-nil IsGlobalInRange
  global_of_import (global_extern g) v = All-cons IsGlobalInRange g [] v.0.content.in_range (All-nil IsGlobalInRange)
  global_of_import (tag_extern x) v = All-nil IsGlobalInRange

  abbrev IsValidEntry : GlobalEntry Expression ℕ → Type 0
  IsValidEntry g = IsValidGlobal F types g.ty

  pub tables_in_range :
      (is : List (Import ℕ)) (ts : List (TableEntry Expression ℕ)) → All (IsValidImport F types) is → All (IsValidTableEntry F types) ts
      → All IsTableInRange (imported tables_in is ++ map table_type ts)
  tables_in_range is ts i t =
      All-append IsTableInRange (imported tables_in is) (map table_type ts) (of_imports tables_in IsTableInRange table_of_import is i)
      (All-map IsTableInRange table_type ts
      (for_each (IsValidTableEntry F types) (λ (x : TableEntry Expression ℕ). IsTableInRange x.ty) ts (λ x (v : IsValidTableEntry F types x). v.ty.element.in_range) t))

  pub globals_in_range :
      (is : List (Import ℕ)) (gs : List (GlobalEntry Expression ℕ)) → All (IsValidImport F types) is → All (λ (g : GlobalEntry Expression ℕ). IsValidGlobal F types g.ty) gs
      → All IsGlobalInRange (imported globals_in is ++ map global_type gs)
  globals_in_range is gs i g =
      All-append IsGlobalInRange (imported globals_in is) (map global_type gs) (of_imports globals_in IsGlobalInRange global_of_import is i)
      (All-map IsGlobalInRange global_type gs (for_each IsValidEntry (λ (x : GlobalEntry Expression ℕ). IsGlobalInRange x.ty) gs (λ x (v : IsValidEntry x). v.content.in_range) g))
