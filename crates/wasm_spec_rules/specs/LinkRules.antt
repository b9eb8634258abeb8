-- The rules of imports, functions, exports and the start function, and the size of a module's type. Core
-- Specification 3.0, Validation, Modules.
use Rattle.std.specs.Prelude.{ℕ, ◌≡◌, ◌+◌, ◌==◌, if◌then◌else◌, List, [], ◌∷◌, ◌++◌, map, length, slice_get, Option, Some, None, nat_eq, IsTrue, ⊤}
use Rattle.std.specs.Option.{option_map}
use Rattle.std.specs.List.{IsDistinct, flat_map}
use Rattle.std.specs.Cmp.Lexicographic.{pointwise}
use Rattle.wasm_readers_errors.specs.WasmSpec.Syntax.{Val, Global, Extern, func_extern, func_exact_extern, table_extern, memory_extern, global_extern, tag_extern}
use Rattle.wasm_readers_errors.specs.WasmSpec.BinaryModules.{Import, Export}
use Rattle.wasm_readers_errors.specs.WasmSpec.BinarySections.{Element, ElementItems, functions, expressions}
use Rattle.wasm_readers_errors.specs.WasmSpec.Features.{Features}
use Rattle.wasm_readers_errors.specs.WasmSpec.CrateLimits.{IsShortName}
use Rattle.wasm_readers_errors.specs.WasmSpec.Trees.{DefType}
use Rattle.wasm_spec_rules.specs.Parts.{Parts, Expression, expressions_of}
use Rattle.wasm_spec_rules.specs.IndexSpaces.{IndexSpaces, IsFunctionType, signature_at}
use Rattle.wasm_spec_rules.specs.ItemRules.{IsValidTable, IsValidMemory, IsValidTag, IsValidGlobal}

-- what is imported or exported of a mutable global
abbrev pub IsMovable : Features → Global ℕ → Type 0
IsMovable F g = IsTrue g.mutable → IsTrue F.mutable_global

abbrev pub IsValidExtern : Features → List DefType → Extern ℕ → Type 0
IsValidExtern F types (func_extern x) = IsFunctionType types x
IsValidExtern F types (func_exact_extern x) = IsFunctionType types x × IsTrue F.custom_descriptors
IsValidExtern F types (table_extern t) = IsValidTable F types t
IsValidExtern F types (memory_extern m) = IsValidMemory F m
IsValidExtern F types (global_extern g) = IsValidGlobal F types g × IsMovable F g
IsValidExtern F types (tag_extern x) = IsValidTag F types x

-- an import: what is imported is valid, and its names are short where limits are asked for
pub record IsValidImport (F : Features) (types : List DefType) (i : Import ℕ) : Type 0 where
  pub item : IsValidExtern F types i.ty
  pub module_name : IsShortName F i.module_name
  pub item_name : IsShortName F i.item_name

-- what is exported, by the kinds' numbers: functions, tables, memories, globals, tags
abbrev pub exported : IndexSpaces → Export → Option (Extern ℕ)
exported C e =
    if e.kind == 0 then option_map func_extern (slice_get C.functions e.index)
    else (if e.kind == 1 then option_map table_extern (slice_get C.tables e.index)
    else (if e.kind == 2 then option_map memory_extern (slice_get C.memories e.index)
    else (if e.kind == 3 then option_map global_extern (slice_get C.globals e.index)
    else (if e.kind == 4 then option_map tag_extern (slice_get C.tags e.index)
    else None))))

abbrev pub IsMovableExtern : Features → Extern ℕ → Type 0
IsMovableExtern F (global_extern g) = IsMovable F g
IsMovableExtern F _ = ⊤

-- an export: the index is in range, a mutable global may be exported, and the name is short where limits are asked for
pub record IsValidExport (F : Features) (C : IndexSpaces) (e : Export) : Type 0 where
  pub item : Extern ℕ
  pub exports : exported C e ≡ Some item
  pub movable : IsMovableExtern F item
  pub name : IsShortName F e.name

abbrev pub export_name : Export → List ℕ
export_name e = e.name

-- export names are different
abbrev pub HasDistinctNames : List Export → Type 0
HasDistinctNames exports = IsDistinct (pointwise nat_eq) (map export_name exports)

-- how many types an imported or exported item counts as: functions and tags as many as they have parameters and
-- results, and two, anything else as one
abbrev pub signature_size : Option (List (Val DefType) × List (Val DefType)) → ℕ
signature_size None = 2
signature_size (Some s) = 2 + (length s.0 + length s.1)

abbrev pub extern_size : List DefType → Extern ℕ → ℕ
extern_size types (func_extern x) = signature_size (signature_at types x)
extern_size types (func_exact_extern x) = signature_size (signature_at types x)
extern_size types (tag_extern x) = signature_size (signature_at types x)
extern_size types _ = 1

abbrev pub sum : List ℕ → ℕ
sum [] = 0
sum (n ∷ ns) = n + sum ns

abbrev pub import_size : List DefType → Import ℕ → ℕ
import_size types i = extern_size types i.ty

abbrev pub size_if : List DefType → Option (Extern ℕ) → ℕ
size_if types None = 0
size_if types (Some x) = extern_size types x

abbrev pub export_size : IndexSpaces → Export → ℕ
export_size C e = size_if C.types (exported C e)

-- the effective size of a module's type: one, and all that it imports and exports
abbrev pub effective_size : IndexSpaces → List (Import ℕ) → List Export → ℕ
effective_size C imports exports = 1 + (sum (map (import_size C.types) imports) + sum (map (export_size C) exports))

-- the start function exists, and takes and gives nothing
pub record IsValidStart (C : IndexSpaces) (x : ℕ) : Type 0 where
  pub ty : ℕ
  pub is_there : slice_get C.functions x ≡ Some ty
  pub takes_and_gives_nothing : signature_at C.types ty ≡ Some ([], [])

-- the functions that an export names
abbrev pub exported_functions : Export → List ℕ
exported_functions e = if e.kind == 0 then e.index ∷ [] else []

-- the functions that an element segment lists
abbrev pub listed_functions : ElementItems Expression ℕ → List ℕ
listed_functions (functions xs) = xs
listed_functions (expressions ty es) = []

-- the functions that count as referenced: those that exports name, that element segments list, and that constant
-- expressions name, where `named` are those of one (Core Specification 3.0, Validation, Modules, the set refs)
abbrev pub referenced : (Expression → List ℕ) → Parts → List ℕ
referenced named parts =
    flat_map exported_functions parts.exports
    ++ (flat_map (λ (e : Element Expression ℕ). listed_functions e.items) parts.elements ++ flat_map named (expressions_of parts))
