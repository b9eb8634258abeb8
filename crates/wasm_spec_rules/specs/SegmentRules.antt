-- The rules of element segments and data, all but the typing of offsets and of item expressions. Core
-- Specification 3.0, Validation, Modules (Element Segments, Data Segments).
use Rattle.std.specs.Prelude.{ℕ, ◌≡◌, ◌<◌, ◌≤◌, length, slice_get, Option, Some, None, IsTrue}
use Rattle.std.specs.List.{All}
use Rattle.wasm_readers_errors.specs.WasmSpec.Syntax.{Ref, Table}
use Rattle.wasm_readers_errors.specs.WasmSpec.BinarySections.{SegmentMode, passive, active, declarative, ElementItems, functions, expressions, Element, Data, ref_func}
use Rattle.wasm_readers_errors.specs.WasmSpec.Features.{Features}
use Rattle.wasm_readers_errors.specs.WasmSpec.Trees.{declared}
use Rattle.wasm_readers_errors.specs.WasmSpec.Matching.{MatchesRef}
use Rattle.wasm_spec_rules.specs.Parts.{Expression}
use Rattle.wasm_spec_rules.specs.IndexSpaces.{IndexSpaces, ref_over}
use Rattle.wasm_spec_rules.specs.ItemRules.{IsAllowedRef}
use Rattle.wasm_spec_rules.specs.Limits.{most_items}

-- the type of an element segment's items
abbrev pub items_type : ElementItems Expression ℕ → Ref ℕ
items_type (functions xs) = ref_func
items_type (expressions ty es) = ty

abbrev pub items_count : ElementItems Expression ℕ → ℕ
items_count (functions xs) = length xs
items_count (expressions ty es) = length es

-- functions exist, and a written type is allowed
abbrev pub AreValidItems : Features → IndexSpaces → ElementItems Expression ℕ → Type 0
AreValidItems F C (functions xs) = All (λ x. x < length C.functions) xs
AreValidItems F C (expressions ty es) = IsAllowedRef F C.types ty

-- the index that is written, or the first
abbrev pub index_or_first : Option ℕ → ℕ
index_or_first None = 0
index_or_first (Some x) = x

-- the table exists, and may hold references of this type
pub record GoesToTable (C : IndexSpaces) (x : ℕ) (r : Ref ℕ) : Type 0 where
  pub table : Table ℕ
  pub is_there : slice_get C.tables x ≡ Some table
  pub matches : MatchesRef declared (ref_over C.types r) (ref_over C.types table.element)

abbrev pub IsValidElementMode : Features → IndexSpaces → Ref ℕ → SegmentMode Expression → Type 0
IsValidElementMode F C r passive = IsTrue F.bulk_memory
IsValidElementMode F C r declarative = IsTrue F.bulk_memory
IsValidElementMode F C r (active x e) = GoesToTable C (index_or_first x) r

pub record IsValidElement (F : Features) (C : IndexSpaces) (e : Element Expression ℕ) : Type 0 where
  pub items : AreValidItems F C e.items
  pub mode : IsValidElementMode F C (items_type e.items) e.mode
  pub few_items : items_count e.items ≤ most_items

abbrev pub IsValidDataMode : Features → IndexSpaces → SegmentMode Expression → Type 0
IsValidDataMode F C passive = IsTrue F.bulk_memory
IsValidDataMode F C declarative = ⊥
IsValidDataMode F C (active x e) = index_or_first x < length C.memories

abbrev pub IsValidData : Features → IndexSpaces → Data Expression → Type 0
IsValidData F C d = IsValidDataMode F C d.mode
