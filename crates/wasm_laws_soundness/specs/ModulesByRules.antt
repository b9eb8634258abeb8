-- Valid modules, with constant expressions and bodies that the rules type. Core Specification 3.0, Validation, Modules.
use Rattle.std.specs.Prelude.{◌≡◌, ℕ, ◌+◌, Bool, nat_eq, List, length, slice_get, Some, IfSome, ⊤}
use Rattle.std.specs.List.{All}
use Rattle.wasm_spec.specs.Syntax.{Val, reference, map_ref, map_val}
use Rattle.wasm_spec.specs.BinarySections.{TableEntry, GlobalEntry, Element, ElementItems, functions, expressions, Data, SegmentMode, passive, active, declarative}
use Rattle.wasm_spec.specs.Features.{Features}
use Rattle.wasm_spec_steps.specs.WasmSpecRules.Contexts.{Context}
use Rattle.wasm_spec_steps.specs.WasmSpecRules.IndexSpaces.{index_spaces}
use Rattle.wasm_spec_steps.specs.WasmSpecRules.Modules.{IsWellFormed}
use Rattle.wasm_spec_steps.specs.WasmSpecRules.Parts.{Parts, Expression}
use Rattle.wasm_spec_steps.specs.WasmSpecRules.SegmentRules.{index_or_first}
use Rattle.wasm_spec_steps.specs.WasmSpecRules.Worlds.{world_of}
use Rattle.wasm_spec_steps.specs.Meanings.{address}
use Rattle.wasm_spec_validity.specs.Expressions.{expression_at}
use Rattle.wasm_spec_validity.specs.Typing.{seeing, around}
use Rattle.wasm_spec_validity.specs.Modules.{Numbering, number_at, context_of, imported_globals}
use Rattle.wasm_laws_soundness.specs.BodiesByRules.{IsTypedBody, IsTypedConstant}

module _ {R : Type 0} (same : R → R → Bool) (F : Features) (C : Context R) (imported : ℕ) where
  -- a constant expression of this type, to which so many globals are visible
  abbrev pub IsConstantByRules : ℕ → Val R → Expression → Type 0
  IsConstantByRules visible v e = IsTypedConstant (world_of same C) (around F (seeing visible C)) imported v e

  -- Those of a module, where `at` gives the identity of each type index: see `HasTypedConstants`.
  module _ (at : ℕ → R) where
    abbrev pub IsGlobalByRules : ℕ → GlobalEntry Expression ℕ → Type 0
    IsGlobalByRules x g = IsConstantByRules x (map_val at g.ty.content) g.init

    abbrev pub IsTableByRules : TableEntry Expression ℕ → Type 0
    IsTableByRules t = IfSome t.init (IsConstantByRules imported (reference (map_ref at t.ty.element)))

    abbrev pub IsElementModeByRules : SegmentMode Expression → Type 0
    IsElementModeByRules passive = ⊤
    IsElementModeByRules declarative = ⊤
    IsElementModeByRules (active x e) = IfSome (slice_get C.tables (index_or_first x)) (λ t. IsConstantByRules (length C.globals) (address t.is_64) e)

    abbrev pub AreItemsByRules : ElementItems Expression ℕ → Type 0
    AreItemsByRules (functions xs) = ⊤
    AreItemsByRules (expressions r es) = All (IsConstantByRules (length C.globals) (reference (map_ref at r))) es

    abbrev pub IsElementByRules : Element Expression ℕ → Type 0
    IsElementByRules e = IsElementModeByRules e.mode × AreItemsByRules e.items

    abbrev pub IsDataModeByRules : SegmentMode Expression → Type 0
    IsDataModeByRules passive = ⊤
    IsDataModeByRules declarative = ⊤
    IsDataModeByRules (active x e) = IfSome (slice_get C.memories (index_or_first x)) (λ m. IsConstantByRules (length C.globals) (address m.is_64) e)

    abbrev pub IsDataByRules : Data Expression → Type 0
    IsDataByRules d = IsDataModeByRules d.mode

    pub record HasConstantsByRules (parts : Parts) : Type 0 where
      pub globals : (i : ℕ) (g : GlobalEntry Expression ℕ) → slice_get parts.globals i ≡ Some g → IsGlobalByRules (imported + i) g
      pub tables : All IsTableByRules parts.tables
      pub elements : All IsElementByRules parts.elements
      pub segments : All IsDataByRules parts.segments

-- The bodies of a module with these parts are those of its functions, in their order.
abbrev pub HasBodiesByRules : {R : Type 0} → (R → R → Bool) → Features → Context R → Parts → Type 0
HasBodiesByRules same F C parts =
    (i x : ℕ) (bytes : List ℕ) → slice_get parts.functions i ≡ Some x → slice_get parts.bodies i ≡ Some bytes → IsTypedBody (world_of same C) F C x bytes

-- The bytes are a valid module, and the rules type each of its constant expressions and bodies.
pub record IsValidByRules (F : Features) (bytes : List ℕ) : Type 0 where
  pub well_formed : IsWellFormed expression_at F bytes
  pub numbering : Numbering (index_spaces well_formed.types.types well_formed.parts).types
  pub constants :
      HasConstantsByRules nat_eq F (context_of (index_spaces well_formed.types.types well_formed.parts) numbering well_formed.parts)
      (imported_globals well_formed.parts) (number_at numbering) well_formed.parts
  pub bodies : HasBodiesByRules nat_eq F (context_of (index_spaces well_formed.types.types well_formed.parts) numbering well_formed.parts) well_formed.parts
