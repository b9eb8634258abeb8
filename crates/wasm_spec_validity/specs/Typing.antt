-- The typing of a module's constant expressions and bodies, over any kind of identity R of types.
-- Core Specification 3.0, Validation, Modules, and Validation, Instructions (Constant Expressions).
use Rattle.std.specs.Prelude.{◌≡◌, ℕ, zero, suc, ◌+◌, Bool, false, List, [], ◌∷◌, length, take, slice_get, Some, IfSome, ⊤}
use Rattle.std.specs.List.{All}
use Rattle.wasm_spec.specs.Syntax.{Val, reference, map_ref, map_val}
use Rattle.wasm_spec.specs.BinarySections.{TableEntry, GlobalEntry, Element, ElementItems, functions, expressions, Data, SegmentMode, passive, active, declarative}
use Rattle.wasm_spec.specs.Features.{Features}
use Rattle.wasm_spec_steps.specs.WasmSpecRules.Contexts.{Context}
use Rattle.wasm_spec_steps.specs.WasmSpecRules.Parts.{Parts, Expression}
use Rattle.wasm_spec_steps.specs.WasmSpecRules.SegmentRules.{index_or_first}
use Rattle.wasm_spec_steps.specs.WasmSpecRules.Worlds.{world_of}
use Rattle.wasm_operators.specs.Control.{value_block}
use Rattle.wasm_spec_steps.specs.Bodies.{Surroundings}
use Rattle.wasm_spec_steps.specs.ConstantRules.{IsConstantExpression}
use Rattle.wasm_spec_steps.specs.FunctionBodies.{IsBodyOfFunction}
use Rattle.wasm_spec_steps.specs.Machine.{State}
use Rattle.wasm_spec_steps.specs.Meanings.{address}
use Rattle.wasm_spec_steps.specs.Steps.{start}

-- the indices below a number
abbrev pub from_on : ℕ → ℕ → List ℕ
from_on n zero = []
from_on n (suc count) = n ∷ from_on (suc n) count

-- What a constant expression is checked in: the first globals alone, so many as are visible, with all else; and each function counts as
-- referenced. It has no locals, and isn't shared.
abbrev pub seeing : {R : Type 0} → ℕ → Context R → Context R
seeing visible C = record C { globals = take visible C.globals; references = from_on 0 (length C.functions) }

abbrev pub around : {R : Type 0} → Features → Context R → Surroundings R
around F C = record { features = F; context = C; locals = []; shared = false }

module _ {R : Type 0} (same : R → R → Bool) (F : Features) (C : Context R) (imported : ℕ) where
  -- A constant expression of this type, to which so many globals are visible: from a frame that gives one value of the type, its
  -- instructions lead to a state in which no frame is left. `imported` of the globals are imported.
  pub record IsConstant (visible : ℕ) (v : Val R) (e : Expression) : Type 0 where
    pub last : State R
    pub is : IsConstantExpression (world_of same C) (around F (seeing visible C)) imported (start (value_block v)) e last []

  -- Where `at` gives the identity of each type index:
  module _ (at : ℕ → R) where
    -- the initializer of the global with this index sees those before it
    abbrev pub IsTypedGlobal : ℕ → GlobalEntry Expression ℕ → Type 0
    IsTypedGlobal x g = IsConstant x (map_val at g.ty.content) g.init

    -- that of a table sees the imported globals
    abbrev pub IsTypedTable : TableEntry Expression ℕ → Type 0
    IsTypedTable t = IfSome t.init (IsConstant imported (reference (map_ref at t.ty.element)))

    -- an offset is of the table's address type, and sees all globals
    abbrev pub IsTypedElementMode : SegmentMode Expression → Type 0
    IsTypedElementMode passive = ⊤
    IsTypedElementMode declarative = ⊤
    IsTypedElementMode (active x e) = IfSome (slice_get C.tables (index_or_first x)) (λ t. IsConstant (length C.globals) (address t.is_64) e)

    -- the items see all globals too, and are of the type that is written
    abbrev pub AreTypedItems : ElementItems Expression ℕ → Type 0
    AreTypedItems (functions xs) = ⊤
    AreTypedItems (expressions r es) = All (IsConstant (length C.globals) (reference (map_ref at r))) es

    abbrev pub IsTypedElement : Element Expression ℕ → Type 0
    IsTypedElement e = IsTypedElementMode e.mode × AreTypedItems e.items

    -- the same of a memory's
    abbrev pub IsTypedDataMode : SegmentMode Expression → Type 0
    IsTypedDataMode passive = ⊤
    IsTypedDataMode declarative = ⊤
    IsTypedDataMode (active x e) = IfSome (slice_get C.memories (index_or_first x)) (λ m. IsConstant (length C.globals) (address m.is_64) e)

    abbrev pub IsTypedData : Data Expression → Type 0
    IsTypedData d = IsTypedDataMode d.mode

    -- The constant expressions of a module with these parts are typed; its own globals come behind the imported ones.
    pub record HasTypedConstants (parts : Parts) : Type 0 where
      pub globals : (i : ℕ) (g : GlobalEntry Expression ℕ) → slice_get parts.globals i ≡ Some g → IsTypedGlobal (imported + i) g
      pub tables : All IsTypedTable parts.tables
      pub elements : All IsTypedElement parts.elements
      pub segments : All IsTypedData parts.segments

-- The bodies of a module with these parts are those of its functions, in their order.
abbrev pub HasTypedBodies : {R : Type 0} → (R → R → Bool) → Features → Context R → Parts → Type 0
HasTypedBodies same F C parts =
    (i x : ℕ) (bytes : List ℕ) → slice_get parts.functions i ≡ Some x → slice_get parts.bodies i ≡ Some bytes → IsBodyOfFunction (world_of same C) F C x bytes
