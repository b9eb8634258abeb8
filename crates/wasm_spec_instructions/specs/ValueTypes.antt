-- Value types with those that only validation knows, and how they match.
-- Core Specification 3.0, Structure, Types (Value Types: `bot`; Heap Types: `bot`), and Validation, Matching.
use Rattle.std.specs.Prelude.{◌≡◌, Bool, true, false, List, [], ◌∷◌, Option, Some, None}
use Rattle.wasm_spec_steps.specs.WasmSpecRules.WasmSpec.Syntax.{Heap, Val, reference}
use Rattle.wasm_spec_steps.specs.WasmSpecRules.WasmSpec.ValueTypes.{implies}
use Rattle.wasm_spec_steps.specs.WasmSpecRules.WasmSpec.Matching.{is_shared_heap}
use Rattle.wasm_spec_steps.specs.WasmSpecRules.WasmSpec.MatchingTests.{World, matches_heap, matches_val}

-- `bot`; a reference, with null or without, to the heap type `bot`; and the types that can be written
pub data ValueType (R : Type 0) : Type 0 where
  bot : ValueType R
  reference_to_bot : Bool → ValueType R
  val : Val R → ValueType R

abbrev pub reference_at : {R : Type 0} → Bool → Heap R → Val R
reference_at nullable h = reference (record { nullable = nullable; heap = h })

-- a reference to a heap type, or to `bot`
abbrev pub reference_type : {R : Type 0} → Bool → Option (Heap R) → ValueType R
reference_type nullable None = reference_to_bot nullable
reference_type nullable (Some h) = val (reference_at nullable h)

abbrev pub vals : {R : Type 0} → List (Val R) → List (ValueType R)
vals [] = []
vals (v ∷ vs) = val v ∷ vals vs

module _ {R : Type 0} (W : World R) where
  -- `bot` matches each type, and so does the heap type `bot`
  abbrev pub matches_type : ValueType R → ValueType R → Bool
  matches_type bot t = true
  matches_type (reference_to_bot m) (reference_to_bot n) = implies m n
  matches_type (reference_to_bot m) (val (reference r)) = implies m r.nullable
  matches_type (val v) (val w) = matches_val W v w
  matches_type _ _ = false

  -- place by place: Result Types
  pub data Match : List (ValueType R) → List (ValueType R) → Type 0 where
    none : Match [] []
    each : {v w : ValueType R} {vs ws : List (ValueType R)} → matches_type v w ≡ true → Match vs ws → Match (v ∷ vs) (w ∷ ws)

-- Matching of heap types is an order, and what matches is shared where the other is.
pub record IsInOrder {R : Type 0} (W : World R) : Type 0 where
  pub itself : (h : Heap R) → matches_heap W h h ≡ true
  pub through : (h k l : Heap R) → matches_heap W h k ≡ true → matches_heap W k l ≡ true → matches_heap W h l ≡ true
  pub sharing : (h k : Heap R) → matches_heap W h k ≡ true → is_shared_heap W.declared h ≡ is_shared_heap W.declared k

module _ {R : Type 0} (W : World R) where
  -- types that aren't shared
  abbrev pub IsUnshared : Val R → Type 0
  IsUnshared (reference r) = is_shared_heap W.declared r.heap ≡ false
  IsUnshared _ = Unit {0}

  abbrev pub AreUnshared : List (Val R) → Type 0
  AreUnshared [] = Unit {0}
  AreUnshared (v ∷ vs) = IsUnshared v × AreUnshared vs
