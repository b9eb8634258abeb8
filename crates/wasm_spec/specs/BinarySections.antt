-- Core Specification 3.0, Binary Format, Modules: the entries of the table, global, element and data sections.
-- They hold constant expressions, whose instructions are not this crate's: `expression_at` reads one, its `end`
-- included, and E is what it is read as.
use Rattle.std.specs.Prelude.{ℕ, true, false, ◌==◌, if◌then◌else◌, List, Option, Some, None}
use Rattle.std.specs.Option.{option_map, option_and_then}
use Rattle.wasm_spec.specs.Syntax.{abstract_heap, func_heap, Ref, Table, Global}
use Rattle.wasm_spec.specs.Values.{byte_at, u32_at, sized_at, list_at}
use Rattle.wasm_spec.specs.BinaryTypes.{flags_at, ref_at, table_at, global_at}

-- a table: its type, and what its entries begin with, where that is written
pub record TableEntry (E R : Type 0) : Type 0 where
  pub ty : Table R
  pub init : Option E

-- a global: its type, and its first value
pub record GlobalEntry (E R : Type 0) : Type 0 where
  pub ty : Global R
  pub init : E

-- where a segment goes when the module starts: nowhere; to a table or memory from an offset on, whose index is 0
-- where none is written; and an element segment may only declare functions
pub data SegmentMode (E : Type 0) : Type 0 where
  passive : SegmentMode E
  active : Option ℕ → E → SegmentMode E
  declarative : SegmentMode E

-- the items of an element segment: functions, or references of a type
pub data ElementItems (E R : Type 0) : Type 0 where
  functions : List ℕ → ElementItems E R
  expressions : Ref R → List E → ElementItems E R

pub record Element (E R : Type 0) : Type 0 where
  pub mode : SegmentMode E
  pub items : ElementItems E R

-- a data segment: its bytes, and where they go
pub record Data (E : Type 0) : Type 0 where
  pub mode : SegmentMode E
  pub bytes : List ℕ

-- the references that may be null to any function
abbrev pub funcref : {R : Type 0} → Ref R
funcref = record { nullable = true; heap = abstract_heap false func_heap }

-- the references to functions, which are never null
abbrev pub ref_func : {R : Type 0} → Ref R
ref_func = record { nullable = false; heap = abstract_heap false func_heap }

module _ {E : Type 0} (expression_at : List ℕ → Option (E × List ℕ)) where
  -- data segments: 0 active in the first memory, 1 passive, 2 active in a memory that is written
  abbrev pub data_mode_from : ℕ → List ℕ → Option (SegmentMode E × List ℕ)
  data_mode_from flag bytes =
      if flag == 0 then option_map (λ e. (active None e.0, e.1)) (expression_at bytes)
      else (if flag == 1 then Some (passive, bytes)
      else (if flag == 2 then option_and_then (λ m. option_map (λ e. (active (Some m.0) e.0, e.1)) (expression_at m.1)) (u32_at bytes)
      else None))

  unfoldable pub data_at : List ℕ → Option (Data E × List ℕ)
  data_at bytes =
      option_and_then
      (λ f. option_and_then (λ m. option_map (λ b. (record { mode = m.0; bytes = b.0 }, b.1)) (sized_at m.1)) (data_mode_from f.0 f.1))
      (u32_at bytes)

  -- the kind of items that are function indices: 0
  abbrev pub kind_at : List ℕ → Option (ℕ × List ℕ)
  kind_at bytes = flags_at 0 bytes

  -- function indices with this mode
  abbrev pub functions_with : {R : Type 0} → SegmentMode E → List ℕ → Option (Element E R × List ℕ)
  functions_with mode bytes = option_map (λ xs. (record { mode = mode; items = functions xs.0 }, xs.1)) (list_at u32_at bytes)

  -- expressions of a type with this mode
  abbrev pub expressions_with : {R : Type 0} → SegmentMode E → Ref R → List ℕ → Option (Element E R × List ℕ)
  expressions_with mode ty bytes = option_map (λ es. (record { mode = mode; items = expressions ty es.0 }, es.1)) (list_at expression_at bytes)

  module _ {R : Type 0} (to : ℕ → R) where
    -- tables: a type alone, or 40 and 00 before a type and an expression
    abbrev pub table_from : ℕ → List ℕ → List ℕ → Option (TableEntry E R × List ℕ)
    table_from b more bytes =
        if b == 0x40 then
        option_and_then
        (λ z. option_and_then (λ t. option_map (λ e. (record { ty = t.0; init = Some e.0 }, e.1)) (expression_at t.1)) (table_at to z.1))
        (flags_at 0 more)
        else option_map (λ t. (record { ty = t.0; init = None }, t.1)) (table_at to bytes)

    unfoldable pub table_entry_at : List ℕ → Option (TableEntry E R × List ℕ)
    table_entry_at bytes = option_and_then (λ b. table_from b.0 b.1 bytes) (byte_at bytes)

    unfoldable pub global_entry_at : List ℕ → Option (GlobalEntry E R × List ℕ)
    global_entry_at bytes = option_and_then (λ g. option_map (λ e. (record { ty = g.0; init = e.0 }, e.1)) (expression_at g.1)) (global_at to bytes)

    -- element segments by their flag: bit 0 passive or declarative, bit 1 a table or declarative, bit 2 expressions
    abbrev pub element_from : ℕ → List ℕ → Option (Element E R × List ℕ)
    element_from flag bytes =
        if flag == 0 then option_and_then (λ e. functions_with (active None e.0) e.1) (expression_at bytes)
        else (if flag == 1 then option_and_then (λ k. functions_with passive k.1) (kind_at bytes)
        else (if flag == 2 then option_and_then (λ t. option_and_then (λ e. option_and_then (λ k. functions_with (active (Some t.0) e.0) k.1) (kind_at e.1)) (expression_at t.1)) (u32_at bytes)
        else (if flag == 3 then option_and_then (λ k. functions_with declarative k.1) (kind_at bytes)
        else (if flag == 4 then option_and_then (λ e. expressions_with (active None e.0) funcref e.1) (expression_at bytes)
        else (if flag == 5 then option_and_then (λ r. expressions_with passive r.0 r.1) (ref_at to bytes)
        else (if flag == 6 then option_and_then (λ t. option_and_then (λ e. option_and_then (λ r. expressions_with (active (Some t.0) e.0) r.0 r.1) (ref_at to e.1)) (expression_at t.1)) (u32_at bytes)
        else (if flag == 7 then option_and_then (λ r. expressions_with declarative r.0 r.1) (ref_at to bytes)
        else None)))))))

    unfoldable pub element_at : List ℕ → Option (Element E R × List ℕ)
    element_at bytes = option_and_then (λ f. element_from f.0 f.1) (u32_at bytes)
