-- Core Specification 3.0, Binary Format, Instructions, Control Instructions and Parametric Instructions. Blocks are not
-- taken together with their bodies: `else` and `end` stand for themselves. A type index x in a type is read as `to x`.
use Rattle.std.specs.Prelude.{ℕ, ◌==◌, nat_lt, if◌then◌else◌, List, Option, Some, None}
use Rattle.std.specs.Option.{option_map, option_and_then}
use Rattle.wasm_operators_proposals.specs.WasmOperatorsPlain.WasmSpec.Syntax.{Val}
use Rattle.wasm_operators_proposals.specs.WasmOperatorsPlain.WasmSpec.Values.{byte_at, u32_at, s33_index_at, list_at}
use Rattle.wasm_operators_proposals.specs.WasmOperatorsPlain.WasmSpec.BinaryTypes.{val_at}
use Rattle.wasm_operators_proposals.specs.WasmOperatorsPlain.Immediates.{alone, one_index, two_indices}
use Rattle.wasm_operators.specs.declared.control.Catch.{Catch}
use Rattle.wasm_operators.specs.declared.control.Catch.TheVariants.{One, OneRef, All, AllRef}

-- block types: nothing, one result, or the function type of an index
pub data Block (R : Type 0) : Type 0 where
  empty_block : Block R
  value_block : Val R → Block R
  func_block : ℕ → Block R

pub data Control (R : Type 0) : Type 0 where
  unreachable nop else_ end_ throw_ref return_ : Control R
  block loop if_ : Block R → Control R
  try_table : Block R → List Catch → Control R
  throw br br_if : ℕ → Control R
  br_table : List ℕ → ℕ → Control R

pub data Parametric (R : Type 0) : Type 0 where
  drop_ select : Parametric R
  select_of : List (Val R) → Parametric R

-- a catch clause, by its first byte
abbrev pub catch_from : ℕ → List ℕ → Option (Catch × List ℕ)
catch_from b bytes =
    if b == 0 then two_indices One bytes
    else (if b == 1 then two_indices OneRef bytes
    else (if b == 2 then one_index All bytes
    else (if b == 3 then one_index AllRef bytes
    else None)))

unfoldable pub catch_at : List ℕ → Option (Catch × List ℕ)
catch_at bytes = option_and_then (λ b. catch_from b.0 b.1) (byte_at bytes)

-- a branch table: a list of labels, and one more
abbrev pub br_table_at : List ℕ → Option ((List ℕ × ℕ) × List ℕ)
br_table_at bytes = option_and_then (λ ls. option_map (λ l. ((ls.0, l.0), l.1)) (u32_at ls.1)) (list_at u32_at bytes)

module _ {R : Type 0} (to : ℕ → R) where
  -- A block type begins with 40 and is empty, or with another byte from 40 to 7f and is a value type, or else is a type index.
  -- As a signed number a type index isn't negative, so it has none of these bytes in front.
  abbrev pub block_from : ℕ → List ℕ → List ℕ → Option (Block R × List ℕ)
  block_from b more bytes =
      if b == 0x40 then Some (empty_block, more)
      else (if nat_lt b 0x40 then option_map (λ x. (func_block x.0, x.1)) (s33_index_at bytes)
      else (if nat_lt b 0x80 then option_map (λ v. (value_block v.0, v.1)) (val_at to bytes)
      else option_map (λ x. (func_block x.0, x.1)) (s33_index_at bytes)))

  unfoldable pub block_at : List ℕ → Option (Block R × List ℕ)
  block_at bytes = option_and_then (λ b. block_from b.0 b.1 bytes) (byte_at bytes)

  abbrev pub with_block : (Block R → Control R) → List ℕ → Option (Control R × List ℕ)
  with_block op bytes = option_map (λ b. (op b.0, b.1)) (block_at bytes)

  -- a block type and a list of catch clauses
  abbrev pub try_table_at : List ℕ → Option ((Block R × List Catch) × List ℕ)
  try_table_at bytes = option_and_then (λ b. option_map (λ cs. ((b.0, cs.0), cs.1)) (list_at catch_at b.1)) (block_at bytes)

  -- control instructions by their byte, calls aside
  unfoldable pub control_from : ℕ → List ℕ → Option (Control R × List ℕ)
  control_from b bytes =
      if b == 0x00 then alone unreachable bytes
      else (if b == 0x01 then alone nop bytes
      else (if b == 0x02 then with_block block bytes
      else (if b == 0x03 then with_block loop bytes
      else (if b == 0x04 then with_block if_ bytes
      else (if b == 0x05 then alone else_ bytes
      else (if b == 0x08 then one_index throw bytes
      else (if b == 0x0a then alone throw_ref bytes
      else (if b == 0x0b then alone end_ bytes
      else (if b == 0x0c then one_index br bytes
      else (if b == 0x0d then one_index br_if bytes
      else (if b == 0x0e then option_map (λ t. (br_table t.0.0 t.0.1, t.1)) (br_table_at bytes)
      else (if b == 0x0f then alone return_ bytes
      else (if b == 0x1f then option_map (λ t. (try_table t.0.0 t.0.1, t.1)) (try_table_at bytes)
      else None)))))))))))))

  -- parametric instructions by their byte
  unfoldable pub parametric_from : ℕ → List ℕ → Option (Parametric R × List ℕ)
  parametric_from b bytes =
      if b == 0x1a then alone drop_ bytes
      else (if b == 0x1b then alone select bytes
      else (if b == 0x1c then option_map (λ ts. (select_of ts.0, ts.1)) (list_at (val_at to) bytes)
      else None))
