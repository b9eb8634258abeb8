-- The items that hold expressions, with those as their bytes. An expression is read up to the `end` that belongs to no block in it
-- (wasm_operators `Expressions`), whatever its operators are. That of a valid module ends at its first `end`, as wasm_spec_validity
-- `Expressions` reads it, since no operator of a constant expression opens a block; where one does, the two differ, and such a module
-- is refused in either way.
use Rattle.std.specs.Prelude.{ℕ, Bool, true, false, ◌==◌, if◌then◌else◌, List, Option, Some, None}
use Rattle.std.specs.Option.{option_map, option_and_then}
use Rattle.wasm_readers.specs.WasmSpec.Syntax.{Ref}
use Rattle.wasm_readers.specs.WasmSpec.Values.{u32_at}
use Rattle.wasm_readers.specs.WasmSpec.BinaryTypes.{ref_at}
use Rattle.wasm_readers.specs.WasmSpec.BinarySections.{SegmentMode, passive, active, declarative, Data, data_at, funcref}
use Rattle.wasm_readers.specs.WrittenIndices.{written}
use Rattle.wasm_readers.specs.WasmReadersTypes.WasmReadersValues.declared.indices.UnpackedIndex.{UnpackedIndex}
use Rattle.wasm_operators.specs.Expressions.{expression_at}

-- with the index 0 where none is written
abbrev pub with_index : {E : Type 0} → SegmentMode E → SegmentMode E
with_index passive = passive
with_index (active None e) = active (Some 0) e
with_index (active (Some x) e) = active (Some x) e
with_index declarative = declarative

abbrev pub data_with_index : {E : Type 0} → Data E → Data E
data_with_index d = record { mode = with_index d.mode; bytes = d.bytes }

-- a data segment, with the index of its memory
abbrev pub data_item_at : List ℕ → Option (Data (List ℕ) × List ℕ)
data_item_at bytes = option_map (λ d. (data_with_index d.0, d.1)) (data_at (expression_at written) bytes)

-- where an active segment goes: its index, if it has one, and an expression
abbrev pub active_at : Bool → List ℕ → Option (SegmentMode (List ℕ) × List ℕ)
active_at true bytes = option_and_then (λ x. option_map (λ e. (active (Some x.0) e.0, e.1)) (expression_at written x.1)) (u32_at bytes)
active_at false bytes = option_map (λ e. (active None e.0, e.1)) (expression_at written bytes)

-- the type of expressions: for the flag 4 it isn't written
abbrev pub written_type_at : ℕ → List ℕ → Option (Ref UnpackedIndex × List ℕ)
written_type_at flag bytes = if flag == 4 then Some (funcref, bytes) else ref_at written bytes
