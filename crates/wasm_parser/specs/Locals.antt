-- The locals that a body declares. Core Specification 3.0, Binary Format, Modules, Code Section.
use Rattle.std.specs.Prelude.{ℕ, List, Option}
use Rattle.std.specs.Option.{option_map, option_and_then}
use Rattle.wasm_spec.specs.Syntax.{Val}
use Rattle.wasm_spec.specs.Values.{u32_at, list_at}
use Rattle.wasm_spec.specs.BinaryTypes.{val_at}
use Rattle.wasm_items.specs.WasmReaders.WrittenIndices.{written}
use Rattle.wasm_items.specs.WasmReaders.WasmReadersTypes.WasmReadersValues.declared.indices.UnpackedIndex.{UnpackedIndex}

-- So many locals of one type, whose type index is as it is written. wasm_spec_steps `FunctionBodies` reads the same, with the number
-- of that index.
pub record Declaration : Type 0 where
  pub count : ℕ
  pub content : Val UnpackedIndex

abbrev pub declaration_at : List ℕ → Option (Declaration × List ℕ)
declaration_at bytes = option_and_then (λ n. option_map (λ v. (record { count = n.0; content = v.0 }, v.1)) (val_at written n.1)) (u32_at bytes)

-- the declarations that a body begins with, and the bytes of its instructions
abbrev pub locals_at : List ℕ → Option (List Declaration × List ℕ)
locals_at = list_at declaration_at
