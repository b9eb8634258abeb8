-- Data segments, read and typed in one pass.
-- Core Specification 3.0, Validation, Modules (Data Segments), and Binary Format, Modules (Data Section).
use Rattle.std.specs.Prelude.{ℕ, ◌==◌, if◌then◌else◌, List, Option, Some, None}
use Rattle.std.specs.Option.{option_map, option_and_then}
use Rattle.wasm_spec.specs.Values.{u32_at, sized_at}
use Rattle.wasm_spec.specs.Features.{Features}
use Rattle.wasm_spec_rules.specs.Contexts.{Context}
use Rattle.wasm_readers_types.specs.WasmReadersValues.declared.indices.UnpackedIndex.{UnpackedIndex}
use Rattle.wasm_validator_segments.specs.Offsets.{behind_memory_offset}

module _ (C : Context UnpackedIndex) (F : Features) (imported : ℕ) where
  -- where the segment goes, by its flag: 0 into the first memory, 1 nowhere, with bulk memory alone, 2 into a memory that is written
  abbrev pub behind_data_mode : ℕ → List ℕ → Option (List ℕ)
  behind_data_mode flag bytes =
      if flag == 0 then behind_memory_offset C F imported 0 bytes
      else (if flag == 1 then (if F.bulk_memory then Some bytes else None)
      else (if flag == 2 then option_and_then (λ m. behind_memory_offset C F imported m.0 m.1) (u32_at bytes)
      else None))

  -- a flag, where the segment goes, and its bytes
  unfoldable pub behind_data : List ℕ → Option (List ℕ)
  behind_data bytes =
      option_and_then (λ f. option_and_then (λ more. option_map (λ b. b.1) (sized_at more)) (behind_data_mode f.0 f.1)) (u32_at bytes)
