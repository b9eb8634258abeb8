-- The refusal of more items than a module may have, with the proposal under which it might have so many. Core Specification
-- 3.0, Appendix, Implementation Limitations.
use Rattle.std.specs.Prelude.{ℕ, nat_le, ◌==◌, ◌&&◌, if◌then◌else◌, Option, Some, None}
use Rattle.wasm_readers_errors.specs.declared.error.Counted.{Counted}
use Rattle.wasm_readers_errors.specs.declared.error.Counted.TheVariants.{Tables, Memories}
use Rattle.wasm_readers_errors.specs.declared.error.Fault.TheVariants as fault
use Rattle.wasm_readers_errors.specs.declared.error.Refusal.{Refusal}
use Rattle.wasm_readers_errors.specs.WasmReadersFeatures.declared.features.WasmFeatures.{WasmFeatures}
use Rattle.wasm_readers_errors.specs.WasmReadersFeatures.declared.features.TheConstants.WasmFeatures.{REFERENCE_TYPES, MULTI_MEMORY}
use Rattle.wasm_validator_core.specs.declared.limits.TheConstants.{MAX_TABLES, MAX_MEMORIES}

-- the proposal without which there may be one item alone, and with which there may be `lifted`, where these are enough
abbrev pub lifting_one : WasmFeatures → ℕ → ℕ → ℕ → Option WasmFeatures
lifting_one proposal lifted most total = if (most == 1) && nat_le total lifted then Some proposal else None

-- the proposal under which a module might have so many items
abbrev pub lifting_limit : Counted → ℕ → ℕ → Option WasmFeatures
lifting_limit Tables most total = lifting_one REFERENCE_TYPES MAX_TABLES most total
lifting_limit Memories most total = lifting_one MULTI_MEMORY MAX_MEMORIES most total
lifting_limit _ most total = None

-- so many items in all, where there may be `most`
abbrev pub beyond_limit : Counted → ℕ → ℕ → ℕ → Refusal
beyond_limit what most total offset = record { fault = fault.Limit what most; offset = offset; missing = lifting_limit what most total }
