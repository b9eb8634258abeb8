-- The proposals that a set of flags allows, and whether it asks for the limits of `crate_limits`.
use Rattle.wasm_readers_errors.specs.WasmSpec.Features.{Features}
use Rattle.wasm_readers_errors.specs.WasmReadersFeatures.ProposalFlags.{has_flag}
use Rattle.wasm_readers_errors.specs.WasmReadersFeatures.declared.features.WasmFeatures.{WasmFeatures}

abbrev pub features_of : WasmFeatures → Features
features_of flags = record {
  mutable_global = has_flag 1 flags;
  reference_types = has_flag 2 flags;
  multi_value = has_flag 4 flags;
  bulk_memory = has_flag 8 flags;
  simd = has_flag 16 flags;
  threads = has_flag 32 flags;
  shared_everything_threads = has_flag 64 flags;
  floats = has_flag 128 flags;
  multi_memory = has_flag 256 flags;
  exceptions = has_flag 512 flags;
  memory64 = has_flag 1024 flags;
  extended_const = has_flag 2048 flags;
  function_references = has_flag 4096 flags;
  gc = has_flag 8192 flags;
  gc_types = has_flag 16384 flags;
  custom_page_sizes = has_flag 32768 flags;
  custom_descriptors = has_flag 65536 flags;
  stack_switching = has_flag 131072 flags;
  component_model = has_flag 262144 flags;
  vector_operators = has_flag 524288 flags;
  atomic_operators = has_flag 1048576 flags;
  legacy_exceptions = has_flag 2097152 flags;
  crate_limits = has_flag 4194304 flags;
  wide_arithmetic = has_flag 8388608 flags;
  memory_control = has_flag 16777216 flags;
  descriptor_operators = has_flag 33554432 flags;
  shared_atomic_operators = has_flag 67108864 flags;
  stack_switching_operators = has_flag 134217728 flags;
  compact_imports = has_flag 268435456 flags;
}
