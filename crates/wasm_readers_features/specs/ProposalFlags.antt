-- Whether a proposal is on.
use Rattle.std.specs.Prelude.{ℕ, ◌==◌, Bool}
use Rattle.std.specs.Int.RustNames.{bit_and}
use Rattle.wasm_readers_features.specs.declared.features.WasmFeatures.{WasmFeatures}

-- the flag of this weight is set
abbrev pub has_flag : ℕ → WasmFeatures → Bool
has_flag flag features = bit_and features.0 flag == flag

abbrev pub multi_value_on : WasmFeatures → Bool
multi_value_on = has_flag 4

abbrev pub simd_on : WasmFeatures → Bool
simd_on = has_flag 16

abbrev pub floats_on : WasmFeatures → Bool
floats_on = has_flag 128

abbrev pub exceptions_on : WasmFeatures → Bool
exceptions_on = has_flag 512

abbrev pub component_model_on : WasmFeatures → Bool
component_model_on = has_flag 262144

abbrev pub mutable_global_on : WasmFeatures → Bool
mutable_global_on = has_flag 1

abbrev pub reference_types_on : WasmFeatures → Bool
reference_types_on = has_flag 2

abbrev pub bulk_memory_on : WasmFeatures → Bool
bulk_memory_on = has_flag 8

abbrev pub threads_on : WasmFeatures → Bool
threads_on = has_flag 32

abbrev pub shared_everything_threads_on : WasmFeatures → Bool
shared_everything_threads_on = has_flag 64

abbrev pub multi_memory_on : WasmFeatures → Bool
multi_memory_on = has_flag 256

abbrev pub memory64_on : WasmFeatures → Bool
memory64_on = has_flag 1024

abbrev pub extended_const_on : WasmFeatures → Bool
extended_const_on = has_flag 2048

abbrev pub function_references_on : WasmFeatures → Bool
function_references_on = has_flag 4096

abbrev pub gc_on : WasmFeatures → Bool
gc_on = has_flag 8192

abbrev pub gc_types_on : WasmFeatures → Bool
gc_types_on = has_flag 16384

abbrev pub custom_page_sizes_on : WasmFeatures → Bool
custom_page_sizes_on = has_flag 32768

abbrev pub custom_descriptors_on : WasmFeatures → Bool
custom_descriptors_on = has_flag 65536

abbrev pub stack_switching_on : WasmFeatures → Bool
stack_switching_on = has_flag 131072

abbrev pub vector_operators_on : WasmFeatures → Bool
vector_operators_on = has_flag 524288

abbrev pub atomic_operators_on : WasmFeatures → Bool
atomic_operators_on = has_flag 1048576

abbrev pub legacy_exceptions_on : WasmFeatures → Bool
legacy_exceptions_on = has_flag 2097152

-- the limits of the Rust crate's readers, which are no proposal
abbrev pub crate_limits_on : WasmFeatures → Bool
crate_limits_on = has_flag 4194304

abbrev pub wide_arithmetic_on : WasmFeatures → Bool
wide_arithmetic_on = has_flag 8388608

abbrev pub memory_control_on : WasmFeatures → Bool
memory_control_on = has_flag 16777216

abbrev pub descriptor_operators_on : WasmFeatures → Bool
descriptor_operators_on = has_flag 33554432

abbrev pub shared_atomic_operators_on : WasmFeatures → Bool
shared_atomic_operators_on = has_flag 67108864

abbrev pub stack_switching_operators_on : WasmFeatures → Bool
stack_switching_operators_on = has_flag 134217728

abbrev pub compact_imports_on : WasmFeatures → Bool
compact_imports_on = has_flag 268435456
