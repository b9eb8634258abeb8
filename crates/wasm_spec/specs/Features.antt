-- Which extensions of WebAssembly are allowed: those that the Core Specification 3.0 lists in its Change History,
-- and proposals beyond it. `crate_limits` takes away: it asks for the limits that the Rust crate's readers have.
use Rattle.std.specs.Prelude.{Bool, ◌||◌}

pub record Features : Type 0 where
  pub mutable_global : Bool
  pub reference_types : Bool
  pub multi_value : Bool
  pub bulk_memory : Bool
  pub simd : Bool
  pub threads : Bool
  pub shared_everything_threads : Bool
  pub floats : Bool
  pub multi_memory : Bool
  pub exceptions : Bool
  pub memory64 : Bool
  pub extended_const : Bool
  pub function_references : Bool
  pub gc : Bool
  pub gc_types : Bool
  pub custom_page_sizes : Bool
  pub custom_descriptors : Bool
  pub stack_switching : Bool
  pub component_model : Bool
  pub vector_operators : Bool
  pub atomic_operators : Bool
  pub legacy_exceptions : Bool
  pub crate_limits : Bool
  pub wide_arithmetic : Bool
  pub memory_control : Bool
  pub descriptor_operators : Bool
  pub shared_atomic_operators : Bool
  pub stack_switching_operators : Bool
  pub compact_imports : Bool

-- whether equal types are one type: without these features no type can refer to another, and each written type is its own
abbrev pub canonical : Features → Bool
canonical F = F.gc || F.function_references || F.stack_switching || F.custom_descriptors
