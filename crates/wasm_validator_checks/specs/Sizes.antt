-- How much imports and exports count in a module's effective size. `us` are the types of all modules so far.
use Rattle.std.specs.Prelude.{ℕ, ◌+◌, nat_lt, if◌then◌else◌, List, Option, Some, None}
use Rattle.wasm_spec.specs.Syntax.{func_extern, func_exact_extern, table_extern, memory_extern, global_extern, tag_extern}
use Rattle.wasm_spec.specs.Trees.{DefType}
use Rattle.wasm_validator_canonical.specs.Arities.{arity_at}
use Rattle.wasm_validator_types.specs.Entities.{Entity}
use Rattle.wasm_validator_checks.specs.declared.entities.TheConstants.{MAX_EFFECTIVE_SIZE}

-- the types of all modules so far, as what their ids stand for
abbrev pub TypesSoFar : Type 0
TypesSoFar = List DefType

-- how many types an entity counts as: functions and tags as many as they have parameters and results, and two,
-- anything else as one
abbrev pub function_size : Option (ℕ × ℕ) → ℕ
function_size None = 2
function_size (Some arity) = 2 + (arity.0 + arity.1)

abbrev pub entity_size : TypesSoFar → Entity → ℕ
entity_size us (func_extern id) = function_size (arity_at us id)
entity_size us (func_exact_extern id) = function_size (arity_at us id)
entity_size us (table_extern t) = 1
entity_size us (memory_extern m) = 1
entity_size us (global_extern g) = 1
entity_size us (tag_extern id) = function_size (arity_at us id)

-- the effective size with so many more types, which stays below the limit
abbrev pub grown : ℕ → ℕ → Option ℕ
grown size more = if nat_lt (size + more) MAX_EFFECTIVE_SIZE then Some (size + more) else None
