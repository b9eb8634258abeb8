-- How many items a module may have: each limit once, by its name.
-- Core Specification 3.0, Appendix, Implementation Limitations; the numbers are this validator's, and those that are
-- kept only with `crate_limits` are of the Rust crate's readers.
use Rattle.std.specs.Prelude.{ℕ, if◌then◌else◌}
use Rattle.wasm_spec.specs.Features.{Features}

-- all types of a module, and its recursion groups
abbrev pub most_types : ℕ
most_types = 1000000

-- the proper ancestors of a type
abbrev pub most_ancestors : ℕ
most_ancestors = 63

abbrev pub most_imports : ℕ
most_imports = 1000000

-- imported functions among them, as for each kind below
abbrev pub most_functions : ℕ
most_functions = 1000000

abbrev pub most_tables : Features → ℕ
most_tables F = if F.reference_types then 100 else 1

abbrev pub most_memories : Features → ℕ
most_memories F = if F.multi_memory then 100 else 1

abbrev pub most_globals : ℕ
most_globals = 1000000

abbrev pub most_tags : ℕ
most_tags = 1000000

abbrev pub most_exports : ℕ
most_exports = 1000000

-- the effective size of a module's type is below this
abbrev pub size_limit : ℕ
size_limit = 1000000

-- element segments, and the items of one
abbrev pub most_elements : ℕ
most_elements = 100000

abbrev pub most_items : ℕ
most_items = 10000000

-- data segments, also where a data count section says how many
abbrev pub most_segments : ℕ
most_segments = 100000

-- the bytes of a function's body, with its locals
abbrev pub most_body_bytes : ℕ
most_body_bytes = 7654321

-- the locals of a function, with its parameters
abbrev pub most_locals : ℕ
most_locals = 50000

-- with `crate_limits`: the parameters and the results of a function type
abbrev pub most_params : ℕ
most_params = 1000

abbrev pub most_results : ℕ
most_results = 1000

-- the fields of a structure type
abbrev pub most_fields : ℕ
most_fields = 10000

-- the catch clauses of a `try_table`
abbrev pub most_clauses : ℕ
most_clauses = 10000

-- the bytes of the names of an import and of an export
abbrev pub most_name_bytes : ℕ
most_name_bytes = 100000
