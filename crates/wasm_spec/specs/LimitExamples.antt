-- The numbers of the limits, as facts that a contract can name: powers of ten, and some that are not. The Rust crate's file `limits.rs` has the same.
use Rattle.std.specs.Prelude.{◌≡◌, ◌+◌, ◌*◌, ◌^◌, true, false, [], ◌∷◌}
use Rattle.wasm_spec.specs.Limits.{most_types, most_imports, most_functions, most_tables, most_memories, most_globals, most_tags, most_exports, size_limit, most_elements, most_items, most_segments, most_body_bytes, most_locals}
use Rattle.wasm_spec.specs.TypeExamples.{features}

-- types, imports, functions, globals, tags, exports, and the effective size
abbrev pub MillionOfMost : Type 0
MillionOfMost =
    most_types ∷ most_imports ∷ most_functions ∷ most_globals ∷ most_tags ∷ most_exports ∷ size_limit ∷ []
    ≡ 10 ^ 6 ∷ 10 ^ 6 ∷ 10 ^ 6 ∷ 10 ^ 6 ∷ 10 ^ 6 ∷ 10 ^ 6 ∷ 10 ^ 6 ∷ []

-- tables and memories, with their proposals and without
abbrev pub HundredOrOne : Type 0
HundredOrOne =
    most_tables (features true) ∷ most_memories (features true) ∷ most_tables (features false) ∷ most_memories (features false) ∷ []
    ≡ 10 ^ 2 ∷ 10 ^ 2 ∷ 1 ∷ 1 ∷ []

-- element segments and their items, data segments, the bytes of a body, and the locals of a function
abbrev pub SegmentsAndBodies : Type 0
SegmentsAndBodies =
    most_elements ∷ most_items ∷ most_segments ∷ most_body_bytes ∷ most_locals ∷ []
    ≡ 10 ^ 5 ∷ 10 ^ 7 ∷ 10 ^ 5 ∷ (7654 * 10 ^ 3 + 321) ∷ 5 * 10 ^ 4 ∷ []
