-- Imports one by one.
use Rattle.std.specs.Prelude.{ℕ, List, [], ◌∷◌, ◌++◌, map}
use Rattle.wasm_validator_types.specs.Entities.{Entity}

-- what is imported from one pair of names, each with the names
abbrev pub import_rows : List ℕ → List ℕ → List Entity → List (List ℕ × List ℕ × Entity)
import_rows source name entities = map (λ entity. (source, name, entity)) entities

-- what is imported from all pairs, the imports of one pair together
abbrev pub all_imports : List ((List ℕ × List ℕ) × List Entity) → List (List ℕ × List ℕ × Entity)
all_imports [] = []
all_imports (p ∷ ps) = import_rows p.0.0 p.0.1 p.1 ++ all_imports ps
