-- The ranges of ids of groups.
use Rattle.std.specs.Prelude.{ℕ, ◌+◌, List, [], ◌∷◌, length}
use Rattle.std.specs.declared.ops.Range.{Range}
use Rattle.wasm_readers_types.specs.WasmReadersValues.declared.indices.CoreTypeId.{CoreTypeId}

-- the range of ids with the numbers from the first to below the second
abbrev pub span : ℕ → ℕ → Range CoreTypeId
span from end = record { start = record { index = from }; end = record { index = end } }

-- the ranges of groups behind so many types
abbrev pub spans_from : {X : Type 0} → ℕ → List (List X) → List (Range CoreTypeId)
spans_from n [] = []
spans_from n (g ∷ gs) = span n (n + length g) ∷ spans_from (n + length g) gs

abbrev pub spans_of : {X : Type 0} → List (List X) → List (Range CoreTypeId)
spans_of gs = spans_from 0 gs
