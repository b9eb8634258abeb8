-- How many parameters and results the types of a list have, as they are written.
use Rattle.std.specs.Prelude.{ℕ, List, length, slice_get, Option, Some, None}
use Rattle.std.specs.Option.{option_and_then}
use Rattle.wasm_spec.specs.Syntax.{Comp, func, array, struct, cont, Sub}
use Rattle.wasm_readers_types.specs.WasmReadersValues.declared.indices.UnpackedIndex.{UnpackedIndex}

-- how many parameters and results a function type has, as it is written
abbrev pub written_arity : {R : Type 0} → Comp R → Option (ℕ × ℕ)
written_arity (func ps rs) = Some (length ps, length rs)
written_arity (array x) = None
written_arity (struct xs) = None
written_arity (cont r) = None

abbrev pub written_arity_at : List (Sub UnpackedIndex) → ℕ → Option (ℕ × ℕ)
written_arity_at types id = option_and_then (λ (t : Sub UnpackedIndex). written_arity t.comp) (slice_get types id)
