-- How many parameters and results a type has, if it is a function type. Core Specification 3.0, Structure, Types,
-- Composite Types.
use Rattle.std.specs.Prelude.{ℕ, ◌≡◌, Bool, List, length, slice_get, Option}
use Rattle.std.specs.Option.{option_map, option_and_then}
use Rattle.wasm_spec.specs.Syntax.{Val, Sub}
use Rattle.wasm_spec.specs.Trees.{DefType, declared}
use Rattle.wasm_spec_rules.specs.IndexSpaces.{signature}
use Rattle.wasm_validator_canonical.specs.Sections.{StandsFor}

abbrev pub arity : List (Val DefType) × List (Val DefType) → ℕ × ℕ
arity s = (length s.0, length s.1)

abbrev pub type_arity : DefType → Option (ℕ × ℕ)
type_arity d = option_map arity (option_and_then (λ (s : Sub DefType). signature s.comp) (declared d))

-- those of the type that an id of the list stands for
abbrev pub arity_at : List DefType → ℕ → Option (ℕ × ℕ)
arity_at us id = option_and_then type_arity (slice_get us id)

-- The type of the list has as many as the type of the module that its id stands for.
abbrev pub IdsKeepArities : Type 0
IdsKeepArities = (is_canonical : Bool) (us : List DefType) (id : ℕ) (d : DefType) → StandsFor is_canonical us id d → arity_at us id ≡ type_arity d
