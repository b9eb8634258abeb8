-- What contracts see of lists of types.
use Rattle.std.specs.Prelude.{List, [], ◌∷◌, map, Option, Some}
use Rattle.wasm_validator_resources.specs.WasmSpec.Syntax.{Val}
use Rattle.wasm_validator_resources.specs.WasmSpec.MatchingTests.{World}
use Rattle.wasm_validator_resources.specs.WasmReadersTypes.WasmReadersValues.SeenValues.{val_of}
use Rattle.wasm_validator_resources.specs.WasmReadersTypes.WasmReadersValues.declared.indices.UnpackedIndex.{UnpackedIndex}
use Rattle.wasm_typing_stacks.specs.SeenTypeWords.{val_in}
use Rattle.wasm_validator_resources.specs.WasmSpecRules.Attempts.{◌>>=◌}
use Rattle.wasm_typing_stacks.specs.WasmSpecSteps.Machine.{State, become_unreachable, pop_vals, push_vals}
use Rattle.wasm_typing_checks.specs.declared.types.ValTypes.{ValTypes}
use Rattle.wasm_typing_checks.specs.declared.types.ValTypes.TheVariants as types
use Rattle.wasm_typing_checks.specs.declared.types.Takes.{Takes}
use Rattle.wasm_typing_checks.specs.declared.types.Takes.TheVariants as takes

abbrev pub types_seen : ValTypes → List (Val UnpackedIndex)
types_seen types.None = []
types_seen (types.One t) = val_in t ∷ []
types_seen (types.Many ts) = map val_of ts.now

abbrev pub takes_seen : Takes → List (Val UnpackedIndex)
takes_seen takes.None = []
takes_seen (takes.One t) = val_in t ∷ []
takes_seen (takes.Two t u) = val_in t ∷ val_in u ∷ []
takes_seen (takes.Three t u v) = val_in t ∷ val_in u ∷ val_in v ∷ []
takes_seen (takes.Many ts) = map val_of ts.now

-- operands of some types taken, and of others given
unfoldable pub exchanged : World UnpackedIndex → List (Val UnpackedIndex) → List (Val UnpackedIndex) → State UnpackedIndex → Option (State UnpackedIndex)
exchanged W vs ws s = pop_vals W vs s >>= λ t. Some (push_vals ws t)

-- operands of some types taken, and the rest of the innermost frame's code unreached
unfoldable pub halted : World UnpackedIndex → List (Val UnpackedIndex) → State UnpackedIndex → Option (State UnpackedIndex)
halted W vs s = pop_vals W vs s >>= become_unreachable
