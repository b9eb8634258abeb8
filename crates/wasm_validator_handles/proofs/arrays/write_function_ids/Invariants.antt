use Rattle.std.proofs.Common.{map, slice_index}
use Rattle.wasm_validator.specs.WasmValidatorTypes.ShownModules.{shown_by}
use Rattle.wasm_validator_handles.proofs.ArrayWrites.{Upto}
use Rattle.wasm_validator_handles.proofs.arrays.write_function_ids.Given as goal

abbrev pub invariant-functions : goal.invariant-functions
invariant-functions g l = Upto (map (slice_index (shown_by l.types).spaces.types) (shown_by l.types).spaces.functions) l.index l.initial.to l.to
