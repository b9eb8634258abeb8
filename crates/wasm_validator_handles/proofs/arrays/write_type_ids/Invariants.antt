use Rattle.wasm_validator.specs.WasmValidatorTypes.ShownModules.{shown_by}
use Rattle.wasm_validator_handles.proofs.ArrayWrites.{Upto}
use Rattle.wasm_validator_handles.proofs.arrays.write_type_ids.Given as goal

abbrev pub invariant-types : goal.invariant-types
invariant-types g l = Upto (shown_by l.types).spaces.types l.index l.initial.to l.to
