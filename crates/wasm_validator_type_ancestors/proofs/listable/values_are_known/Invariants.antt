use Rattle.std.proofs.Common.{All}
use Rattle.wasm_validator_type_groups.specs.WasmSpec.References.{refs_val}
use Rattle.wasm_validator_type_groups.specs.WasmReadersTypes.WasmReadersValues.SeenValues.{val_of}
use Rattle.wasm_validator_type_ancestors.specs.GroupReferences.{IsKnown}
use Rattle.wasm_validator_type_ancestors.proofs.Items.{FirstHold}
use Rattle.wasm_validator_type_ancestors.proofs.listable.values_are_known.Given as goal

abbrev pub invariant-values : goal.invariant-values
invariant-values l = FirstHold (λ k x. All (IsKnown l.types l.positions) (refs_val (val_of x))) l.values l.i
