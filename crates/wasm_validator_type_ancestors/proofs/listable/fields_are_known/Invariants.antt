use Rattle.std.proofs.Common.{All}
use Rattle.wasm_validator_type_groups.specs.WasmSpec.References.{refs_field}
use Rattle.wasm_validator_type_groups.specs.WasmReadersTypes.WasmReadersValues.SeenValues.{field_of}
use Rattle.wasm_validator_type_ancestors.specs.GroupReferences.{IsKnown}
use Rattle.wasm_validator_type_ancestors.proofs.Items.{FirstHold}
use Rattle.wasm_validator_type_ancestors.proofs.listable.fields_are_known.Given as goal

abbrev pub invariant-fields : goal.invariant-fields
invariant-fields l = FirstHold (λ k x. All (IsKnown l.types l.positions) (refs_field (field_of x))) l.fields l.i
