use Rattle.std.proofs.Common.{◌≡◌, ◌≤◌, false}
use Rattle.wasm_spec_rules.specs.FeatureFlags.{features_of}
use Rattle.wasm_readers_bytes.specs.Reader.{SameInput, position_in, rest}
use Rattle.wasm_typing_validator.specs.BodyTyping.{typed_state, locals_in}
use Rattle.wasm_validator_func.specs.Bodies.{declared_from}
use Rattle.wasm_validator_func.specs.BodyValidation.{Goes}
use Rattle.wasm_validator_func.proofs.locals.read_counted.Given as goal

abbrev pub invariant-declarations : goal.invariant-declarations
invariant-declarations g l = record {
  same : SameInput l.initial.reader l.reader;
  onward : position_in l.initial.reader ≤ position_in l.reader;
  state : typed_state l.validator ≡ typed_state l.initial.validator;
  goes : Goes l.initial.validator l.validator;
  going : l.validator.failed ≡ false;
  so_far : declared_from (features_of l.initial.validator.stacks.features) (g.T.WasmModuleResources.context l.resources).types l.left (locals_in l.validator) (rest l.reader)
      ≡ declared_from (features_of l.initial.validator.stacks.features) (g.T.WasmModuleResources.context l.resources).types l.count (locals_in l.initial.validator) (rest l.initial.reader);
}

abbrev pub decreases-declarations : goal.decreases-declarations
decreases-declarations g l = l.left
