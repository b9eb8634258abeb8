use Rattle.std.proofs.Common.{◌≡◌, ◌<◌, ◌∙◌, ◌||◌, ap, subst, Some, None, false, arith, rules}
use Rattle.wasm_spec_rules.specs.FeatureFlags.{features_of}
use Rattle.wasm_readers_bytes.specs.Reader.{position_in, rest}
use Rattle.wasm_typing_validator.specs.BodyTyping.{locals_in}
use Rattle.wasm_validator_func.specs.Bodies.{more_locals, declared_from}
use Rattle.wasm_validator_func.specs.BodyValidation.{declaration_of, declared_in}
use Rattle.wasm_validator_func.proofs.LocalDeclarations.{goes_on, one_more, one_refused, ends}
use Rattle.wasm_validator_func.proofs.locals.read_counted.Goals as goal

pub declarations-preserved : goal.declarations-preserved
declarations-preserved g c =
    let C = g.T.WasmModuleResources.context c.args.resources.now in
    let v = c.args.validator.now in
    let w = c.declarations.validator in
    let u = c.define.new.validator in
    let old = c.declarations.reader in
    let new = c.read_declaration.new.reader in
    let F = features_of v.stacks.features in
    let d = declaration_of c.in-Ok.declaration.0 c.in-Ok.declaration.1 in
    let further : position_in old < position_in new = c.in-Ok.ensures.further in
    let before = c.declarations.invariant.onward in
    let more : more_locals F C.types d (locals_in w) ≡ Some (locals_in u) =
    subst (λ x. more_locals (features_of x) C.types d (locals_in w) ≡ Some (locals_in u)) c.declarations.invariant.goes.features (c.in-Ok-define.ensures.declared c.declarations.invariant.going) in
    record {
      same = search rules;
      onward = omega (arith, further, before);
      state = c.in-Ok-define.ensures.state ∙ c.declarations.invariant.state;
      goes = goes_on v w u c.declarations.invariant.goes c.in-Ok-define.ensures.goes;
      going = c.in-Ok-define.ensures.failed ∙ ap (λ b. b || false) c.declarations.invariant.going;
      so_far = one_more F C.types c.declarations.left (locals_in w) (locals_in u) (rest old) (rest new) d (declared_from F C.types c.args.count (locals_in v) (rest c.args.reader.now))
          (omega arith) c.in-Ok.ensures.ok more c.declarations.invariant.so_far;
    }

pub returns-in-Err-define-clause-declared : goal.returns-in-Err-define-clause-declared
returns-in-Err-define-clause-declared g c =
    let C = g.T.WasmModuleResources.context c.args.resources.now in
    let v = c.args.validator.now in
    let w = c.declarations.validator in
    let u = c.define.new.validator in
    let old = c.declarations.reader in
    let new = c.read_declaration.new.reader in
    let F = features_of v.stacks.features in
    let d = declaration_of c.in-Ok.declaration.0 c.in-Ok.declaration.1 in
    let all = declared_from F C.types c.args.count (locals_in v) (rest c.args.reader.now) in
    let none : declared_in w C d ≡ None → all ≡ None = λ x.
    one_refused F C.types c.declarations.left (locals_in w) (rest old) (rest new) d all (omega arith) c.in-Ok.ensures.ok c.declarations.invariant.so_far
    (subst (λ y. more_locals (features_of y) C.types d (locals_in w) ≡ None) c.declarations.invariant.goes.features x) in
    ends c.original_position-offset.result c.in-Err-define.error (declared_in w C d) (locals_in u) all (locals_in u) (rest new) (c.in-Err-define.ensures.declared c.declarations.invariant.going) none
