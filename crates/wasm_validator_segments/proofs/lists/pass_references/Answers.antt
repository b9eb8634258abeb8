use Rattle.std.proofs.Common.{◌∙◌, arith, rules}
use Rattle.wasm_spec_rules.specs.FeatureFlags.{features_of}
use Rattle.wasm_readers.specs.WasmReadersBytes.Reader.{rest}
use Rattle.wasm_readers_types.specs.WasmReadersValues.SeenValues.{val_of}
use Rattle.wasm_validator_constants.specs.WasmValidatorReferences.WasmSpecValidity.Expressions.{expression_at, named}
use Rattle.wasm_validator_segments.specs.Expressions.{behind_expression}
use Rattle.wasm_validator_segments.proofs.Loops.{one_less}
use Rattle.wasm_validator_segments.proofs.PartReads.{expression_read, read_and_noted}
use Rattle.wasm_validator_segments.proofs.PassedReferences.{item_found}
use Rattle.wasm_validator_segments.proofs.lists.pass_references.Goals as goal

pub items-preserved : goal.items-preserved
items-preserved g c =
    let C = g.T.WasmModuleResources.context c.args.resources.now in
    let F = features_of c.args.features in
    let v = val_of c.args.ty in
    let found = item_found C F c.args.imported_globals v (rest c.items.ahead) (rest c.pass_reference.new.reader) (c.in_ok-pass_reference.ensures.past c.if-not-branch.false) in
    record {
      held = search rules;
      same = search rules;
      onward = omega arith;
      still = c.items.invariant.still;
      fewer = omega arith;
      functions = c.pass_reference.ensures.functions;
      null = c.pass_reference.ensures.null;
      so_far = one_less (behind_expression C F c.args.imported_globals v) c.items.more (rest c.items.ahead) (rest c.pass_reference.new.reader) (omega arith) found ∙ c.items.invariant.so_far;
      noted =
          read_and_noted (behind_expression C F c.args.imported_globals v) expression_at (expression_read C F c.args.imported_globals v) named g.N.NotesFunctions.note c.items.more
          (rest c.items.ahead) (rest c.pass_reference.new.reader) c.items.notes c.pass_reference.new.notes (omega arith) found (c.in_ok-pass_reference.ensures.noted c.if-not-branch.false)
          ∙ c.items.invariant.noted;
    }
