use Rattle.std.proofs.Common.{sym, subst, ℕ, List}
use Rattle.wasm_validator_resources.specs.WasmSpecRules.FeatureFlags.{features_of}
use Rattle.wasm_readers.specs.WasmReadersBytes.Reader.{rest}
use Rattle.wasm_validator_resources.specs.WasmReadersTypes.WasmReadersValues.SeenValues.{val_of}
use Rattle.wasm_validator_constants.specs.Items.{IsItem}
use Rattle.wasm_validator_constants.proofs.ItemTypes.{null_item, null_names}
use Rattle.wasm_validator_constants.proofs.references_alone.pass_null.Goals as goal

pub returns-else-not-knows_null-clause-past : goal.returns-else-not-knows_null-clause-past
returns-else-not-knows_null-clause-past g c = λ is.
    let C = g.T.WasmModuleResources.context c.args.resources.now in
    let F = features_of c.args.features in
    let v = val_of c.args.ty.now in
    subst (λ (more : List ℕ). IsItem C F v (rest c.args.reader.now) more) (sym c.go_on_from.ensures.rest)
    (null_item C F v c.in-Some.byte (rest c.args.reader.now) (rest c.next_null.new.reader) c.in-Some.ensures.some c.requires.served (c.knows_null.ensures.taken c.if-not-knows_null.false))

pub returns-else-not-knows_null-clause-named : goal.returns-else-not-knows_null-clause-named
returns-else-not-knows_null-clause-named g c = λ is.
    let C = g.T.WasmModuleResources.context c.args.resources.now in
    let F = features_of c.args.features in
    let v = val_of c.args.ty.now in
    null_names C F v c.in-Some.byte (rest c.args.reader.now) (rest c.next_null.new.reader) c.in-Some.ensures.some c.requires.served (c.knows_null.ensures.taken c.if-not-knows_null.false)
