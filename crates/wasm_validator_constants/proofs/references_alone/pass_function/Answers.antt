use Rattle.std.proofs.Common.{◌∙◌, sym, subst, ℕ, List}
use Rattle.wasm_validator_resources.specs.WasmSpecRules.FeatureFlags.{features_of}
use Rattle.wasm_readers.specs.WasmReadersBytes.Reader.{rest}
use Rattle.wasm_validator_resources.specs.WasmReadersTypes.WasmReadersValues.SeenValues.{val_of}
use Rattle.wasm_validator_constants.specs.Items.{IsItem}
use Rattle.wasm_validator_constants.proofs.ItemNotes.{one_noted}
use Rattle.wasm_validator_constants.proofs.ItemTypes.{function_item, function_names}
use Rattle.wasm_validator_constants.proofs.references_alone.pass_function.Goals as goal

pub returns-clause-past : goal.returns-clause-past
returns-clause-past g c = λ is.
    let C = g.T.WasmModuleResources.context c.args.resources.now in
    let F = features_of c.args.features in
    let v = val_of c.args.ty.now in
    subst (λ (more : List ℕ). IsItem C F v (rest c.args.reader.now) more) (sym c.go_on_from.ensures.rest)
    (function_item C F v c.in-Some.function_index c.in-Some-type_index_of_function.type_index (rest c.args.reader.now) (rest c.next_function.new.reader) c.in-Some.ensures.some c.requires.served
    (sym c.is_function_referenced.ensures ∙ c.if-not-is_function_referenced.false) c.in-Some-type_index_of_function.ensures c.has_function_exact_type-is_exact.ensures.told
    (c.knows_type.ensures.taken c.if-not-knows_type.false))

pub returns-clause-noted : goal.returns-clause-noted
returns-clause-noted g c = λ is.
    let C = g.T.WasmModuleResources.context c.args.resources.now in
    let F = features_of c.args.features in
    let v = val_of c.args.ty.now in
    one_noted g.N.NotesFunctions.note c.in-Some.function_index (rest c.args.reader.now) c.args.notes.now c.note.new.self
    (function_names C F v c.in-Some.function_index c.in-Some-type_index_of_function.type_index (rest c.args.reader.now) (rest c.next_function.new.reader) c.in-Some.ensures.some c.requires.served
    (sym c.is_function_referenced.ensures ∙ c.if-not-is_function_referenced.false) c.in-Some-type_index_of_function.ensures c.has_function_exact_type-is_exact.ensures.told
    (c.knows_type.ensures.taken c.if-not-knows_type.false))
    c.in_ok-note.ensures
