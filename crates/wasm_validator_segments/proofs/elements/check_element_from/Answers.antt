use Rattle.wasm_spec_rules.specs.FeatureFlags.{features_of}
use Rattle.wasm_readers.specs.WasmReadersBytes.Reader.{rest}
use Rattle.wasm_readers_types.specs.WasmReadersValues.SeenValues.{val_of}
use Rattle.wasm_validator_segments.proofs.NamedSegments.{all_noted}
use Rattle.wasm_validator_segments.proofs.elements.check_element_from.Goals as goal

pub returns-clause-noted : goal.returns-clause-noted
returns-clause-noted g c =
    all_noted (g.T.WasmModuleResources.context c.args.resources.now) (features_of c.args.features) c.args.imported_globals c.in_ok-table.table (val_of c.in_ok-ty.ty)
    (rest c.args.reader.now) (rest c.check_segment_table.new.reader) (rest c.check_items_type.new.reader) (rest c.check_items_for.new.reader)
    g.N.NotesFunctions.note c.args.notes.now c.check_segment_table.new.notes c.check_items_for.new.notes val_of c.check_items_for.result c.args.flag c.requires
    c.in_ok-table.ensures.reads c.in_ok-ty.ensures.reads c.in_ok-table.ensures.noted c.check_items_for.ensures.reads c.check_items_for.ensures.noted
