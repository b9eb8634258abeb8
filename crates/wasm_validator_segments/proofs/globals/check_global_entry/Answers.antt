use Rattle.std.proofs.Common.{◌∙◌, sym, ap, ℕ, List}
use Rattle.wasm_spec_rules.specs.FeatureFlags.{features_of}
use Rattle.wasm_readers.specs.WasmReadersBytes.Reader.{rest}
use Rattle.wasm_readers_types.specs.SeenExterns.{global_of}
use Rattle.wasm_readers_types.specs.WasmReadersValues.SeenValues.{val_of}
use Rattle.wasm_validator_constants.specs.WasmValidatorReferences.Notes.{noting}
use Rattle.wasm_validator_segments.proofs.PartReads.{global_named}
use Rattle.wasm_validator_segments.proofs.globals.check_global_entry.Goals as goal

pub returns-clause-noted : goal.returns-clause-noted
returns-clause-noted g c =
    c.in_ok-check_expression_of_type.ensures.noted
    ∙ ap (λ (xs : List ℕ). noting g.N.NotesFunctions.note xs c.args.notes.now)
    (sym (global_named (g.T.WasmModuleResources.context c.args.resources.now) (features_of c.args.features) c.args.imported_globals (global_of c.in_ok-ty.ty) (val_of c.in_ok-ty.ty.content_type)
    (rest c.args.reader.now) (rest c.check_global_type.new.reader) (rest c.check_expression_of_type.new.reader) c.in_ok-ty.ensures.reads c.in_ok-check_expression_of_type.ensures.past))
