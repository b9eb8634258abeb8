use Rattle.std.proofs.Common.{subst, List, ℕ, Option}
use Rattle.wasm_spec_rules.specs.FeatureFlags.{features_of}
use Rattle.wasm_readers.specs.WasmReadersBytes.Reader.{rest}
use Rattle.wasm_spec.specs.Syntax.{Val}
use Rattle.wasm_readers_types.specs.WasmReadersValues.declared.indices.UnpackedIndex.{UnpackedIndex}
use Rattle.wasm_validator_core_resources.specs.IndexContexts.{id_of}
use Rattle.wasm_validator_core_resources.specs.ListContexts.{list_declares}
use Rattle.wasm_validator_core.specs.declared.error.Error.{Error}
use Rattle.wasm_validator_core.specs.Errors.{lifted}
use Rattle.wasm_validator_segments.specs.Elements.{typed_element_at}
use Rattle.wasm_validator_items.specs.Answers.{Refuses, StandsBehind}
use Rattle.wasm_validator_items.specs.Machine.{context_of}
use Rattle.wasm_validator_items.proofs.Places.{lifted_behind}
use Rattle.wasm_validator_items.proofs.Refusals.{err_as, reads_refuses}
use Rattle.wasm_validator_items.proofs.Steps.{segment_is}
use Rattle.wasm_validator_items.proofs.elements.check_segment.Goals as goal

pub returns-in_err-segment-clause-err : goal.returns-in_err-segment-clause-err
returns-in_err-segment-clause-err g c =
    let F = features_of c.args.features in
    let declares = list_declares id_of c.args.list.now.groups in
    let s = c.args.opened.now in
    let here = typed_element_at c.new-resources.result F c.imported_global_count-imported_globals.result (rest c.args.reader.now) in
    err_as c.from_residual.result (lifted c.in_err-segment.field-0.0) (λ (e : Error g.row.A.Denot). Refuses e (typed_element_at (context_of declares s) F s.imported_globals (rest c.args.reader.now))) c.from_residual.ensures.1
    (subst (λ (o : Option (Val UnpackedIndex × List ℕ)). Refuses {A = g.row.A.Denot} (lifted c.in_err-segment.field-0.0) o)
    (segment_is F declares s c.spaces-spaces.result.now c.new-resources.result c.imported_global_count-imported_globals.result (rest c.args.reader.now)
    c.spaces-spaces.ensures c.new-resources.ensures c.imported_global_count-imported_globals.ensures)
    (reads_refuses g.row.A.Denot c.in_err-segment.field-0.0 here (rest c.check_element.new.reader) c.in_err-segment.ensures.reads))

pub returns-in_err-segment-clause-place : goal.returns-in_err-segment-clause-place
returns-in_err-segment-clause-place g c =
    err_as c.from_residual.result (lifted c.in_err-segment.field-0.0) (λ (e : Error g.row.A.Denot). StandsBehind c.args.reader.now e) c.from_residual.ensures.1
    (lifted_behind g.row.A.Denot c.args.reader.now c.in_err-segment.field-0.0 c.in_err-segment.ensures.place)
