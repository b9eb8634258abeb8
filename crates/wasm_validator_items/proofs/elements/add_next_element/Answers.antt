use Rattle.wasm_spec_rules.specs.FeatureFlags.{features_of}
use Rattle.wasm_readers.specs.WasmReadersBytes.Reader.{rest}
use Rattle.wasm_validator_core_resources.specs.IndexContexts.{id_of}
use Rattle.wasm_validator_core_resources.specs.ListContexts.{list_declares}
use Rattle.wasm_validator_core.specs.declared.error.Error.{Error}
use Rattle.wasm_validator_segments.specs.Elements.{typed_element_at}
use Rattle.wasm_validator_items.specs.Answers.{Refuses, StandsBehind}
use Rattle.wasm_validator_items.specs.Machine.{context_of, element_step}
use Rattle.wasm_validator_items.proofs.Places.{memory_behind}
use Rattle.wasm_validator_items.proofs.Refusals.{err_as, refuses_whole, memory_refuses}
use Rattle.wasm_validator_items.proofs.Steps.{no_segment}
use Rattle.wasm_validator_items.proofs.elements.add_next_element.Goals as goal

pub returns-in_err-ty-clause-err : goal.returns-in_err-ty-clause-err
returns-in_err-ty-clause-err g c =
    let F = features_of c.args.features in
    let declares = list_declares id_of c.args.list.now.groups in
    let s = c.args.opened.now in
    let bytes = rest c.args.reader.now in
    err_as c.from_residual.result c.in_err-ty.field-0.0 (λ (e : Error g.row.A.Denot). Refuses e (element_step F declares s bytes)) c.from_residual.ensures.1
    (refuses_whole c.in_err-ty.field-0.0 (typed_element_at (context_of declares s) F s.imported_globals bytes) (element_step F declares s bytes)
    (no_segment F declares s bytes) c.in_err-ty.ensures.err)

pub returns-in_err-ty-clause-place : goal.returns-in_err-ty-clause-place
returns-in_err-ty-clause-place g c =
    err_as c.from_residual.result c.in_err-ty.field-0.0 (λ (e : Error g.row.A.Denot). StandsBehind c.args.reader.now e) c.from_residual.ensures.1
    c.in_err-ty.ensures.place

pub returns-in_err-add_segment-clause-err : goal.returns-in_err-add_segment-clause-err
returns-in_err-add_segment-clause-err g c =
    let step = element_step (features_of c.args.features) (list_declares id_of c.args.list.now.groups) c.args.opened.now (rest c.args.reader.now) in
    err_as c.from_residual-in_err-add_segment.result c.in_err-add_segment.field-0.0 (λ (e : Error g.row.A.Denot). Refuses e step) c.from_residual-in_err-add_segment.ensures.1
    (memory_refuses c.in_err-add_segment.field-0.0 step c.in_err-add_segment.ensures.memory)

pub returns-in_err-add_segment-clause-place : goal.returns-in_err-add_segment-clause-place
returns-in_err-add_segment-clause-place g c =
    err_as c.from_residual-in_err-add_segment.result c.in_err-add_segment.field-0.0 (λ (e : Error g.row.A.Denot). StandsBehind c.args.reader.now e) c.from_residual-in_err-add_segment.ensures.1
    (memory_behind c.args.reader.now c.in_err-add_segment.field-0.0 c.in_err-add_segment.ensures.memory)
