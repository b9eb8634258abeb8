use Rattle.std.proofs.Common.{◌+◌, ◌≤◌, ◌∙◌, sym, ap, ℕ, List, length, arith}
use Rattle.wasm_validator_segments.specs.WasmValidatorReferences.References.{marked}
use Rattle.wasm_validator_items.proofs.NamedFunctions.{global_named}
use Rattle.wasm_spec_rules.specs.FeatureFlags.{features_of}
use Rattle.wasm_readers.specs.WasmReadersBytes.Reader.{input, original, position_in, rest}
use Rattle.wasm_readers_types.specs.SeenExterns.{global_of}
use Rattle.wasm_readers_types.specs.WasmReadersValues.SeenValues.{val_of}
use Rattle.wasm_validator_types.specs.WasmValidatorTypeList.DefTypes.{types_of_list}
use Rattle.wasm_validator_core_resources.specs.IndexContexts.{id_of}
use Rattle.wasm_validator_core_resources.specs.ListContexts.{list_declares}
use Rattle.wasm_validator_core.specs.declared.error.Error.{Error}
use Rattle.wasm_validator_core.specs.Items.{with_global}
use Rattle.wasm_validator_items.specs.Answers.{Refuses, StandsBehind}
use Rattle.wasm_validator_items.specs.Machine.{behind_initializer, global_step}
use Rattle.wasm_validator_items.proofs.Places.{behind_earlier, at_between}
use Rattle.wasm_validator_items.proofs.Refusals.{err_as, refuses_whole, adding_refuses}
use Rattle.wasm_validator_items.proofs.Steps.{uninitialized, no_room}
use Rattle.wasm_validator_items.proofs.globals.add_next_global.Goals as goal

pub returns-in_err-check_initializer-clause-err : goal.returns-in_err-check_initializer-clause-err
returns-in_err-check_initializer-clause-err g c =
    let F = features_of c.args.features in
    let declares = list_declares id_of c.args.list.now.groups in
    let us = types_of_list c.args.list.now in
    let s = c.args.opened.now in
    let more = rest c.read_global_type.new.reader in
    let step = global_step F declares us s (rest c.args.reader.now) in
    err_as c.from_residual-in_err-check_initializer.result c.in_err-check_initializer.field-0.0 (λ (e : Error g.row.A.Denot). Refuses e step) c.from_residual-in_err-check_initializer.ensures.1
    (refuses_whole c.in_err-check_initializer.field-0.0 (behind_initializer F declares s (val_of c.in_ok-ty.ty.content_type) more) step
    (uninitialized F declares us s (rest c.args.reader.now) more (global_of c.in_ok-written.written) (global_of c.in_ok-ty.ty) c.in_ok-written.ensures.ok c.in_ok-ty.ensures.allowed c.in_ok-ty.ensures.listed)
    c.in_err-check_initializer.ensures.err)

pub returns-in_err-check_initializer-clause-place : goal.returns-in_err-check_initializer-clause-place
returns-in_err-check_initializer-clause-place g c =
    err_as c.from_residual-in_err-check_initializer.result c.in_err-check_initializer.field-0.0 (λ (e : Error g.row.A.Denot). StandsBehind c.args.reader.now e) c.from_residual-in_err-check_initializer.ensures.1
    (behind_earlier c.args.reader.now c.read_global_type.new.reader c.in_err-check_initializer.field-0.0 c.in_ok-written.ensures.same c.in_ok-written.ensures.onward c.in_err-check_initializer.ensures.place)

pub returns-in_err-add_global-clause-err : goal.returns-in_err-add_global-clause-err
returns-in_err-add_global-clause-err g c =
    let F = features_of c.args.features in
    let declares = list_declares id_of c.args.list.now.groups in
    let us = types_of_list c.args.list.now in
    let s = c.args.opened.now in
    let more = rest c.read_global_type.new.reader in
    let after = rest c.check_initializer.new.reader in
    let step = global_step F declares us s (rest c.args.reader.now) in
    err_as c.from_residual-in_err-add_global.result c.in_err-add_global.field-0.0 (λ (e : Error g.row.A.Denot). Refuses e step) c.from_residual-in_err-add_global.ensures.1
    (refuses_whole c.in_err-add_global.field-0.0 (with_global s (global_of c.in_ok-ty.ty)) step
    (no_room F declares us s (rest c.args.reader.now) more (global_of c.in_ok-written.written) (global_of c.in_ok-ty.ty) after c.in_ok-written.ensures.ok c.in_ok-ty.ensures.allowed c.in_ok-ty.ensures.listed c.in_ok-check_initializer.ensures.ok)
    (adding_refuses c.in_err-add_global.field-0.0 (with_global s (global_of c.in_ok-ty.ty)) c.add_global.new.self c.in_err-add_global.ensures.added))

pub returns-in_err-add_global-clause-place : goal.returns-in_err-add_global-clause-place
returns-in_err-add_global-clause-place g c =
    let r = c.args.reader.now in
    let within : position_in r ≤ length (input r) = omega arith in
    let here = c.original_position-offset.ensures in
    err_as c.from_residual-in_err-add_global.result c.in_err-add_global.field-0.0 (λ (e : Error g.row.A.Denot). StandsBehind r e) c.from_residual-in_err-add_global.ensures.1
    (at_between c.original_position-offset.result (original r + position_in r) (original r + length (input r)) c.in_err-add_global.field-0.0
    (omega (arith, here)) (omega (arith, here, within)) c.in_err-add_global.ensures.place)

pub returns-clause-noted : goal.returns-clause-noted
returns-clause-noted g c =
    c.in_ok-check_initializer.ensures.noted ∙ ap (λ (xs : List ℕ). marked xs c.args.referenced.now) (sym (global_named (global_of c.in_ok-written.written) (rest c.args.reader.now) (rest c.read_global_type.new.reader) c.in_ok-written.ensures.ok))
