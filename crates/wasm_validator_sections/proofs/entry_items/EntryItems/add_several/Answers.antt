use Rattle.std.proofs.Common.{◌≡◌, refl, sym, subst, ◌∙◌, Some}
use Rattle.std.specs.declared.result.Result.TheVariants as results
use Rattle.wasm_readers.specs.Items.{import_of}
use Rattle.wasm_readers.specs.declared.imports.CompactImports.{CompactImports}
use Rattle.wasm_spec_rules.specs.FeatureFlags.{features_of}
use Rattle.wasm_readers_errors.specs.WasmReadersFeatures.declared.features.WasmFeatures.{WasmFeatures}
use Rattle.wasm_validator_type_list.specs.DefTypes.{types_of_list}
use Rattle.wasm_validator_items.specs.WasmValidatorCore.Answers.{TypesSoFar, Adds}
use Rattle.wasm_validator_items.specs.WasmValidatorCore.AddedItemRefusals.{Tells, told_of_import}
use Rattle.wasm_validator_items.specs.WasmValidatorCore.Items.{add_import}
use Rattle.wasm_validator_sections.proofs.EntryTurns.{Turn, first_turn, next_turn, last_turn, nothing_refused, error_added, error_place, error_told}
use Rattle.wasm_validator_sections.proofs.entry_items.EntryItems.add_several.Goals as goal

pub imports-init : goal.imports-init
imports-init g c = record {
  list = refl;
  features = refl;
  opened = refl;
  types = refl;
  turn = subst (λ (it : CompactImports). Turn g.row.A.Denot c.args.self.now.features (types_of_list c.args.self.now.list.now) c.args.imports c.args.self.now.opened.now it c.args.self.now.opened.now) (sym c.into_iter-import-iterator.ensures.into_iter_gives)
      (first_turn g.row.A.Denot c.args.self.now.features (types_of_list c.args.self.now.list.now) c.args.imports c.args.self.now.opened.now c.requires.read);
}

pub returns-in_err-offset-clause-added : goal.returns-in_err-offset-clause-added
returns-in_err-offset-clause-added g c =
    let self = c.args.self.now in
    let now = c.imports.self.opened.now in
    nothing_refused g.row.A.Denot self.features (types_of_list self.list.now) c.args.imports self.opened.now c.imports.import-iterator c.next.new.self now c.imports.invariant.turn c.in-Some.import c.in_err-offset.field-0.0 (c.in_err-offset.was) c.in-Some.ensures.steps

pub returns-in_err-offset-clause-place : goal.returns-in_err-offset-clause-place
returns-in_err-offset-clause-place g c =
    let self = c.args.self.now in
    let now = c.imports.self.opened.now in
    nothing_refused g.row.A.Denot self.features (types_of_list self.list.now) c.args.imports self.opened.now c.imports.import-iterator c.next.new.self now c.imports.invariant.turn c.in-Some.import c.in_err-offset.field-0.0 (c.in_err-offset.was) c.in-Some.ensures.steps

pub returns-in_err-offset-clause-told : goal.returns-in_err-offset-clause-told
returns-in_err-offset-clause-told g c =
    let self = c.args.self.now in
    let now = c.imports.self.opened.now in
    nothing_refused g.row.A.Denot self.features (types_of_list self.list.now) c.args.imports self.opened.now c.imports.import-iterator c.next.new.self now c.imports.invariant.turn c.in-Some.import c.in_err-offset.field-0.0 (c.in_err-offset.was) c.in-Some.ensures.steps

pub imports-preserved : goal.imports-preserved
imports-preserved g c =
    let self = c.args.self.now in
    let now = c.imports.self.opened.now in
    let inv = c.imports.invariant in
    record {
      list = c.add_one.ensures.list ∙ inv.list;
      features = c.add_one.ensures.features ∙ inv.features;
      opened = c.add_one.ensures.module ∙ inv.opened;
      types = c.add_one.ensures.types ∙ inv.types;
      turn = next_turn g.row.A.Denot self.features (types_of_list self.list.now) c.args.imports self.opened.now c.imports.import-iterator c.next.new.self now c.imports.invariant.turn c.in-Some.import (c.in_ok-offset.offset, c.in_ok-offset.import) (c.in_ok-offset.was) c.in-Some.ensures.steps c.add_one.new.self.opened.now
          (subst (λ (p : WasmFeatures × TypesSoFar). add_import (features_of p.0) p.1 now (import_of c.in_ok-offset.import) ≡ Some c.add_one.new.self.opened.now) (λ i. (c.imports.invariant.features i, types_of_list (c.imports.invariant.list i).now)) c.in_ok-add_one.ensures.added);
    }

pub returns-in_err-add_one-clause-added : goal.returns-in_err-add_one-clause-added
returns-in_err-add_one-clause-added g c =
    let self = c.args.self.now in
    let now = c.imports.self.opened.now in
    error_added g.row.A.Denot self.features (types_of_list self.list.now) c.args.imports self.opened.now c.imports.import-iterator c.next.new.self now c.imports.invariant.turn c.in-Some.import (c.in_ok-offset.offset, c.in_ok-offset.import) (c.in_ok-offset.was) c.in-Some.ensures.steps (Unit {0}) c.add_one.new.self.opened.now c.add_one.new.self.opened.now c.from_residual-in_err-add_one.result c.in_err-add_one.field-0.0 c.from_residual-in_err-add_one.ensures.1
    (subst (λ (p : WasmFeatures × TypesSoFar). Adds {T = Unit {0}} (results.Err c.in_err-add_one.field-0.0) (add_import (features_of p.0) p.1 now (import_of c.in_ok-offset.import)) c.add_one.new.self.opened.now) (λ i. (c.imports.invariant.features i, types_of_list (c.imports.invariant.list i).now)) c.in_err-add_one.ensures.added)

pub returns-in_err-add_one-clause-place : goal.returns-in_err-add_one-clause-place
returns-in_err-add_one-clause-place g c =
    let self = c.args.self.now in
    let now = c.imports.self.opened.now in
    error_place g.row.A.Denot self.features (types_of_list self.list.now) c.args.imports self.opened.now c.imports.import-iterator c.next.new.self now c.imports.invariant.turn c.in-Some.import (c.in_ok-offset.offset, c.in_ok-offset.import) (c.in_ok-offset.was) c.in-Some.ensures.steps (Unit {0}) c.add_one.new.self.opened.now c.add_one.new.self.opened.now c.from_residual-in_err-add_one.result c.in_err-add_one.field-0.0 c.from_residual-in_err-add_one.ensures.1
    c.in_err-add_one.ensures.place

pub returns-in_err-add_one-clause-told : goal.returns-in_err-add_one-clause-told
returns-in_err-add_one-clause-told g c =
    let self = c.args.self.now in
    let now = c.imports.self.opened.now in
    error_told g.row.A.Denot self.features (types_of_list self.list.now) c.args.imports self.opened.now c.imports.import-iterator c.next.new.self now c.imports.invariant.turn c.in-Some.import (c.in_ok-offset.offset, c.in_ok-offset.import) (c.in_ok-offset.was) c.in-Some.ensures.steps (Unit {0}) c.add_one.new.self.opened.now c.add_one.new.self.opened.now c.from_residual-in_err-add_one.result c.in_err-add_one.field-0.0 c.from_residual-in_err-add_one.ensures.1
    (subst (λ (p : WasmFeatures × TypesSoFar). Adds {T = Unit {0}} (results.Err c.in_err-add_one.field-0.0) (add_import (features_of p.0) p.1 now (import_of c.in_ok-offset.import)) c.add_one.new.self.opened.now) (λ i. (c.imports.invariant.features i, types_of_list (c.imports.invariant.list i).now)) c.in_err-add_one.ensures.added)
    (subst (λ (p : WasmFeatures × TypesSoFar). Tells {T = Unit {0}} (results.Err c.in_err-add_one.field-0.0) (told_of_import p.0 c.in_ok-offset.offset p.1 now (import_of c.in_ok-offset.import))) (λ i. (c.imports.invariant.features i, types_of_list (c.imports.invariant.list i).now)) c.in_err-add_one.ensures.told)
    c.in_err-add_one.ensures.place

pub returns-in_err-add_one-clause-list : goal.returns-in_err-add_one-clause-list
returns-in_err-add_one-clause-list g c = c.add_one.ensures.list ∙ c.imports.invariant.list

pub returns-in_err-add_one-clause-features : goal.returns-in_err-add_one-clause-features
returns-in_err-add_one-clause-features g c = c.add_one.ensures.features ∙ c.imports.invariant.features

pub returns-in_err-add_one-clause-module : goal.returns-in_err-add_one-clause-module
returns-in_err-add_one-clause-module g c = c.add_one.ensures.module ∙ c.imports.invariant.opened

pub returns-in_err-add_one-clause-types : goal.returns-in_err-add_one-clause-types
returns-in_err-add_one-clause-types g c = c.add_one.ensures.types ∙ c.imports.invariant.types

pub returns-clause-added : goal.returns-clause-added
returns-clause-added g c =
    let self = c.args.self.now in
    last_turn g.row.A.Denot self.features (types_of_list self.list.now) c.args.imports self.opened.now c.imports.import-iterator c.imports.self.opened.now c.imports.invariant.turn c.in-None.ensures.steps.0
