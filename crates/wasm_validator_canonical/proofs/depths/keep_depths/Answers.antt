use Rattle.std.proofs.Common.{refl, sym, ◌-◌, ◌<◌, ◌∙◌, length, subst, All}
use Rattle.std.proofs.lemmas.List.Elements.{All-head, All-tail}
use Rattle.wasm_validator_type_list.specs.WasmValidatorTypeGroups.Elements.{ids_left}
use Rattle.wasm_validator_type_list.specs.WasmValidatorTypeGroups.Groups.{all_in}
use Rattle.wasm_validator_type_list.specs.GroupOrder.{AreListable}
use Rattle.wasm_validator_type_list.specs.ListViews.{types_in}
use Rattle.wasm_validator_canonical.specs.Depths.{FitsByte}
use Rattle.wasm_validator_canonical.proofs.KeptDepths.{kept_at_first, kept_next, kept_at_last, earlier_both, fits_same}
use Rattle.wasm_validator_canonical.proofs.depths.keep_depths.Goals as goal

pub ids-init : goal.ids-init
ids-init g c = record {
  there = c.requires.there;
  same_groups = refl;
  same_open = refl;
  same_mode = refl;
  fits = c.requires.fits;
  earlier = λ id n e. e;
  so_far = kept_at_first c.args.types.now c.args.elements.next (c.args.elements.end - c.args.elements.next);
}

pub keep_depth-requires-clause-there : goal.keep_depth-requires-clause-there
keep_depth-requires-clause-there g c =
    let old = c.args.types.now in
    let here : c.in-Some.id.index < length (types_in old) = All-head (λ id. id < length (types_in old)) c.in-Some.id.index (ids_left c.next.new.self) (subst (All (λ id. id < length (types_in old))) c.in-Some.ensures.steps c.ids.invariant.there) in
    subst (λ gs. c.in-Some.id.index < length (all_in gs)) (sym c.ids.invariant.same_groups) here

pub keep_depth-requires-clause-fits : goal.keep_depth-requires-clause-fits
keep_depth-requires-clause-fits g c =
    let old = c.args.types.now in
    fits_same old c.ids.types c.in-Some.id.index c.ids.invariant.same_groups
    (All-head (FitsByte old) c.in-Some.id.index (ids_left c.next.new.self) (subst (All (FitsByte old)) c.in-Some.ensures.steps c.ids.invariant.fits))

pub ids-preserved : goal.ids-preserved
ids-preserved g c =
    let old = c.args.types.now in
    let e = c.in-Some.ensures.steps in
    let at = c.ids.invariant in
    record {
      there = All-tail (λ id. id < length (types_in old)) c.in-Some.id.index (ids_left c.next.new.self) (subst (All (λ id. id < length (types_in old))) e at.there);
      same_groups = c.in-Ok.ensures.same_groups ∙ at.same_groups;
      same_open = c.in-Ok.ensures.same_open ∙ at.same_open;
      same_mode = c.in-Ok.ensures.same_mode ∙ at.same_mode;
      fits = All-tail (FitsByte old) c.in-Some.id.index (ids_left c.next.new.self) (subst (All (FitsByte old)) e at.fits);
      earlier = earlier_both old c.ids.types c.keep_depth.new.types at.earlier c.in-Ok.ensures.earlier;
      so_far = kept_next c.ids.types c.keep_depth.new.types c.args.elements.next (c.args.elements.end - c.args.elements.next) c.in-Some.id.index (ids_left c.ids.elements) (ids_left c.next.new.self)
          (subst AreListable (sym at.same_groups) c.requires.listable) c.in-Ok.ensures.same_groups c.in-Ok.ensures.others c.in-Ok.ensures.kept e at.so_far;
    }

pub returns-in-Err-clause-earlier : goal.returns-in-Err-clause-earlier
returns-in-Err-clause-earlier g c = earlier_both c.args.types.now c.ids.types c.keep_depth.new.types c.ids.invariant.earlier c.in-Err.ensures.earlier

pub returns-clause-kept : goal.returns-clause-kept
returns-clause-kept g c = kept_at_last c.ids.types c.args.elements.next (c.args.elements.end - c.args.elements.next) (ids_left c.ids.elements) c.in_default.ensures.steps.0 c.ids.invariant.so_far

pub returns-clause-earlier : goal.returns-clause-earlier
returns-clause-earlier g c = c.ids.invariant.earlier
