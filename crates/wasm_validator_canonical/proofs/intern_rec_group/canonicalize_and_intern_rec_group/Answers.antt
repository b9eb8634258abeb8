use Rattle.std.proofs.Common.{◌≡◌, refl, sym, ap, subst, ◌∙◌, ◌<◌, true, List, ◌++◌, length, Some, arith, All}
use Rattle.std.specs.declared.result.Result.TheVariants as results
use Rattle.std.proofs.lemmas.List.{length-map}
use Rattle.wasm_spec.specs.Features.{canonical}
use Rattle.wasm_spec_rules.specs.FeatureFlags.{features_of}
use Rattle.wasm_readers_types.specs.SeenTypes.{sub_of, rec_of}
use Rattle.wasm_readers_types.specs.WasmReadersValues.declared.indices.CoreTypeId.{CoreTypeId}
use Rattle.wasm_readers_types.specs.WasmReadersValues.declared.indices.TheConstants.{MAX_IDS}
use Rattle.wasm_readers_types.specs.declared.types.SubType.{SubType}
use Rattle.wasm_validator_type_list.specs.WasmValidatorTypeGroups.Elements.{ids_left}
use Rattle.wasm_validator_type_list.specs.ListViews.{types_in}
use Rattle.wasm_validator_type_list.specs.GroupOrder.{IsListable}
use Rattle.wasm_validator_type_list.specs.DefTypes.{def_types}
use Rattle.wasm_validator_type_list.proofs.DefTypes.{length-def_types}
use Rattle.wasm_validator_canonical.specs.Groups.{closes, AreValid, with_written}
use Rattle.wasm_validator_canonical.specs.Indices.{numbers}
use Rattle.wasm_validator_canonical.specs.GroupFaults.{counted_first, FitsFirst}
use Rattle.wasm_validator_canonical.specs.Refusals.{rec_without_gc}
use Rattle.wasm_validator_canonical.specs.GroupFaults.{ToldOfWritten, written}
use Rattle.wasm_validator_canonical.proofs.NewIds.{numbers_below, below_limit}
use Rattle.wasm_validator_canonical.proofs.ListableGroups.{closing_listable, closing_members}
use Rattle.wasm_validator_canonical.proofs.AddedGroups.{adds_canonical, same_standing, none_added, denies_adds}
use Rattle.wasm_validator_canonical.proofs.DepthsOfIds.{interned_there}
use Rattle.wasm_validator_canonical.proofs.KeptDepths.{earlier_both, interned_fits, interned_earlier}
use Rattle.wasm_validator_canonical.proofs.OwnIds.{own_grows, own_new}
use Rattle.wasm_validator_canonical.proofs.UnaddedGroups.{first_same, fits_first, none_open, none_full}
use Rattle.wasm_validator_canonical.proofs.GroupRefusals.{content_says, same_refusal, invalid_tells}
use Rattle.wasm_validator_canonical.proofs.intern_rec_group.canonicalize_and_intern_rec_group.Goals as goal

pub returns-then-types-counted-clause-added : goal.returns-then-types-counted-clause-added
returns-then-types-counted-clause-added g c =
    let F = features_of c.args.features in
    let old = c.args.types.now in
    let us = def_types old.is_canonical old.groups in
    let w = rec_of c.args.group in
    let over = c.if-types-counted.true in
    let count = c.len-held.ensures.count in
    let room = c.len-held.ensures.room in
    let many = length-def_types old.is_canonical old.groups in
    let here = ap length c.types.ensures in
    let total : length w.types ≡ length c.args.group.types = length-map c.args.group.types sub_of in
    let first : c.counted_first-counted.result ≡ counted_first (canonical F) (length us) = first_same c.is_canonical-is_canonical.result (canonical F) c.len-held.result (length us) c.counted_first-counted.result c.counted_first-counted.ensures
    (c.is_canonical-is_canonical.ensures.mode ∙ c.requires.mode) (count ∙ sym many) in
    none_added F (with_written F us (numbers c.args.ids.now) w) (none_full F us (numbers c.args.ids.now) w (omega (arith, count, room, many)) (omega (arith, over, here, total, first)))

pub canonical_types-requires-clause-small : goal.canonical_types-requires-clause-small
canonical_types-requires-clause-small g c =
    let old = c.args.types.now in
    let count = c.len-held.ensures.count in
    let room = c.len-held.ensures.room in
    let many = length-def_types old.is_canonical old.groups in
    below_limit (length (def_types old.is_canonical old.groups)) MAX_IDS c.args.ids.now (omega (arith, count, room, many)) c.requires.known

pub intern-requires-clause-members : goal.intern-requires-clause-members
intern-requires-clause-members g c =
    let F = features_of c.args.features in
    let ids = numbers c.args.ids.now in
    let w = rec_of c.args.group in
    let closing : closes F (length ids) w ≡ true = ap (λ n. closes F n w) (length-map c.args.ids.now _) ∙ c.in-Ok.ensures.closes in
    λ e. subst (λ (l : List (SubType _)). 0 < length l) (sym c.explicit.ensures.types)
    (closing_members F ids w closing c.in-Ok.canonical.items c.requires.form (sym c.requires.mode ∙ e) c.in-Ok.ensures.value)

pub intern-requires-clause-listable : goal.intern-requires-clause-listable
intern-requires-clause-listable g c =
    let F = features_of c.args.features in
    let old = c.args.types.now in
    let ids = numbers c.args.ids.now in
    let w = rec_of c.args.group in
    let closing : closes F (length ids) w ≡ true = ap (λ n. closes F n w) (length-map c.args.ids.now _) ∙ c.in-Ok.ensures.closes in
    let below : All (λ i. i < length (types_in old)) ids = numbers_below (length (types_in old)) c.args.ids.now (subst (λ n. All (λ (id : CoreTypeId). id.index < n) c.args.ids.now) (length-def_types old.is_canonical old.groups) c.requires.known) in
    subst (λ (l : List (SubType _)). IsListable (length (types_in old)) l) (sym c.explicit.ensures.types)
    (closing_listable F ids w closing (length (types_in old)) c.in-Ok.canonical.items below c.in-Ok.ensures.value)

pub keep_depths-requires-clause-there : goal.keep_depths-requires-clause-there
keep_depths-requires-clause-there g c =
    interned_there c.args.types.now c.intern.new.types c.explicit.result.types (ids_left c.in-Ok-intern.elements) c.in-Ok-intern.ensures.interned.0

pub returns-in-Ok-keep_depths-clause-added : goal.returns-in-Ok-keep_depths-clause-added
returns-in-Ok-keep_depths-clause-added g c =
    let F = features_of c.args.features in
    let old = c.args.types.now in
    let ids = numbers c.args.ids.now in
    let mid = c.intern.new.types in
    let kept = c.in-Ok-keep_depths.ensures in
    let added = adds_canonical F c.args.ids.now c.args.group old mid c.explicit.result.types c.in-Ok.canonical.items (results.Ok c.in-Ok-intern.elements) c.in-Ok.ensures.closes c.requires.mode c.in-Ok-intern.ensures.same_mode c.requires.known
    c.explicit.ensures.types c.in-Ok.ensures.value c.in-Ok-intern.ensures.interned in
    added ∙ ap (λ us. Some (us, ids ++ ids_left c.in-Ok-intern.elements)) (same_standing mid c.keep_depths.new.types kept.same_mode kept.same_groups)

pub returns-in-Ok-keep_depths-clause-valid : goal.returns-in-Ok-keep_depths-clause-valid
returns-in-Ok-keep_depths-clause-valid g c =
    let kept = c.in-Ok-keep_depths.ensures in
    subst (AreValid (features_of c.args.features)) (same_standing c.intern.new.types c.keep_depths.new.types kept.same_mode kept.same_groups) c.in-Ok-intern.ensures.interned.1

pub returns-in-Err-intern-clause-added : goal.returns-in-Err-intern-clause-added
returns-in-Err-intern-clause-added g c =
    let F = features_of c.args.features in
    let old = c.args.types.now in
    adds_canonical F c.args.ids.now c.args.group old c.intern.new.types c.explicit.result.types c.in-Ok.canonical.items (results.Err c.in-Err-intern.error) c.in-Ok.ensures.closes c.requires.mode c.in-Err-intern.ensures.same_mode c.requires.known
    c.explicit.ensures.types c.in-Ok.ensures.value c.in-Err-intern.ensures.interned

pub returns-in-Err-clause-added : goal.returns-in-Err-clause-added
returns-in-Err-clause-added g c =
    let F = features_of c.args.features in
    let old = c.args.types.now in
    let ids = numbers c.args.ids.now in
    let w = rec_of c.args.group in
    denies_adds F c.in-Err.error (closes F (length c.args.ids.now) w) (with_written F (def_types old.is_canonical old.groups) ids w)
    (λ h. none_open F (def_types old.is_canonical old.groups) ids w (ap (λ n. closes F n w) (length-map c.args.ids.now _) ∙ h))
    c.in-Err.ensures.closes

pub returns-in-Ok-keep_depths-clause-own_ids : goal.returns-in-Ok-keep_depths-clause-own_ids
returns-in-Ok-keep_depths-clause-own_ids g c = λ own.
    own_new (features_of c.args.features) own c.args.types.now c.keep_depths.new.types (numbers c.args.ids.now) (ids_left c.in-Ok-intern.elements) (rec_of c.args.group) (length c.args.group.types)
    (length-map c.args.group.types sub_of) (returns-in-Ok-keep_depths-clause-added g c)

pub returns-in-Ok-keep_depths-clause-grows : goal.returns-in-Ok-keep_depths-clause-grows
returns-in-Ok-keep_depths-clause-grows g c = λ own.
    let ids = numbers c.args.ids.now in
    own_grows (features_of c.args.features) own c.args.types.now c.keep_depths.new.types ids (ids ++ ids_left c.in-Ok-intern.elements) (rec_of c.args.group) (length c.args.group.types)
    (length-map c.args.group.types sub_of) (returns-in-Ok-keep_depths-clause-added g c)

pub keep_depths-requires-clause-fits : goal.keep_depths-requires-clause-fits
keep_depths-requires-clause-fits g c =
    interned_fits (features_of c.args.features) c.args.types.now c.intern.new.types c.explicit.result.types (ids_left c.in-Ok-intern.elements) c.in-Ok-intern.ensures.same_mode
    c.in-Ok-intern.ensures.interned.0 c.in-Ok-intern.ensures.listable c.in-Ok-intern.ensures.interned.1

pub returns-in-Ok-keep_depths-clause-earlier_depths : goal.returns-in-Ok-keep_depths-clause-earlier_depths
returns-in-Ok-keep_depths-clause-earlier_depths g c =
    earlier_both c.args.types.now c.intern.new.types c.keep_depths.new.types
    (interned_earlier c.args.types.now c.intern.new.types c.explicit.result.types (ids_left c.in-Ok-intern.elements) c.in-Ok-intern.ensures.interned.0) c.in-Ok-keep_depths.ensures.earlier

pub returns-in-Err-intern-clause-told : goal.returns-in-Err-intern-clause-told
returns-in-Err-intern-clause-told g c =
    let F = features_of c.args.features in
    let w = rec_of c.args.group in
    let closing : closes F (length (numbers c.args.ids.now)) w ≡ true = ap (λ n. closes F n w) (length-map c.args.ids.now _) ∙ c.in-Ok.ensures.closes in
    invalid_tells c.args.features c.args.offset c.args.types.now (numbers c.args.ids.now) w c.explicit.result.types c.in-Ok.canonical.items c.in-Err-intern.error closing c.explicit.ensures.types c.in-Ok.ensures.value c.in-Err-intern.ensures.told

pub returns-in-Err-clause-told : goal.returns-in-Err-clause-told
returns-in-Err-clause-told g c =
    let F = features_of c.args.features in
    let old = c.args.types.now in
    let w = rec_of c.args.group in
    let within = c.if-types-counted.false in
    let here = ap length c.types.ensures in
    let total : length w.types ≡ length c.args.group.types = length-map c.args.group.types sub_of in
    let first = first_same c.is_canonical-is_canonical.result (canonical F) c.len-held.result (length (types_in old)) c.counted_first-counted.result c.counted_first-counted.ensures
    (c.is_canonical-is_canonical.ensures.mode ∙ c.requires.mode) c.len-held.ensures.count in
    let count = c.len-held.ensures.count in
    let room = c.len-held.ensures.room in
    let fits : FitsFirst (canonical F) old (length w.types) = fits_first (canonical F) (length (types_in old)) (length c.args.group.types) (length w.types) c.counted_first-counted.result first (omega (arith, count, room)) (omega (arith, within, here)) total in
    let as_many : length (numbers c.args.ids.now) ≡ length c.args.ids.now = length-map c.args.ids.now _ in
    content_says c.in-Err.error (λ r t. written fits (subst (λ n. ToldOfWritten c.args.features c.args.offset n w r) (sym as_many) t)) c.in-Err.ensures.told

pub returns-in-Err-clause-written : goal.returns-in-Err-clause-written
returns-in-Err-clause-written g c = λ room not_allowed. same_refusal c.in-Err.error (rec_without_gc c.args.offset) (c.in-Err.ensures.written not_allowed)

-- the group was not refused before it was looked up
pub returns-in-Ok-keep_depths-clause-limit : goal.returns-in-Ok-keep_depths-clause-limit
returns-in-Ok-keep_depths-clause-limit g c = λ over.
    let F = features_of c.args.features in
    let within = c.if-types-counted.false in
    let here = ap length c.types.ensures in
    let count = c.len-held.ensures.count in
    let room = c.len-held.ensures.room in
    let first = first_same c.is_canonical-is_canonical.result (canonical F) c.len-held.result (length (types_in c.args.types.now)) c.counted_first-counted.result c.counted_first-counted.ensures (c.is_canonical-is_canonical.ensures.mode ∙ c.requires.mode) count in
    let fits = fits_first (canonical F) (length (types_in c.args.types.now)) (length c.args.group.types) (length c.args.group.types) c.counted_first-counted.result first (omega (arith, count, room)) (omega (arith, within, here)) refl in
    absurd (omega (arith, over, fits))

pub returns-in-Err-keep_depths-clause-limit : goal.returns-in-Err-keep_depths-clause-limit
returns-in-Err-keep_depths-clause-limit g c = λ over.
    let F = features_of c.args.features in
    let within = c.if-types-counted.false in
    let here = ap length c.types.ensures in
    let count = c.len-held.ensures.count in
    let room = c.len-held.ensures.room in
    let first = first_same c.is_canonical-is_canonical.result (canonical F) c.len-held.result (length (types_in c.args.types.now)) c.counted_first-counted.result c.counted_first-counted.ensures (c.is_canonical-is_canonical.ensures.mode ∙ c.requires.mode) count in
    let fits = fits_first (canonical F) (length (types_in c.args.types.now)) (length c.args.group.types) (length c.args.group.types) c.counted_first-counted.result first (omega (arith, count, room)) (omega (arith, within, here)) refl in
    absurd (omega (arith, over, fits))

pub returns-in-Err-intern-clause-limit : goal.returns-in-Err-intern-clause-limit
returns-in-Err-intern-clause-limit g c = λ over.
    let F = features_of c.args.features in
    let within = c.if-types-counted.false in
    let here = ap length c.types.ensures in
    let count = c.len-held.ensures.count in
    let room = c.len-held.ensures.room in
    let first = first_same c.is_canonical-is_canonical.result (canonical F) c.len-held.result (length (types_in c.args.types.now)) c.counted_first-counted.result c.counted_first-counted.ensures (c.is_canonical-is_canonical.ensures.mode ∙ c.requires.mode) count in
    let fits = fits_first (canonical F) (length (types_in c.args.types.now)) (length c.args.group.types) (length c.args.group.types) c.counted_first-counted.result first (omega (arith, count, room)) (omega (arith, within, here)) refl in
    absurd (omega (arith, over, fits))

pub returns-in-Err-clause-limit : goal.returns-in-Err-clause-limit
returns-in-Err-clause-limit g c = λ over.
    let F = features_of c.args.features in
    let within = c.if-types-counted.false in
    let here = ap length c.types.ensures in
    let count = c.len-held.ensures.count in
    let room = c.len-held.ensures.room in
    let first = first_same c.is_canonical-is_canonical.result (canonical F) c.len-held.result (length (types_in c.args.types.now)) c.counted_first-counted.result c.counted_first-counted.ensures (c.is_canonical-is_canonical.ensures.mode ∙ c.requires.mode) count in
    let fits = fits_first (canonical F) (length (types_in c.args.types.now)) (length c.args.group.types) (length c.args.group.types) c.counted_first-counted.result first (omega (arith, count, room)) (omega (arith, within, here)) refl in
    absurd (omega (arith, over, fits))

pub returns-in-Err-intern-clause-written : goal.returns-in-Err-intern-clause-written
returns-in-Err-intern-clause-written g c = λ room not_allowed. let h = c.in-Ok.ensures.written not_allowed in absurd cc
