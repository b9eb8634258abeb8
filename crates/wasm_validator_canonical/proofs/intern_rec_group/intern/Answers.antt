use Rattle.std.proofs.Common.{◌≡◌, refl, ◌∙◌, true, false, length, inr, arith}
use Rattle.std.proofs.lemmas.Option.{slice_get_within}
use Rattle.wasm_spec_rules.specs.FeatureFlags.{features_of}
use Rattle.wasm_validator_type_list.specs.WasmValidatorTypeGroups.Elements.{numbers_from, ids_left}
use Rattle.wasm_validator_type_list.specs.WasmValidatorTypeGroups.Groups.{first_of}
use Rattle.wasm_validator_type_list.specs.GroupInterning.{AreOnce}
use Rattle.wasm_validator_canonical.proofs.CheckedGroups.{checked, refused, nothing_interned}
use Rattle.wasm_validator_canonical.proofs.InternedIds.{there, interned_under}
use Rattle.wasm_validator_canonical.proofs.GroupRefusals.{new_told, full_tells, full_place}
use Rattle.wasm_validator_canonical.proofs.intern_rec_group.intern.Goals as goal

pub check_if_new-requires : goal.check_if_new-requires
check_if_new-requires g c =
    slice_get_within c.intern_canonical_rec_group.new.self.groups c.in-Ok.id.index c.args.group.types
    (there c.args.types.now c.intern_canonical_rec_group.new.self c.args.group.types _ c.in-Ok.id.index c.in-Ok.ensures.interned)

pub rec_group_elements-requires : goal.rec_group_elements-requires
rec_group_elements-requires g c =
    slice_get_within c.intern_canonical_rec_group.new.self.groups c.in-Ok.id.index c.args.group.types
    (there c.args.types.now c.intern_canonical_rec_group.new.self c.args.group.types _ c.in-Ok.id.index c.in-Ok.ensures.interned)

pub returns-in-Ok-check_if_new-clause-interned : goal.returns-in-Ok-check_if_new-clause-interned
returns-in-Ok-check_if_new-clause-interned g c =
    let old = c.args.types.now in
    let new = c.intern_canonical_rec_group.new.self in
    let mode = c.intern_canonical_rec_group.ensures.same_mode in
    let once : old.is_canonical ≡ true → AreOnce new.groups = λ h. c.is_canonical-is_canonical-in-Ok.ensures.once (c.is_canonical-is_canonical-in-Ok.ensures.mode ∙ mode ∙ h) in (
      interned_under old new c.args.group.types c.in-Ok.is_new c.in-Ok.id.index (ids_left c.rec_group_elements.result) c.in-Ok.ensures.interned c.in-Ok.ensures.types once (omega (arith, c.recall_promises-in-Ok.ensures.room)) c.rec_group_elements.ensures,
      checked (features_of c.args.features) old new c.args.group.types c.in-Ok.is_new c.in-Ok.id.index mode c.in-Ok.ensures.interned c.recall_promises-in-Ok.ensures.listable once c.requires.valid (λ e. (c.in-Ok-check_if_new.ensures.new e).0 refl),
    )

pub returns-in-Err-check_if_new-clause-interned : goal.returns-in-Err-check_if_new-clause-interned
returns-in-Err-check_if_new-clause-interned g c =
    let old = c.args.types.now in
    let new = c.intern_canonical_rec_group.new.self in
    let mode = c.intern_canonical_rec_group.ensures.same_mode in
    inr (record {
      ids = numbers_from (first_of new.groups c.in-Ok.id.index) (length c.args.group.types);
      interned = record {
        is_new = c.in-Ok.is_new;
        group = c.in-Ok.id.index;
        interned = c.in-Ok.ensures.interned;
        types = c.in-Ok.ensures.types;
        once = λ h. c.is_canonical-is_canonical-in-Ok.ensures.once (c.is_canonical-is_canonical-in-Ok.ensures.mode ∙ mode ∙ h);
        room = omega (arith, c.recall_promises-in-Ok.ensures.room);
        are_ids = refl;
      };
      invalid =
          refused (features_of c.args.features) new c.in-Ok.id.index c.in-Ok.is_new _ c.recall_promises-in-Ok.ensures.listable (λ h. c.is_canonical-is_canonical-in-Ok.ensures.once (c.is_canonical-is_canonical-in-Ok.ensures.mode ∙ h))
          c.in-Err-check_if_new.ensures.new c.in-Err-check_if_new.ensures.known refl;
    })

pub returns-in-Err-clause-interned : goal.returns-in-Err-clause-interned
returns-in-Err-clause-interned g c =
    nothing_interned (features_of c.args.features) c.args.types.now c.intern_canonical_rec_group.new.self c.args.group.types c.args.offset c.in-Err.error c.recall_promises.ensures.listable (λ h. c.is_canonical-is_canonical.ensures.once (c.is_canonical-is_canonical.ensures.mode ∙ h)) c.requires.listable c.in-Err.ensures.limit

pub returns-in-Err-check_if_new-clause-told : goal.returns-in-Err-check_if_new-clause-told
returns-in-Err-check_if_new-clause-told g c =
    new_told c.args.features c.args.offset c.args.types.now c.intern_canonical_rec_group.new.self c.args.group.types c.in-Ok.is_new c.in-Ok.id.index false c.in-Err-check_if_new.refusal c.in-Ok.ensures.interned
    c.in-Err-check_if_new.ensures.known refl (omega (arith, c.recall_promises-in-Ok.ensures.room)) c.in-Err-check_if_new.ensures.told

pub returns-in-Err-clause-told : goal.returns-in-Err-clause-told
returns-in-Err-clause-told g c =
    full_tells c.args.features c.args.types.now c.args.group.types c.in-Err.error c.args.offset c.in-Err.ensures.limit

pub returns-in-Err-clause-place : goal.returns-in-Err-clause-place
returns-in-Err-clause-place g c =
    full_place c.args.types.now c.args.group.types c.in-Err.error c.args.offset c.in-Err.ensures.limit
