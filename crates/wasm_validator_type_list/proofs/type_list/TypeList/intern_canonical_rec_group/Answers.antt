use Rattle.std.specs.Bool.{Decides}
use Rattle.std.proofs.Common.{arith, ap, subst, sym, ◌∙◌, ◌≤◌, ◌-◌, ◌++◌, ◌∷◌, [], length, refl}
use Rattle.wasm_readers_types.specs.WasmReadersValues.declared.indices.TheConstants.{MAX_IDS}
use Rattle.wasm_validator_type_ancestors.specs.WasmValidatorTypeGroups.Groups.{all_in}
use Rattle.wasm_validator_type_ancestors.specs.Supers.{extended_in}
use Rattle.wasm_validator_type_list.specs.GroupOrder.{IsListable, ReferByIds}
use Rattle.wasm_validator_type_list.proofs.Ancestors.{as_many, extend_earlier}
use Rattle.wasm_validator_type_list.proofs.FullLists.{full_missed, full_found, full_fits, known_missed}
use Rattle.wasm_validator_type_list.proofs.ListInvariants.{group_room, room_of, mode_of, next_of, only_once, place_found, place_missed, sound_same, sound_push, shown_same, interned_found, interned_new}
use Rattle.wasm_validator_type_ancestors.proofs.Results.{on_err}
use Rattle.wasm_validator_type_list.proofs.type_list.TypeList.intern_canonical_rec_group.Goals as goal

pub returns-in-Some-clause-interned : goal.returns-in-Some-clause-interned
returns-in-Some-clause-interned g c =
    let once = only_once c.args.is_canonical c.in-Some.found c.found_in.result c.found_in.ensures.own c.in-Some.is in
    let mode = mode_of c.self.inside c.args.self.now c.args.is_canonical c.self.view_is c.requires.mode ∙ once in
    let there = place_found c.self.inside.groups c.args.group.types c.types-2.result.now c.in-Some.found c.found_in.result c.types-2.ensures c.in-Some.is (c.found_in.ensures.once once) in
    rw c.from_index.ensures (interned_found c.self.inside c.args.self.now c.args.group.types c.in-Some.found c.self.view_is c.self.invariant mode there).0

pub returns-in-Some-clause-types : goal.returns-in-Some-clause-types
returns-in-Some-clause-types g c =
    let once = only_once c.args.is_canonical c.in-Some.found c.found_in.result c.found_in.ensures.own c.in-Some.is in
    let mode = mode_of c.self.inside c.args.self.now c.args.is_canonical c.self.view_is c.requires.mode ∙ once in
    let there = place_found c.self.inside.groups c.args.group.types c.types-2.result.now c.in-Some.found c.found_in.result c.types-2.ensures c.in-Some.is (c.found_in.ensures.once once) in
    rw c.from_index.ensures (interned_found c.self.inside c.args.self.now c.args.group.types c.in-Some.found c.self.view_is c.self.invariant mode there).1

pub returns-in-Some-clause-limit : goal.returns-in-Some-clause-limit
returns-in-Some-clause-limit g c =
    let once = only_once c.args.is_canonical c.in-Some.found c.found_in.result c.found_in.ensures.own c.in-Some.is in
    let mode = mode_of c.self.inside c.args.self.now c.args.is_canonical c.self.view_is c.requires.mode ∙ once in
    let there = place_found c.self.inside.groups c.args.group.types c.types-2.result.now c.in-Some.found c.found_in.result c.types-2.ensures c.in-Some.is (c.found_in.ensures.once once) in
    full_found c.self.inside c.args.self.now c.args.group.types c.in-Some.found c.self.view_is mode there

pub returns-then-types-item_count-clause-limit : goal.returns-then-types-item_count-clause-limit
returns-then-types-item_count-clause-limit g c =
    let a = c.self.inside in
    let mode = mode_of a c.args.self.now c.args.is_canonical c.self.view_is c.requires.mode in (
      full_missed a c.args.self.now c.args.group.types c.self.view_is
          (λ on. place_missed a.groups c.args.group.types c.types-2.result.now c.found_in.result c.types-2.ensures c.in_default.is (c.found_in.ensures.once (sym mode ∙ on)))
          (omega (arith, c.if-types-item_count.true, ap length c.types-3.ensures, c.item_count.ensures)),
      c.new-refusal.ensures,
    )

pub returns-then-types-item_count-clause-known : goal.returns-then-types-item_count-clause-known
returns-then-types-item_count-clause-known g c =
    let a = c.self.inside in
    let mode = mode_of a c.args.self.now c.args.is_canonical c.self.view_is c.requires.mode in
    λ has. absurd (known_missed a c.args.self.now c.args.group.types c.self.view_is
    (λ on. place_missed a.groups c.args.group.types c.types-2.result.now c.found_in.result c.types-2.ensures c.in_default.is (c.found_in.ensures.once (sym mode ∙ on))) has)

pub overflow_cast-number : goal.overflow_cast-number
overflow_cast-number g c = omega (arith, group_room c.self.inside c.self.invariant)

pub types_refer_by_ids-refers_by_ids-requires : goal.types_refer_by_ids-refers_by_ids-requires
types_refer_by_ids-refers_by_ids-requires g c =
    let here : IsListable c.item_count-places.result c.args.group.types =
    subst (λ n. IsListable n c.args.group.types) (sym c.item_count-places.ensures) (next_of c.self.inside c.args.self.now c.args.group.types c.self.view_is c.requires.listable) in
    subst (λ l. IsListable c.item_count-places.result l) (sym c.types-4.ensures) here

pub push_group-requires-clause-as_many : goal.push_group-requires-clause-as_many
push_group-requires-clause-as_many g c = as_many c.self.inside c.self.invariant

pub push_group-requires-clause-earlier : goal.push_group-requires-clause-earlier
push_group-requires-clause-earlier g c =
    let n = length (all_in c.self.inside.groups) in
    extend_earlier n c.into_types.result.items (subst (IsListable n) (sym c.into_types.ensures) (next_of c.self.inside c.args.self.now c.args.group.types c.self.view_is c.requires.listable))

pub push_group-requires-clause-group_room : goal.push_group-requires-clause-group_room
push_group-requires-clause-group_room g c = group_room c.self.inside c.self.invariant

pub push_group-requires-clause-room : goal.push_group-requires-clause-room
push_group-requires-clause-room g c =
    let count : length c.args.group.types ≤ MAX_IDS - c.item_count.result = omega (arith, c.if-types-item_count.false, ap length c.types-3.ensures) in
    omega (arith, room_of c.self.inside c.item_count.result (length c.args.group.types) c.self.invariant c.item_count.ensures count, ap length c.into_types.ensures)

pub invariant_of-self : goal.invariant_of-self
invariant_of-self g c = sound_same c.self.inside _ c.self.invariant c.in_err-push_group.ensures.same_groups refl refl c.in_err-push_group.ensures.err refl refl

pub returns-in_err-push_group-clause-err : goal.returns-in_err-push_group-clause-err
returns-in_err-push_group-clause-err g c =
    let a = c.self.inside in
    on_err c.from_residual.result
    (shown_same a (record { groups = c.push_group.new.groups; ancestors = c.push_group.new.self; depths = a.depths; refers_by_ids = a.refers_by_ids; is_canonical = a.is_canonical; is_open = a.is_open; alloc = a.alloc }) c.args.self.now c.self.view_is
    c.in_err-push_group.ensures.same_groups refl refl refl)

pub returns-in_err-push_group-clause-known : goal.returns-in_err-push_group-clause-known
returns-in_err-push_group-clause-known g c =
    let a = c.self.inside in
    let mode = mode_of a c.args.self.now c.args.is_canonical c.self.view_is c.requires.mode in
    λ has. absurd (known_missed a c.args.self.now c.args.group.types c.self.view_is
    (λ on. place_missed a.groups c.args.group.types c.types-2.result.now c.found_in.result c.types-2.ensures c.in_default.is (c.found_in.ensures.once (sym mode ∙ on))) has)

pub invariant_of-self-2 : goal.invariant_of-self-2
invariant_of-self-2 g c =
    let a = c.self.inside in
    let mode = mode_of a c.args.self.now c.args.is_canonical c.self.view_is c.requires.mode in
    let count : length c.args.group.types ≤ MAX_IDS - c.item_count.result = omega (arith, c.if-types-item_count.false, ap length c.types-3.ensures) in
    sound_push a _ c.args.group.types c.self.invariant (next_of a c.args.self.now c.args.group.types c.self.view_is c.requires.listable)
    (room_of a c.item_count.result (length c.args.group.types) c.self.invariant c.item_count.ensures count)
    (λ on. place_missed a.groups c.args.group.types c.types-2.result.now c.found_in.result c.types-2.ensures c.in_default.is (c.found_in.ensures.once (sym mode ∙ on)))
    (λ off. c.requires.members (sym mode ∙ off))
    (c.in_ok-push_group.ensures.groups ∙ ap (λ l. a.groups ++ l ∷ []) c.into_types.ensures) refl
    (c.in_ok-push_group.ensures.lists ∙ ap (λ l. a.ancestors ++ extended_in (length (all_in a.groups)) l) c.into_types.ensures) refl
    (subst (λ l. Decides c.types_refer_by_ids-refers_by_ids.result (ReferByIds (all_in a.groups ++ l))) c.types-4.ensures (c.types_refer_by_ids-refers_by_ids.ensures (all_in a.groups) c.self.invariant.by_ids))

pub returns-clause-interned : goal.returns-clause-interned
returns-clause-interned g c =
    let a = c.self.inside in
    let mode = mode_of a c.args.self.now c.args.is_canonical c.self.view_is c.requires.mode in
    rw (c.from_index-2.ensures, c.group_count-number.ensures)
    (interned_new a (record { groups = c.push_group.new.groups; ancestors = c.push_group.new.self; depths = a.depths; refers_by_ids = c.types_refer_by_ids-refers_by_ids.result; is_canonical = a.is_canonical; is_open = a.is_open; alloc = a.alloc })
    c.args.self.now c.args.group.types c.self.view_is c.self.invariant c.requires.listable (c.in_ok-push_group.ensures.groups ∙ ap (λ l. a.groups ++ l ∷ []) c.into_types.ensures) refl refl
    (λ on. place_missed a.groups c.args.group.types c.types-2.result.now c.found_in.result c.types-2.ensures c.in_default.is (c.found_in.ensures.once (sym mode ∙ on))) refl).0

pub returns-clause-types : goal.returns-clause-types
returns-clause-types g c =
    let a = c.self.inside in
    let mode = mode_of a c.args.self.now c.args.is_canonical c.self.view_is c.requires.mode in
    rw (c.from_index-2.ensures, c.group_count-number.ensures)
    (interned_new a (record { groups = c.push_group.new.groups; ancestors = c.push_group.new.self; depths = a.depths; refers_by_ids = c.types_refer_by_ids-refers_by_ids.result; is_canonical = a.is_canonical; is_open = a.is_open; alloc = a.alloc })
    c.args.self.now c.args.group.types c.self.view_is c.self.invariant c.requires.listable (c.in_ok-push_group.ensures.groups ∙ ap (λ l. a.groups ++ l ∷ []) c.into_types.ensures) refl refl
    (λ on. place_missed a.groups c.args.group.types c.types-2.result.now c.found_in.result c.types-2.ensures c.in_default.is (c.found_in.ensures.once (sym mode ∙ on))) refl).1

pub returns-clause-limit : goal.returns-clause-limit
returns-clause-limit g c =
    let a = c.self.inside in
    let count : length c.args.group.types ≤ MAX_IDS - c.item_count.result = omega (arith, c.if-types-item_count.false, ap length c.types-3.ensures) in
    full_fits a c.args.self.now c.args.group.types c.self.view_is (room_of a c.item_count.result (length c.args.group.types) c.self.invariant c.item_count.ensures count)

pub returns-clause-known : goal.returns-clause-known
returns-clause-known g c = λ _. refl
