-- The rules over the ids of a list, and over the types that they stand for.
use Rattle.std.proofs.Common.{◌≡◌, sym, ap, subst, ◌∙◌, ◌↔◌, ℕ, ◌+◌, ◌-◌, ◌<◌, ◌≤◌, Bool, List, [], ◌∷◌, map, length, get_or, Some, All, arith}
use Rattle.std.proofs.lemmas.List.{length-map}
use Rattle.std.proofs.lemmas.List.Elements.{All-head, All-tail, All-cons, All-nil}
use Rattle.std.proofs.lemmas.Option.{slice_get_within, slice_get-get_or, get_or_from_slice_get}
use Rattle.wasm_spec.specs.Syntax.{Sub, map_sub}
use Rattle.wasm_spec.specs.References.{refs_sub}
use Rattle.wasm_spec.specs.Trees.{declared, members}
use Rattle.wasm_spec.specs.Closing.{start_unless}
use Rattle.wasm_spec.specs.TypeLists.{resolve_listed}
use Rattle.wasm_spec.specs.GroupRules.{IsValidType}
use Rattle.wasm_spec.proofs.ReferenceNumbers.{members-close}
use Rattle.wasm_spec.proofs.ClosedGroups.{refs_sub-map}
use Rattle.wasm_readers_types.specs.SeenTypes.{sub_of}
use Rattle.wasm_readers_types.specs.WasmReadersValues.declared.indices.UnpackedIndex.{UnpackedIndex}
use Rattle.wasm_readers_types.specs.WasmReadersValues.declared.indices.UnpackedIndex.TheVariants.{Module, RecGroup, Id}
use Rattle.wasm_readers_types.specs.declared.types.SubType.{SubType}
use Rattle.wasm_validator_type_list.specs.WasmValidatorTypeGroups.Groups.{first_of}
use Rattle.wasm_validator_type_list.specs.GroupOrder.{IsKnown, AreListable}
use Rattle.wasm_validator_type_list.specs.Lookups.{leads_to}
use Rattle.wasm_validator_type_list.specs.DefTypes.{def_types, listed_sub, listed_group, tree_behind}
use Rattle.wasm_validator_type_list.specs.DeclarationsById.{sub_by_ids, declares}
use Rattle.wasm_validator_type_list.specs.Laws.{type_of_id}
use Rattle.wasm_validator_type_list.proofs.IdDeclarations.{declared_by}
use Rattle.wasm_validator_type_list.proofs.Lookups.{first_of-next}
use Rattle.wasm_validator_type_list.proofs.DefTypes.{first_of-within, length-def_types}
use Rattle.wasm_validator_type_list.proofs.IdsAndTypes.{types_declare_what_ids_declare}
use Rattle.wasm_validator_type_list.proofs.Order.{ids_are_ordered_as_types, ids_match_as_types}
use Rattle.wasm_validator_type_checks.specs.Laws.{IdsKeepRulesAsTypes, GroupsKeepRulesAsTypes, SubTypesMatchAsTypes}
use Rattle.wasm_validator_type_checks.proofs.RuleRenamings.{sub_match}
use Rattle.wasm_validator_type_checks.proofs.RuleTransport.{valid_match}

led_below : (start count end : ℕ) (r : UnpackedIndex) → start + count ≤ end → IsKnown start count r → leads_to start r < end
led_below start count end (Module i) h k = absurd k
led_below start count end (RecGroup i) h k = omega (arith, h, k)
led_below start count end (Id id) h k = omega (arith, h, k)

all_led : (start count end : ℕ) (rs : List UnpackedIndex) → start + count ≤ end → All (IsKnown start count) rs → All (λ i. i < end) (map (leads_to start) rs)
all_led start count end [] h k = All-nil (λ i. i < end)
all_led start count end (r ∷ rs) h k =
    All-cons (λ i. i < end) (leads_to start r) (map (leads_to start) rs)
    (led_below start count end r h (All-head (IsKnown start count) r rs k)) (all_led start count end rs h (All-tail (IsKnown start count) r rs k))

module _ {A : Type 0} (gs : List (List (SubType A))) (listable : AreListable gs) where
  -- what an id declares refers to ids of the list
  inside : (c : Bool) (i : ℕ) (s : Sub ℕ) → declares gs i ≡ Some s → All (λ j. j < length (def_types c gs)) (refs_sub s)
  inside c i s e =
      let d = declared_by gs i s e in
      let start = first_of gs d.group in
      let count = length d.members in
      let l : start + count ≤ length (def_types c gs) = omega (arith, first_of-next gs d.group d.members d.there, first_of-within gs (d.group + 1), length-def_types c gs) in
      let at : All (IsKnown start count) (refs_sub (sub_of (get_or d.members d.position d.ty))) = (listable d.group d.members d.there).known d.position d.ty (slice_get_within d.members d.position d.ty d.member) in
      let known : All (IsKnown start count) (refs_sub (sub_of d.ty)) = subst (λ (t : SubType A). All (IsKnown start count) (refs_sub (sub_of t))) (get_or_from_slice_get d.members d.position d.ty d.ty d.member) at in
      let z : 0 + start ≡ start = omega arith in
      let says : sub_by_ids start d.ty ≡ s = ap (λ n. sub_by_ids n d.ty) (sym z) ∙ d.says in
      subst (λ (t : Sub ℕ). All (λ j. j < length (def_types c gs)) (refs_sub t)) says
      (subst (λ is. All (λ j. j < length (def_types c gs)) is) (sym (refs_sub-map (leads_to start) (sub_of d.ty))) (all_led start count (length (def_types c gs)) (refs_sub (sub_of d.ty)) l known))

pub ids_keep_rules_as_types : {A : Type 0} → IdsKeepRulesAsTypes A
ids_keep_rules_as_types F c gs listable one id d there =
    let ts = def_types c gs in
    subst (λ x. IsValidType F (declares gs) id ↔ IsValidType F declared x) (get_or_from_slice_get ts id d d there)
    (valid_match (declares gs) declared (type_of_id ts d) (λ i. i < length ts)
    (λ i l. types_declare_what_ids_declare c gs d listable i (type_of_id ts d i) (slice_get-get_or ts i d l))
    (λ v w x y. ids_match_as_types c gs d listable one v w x y)
    (λ a b l m. ids_are_ordered_as_types c gs d listable one a b l m)
    (λ i j l m e. one.one_id i j (type_of_id ts d i) (slice_get-get_or ts i d l) (slice_get-get_or ts j d m ∙ ap Some (sym e)))
    (λ i s e. inside gs listable c i s e)
    F id (slice_get_within ts id d there))

-- the members of a group of a list are as many in its recursive type
length-members : {A : Type 0} (c : Bool) (hs : List (List (SubType A))) (g : List (SubType A)) → length (members (tree_behind c hs g)) ≡ length g
length-members c hs g =
    let ts = def_types c hs in
    let subs = map (map_sub (resolve_listed ts)) (listed_group g) in
    ap length (members-close (start_unless c (length ts)) subs) ∙ length-map (listed_group g) (map_sub (resolve_listed ts)) ∙ length-map g listed_sub

pub groups_keep_rules_as_types : {A : Type 0} → GroupsKeepRulesAsTypes A
groups_keep_rules_as_types F c gs hs listable one k g there stand =
    let first = first_of gs k in
    let n = first_of-next gs k g there in
    let m = length-members c hs g in
    let at : (i : ℕ) → i < length g → IsValidType F (declares gs) (first + i) ↔ IsValidType F declared (record { tree = tree_behind c hs g; position = i })
    = λ i l. ids_keep_rules_as_types F c gs listable one (first + i) (record { tree = tree_behind c hs g; position = i }) (stand i l) in
    let inside : k < length gs = slice_get_within gs k g there in (
      (λ v i l.
          let here : i < length g = omega (arith, l, m) in
          (at i here).0 (v (first + i) (record { there = inside; from = omega arith; below = omega (arith, n, here) }))),
      (λ v id h.
          let i = id - first in
          let here : i < length g = omega (arith, n, h.from, h.below) in
          let same : first + i ≡ id = omega (arith, h.from) in
          subst (IsValidType F (declares gs)) same ((at i here).1 (v i (omega (arith, here, m))))),
    )

pub sub_types_match_as_types : {A : Type 0} → SubTypesMatchAsTypes A
sub_types_match_as_types c gs other listable one s t x y =
    let ts = def_types c gs in
    sub_match (declares gs) declared (type_of_id ts other) (λ i. i < length ts)
    (λ i l. types_declare_what_ids_declare c gs other listable i (type_of_id ts other i) (slice_get-get_or ts i other l))
    (λ v w h k. ids_match_as_types c gs other listable one v w h k)
    (λ a b l m. ids_are_ordered_as_types c gs other listable one a b l m)
    s t x y
