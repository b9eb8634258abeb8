-- What an id declares refers to ids of the list.
use Rattle.std.proofs.Common.{◌≡◌, sym, ap, subst, ◌∙◌, ℕ, ◌+◌, ◌<◌, ◌≤◌, Bool, List, [], ◌∷◌, map, length, get_or, Some, arith}
use Rattle.std.specs.List.{All}
use Rattle.std.proofs.lemmas.List.Elements.{All-head, All-tail, All-cons, All-nil}
use Rattle.std.proofs.lemmas.Option.{slice_get_within, get_or_from_slice_get}
use Rattle.wasm_spec.specs.Syntax.{Sub}
use Rattle.wasm_spec.specs.References.{refs_sub}
use Rattle.wasm_readers_types.specs.SeenTypes.{sub_of}
use Rattle.wasm_readers_types.specs.WasmReadersValues.declared.indices.UnpackedIndex.{UnpackedIndex}
use Rattle.wasm_readers_types.specs.WasmReadersValues.declared.indices.UnpackedIndex.TheVariants.{Module, RecGroup, Id}
use Rattle.wasm_readers_types.specs.declared.types.SubType.{SubType}
use Rattle.wasm_validator_type_groups.specs.Groups.{first_of}
use Rattle.wasm_validator_type_list.specs.GroupOrder.{IsKnown, AreListable}
use Rattle.wasm_validator_type_list.specs.Lookups.{leads_to}
use Rattle.wasm_validator_type_list.specs.DefTypes.{def_types}
use Rattle.wasm_validator_type_list.specs.DeclarationsById.{sub_by_ids, declares}
use Rattle.wasm_validator_type_list.proofs.IdDeclarations.{declared_by}
use Rattle.wasm_validator_type_list.proofs.Lookups.{first_of-next}
use Rattle.wasm_validator_type_list.proofs.DefTypes.{first_of-within, length-def_types}
use Rattle.wasm_spec.proofs.ClosedGroups.{refs_sub-map}

led_below : (start count end : ℕ) (r : UnpackedIndex) → start + count ≤ end → IsKnown start count r → leads_to start r < end
led_below start count end (Module i) h k = absurd k
led_below start count end (RecGroup i) h k = omega (arith, h, k)
led_below start count end (Id id) h k = omega (arith, h, k)

all_led : (start count end : ℕ) (rs : List UnpackedIndex) → start + count ≤ end → All (IsKnown start count) rs → All (λ i. i < end) (map (leads_to start) rs)
all_led start count end [] h k = All-nil (λ i. i < end)
all_led start count end (r ∷ rs) h k =
    All-cons (λ i. i < end) (leads_to start r) (map (leads_to start) rs)
    (led_below start count end r h (All-head (IsKnown start count) r rs k)) (all_led start count end rs h (All-tail (IsKnown start count) r rs k))

pub inside : {A : Type 0} (gs : List (List (SubType A))) → AreListable gs → (c : Bool) (id : ℕ) (s : Sub ℕ) → declares gs id ≡ Some s → All (λ j. j < length (def_types c gs)) (refs_sub s)
inside {A} gs listable c id s e =
    let d = declared_by gs id s e in
    let start = first_of gs d.group in
    let count = length d.members in
    let l : start + count ≤ length (def_types c gs) = omega (arith, first_of-next gs d.group d.members d.there, first_of-within gs (d.group + 1), length-def_types c gs) in
    let at : All (IsKnown start count) (refs_sub (sub_of (get_or d.members d.position d.ty))) = (listable d.group d.members d.there).known d.position d.ty (slice_get_within d.members d.position d.ty d.member) in
    let known : All (IsKnown start count) (refs_sub (sub_of d.ty)) = subst (λ (t : SubType A). All (IsKnown start count) (refs_sub (sub_of t))) (get_or_from_slice_get d.members d.position d.ty d.ty d.member) at in
    let z : 0 + start ≡ start = omega arith in
    let says : sub_by_ids start d.ty ≡ s = ap (λ n. sub_by_ids n d.ty) (sym z) ∙ d.says in
    subst (λ (t : Sub ℕ). All (λ j. j < length (def_types c gs)) (refs_sub t)) says
    (subst (λ is. All (λ j. j < length (def_types c gs)) is) (sym (refs_sub-map (leads_to start) (sub_of d.ty))) (all_led start count (length (def_types c gs)) (refs_sub (sub_of d.ty)) l known))
