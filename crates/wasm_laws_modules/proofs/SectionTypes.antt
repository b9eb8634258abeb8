-- The types of a valid type section are those of a module.
use Rattle.std.proofs.Common.{◌≡◌, refl, sym, ap, subst, ◌∙◌, ℕ, ◌+◌, Bool, true, false, if◌then◌else◌, List, [], ◌∷◌, ◌++◌, map, length, slice_get, Option, Some, None, arith}
use Rattle.std.specs.Option.{option_map, option_and_then}
use Rattle.std.proofs.lemmas.Option.{none-some, same_Some}
use Rattle.wasm_spec.specs.Syntax.{Sub, Rec, map_sub}
use Rattle.wasm_spec.specs.Features.{Features, canonical}
use Rattle.wasm_spec.specs.Trees.{RecTree, TypeUse, DefType, start_of, close}
use Rattle.wasm_spec.specs.Closing.{is_closable, resolve, start_unless, closed, positions, with_group, with_groups}
use Rattle.wasm_spec.specs.TypeLaws.{HasNoRepetition}
use Rattle.wasm_spec.proofs.AcceptedSections.{valid_type_section_is_accepted}
use Rattle.wasm_spec.proofs.ReferenceNumbers.{start_of-close}
use Rattle.wasm_validator_type_groups.proofs.Places.{get-append}
use Rattle.wasm_validator_type_list.proofs.DefTypes.{from-positions}
use Rattle.wasm_laws_modules.specs.Contexts.{SectionsGiveModuleTypes}

-- the type's place is where its recursive type begins, and its position behind
record IsPlaced (place : ℕ) (d : DefType) : Type 0 where
  start : ℕ
  begins : start_of d.tree ≡ Some start
  behind : place ≡ start + d.position

abbrev ArePlaced : List DefType → Type 0
ArePlaced ts = (k : ℕ) (d : DefType) → slice_get ts k ≡ Some d → IsPlaced k d

placed_once : (ts : List DefType) → ArePlaced ts → HasNoRepetition ts
placed_once ts h = record {
  one_id = λ j k d there here.
      let a = h j d there in
      let b = h k d here in
      let same : a.start ≡ b.start = same_Some a.start b.start (sym a.begins ∙ b.begins) in
      let left = a.behind in
      let right = b.behind in
      omega (arith, left, right, same);
}

closed_begins : (b : Bool) (n : ℕ) (g : List (Sub TypeUse)) (t : RecTree) → (if b then Some (close (Some n) g) else None) ≡ Some t → start_of t ≡ Some n
closed_begins true n g t e = ap start_of (sym (same_Some (close (Some n) g) t e)) ∙ start_of-close (Some n) g
closed_begins false n g t e = absurd (none-some t e)

module _ (F : Features) (off : canonical F ≡ false) where
  begins_there : (ts : List DefType) (g : Rec ℕ) (t : RecTree) → closed F ts g ≡ Some t → start_of t ≡ Some (length ts)
  begins_there ts g t e =
      closed_begins (is_closable F (length ts) g) (length ts) (map (map_sub (resolve ts)) g.types) t
      (ap (λ (c : Bool). if is_closable F (length ts) g then Some (close (start_unless c (length ts)) (map (map_sub (resolve ts)) g.types)) else None) (sym off) ∙ e)

  with_positions : (ts : List DefType) (g : Rec ℕ) (t : RecTree) → ArePlaced ts → start_of t ≡ Some (length ts) → ArePlaced (ts ++ positions t 0 g.types)
  with_positions ts g t h b k d e =
      get-append ts (positions t 0 g.types) k d e (h k d)
      (λ j at there. subst (IsPlaced k) (sym (from-positions t g.types j d there)) (record { start = length ts; begins = b; behind = at }))

  one_placed : (ts us : List DefType) (g : Rec ℕ) (o : Option RecTree) → closed F ts g ≡ o → option_map (λ t. ts ++ positions t 0 g.types) o ≡ Some us → ArePlaced ts → ArePlaced us
  one_placed ts us g None c e h = absurd (none-some us e)
  one_placed ts us g (Some t) c e h = subst ArePlaced (same_Some (ts ++ positions t 0 g.types) us e) (with_positions ts g t h (begins_there ts g t c))

  all_from : (gs : List (Rec ℕ)) (us : List DefType) (o : Option (List DefType)) → option_and_then (λ vs. with_groups F vs gs) o ≡ Some us → ((vs : List DefType) → o ≡ Some vs → ArePlaced vs)
      → ((vs : List DefType) → with_groups F vs gs ≡ Some us → ArePlaced vs → ArePlaced us) → ArePlaced us
  all_from gs us None e h rest = absurd (none-some us e)
  all_from gs us (Some vs) e h rest = rest vs e (h vs refl)

  all_placed : (gs : List (Rec ℕ)) (ts us : List DefType) → with_groups F ts gs ≡ Some us → ArePlaced ts → ArePlaced us
  all_placed [] ts us e h = subst ArePlaced (same_Some ts us e) h
  all_placed (g ∷ gs) ts us e h =
      all_from gs us (with_group F ts g) e (λ vs f. one_placed ts vs g (closed F ts g) refl f h) (λ vs f p. all_placed gs vs us f p)

pub sections_give_module_types : SectionsGiveModuleTypes
sections_give_module_types F gs h = record {
  accepted = valid_type_section_is_accepted F gs h;
  once = λ off. placed_once h.types (all_placed F off gs [] h.types h.gives (λ k d e. absurd (none-some d e)));
}
