-- A type section adds its groups one by one, where each is valid and fits behind those before it.
use Rattle.std.proofs.Common.{◌≡◌, refl, sym, ap, subst, ◌∙◌, ℕ, ◌+◌, cond, leb, List, [], ◌∷◌, map, length, Option, Some, None, arith}
use Rattle.std.specs.Option.{option_and_then}
use Rattle.std.proofs.lemmas.Bool.{leb-true, le-leb}
use Rattle.std.proofs.lemmas.List.{length-map}
use Rattle.std.proofs.lemmas.Option.{same_Some}
use Rattle.wasm_spec.specs.Syntax.{Rec, map_sub, map_rec}
use Rattle.wasm_spec.specs.Values.{items_at}
use Rattle.wasm_spec.specs.BinaryTypes.{rec_at}
use Rattle.wasm_spec.specs.Closing.{positions}
use Rattle.wasm_spec.specs.Features.{Features, canonical}
use Rattle.wasm_spec.specs.GroupRules.{IsValidType}
use Rattle.wasm_spec.specs.Trees.{declared}
use Rattle.wasm_spec.proofs.LawSet.{rec_renames}
use Rattle.wasm_spec_rules.specs.FeatureFlags.{features_of}
use Rattle.wasm_spec_rules.specs.Parts.{index}
use Rattle.wasm_spec_rules.specs.Sections.{each}
use Rattle.wasm_spec_rules.specs.Limits.{most_types}
use Rattle.wasm_spec_rules.proofs.Tests.{then_some, guarded}
use Rattle.wasm_readers.specs.WrittenIndices.{written}
use Rattle.wasm_readers_errors.specs.WasmReadersFeatures.declared.features.WasmFeatures.{WasmFeatures}
use Rattle.wasm_validator_canonical.specs.Groups.{placed, AreValid}
use Rattle.wasm_spec.proofs.AcceptedSections.{length-positions}
use Rattle.wasm_validator_canonical.proofs.KeptTypes.{length_held, all_held}
use Rattle.wasm_validator_canonical.proofs.Steps.{fits_added, added_fits, written_length}
use Rattle.wasm_validator_canonical.proofs.IdMeanings.{held_stand, valid_placed}
use Rattle.wasm_validator_canonical.specs.Sections.{StandsFor}
use Rattle.wasm_validator_sections.specs.WasmValidatorChecks.Laws.{Stand}
use Rattle.wasm_validator_types.specs.Spaces.{Spaces}
use Rattle.wasm_validator_sections.specs.WasmValidatorCore.Answers.{TypesSoFar}
use Rattle.wasm_validator_sections.specs.WasmValidatorCore.Machine.{with_ids, add_group}
use Rattle.wasm_validator_sections.proofs.WasmLawsCore.AddedItems.{each_changed}
use Rattle.wasm_validator_sections.specs.Machine.{type_items}
use Rattle.wasm_validator_sections.specs.ModuleNotes.{Noted, naming}
use Rattle.wasm_validator_states.specs.ValidatorStages.{Stage, Standing, in_module, HoldsAt, HoldsValid, within, at_stage}
use Rattle.wasm_validator_states.specs.SectionLaws.{TypesHeld, FitsGroup, held_with, with_group, AddsGroups, TypesAdd}
use Rattle.wasm_validator_states.proofs.AddedTypes.{as_many_zipped, one_group, one_ends}
use Rattle.wasm_validator_states.proofs.ListGrowth.{within_some}
use Rattle.wasm_validator_sections.proofs.ItemSteps.{each_back}
use Rattle.wasm_validator_states.proofs.SectionLaws.{at_module}
use Rattle.wasm_validator_sections.proofs.SectionEntries.{limited, section_entries}
use Rattle.wasm_validator_sections.proofs.GroupGrowth.{valid_back}

module _ (features : WasmFeatures) (m : Spaces) where
  abbrev F : Features
  F = features_of features

  abbrev State : Type 0
  State = TypesSoFar × Spaces

  -- the state with these types, and a group that is added to it as it is written
  abbrev at : TypesHeld → State
  at h = (h.all, record m { types = h.ids })

  abbrev add : State → Rec ℕ → Option State
  add p g = add_group features p (map_rec written g)

  -- the types stand under their ids, and all are valid
  record IsSound (h : TypesHeld) : Type 0 where
    stand : Stand (canonical F) h.all h.ids h.types
    valid : AreValid F h.all

  sound_with : (h : TypesHeld) (g : Rec ℕ) (f : FitsGroup F h g) → IsSound h → IsSound (with_group F h g f.tree)
  sound_with h g f s = record {
    stand = held_stand F h.all h.ids h.types g f.tree s.stand;
    valid = all_held h.all h.ids (positions (placed (canonical F) (length h.all) f.tree) 0 g.types) (IsValidType F declared) (canonical F) s.valid (valid_placed F (length h.all) f.tree g.types f.valid);
  }

  as_many : (h : TypesHeld) → IsSound h → length h.ids ≡ length h.types
  as_many h s = as_many_zipped (StandsFor (canonical F) h.all) h.ids h.types s.stand

  -- one group
  record GroupFits (h : TypesHeld) (g : Rec ℕ) (q : State) : Type 0 where
    fits : FitsGroup F h g
    is : at (with_group F h g fits.tree) ≡ q

  group_from : (h : TypesHeld) → IsSound h → (g : Rec ℕ) (q : State) → add (at h) g ≡ Some q → AreValid F q.0 → GroupFits h g q
  group_from h s g q e v =
      let a = one_ends features (at h) q g e in
      let b = added_fits F h.all h.ids h.types s.stand g a.end a.ran (subst (λ (p : State). AreValid F p.0) (sym a.is) v) in
      let many = written_length F h.all h.ids (map_rec written g) a.end a.ran in
      let total = length-map g.types (map_sub written) in
      let same = as_many h s in
      let few = a.few in
      record {
        fits = record { tree = b.tree; closes = b.fits.closes; valid = b.fits.valid; few = omega (arith, few, many, total, same); room = b.fits.room };
        is = (λ i. with_ids (at h).1 (b.is i)) ∙ a.is;
      }

  group_to : (h : TypesHeld) → IsSound h → (g : Rec ℕ) (f : FitsGroup F h g) → add (at h) g ≡ Some (at (with_group F h g f.tree))
  group_to h s g f =
      let t = placed (canonical F) (length h.all) f.tree in
      let longer = length_held h.all h.ids (positions t 0 g.types) (canonical F) in
      let many = length-positions t 0 g.types in
      let same = as_many h s in
      let few = f.few in
      one_group features (at h) g (held_with F h g f.tree) (fits_added F h.all h.ids h.types s.stand g f.tree (record { room = f.room; closes = f.closes; valid = f.valid })) (omega (arith, few, longer, many, same))

  -- one after another
  record GroupsFit (h : TypesHeld) (gs : List (Rec ℕ)) (q : State) : Type 0 where
    held : TypesHeld
    added : AddsGroups F h gs held
    is : at held ≡ q
    stand : Stand (canonical F) held.all held.ids held.types

  groups_from : (gs : List (Rec ℕ)) (h : TypesHeld) → IsSound h → (q : State) → each add (at h) gs ≡ Some q → AreValid F q.0 → GroupsFit h gs q
  groups_from [] h s q e v = record { held = h; added = refl; is = same_Some (at h) q e; stand = s.stand }
  groups_from (g ∷ gs) h s q e v =
      let a = then_some (λ t. each add t gs) (add (at h) g) q e in
      let before = each_back add (λ (p : State). AreValid F p.0) (λ x y w c d. valid_back features x y (map_rec written w) c d) gs a.0 q a.2 v in
      let b = group_from h s g a.0 a.1 before in
      let c = groups_from gs (with_group F h g b.fits.tree) (sound_with h g b.fits s) q (ap (λ t. each add t gs) b.is ∙ a.2) v in
      record { held = c.held; added = (b.fits, c.added); is = c.is; stand = c.stand }

  groups_to : (gs : List (Rec ℕ)) (h k : TypesHeld) → IsSound h → AddsGroups F h gs k → (each add (at h) gs ≡ Some (at k)) × AreValid F k.all
  groups_to [] h k s a = (ap (λ (x : TypesHeld). Some (at x)) a, subst (λ (x : TypesHeld). AreValid F x.all) a s.valid)
  groups_to (g ∷ gs) h k s a =
      let r = groups_to gs (with_group F h g a.0.tree) k (sound_with h g a.0 s) a.1 in
      (ap (option_and_then (λ t. each add t gs)) (group_to h s g a.0) ∙ r.0, r.1)

-- a step within a module that gives something
within_to : (old new : Standing) (us : TypesSoFar) (m : Spaces) (n : Noted) (f : TypesSoFar × Spaces → Option (TypesSoFar × Spaces)) (p : TypesSoFar × Spaces)
    → f (us, m) ≡ Some p → new ≡ record old { stage = in_module p.0 p.1 n } → at_stage old (within (naming []) f (in_module us m n)) ≡ Some new
within_to old new us m n f p e is = ap (λ o. at_stage old (option_and_then (λ (q : TypesSoFar × Spaces). Some (in_module q.0 q.1 n)) o)) e ∙ ap Some (sym is)

pub types_add : TypesAdd
types_add old new us m n types count bytes r v =
    let F = features_of old.features in
    let h : TypesHeld = record { all = us; ids = m.types; types = types } in
    let sound : IsSound old.features m h = record { stand = r.stand; valid = subst (λ (g : Stage). HoldsAt (AreValid F) g) r.stage v } in
    let add = add_group old.features in
    let there = length m.types in
    let entries = section_entries add (map_rec written) there most_types (us, m) (rec_at index) (rec_at written) (rec_renames written index) count bytes in (
      λ e. let a = within_some old new us m n (naming []) (λ p. type_items old.features count bytes p) (sym (at_module old us m n 1 count bytes r.stage) ∙ e.0) in
          let b = then_some (limited add (map_rec written) there most_types (us, m)) (items_at (rec_at index) count bytes) a.0 (sym entries ∙ a.1) in
          let c = guarded (leb (there + length b.0) most_types) (each add (us, m) (map (map_rec written) b.0)) a.0 b.2 in
          let valid : AreValid F a.0.0 = subst HoldsValid (sym a.2) e.1 in
          let d = groups_from old.features m b.0 h sound a.0 (sym (each_changed add (map_rec written) (us, m) b.0) ∙ c.1) valid in
          record {
            groups = b.0;
            read = b.1;
            few = leb-true (there + length b.0) most_types c.0;
            held = d.held;
            added = d.added;
            after = sym a.2 ∙ (λ i. record old { stage = in_module (sym d.is i).0 (sym d.is i).1 n });
            stand = d.stand;
          },
      λ k. let ran = groups_to old.features m k.groups h k.held sound k.added in (
        at_module old us m n 1 count bytes r.stage
            ∙ within_to old new us m n (λ p. type_items old.features count bytes p) (at old.features m k.held)
            (entries
            ∙ ap (option_and_then (limited add (map_rec written) there most_types (us, m))) k.read
            ∙ ap (λ b. cond b (each add (us, m) (map (map_rec written) k.groups)) None) (le-leb (there + length k.groups) most_types k.few)
            ∙ each_changed add (map_rec written) (us, m) k.groups
            ∙ ran.0)
            k.after,
        subst HoldsValid (sym k.after) ran.1,
      ),
    )
