-- Each section adds its items behind the lists that a module has.
use Rattle.std.proofs.Common.{◌≡◌, refl, sym, ap, ◌∙◌, ℕ, ◌+◌, ◌≤◌, Bool, true, false, cond, leb, List, [], ◌∷◌, ◌++◌, map, length, Option, Some, None, arith, append_assoc, append-nil, length-append}
use Rattle.std.specs.Option.{option_and_then}
use Rattle.std.specs.List.{All}
use Rattle.std.proofs.lemmas.Bool.{leb-true, le-leb}
use Rattle.std.proofs.lemmas.Option.{none-some, same_Some}
use Rattle.wasm_spec.specs.Values.{u32_at, items_at}
use Rattle.wasm_spec.specs.Syntax.{Memory}
use Rattle.wasm_spec.specs.BinaryTypes.{memory_at, tag_at}
use Rattle.wasm_spec.specs.Features.{Features, canonical}
use Rattle.wasm_spec.specs.Trees.{DefType}
use Rattle.wasm_spec_rules.specs.FeatureFlags.{features_of}
use Rattle.wasm_spec_rules.specs.Sections.{each}
use Rattle.wasm_spec_rules.specs.IndexSpaces.{IsFunctionType}
use Rattle.wasm_spec_rules.specs.ItemRules.{IsValidMemory, IsValidTag}
use Rattle.wasm_spec_rules.specs.Limits.{most_functions, most_memories, most_tags}
use Rattle.wasm_spec_rules.proofs.Tests.{then_some, guarded}
use Rattle.wasm_spec_rules.proofs.Verdicts.{Verdict, verdict_some, verdict_yes}
use Rattle.wasm_validator_canonical.specs.Groups.{types_at}
use Rattle.wasm_validator_sections.specs.WasmValidatorChecks.Items.{is_function, is_valid_memory, is_valid_tag}
use Rattle.wasm_validator_sections.specs.WasmValidatorChecks.Laws.{Stand}
use Rattle.wasm_validator_sections.proofs.WasmValidatorChecks.ItemTests.{functions_are_decided, memories_are_decided, tags_are_decided}
use Rattle.wasm_validator_types.specs.Spaces.{Spaces}
use Rattle.wasm_validator_sections.specs.WasmValidatorCore.Answers.{TypesSoFar}
use Rattle.wasm_validator_sections.specs.WasmValidatorCore.Items.{add_function, add_memory, add_tag}
use Rattle.wasm_validator_sections.proofs.WasmLawsCore.AddedItems.{of_each, each_changed, IsStep, step_of, items_verdict}
use Rattle.wasm_validator_sections.specs.Sections.{read_section}
use Rattle.wasm_validator_sections.specs.Machine.{section_items}
use Rattle.wasm_validator_sections.specs.ModuleNotes.{Noted}
use Rattle.wasm_validator_states.specs.ValidatorStages.{Stage, Standing, in_module, at_stage}
use Rattle.wasm_validator_states.specs.States.{within_by, after_section}
use Rattle.wasm_validator_sections.specs.WasmValidatorReferences.References.{section_names}
use Rattle.wasm_validator_states.specs.SectionLaws.{HasAdded, FunctionsAdd, MemoriesAdd, TagsAdd}
use Rattle.wasm_validator_sections.proofs.SectionEntries.{Renames, limited, section_entries, renames_nothing, same_item}

-- items that are read and added behind lists
module _ {V W : Type 0} (f : V → W) (reads : List ℕ → Option (V × List ℕ)) (renamed : List ℕ → Option (W × List ℕ)) (renames : Renames f reads renamed)
    (add : Spaces → W → Option Spaces) (P : V → Type 0) (at : List V → Spaces) (there most : ℕ) (steps : (v : V) → IsStep P (λ s x. add s (f x)) at there most v) where
  abbrev add_as : Spaces → V → Option Spaces
  add_as s v = add s (f v)

  pub record ItemsAre (n : ℕ) (bytes : List ℕ) (t : Spaces) : Type 0 where
    pub items : List V
    pub read : items_at reads n bytes ≡ Some items
    pub rules : All P items
    pub few : there + length items ≤ most
    pub is : at items ≡ t

  verdict : (xs : List V) → there + length xs ≤ most → Verdict (All P xs × (there + length {A = V} [] + length xs ≤ most)) (each add_as (at []) xs) (at xs)
  verdict xs few = items_verdict P add_as at there most xs (of_each (IsStep P add_as at there most) xs steps) [] (omega (arith, few))

  items_from : (n : ℕ) (bytes : List ℕ) (t : Spaces) → read_section renamed add there most n bytes (at []) ≡ Some t → ItemsAre n bytes t
  items_from n bytes t e =
      let a = then_some (limited add f there most (at [])) (items_at reads n bytes) t (sym (section_entries add f there most (at []) reads renamed renames n bytes) ∙ e) in
      let b = guarded (leb (there + length a.0) most) (each add (at []) (map f a.0)) t a.2 in
      let few = leb-true (there + length a.0) most b.0 in
      let r = verdict_some (each add_as (at []) a.0) (at a.0) t (verdict a.0 few) (sym (each_changed add f (at []) a.0) ∙ b.1) in
      record { items = a.0; read = a.1; rules = r.0.0; few = few; is = r.1 }

  items_to : (n : ℕ) (bytes : List ℕ) (t : Spaces) → ItemsAre n bytes t → read_section renamed add there most n bytes (at []) ≡ Some t
  items_to n bytes t h =
      let few = h.few in
      section_entries add f there most (at []) reads renamed renames n bytes
      ∙ ap (option_and_then (limited add f there most (at []))) h.read
      ∙ ap (λ b. cond b (each add (at []) (map f h.items)) None) (le-leb (there + length h.items) most few)
      ∙ each_changed add f (at []) h.items
      ∙ verdict_yes (each add_as (at []) h.items) (at h.items) (verdict h.items few) (h.rules, omega (arith, few))
      ∙ ap Some h.is

-- a section within a module, by what its items make of the lists
module _ (s new : Standing) (us : TypesSoFar) (n : Noted) where
  abbrev pub moved : Option Spaces → Option Standing
  moved o = option_and_then (λ (g : Stage). Some (record s { stage = g })) (option_and_then (λ (p : TypesSoFar × Spaces). Some (in_module p.0 p.1 n)) (option_and_then (λ (t : Spaces). Some (us, t)) o))

  pub moved_from : (o : Option Spaces) → moved o ≡ Some new → (t : Spaces) × (o ≡ Some t) × (new ≡ record s { stage = in_module us t n })
  moved_from None e = absurd (none-some new e)
  moved_from (Some t) e = (t, refl, sym (same_Some (record s { stage = in_module us t n }) new e))

  pub moved_to : (o : Option Spaces) (t : Spaces) → o ≡ Some t → new ≡ record s { stage = in_module us t n } → moved o ≡ Some new
  moved_to o t e is = ap moved e ∙ ap Some (sym is)

  module _ {V W : Type 0} (f : V → W) (reads : List ℕ → Option (V × List ℕ)) (renamed : List ℕ → Option (W × List ℕ)) (renames : Renames f reads renamed)
      (add : Spaces → W → Option Spaces) (P : V → Type 0) (at : List V → Spaces) (there most : ℕ) (steps : (v : V) → IsStep P (λ t x. add t (f x)) at there most v) (m : Spaces) (none : at [] ≡ m) (count : ℕ) (bytes : List ℕ) where
    abbrev section : Spaces → Option Spaces
    section t = read_section renamed add there most count bytes t

    pub added_from : moved (section m) ≡ Some new → HasAdded reads P there most at s new us n count bytes
    added_from e =
        let a = moved_from (section m) e in
        let i = items_from f reads renamed renames add P at there most steps count bytes a.0 (ap section none ∙ a.1) in
        record { items = i.items; read = i.read; rules = i.rules; few = i.few; after = a.2 ∙ (λ k. record s { stage = in_module us (sym i.is k) n }) }

    pub added_to : HasAdded reads P there most at s new us n count bytes → moved (section m) ≡ Some new
    added_to h =
        moved_to (section m) (at h.items)
        (ap section (sym none) ∙ items_to f reads renamed renames add P at there most steps count bytes (at h.items) (record { items = h.items; read = h.read; rules = h.rules; few = h.few; is = refl }))
        h.after

-- the section of a standing
pub at_module : (old : Standing) (us : TypesSoFar) (m : Spaces) (n : Noted) (id count : ℕ) (bytes : List ℕ) → old.stage ≡ in_module us m n
    → after_section old id count bytes ≡ at_stage old (within_by id (section_names id count bytes) (section_items old.features id count bytes) (in_module us m n))
at_module old us m n id count bytes e = ap (λ g. at_stage old (within_by id (section_names id count bytes) (section_items old.features id count bytes) g)) e

-- functions
module _ (F : Features) (us : TypesSoFar) (m : Spaces) (types : List DefType) (stand : Stand (canonical F) us m.types types) where
  abbrev with_functions : List ℕ → Spaces
  with_functions xs = record m { functions = m.functions ++ xs }

  abbrev with_memories : List Memory → Spaces
  with_memories ms = record m { memories = m.memories ++ ms }

  abbrev with_tags : List ℕ → Spaces
  with_tags xs = record m { tags = m.tags ++ xs }

  function_step : (x : ℕ) → IsStep (IsFunctionType types) (λ t y. add_function us t (same_item y)) with_functions (length m.functions) most_functions x
  function_step x =
      let test = is_function (types_at us m.types) x in
      step_of (IsFunctionType types) (λ t y. add_function us t (same_item y)) with_functions (length m.functions) most_functions x test (functions_are_decided (canonical F) us m.types types stand x)
      (λ acc. λ i. cond test (cond (leb (length-append m.functions acc i + 1) most_functions) (Some (record m { functions = append_assoc m.functions acc (x ∷ []) i })) None) None)

  memory_step : (x : Memory) → IsStep (IsValidMemory F) (λ t y. add_memory F t (same_item y)) with_memories (length m.memories) (most_memories F) x
  memory_step x =
      let test = is_valid_memory F x in
      step_of (IsValidMemory F) (λ t y. add_memory F t (same_item y)) with_memories (length m.memories) (most_memories F) x test (memories_are_decided F x)
      (λ acc. λ i. cond test (cond (leb (length-append m.memories acc i + 1) (most_memories F)) (Some (record m { memories = append_assoc m.memories acc (x ∷ []) i })) None) None)

  tag_step : (x : ℕ) → IsStep (IsValidTag F types) (λ t y. add_tag F us t (same_item y)) with_tags (length m.tags) most_tags x
  tag_step x =
      let test = is_valid_tag F (types_at us m.types) x in
      step_of (IsValidTag F types) (λ t y. add_tag F us t (same_item y)) with_tags (length m.tags) most_tags x test (tags_are_decided F (canonical F) us m.types types stand x)
      (λ acc. λ i. cond test (cond (leb (length-append m.tags acc i + 1) most_tags) (Some (record m { tags = append_assoc m.tags acc (x ∷ []) i })) None) None)

  no_functions : with_functions [] ≡ m
  no_functions = λ i. record m { functions = append-nil m.functions i }

  no_memories : with_memories [] ≡ m
  no_memories = λ i. record m { memories = append-nil m.memories i }

  no_tags : with_tags [] ≡ m
  no_tags = λ i. record m { tags = append-nil m.tags i }

pub functions_add : FunctionsAdd
functions_add old new us m n types count bytes r =
    let F = features_of old.features in
    let steps = function_step F us m types r.stand in
    let none = no_functions F us m types r.stand in (
      λ e. added_from old new us n same_item u32_at u32_at (renames_nothing u32_at) (add_function us) (IsFunctionType types) (λ xs. record m { functions = m.functions ++ xs }) (length m.functions) most_functions steps m none count bytes (sym (at_module old us m n 3 count bytes r.stage) ∙ e),
      λ h. at_module old us m n 3 count bytes r.stage ∙ added_to old new us n same_item u32_at u32_at (renames_nothing u32_at) (add_function us) (IsFunctionType types) (λ xs. record m { functions = m.functions ++ xs }) (length m.functions) most_functions steps m none count bytes h,
    )

pub memories_add : MemoriesAdd
memories_add old new us m n types count bytes r =
    let F = features_of old.features in
    let steps = memory_step F us m types r.stand in
    let none = no_memories F us m types r.stand in (
      λ e. added_from old new us n same_item memory_at memory_at (renames_nothing memory_at) (add_memory F) (IsValidMemory F) (λ ms. record m { memories = m.memories ++ ms }) (length m.memories) (most_memories F) steps m none count bytes (sym (at_module old us m n 5 count bytes r.stage) ∙ e),
      λ h. at_module old us m n 5 count bytes r.stage ∙ added_to old new us n same_item memory_at memory_at (renames_nothing memory_at) (add_memory F) (IsValidMemory F) (λ ms. record m { memories = m.memories ++ ms }) (length m.memories) (most_memories F) steps m none count bytes h,
    )

-- a section under a test
tested : (old new : Standing) (us : TypesSoFar) (n : Noted) (b : Bool) (o : Option Spaces) → moved old new us n (cond b o None) ≡ Some new → (b ≡ true) × (moved old new us n o ≡ Some new)
tested old new us n true o e = (refl, e)
tested old new us n false o e = absurd (none-some new e)

pub tags_add : TagsAdd
tags_add old new us m n types count bytes r =
    let F = features_of old.features in
    let steps = tag_step F us m types r.stand in
    let none = no_tags F us m types r.stand in
    let o = read_section tag_at (add_tag F us) (length m.tags) most_tags count bytes m in (
      λ e. let a = tested old new us n F.exceptions o (sym (at_module old us m n 13 count bytes r.stage) ∙ e) in
          (a.0, added_from old new us n same_item tag_at tag_at (renames_nothing tag_at) (add_tag F us) (IsValidTag F types) (λ xs. record m { tags = m.tags ++ xs }) (length m.tags) most_tags steps m none count bytes a.1),
      λ h. at_module old us m n 13 count bytes r.stage ∙ ap (λ b. moved old new us n (cond b o None)) h.0
          ∙ added_to old new us n same_item tag_at tag_at (renames_nothing tag_at) (add_tag F us) (IsValidTag F types) (λ xs. record m { tags = m.tags ++ xs }) (length m.tags) most_tags steps m none count bytes h.1,
    )
