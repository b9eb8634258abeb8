-- What holds of a list of types and of each front of it goes back over steps: a list of types only grows.
use Rattle.std.proofs.Common.{◌≡◌, refl, sym, ap, subst, ◌∙◌, ℕ, ◌+◌, Bool, true, false, ◌&&◌, cond, eqb, leb, List, [], ◌∷◌, ◌++◌, length, Option, Some, None}
use Rattle.std.proofs.lemmas.Option.{none-some, same_Some}
use Rattle.wasm_spec.specs.BinaryTypes.{rec_at}
use Rattle.wasm_spec_rules.specs.FeatureFlags.{features_of}
use Rattle.wasm_spec_rules.proofs.Tests.{guarded, then_some}
use Rattle.wasm_spec.specs.Framing as parts
use Rattle.wasm_spec.specs.Framing.{Piece, Version, Custom, Counted, Start, DataCount, CodeStart, CodeEntry, Unknown}
use Rattle.wasm_readers.specs.WrittenIndices.{written}
use Rattle.wasm_readers_errors.specs.WasmReadersFeatures.declared.features.WasmFeatures.{WasmFeatures}
use Rattle.wasm_validator_types.specs.Spaces.{Spaces, no_spaces}
use Rattle.wasm_validator_sections.specs.WasmValidatorCore.declared.limits.TheConstants.{MAX_TYPES}
use Rattle.wasm_validator_sections.specs.WasmValidatorCore.Answers.{TypesSoFar}
use Rattle.wasm_validator_sections.specs.WasmValidatorCore.Machine.{add_group}
use Rattle.wasm_validator_sections.specs.Sections.{read_each}
use Rattle.wasm_validator_sections.specs.Machine.{type_items, other_items, section_items, start_item, data_count_item, beside}
use Rattle.wasm_validator_sections.specs.ModuleNotes.{Noted, nothing_noted, naming, counting, noting_nothing}
use Rattle.wasm_validator_sections.specs.CodeProgress.{Started, starting, taking, bodies_left}
use Rattle.wasm_validator_states.specs.ValidatorStages.{Stage, unparsed, in_module, in_code, ended, failed, Standing, HoldsAt, within, within_all, at_stage}
use Rattle.wasm_validator_states.specs.States.{begun, code_started, body_taken, module_ended, after_piece}
use Rattle.wasm_validator_sections.specs.WasmValidatorReferences.References.{section_names}
use Rattle.wasm_validator_sections.specs.declared.code_state.TheConstants.{MAX_FUNCTION_SIZE}
use Rattle.wasm_validator_states.specs.Payloads.{after_all}
use Rattle.wasm_validator_sections.proofs.GroupGrowth.{group_back}
use Rattle.wasm_validator_sections.proofs.ItemSteps.{read_back}

-- a step within a module
pub within_some : (s t : Standing) (types : TypesSoFar) (spaces : Spaces) (more : Noted) (note : Noted → Noted) (f : TypesSoFar × Spaces → Option (TypesSoFar × Spaces)) → at_stage s (within note f (in_module types spaces more)) ≡ Some t
    → (p : TypesSoFar × Spaces) × (f (types, spaces) ≡ Some p) × (record s { stage = in_module p.0 p.1 (note more) } ≡ t)
within_some s t types spaces more note f e =
    let a = then_some (λ (h : Stage). Some (record s { stage = h })) (within note f (in_module types spaces more)) t e in
    let b = then_some (λ (p : TypesSoFar × Spaces). Some (in_module p.0 p.1 (note more))) (f (types, spaces)) a.0 a.1 in
    (b.0, b.1, ap (λ (h : Stage). record s { stage = h }) (same_Some (in_module b.0.0 b.0.1 (note more)) a.0 b.2) ∙ same_Some (record s { stage = a.0 }) t a.2)

-- a body that is taken: one was to come, and it isn't too long
body_case : (s t : Standing) (none few : Bool) (g : Stage) → at_stage s (cond none None (cond few (Some g) None)) ≡ Some t → (none ≡ false) × (few ≡ true) × (record s { stage = g } ≡ t)
body_case s t true few g e = absurd (none-some t e)
body_case s t false true g e = (refl, refl, same_Some (record s { stage = g }) t e)
body_case s t false false g e = absurd (none-some t e)

pub body_some : (s t : Standing) (bytes : List ℕ) (types : TypesSoFar) (spaces : Spaces) (more : Started) → at_stage s (body_taken bytes (in_code types spaces more)) ≡ Some t
    → (eqb (bodies_left spaces more) 0 ≡ false) × (leb (length bytes) MAX_FUNCTION_SIZE ≡ true) × (record s { stage = in_code types spaces (taking more) } ≡ t)
body_some s t bytes types spaces more e = body_case s t (eqb (bodies_left spaces more) 0) (leb (length bytes) MAX_FUNCTION_SIZE) (in_code types spaces (taking more)) e

-- a step changes the stage alone
at_only : (s t : Standing) (o : Option Stage) → at_stage s o ≡ Some t → record s { stage = t.stage } ≡ t
at_only s t o e =
    let a = then_some (λ (g : Stage). Some (record s { stage = g })) o t e in
    subst (λ (u : Standing). record s { stage = u.stage } ≡ u) (same_Some (record s { stage = a.0 }) t a.2) refl

piece_only : (s t : Standing) (p : Piece) → after_piece s p ≡ Some t → record s { stage = t.stage } ≡ t
piece_only s t (Version number kind) e = at_only s t (begun number (eqb kind 0) s.stage) e
piece_only s t (Custom name bytes) e = subst (λ (u : Standing). record s { stage = u.stage } ≡ u) (same_Some s t e) refl
piece_only s t (Counted id n bytes) e = let f = section_items s.features id n bytes in at_only s t (cond (eqb id 11) (within_all f s.stage) (within (naming (section_names id n bytes)) f s.stage)) e
piece_only s t (Start x) e = at_only s t (within noting_nothing (beside (λ us u. start_item us u x)) s.stage) e
piece_only s t (DataCount n) e = at_only s t (within (counting n) (beside (λ us u. data_count_item (features_of s.features) u n)) s.stage) e
piece_only s t (CodeStart n size) e = at_only s t (code_started s.stage) e
piece_only s t (CodeEntry bytes) e = at_only s t (body_taken bytes s.stage) e
piece_only s t (Unknown id bytes) e = absurd (none-some t e)
piece_only s t parts.End e = at_only s t (module_ended s.stage) e

-- and no payload the features
pub same_features : (s t : Standing) (p : Piece) → after_piece s p ≡ Some t → t.features ≡ s.features
same_features s t p e = ap (λ (u : Standing). u.features) (sym (piece_only s t p e))

pub all_only : (ps : List Piece) (s t : Standing) → after_all s ps ≡ Some t → record s { stage = t.stage } ≡ t
all_only [] s t e = subst (λ (u : Standing). record s { stage = u.stage } ≡ u) (same_Some s t e) refl
all_only (p ∷ ps) s t e =
    let a = then_some (λ u. after_all u ps) (after_piece s p) t e in
    let here = piece_only s a.0 p a.1 in
    (λ i. record (here i) { stage = t.stage }) ∙ all_only ps a.0 t a.2

module _ (V : TypesSoFar → Type 0) (left : (us more : TypesSoFar) → V (us ++ more) → V us) where
  abbrev Over : TypesSoFar × Spaces → Type 0
  Over p = V p.0

  abbrev At : Standing → Type 0
  At s = HoldsAt V s.stage

  module _ (features : WasmFeatures) where
    -- the list stays
    stays : (p q : TypesSoFar × Spaces) → p.0 ≡ q.0 → Over q → Over p
    stays p q e v = subst V (sym e) v

    -- sections
    types_back : (n : ℕ) (bytes : List ℕ) (p q : TypesSoFar × Spaces) → type_items features n bytes p ≡ Some q → Over q → Over p
    types_back n bytes p q e v =
        let a = guarded (leb (length p.1.types + n) MAX_TYPES) (read_each (rec_at written) (add_group features) n bytes p) q e in
        read_back (rec_at written) (add_group features) Over (group_back V left features) n bytes p q a.1 v

    pub beside_back : (f : TypesSoFar → Spaces → Option Spaces) (p q : TypesSoFar × Spaces) → beside f p ≡ Some q → Over q → Over p
    beside_back f p q e v =
        let a = then_some (λ (s : Spaces). Some (p.0, s)) (f p.0 p.1) q e in
        stays p q (ap (λ (x : TypesSoFar × Spaces). x.0) (same_Some (p.0, a.0) q a.2)) v

    section_of : (first : Bool) (id n : ℕ) (bytes : List ℕ) (p q : TypesSoFar × Spaces)
        → cond first (type_items features n bytes p) (beside (λ us. other_items (features_of features) us id n bytes) p) ≡ Some q → Over q → Over p
    section_of true id n bytes p q e v = types_back n bytes p q e v
    section_of false id n bytes p q e v = beside_back (λ us. other_items (features_of features) us id n bytes) p q e v

    pub section_back : (id n : ℕ) (bytes : List ℕ) (p q : TypesSoFar × Spaces) → section_items features id n bytes p ≡ Some q → Over q → Over p
    section_back id n bytes p q e v = section_of (eqb id 1) id n bytes p q e v

  -- calls of a validator
  within_back : (s t : Standing) (g : Stage) (note : Noted → Noted) (f : TypesSoFar × Spaces → Option (TypesSoFar × Spaces)) → ((p q : TypesSoFar × Spaces) → f p ≡ Some q → Over q → Over p)
      → at_stage s (within note f g) ≡ Some t → At t → HoldsAt V g
  within_back s t (unparsed types) note f back e v = absurd (none-some t e)
  within_back s t (in_module types spaces more) note f back e v = let a = within_some s t types spaces more note f e in back (types, spaces) a.0 a.1 (subst At (sym a.2) v)
  within_back s t (in_code types spaces more) note f back e v = absurd (none-some t e)
  within_back s t (ended types) note f back e v = absurd (none-some t e)
  within_back s t failed note f back e v = absurd (none-some t e)

  within_all_back : (s t : Standing) (g : Stage) (f : TypesSoFar × Spaces → Option (TypesSoFar × Spaces)) → ((p q : TypesSoFar × Spaces) → f p ≡ Some q → Over q → Over p)
      → at_stage s (within_all f g) ≡ Some t → At t → HoldsAt V g
  within_all_back s t (unparsed types) f back e v = absurd (none-some t e)
  within_all_back s t (in_module types spaces more) f back e v = within_back s t (in_module types spaces more) noting_nothing f back e v
  within_all_back s t (in_code types spaces more) f back e v =
      let a = then_some (λ (h : Stage). Some (record s { stage = h })) (within_all f (in_code types spaces more)) t e in
      let b = then_some (λ (p : TypesSoFar × Spaces). Some (in_code p.0 p.1 more)) (f (types, spaces)) a.0 a.1 in
      let there : record s { stage = in_code b.0.0 b.0.1 more } ≡ t = ap (λ (h : Stage). record s { stage = h }) (same_Some (in_code b.0.0 b.0.1 more) a.0 b.2) ∙ same_Some (record s { stage = a.0 }) t a.2 in
      back (types, spaces) b.0 b.1 (subst At (sym there) v)
  within_all_back s t (ended types) f back e v = absurd (none-some t e)
  within_all_back s t failed f back e v = absurd (none-some t e)

  section_step_back : (b : Bool) (s t : Standing) (g : Stage) (note : Noted → Noted) (f : TypesSoFar × Spaces → Option (TypesSoFar × Spaces)) → ((p q : TypesSoFar × Spaces) → f p ≡ Some q → Over q → Over p)
      → at_stage s (cond b (within_all f g) (within note f g)) ≡ Some t → At t → HoldsAt V g
  section_step_back true s t g note f back e v = within_all_back s t g f back e v
  section_step_back false s t g note f back e v = within_back s t g note f back e v

  code_back : (s t : Standing) (g : Stage) → at_stage s (code_started g) ≡ Some t → At t → HoldsAt V g
  code_back s t (unparsed types) e v = absurd (none-some t e)
  code_back s t (in_module types spaces more) e v = subst At (sym (same_Some (record s { stage = in_code types spaces (starting types spaces more) }) t e)) v
  code_back s t (in_code types spaces more) e v = absurd (none-some t e)
  code_back s t (ended types) e v = absurd (none-some t e)
  code_back s t failed e v = absurd (none-some t e)

  body_back : (s t : Standing) (bytes : List ℕ) (g : Stage) → at_stage s (body_taken bytes g) ≡ Some t → At t → HoldsAt V g
  body_back s t bytes (unparsed types) e v = absurd (none-some t e)
  body_back s t bytes (in_module types spaces more) e v = absurd (none-some t e)
  body_back s t bytes (in_code types spaces more) e v = subst At (sym (body_some s t bytes types spaces more e).2) v
  body_back s t bytes (ended types) e v = absurd (none-some t e)
  body_back s t bytes failed e v = absurd (none-some t e)

  version_back : (s t : Standing) (number : ℕ) (b : Bool) (g : Stage) → at_stage s (begun number b g) ≡ Some t → At t → HoldsAt V g
  version_back s t number b (unparsed types) e v =
      let a = then_some (λ (h : Stage). Some (record s { stage = h })) (begun number b (unparsed types)) t e in
      let c = guarded (eqb number 1 && b) (Some (in_module types no_spaces nothing_noted)) a.0 a.1 in
      let there : record s { stage = in_module types no_spaces nothing_noted } ≡ t = ap (λ (h : Stage). record s { stage = h }) (same_Some (in_module types no_spaces nothing_noted) a.0 c.1) ∙ same_Some (record s { stage = a.0 }) t a.2 in
      subst At (sym there) v
  version_back s t number b (in_module types spaces more) e v = absurd (none-some t e)
  version_back s t number b (in_code types spaces more) e v = absurd (none-some t e)
  version_back s t number b (ended types) e v = absurd (none-some t e)
  version_back s t number b failed e v = absurd (none-some t e)

  end_back : (s t : Standing) (g : Stage) → at_stage s (module_ended g) ≡ Some t → At t → HoldsAt V g
  end_back s t (unparsed types) e v = absurd (none-some t e)
  end_back s t (in_module types spaces more) e v = subst At (sym (same_Some (record s { stage = ended types }) t e)) v
  end_back s t (in_code types spaces more) e v = subst At (sym (same_Some (record s { stage = ended types }) t e)) v
  end_back s t (ended types) e v = absurd (none-some t e)
  end_back s t failed e v = absurd (none-some t e)

  pub piece_back : (s t : Standing) (p : Piece) → after_piece s p ≡ Some t → At t → At s
  piece_back s t (Version number kind) e v = version_back s t number (eqb kind 0) s.stage e v
  piece_back s t (Custom name bytes) e v = subst At (sym (same_Some s t e)) v
  piece_back s t (Counted id n bytes) e v = section_step_back (eqb id 11) s t s.stage (naming (section_names id n bytes)) (section_items s.features id n bytes) (section_back s.features id n bytes) e v
  piece_back s t (Start x) e v = within_back s t s.stage noting_nothing (beside (λ us u. start_item us u x)) (beside_back s.features (λ us u. start_item us u x)) e v
  piece_back s t (DataCount n) e v = within_back s t s.stage (counting n) (beside (λ us u. data_count_item (features_of s.features) u n)) (beside_back s.features (λ us u. data_count_item (features_of s.features) u n)) e v
  piece_back s t (CodeStart n size) e v = code_back s t s.stage e v
  piece_back s t (CodeEntry bytes) e v = body_back s t bytes s.stage e v
  piece_back s t (Unknown id bytes) e v = absurd (none-some t e)
  piece_back s t parts.End e v = end_back s t s.stage e v

  pub all_back : (ps : List Piece) (s t : Standing) → after_all s ps ≡ Some t → At t → At s
  all_back [] s t e v = subst At (sym (same_Some s t e)) v
  all_back (p ∷ ps) s t e v =
      let a = then_some (λ u. after_all u ps) (after_piece s p) t e in
      piece_back s a.0 p a.1 (all_back ps a.0 t a.2 v)
