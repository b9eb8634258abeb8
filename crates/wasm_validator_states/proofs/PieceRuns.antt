-- A validator's run over the pieces between the header and the end, and the machine's; and the bodies that it hands out.
use Rattle.std.proofs.Common.{◌≡◌, refl, sym, ap, subst, ◌∙◌, inl, inr, ℕ, suc, ◌≤◌, Bool, true, false, cond, eqb, leb, List, [], ◌∷◌, ◌++◌, length, slice_get, Option, Some, None, arith}
use Rattle.std.specs.Option.{option_and_then}
use Rattle.std.specs.List.{list_all, flat_map}
use Rattle.std.proofs.lemmas.Bool.{eq-eqb, eqb-true, ne_eqb, leb-true, le-leb, and_from}
use Rattle.std.proofs.lemmas.List.Elements.{All-nil, All-cons, All-head, All-tail}
use Rattle.std.proofs.lemmas.Option.{same_Some}
use Rattle.wasm_spec.specs.Framing as parts
use Rattle.wasm_spec.specs.Framing.{Piece, Version, Custom, Counted, Start, DataCount, CodeStart, CodeEntry, Unknown, place}
use Rattle.wasm_spec_rules.specs.FeatureFlags.{features_of}
use Rattle.wasm_spec_rules.specs.Parts.{bodies_of}
use Rattle.wasm_spec_rules.specs.Sections.{each, rank_of_section}
use Rattle.wasm_spec_rules.proofs.FramedOrder.{AreInner}
use Rattle.wasm_spec_rules.proofs.Tests.{truth, when, unless, then_some}
use Rattle.wasm_readers_errors.specs.WasmReadersFeatures.declared.features.WasmFeatures.{WasmFeatures}
use Rattle.wasm_validator_sections.specs.WasmValidatorReferences.References.{section_names}
use Rattle.wasm_validator_types.specs.Spaces.{Spaces}
use Rattle.wasm_validator_sections.specs.WasmValidatorCore.Answers.{TypesSoFar}
use Rattle.wasm_validator_sections.specs.Bodies.{expected_bodies}
use Rattle.wasm_validator_sections.specs.declared.code_state.TheConstants.{MAX_FUNCTION_SIZE}
use Rattle.wasm_validator_sections.specs.Machine.{section_items, start_item, data_count_item, beside}
use Rattle.wasm_validator_sections.specs.ModuleNotes.{Noted, naming, counting}
use Rattle.wasm_validator_sections.specs.CodeProgress.{Started, starting, taking, bodies_left}
use Rattle.wasm_validator_states.specs.ValidatorStages.{Stage, Standing, in_module, in_code, ended, shown_at, within, within_all, at_stage}
use Rattle.wasm_validator_states.specs.States.{BodyToValidate, next_function, body_with, handed, after_piece}
use Rattle.wasm_validator_states.specs.Payloads.{after_all, handed_behind, all_handed}
use Rattle.wasm_validator_states.proofs.CodeOrder.{IsLate, InOrder, HasStarted}
use Rattle.wasm_validator_states.proofs.ListGrowth.{body_some}
use Rattle.wasm_validator_states.proofs.KnownSections.{section_known}
use Rattle.wasm_validator_states.proofs.ModuleRun.{is_known_section, is_part, section_case, step}
use Rattle.wasm_validator_states.proofs.TableSteps.{data_stays}
use Rattle.wasm_validator_states.proofs.ValidRules.{AreSmall}

-- a validator in a module, before the start of its code or behind it
pub data Place : Type 0 where
  before : Noted → Place
  behind : Started → Place

abbrev pub stage_in : Place → TypesSoFar × Spaces → Stage
stage_in (before n) p = in_module p.0 p.1 n
stage_in (behind c) p = in_code p.0 p.1 c

abbrev pub at : ℕ → WasmFeatures → Place → TypesSoFar × Spaces → Standing
at id features place p = record { id = id; features = features; stage = stage_in place p }

pub shown_in : (place : Place) (p : TypesSoFar × Spaces) → shown_at (stage_in place p) ≡ Some p
shown_in (before n) p = refl
shown_in (behind c) p = refl

-- what is noted behind a piece, and behind all of them
abbrev pub noted_by : Noted → Piece → Noted
noted_by n (Version number kind) = n
noted_by n (Custom name bytes) = n
noted_by n (Counted id count bytes) = naming (section_names id count bytes) n
noted_by n (Start x) = n
noted_by n (DataCount count) = counting count n
noted_by n (CodeStart count size) = n
noted_by n (CodeEntry bytes) = n
noted_by n (Unknown id bytes) = n
noted_by n parts.End = n

abbrev pub noted_all : Noted → List Piece → Noted
noted_all n [] = n
noted_all n (p ∷ ps) = noted_all (noted_by n p) ps

-- these bodies, taken one after another, and how many are taken then
abbrev pub bodies_from : WasmFeatures → Spaces → Started → List (List ℕ) → List BodyToValidate
bodies_from features s c [] = []
bodies_from features s c (b ∷ bs) = body_with features c.context (next_function s c) b (slice_get s.functions (next_function s c)) ++ bodies_from features s (taking c) bs

abbrev pub taking_all : Started → List (List ℕ) → Started
taking_all c [] = c
taking_all c (b ∷ bs) = taking_all (taking c) bs

-- data segments name no functions
data_names : (id count : ℕ) (bytes : List ℕ) (n : Noted) → id ≡ 11 → naming (section_names id count bytes) n ≡ n
data_names id count bytes n e = ap (λ k. naming (section_names k count bytes) n) e

module _ (id : ℕ) (features : WasmFeatures) where
  -- the end
  pub ends_in : (place : Place) (p : TypesSoFar × Spaces) → after_all (at id features place p) (parts.End ∷ []) ≡ Some (record { id = id; features = features; stage = ended p.0 })
  ends_in (before n) p = refl
  ends_in (behind c) p = refl

  pub ends_handed : (place : Place) (p : TypesSoFar × Spaces) → all_handed (at id features place p) (parts.End ∷ []) ≡ []
  ends_handed (before n) p = refl
  ends_handed (behind c) p = refl

  -- another state of the lists at the same place
  abbrev lifted : Place → Standing → Option (TypesSoFar × Spaces) → Option Standing
  lifted place s o = at_stage s (option_and_then (λ (q : TypesSoFar × Spaces). Some (stage_in place q)) o)

  took : (place : Place) (s t : Standing) (o : Option (TypesSoFar × Spaces)) → lifted place s o ≡ Some t → (q : TypesSoFar × Spaces) × (o ≡ Some q) × (record s { stage = stage_in place q } ≡ t)
  took place s t o e =
      let a = then_some (λ (g : Stage). Some (record s { stage = g })) (option_and_then (λ (q : TypesSoFar × Spaces). Some (stage_in place q)) o) t e in
      let b = then_some (λ (q : TypesSoFar × Spaces). Some (stage_in place q)) o a.0 a.1 in
      (b.0, b.1, ap (λ (g : Stage). record s { stage = g }) (same_Some (stage_in place b.0) a.0 b.2) ∙ same_Some (record s { stage = a.0 }) t a.2)

  -- before the start of the code it doesn't matter which section may come behind it
  either_stage : (b : Bool) (k count : ℕ) (bytes : List ℕ) (n : Noted) (p : TypesSoFar × Spaces) (f : TypesSoFar × Spaces → Option (TypesSoFar × Spaces)) → eqb k 11 ≡ b
      → cond b (within_all f (in_module p.0 p.1 n)) (within (naming (section_names k count bytes)) f (in_module p.0 p.1 n)) ≡ within (naming (section_names k count bytes)) f (in_module p.0 p.1 n)
  either_stage true k count bytes n p f e = ap (λ (m : Noted). option_and_then (λ (q : TypesSoFar × Spaces). Some (in_module q.0 q.1 m)) (f p)) (sym (data_names k count bytes n (eqb-true k 11 e)))
  either_stage false k count bytes n p f e = refl

  -- what pieces hand out behind the first
  handed_on : (s u : Standing) (x : Piece) (ps : List Piece) (bs : List BodyToValidate) → after_piece s x ≡ Some u → all_handed u ps ≡ bs → all_handed s (x ∷ ps) ≡ handed s x ++ bs
  handed_on s u x ps bs e h = ap (λ o. handed s x ++ handed_behind (λ t. all_handed t ps) o) e ∙ ap (λ ys. handed s x ++ ys) h

  -- Behind the start of the code pieces leave the lists as they are, and name no functions; they are bodies, which are handed out in turn.
  pub record WentBehind (c : Started) (p : TypesSoFar × Spaces) (ps : List Piece) (t : Standing) : Type 0 where
    pub there : at id features (behind (taking_all c (flat_map bodies_of ps))) p ≡ t
    pub ran : each (step features) p ps ≡ Some p
    pub known : list_all is_part ps ≡ true
    pub small : AreSmall (flat_map bodies_of ps)
    pub hands : all_handed (at id features (behind c) p) ps ≡ bodies_from features p.1 c (flat_map bodies_of ps)
    pub quiet : (n : Noted) → noted_all n ps ≡ n

  -- one piece that leaves all as it is, and then others
  pass_behind : (c : Started) (p : TypesSoFar × Spaces) (x : Piece) (ps : List Piece) (t : Standing)
      → bodies_of x ≡ [] → step features p x ≡ Some p → is_part x ≡ true → handed (at id features (behind c) p) x ≡ [] → ((n : Noted) → noted_by n x ≡ n)
      → after_piece (at id features (behind c) p) x ≡ Some (at id features (behind c) p) → WentBehind c p ps t → WentBehind c p (x ∷ ps) t
  pass_behind c p x ps t none stays known nothing quiet e r =
      let same : flat_map bodies_of ps ≡ flat_map bodies_of (x ∷ ps) = ap (λ bs. bs ++ flat_map bodies_of ps) (sym none) in
      record {
        there = ap (λ bs. at id features (behind (taking_all c bs)) p) (sym same) ∙ r.there;
        ran = ap (option_and_then (λ u. each (step features) u ps)) stays ∙ r.ran;
        known = and_from (is_part x) (list_all is_part ps) known r.known;
        small = subst AreSmall same r.small;
        hands = handed_on (at id features (behind c) p) (at id features (behind c) p) x ps (bodies_from features p.1 c (flat_map bodies_of ps)) e r.hands
            ∙ ap (λ ys. ys ++ bodies_from features p.1 c (flat_map bodies_of ps)) nothing ∙ ap (bodies_from features p.1 c) same;
        quiet = λ n. ap (λ m. noted_all m ps) (quiet n) ∙ r.quiet n;
      }

  -- a data section
  data_behind : (c : Started) (p : TypesSoFar × Spaces) (k n : ℕ) (bytes : List ℕ) (t : Standing) → after_piece (at id features (behind c) p) (Counted k n bytes) ≡ Some t
      → (k ≡ 11) × (section_items features k n bytes p ≡ Some p) × (at id features (behind c) p ≡ t)
  data_behind c p k n bytes t e =
      let f = section_items features k n bytes in
      let s = at id features (behind c) p in
      let note = naming (section_names k n bytes) in
      elim (truth (eqb k 11)) [
        | inl a ↦
            let h = took (behind c) s t (f p) (sym (ap (at_stage s) (when (eqb k 11) (within_all f (in_code p.0 p.1 c)) (within note f (in_code p.0 p.1 c)) a)) ∙ e) in
            let is = eqb-true k 11 a in
            let same = data_stays features k n bytes p h.0 is h.1 in
            (is, h.1 ∙ ap Some (sym same), ap (at id features (behind c)) same ∙ h.2)
        | inr a ↦ absurd (let none = sym (ap (at_stage s) (unless (eqb k 11) (within_all f (in_code p.0 p.1 c)) (within note f (in_code p.0 p.1 c)) a)) ∙ e in cc)
      ]

  pub went_behind : (ps : List Piece) (c : Started) (p : TypesSoFar × Spaces) (t : Standing) → AreInner ps → after_all (at id features (behind c) p) ps ≡ Some t → WentBehind c p ps t
  went_behind [] c p t i e = record {
    there = same_Some (at id features (behind c) p) t e;
    ran = refl;
    known = refl;
    small = All-nil (λ (b : List ℕ). length b ≤ MAX_FUNCTION_SIZE);
    hands = refl;
    quiet = λ n. refl;
  }
  went_behind (Version number kind ∷ ps) c p t i e = absurd i.0
  went_behind (Custom name bytes ∷ ps) c p t i e = pass_behind c p (Custom name bytes) ps t refl refl refl refl (λ n. refl) refl (went_behind ps c p t i.1 e)
  went_behind (Counted k n bytes ∷ ps) c p t i e =
      let s = at id features (behind c) p in
      let a = then_some (λ u. after_all u ps) (after_piece s (Counted k n bytes)) t e in
      let d = data_behind c p k n bytes a.0 a.1 in
      pass_behind c p (Counted k n bytes) ps t refl d.1 (section_known features p p k n bytes d.1) refl (λ m. data_names k n bytes m d.0) (a.1 ∙ ap Some (sym d.2))
      (went_behind ps c p t i.1 (ap (λ u. after_all u ps) d.2 ∙ a.2))
  went_behind (Start x ∷ ps) c p t i e = absurd cc
  went_behind (DataCount n ∷ ps) c p t i e = absurd cc
  went_behind (CodeStart n size ∷ ps) c p t i e = absurd cc
  went_behind (CodeEntry bytes ∷ ps) c p t i e =
      let s = at id features (behind c) p in
      let a = then_some (λ u. after_all u ps) (after_piece s (CodeEntry bytes)) t e in
      let b = body_some s a.0 bytes p.0 p.1 c a.1 in
      let r = went_behind ps (taking c) p t i.1 (ap (λ u. after_all u ps) b.2 ∙ a.2) in
      record {
        there = r.there;
        ran = r.ran;
        known = r.known;
        small = All-cons (λ (b : List ℕ). length b ≤ MAX_FUNCTION_SIZE) bytes (flat_map bodies_of ps) (leb-true (length bytes) MAX_FUNCTION_SIZE b.1) r.small;
        hands = handed_on s (at id features (behind (taking c)) p) (CodeEntry bytes) ps (bodies_from features p.1 (taking c) (flat_map bodies_of ps)) (a.1 ∙ ap Some (sym b.2)) r.hands;
        quiet = r.quiet;
      }
  went_behind (Unknown k bytes ∷ ps) c p t i e = absurd cc
  went_behind (parts.End ∷ ps) c p t i e = absurd i.0

  -- All steps from a place before the start of the code. The bodies are handed out over the lists as they are at the end.
  pub record Went (n : Noted) (p : TypesSoFar × Spaces) (ps : List Piece) (t : Standing) : Type 0 where
    pub last : Place
    pub q : TypesSoFar × Spaces
    pub there : at id features last q ≡ t
    pub ran : each (step features) p ps ≡ Some q
    pub known : list_all is_part ps ≡ true
    pub small : AreSmall (flat_map bodies_of ps)
    pub hands : all_handed (at id features (before n) p) ps ≡ bodies_from features q.1 (starting q.0 q.1 (noted_all n ps)) (flat_map bodies_of ps)

  -- one piece that holds no body, and then others
  onward_before : (n m : Noted) (p r : TypesSoFar × Spaces) (x : Piece) (ps : List Piece) (u t : Standing)
      → bodies_of x ≡ [] → step features p x ≡ Some r → is_part x ≡ true → handed (at id features (before n) p) x ≡ [] → noted_by n x ≡ m
      → after_piece (at id features (before n) p) x ≡ Some u → at id features (before m) r ≡ u → Went m r ps t → Went n p (x ∷ ps) t
  onward_before n m p r x ps u t none steps known nothing notes e is w =
      let same : flat_map bodies_of ps ≡ flat_map bodies_of (x ∷ ps) = ap (λ bs. bs ++ flat_map bodies_of ps) (sym none) in
      let bs = flat_map bodies_of ps in
      let start = starting w.q.0 w.q.1 (noted_all m ps) in
      record {
        last = w.last;
        q = w.q;
        there = w.there;
        ran = ap (option_and_then (λ u. each (step features) u ps)) steps ∙ w.ran;
        known = and_from (is_part x) (list_all is_part ps) known w.known;
        small = subst AreSmall same w.small;
        hands = handed_on (at id features (before n) p) (at id features (before m) r) x ps (bodies_from features w.q.1 start bs) (e ∙ ap Some (sym is)) w.hands
            ∙ ap (λ ys. ys ++ bodies_from features w.q.1 start bs) nothing
            ∙ (λ i. bodies_from features w.q.1 (starting w.q.0 w.q.1 (noted_all (sym notes i) ps)) (same i));
      }

  section_before : (n : Noted) (p : TypesSoFar × Spaces) (k count : ℕ) (bytes : List ℕ) (t : Standing) → after_piece (at id features (before n) p) (Counted k count bytes) ≡ Some t
      → (q : TypesSoFar × Spaces) × (section_items features k count bytes p ≡ Some q) × (at id features (before (naming (section_names k count bytes) n)) q ≡ t)
  section_before n p k count bytes t e =
      let f = section_items features k count bytes in
      let s = at id features (before n) p in
      took (before (naming (section_names k count bytes) n)) s t (f p) (sym (ap (at_stage s) (either_stage (eqb k 11) k count bytes n p f refl)) ∙ e)

  pub went : (ps : List Piece) (n : Noted) (p : TypesSoFar × Spaces) (t : Standing) → AreInner ps → after_all (at id features (before n) p) ps ≡ Some t → Went n p ps t
  went [] n p t i e = record {
    last = before n;
    q = p;
    there = same_Some (at id features (before n) p) t e;
    ran = refl;
    known = refl;
    small = All-nil (λ (b : List ℕ). length b ≤ MAX_FUNCTION_SIZE);
    hands = refl;
  }
  went (Version number kind ∷ ps) n p t i e = absurd i.0
  went (Custom name bytes ∷ ps) n p t i e = onward_before n n p p (Custom name bytes) ps (at id features (before n) p) t refl refl refl refl refl refl refl (went ps n p t i.1 e)
  went (Counted k count bytes ∷ ps) n p t i e =
      let a = then_some (λ u. after_all u ps) (after_piece (at id features (before n) p) (Counted k count bytes)) t e in
      let h = section_before n p k count bytes a.0 a.1 in
      let m = naming (section_names k count bytes) n in
      onward_before n m p h.0 (Counted k count bytes) ps a.0 t refl h.1 (section_known features p h.0 k count bytes h.1) refl refl a.1 h.2 (went ps m h.0 t i.1 (ap (λ u. after_all u ps) h.2 ∙ a.2))
  went (Start x ∷ ps) n p t i e =
      let s = at id features (before n) p in
      let a = then_some (λ u. after_all u ps) (after_piece s (Start x)) t e in
      let h = took (before n) s a.0 (beside (λ us s. start_item us s x) p) a.1 in
      onward_before n n p h.0 (Start x) ps a.0 t refl h.1 refl refl refl a.1 h.2 (went ps n h.0 t i.1 (ap (λ u. after_all u ps) h.2 ∙ a.2))
  went (DataCount count ∷ ps) n p t i e =
      let s = at id features (before n) p in
      let a = then_some (λ u. after_all u ps) (after_piece s (DataCount count)) t e in
      let h = took (before (counting count n)) s a.0 (beside (λ us s. data_count_item (features_of features) s count) p) a.1 in
      onward_before n (counting count n) p h.0 (DataCount count) ps a.0 t refl h.1 refl refl refl a.1 h.2 (went ps (counting count n) h.0 t i.1 (ap (λ u. after_all u ps) h.2 ∙ a.2))
  went (CodeStart count size ∷ ps) n p t i e =
      let c = starting p.0 p.1 n in
      let r = went_behind ps c p t i.1 e in
      let bs = flat_map bodies_of ps in
      record {
        last = behind (taking_all c bs);
        q = p;
        there = r.there;
        ran = r.ran;
        known = r.known;
        small = r.small;
        hands = handed_on (at id features (before n) p) (at id features (behind c) p) (CodeStart count size) ps (bodies_from features p.1 c bs) refl r.hands
            ∙ ap (λ m. bodies_from features p.1 (starting p.0 p.1 m) bs) (sym (r.quiet n));
      }
  went (CodeEntry bytes ∷ ps) n p t i e = absurd cc
  went (Unknown k bytes ∷ ps) n p t i e = absurd cc
  went (parts.End ∷ ps) n p t i e = absurd i.0

early : (k : ℕ) → ((k ≡ 0) → ⊥) → ((k ≡ 13) → ⊥) → ((k ≡ 14) → ⊥) → IsLate k → ⊥
early k a b c (inl e) = a e
early k a b c (inr (inl e)) = b e
early k a b c (inr (inr e)) = c e

abbrev LateIsData : ℕ → Type 0
LateIsData id = IsLate (rank_of_section id) → id ≡ 11

early_section : (id k : ℕ) → rank_of_section id ≡ k → ((k ≡ 0) → ⊥) → ((k ≡ 13) → ⊥) → ((k ≡ 14) → ⊥) → LateIsData id
early_section id k e a b c l = absurd (early k a b c (subst IsLate e l))

late_section : (id : ℕ) → is_known_section id ≡ true → LateIsData id
unfolding place
late_section id e =
    section_case LateIsData
    (early_section 1 1 refl (λ h. cc) (λ h. cc) (λ h. cc)) (early_section 2 2 refl (λ h. cc) (λ h. cc) (λ h. cc)) (early_section 3 3 refl (λ h. cc) (λ h. cc) (λ h. cc))
    (early_section 4 4 refl (λ h. cc) (λ h. cc) (λ h. cc)) (early_section 5 5 refl (λ h. cc) (λ h. cc) (λ h. cc)) (early_section 6 7 refl (λ h. cc) (λ h. cc) (λ h. cc))
    (early_section 7 8 refl (λ h. cc) (λ h. cc) (λ h. cc)) (early_section 9 10 refl (λ h. cc) (λ h. cc) (λ h. cc)) (λ l. refl) (early_section 13 6 refl (λ h. cc) (λ h. cc) (λ h. cc))
    id e

late_start : IsLate 9 → ⊥
late_start l = early 9 (λ h. cc) (λ h. cc) (λ h. cc) l

late_count : IsLate 11 → ⊥
late_count l = early 11 (λ h. cc) (λ h. cc) (λ h. cc) l

late_code : IsLate 12 → ⊥
late_code l = early 12 (λ h. cc) (λ h. cc) (λ h. cc) l

-- the machine's steps are a validator's, where pieces are in order, bodies come behind the start of the code, are not too long, and not too many
module _ (id : ℕ) (features : WasmFeatures) where
  -- behind the start of the code the lists stay
  late_item : (p q : TypesSoFar × Spaces) (k n : ℕ) (bytes : List ℕ) → IsLate (rank_of_section k) → section_items features k n bytes p ≡ Some q → (k ≡ 11) × (p ≡ q)
  late_item p q k n bytes l e = let last = late_section k (section_known features p q k n bytes e) l in (last, data_stays features k n bytes p q last e)

  pub late_stays : (ps : List Piece) (p q : TypesSoFar × Spaces) → AreInner ps → InOrder true ps → each (step features) p ps ≡ Some q → p ≡ q
  late_stays [] p q i o e = same_Some p q e
  late_stays (Version number kind ∷ ps) p q i o e = absurd i.0
  late_stays (Custom name bytes ∷ ps) p q i o e = late_stays ps p q i.1 o.1 e
  late_stays (Counted k n bytes ∷ ps) p q i o e =
      let a = then_some (λ r. each (step features) r ps) (section_items features k n bytes p) q e in
      (late_item p a.0 k n bytes o.0 a.1).1 ∙ late_stays ps a.0 q i.1 o.1 a.2
  late_stays (Start x ∷ ps) p q i o e = absurd (late_start o.0)
  late_stays (DataCount n ∷ ps) p q i o e = absurd (late_count o.0)
  late_stays (CodeStart n size ∷ ps) p q i o e = absurd (late_code o.0)
  late_stays (CodeEntry bytes ∷ ps) p q i o e = late_stays ps p q i.1 o.1 e
  late_stays (Unknown k bytes ∷ ps) p q i o e = absurd cc
  late_stays (parts.End ∷ ps) p q i o e = absurd i.0

  -- a validator that went through all pieces
  abbrev pub Goes : Place → TypesSoFar × Spaces → List Piece → TypesSoFar × Spaces → Type 0
  Goes place p ps q = (l : Place) × (after_all (at id features place p) ps ≡ Some (at id features l q))

  onward : (l m : Place) (p r q : TypesSoFar × Spaces) (x : Piece) (ps : List Piece) → after_piece (at id features l p) x ≡ Some (at id features m r) → Goes m r ps q → Goes l p (x ∷ ps) q
  onward l m p r q x ps e g = (g.0, ap (option_and_then (λ t. after_all t ps)) e ∙ g.1)

  lift : (place : Place) (s : Standing) (o : Option (TypesSoFar × Spaces)) (q : TypesSoFar × Spaces) → o ≡ Some q → lifted id features place s o ≡ Some (record s { stage = stage_in place q })
  lift place s o q e = ap (lifted id features place s) e

  data_taken : (c : Started) (p q : TypesSoFar × Spaces) (k n : ℕ) (bytes : List ℕ) → k ≡ 11 → section_items features k n bytes p ≡ Some q → after_piece (at id features (behind c) p) (Counted k n bytes) ≡ Some (at id features (behind c) q)
  data_taken c p q k n bytes last e =
      let f = section_items features k n bytes in
      let s = at id features (behind c) p in
      ap (at_stage s) (when (eqb k 11) (within_all f (in_code p.0 p.1 c)) (within (naming (section_names k n bytes)) f (in_code p.0 p.1 c)) (eq-eqb k 11 last)) ∙ lift (behind c) s (f p) q e

  section_taken : (n : Noted) (p q : TypesSoFar × Spaces) (k count : ℕ) (bytes : List ℕ) → section_items features k count bytes p ≡ Some q
      → after_piece (at id features (before n) p) (Counted k count bytes) ≡ Some (at id features (before (naming (section_names k count bytes) n)) q)
  section_taken n p q k count bytes e =
      let f = section_items features k count bytes in
      let s = at id features (before n) p in
      ap (at_stage s) (either_stage id features (eqb k 11) k count bytes n p f refl) ∙ lift (before (naming (section_names k count bytes) n)) s (f p) q e

  body_taken_here : (c : Started) (p : TypesSoFar × Spaces) (bytes : List ℕ) (m : ℕ) → suc m ≤ bodies_left p.1 c → length bytes ≤ MAX_FUNCTION_SIZE → after_piece (at id features (behind c) p) (CodeEntry bytes) ≡ Some (at id features (behind (taking c)) p)
  body_taken_here c p bytes m few small =
      let s = at id features (behind c) p in
      let next : Stage = in_code p.0 p.1 (taking c) in
      let some : eqb (bodies_left p.1 c) 0 ≡ false = ne_eqb (bodies_left p.1 c) 0 (λ e. omega (arith, e, few)) in
      ap (at_stage s) (unless (eqb (bodies_left p.1 c) 0) None (cond (leb (length bytes) MAX_FUNCTION_SIZE) (Some next) None) some)
      ∙ ap (at_stage s) (when (leb (length bytes) MAX_FUNCTION_SIZE) (Some next) None (le-leb (length bytes) MAX_FUNCTION_SIZE small))

  -- behind the start of the code
  goes_behind : (ps : List Piece) (c : Started) (p q : TypesSoFar × Spaces) → AreInner ps → InOrder true ps → AreSmall (flat_map bodies_of ps) → length (flat_map bodies_of ps) ≤ bodies_left p.1 c → each (step features) p ps ≡ Some q → Goes (behind c) p ps q
  goes_behind [] c p q i o small few e = (behind c, ap (λ r. Some (at id features (behind c) r)) (same_Some p q e))
  goes_behind (Version number kind ∷ ps) c p q i o small few e = absurd i.0
  goes_behind (Custom name bytes ∷ ps) c p q i o small few e = onward (behind c) (behind c) p p q (Custom name bytes) ps refl (goes_behind ps c p q i.1 o.1 small few e)
  goes_behind (Counted k n bytes ∷ ps) c p q i o small few e =
      let a = then_some (λ r. each (step features) r ps) (section_items features k n bytes p) q e in
      let l = late_item p a.0 k n bytes o.0 a.1 in
      onward (behind c) (behind c) p a.0 q (Counted k n bytes) ps (data_taken c p a.0 k n bytes l.0 a.1)
      (goes_behind ps c a.0 q i.1 o.1 small (subst (λ (r : TypesSoFar × Spaces). length (flat_map bodies_of ps) ≤ bodies_left r.1 c) l.1 few) a.2)
  goes_behind (Start x ∷ ps) c p q i o small few e = absurd (late_start o.0)
  goes_behind (DataCount n ∷ ps) c p q i o small few e = absurd (late_count o.0)
  goes_behind (CodeStart n size ∷ ps) c p q i o small few e = absurd (late_code o.0)
  goes_behind (CodeEntry bytes ∷ ps) c p q i o small few e =
      let bs = flat_map bodies_of ps in
      let P : List ℕ → Type 0 = λ (b : List ℕ). length b ≤ MAX_FUNCTION_SIZE in
      onward (behind c) (behind (taking c)) p p q (CodeEntry bytes) ps (body_taken_here c p bytes (length bs) few (All-head P bytes bs small))
      (goes_behind ps (taking c) p q i.1 o.1 (All-tail P bytes bs small) (omega (arith, few)) e)
  goes_behind (Unknown k bytes ∷ ps) c p q i o small few e = absurd cc
  goes_behind (parts.End ∷ ps) c p q i o small few e = absurd i.0

  pub goes : (ps : List Piece) (n : Noted) (p q : TypesSoFar × Spaces) → AreInner ps → InOrder false ps → HasStarted false ps → AreSmall (flat_map bodies_of ps) → length (flat_map bodies_of ps) ≤ expected_bodies q.1 → each (step features) p ps ≡ Some q → Goes (before n) p ps q
  goes [] n p q i o h small few e = (before n, ap (λ r. Some (at id features (before n) r)) (same_Some p q e))
  goes (Version number kind ∷ ps) n p q i o h small few e = absurd i.0
  goes (Custom name bytes ∷ ps) n p q i o h small few e = onward (before n) (before n) p p q (Custom name bytes) ps refl (goes ps n p q i.1 o h small few e)
  goes (Counted k count bytes ∷ ps) n p q i o h small few e =
      let a = then_some (λ r. each (step features) r ps) (section_items features k count bytes p) q e in
      let m = naming (section_names k count bytes) n in
      onward (before n) (before m) p a.0 q (Counted k count bytes) ps (section_taken n p a.0 k count bytes a.1) (goes ps m a.0 q i.1 o h small few a.2)
  goes (Start x ∷ ps) n p q i o h small few e =
      let f = beside (λ us s. start_item us s x) in
      let a = then_some (λ r. each (step features) r ps) (f p) q e in
      onward (before n) (before n) p a.0 q (Start x) ps (lift (before n) (at id features (before n) p) (f p) a.0 a.1) (goes ps n a.0 q i.1 o h small few a.2)
  goes (DataCount count ∷ ps) n p q i o h small few e =
      let f = beside (λ us s. data_count_item (features_of features) s count) in
      let a = then_some (λ r. each (step features) r ps) (f p) q e in
      let m = counting count n in
      onward (before n) (before m) p a.0 q (DataCount count) ps (lift (before m) (at id features (before n) p) (f p) a.0 a.1) (goes ps m a.0 q i.1 o h small few a.2)
  goes (CodeStart count size ∷ ps) n p q i o h small few e =
      let same = late_stays ps p q i.1 o e in
      let c = starting p.0 p.1 n in
      onward (before n) (behind c) p p q (CodeStart count size) ps refl
      (goes_behind ps c p q i.1 o small (subst (λ (r : TypesSoFar × Spaces). length (flat_map bodies_of ps) ≤ bodies_left r.1 c) (sym same) (omega (arith, few))) e)
  goes (CodeEntry bytes ∷ ps) n p q i o h small few e = absurd (let no = h.0 in cc)
  goes (Unknown k bytes ∷ ps) n p q i o h small few e = absurd cc
  goes (parts.End ∷ ps) n p q i o h small few e = absurd i.0
