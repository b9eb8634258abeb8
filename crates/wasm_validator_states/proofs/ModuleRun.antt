-- The machine over the pieces between the header and the end: section by section, in the order of the sections.
use Rattle.std.proofs.Common.{◌≡◌, ◌≢◌, refl, sym, ap, subst, ◌∙◌, ◌⊎◌, inl, inr, ℕ, ◌+◌, ◌≤◌, Bool, true, false, ◌==◌, ◌||◌, cond, eqb, leb, List, [], ◌∷◌, ◌++◌, length, Option, Some, None, append-nil, arith}
use Rattle.std.specs.Option.{option_map, option_and_then}
use Rattle.std.specs.Prelude.{IsTrue, nat_le}
use Rattle.std.specs.List.{list_all, All, flat_map}
use Rattle.std.proofs.lemmas.List.Elements.{All-nil, All-cons}
use Rattle.std.proofs.lemmas.Bool.{leb-true, eqb-true, eqb-false, eq-eqb, ne_eqb}
use Rattle.wasm_spec.specs.Values.{items_at}
use Rattle.wasm_spec.specs.Framing.{Piece, Version, Custom, Counted, Start, DataCount, CodeStart, CodeEntry, Unknown, End, place}
use Rattle.wasm_spec_rules.specs.Sections.{each, rank, rank_of_section, ranks, at_rank, by_rank}
use Rattle.wasm_spec_rules.specs.Parts.{items_of, all_items, starts_of, data_counts_of}
use Rattle.wasm_spec_rules.specs.FeatureFlags.{features_of}
use Rattle.wasm_spec_rules.specs.Limits.{most_imports}
use Rattle.wasm_spec_rules.specs.Modules.{IsAllowedPiece}
use Rattle.wasm_spec.specs.Features.{Features}
use Rattle.wasm_spec_rules.proofs.SectionRanks.{Follows, AreRanks, LeavesFree, IsOne, one_at_most, by_ranks}
use Rattle.wasm_spec_rules.proofs.FramedOrder.{IsInner, AreInner}
use Rattle.wasm_spec_rules.proofs.Tests.{truth, when, unless, guarded, then_some}
use Rattle.wasm_readers_errors.specs.WasmReadersFeatures.declared.features.WasmFeatures.{WasmFeatures}
use Rattle.wasm_validator_types.specs.Spaces.{Spaces}
use Rattle.wasm_validator_sections.specs.WasmValidatorCore.declared.limits.TheConstants.{MAX_DATA_SEGMENTS}
use Rattle.wasm_validator_sections.specs.WasmValidatorCore.Items.{is_data_count}
use Rattle.wasm_validator_sections.specs.WasmValidatorCore.Answers.{TypesSoFar, HasValidTypes}
use Rattle.wasm_validator_sections.specs.Machine.{tag_items, import_items, section_items, start_item, data_count_item, beside}
use Rattle.wasm_validator_canonical.proofs.CanonicalTypes.{and_left, and_right}
use Rattle.std.proofs.lemmas.Option.{same_Some}
use Rattle.wasm_validator_states.proofs.ValidTypes.{beside_back, section_back}

-- one piece of a module that is being read
abbrev pub step : WasmFeatures → TypesSoFar × Spaces → Piece → Option (TypesSoFar × Spaces)
step features p (Version number kind) = None
step features p (Custom name bytes) = Some p
step features p (Counted id n bytes) = section_items features id n bytes p
step features p (Start x) = beside (λ us s. start_item us s x) p
step features p (DataCount n) = beside (λ us s. data_count_item (features_of features) s n) p
step features p (CodeStart n size) = Some p
step features p (CodeEntry bytes) = Some p
step features p (Unknown id bytes) = None
step features p End = None

-- the sections of items, by their ids
abbrev pub is_known_section : ℕ → Bool
is_known_section id = (id == 1) || ((id == 2) || ((id == 3) || ((id == 4) || ((id == 5) || ((id == 6) || ((id == 7) || ((id == 9) || ((id == 11) || (id == 13)))))))))

-- what a run may have: these sections, the start function, the data count, the start of the code, bodies, and custom sections
abbrev pub is_part : Piece → Bool
is_part (Version number kind) = true
is_part (Custom name bytes) = true
is_part (Counted id n bytes) = is_known_section id
is_part (Start x) = true
is_part (DataCount n) = true
is_part (CodeStart n size) = true
is_part (CodeEntry bytes) = true
is_part (Unknown id bytes) = false
is_part End = true

-- such pieces between the header and the end
abbrev pub IsPart : Piece → Type 0
IsPart p = (is_part p ≡ true) × IsInner p

abbrev pub AreParts : List Piece → Type 0
AreParts [] = Unit {0}
AreParts (p ∷ ps) = IsPart p × AreParts ps

pub are_parts : (ps : List Piece) → list_all is_part ps ≡ true → AreInner ps → AreParts ps
are_parts [] e i = tt
are_parts (p ∷ ps) e i = ((and_left (is_part p) (list_all is_part ps) e, i.0), are_parts ps (and_right (is_part p) (list_all is_part ps) e) i.1)

-- the forms of a part
pub data PartForm : Piece → Type 0 where
  custom : {name bytes : List ℕ} → PartForm (Custom name bytes)
  types : {n : ℕ} {bytes : List ℕ} → PartForm (Counted 1 n bytes)
  imports : {n : ℕ} {bytes : List ℕ} → PartForm (Counted 2 n bytes)
  functions : {n : ℕ} {bytes : List ℕ} → PartForm (Counted 3 n bytes)
  tables : {n : ℕ} {bytes : List ℕ} → PartForm (Counted 4 n bytes)
  memories : {n : ℕ} {bytes : List ℕ} → PartForm (Counted 5 n bytes)
  globals : {n : ℕ} {bytes : List ℕ} → PartForm (Counted 6 n bytes)
  exports : {n : ℕ} {bytes : List ℕ} → PartForm (Counted 7 n bytes)
  elements : {n : ℕ} {bytes : List ℕ} → PartForm (Counted 9 n bytes)
  segments : {n : ℕ} {bytes : List ℕ} → PartForm (Counted 11 n bytes)
  tags : {n : ℕ} {bytes : List ℕ} → PartForm (Counted 13 n bytes)
  start : {x : ℕ} → PartForm (Start x)
  data_count : {n : ℕ} → PartForm (DataCount n)
  code_start : {n size : ℕ} → PartForm (CodeStart n size)
  body : {bytes : List ℕ} → PartForm (CodeEntry bytes)

-- one of two tests is passed
pub either : (a b : Bool) → (a || b) ≡ true → (a ≡ true) ⊎ (b ≡ true)
either true b e = inl refl
either false b e = inr e

-- what holds of each id of a section of items
pub section_case : (P : ℕ → Type 0) → P 1 → P 2 → P 3 → P 4 → P 5 → P 6 → P 7 → P 9 → P 11 → P 13 → (id : ℕ) → is_known_section id ≡ true → P id
section_case P p1 p2 p3 p4 p5 p6 p7 p9 p11 p13 id e =
    elim (either (eqb id 1) _ e) [
      | inl y ↦ subst P (sym (eqb-true id 1 y)) p1
      | inr b ↦ elim (either (eqb id 2) _ b) [
        | inl y ↦ subst P (sym (eqb-true id 2 y)) p2
        | inr c ↦ elim (either (eqb id 3) _ c) [
          | inl y ↦ subst P (sym (eqb-true id 3 y)) p3
          | inr d ↦ elim (either (eqb id 4) _ d) [
            | inl y ↦ subst P (sym (eqb-true id 4 y)) p4
            | inr f ↦ elim (either (eqb id 5) _ f) [
              | inl y ↦ subst P (sym (eqb-true id 5 y)) p5
              | inr g ↦ elim (either (eqb id 6) _ g) [
                | inl y ↦ subst P (sym (eqb-true id 6 y)) p6
                | inr h ↦ elim (either (eqb id 7) _ h) [
                  | inl y ↦ subst P (sym (eqb-true id 7 y)) p7
                  | inr j ↦ elim (either (eqb id 9) _ j) [
                    | inl y ↦ subst P (sym (eqb-true id 9 y)) p9
                    | inr k ↦ elim (either (eqb id 11) _ k) [
                      | inl y ↦ subst P (sym (eqb-true id 11 y)) p11
                      | inr l ↦ subst P (sym (eqb-true id 13 l)) p13
                    ]
                  ]
                ]
              ]
            ]
          ]
        ]
      ]
    ]

counted_form : (id n : ℕ) (bytes : List ℕ) → is_known_section id ≡ true → PartForm (Counted id n bytes)
counted_form id n bytes e = section_case (λ i. PartForm (Counted i n bytes)) types imports functions tables memories globals exports elements segments tags id e

pub form_of : (p : Piece) → IsPart p → PartForm p
form_of (Version number kind) h = absurd h.1
form_of (Custom name bytes) h = custom
form_of (Counted id n bytes) h = counted_form id n bytes h.0
form_of (Start x) h = start
form_of (DataCount n) h = data_count
form_of (CodeStart n size) h = code_start
form_of (CodeEntry bytes) h = body
form_of (Unknown id bytes) h = absurd (let e = h.0 in cc)
form_of End h = absurd h.1

-- types that are valid behind a piece were valid before it
pub step_back : (features : WasmFeatures) (p q : TypesSoFar × Spaces) (x : Piece) → step features p x ≡ Some q → HasValidTypes features q → HasValidTypes features p
step_back features p q (Version number kind) e v = absurd cc
step_back features p q (Custom name bytes) e v = subst (HasValidTypes features) (sym (same_Some p q e)) v
step_back features p q (Counted id n bytes) e v = section_back features id n bytes p q e v
step_back features p q (Start x) e v = beside_back features (λ us s. start_item us s x) p q e v
step_back features p q (DataCount n) e v = beside_back features (λ us s. data_count_item (features_of features) s n) p q e v
step_back features p q (CodeStart n size) e v = subst (HasValidTypes features) (sym (same_Some p q e)) v
step_back features p q (CodeEntry bytes) e v = subst (HasValidTypes features) (sym (same_Some p q e)) v
step_back features p q (Unknown id bytes) e v = absurd cc
step_back features p q End e v = absurd cc

-- what is accepted is allowed
tags_allowed : (F : Features) (us : TypesSoFar) (n : ℕ) (bytes : List ℕ) (s t : Spaces) → tag_items F us n bytes s ≡ Some t → IsTrue F.exceptions
tags_allowed F us n bytes s t e = (guarded F.exceptions _ t e).0

-- an import section has few entries, be they one import each or not
few_either : {S : Type 0} (b c : Bool) (one other : Option S) (t : S) → cond b (cond c one None) (cond c other None) ≡ Some t → c ≡ true
few_either true c one other t e = (guarded c one t e).0
few_either false c one other t e = (guarded c other t e).0

imports_allowed : (F : Features) (us : TypesSoFar) (n : ℕ) (bytes : List ℕ) (s t : Spaces) → import_items F us n bytes s ≡ Some t → n ≤ most_imports
imports_allowed F us n bytes s t e =
    let few = leb-true (length s.imports + n) most_imports (few_either F.compact_imports (leb (length s.imports + n) most_imports) _ _ t e) in
    omega (arith, few)

form_accepted : (features : WasmFeatures) (p q : TypesSoFar × Spaces) (x : Piece) → PartForm x → step features p x ≡ Some q → IsAllowedPiece (features_of features) x
form_accepted features p q x custom e = tt
form_accepted features p q x types e = (λ h. absurd cc, λ h. absurd cc)
form_accepted features p q x functions e = (λ h. absurd cc, λ h. absurd cc)
form_accepted features p q x tables e = (λ h. absurd cc, λ h. absurd cc)
form_accepted features p q x memories e = (λ h. absurd cc, λ h. absurd cc)
form_accepted features p q x globals e = (λ h. absurd cc, λ h. absurd cc)
form_accepted features p q x elements e = (λ h. absurd cc, λ h. absurd cc)
form_accepted features p q x segments e = (λ h. absurd cc, λ h. absurd cc)
form_accepted features p q x start e = tt
form_accepted features p q x code_start e = tt
form_accepted features p q x body e = tt
form_accepted features p q x (data_count {n}) e =
    let a = then_some (λ (s : Spaces). Some (p.0, s)) (data_count_item (features_of features) p.1 n) q e in
    let b = guarded (is_data_count (features_of features) n) (Some p.1) a.0 a.1 in
    and_left (features_of features).bulk_memory (nat_le n MAX_DATA_SEGMENTS) b.0
form_accepted features p q x exports e = (λ h. absurd cc, λ h. absurd cc)
form_accepted features p q x (tags {n} {bytes}) e =
    let a = then_some (λ (s : Spaces). Some (p.0, s)) (tag_items (features_of features) p.0 n bytes p.1) q e in
    (λ h. tags_allowed (features_of features) p.0 n bytes p.1 a.0 a.1, λ h. absurd cc)
form_accepted features p q x (imports {n} {bytes}) e =
    let a = then_some (λ (s : Spaces). Some (p.0, s)) (import_items (features_of features) p.0 n bytes p.1) q e in
    (λ h. absurd cc, λ h. imports_allowed (features_of features) p.0 n bytes p.1 a.0 a.1)

pub run_allowed : (features : WasmFeatures) (ps : List Piece) (p q : TypesSoFar × Spaces) → AreParts ps → each (step features) p ps ≡ Some q → All (IsAllowedPiece (features_of features)) ps
run_allowed features [] p q a e = All-nil (IsAllowedPiece (features_of features))
run_allowed features (x ∷ ps) p q a e =
    let h = then_some (λ t. each (step features) t ps) (step features p x) q e in
    All-cons (IsAllowedPiece (features_of features)) x ps (form_accepted features p h.0 x (form_of x a.0) h.1) (run_allowed features ps h.0 q a.1 h.2)

-- the ranks of sections of items
abbrev IsOfItems : ℕ → Type 0
IsOfItems k = (0 ≢ k) × (9 ≢ k) × (11 ≢ k) × (12 ≢ k)

-- the id of the section of a rank
abbrev id_of_rank : ℕ → ℕ
id_of_rank k = cond (eqb k 6) 13 (cond (eqb k 7) 6 (cond (eqb k 8) 7 (cond (eqb k 10) 9 (cond (eqb k 14) 11 k))))

-- bodies change nothing
body_passes : (features : WasmFeatures) (p : Piece) → PartForm p → rank p ≡ 13 → (s : TypesSoFar × Spaces) → step features s p ≡ Some s
unfolding place
body_passes features p custom r s = absurd cc
body_passes features p types r s = absurd cc
body_passes features p imports r s = absurd cc
body_passes features p functions r s = absurd cc
body_passes features p tables r s = absurd cc
body_passes features p memories r s = absurd cc
body_passes features p globals r s = absurd cc
body_passes features p exports r s = absurd cc
body_passes features p elements r s = absurd cc
body_passes features p segments r s = absurd cc
body_passes features p tags r s = absurd cc
body_passes features p start r s = absurd cc
body_passes features p data_count r s = absurd cc
body_passes features p code_start r s = absurd cc
body_passes features p body r s = refl

pub bodies_pass : (features : WasmFeatures) (ps : List Piece) → AreParts ps → (s : TypesSoFar × Spaces) → each (step features) s (at_rank 13 ps) ≡ Some s
bodies_pass features [] a s = refl
bodies_pass features (p ∷ ps) a s =
    elim (truth (eqb (rank p) 13)) [
      | inl e ↦
          ap (each (step features) s) (when (eqb (rank p) 13) (p ∷ at_rank 13 ps) (at_rank 13 ps) e)
          ∙ ap (option_and_then (λ t. each (step features) t (at_rank 13 ps))) (body_passes features p (form_of p a.0) (eqb-true (rank p) 13 e) s)
          ∙ bodies_pass features ps a.1 s
      | inr e ↦ ap (each (step features) s) (unless (eqb (rank p) 13) (p ∷ at_rank 13 ps) (at_rank 13 ps) e) ∙ bodies_pass features ps a.1 s
    ]

-- a custom section changes nothing
part_free : (features : WasmFeatures) (p : Piece) → PartForm p → rank p ≡ 0 → (s : TypesSoFar × Spaces) → step features s p ≡ Some s
unfolding place
part_free features p custom r s = refl
part_free features p types r s = absurd cc
part_free features p imports r s = absurd cc
part_free features p functions r s = absurd cc
part_free features p tables r s = absurd cc
part_free features p memories r s = absurd cc
part_free features p globals r s = absurd cc
part_free features p exports r s = absurd cc
part_free features p elements r s = absurd cc
part_free features p segments r s = absurd cc
part_free features p tags r s = absurd cc
part_free features p start r s = absurd cc
part_free features p data_count r s = absurd cc
part_free features p code_start r s = absurd cc
part_free features p body r s = absurd cc

leaves_free : (features : WasmFeatures) (ps : List Piece) → AreParts ps → LeavesFree (step features) ps
leaves_free features [] a = tt
leaves_free features (p ∷ ps) a = (part_free features p (form_of p a.0), leaves_free features ps a.1)

are_ranks : AreRanks ranks
are_ranks = ((λ e. cc), (((λ e. cc), ((λ e. cc), ((λ e. cc), ((λ e. cc), ((λ e. cc), ((λ e. cc), ((λ e. cc), ((λ e. cc), ((λ e. cc), ((λ e. cc), ((λ e. cc), ((λ e. cc), ((λ e. cc), tt))))))))))))), ((λ e. cc), (((λ e. cc), ((λ e. cc), ((λ e. cc), ((λ e. cc), ((λ e. cc), ((λ e. cc), ((λ e. cc), ((λ e. cc), ((λ e. cc), ((λ e. cc), ((λ e. cc), ((λ e. cc), tt)))))))))))), ((λ e. cc), (((λ e. cc), ((λ e. cc), ((λ e. cc), ((λ e. cc), ((λ e. cc), ((λ e. cc), ((λ e. cc), ((λ e. cc), ((λ e. cc), ((λ e. cc), ((λ e. cc), tt))))))))))), ((λ e. cc), (((λ e. cc), ((λ e. cc), ((λ e. cc), ((λ e. cc), ((λ e. cc), ((λ e. cc), ((λ e. cc), ((λ e. cc), ((λ e. cc), ((λ e. cc), tt)))))))))), ((λ e. cc), (((λ e. cc), ((λ e. cc), ((λ e. cc), ((λ e. cc), ((λ e. cc), ((λ e. cc), ((λ e. cc), ((λ e. cc), ((λ e. cc), tt))))))))), ((λ e. cc), (((λ e. cc), ((λ e. cc), ((λ e. cc), ((λ e. cc), ((λ e. cc), ((λ e. cc), ((λ e. cc), ((λ e. cc), tt)))))))), ((λ e. cc), (((λ e. cc), ((λ e. cc), ((λ e. cc), ((λ e. cc), ((λ e. cc), ((λ e. cc), ((λ e. cc), tt))))))), ((λ e. cc), (((λ e. cc), ((λ e. cc), ((λ e. cc), ((λ e. cc), ((λ e. cc), ((λ e. cc), tt)))))), ((λ e. cc), (((λ e. cc), ((λ e. cc), ((λ e. cc), ((λ e. cc), ((λ e. cc), tt))))), ((λ e. cc), (((λ e. cc), ((λ e. cc), ((λ e. cc), ((λ e. cc), tt)))), ((λ e. cc), (((λ e. cc), ((λ e. cc), ((λ e. cc), tt))), ((λ e. cc), (((λ e. cc), ((λ e. cc), tt)), ((λ e. cc), (((λ e. cc), tt), ((λ e. cc), (tt, tt))))))))))))))))))))))))))))

-- parts in the order of the ranks, as their sections
pub by_sections : (features : WasmFeatures) (ps : List Piece) (s : TypesSoFar × Spaces) → AreParts ps → Follows ranks ps → each (step features) s ps ≡ by_rank (step features) ranks s ps
by_sections features ps s a f = by_ranks (step features) ranks ps s f are_ranks (leaves_free features ps a)

-- the section of this id, if it is there
pub record IsSection (id : ℕ) (ps : List Piece) : Type 0 where
  pub count : ℕ
  pub contents : List ℕ
  pub is : ps ≡ Counted id count contents ∷ []

abbrev pub SectionOf : ℕ → List Piece → Type 0
SectionOf id ps = (ps ≡ []) ⊎ IsSection id ps

first_case : (k : ℕ) (q : Piece) (ps : List Piece) (p : Piece) → (eqb (rank q) k ≡ true) ⊎ (eqb (rank q) k ≡ false) → AreParts (q ∷ ps) → at_rank k (q ∷ ps) ≡ p ∷ []
    → (AreParts ps → at_rank k ps ≡ p ∷ [] → (rank p ≡ k) × IsPart p) → (rank p ≡ k) × IsPart p
first_case k q ps p (inl b) a e below =
    let found : q ∷ at_rank k ps ≡ p ∷ [] = sym (when (eqb (rank q) k) (q ∷ at_rank k ps) (at_rank k ps) b) ∙ e in
    let same : q ≡ p = cc in
    subst (λ x. (rank x ≡ k) × IsPart x) same (eqb-true (rank q) k b, a.0)
first_case k q ps p (inr b) a e below = below a.1 (sym (unless (eqb (rank q) k) (q ∷ at_rank k ps) (at_rank k ps) b) ∙ e)

-- what holds of all holds of the first of a rank, which has that rank
first_of : (k : ℕ) (ps : List Piece) (p : Piece) → AreParts ps → at_rank k ps ≡ p ∷ [] → (rank p ≡ k) × IsPart p
first_of k [] p a e = absurd cc
first_of k (q ∷ ps) p a e = first_case k q ps p (truth (eqb (rank q) k)) a e (λ b f. first_of k ps p b f)

rank_form : (p : Piece) → PartForm p → IsOfItems (rank p) → rank p ≢ 13 → IsSection (id_of_rank (rank p)) (p ∷ [])
unfolding place
rank_form p custom z b = absurd (z.0 refl)
rank_form p (types {n} {bytes}) z b = record { count = n; contents = bytes; is = refl }
rank_form p (imports {n} {bytes}) z b = record { count = n; contents = bytes; is = refl }
rank_form p (functions {n} {bytes}) z b = record { count = n; contents = bytes; is = refl }
rank_form p (tables {n} {bytes}) z b = record { count = n; contents = bytes; is = refl }
rank_form p (memories {n} {bytes}) z b = record { count = n; contents = bytes; is = refl }
rank_form p (globals {n} {bytes}) z b = record { count = n; contents = bytes; is = refl }
rank_form p (exports {n} {bytes}) z b = record { count = n; contents = bytes; is = refl }
rank_form p (elements {n} {bytes}) z b = record { count = n; contents = bytes; is = refl }
rank_form p (segments {n} {bytes}) z b = record { count = n; contents = bytes; is = refl }
rank_form p (tags {n} {bytes}) z b = record { count = n; contents = bytes; is = refl }
rank_form p start z b = absurd (z.1 refl)
rank_form p data_count z b = absurd (z.2 refl)
rank_form p code_start z b = absurd (z.3 refl)
rank_form p body z b = absurd (b refl)

section_from : (k : ℕ) (ps : List Piece) → AreParts ps → IsOfItems k → k ≢ 13 → (at_rank k ps ≡ []) ⊎ IsOne (at_rank k ps) → SectionOf (id_of_rank k) (at_rank k ps)
section_from k ps a z b (inl e) = inl e
section_from k ps a z b (inr o) =
    let f = first_of k ps o.piece a o.is in
    let here = rank_form o.piece (form_of o.piece f.1) (subst IsOfItems (sym f.0) z) (subst (λ j. j ≢ 13) (sym f.0) b) in
    inr (subst (λ (x : ℕ × List Piece). IsSection (id_of_rank x.0) x.1) (λ i. (f.0 i, sym o.is i)) here)

-- the start function, the data count, and the start of the code, if they are there
abbrev pub StartOf : List Piece → Type 0
StartOf ps = (ps ≡ []) ⊎ ((x : ℕ) × (ps ≡ Start x ∷ []))

abbrev pub DataCountOf : List Piece → Type 0
DataCountOf ps = (ps ≡ []) ⊎ ((n : ℕ) × (ps ≡ DataCount n ∷ []))

abbrev pub CodeStartOf : List Piece → Type 0
CodeStartOf ps = (ps ≡ []) ⊎ ((n : ℕ) × (size : ℕ) × (ps ≡ CodeStart n size ∷ []))

start_form : (p : Piece) → PartForm p → rank p ≡ 9 → (x : ℕ) × (p ∷ [] ≡ Start x ∷ [])
unfolding place
start_form p custom e = absurd cc
start_form p types e = absurd cc
start_form p imports e = absurd cc
start_form p functions e = absurd cc
start_form p tables e = absurd cc
start_form p memories e = absurd cc
start_form p globals e = absurd cc
start_form p exports e = absurd cc
start_form p elements e = absurd cc
start_form p segments e = absurd cc
start_form p tags e = absurd cc
start_form p (start {x}) e = (x, refl)
start_form p data_count e = absurd cc
start_form p code_start e = absurd cc
start_form p body e = absurd cc

data_count_form : (p : Piece) → PartForm p → rank p ≡ 11 → (n : ℕ) × (p ∷ [] ≡ DataCount n ∷ [])
unfolding place
data_count_form p custom e = absurd cc
data_count_form p types e = absurd cc
data_count_form p imports e = absurd cc
data_count_form p functions e = absurd cc
data_count_form p tables e = absurd cc
data_count_form p memories e = absurd cc
data_count_form p globals e = absurd cc
data_count_form p exports e = absurd cc
data_count_form p elements e = absurd cc
data_count_form p segments e = absurd cc
data_count_form p tags e = absurd cc
data_count_form p start e = absurd cc
data_count_form p (data_count {n}) e = (n, refl)
data_count_form p code_start e = absurd cc
data_count_form p body e = absurd cc

code_start_form : (p : Piece) → PartForm p → rank p ≡ 12 → (n : ℕ) × (size : ℕ) × (p ∷ [] ≡ CodeStart n size ∷ [])
unfolding place
code_start_form p custom e = absurd cc
code_start_form p types e = absurd cc
code_start_form p imports e = absurd cc
code_start_form p functions e = absurd cc
code_start_form p tables e = absurd cc
code_start_form p memories e = absurd cc
code_start_form p globals e = absurd cc
code_start_form p exports e = absurd cc
code_start_form p elements e = absurd cc
code_start_form p segments e = absurd cc
code_start_form p tags e = absurd cc
code_start_form p start e = absurd cc
code_start_form p data_count e = absurd cc
code_start_form p (code_start {n} {size}) e = (n, size, refl)
code_start_form p body e = absurd cc

start_from : (ps : List Piece) → AreParts ps → (at_rank 9 ps ≡ []) ⊎ IsOne (at_rank 9 ps) → StartOf (at_rank 9 ps)
start_from ps a (inl e) = inl e
start_from ps a (inr o) =
    let f = first_of 9 ps o.piece a o.is in
    let here = start_form o.piece (form_of o.piece f.1) f.0 in
    inr (here.0, o.is ∙ here.1)

data_count_from : (ps : List Piece) → AreParts ps → (at_rank 11 ps ≡ []) ⊎ IsOne (at_rank 11 ps) → DataCountOf (at_rank 11 ps)
data_count_from ps a (inl e) = inl e
data_count_from ps a (inr o) =
    let f = first_of 11 ps o.piece a o.is in
    let here = data_count_form o.piece (form_of o.piece f.1) f.0 in
    inr (here.0, o.is ∙ here.1)

code_start_from : (ps : List Piece) → AreParts ps → (at_rank 12 ps ≡ []) ⊎ IsOne (at_rank 12 ps) → CodeStartOf (at_rank 12 ps)
code_start_from ps a (inl e) = inl e
code_start_from ps a (inr o) =
    let f = first_of 12 ps o.piece a o.is in
    let here = code_start_form o.piece (form_of o.piece f.1) f.0 in
    inr (here.0, here.1, o.is ∙ here.2)

-- the sections
module _ (ps : List Piece) (a : AreParts ps) (f : Follows ranks ps) where
  pub section_at : (k : ℕ) → IsOfItems k → k ≢ 13 → SectionOf (id_of_rank k) (at_rank k ps)
  section_at k z b = section_from k ps a z b (one_at_most ranks ps k f are_ranks z.0 b)

  pub start_at : StartOf (at_rank 9 ps)
  start_at = start_from ps a (one_at_most ranks ps 9 f are_ranks (λ e. cc) (λ e. cc))

  pub data_count_at : DataCountOf (at_rank 11 ps)
  data_count_at = data_count_from ps a (one_at_most ranks ps 11 f are_ranks (λ e. cc) (λ e. cc))

  pub code_start_at : CodeStartOf (at_rank 12 ps)
  code_start_at = code_start_from ps a (one_at_most ranks ps 12 f are_ranks (λ e. cc) (λ e. cc))

-- the items of the sections of an id are those of the pieces of its rank
module _ {V : Type 0} (id : ℕ) (reads : List ℕ → Option (V × List ℕ)) where
  append_none : (o : Option (List V)) → option_map (λ (ys : List V). [] ++ ys) o ≡ o
  append_none None = refl
  append_none (Some ys) = refl

  pub no_items : (p : Piece) (ps : List Piece) → items_of id reads p ≡ Some [] → all_items id reads (p ∷ ps) ≡ all_items id reads ps
  no_items p ps e = ap (option_and_then (λ (xs : List V). option_map (λ (ys : List V). xs ++ ys) (all_items id reads ps))) e ∙ append_none (all_items id reads ps)

  other_rank : (p : Piece) → rank p ≢ rank_of_section id → items_of id reads p ≡ Some []
  other_rank (Version number kind) h = refl
  other_rank (Custom name bytes) h = refl
  other_rank (Counted i n bytes) h = unless (eqb i id) (items_at reads n bytes) (Some []) (ne_eqb i id (λ e. h (ap rank_of_section e)))
  other_rank (Start x) h = refl
  other_rank (DataCount n) h = refl
  other_rank (CodeStart n size) h = refl
  other_rank (CodeEntry bytes) h = refl
  other_rank (Unknown i bytes) h = refl
  other_rank End h = refl

  ranked_case : (p : Piece) (ps : List Piece) → (eqb (rank p) (rank_of_section id) ≡ true) ⊎ (eqb (rank p) (rank_of_section id) ≡ false)
      → all_items id reads ps ≡ all_items id reads (at_rank (rank_of_section id) ps) → all_items id reads (p ∷ ps) ≡ all_items id reads (at_rank (rank_of_section id) (p ∷ ps))
  ranked_case p ps (inl b) h =
      ap (λ o. option_and_then (λ (xs : List V). option_map (λ (ys : List V). xs ++ ys) o) (items_of id reads p)) h
      ∙ ap (all_items id reads) (sym (when (eqb (rank p) (rank_of_section id)) (p ∷ at_rank (rank_of_section id) ps) (at_rank (rank_of_section id) ps) b))
  ranked_case p ps (inr b) h =
      no_items p ps (other_rank p (eqb-false (rank p) (rank_of_section id) b))
      ∙ h
      ∙ ap (all_items id reads) (sym (unless (eqb (rank p) (rank_of_section id)) (p ∷ at_rank (rank_of_section id) ps) (at_rank (rank_of_section id) ps) b))

  pub ranked_items : (ps : List Piece) → all_items id reads ps ≡ all_items id reads (at_rank (rank_of_section id) ps)
  ranked_items [] = refl
  ranked_items (p ∷ ps) = ranked_case p ps (truth (eqb (rank p) (rank_of_section id))) (ranked_items ps)

  append_empty : (o : Option (List V)) → option_and_then (λ (xs : List V). option_map (λ (ys : List V). xs ++ ys) (Some [])) o ≡ o
  append_empty None = refl
  append_empty (Some xs) = ap Some (append-nil xs)

  last_items : (ps : List Piece) → all_items id reads (ps ++ End ∷ []) ≡ all_items id reads ps
  last_items [] = refl
  last_items (p ∷ ps) = ap (λ o. option_and_then (λ (xs : List V). option_map (λ (ys : List V). xs ++ ys) o) (items_of id reads p)) (last_items ps)

  -- the header and the end have none
  pub framed_items : (number kind : ℕ) (ps : List Piece) → all_items id reads (Version number kind ∷ (ps ++ End ∷ [])) ≡ all_items id reads ps
  framed_items number kind ps = no_items (Version number kind) (ps ++ End ∷ []) refl ∙ last_items ps

  -- the section's items
  pub one_section : (n : ℕ) (bytes : List ℕ) → all_items id reads (Counted id n bytes ∷ []) ≡ items_at reads n bytes
  one_section n bytes =
      ap (option_and_then (λ (xs : List V). option_map (λ (ys : List V). xs ++ ys) (Some []))) (when (eqb id id) (items_at reads n bytes) (Some []) (eq-eqb id id refl)) ∙ append_empty (items_at reads n bytes)

-- what pieces of one rank alone have is what those of this rank have
module _ {V : Type 0} (f : Piece → List V) (k : ℕ) (elsewhere : (p : Piece) → rank p ≢ k → f p ≡ []) where
  of_rank_case : (p : Piece) (ps : List Piece) → (eqb (rank p) k ≡ true) ⊎ (eqb (rank p) k ≡ false) → flat_map f ps ≡ flat_map f (at_rank k ps) → flat_map f (p ∷ ps) ≡ flat_map f (at_rank k (p ∷ ps))
  of_rank_case p ps (inl b) h = ap (λ (xs : List V). f p ++ xs) h ∙ ap (flat_map f) (sym (when (eqb (rank p) k) (p ∷ at_rank k ps) (at_rank k ps) b))
  of_rank_case p ps (inr b) h = (λ i. elsewhere p (eqb-false (rank p) k b) i ++ h i) ∙ ap (flat_map f) (sym (unless (eqb (rank p) k) (p ∷ at_rank k ps) (at_rank k ps) b))

  pub of_rank : (ps : List Piece) → flat_map f ps ≡ flat_map f (at_rank k ps)
  of_rank [] = refl
  of_rank (p ∷ ps) = of_rank_case p ps (truth (eqb (rank p) k)) (of_rank ps)

start_elsewhere : (p : Piece) → rank p ≢ 9 → starts_of p ≡ []
start_elsewhere (Version number kind) h = refl
start_elsewhere (Custom name bytes) h = refl
start_elsewhere (Counted i n bytes) h = refl
start_elsewhere (Start x) h = absurd (h refl)
start_elsewhere (DataCount n) h = refl
start_elsewhere (CodeStart n size) h = refl
start_elsewhere (CodeEntry bytes) h = refl
start_elsewhere (Unknown i bytes) h = refl
start_elsewhere End h = refl

data_count_elsewhere : (p : Piece) → rank p ≢ 11 → data_counts_of p ≡ []
data_count_elsewhere (Version number kind) h = refl
data_count_elsewhere (Custom name bytes) h = refl
data_count_elsewhere (Counted i n bytes) h = refl
data_count_elsewhere (Start x) h = refl
data_count_elsewhere (DataCount n) h = absurd (h refl)
data_count_elsewhere (CodeStart n size) h = refl
data_count_elsewhere (CodeEntry bytes) h = refl
data_count_elsewhere (Unknown i bytes) h = refl
data_count_elsewhere End h = refl

pub ranked_starts : (ps : List Piece) → flat_map starts_of ps ≡ flat_map starts_of (at_rank 9 ps)
ranked_starts ps = of_rank starts_of 9 start_elsewhere ps

pub ranked_data_counts : (ps : List Piece) → flat_map data_counts_of ps ≡ flat_map data_counts_of (at_rank 11 ps)
ranked_data_counts ps = of_rank data_counts_of 11 data_count_elsewhere ps
