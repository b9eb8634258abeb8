-- Sections that are accepted, and those of framed pieces, have the ids of sections of items.
use Rattle.std.proofs.Common.{◌≡◌, ◌≢◌, refl, subst, inl, inr, ℕ, zero, suc, ◌<◌, Bool, true, false, ◌==◌, ◌||◌, cond, eqb, ltb, List, [], ◌∷◌, ◌++◌, map, length, Some, None, arith}
use Rattle.std.specs.Option.{option_map}
use Rattle.std.specs.List.{All}
use Rattle.std.proofs.lemmas.Bool.{eqb-false, ltb-true}
use Rattle.std.proofs.lemmas.List.Elements.{All-head, All-tail}
use Rattle.wasm_spec.specs.Features.{Features}
use Rattle.wasm_spec.specs.Values.{name_at, u32_at, sized_at, items_at}
use Rattle.wasm_spec.specs.Framing.{Piece, Version, Custom, Counted, Start, DataCount, CodeStart, CodeEntry, Unknown, End, piece_of, number_of, code_pieces, pieces_of, all_pieces, IsFramed}
use Rattle.wasm_spec_rules.specs.FeatureFlags.{features_of}
use Rattle.wasm_spec_rules.specs.Modules.{IsAllowedPiece}
use Rattle.wasm_spec_rules.proofs.FramedOrder.{AreInner, others_inner}
use Rattle.wasm_spec_rules.proofs.Tests.{then_some, map_some, chosen}
use Rattle.wasm_readers_errors.specs.WasmReadersFeatures.declared.features.WasmFeatures.{WasmFeatures}
use Rattle.wasm_validator_types.specs.Spaces.{Spaces}
use Rattle.wasm_validator_sections.specs.WasmValidatorCore.Answers.{TypesSoFar}
use Rattle.wasm_validator_sections.specs.Machine.{type_items, import_items, function_items, table_items, memory_items, global_items, export_items, element_items, data_items, tag_items, other_items, section_items, beside}
use Rattle.wasm_validator_states.proofs.CodeOrder.{HasStarted, started-append}
use Rattle.wasm_validator_states.proofs.ModuleRun.{is_known_section, is_part, AreParts}

others_known : (F : Features) (us : TypesSoFar) (n : ℕ) (bytes : List ℕ) (s t : Spaces) (a b c d e g h k l : Bool)
    → cond a (import_items F us n bytes s) (cond b (function_items us n bytes s) (cond c (table_items F us n bytes s) (cond d (memory_items F n bytes s) (cond e (global_items F us n bytes s) (cond g (export_items F us n bytes s) (cond h (element_items F us n bytes s) (cond k (data_items F us n bytes s) (cond l (tag_items F us n bytes s) (None))))))))) ≡ Some t → (a || (b || (c || (d || (e || (g || (h || (k || (l))))))))) ≡ true
others_known F us n bytes s t true b c d e g h k l x = refl
others_known F us n bytes s t false true c d e g h k l x = refl
others_known F us n bytes s t false false true d e g h k l x = refl
others_known F us n bytes s t false false false true e g h k l x = refl
others_known F us n bytes s t false false false false true g h k l x = refl
others_known F us n bytes s t false false false false false true h k l x = refl
others_known F us n bytes s t false false false false false false true k l x = refl
others_known F us n bytes s t false false false false false false false true l x = refl
others_known F us n bytes s t false false false false false false false false true x = refl
others_known F us n bytes s t false false false false false false false false false x = absurd cc

first_known : (features : WasmFeatures) (p q : TypesSoFar × Spaces) (id n : ℕ) (bytes : List ℕ) (first : Bool)
    → cond first (type_items features n bytes p) (beside (λ us. other_items (features_of features) us id n bytes) p) ≡ Some q
    → (first || ((id == 2) || ((id == 3) || ((id == 4) || ((id == 5) || ((id == 6) || ((id == 7) || ((id == 9) || ((id == 11) || ((id == 13))))))))))) ≡ true
first_known features p q id n bytes true e = refl
first_known features p q id n bytes false e =
    let a = then_some (λ (s : Spaces). Some (p.0, s)) (other_items (features_of features) p.0 id n bytes p.1) q e in
    others_known (features_of features) p.0 n bytes p.1 a.0 (eqb id 2) (eqb id 3) (eqb id 4) (eqb id 5) (eqb id 6) (eqb id 7) (eqb id 9) (eqb id 11) (eqb id 13) a.1

pub section_known : (features : WasmFeatures) (p q : TypesSoFar × Spaces) (id n : ℕ) (bytes : List ℕ) → section_items features id n bytes p ≡ Some q → is_known_section id ≡ true
section_known features p q id n bytes e = first_known features p q id n bytes (eqb id 1) e

-- framed pieces
abbrev IsMade : Piece → Type 0
IsMade (Counted id n bytes) = is_known_section id ≡ true
IsMade (Version number kind) = Unit {0}
IsMade (Custom name bytes) = Unit {0}
IsMade (Start x) = Unit {0}
IsMade (DataCount n) = Unit {0}
IsMade (CodeStart n size) = Unit {0}
IsMade (CodeEntry bytes) = Unit {0}
IsMade (Unknown id bytes) = Unit {0}
IsMade End = Unit {0}

abbrev AreMade : List Piece → Type 0
AreMade [] = Unit {0}
AreMade (p ∷ ps) = IsMade p × AreMade ps

made-append : (ps qs : List Piece) → AreMade ps → AreMade qs → AreMade (ps ++ qs)
made-append [] qs a b = b
made-append (p ∷ ps) qs a b = (a.0, made-append ps qs a.1 b)

past : (n : ℕ) → suc (suc (suc (suc (suc (suc (suc (suc (suc (suc (suc (suc (suc (suc (n)))))))))))))) < 14 → ⊥
past n h = omega (arith, h)

known_id : (id : ℕ) → id ≢ 0 → id ≢ 8 → id ≢ 10 → id ≢ 12 → id < 14 → is_known_section id ≡ true
known_id zero a b c d h = absurd (a refl)
known_id (suc zero) a b c d h = refl
known_id (suc (suc zero)) a b c d h = refl
known_id (suc (suc (suc zero))) a b c d h = refl
known_id (suc (suc (suc (suc zero)))) a b c d h = refl
known_id (suc (suc (suc (suc (suc zero))))) a b c d h = refl
known_id (suc (suc (suc (suc (suc (suc zero)))))) a b c d h = refl
known_id (suc (suc (suc (suc (suc (suc (suc zero))))))) a b c d h = refl
known_id (suc (suc (suc (suc (suc (suc (suc (suc zero)))))))) a b c d h = absurd (b refl)
known_id (suc (suc (suc (suc (suc (suc (suc (suc (suc zero))))))))) a b c d h = refl
known_id (suc (suc (suc (suc (suc (suc (suc (suc (suc (suc zero)))))))))) a b c d h = absurd (c refl)
known_id (suc (suc (suc (suc (suc (suc (suc (suc (suc (suc (suc zero))))))))))) a b c d h = refl
known_id (suc (suc (suc (suc (suc (suc (suc (suc (suc (suc (suc (suc zero)))))))))))) a b c d h = absurd (d refl)
known_id (suc (suc (suc (suc (suc (suc (suc (suc (suc (suc (suc (suc (suc zero))))))))))))) a b c d h = refl
known_id (suc (suc (suc (suc (suc (suc (suc (suc (suc (suc (suc (suc (suc (suc n)))))))))))))) a b c d h = absurd (past n h)

piece_made : (id : ℕ) (bytes : List ℕ) (p : Piece) → id ≢ 10 → piece_of id bytes ≡ Some p → IsMade p
unfolding piece_of
piece_made id bytes p ten e =
    elim (chosen (eqb id 0) _ _ (Some p) e) [
      | inl a ↦ let m = map_some (λ (n : List ℕ × List ℕ). Custom n.0 n.1) (name_at bytes) p a.1 in subst IsMade m.2 tt
      | inr a ↦ elim (chosen (eqb id 8) _ _ (Some p) a.1) [
        | inl b ↦ let m = map_some Start (number_of bytes) p b.1 in subst IsMade m.2 tt
        | inr b ↦ elim (chosen (eqb id 12) _ _ (Some p) b.1) [
          | inl c ↦ let m = map_some DataCount (number_of bytes) p c.1 in subst IsMade m.2 tt
          | inr c ↦ elim (chosen (ltb id 14) _ _ (Some p) c.1) [
            | inl d ↦
                let m = map_some (λ (n : ℕ × List ℕ). Counted id n.0 n.1) (u32_at bytes) p d.1 in
                subst IsMade m.2 (known_id id (eqb-false id 0 a.0) (eqb-false id 8 b.0) ten (eqb-false id 12 c.0) (ltb-true id 14 d.0))
            | inr d ↦ let same : Unknown id bytes ≡ p = cc in subst IsMade same tt
          ]
        ]
      ]
    ]

-- a piece that isn't a body
abbrev IsAlone : Piece → Type 0
IsAlone (CodeEntry bytes) = ⊥
IsAlone (Counted id n bytes) = Unit {0}
IsAlone (Version number kind) = Unit {0}
IsAlone (Custom name bytes) = Unit {0}
IsAlone (Start x) = Unit {0}
IsAlone (DataCount n) = Unit {0}
IsAlone (CodeStart n size) = Unit {0}
IsAlone (Unknown id bytes) = Unit {0}
IsAlone End = Unit {0}

alone_started : (p : Piece) (b : Bool) → IsAlone p → HasStarted b (p ∷ [])
alone_started (CodeEntry bytes) b a = absurd a
alone_started (Counted id n bytes) b a = tt
alone_started (Version number kind) b a = tt
alone_started (Custom name bytes) b a = tt
alone_started (Start x) b a = tt
alone_started (DataCount n) b a = tt
alone_started (CodeStart n size) b a = tt
alone_started (Unknown id bytes) b a = tt
alone_started End b a = tt

piece_alone : (id : ℕ) (bytes : List ℕ) (p : Piece) → piece_of id bytes ≡ Some p → IsAlone p
unfolding piece_of
piece_alone id bytes p e =
    elim (chosen (eqb id 0) _ _ (Some p) e) [
      | inl a ↦ let m = map_some (λ (n : List ℕ × List ℕ). Custom n.0 n.1) (name_at bytes) p a.1 in subst IsAlone m.2 tt
      | inr a ↦ elim (chosen (eqb id 8) _ _ (Some p) a.1) [
        | inl b ↦ let m = map_some Start (number_of bytes) p b.1 in subst IsAlone m.2 tt
        | inr b ↦ elim (chosen (eqb id 12) _ _ (Some p) b.1) [
          | inl c ↦ let m = map_some DataCount (number_of bytes) p c.1 in subst IsAlone m.2 tt
          | inr c ↦ elim (chosen (ltb id 14) _ _ (Some p) c.1) [
            | inl d ↦ let m = map_some (λ (n : ℕ × List ℕ). Counted id n.0 n.1) (u32_at bytes) p d.1 in subst IsAlone m.2 tt
            | inr d ↦ let same : Unknown id bytes ≡ p = cc in subst IsAlone same tt
          ]
        ]
      ]
    ]

-- the bodies of a code section come behind its start
bodies_started : (bs : List (List ℕ)) → HasStarted true (map CodeEntry bs)
bodies_started [] = tt
bodies_started (b ∷ bs) = (refl, bodies_started bs)

code_started : (bytes : List ℕ) (qs : List Piece) (b : Bool) → code_pieces bytes ≡ Some qs → HasStarted b qs
code_started bytes qs b e =
    let n = then_some (λ (n : ℕ × List ℕ). option_map (λ (bs : List (List ℕ)). CodeStart n.0 (length n.1) ∷ map CodeEntry bs) (items_at sized_at n.0 n.1)) (u32_at bytes) qs e in
    let m = map_some (λ (bs : List (List ℕ)). CodeStart n.0.0 (length n.0.1) ∷ map CodeEntry bs) (items_at sized_at n.0.0 n.0.1) qs n.2 in
    subst (HasStarted b) m.2 (bodies_started m.0)

one_started : (s : ℕ × List ℕ) (qs : List Piece) (b : Bool) → pieces_of s ≡ Some qs → HasStarted b qs
one_started s qs b e =
    elim (chosen (eqb s.0 10) _ _ (Some qs) e) [
      | inl a ↦ code_started s.1 qs b a.1
      | inr a ↦ let m = map_some (λ (p : Piece). p ∷ []) (piece_of s.0 s.1) qs a.1 in subst (HasStarted b) m.2 (alone_started m.0 b (piece_alone s.0 s.1 m.0 m.1))
    ]

sections_started : (ss : List (ℕ × List ℕ)) (ps : List Piece) → all_pieces ss ≡ Some ps → (b : Bool) → HasStarted b ps
sections_started [] ps e b = let none : [] ≡ ps = cc in subst (HasStarted b) none tt
sections_started (s ∷ ss) ps e b =
    let q = then_some (λ (rs : List Piece). option_map (λ (xs : List Piece). rs ++ xs) (all_pieces ss)) (pieces_of s) ps e in
    let r = map_some (λ (xs : List Piece). q.0 ++ xs) (all_pieces ss) ps q.2 in
    subst (HasStarted b) r.2 (started-append b q.0 r.0 (one_started s q.0 b q.1) (sections_started ss r.0 r.1))

pub framed_started : (bytes : List ℕ) (pieces : List Piece) (f : IsFramed bytes pieces) → HasStarted false f.others
framed_started bytes pieces f = sections_started f.sections f.others f.made false

bodies_made : (bs : List (List ℕ)) → AreMade (map CodeEntry bs)
bodies_made [] = tt
bodies_made (b ∷ bs) = (tt, bodies_made bs)

code_made : (bytes : List ℕ) (qs : List Piece) → code_pieces bytes ≡ Some qs → AreMade qs
code_made bytes qs e =
    let n = then_some (λ (n : ℕ × List ℕ). option_map (λ (bs : List (List ℕ)). CodeStart n.0 (length n.1) ∷ map CodeEntry bs) (items_at sized_at n.0 n.1)) (u32_at bytes) qs e in
    let m = map_some (λ (bs : List (List ℕ)). CodeStart n.0.0 (length n.0.1) ∷ map CodeEntry bs) (items_at sized_at n.0.0 n.0.1) qs n.2 in
    subst AreMade m.2 (tt, bodies_made m.0)

one_made : (s : ℕ × List ℕ) (qs : List Piece) → pieces_of s ≡ Some qs → AreMade qs
one_made s qs e =
    elim (chosen (eqb s.0 10) _ _ (Some qs) e) [
      | inl a ↦ code_made s.1 qs a.1
      | inr a ↦ let m = map_some (λ (p : Piece). p ∷ []) (piece_of s.0 s.1) qs a.1 in subst AreMade m.2 (piece_made s.0 s.1 m.0 (eqb-false s.0 10 a.0) m.1, tt)
    ]

sections_made : (ss : List (ℕ × List ℕ)) (ps : List Piece) → all_pieces ss ≡ Some ps → AreMade ps
sections_made [] ps e = let none : [] ≡ ps = cc in subst AreMade none tt
sections_made (s ∷ ss) ps e =
    let q = then_some (λ (rs : List Piece). option_map (λ (xs : List Piece). rs ++ xs) (all_pieces ss)) (pieces_of s) ps e in
    let r = map_some (λ (xs : List Piece). q.0 ++ xs) (all_pieces ss) ps q.2 in
    subst AreMade r.2 (made-append q.0 r.0 (one_made s q.0 q.1) (sections_made ss r.0 r.1))

-- those that are allowed are parts
one_part : (F : Features) (p : Piece) → IsMade p → IsAllowedPiece F p → is_part p ≡ true
one_part F (Version number kind) m a = refl
one_part F (Custom name bytes) m a = refl
one_part F (Counted id n bytes) m a = m
one_part F (Start x) m a = refl
one_part F (DataCount n) m a = refl
one_part F (CodeStart n size) m a = refl
one_part F (CodeEntry bytes) m a = refl
one_part F (Unknown id bytes) m a = absurd a
one_part F End m a = refl

all_parts : (F : Features) (ps : List Piece) → AreMade ps → AreInner ps → All (IsAllowedPiece F) ps → AreParts ps
all_parts F [] m i a = tt
all_parts F (p ∷ ps) m i a = ((one_part F p m.0 (All-head (IsAllowedPiece F) p ps a), i.0), all_parts F ps m.1 i.1 (All-tail (IsAllowedPiece F) p ps a))

pub framed_parts : (F : Features) (bytes : List ℕ) (pieces : List Piece) (f : IsFramed bytes pieces) → All (IsAllowedPiece F) f.others → AreParts f.others
framed_parts F bytes pieces f a = all_parts F f.others (sections_made f.sections f.others f.made) (others_inner bytes pieces f) a
