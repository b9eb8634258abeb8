-- A renaming that is one-to-one on the identities that matter changes no verdict. Those that don't matter are taken away first: both
-- sides are renamings, one-to-one on all identities, of the same code over identities where the others are one.
use Rattle.std.proofs.Common.{◌≡◌, refl, sym, ap, ◌∙◌, zero, suc, arith, ℕ, Bool, true, false, List, [], ◌∷◌, ◌++◌, Option, Some, None, option_map, is_some}
use Rattle.std.specs.List.{Contains}
use Rattle.std.proofs.lemmas.List.Elements.{Contains-append_left, Contains-append_right}
use Rattle.std.proofs.lemmas.Option.{same_Some, none-some}
use Rattle.wasm_operators.specs.Control.{Block}
use Rattle.wasm_operators.specs.Maps.{map_block}
use Rattle.wasm_operators.specs.Instructions.{Instruction}
use Rattle.wasm_spec_steps.specs.Bodies.{Surroundings, map_surroundings}
use Rattle.wasm_spec_steps.specs.Machine.{State, map_state}
use Rattle.wasm_spec_steps.specs.Steps.{step, steps, is_typed}
use Rattle.wasm_spec_steps.specs.Identities.{refs_surroundings, refs_block, refs_state, IsOneToOneOn}
use Rattle.wasm_spec_steps.specs.Laws.{VerdictsRename}
use Rattle.wasm_spec_steps.proofs.Attempts.{is_some-map}
use Rattle.wasm_spec_steps.proofs.StepsRenamed.{step-map, steps-map, is_typed-map}
use Rattle.wasm_spec_steps.proofs.SyntaxAgreement.{Contains-behind, AgreeOn, agree_surroundings, agree_block, agree_state, after, surroundings-map, block-map, state-map}

-- the test for the same identity where all others are one
abbrev same_kept : {R : Type 0} → (R → R → Bool) → Option R → Option R → Bool
same_kept same (Some a) (Some b) = same a b
same_kept same None None = true
same_kept same (Some a) None = false
same_kept same None (Some b) = false

abbrev kept_if : {R : Type 0} {b a : R} → Dec (b ≡ a) → Option R → Option R
kept_if {a = a} (yes e) o = Some a
kept_if (no h) o = o

module _ {R : Type 0} (decides : Discrete R) where
  -- an identity, if it is one of these
  abbrev keep : List R → R → Option R
  keep [] a = None
  keep (b ∷ bs) a = kept_if (decides b a) (keep bs a)

  kept_by : (b a : R) (d : Dec (b ≡ a)) (bs : List R) → Contains (b ∷ bs) a → (Contains bs a → keep bs a ≡ Some a) → kept_if d (keep bs a) ≡ Some a
  kept_by b a (yes e) bs c rest = refl
  kept_by b a (no h) bs (zero, l, e) rest = absurd (h e)
  kept_by b a (no h) bs (suc k, l, e) rest = rest (k, omega (arith, l), e)

  kept : (ids : List R) (a : R) → Contains ids a → keep ids a ≡ Some a
  kept [] a c = absurd (omega (arith, c.1))
  kept (b ∷ bs) a c = kept_by b a (decides b a) bs c (kept bs a)

  inside_by : (b a c : R) (d : Dec (b ≡ a)) (bs : List R) → (keep bs a ≡ Some c → Contains bs c) → kept_if d (keep bs a) ≡ Some c → Contains (b ∷ bs) c
  inside_by b a c (yes e) bs rest p = (zero, omega arith, e ∙ same_Some a c p)
  inside_by b a c (no h) bs rest p = Contains-behind b c bs (rest p)

  inside : (ids : List R) (a c : R) → keep ids a ≡ Some c → Contains ids c
  inside [] a c p = absurd (none-some c p)
  inside (b ∷ bs) a c p = inside_by b a c (decides b a) bs (inside bs a c) p

module _ {R S : Type 0} (decides : Discrete R) (same : R → R → Bool) (renamed : S → S → Bool) (f : R → S) (ids : List R) (one_to_one : IsOneToOneOn same renamed f ids) where
  -- identities that matter, and the test on all
  abbrev mattering : R → Option R
  mattering a = keep decides ids a

  abbrev same_mattering : R → R → Bool
  same_mattering a b = same_kept same (mattering a) (mattering b)

  abbrev renamed_mattering : R → Option S
  renamed_mattering a = option_map f (mattering a)

  both_kept : (x y : Option R) → ((c : R) → x ≡ Some c → Contains ids c) → ((c : R) → y ≡ Some c → Contains ids c) → same_kept renamed (option_map f x) (option_map f y) ≡ same_kept same x y
  both_kept (Some a) (Some b) p q = one_to_one a b (p a refl) (q b refl)
  both_kept (Some a) None p q = refl
  both_kept None (Some b) p q = refl
  both_kept None None p q = refl

  keeps_test : (a b : R) → same_kept renamed (renamed_mattering a) (renamed_mattering b) ≡ same_mattering a b
  keeps_test a b = both_kept (mattering a) (mattering b) (inside decides ids a) (inside decides ids b)

  agrees : (refs : List R) → ((a : R) → Contains refs a → Contains ids a) → AgreeOn mattering Some refs
  agrees refs within a c = kept decides ids a (within a c)

  agrees_renamed : (refs : List R) → ((a : R) → Contains refs a → Contains ids a) → AgreeOn (after Some f) renamed_mattering refs
  agrees_renamed refs within a c = ap (option_map f) (sym (kept decides ids a (within a c)))

  module _ (B : Surroundings R) (within : (a : R) → Contains (refs_surroundings B) a → Contains ids a) where
    there : map_surroundings Some (map_surroundings f B) ≡ map_surroundings renamed_mattering B
    there = surroundings-map Some f B ∙ agree_surroundings (after Some f) renamed_mattering B (agrees_renamed (refs_surroundings B) within)

    here : map_surroundings mattering B ≡ map_surroundings Some B
    here = agree_surroundings mattering Some B (agrees (refs_surroundings B) within)

    typed_kept : (b : Block R) → ((a : R) → Contains (refs_block b) a → Contains ids a) → (ops : List (Instruction ℕ)) → is_typed renamed (map_surroundings f B) (map_block f b) ops ≡ is_typed same B b ops
    typed_kept b in_block ops =
        sym (is_typed-map renamed (same_kept renamed) Some (λ x y. refl) (map_surroundings f B) (map_block f b) ops)
        ∙ (λ i. is_typed (same_kept renamed) (there i) ((block-map Some f b ∙ agree_block (after Some f) renamed_mattering b (agrees_renamed (refs_block b) in_block)) i) ops)
        ∙ is_typed-map same_mattering (same_kept renamed) renamed_mattering keeps_test B b ops
        ∙ sym (is_typed-map same_mattering (same_kept same) mattering (λ x y. refl) B b ops)
        ∙ (λ i. is_typed (same_kept same) (here i) (agree_block mattering Some b (agrees (refs_block b) in_block) i) ops)
        ∙ is_typed-map same (same_kept same) Some (λ x y. refl) B b ops

    module _ (s : State R) (in_state : (a : R) → Contains (refs_state s) a → Contains ids a) where
      state_there : map_state Some (map_state f s) ≡ map_state renamed_mattering s
      state_there = state-map Some f s ∙ agree_state (after Some f) renamed_mattering s (agrees_renamed (refs_state s) in_state)

      state_here : map_state mattering s ≡ map_state Some s
      state_here = agree_state mattering Some s (agrees (refs_state s) in_state)

      step_kept : (op : Instruction ℕ) → is_some (step renamed (map_surroundings f B) op (map_state f s)) ≡ is_some (step same B op s)
      step_kept op =
          sym (ap is_some (step-map renamed (same_kept renamed) Some (λ x y. refl) (map_surroundings f B) op (map_state f s)) ∙ is_some-map (map_state Some) (step renamed (map_surroundings f B) op (map_state f s)))
          ∙ (λ i. is_some (step (same_kept renamed) (there i) op (state_there i)))
          ∙ (ap is_some (step-map same_mattering (same_kept renamed) renamed_mattering keeps_test B op s) ∙ is_some-map (map_state renamed_mattering) (step same_mattering B op s))
          ∙ sym (ap is_some (step-map same_mattering (same_kept same) mattering (λ x y. refl) B op s) ∙ is_some-map (map_state mattering) (step same_mattering B op s))
          ∙ (λ i. is_some (step (same_kept same) (here i) op (state_here i)))
          ∙ (ap is_some (step-map same (same_kept same) Some (λ x y. refl) B op s) ∙ is_some-map (map_state Some) (step same B op s))

      steps_kept : (ops : List (Instruction ℕ)) → is_some (steps renamed (map_surroundings f B) ops (map_state f s)) ≡ is_some (steps same B ops s)
      steps_kept ops =
          sym (ap is_some (steps-map renamed (same_kept renamed) Some (λ x y. refl) (map_surroundings f B) ops (map_state f s)) ∙ is_some-map (map_state Some) (steps renamed (map_surroundings f B) ops (map_state f s)))
          ∙ (λ i. is_some (steps (same_kept renamed) (there i) ops (state_there i)))
          ∙ (ap is_some (steps-map same_mattering (same_kept renamed) renamed_mattering keeps_test B ops s) ∙ is_some-map (map_state renamed_mattering) (steps same_mattering B ops s))
          ∙ sym (ap is_some (steps-map same_mattering (same_kept same) mattering (λ x y. refl) B ops s) ∙ is_some-map (map_state mattering) (steps same_mattering B ops s))
          ∙ (λ i. is_some (steps (same_kept same) (here i) ops (state_here i)))
          ∙ (ap is_some (steps-map same (same_kept same) Some (λ x y. refl) B ops s) ∙ is_some-map (map_state Some) (steps same B ops s))

pub verdicts_rename : {R S : Type 0} → VerdictsRename R S
verdicts_rename decides same renamed f B = record {
  step = λ op s o.
      let ids : List _ = refs_surroundings B ++ refs_state s in
      step_kept decides same renamed f ids o B (λ a c. Contains-append_left (refs_surroundings B) (refs_state s) a c) s (λ a c. Contains-append_right (refs_surroundings B) (refs_state s) a c) op;
  steps = λ ops s o.
      let ids : List _ = refs_surroundings B ++ refs_state s in
      steps_kept decides same renamed f ids o B (λ a c. Contains-append_left (refs_surroundings B) (refs_state s) a c) s (λ a c. Contains-append_right (refs_surroundings B) (refs_state s) a c) ops;
  typed = λ b ops o.
      let ids : List _ = refs_surroundings B ++ refs_block b in
      typed_kept decides same renamed f ids o B (λ a c. Contains-append_left (refs_surroundings B) (refs_block b) a c) b (λ a c. Contains-append_right (refs_surroundings B) (refs_block b) a c) ops;
}
