-- Code and then code is typed as one instruction and then others is.
use Rattle.std.proofs.Common.{◌≡◌, refl, sym, ap, subst, ℕ, Bool, true, false, ◌||◌, ◌==◌, List, [], ◌∷◌, ◌++◌, append_assoc, append-nil, slice_get}
use Rattle.std.proofs.lemmas.Bool.Decides.{Decides-eqb}
use Rattle.wasm_spec_steps.specs.WasmSpecRules.WasmSpec.MatchingTests.{World}
use Rattle.wasm_spec_steps.specs.WasmSpecRules.Attempts.{passes, among}
use Rattle.wasm_spec_steps.specs.Bodies.{Surroundings}
use Rattle.wasm_spec_instructions.specs.Code.{Code, done, simply, enclosing, choosing_between, handling, delegating_to, and_then, is_one}
use Rattle.wasm_spec_instructions.specs.ValueTypes.{ValueType, IsInOrder}
use Rattle.wasm_spec_instructions.specs.Scopes.{Scope, behind, is_set, AreSet}
use Rattle.wasm_spec_instructions.specs.Sequences.{Typed, empty_rule, instruction_rule, block_rule, loop_rule, if_rule, if_else_rule, try_table_rule, try_rule, handling_rule, delegating_rule, sequence_rule, frame_rule, subsumption_rule}
use Rattle.wasm_spec_instructions.specs.Consequences.{SequencesCompose}
use Rattle.wasm_spec_instructions.proofs.Attempts.{no}
use Rattle.wasm_spec_instructions.proofs.OperandFits.{match-append, match-itself}
use Rattle.wasm_spec_instructions.proofs.LocalSets.{Covers, covers-more, set-covered}
use Rattle.wasm_spec_instructions.proofs.ScopeGrowth.{typed-grows}

then-assoc : (a b d : Code) → and_then (and_then a b) d ≡ and_then a (and_then b d)
then-assoc done b d = refl
then-assoc (simply i c) b d = ap (simply i) (then-assoc c b d)
then-assoc (enclosing o e c) b d = ap (enclosing o e) (then-assoc c b d)
then-assoc (choosing_between g e f c) b d = ap (choosing_between g e f) (then-assoc c b d)
then-assoc (handling g e hs c) b d = ap (handling g e hs) (then-assoc c b d)
then-assoc (delegating_to l g e c) b d = ap (delegating_to l g e) (then-assoc c b d)

or-second : (f c a : Bool) → c ≡ true → (f || (c || a)) ≡ true
or-second true c a e = refl
or-second false true a e = refl
or-second false false a e = no e

module _ {R : Type 0} (W : World R) (B : Surroundings R) where
  own-set : (x : ℕ) (zs : List ℕ) → is_set W B x (x ∷ zs) ≡ true
  own-set x zs = or-second (passes (λ l. l.set) (slice_get B.locals x)) (x == x) (among x zs) ((Decides-eqb x x).1 refl)

  more-set : (ys X Y : List ℕ) → Covers W B X Y → AreSet W B X ys → AreSet W B Y ys
  more-set [] X Y v a = tt
  more-set (y ∷ ys) X Y v a = (v y a.0, more-set ys X Y v a.1)

  front-set : (ys zs : List ℕ) → AreSet W B (ys ++ zs) ys
  front-set [] zs = tt
  front-set (y ∷ ys) zs = (own-set y (ys ++ zs), more-set ys (ys ++ zs) (y ∷ (ys ++ zs)) (covers-more W B (y ∷ []) (ys ++ zs)) (front-set ys zs))

  both-set : (xs ys Z : List ℕ) → AreSet W B Z xs → AreSet W B Z ys → AreSet W B Z (xs ++ ys)
  both-set [] ys Z a b = b
  both-set (x ∷ xs) ys Z a b = (a.0, both-set xs ys Z a.1 b)

  module _ (o : IsInOrder W) where
    -- over operands that the first part doesn't touch
    Composed : Code → Scope R → Code → List (ValueType R) → List ℕ → List (ValueType R) → Type 0
    Composed d C c ts xs us =
        (low vs : List (ValueType R)) (ys : List ℕ) → Typed W B (behind xs C) d (low ++ us) ys vs → Typed W B C (and_then c d) (low ++ ts) (ys ++ xs) vs

    alone : (d : Code) {C : Scope R} {c : Code} {ts us : List (ValueType R)} {xs : List ℕ} → is_one c ≡ true → Typed W B C c ts xs us → Composed d C c ts xs us
    unfolding Composed
    alone d i t low vs ys s = sequence_rule i (frame_rule low t) s

    compose : (d : Code) {C : Scope R} {c : Code} {ts us : List (ValueType R)} {xs : List ℕ} → Typed W B C c ts xs us → Composed d C c ts xs us
    unfolding Composed
    compose d (empty_rule {C = C}) low vs ys s = subst (λ (z : List ℕ). Typed W B C d (low ++ []) z vs) (sym (append-nil ys)) s
    compose d (instruction_rule r) low vs ys s = alone d refl (instruction_rule r) low vs ys s
    compose d (block_rule b g h t) low vs ys s = alone d refl (block_rule b g h t) low vs ys s
    compose d (loop_rule b g h t) low vs ys s = alone d refl (loop_rule b g h t) low vs ys s
    compose d (if_rule b g h t e) low vs ys s = alone d refl (if_rule b g h t e) low vs ys s
    compose d (if_else_rule b g h t e) low vs ys s = alone d refl (if_else_rule b g h t e) low vs ys s
    compose d (try_table_rule b cs g h t) low vs ys s = alone d refl (try_table_rule b cs g h t) low vs ys s
    compose d (try_rule b g h t) low vs ys s = alone d refl (try_rule b g h t) low vs ys s
    compose d (handling_rule b g h t i) low vs ys s = alone d refl (handling_rule b g h t i) low vs ys s
    compose d (delegating_rule b g h t e) low vs ys s = alone d refl (delegating_rule b g h t e) low vs ys s
    compose d (sequence_rule {C = C} {c = a} {d = b} {ts = ts} {us = ms} {vs = us} {xs = xs} {ys = zs} i t u) low vs ys s =
        let k : Typed W B (behind xs C) (and_then b d) (low ++ ms) (ys ++ zs) vs =
        compose d u low vs ys (subst (λ (z : List ℕ). Typed W B (record { labels = C.labels; caught = C.caught; returns = C.returns; sets = z }) d (low ++ us) ys vs) (append_assoc zs xs C.sets) s) in
        subst (λ (z : List ℕ). Typed W B C (and_then (and_then a b) d) (low ++ ts) z vs) (append_assoc ys zs xs)
        (subst (λ (z : Code). Typed W B C z (low ++ ts) ((ys ++ zs) ++ xs) vs) (sym (then-assoc a b d)) (sequence_rule i (frame_rule low t) k))
    compose d (frame_rule {C = C} {c = c} {ts = ts} {us = us} {xs = xs} below t) low vs ys s =
        subst (λ (z : List (ValueType R)). Typed W B C (and_then c d) z (ys ++ xs) vs) (append_assoc low below ts)
        (compose d t (low ++ below) vs ys (subst (λ (z : List (ValueType R)). Typed W B (behind xs C) d z ys vs) (sym (append_assoc low below us)) s))
    compose d (subsumption_rule {C = C} {c = c} {ts = ts} {us = us} {vs = fs} {ws = gs} {xs = xs} {ys = zs} m n a t) low vs ys s =
        let v : Covers W B (zs ++ C.sets) (xs ++ C.sets) = set-covered W B zs (xs ++ C.sets) C.sets (xs ++ C.sets) a (λ k e. e) (covers-more W B xs C.sets) in
        let r : Typed W B (behind xs C) d (low ++ gs) ys vs = typed-grows W B (behind xs C) (record { labels = λ k ls e. e; caught = λ k e. e; returns = λ rs e. e; sets = v }) s in
        let q : Typed W B (behind xs C) d (low ++ us) ys vs =
        subsumption_rule (match-append W (match-itself W o low) n) (match-itself W o vs) (front-set ys (xs ++ C.sets)) r in
        let e : AreSet W B (ys ++ (xs ++ C.sets)) (ys ++ zs) =
        both-set ys zs (ys ++ (xs ++ C.sets)) (front-set ys (xs ++ C.sets)) (more-set zs (xs ++ C.sets) (ys ++ (xs ++ C.sets)) (covers-more W B ys (xs ++ C.sets)) a) in
        subsumption_rule (match-append W (match-itself W o low) m) (match-itself W o vs)
        (subst (λ (z : List ℕ). AreSet W B z (ys ++ zs)) (sym (append_assoc ys xs C.sets)) e)
        (compose d t low vs ys q)

pub sequences_compose : (R : Type 0) → SequencesCompose R
unfolding Composed
sequences_compose R W B C c d ts us vs xs ys o t s = compose W B o d t [] vs ys s
