-- Code gives least types from some: those that the operands at the machine's end stand for.
use Rattle.std.proofs.Common.{◌≡◌, refl, sym, subst, ◌∙◌, ℕ, false, List, [], ◌∷◌, append-nil, length, Some}
use Rattle.wasm_spec_steps.specs.WasmSpecRules.WasmSpec.Syntax.{Val}
use Rattle.wasm_spec_steps.specs.WasmSpecRules.WasmSpec.MatchingTests.{World}
use Rattle.wasm_spec_steps.specs.WasmSpecRules.Signatures.{Signature}
use Rattle.wasm_spec_steps.specs.Bodies.{Surroundings}
use Rattle.wasm_spec_instructions.specs.Code.{Code, done, simply, enclosing, choosing_between, handling, delegating_to, Handlers, last_handler, catch_before, IsProper, AreProper}
use Rattle.wasm_spec_instructions.specs.ValueTypes.{ValueType, vals, Match, none, IsInOrder, AreUnshared}
use Rattle.wasm_spec_instructions.specs.Scopes.{Scope}
use Rattle.wasm_spec_instructions.specs.Sequences.{Typed, subsumption_rule}
use Rattle.wasm_spec_instructions.specs.Laws.{HasNoSharing}
use Rattle.wasm_spec_instructions.specs.Consequences.{HaveNoSharing, HasLeastResults, ResultsArePrincipal}
use Rattle.wasm_spec_instructions.proofs.Attempts.{the_same}
use Rattle.wasm_spec_instructions.proofs.FrameMachine.{Stack, fresh, check}
use Rattle.wasm_spec_instructions.proofs.OperandFits.{onto, rev, rev-rev, Fits, FitsStack, match-onto, match-itself, push-complete, fresh-sound}
use Rattle.wasm_spec_instructions.proofs.Tables.{top, length-rev, least-stand, top-unshared, unshared-onto, AllUnshared}
use Rattle.wasm_spec_instructions.proofs.RuleCompleteness.{over, Led, check-complete}
use Rattle.wasm_spec_instructions.proofs.Typing.{unshared, Fine, AllFine, Found, Sound, check-sound}
use Rattle.wasm_spec_instructions.proofs.ScopeGrowth.{proper}

mutual
  fine : (c : Code) → IsProper c → Fine unshared c
  fine done w = tt
  fine (simply i c) w = (w.0, refl, fine c w.1)
  fine (enclosing o b c) w = (fine b w.0, fine c w.1)
  fine (choosing_between g b d c) w = (fine b w.0, fine d w.1, fine c w.2)
  fine (handling g b hs c) w = (fine b w.0, all-fine hs w.1, fine c w.2)
  fine (delegating_to l g b c) w = (fine b w.0, fine c w.1)

  all-fine : (hs : Handlers) → AreProper hs → AllFine unshared hs
  all-fine (last_handler x b) w = fine b w
  all-fine (catch_before x b hs) w = (fine b w.0, all-fine hs w.1)

module _ {R : Type 0} (W : World R) where
  all-unshared : (labels : List (List (Val R))) → HaveNoSharing W labels → AllUnshared W labels
  all-unshared [] h = tt
  all-unshared (ls ∷ labels) h = (h.0, all-unshared labels h.1)

  module _ (o : IsInOrder W) where
    -- the least types match those that the operands stand for
    least-below : (q : Stack R) (us : List (Val R)) (n : ℕ) → length us ≡ n → AreUnshared W us → FitsStack W q (onto (vals us) []) → Match W (rev (top n q.items)) (vals us)
    least-below q us n e h f =
        let m : Match W (top (length (rev (vals us))) q.items) (rev (vals us)) =
        top-unshared W o q.unreached q.items (rev (vals us)) [] (unshared-onto W us [] h tt)
        (subst (λ (z : List (ValueType R)). Fits W q.unreached q.items z) (sym (append-nil (rev (vals us)))) f) in
        subst (λ (z : List (ValueType R)). Match W (rev (top n q.items)) z) (rev-rev (vals us))
        (match-onto W (subst (λ (j : ℕ). Match W (top j q.items) (rev (vals us))) (length-rev us ∙ e) m) none)

module _ {R : Type 0} (W : World R) (o : IsInOrder W) (B : Surroundings R) (C : Scope R) (c : Code) (ts : List (Val R)) where
  g : Signature R
  g = record { takes = ts; gives = [] }

  ended : (us : List (Val R)) (xs : List ℕ) → Typed W B C c (vals ts) xs (vals us) → Led W o B C C.sets c (fresh g) (onto (vals us) []) xs
  unfolding g
  ended us xs t = check-complete W o B t C.sets (fresh g) [] (λ m e. e) (push-complete W o false ts [] [] tt)

  from_least : (n : HasNoSharing W B.features) (q : Stack R) (zs : List (ValueType R)) → HaveNoSharing W C.labels → IsProper c → check W B C c (fresh g) ≡ Some q → FitsStack W q zs → Typed W B C c (vals ts) [] (rev zs)
  unfolding Sound g
  from_least n q zs h w e f =
      let d : Found W o B (over C.sets C) c (fresh g) zs =
      check-sound W o B unshared c C n (fine c w) (all-unshared W C.labels h) C.sets (fresh g) q zs (λ m e. e) tt e f in
      subsumption_rule (fresh-sound W g d.before d.fits) (match-itself W o (rev zs)) tt d.typed

  least_results : (us : List (Val R)) (xs : List ℕ) → HasNoSharing W B.features → HaveNoSharing W C.labels → AreUnshared W us → Typed W B C c (vals ts) xs (vals us) → HasLeastResults W B C c ts (length us)
  unfolding g
  least_results us xs n h k t =
      let a = ended us xs t in
      record {
        results = rev (top (length us) a.end.items);
        given = from_least n a.end (top (length us) a.end.items) h (proper W B t) a.leads
            (subst (λ (j : ℕ). FitsStack W a.end (top j a.end.items)) (length-rev us) (least-stand W o a.end.unreached a.end.items (rev (vals us)) a.fits));
        least = λ vs ys e l s.
            let b = ended vs ys s in
            least-below W o a.end vs (length us) e l (subst (λ (z : Stack R). FitsStack W z (onto (vals vs) [])) (the_same b.end a.end (sym b.leads ∙ a.leads)) b.fits);
      }

pub results_are_principal : (R : Type 0) → ResultsArePrincipal R
results_are_principal R W B C c ts us xs o n h k t = least_results W o B C c ts us xs n h k t
