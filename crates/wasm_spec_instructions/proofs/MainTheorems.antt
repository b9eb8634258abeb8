-- The machine accepts exactly what the rules type.
use Rattle.std.proofs.Common.{◌≡◌, refl, sym, ap, subst, ◌∙◌, ℕ, Bool, true, false, ◌&&◌, List, [], ◌∷◌, ◌++◌, Some}
use Rattle.wasm_spec_steps.specs.WasmSpecRules.WasmSpec.Syntax.{Val}
use Rattle.wasm_spec_steps.specs.WasmSpecRules.WasmSpec.MatchingTests.{World}
use Rattle.wasm_spec_steps.specs.WasmSpecRules.Attempts.{◌>>=◌, passes}
use Rattle.wasm_spec_steps.specs.WasmSpecRules.Signatures.{Signature}
use Rattle.wasm_operators.specs.Control.{Block}
use Rattle.wasm_operators.specs.Instructions as instruction
use Rattle.wasm_operators.specs.Instructions.{Instruction}
use Rattle.wasm_spec_steps.specs.Bodies.{Surroundings}
use Rattle.wasm_spec_steps.specs.Meanings.{block_signature}
use Rattle.wasm_spec_steps.specs.Shapes.{shape_of}
use Rattle.wasm_spec_steps.specs.Steps.{is_finished, start, step_in, steps_in}
use Rattle.wasm_spec_steps.specs.Machine.{State}
use Rattle.wasm_spec_steps.proofs.LegacyRuns.{legacy_needs_features}
use Rattle.wasm_spec_instructions.specs.Code.{Code, delegate_, else_, done, simply, enclosing, choosing_between, handling, delegating_to, Handlers, last_handler, catch_before, end_, flatten, flatten_handlers, IsProper, AreProper}
use Rattle.wasm_spec_instructions.specs.ValueTypes.{ValueType, vals, IsInOrder}
use Rattle.wasm_spec_instructions.specs.Expressions.{body_scope, IsTypedExpression}
use Rattle.wasm_spec_instructions.specs.Sequences.{Typed}
use Rattle.wasm_spec_instructions.specs.Laws.{AreServedAs, is_legacy, AreWithoutLegacy, AcceptedCodeIsWithoutLegacy, Soundness, SoundnessWithoutSharing, Completeness}
use Rattle.wasm_spec_instructions.proofs.Attempts.{absent, bind-at, bind-gives, passes-gives}
use Rattle.wasm_spec_instructions.proofs.FrameMachine.{stack, lend, check}
use Rattle.wasm_spec_instructions.proofs.OutermostFrame.{left, whole}
use Rattle.wasm_spec_instructions.proofs.OperandFits.{onto, rev, rev-rev, empty-fits, end-complete, end-sound}
use Rattle.wasm_spec_instructions.proofs.RuleCompleteness.{check-complete}
use Rattle.wasm_spec_instructions.proofs.Typing.{Mode, without, unshared, serves, Fine, AllFine, IsSafe, IsPlain, Allows, Found, Sound, check-sound}
use Rattle.wasm_spec_instructions.proofs.StructuredCode.{parsed}

pub completeness : (R : Type 0) → Completeness R
completeness R W B b g ops o e t =
    let f = check-complete W o B t.typed [] (stack [] false []) [] (λ m h. h) tt in
    let k = end-complete W g.gives f.end f.fits in
    ap (λ (xs : List (Instruction ℕ)). passes is_finished (steps_in W B xs (start b))) t.is.is_written
    ∙ ap (passes is_finished) (whole W B b g e t.code t.is.is_proper ∙ bind-at (λ q. lend W g.gives q >>= λ z. Some (left W B b g e)) f.leads (bind-at (λ z. Some (left W B b g e)) k.1 refl))

-- each instruction of the code is served
module _ (m : Mode) where
  abbrev AllServed : List (Instruction ℕ) → Type 0
  AllServed [] = Unit {0}
  AllServed (i ∷ ops) = (serves m (shape_of i) ≡ true) × AllServed ops

  served-behind : (xs ys : List (Instruction ℕ)) → AllServed (xs ++ ys) → AllServed xs × AllServed ys
  served-behind [] ys h = (tt, h)
  served-behind (x ∷ xs) ys h = let f = served-behind xs ys h.1 in ((h.0, f.0), f.1)

  mutual
    fine : (c : Code) → IsProper c → AllServed (flatten c) → Fine m c
    fine done w s = tt
    fine (simply i c) w s = (w.0, s.0, fine c w.1 s.1)
    fine (enclosing o b c) w s = let f = served-behind (flatten b) (end_ ∷ flatten c) s.1 in (fine b w.0 f.0, fine c w.1 f.1.1)
    fine (choosing_between g b d c) w s =
        let f = served-behind (flatten b) (else_ ∷ (flatten d ++ (end_ ∷ flatten c))) s.1 in
        let k = served-behind (flatten d) (end_ ∷ flatten c) f.1.1 in
        (fine b w.0 f.0, fine d w.1 k.0, fine c w.2 k.1.1)
    fine (handling g b hs c) w s =
        let f = served-behind (flatten b) (flatten_handlers hs ++ (end_ ∷ flatten c)) s.1 in
        let k = served-behind (flatten_handlers hs) (end_ ∷ flatten c) f.1 in
        (fine b w.0 f.0, all-fine hs w.1 k.0, fine c w.2 k.1.1)
    fine (delegating_to l g b c) w s = let f = served-behind (flatten b) (delegate_ l ∷ flatten c) s.1 in (fine b w.0 f.0, fine c w.1 f.1.1)

    all-fine : (hs : Handlers) → AreProper hs → AllServed (flatten_handlers hs) → AllFine m hs
    all-fine (last_handler x b) w s = fine b w s.1
    all-fine (catch_before x b hs) w s = let f = served-behind (flatten b) (flatten_handlers hs) s.1 in (fine b w.0 f.0, all-fine hs w.1 f.1)

served-without : (b : Bool) (ops : List (Instruction ℕ)) → AreServedAs b ops → AllServed (without b) ops
served-without b [] h = tt
served-without b (i ∷ ops) h = (h.0, served-without b ops h.1)

served-unshared : (ops : List (Instruction ℕ)) → AllServed unshared ops
served-unshared [] = tt
served-unshared (i ∷ ops) = (refl, served-unshared ops)

safe-start : (R : Type 0) (m : Mode) → IsSafe {R = R} m (stack [] false [])
safe-start R (without true) = tt
safe-start R (without false) = tt
safe-start R unshared = tt

from_nothing : {R : Type 0} (W : World R) (o : IsInOrder W) (B : Surroundings R) (rs : List (Val R)) (c : Code) → Found W o B (body_scope rs) c (stack [] false []) (onto (vals rs) []) → Typed W B (body_scope rs) c [] [] (vals rs)
from_nothing {R} W o B rs c f =
    subst (λ (z : List (ValueType R)). Typed W B (body_scope rs) c (rev z) [] (vals rs)) (empty-fits W f.before f.fits)
    (subst (λ (z : List (ValueType R)). Typed W B (body_scope rs) c (rev f.before) [] z) (rev-rev (vals rs)) f.typed)

typed :
    {R : Type 0} (m : Mode) (W : World R) (B : Surroundings R) (b : Block R) (g : Signature R) (ops : List (Instruction ℕ)) → IsInOrder W → Allows W B m → IsPlain W m (body_scope g.gives)
    → block_signature W B b ≡ Some g → AllServed m ops → passes is_finished (steps_in W B ops (start b)) ≡ true → IsTypedExpression W B g.gives ops
unfolding Sound
typed {R} m W B b g ops o u n e s h =
    let a = passes-gives is_finished (steps_in W B ops (start b)) h in
    let p = parsed W B b g e ops a.0 a.1 a.2 in
    let d : (check W B (body_scope g.gives) p.0 (stack [] false []) >>= λ q. lend W g.gives q >>= λ z. Some (left W B b g e)) ≡ Some a.0 =
    sym (whole W B b g e p.0 p.1) ∙ ap (λ (xs : List (Instruction ℕ)). steps_in W B xs (start b)) (sym p.2) ∙ a.1 in
    let f = bind-gives (check W B (body_scope g.gives) p.0 (stack [] false [])) (λ q. lend W g.gives q >>= λ z. Some (left W B b g e)) a.0 d in
    let k = bind-gives (lend W g.gives f.0) (λ z. Some (left W B b g e)) a.0 f.2 in
    let w : AllServed m (flatten p.0 ++ (end_ ∷ [])) = subst (λ (xs : List (Instruction ℕ)). AllServed m xs) p.2 s in
    record {
      code = p.0;
      is = record { is_proper = p.1; is_written = p.2 };
      typed =
          from_nothing W o B g.gives p.0
          (check-sound W o B m p.0 (body_scope g.gives) u (fine m p.0 p.1 (served-behind m (flatten p.0) (end_ ∷ []) w).0) n [] (stack [] false []) f.0 (onto (vals g.gives) []) (λ n x. x) (safe-start R m) f.1
          (end-sound W g.gives f.0 k.0 k.1));
    }

pub soundness : (R : Type 0) → Soundness R
soundness R W B b g ops o e m h = typed (without m.0) W B b g ops o tt tt e (served-without m.0 ops m.1) h

pub soundness_without_sharing : (R : Type 0) → SoundnessWithoutSharing R
soundness_without_sharing R W B b g ops o u n e h = typed unshared W B b g ops o u (n, tt) e (served-unshared ops) h

-- without their feature no operator of legacy exceptions is accepted
module _ {R : Type 0} (W : World R) (B : Surroundings R) (off : B.features.legacy_exceptions ≡ false) where
  without_both : (b : Bool) → (B.features.legacy_exceptions && b) ≡ false
  without_both b = ap (λ (x : Bool). x && b) off

  each-without : (i : Instruction ℕ) (s t : State R) → step_in W B i s ≡ Some t → is_legacy i ≡ false
  each-without (instruction.legacy op) s t e = absurd (absent t (sym (legacy_needs_features W B op s (without_both B.features.exceptions)) ∙ e))
  each-without _ s t e = refl

  all-without : (ops : List (Instruction ℕ)) (s t : State R) → steps_in W B ops s ≡ Some t → AreWithoutLegacy ops
  all-without [] s t e = tt
  all-without (i ∷ ops) s t e = let a = bind-gives (step_in W B i s) (steps_in W B ops) t e in (each-without i s a.0 a.1, all-without ops a.0 t a.2)

pub accepted_code_is_without_legacy : (R : Type 0) → AcceptedCodeIsWithoutLegacy R
accepted_code_is_without_legacy R W B ops s t off e = all-without W B off ops s t e
