-- A body is accepted exactly where the rules type it.
use Rattle.std.proofs.Common.{◌≡◌, refl, ap, subst, ◌∙◌, ℕ, true, List, ◌++◌, map, length, ◌≤◌, Option, Some, None, option_map, slice_get}
use Rattle.wasm_spec.specs.Syntax.{Sub, Comp}
use Rattle.wasm_spec.specs.Features.{Features}
use Rattle.wasm_spec.specs.MatchingTests.{World}
use Rattle.wasm_spec.specs.Limits.{most_locals}
use Rattle.wasm_spec_steps.specs.WasmSpecRules.Attempts.{◌>>=◌, passes}
use Rattle.wasm_spec_steps.specs.WasmSpecRules.Contexts.{Context}
use Rattle.wasm_spec_steps.specs.WasmSpecRules.Signatures.{Signature, signature_of}
use Rattle.wasm_operators.specs.Control.{func_block}
use Rattle.wasm_spec_steps.specs.Bodies.{Local}
use Rattle.wasm_spec_steps.specs.FunctionBodies.{local_taken, declared_at, IsBodyOfFunction}
use Rattle.wasm_spec_steps.specs.Steps.{is_finished, start, steps_in}
use Rattle.wasm_spec_instructions.specs.ValueTypes.{IsInOrder, AreUnshared}
use Rattle.wasm_spec_instructions.specs.Laws.{HasNoSharing}
use Rattle.wasm_spec_instructions.specs.Expressions.{IsTypedExpression}
use Rattle.wasm_spec_instructions.proofs.Attempts.{the_same, absent, bind-gives, passes-gives}
use Rattle.wasm_spec_instructions.proofs.MainTheorems.{completeness, soundness_without_sharing}
use Rattle.wasm_laws_soundness.specs.BodiesByRules.{body_in, IsTypedBody}
use Rattle.wasm_laws_soundness.specs.TypingLaws.{BodiesAreTyped}

module _ {R : Type 0} (W : World R) (o : IsInOrder W) (F : Features) (C : Context R) (n : ℕ) (bytes : List ℕ) where
  complete : IsTypedBody W F C n bytes → IsBodyOfFunction W F C n bytes
  complete t =
      let ls : List (Local R) = map local_taken t.signature.takes ++ t.locals in
      let a = passes-gives is_finished (steps_in W (body_in F C t.shared ls) t.instructions (start (func_block n)))
      (completeness R W (body_in F C t.shared ls) (func_block n) t.signature t.instructions o t.is_function t.typed) in
      record {
        signature = t.signature;
        shared = t.shared;
        locals = ls;
        last = a.0;
        is_function = t.is_function;
        is_shared = t.is_shared;
        body = record {
          declarations = t.declarations;
          locals = t.locals;
          instructions = t.instructions;
          behind = t.behind;
          listed = t.listed;
          declared = t.declared;
          all = refl;
          few = t.few;
          written = t.written;
          typed = a.1;
          finished = a.2;
        };
      }

  results-unshared : (g : Signature R) → HasNoSharing W F → (option_map (λ d. d.comp) (declared_at W F C n) >>= signature_of) ≡ Some g → AreUnshared W g.gives
  results-unshared g u e =
      let a = bind-gives (option_map (λ d. d.comp) (declared_at W F C n)) signature_of g e in
      let b = mapped (declared_at W F C n) a.0 a.1 in
      let c = bind-gives (slice_get C.types n) W.declared b.0 b.1 in
      (u.signatures c.0 b.0 g c.2 (ap signature_of b.2 ∙ a.2)).1
    where
      mapped : (x : Option (Sub R)) (c : Comp R) → option_map (λ d. d.comp) x ≡ Some c → (d : Sub R) × (x ≡ Some d) × (d.comp ≡ c)
      mapped None c f = absurd (absent c f)
      mapped (Some d) c f = (d, refl, the_same d.comp c f)

  sound : HasNoSharing W F → IsBodyOfFunction W F C n bytes → IsTypedBody W F C n bytes
  sound u h =
      let e : passes is_finished (steps_in W (body_in F C h.shared h.locals) h.body.instructions (start (func_block n))) ≡ true = ap (passes is_finished) h.body.typed ∙ h.body.finished in
      let t : IsTypedExpression W (body_in F C h.shared h.locals) h.signature.gives h.body.instructions =
      soundness_without_sharing R W (body_in F C h.shared h.locals) (func_block n) h.signature h.body.instructions o u (results-unshared h.signature u h.is_function) h.is_function e in
      record {
        signature = h.signature;
        shared = h.shared;
        declarations = h.body.declarations;
        locals = h.body.locals;
        instructions = h.body.instructions;
        behind = h.body.behind;
        is_function = h.is_function;
        is_shared = h.is_shared;
        listed = h.body.listed;
        declared = h.body.declared;
        few = subst (λ (ls : List (Local R)). length ls ≤ most_locals) h.body.all h.body.few;
        written = h.body.written;
        typed = subst (λ (ls : List (Local R)). IsTypedExpression W (body_in F C h.shared ls) h.signature.gives h.body.instructions) h.body.all t;
      }

pub bodies_are_typed : (R : Type 0) → BodiesAreTyped R
bodies_are_typed R W F C n bytes o = record { complete = complete W o F C n bytes; sound = sound W o F C n bytes }
