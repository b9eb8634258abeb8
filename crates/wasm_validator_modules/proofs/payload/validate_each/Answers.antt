use Rattle.std.proofs.Common.{◌≡◌, sym, ap, subst, ◌∙◌, List, [], ◌∷◌, ◌++◌, map, All, arith, append_assoc, append-nil}
use Rattle.std.proofs.lemmas.List.{map_push}
use Rattle.std.proofs.lemmas.List.Elements.{All-push}
use Rattle.wasm_validator_modules.specs.declared.payload.PendingBody.{PendingBody}
use Rattle.wasm_validator_states.specs.Payloads.{IsBodyOfIts}
use Rattle.wasm_validator_modules.specs.PayloadAnswers.{pending_seen}
use Rattle.wasm_validator_modules.proofs.Bodies.{refused_one, stands_by, between_in, no_items}
use Rattle.wasm_validator_modules.proofs.payload.validate_each.Goals as goal

pub bodies-init : goal.bodies-init
bodies-init g c = (sym c.into_iter-waiting-iterator.ensures.into_iter_gives.0, λ k d l. absurd (omega (arith, l)))

pub bodies-preserved : goal.bodies-preserved
bodies-preserved g c =
    let before = c.bodies.yielded in
    let rest = c.next.new.self.rest.items in
    let seen = pending_seen c.args.features c.args.resources.now in (
      c.bodies.invariant.0 ∙ ap (λ xs. before ++ xs) c.in-Some.ensures.steps.0 ∙ sym (append_assoc before (c.in-Some.waiting ∷ []) rest),
      subst (All IsBodyOfIts) (sym (map_push seen before c.in-Some.waiting))
          (All-push IsBodyOfIts (map seen before) (seen c.in-Some.waiting) c.bodies.invariant.1 c.in-Ok.ensures.decides),
    )

pub returns-in-Err-clause-decided : goal.returns-in-Err-clause-decided
returns-in-Err-clause-decided g c =
    refused_one c.args.features c.args.resources.now c.args.pending.items c.bodies.yielded c.next.new.self.rest.items c.in-Some.waiting c.in-Err.error c.in_function.result c.in_function.ensures
    (c.bodies.invariant.0 ∙ ap (λ xs. c.bodies.yielded ++ xs) c.in-Some.ensures.steps.0) c.bodies.invariant.1 c.in-Err.ensures.decides

pub returns-in-Err-clause-place : goal.returns-in-Err-clause-place
returns-in-Err-clause-place g c = λ end all.
    between_in end c.in-Some.waiting.index c.in-Err.error c.in_function.result c.in_function.ensures
    (stands_by end c.args.pending.items c.bodies.yielded c.next.new.self.rest.items c.in-Some.waiting c.in-Err.error
    (c.bodies.invariant.0 ∙ ap (λ xs. c.bodies.yielded ++ xs) c.in-Some.ensures.steps.0) all c.in-Err.ensures.place)

pub returns-clause-decided : goal.returns-clause-decided
returns-clause-decided g c =
    let none = c.in-None.ensures.steps in
    let empty : c.bodies.waiting-iterator.rest.items ≡ [] = no_items c.bodies.waiting-iterator.rest.items (omega (arith, none.0, c.bodies.waiting-iterator.rest.ok)) in
    let all : c.args.pending.items ≡ c.bodies.yielded = c.bodies.invariant.0 ∙ ap (λ xs. c.bodies.yielded ++ xs) empty ∙ append-nil c.bodies.yielded in
    subst (λ (xs : List PendingBody). All IsBodyOfIts (map (pending_seen c.args.features c.args.resources.now) xs)) (sym all) c.bodies.invariant.1
