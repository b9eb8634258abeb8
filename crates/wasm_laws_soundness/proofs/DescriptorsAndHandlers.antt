-- What the rules say of branches by descriptors, and of handlers of continuations that are resumed.
use Rattle.std.proofs.Common.{◌≡◌, ap, subst, ◌∙◌, ℕ, zero, suc, true, List, [], ◌∷◌, ◌++◌, Some}
use Rattle.wasm_spec_steps.specs.WasmSpecRules.WasmSpec.Syntax.{Heap, Ref, Val}
use Rattle.wasm_spec_steps.specs.WasmSpecRules.WasmSpec.MatchingTests.{World}
use Rattle.wasm_operators.specs.WasmOperatorsProposals.declared.continuations.Handle.{Handle}
use Rattle.wasm_operators.specs.WasmOperatorsProposals.declared.continuations.Handle.TheVariants as handle
use Rattle.wasm_spec_steps.specs.Bodies.{Surroundings}
use Rattle.wasm_spec_steps.specs.Actions.{OperandTypes, joined, descriptor_for, Check}
use Rattle.wasm_spec_steps.specs.Shapes.{plain}
use Rattle.wasm_spec_steps.specs.Meanings.{ref_to, descriptor_heap}
use Rattle.wasm_spec_instructions.specs.ValueTypes.{ValueType, val, vals, reference_at}
use Rattle.wasm_spec_instructions.specs.Scopes.{Scope, types_in}
use Rattle.wasm_spec_instructions.specs.Rules.{Rule, plain_rule}
use Rattle.wasm_spec_instructions.specs.ContinuationShapes.{HandlesByLabel, HandlesAll}
use Rattle.wasm_spec_instructions.proofs.Attempts.{the_same, absent}
use Rattle.wasm_spec_instructions.proofs.OperandFits.{vals-append}
use Rattle.wasm_laws_soundness.specs.Roles.{handler_at}
use Rattle.wasm_laws_soundness.proofs.Inversions.{single, both_give}

module _ {R : Type 0} (W : World R) (B : Surroundings R) (C : Scope R) where
  -- a rule of operands with a descriptor on top is one without it
  pub record ByDescriptor (q : Ref ℕ) (cs : List Check) (t u : OperandTypes) (ts us : List (ValueType R)) : Type 0 where
    pub left : List (ValueType R)
    pub heap : Heap R
    pub there : descriptor_heap W B q.heap ≡ Some heap
    pub takes : ts ≡ left ++ val (reference_at true heap) ∷ []
    pub rule : Rule W B C (plain cs t u) left us

  pub with_descriptor :
      (c d : Check) (cs : List Check) (q : Ref ℕ) (t u : OperandTypes) (ts us : List (ValueType R))
      → Rule W B C (plain (c ∷ d ∷ cs) (joined t (descriptor_for q.heap)) u) ts us → ByDescriptor q cs t u ts us
  with_descriptor c d cs q t u ts us (plain_rule {ts = taken} {us = given} h e f) =
      let k = both_give (types_in W B C.labels C.returns t) (types_in W B C.labels C.returns (descriptor_for q.heap)) taken e in
      let w = single (ref_to true) (descriptor_heap W B q.heap) k.1 k.3 in
      record {
        left = vals k.0;
        heap = w.0;
        there = w.1;
        takes = ap vals k.4 ∙ vals-append k.0 k.1 ∙ ap (λ (z : List (Val R)). vals k.0 ++ vals z) w.2;
        rule = plain_rule h.1.1 k.2 f;
      }

  -- the handler of a place that has a label
  pub handler_is :
      (hs : List Handle) (k : ℕ) (y : ℕ × ℕ) (ts : List (Val R)) → handler_at hs k ≡ Some y → HandlesAll W B C ts hs → HandlesByLabel W B C ts y.0 y.1
  handler_is [] k y ts e h = absurd (absent y e)
  handler_is (handle.OnLabel x l ∷ hs) zero y ts e h = subst (λ (z : ℕ × ℕ). HandlesByLabel W B C ts z.0 z.1) (the_same (x, l) y e) h.0
  handler_is (handle.OnSwitch x ∷ hs) zero y ts e h = absurd (absent y e)
  handler_is (handle.OnLabel x l ∷ hs) (suc k) y ts e h = handler_is hs k y ts e h.1
  handler_is (handle.OnSwitch x ∷ hs) (suc k) y ts e h = handler_is hs k y ts e h.1
