-- What is asked of plain instructions, of tables, and of the host.
-- Core Specification 3.0, Appendix, Type Soundness (Theorem, and Host Functions).
use Rattle.std.specs.Prelude.{◌≡◌, ℕ, true, false, List, [], ◌∷◌, Some, slice_get}
use Rattle.wasm_spec_steps.specs.WasmSpecRules.WasmSpec.Syntax.{Heap, Ref, Val, Table, reference}
use Rattle.wasm_spec_steps.specs.WasmSpecRules.WasmSpec.MatchingTests.{World}
use Rattle.wasm_spec_steps.specs.WasmSpecRules.Signatures.{Signature, resolve_ref}
use Rattle.wasm_operators.specs.Instructions.{Instruction}
use Rattle.wasm_spec_steps.specs.Bodies.{Surroundings}
use Rattle.wasm_operators.specs.WasmOperatorsProposals.declared.continuations.Handle.{Handle}
use Rattle.wasm_spec_steps.specs.Actions.{of_tag}
use Rattle.wasm_spec_steps.specs.Shapes.{shape_of}
use Rattle.wasm_spec_steps.specs.Meanings.{address, signature_at, descriptor_heap, continued_signature}
use Rattle.wasm_spec_instructions.specs.ValueTypes.{ValueType, val, vals, reference_at, Match}
use Rattle.wasm_spec_instructions.specs.Scopes.{Scope}
use Rattle.wasm_spec_instructions.specs.Rules.{Rule}
use Rattle.wasm_laws_soundness.specs.Values.{Value, Instance, hosted, Function, Store, signature_in, HasType, HaveTypes}
use Rattle.wasm_laws_soundness.specs.Outcomes.{Answer, Resumed, ends, suspends, Primitives, with_exception}
use Rattle.wasm_laws_soundness.specs.StoreValidity.{Grows, InstanceFits, StoreFits, IsKept}
use Rattle.wasm_laws_soundness.specs.Roles.{computing, resuming, role_of, handler_at}

-- a type of references to continuations that take these types, or lesser ones, and give those, or greater ones
pub record RefersToContinuation {R : Type 0} (W : World R) (B : Surroundings R) (takes : List (Val R)) (gives : List (ValueType R)) (t : Val R) : Type 0 where
  pub signature : Signature R
  pub is : continued_signature W B (t ∷ []) ≡ Some signature
  pub takes_those : Match W (vals signature.takes) (vals takes)
  pub gives_those : Match W gives (vals signature.gives)

module _ {R : Type 0} (W : World R) (P : Primitives R) where
  -- A continuation that is resumed ends as an instruction does that gives these types; or it is suspended for a handler with a label, with
  -- values of the types that its tag takes, and with a reference of each type of those that take what the tag gives, and give these types.
  pub data IsResumed (B : Surroundings R) (hs : List Handle) (S : Store R) (us : List (ValueType R)) : Resumed R → Type 0 where
    it_ends : {r : Answer R} → IsKept W P S us r → IsResumed B hs S us (ends r)
    it_suspends :
        {k : ℕ} {vs : List (Value R)} {v : Value R} {T : Store R} (y : ℕ × ℕ) (g : Signature R)
        → handler_at hs k ≡ Some y → signature_at W B (of_tag y.0) ≡ Some g → HaveTypes W T vs (vals g.takes)
        → ((t : Val R) → RefersToContinuation W B g.gives us t → HasType W T v (val t))
        → Grows P S T → StoreFits W P T → IsResumed B hs S us (suspends k vs v T)

  pub record KeepsPromises : Type 0 where
    -- from operands of the types that its rule takes, an instruction that computes something gives what its rule gives
    pub computes :
        (i : Instruction ℕ) (B : Surroundings R) (I : Instance) (C : Scope R) (ts us : List (ValueType R)) (vs : List (Value R)) (S : Store R)
        → role_of i ≡ computing → Rule W B C (shape_of i) ts us → StoreFits W P S → InstanceFits W P S B I → HaveTypes W S vs ts
        → IsKept W P S us (P.computes i B I vs S)
    -- and one that resumes a continuation comes to what it may
    pub resumes :
        (i : Instruction ℕ) (hs : List Handle) (B : Surroundings R) (I : Instance) (C : Scope R) (ts us : List (ValueType R)) (vs : List (Value R)) (S : Store R)
        → role_of i ≡ resuming hs → Rule W B C (shape_of i) ts us → StoreFits W P S → InstanceFits W P S B I → HaveTypes W S vs ts
        → IsResumed B hs S us (P.resumes i B I vs S)
    -- what a descriptor of a type describes is of that type
    pub describes :
        (q : Ref ℕ) (r from : Ref R) (h : Heap R) (B : Surroundings R) (I : Instance) (d v : Value R) (S : Store R)
        → resolve_ref B.context.types q ≡ Some r → descriptor_heap W B q.heap ≡ Some h → StoreFits W P S → InstanceFits W P S B I
        → HasType W S d (val (reference_at false h)) → HasType W S v (val (reference from)) → P.describes d v S ≡ true
        → HasType W S v (val (reference r))
    -- a table has references of its type
    pub finds :
        (x : ℕ) (t : Table R) (B : Surroundings R) (I : Instance) (vs : List (Value R)) (S : Store R) → slice_get B.context.tables x ≡ Some t
        → StoreFits W P S → InstanceFits W P S B I → HaveTypes W S vs (val (address t.is_64) ∷ [])
        → IsKept W P S (val (reference t.element) ∷ []) (P.finds x B I vs S)
    -- a function of the host gives what its type says
    pub acts :
        (a k : ℕ) (f : Function R) (g : Signature R) (vs : List (Value R)) (S : Store R)
        → slice_get S.functions a ≡ Some f → f.definition ≡ hosted k → signature_in W f.type ≡ Some g → StoreFits W P S → HaveTypes W S vs (vals g.takes)
        → IsKept W P S (vals g.gives) (P.acts k vs S)
    -- one more exception changes nothing for instances
    pub throws :
        (B : Surroundings R) (I : Instance) (x : ℕ) (vs : List (Value R)) (S : Store R) → P.suits B I S ≡ true → P.suits B I (with_exception x vs S) ≡ true
