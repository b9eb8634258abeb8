-- When stores, states and outcomes fit what typing promises.
-- Core Specification 3.0, Appendix, Type Soundness (Store Validity, Module Instances, Function Instances, Exception Instances, Configuration
-- Validity, Store Extension).
use Rattle.std.specs.Prelude.{◌≡◌, ℕ, Bool, true, false, List, [], ◌++◌, map, Option, Some, None, slice_get}
use Rattle.wasm_spec_steps.specs.WasmSpecRules.WasmSpec.Syntax.{Heap, concrete, exact, Val}
use Rattle.wasm_spec_steps.specs.WasmSpecRules.WasmSpec.MatchingTests.{World, matches_heap}
use Rattle.wasm_spec_steps.specs.WasmSpecRules.Signatures.{Signature}
use Rattle.wasm_spec_steps.specs.Bodies.{Local, Surroundings}
use Rattle.wasm_spec_steps.specs.Actions.{of_tag}
use Rattle.wasm_spec_steps.specs.FunctionBodies.{local_taken, local_declared}
use Rattle.wasm_spec_steps.specs.Meanings.{signature_at, function_heap}
use Rattle.wasm_spec_instructions.specs.Code.{Code}
use Rattle.wasm_spec_instructions.specs.ValueTypes.{ValueType, val, vals, Match}
use Rattle.wasm_spec_instructions.specs.Scopes.{Scope, is_set}
use Rattle.wasm_spec_instructions.specs.Sequences.{Typed}
use Rattle.wasm_spec_instructions.specs.Expressions.{body_scope}
use Rattle.wasm_laws_soundness.specs.Values.{Value, Instance, defined, Function, Exception, Store, signature_in, HasType, HaveTypes}
use Rattle.wasm_laws_soundness.specs.Outcomes.{State, Exit, branches, throws, calls_in_place, rethrows, delegates, returns, traps, out_of_steps, Outcome, falls_through, leaves, Answer, gives, raises, fails, Primitives}

-- what is in the first store is in the second, and what suited still does
pub record Grows {R : Type 0} (P : Primitives R) (S T : Store R) : Type 0 where
  pub functions : (a : ℕ) (f : Function R) → slice_get S.functions a ≡ Some f → slice_get T.functions a ≡ Some f
  pub tags : (a : ℕ) (ts : List (Val R)) → slice_get S.tags a ≡ Some ts → slice_get T.tags a ≡ Some ts
  pub exceptions : (a : ℕ) (e : Exception R) → slice_get S.exceptions a ≡ Some e → slice_get T.exceptions a ≡ Some e
  pub others : (B : Surroundings R) (I : Instance) → P.suits B I S ≡ true → P.suits B I T ≡ true

module _ {R : Type 0} (W : World R) where
  -- a local that must be set, or may be
  pub data Holds (S : Store R) (t : Val R) : Bool → Option (Value R) → Type 0 where
    unset : Holds S t false None
    held : {b : Bool} {v : Value R} → HasType W S v (val t) → Holds S t b (Some v)

  -- each local has a place, and a value there if it is set
  pub record LocalsFit (S : Store R) (B : Surroundings R) (sets : List ℕ) (locals : List (Option (Value R))) : Type 0 where
    pub holds :
        (n : ℕ) (x : Local R) → slice_get B.locals n ≡ Some x
        → (o : Option (Value R)) × (slice_get locals n ≡ Some o) × Holds S x.content (is_set W B n sets) o

  -- the function of this index is in the store, and is of this heap type
  pub record Reaches (S : Store R) (I : Instance) (x : ℕ) (h : Heap R) : Type 0 where
    pub address : ℕ
    pub function : Function R
    pub known : slice_get I.functions x ≡ Some address
    pub there : slice_get S.functions address ≡ Some function
    pub matches : matches_heap W (exact function.type) h ≡ true

  -- the tag of this index is in the store, and carries these types
  pub record Carries (S : Store R) (I : Instance) (x : ℕ) (ts : List (Val R)) : Type 0 where
    pub address : ℕ
    pub known : slice_get I.tags x ≡ Some address
    pub there : slice_get S.tags address ≡ Some ts

  -- an exception has a tag of the store, and values of the types that it carries
  pub record IsTypedException (S : Store R) (e : Exception R) : Type 0 where
    pub types : List (Val R)
    pub tagged : slice_get S.tags e.tag ≡ Some types
    pub values : HaveTypes W S e.values (vals types)

  module _ (P : Primitives R) where
    -- An instance of a module fits: its functions and tags are in the store, of the types that the module declares, and all else is as
    -- plain instructions want it.
    pub record InstanceFits (S : Store R) (B : Surroundings R) (I : Instance) : Type 0 where
      pub functions : (x n : ℕ) (a : R) → slice_get B.context.functions x ≡ Some n → slice_get B.context.types n ≡ Some a → Reaches S I x (concrete a)
      pub references : (x : ℕ) (h : Heap R) → function_heap W B x ≡ Some h → Reaches S I x h
      pub tags : (x : ℕ) (g : Signature R) → signature_at W B (of_tag x) ≡ Some g → Carries S I x g.takes
      pub others : P.suits B I S ≡ true

    -- Code is the body of a function with this signature: over its parameters and other locals, the rules type it from none to the results;
    -- and its module's instance fits.
    pub record IsTypedCode (S : Store R) (g : Signature R) (B : Surroundings R) (I : Instance) (c : Code) : Type 0 where
      pub extra : List (Val R)
      pub sets : List ℕ
      pub locals : B.locals ≡ map local_taken g.takes ++ map local_declared extra
      pub typed : Typed W B (body_scope g.gives) c [] sets (vals g.gives)
      pub instance : InstanceFits S B I

    -- A function has a type of functions, and if it is defined, its code is typed.
    pub record IsTypedFunction (S : Store R) (f : Function R) : Type 0 where
      pub signature : Signature R
      pub is : signature_in W f.type ≡ Some signature
      pub code : (B : Surroundings R) (I : Instance) (c : Code) → f.definition ≡ defined B I c → IsTypedCode S signature B I c

    -- each function and each exception in a store is typed
    pub record StoreFits (S : Store R) : Type 0 where
      pub functions : (a : ℕ) (f : Function R) → slice_get S.functions a ≡ Some f → IsTypedFunction S f
      pub exceptions : (a : ℕ) (e : Exception R) → slice_get S.exceptions a ≡ Some e → IsTypedException S e

    -- an answer is as promised: results of these types, and a store that fits and has grown; or an exception that is there; or a trap
    pub data IsKept (S : Store R) (ts : List (ValueType R)) : Answer R → Type 0 where
      gives_them : {vs : List (Value R)} {T : Store R} → HaveTypes W T vs ts → Grows P S T → StoreFits T → IsKept S ts (gives vs T)
      may_raise : {a : ℕ} {T : Store R} (e : Exception R) → slice_get T.exceptions a ≡ Some e → Grows P S T → StoreFits T → IsKept S ts (raises a T)
      may_fail : IsKept S ts fails

    module _ (B : Surroundings R) (I : Instance) where
      -- a state fits: operands of these types, and these locals set; and its store has grown from the first
      pub record Fits (S : Store R) (sets : List ℕ) (ts : List (ValueType R)) (s : State R) : Type 0 where
        pub operands : HaveTypes W s.store s.operands ts
        pub locals : LocalsFit s.store B sets s.locals
        pub store : StoreFits s.store
        pub instance : InstanceFits s.store B I
        pub grown : Grows P S s.store

      -- How code in this scope may leave: to a label that is there, with its types on top; returning, with the results of the function on top;
      -- throwing an exception that is there; calling a function in its place, with its arguments, whose results match those of this one;
      -- throwing again what the handler of a label has caught; handing an exception that is there to a label; by a trap; or for want of steps.
      pub data MayLeave (S : Store R) (C : Scope R) : Exit R → Type 0 where
        branching :
            {l : ℕ} {s : State R} (ls : List (Val R)) (left : List (ValueType R))
            → slice_get C.labels l ≡ Some ls → Fits S C.sets (left ++ vals ls) s → MayLeave S C (branches l s)
        returning :
            {s : State R} (rs : List (Val R)) (left : List (ValueType R))
            → C.returns ≡ Some rs → Fits S C.sets (left ++ vals rs) s → MayLeave S C (returns s)
        throwing :
            {a : ℕ} {s : State R} (e : Exception R) (left : List (ValueType R))
            → slice_get s.store.exceptions a ≡ Some e → Fits S C.sets left s → MayLeave S C (throws a s)
        calling :
            {a : ℕ} {s : State R} (f : Function R) (g : Signature R) (rs : List (Val R))
            → slice_get s.store.functions a ≡ Some f → signature_in W f.type ≡ Some g → C.returns ≡ Some rs → Match W (vals g.gives) (vals rs)
            → Fits S C.sets (vals g.takes) s
            → MayLeave S C (calls_in_place a s)
        rethrowing : {l : ℕ} {s : State R} (left : List (ValueType R)) → slice_get C.caught l ≡ Some true → Fits S C.sets left s → MayLeave S C (rethrows l s)
        delegating :
            {l a : ℕ} {s : State R} (ls : List (Val R)) (e : Exception R) (left : List (ValueType R))
            → slice_get C.labels l ≡ Some ls → slice_get s.store.exceptions a ≡ Some e → Fits S C.sets left s → MayLeave S C (delegates l a s)
        trapping : MayLeave S C traps
        waiting : MayLeave S C out_of_steps

      -- The promise of typing: code falls through with operands of these types and these locals set, or leaves as it may. To be `stuck` is no
      -- such way.
      pub data IsPromised (S : Store R) (C : Scope R) (xs : List ℕ) (us : List (ValueType R)) : Outcome R → Type 0 where
        falling : {s : State R} → Fits S (xs ++ C.sets) us s → IsPromised S C xs us (falls_through s)
        leaving : {e : Exit R} → MayLeave S C e → IsPromised S C xs us (leaves e)

-- Where a type of functions is below another, it takes what the other takes and more, and gives what the other gives or less.
abbrev pub FunctionsMatch : {R : Type 0} → World R → Type 0
FunctionsMatch {R} W =
    (a b : R) (g : Signature R) → W.below a b ≡ true → signature_in W b ≡ Some g
    → (h : Signature R) × (signature_in W a ≡ Some h) × Match W (vals g.takes) (vals h.takes) × Match W (vals h.gives) (vals g.gives)
