-- How the rules of the shapes read for instructions on continuations, with handlers.
-- The stack-switching proposal, Validation, Instructions.
use Rattle.std.specs.Prelude.{◌≡◌, ℕ, true, false, List, [], ◌∷◌, ◌++◌, Some, slice_get}
use Rattle.wasm_spec_steps.specs.WasmSpecRules.WasmSpec.Syntax.{exn_heap, abstract_heap, concrete, Val, cont}
use Rattle.wasm_spec_steps.specs.WasmSpecRules.WasmSpec.MatchingTests.{World}
use Rattle.wasm_spec_steps.specs.WasmSpecRules.Signatures.{Signature}
use Rattle.wasm_operators.specs.WasmOperatorsProposals.declared.continuations.Handle.{Handle}
use Rattle.wasm_operators.specs.WasmOperatorsProposals.declared.continuations.Handle.TheVariants as handle
use Rattle.wasm_spec_steps.specs.Bodies.{Surroundings}
use Rattle.wasm_spec_steps.specs.Actions.{of_tag, reaches_type}
use Rattle.wasm_spec_steps.specs.Meanings.{signature_at, comp_at, continuation_signature, continued_signature, holds}
use Rattle.wasm_spec_instructions.specs.ValueTypes.{ValueType, val, vals, reference_at, Match}
use Rattle.wasm_spec_instructions.specs.Scopes.{Scope, nowhere}

module _ {R : Type 0} (W : World R) (B : Surroundings R) where
  -- the features that all of them need
  pub record AreServed : Type 0 where
    pub served : B.features.stack_switching_operators ≡ true
    pub on : B.features.stack_switching ≡ true

  -- `cont.new x : (ref null ft) -> (ref x)`, where C.types[x] = cont ft
  pub record MakesContinuation (x : ℕ) (ts us : List (ValueType R)) : Type 0 where
    pub it : R
    pub function : R
    pub features : AreServed
    pub reached : holds W B (nowhere W B) (reaches_type x) ≡ true
    pub is : slice_get B.context.types x ≡ Some it
    pub there : comp_at W B x ≡ Some (cont function)
    pub takes : ts ≡ val (reference_at true (concrete function)) ∷ []
    pub gives : us ≡ val (reference_at false (concrete it)) ∷ []

  -- `suspend x : t1* -> t2*`, where C.tags[x] = t1* -> t2*
  pub record Suspends (x : ℕ) (ts us : List (ValueType R)) : Type 0 where
    pub tag : Signature R
    pub features : AreServed
    pub there : signature_at W B (of_tag x) ≡ Some tag
    pub takes : ts ≡ vals tag.takes
    pub gives : us ≡ vals tag.gives

  -- `(on x l)` of a continuation that gives t*, where C.tags[x] = t1* -> t2*, C.labels[l] = t3* (ref null? y), C.types[y] = cont (t4* -> t5*),
  -- and t1* matches t3*, t4* matches t2*, and t* matches t5*
  pub record HandlesByLabel (C : Scope R) (ts : List (Val R)) (x l : ℕ) : Type 0 where
    pub tag : Signature R
    pub left : Signature R
    pub sent : List (Val R)
    pub last : Val R
    pub tagged : signature_at W B (of_tag x) ≡ Some tag
    pub labelled : slice_get C.labels l ≡ Some (sent ++ last ∷ [])
    pub refers : continued_signature W B (last ∷ []) ≡ Some left
    pub sends : Match W (vals tag.takes) (vals sent)
    pub goes_on : Match W (vals left.takes) (vals tag.gives)
    pub ends : Match W (vals ts) (vals left.gives)

  -- `(on x switch)` of a continuation that gives t*, where C.tags[x] = eps -> t2*, and t2* matches t*
  pub record HandlesSwitches (ts : List (Val R)) (x : ℕ) : Type 0 where
    pub tag : Signature R
    pub tagged : signature_at W B (of_tag x) ≡ Some tag
    pub takes : tag.takes ≡ []
    pub gives : Match W (vals tag.gives) (vals ts)

  abbrev pub HandlesAll : Scope R → List (Val R) → List Handle → Type 0
  HandlesAll C ts [] = Unit {0}
  HandlesAll C ts (handle.OnLabel x l ∷ hs) = HandlesByLabel C ts x l × HandlesAll C ts hs
  HandlesAll C ts (handle.OnSwitch x ∷ hs) = HandlesSwitches ts x × HandlesAll C ts hs

  -- C.types[x] = cont (t1* -> t2*), a type that may be reached here
  pub record IsContinuation (x : ℕ) : Type 0 where
    pub it : R
    pub signature : Signature R
    pub reached : holds W B (nowhere W B) (reaches_type x) ≡ true
    pub is : slice_get B.context.types x ≡ Some it
    pub there : continuation_signature W B it ≡ Some signature

  -- `cont.bind x y : t3* (ref null x) -> (ref y)`, where C.types[x] = cont (t3* t1* -> t2*), C.types[y] = cont (t4* -> t5*), and t1* -> t2*
  -- matches t4* -> t5*
  pub record Binds (x y : ℕ) (ts us : List (ValueType R)) : Type 0 where
    pub features : AreServed
    pub from : IsContinuation x
    pub to : IsContinuation y
    pub bound : List (Val R)
    pub left : List (Val R)
    pub parts : from.signature.takes ≡ bound ++ left
    pub goes_on : Match W (vals to.signature.takes) (vals left)
    pub ends : Match W (vals from.signature.gives) (vals to.signature.gives)
    pub takes : ts ≡ vals bound ++ val (reference_at true (concrete from.it)) ∷ []
    pub gives : us ≡ val (reference_at false (concrete to.it)) ∷ []

  -- A continuation of the type of this index is resumed, with handlers of those that give what it gives.
  pub record IsResumed (C : Scope R) (x : ℕ) (hs : List Handle) : Type 0 where
    pub features : AreServed
    pub continued : IsContinuation x
    pub handlers : HandlesAll C continued.signature.gives hs

  -- `resume x h* : t1* (ref null x) -> t2*`, where C.types[x] = cont (t1* -> t2*)
  pub record Resumes (C : Scope R) (x : ℕ) (hs : List Handle) (ts us : List (ValueType R)) : Type 0 where
    pub resumed : IsResumed C x hs
    pub takes : ts ≡ vals resumed.continued.signature.takes ++ val (reference_at true (concrete resumed.continued.it)) ∷ []
    pub gives : us ≡ vals resumed.continued.signature.gives

  -- `resume_throw x y h* : t* (ref null x) -> t2*`, where C.types[x] = cont (t1* -> t2*), and C.tags[y] = t* -> eps
  pub record ResumesByTag (C : Scope R) (x y : ℕ) (hs : List Handle) (ts us : List (ValueType R)) : Type 0 where
    pub resumed : IsResumed C x hs
    pub tag : Signature R
    pub tagged : signature_at W B (of_tag y) ≡ Some tag
    pub gives_nothing : tag.gives ≡ []
    pub takes : ts ≡ vals tag.takes ++ val (reference_at true (concrete resumed.continued.it)) ∷ []
    pub gives : us ≡ vals resumed.continued.signature.gives

  -- `resume_throw_ref x h* : (ref null exn) (ref null x) -> t2*`, where C.types[x] = cont (t1* -> t2*)
  pub record ResumesByException (C : Scope R) (x : ℕ) (hs : List Handle) (ts us : List (ValueType R)) : Type 0 where
    pub resumed : IsResumed C x hs
    pub takes : ts ≡ val (reference_at true (abstract_heap false exn_heap)) ∷ val (reference_at true (concrete resumed.continued.it)) ∷ []
    pub gives : us ≡ vals resumed.continued.signature.gives

  -- `switch x y : t1* (ref null x) -> t2*`, where C.types[x] = cont (t1* (ref null? z) -> t3*), C.types[z] = cont (t2* -> t4*), C.tags[y] = eps -> t*,
  -- and t3* matches t*, and t* matches t4*
  pub record Switches (x y : ℕ) (ts us : List (ValueType R)) : Type 0 where
    pub features : AreServed
    pub to : IsContinuation x
    pub tag : Signature R
    pub left : Signature R
    pub sent : List (Val R)
    pub last : Val R
    pub parts : to.signature.takes ≡ sent ++ last ∷ []
    pub refers : continued_signature W B (last ∷ []) ≡ Some left
    pub tagged : signature_at W B (of_tag y) ≡ Some tag
    pub takes_nothing : tag.takes ≡ []
    pub ends : Match W (vals to.signature.gives) (vals tag.gives)
    pub left_ends : Match W (vals tag.gives) (vals left.gives)
    pub takes : ts ≡ vals sent ++ val (reference_at true (concrete to.it)) ∷ []
    pub gives : us ≡ vals left.takes
