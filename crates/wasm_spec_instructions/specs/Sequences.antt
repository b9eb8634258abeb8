-- The typing rules of blocks and of sequences of instructions: code from some types to others, and the locals that it sets.
-- Core Specification 3.0, Validation, Instructions (Control Instructions, Instruction Sequences), and Matching (Instruction Types); and for
-- `try` the legacy exception-handling proposal.
use Rattle.std.specs.Prelude.{◌≡◌, ℕ, true, List, [], ◌∷◌, ◌++◌, Some, slice_get}
use Rattle.wasm_spec_steps.specs.WasmSpecRules.WasmSpec.Syntax.{Val, i32}
use Rattle.wasm_spec_steps.specs.WasmSpecRules.WasmSpec.MatchingTests.{World}
use Rattle.wasm_spec_steps.specs.WasmSpecRules.Signatures.{Signature}
use Rattle.wasm_operators.specs.Control.{Block}
use Rattle.wasm_operators.specs.Instructions.{Instruction}
use Rattle.wasm_operators.specs.declared.control.Catch.{Catch}
use Rattle.wasm_spec_steps.specs.Bodies.{Surroundings}
use Rattle.wasm_spec_steps.specs.Shapes.{shape_of}
use Rattle.wasm_spec_steps.specs.Meanings.{resolve_block, block_signature}
use Rattle.wasm_spec_instructions.specs.Code.{Opening, a_block, a_loop, an_if, a_try, a_try_table, Handler, a_catch, Code, done, simply, enclosing, choosing_between, handling, delegating_to, Handlers, last_handler, catch_before, and_then, is_one, block_of, checks_of, handler_checks, handler_operands}
use Rattle.wasm_spec_instructions.specs.ValueTypes.{ValueType, val, vals, Match}
use Rattle.wasm_spec_instructions.specs.Scopes.{Scope, inside, in_handler, behind, types_in, AllHold, AreSet}
use Rattle.wasm_spec_instructions.specs.Rules.{sets_of, Rule}

module _ {R : Type 0} (W : World R) (B : Surroundings R) where
  -- The block type is valid and has this signature; and so are the catch clauses, each of which gives what its label takes.
  pub record Opens (C : Scope R) (o : Opening) (g : Signature R) : Type 0 where
    pub block : Block R
    pub holds : AllHold W B C (checks_of o)
    pub resolves : resolve_block B.context.types (block_of o) ≡ Some block
    pub signed : block_signature W B block ≡ Some g

  -- A handler is valid, and finds these operands: the parameters of its tag, or none.
  pub record Catches (C : Scope R) (h : Handler) (ts : List (Val R)) : Type 0 where
    pub holds : AllHold W B C (handler_checks h)
    pub found : types_in W B C.labels C.returns (handler_operands h) ≡ Some ts

  mutual
    -- Under this scope, the code goes from these types to those, and sets these locals.
    pub data Typed : Scope R → Code → List (ValueType R) → List ℕ → List (ValueType R) → Type 0 where
      -- Empty Instruction Sequence
      empty_rule : {C : Scope R} → Typed C done [] [] []
      -- one instruction
      instruction_rule :
          {C : Scope R} {i : Instruction ℕ} {ts us : List (ValueType R)} → Rule W B C (shape_of i) ts us → Typed C (simply i done) ts (sets_of (shape_of i)) us
      -- `block`: its label takes what it gives, and what it sets isn't set behind it
      block_rule :
          {C : Scope R} {c : Code} {xs : List ℕ} (b : Block ℕ) (g : Signature R)
          → Opens C (a_block b) g → Typed (inside g.gives C) c (vals g.takes) xs (vals g.gives) → Typed C (enclosing (a_block b) c done) (vals g.takes) [] (vals g.gives)
      -- `loop`: its label takes what it takes
      loop_rule :
          {C : Scope R} {c : Code} {xs : List ℕ} (b : Block ℕ) (g : Signature R)
          → Opens C (a_loop b) g → Typed (inside g.takes C) c (vals g.takes) xs (vals g.gives) → Typed C (enclosing (a_loop b) c done) (vals g.takes) [] (vals g.gives)
      -- `if` without `else`, which is one with an empty one
      if_rule :
          {C : Scope R} {c : Code} {xs ys : List ℕ} (b : Block ℕ) (g : Signature R)
          → Opens C (an_if b) g → Typed (inside g.gives C) c (vals g.takes) xs (vals g.gives) → Typed (inside g.gives C) done (vals g.takes) ys (vals g.gives)
          → Typed C (enclosing (an_if b) c done) (vals g.takes ++ val i32 ∷ []) [] (vals g.gives)
      -- `if` with `else`
      if_else_rule :
          {C : Scope R} {c d : Code} {xs ys : List ℕ} (b : Block ℕ) (g : Signature R)
          → Opens C (an_if b) g → Typed (inside g.gives C) c (vals g.takes) xs (vals g.gives) → Typed (inside g.gives C) d (vals g.takes) ys (vals g.gives)
          → Typed C (choosing_between b c d done) (vals g.takes ++ val i32 ∷ []) [] (vals g.gives)
      -- `try_table`: as `block`, and its catch clauses are valid outside of it
      try_table_rule :
          {C : Scope R} {c : Code} {xs : List ℕ} (b : Block ℕ) (cs : List Catch) (g : Signature R)
          → Opens C (a_try_table b cs) g → Typed (inside g.gives C) c (vals g.takes) xs (vals g.gives)
          → Typed C (enclosing (a_try_table b cs) c done) (vals g.takes) [] (vals g.gives)
      -- `try` without handlers: as `block`
      try_rule :
          {C : Scope R} {c : Code} {xs : List ℕ} (b : Block ℕ) (g : Signature R)
          → Opens C (a_try b) g → Typed (inside g.gives C) c (vals g.takes) xs (vals g.gives) → Typed C (enclosing (a_try b) c done) (vals g.takes) [] (vals g.gives)
      -- `try` with handlers, each of which gives what it gives
      handling_rule :
          {C : Scope R} {c : Code} {hs : Handlers} {xs : List ℕ} (b : Block ℕ) (g : Signature R)
          → Opens C (a_try b) g → Typed (inside g.gives C) c (vals g.takes) xs (vals g.gives) → Handle C hs g.gives
          → Typed C (handling b c hs done) (vals g.takes) [] (vals g.gives)
      -- `try` with `delegate`: the label is one outside of it
      delegating_rule :
          {C : Scope R} {c : Code} {xs : List ℕ} {l : ℕ} {ls : List (Val R)} (b : Block ℕ) (g : Signature R)
          → Opens C (a_try b) g → Typed (inside g.gives C) c (vals g.takes) xs (vals g.gives) → slice_get C.labels l ≡ Some ls
          → Typed C (delegating_to l b c done) (vals g.takes) [] (vals g.gives)
      -- Non-empty Instruction Sequence: one instruction, and then others, which are typed where what the first one sets is set
      sequence_rule :
          {C : Scope R} {c d : Code} {ts us vs : List (ValueType R)} {xs ys : List ℕ}
          → is_one c ≡ true → Typed C c ts xs us → Typed (behind xs C) d us ys vs → Typed C (and_then c d) ts (ys ++ xs) vs
      -- the frame: operands below that aren't touched
      frame_rule :
          {C : Scope R} {c : Code} {ts us : List (ValueType R)} {xs : List ℕ} (below : List (ValueType R))
          → Typed C c ts xs us → Typed C c (below ++ ts) xs (below ++ us)
      -- subsumption: it takes lesser types and gives greater ones, and of the locals that are set behind it tells any
      subsumption_rule :
          {C : Scope R} {c : Code} {ts us vs ws : List (ValueType R)} {xs ys : List ℕ}
          → Match W vs ts → Match W us ws → AreSet W B (xs ++ C.sets) ys → Typed C c ts xs us → Typed C c vs ys ws

    -- Under this scope, each of the handlers goes from what it finds to these types, and its label takes them.
    pub data Handle : Scope R → Handlers → List (Val R) → Type 0 where
      last_rule :
          {C : Scope R} {h : Handler} {c : Code} {ts us : List (Val R)} {xs : List ℕ}
          → Catches C h ts → Typed (in_handler us C) c (vals ts) xs (vals us) → Handle C (last_handler h c) us
      before_rule :
          {C : Scope R} {x : ℕ} {c : Code} {hs : Handlers} {ts us : List (Val R)} {xs : List ℕ}
          → Catches C (a_catch x) ts → Typed (in_handler us C) c (vals ts) xs (vals us) → Handle C hs us → Handle C (catch_before x c hs) us
