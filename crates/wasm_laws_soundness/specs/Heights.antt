-- The places of code that its runs come to, and that they have as many operands there as the validator saw.
-- Core Specification 3.0, Execution, Instructions, and Appendix, Validation Algorithm (Data Structures).
use Rattle.std.specs.Prelude.{◌≡◌, ℕ, zero, suc, Bool, true, false, ◌==◌, ◌+◌, List, [], ◌∷◌, ◌++◌, Some, length, slice_get}
use Rattle.wasm_spec.specs.Features.{Features}
use Rattle.wasm_spec.specs.MatchingTests.{World}
use Rattle.wasm_spec_steps.specs.WasmSpecRules.Attempts.{◌>>=◌}
use Rattle.wasm_spec_steps.specs.WasmSpecRules.Signatures.{Signature}
use Rattle.wasm_operators.specs.Control.{Block, func_block}
use Rattle.wasm_operators.specs.Instructions.{Instruction}
use Rattle.wasm_spec_steps.specs.Bodies.{Surroundings}
use Rattle.wasm_spec_steps.specs.Machine.{Frame}
use Rattle.wasm_spec_steps.specs.Machine as machine
use Rattle.wasm_spec_steps.specs.Meanings.{resolve_block, block_signature}
use Rattle.wasm_spec_steps.specs.Steps.{start, steps_in}
use Rattle.wasm_spec_instructions.specs.Code.{Opening, a_loop, an_if, a_try, Handler, a_catch, a_catch_all, Code, done, simply, enclosing, choosing_between, handling, delegating_to, Handlers, last_handler, catch_before, written, handler_written, else_, flatten, block_of, is_done}
use Rattle.wasm_spec_instructions.specs.ValueTypes.{vals}
use Rattle.wasm_spec_instructions.specs.Expressions.{body_scope}
use Rattle.wasm_spec_instructions.specs.Sequences.{Typed}
use Rattle.wasm_spec_validity.specs.Modules.{IsValidModule}
use Rattle.wasm_laws_soundness.specs.Values.{Value, i32_value, Instance, defined, Function, Exception, Store, signature_in, HaveTypes}
use Rattle.wasm_laws_soundness.specs.Outcomes.{State, branches, throws, falls_through, leaves, Primitives, cut, holding, label, entered}
use Rattle.wasm_laws_soundness.specs.StoreValidity.{StoreFits, Fits}
use Rattle.wasm_laws_soundness.specs.Interpreter.{does, run}
use Rattle.wasm_laws_soundness.specs.Promises.{KeepsPromises}
use Rattle.wasm_laws_soundness.specs.Laws.{AreSound}
use Rattle.wasm_laws_soundness.specs.Modules.{IsCodeOf, IsInstance, called_with, context_in, world_in}

-- the first instruction of code, with what it contains, and the code behind it
abbrev pub first_of : Code → Code
first_of done = done
first_of (simply i c) = simply i done
first_of (enclosing o b c) = enclosing o b done
first_of (choosing_between g b d c) = choosing_between g b d done
first_of (handling g b hs c) = handling g b hs done
first_of (delegating_to l g b c) = delegating_to l g b done

abbrev pub rest_of : Code → Code
rest_of done = done
rest_of (simply i c) = c
rest_of (enclosing o b c) = c
rest_of (choosing_between g b d c) = c
rest_of (handling g b hs c) = c
rest_of (delegating_to l g b c) = c

abbrev pub is_if : Opening → Bool
is_if (an_if b) = true
is_if _ = false

-- Where a block begins: its signature, the operands that stay below it, and those that it takes.
pub record Begins {R : Type 0} (W : World R) (B : Surroundings R) (b : Block ℕ) (vs below top : List (Value R)) : Type 0 where
  pub signature : Signature R
  pub signed : (resolve_block B.context.types b >>= block_signature W B) ≡ Some signature
  pub parts : cut (length signature.takes) vs ≡ Some (below, top)

-- A handler takes an exception with its tag, or any, and finds these operands.
pub data Takes {R : Type 0} (I : Instance) : Handler → Exception R → List (Value R) → Type 0 where
  by_tag : {x : ℕ} {e : Exception R} → slice_get I.tags x ≡ Some e.tag → Takes I (a_catch x) e e.values
  of_any_tag : {e : Exception R} → Takes I a_catch_all e []

module _ {R : Type 0} (W : World R) (P : Primitives R) (B : Surroundings R) (I : Instance) where
  mutual
    -- Within so many steps, a run of this code from this state comes to the place behind these instructions of it. These operands lie there
    -- below the innermost block around the place, and the state has those in it.
    pub data Comes : ℕ → Code → State R → List (Instruction ℕ) → List (Value R) → State R → Type 0 where
      -- the start
      starts : {n : ℕ} {c : Code} {s : State R} → Comes n c s [] [] s
      -- behind the first instruction, with what it contains, once that has fallen through
      behind :
          {n : ℕ} {c : Code} {s t u : State R} {ops : List (Instruction ℕ)} {vs : List (Value R)} → is_done c ≡ false
          → run W P n (does B I (first_of c)) s ≡ falls_through t → Comes n (rest_of c) t ops vs u → Comes n c s (flatten (first_of c) ++ ops) vs u
      -- in a block
      within :
          {n : ℕ} {o : Opening} {b c : Code} {s u : State R} {below top : List (Value R)} {ops : List (Instruction ℕ)} {vs : List (Value R)}
          → is_if o ≡ false → Begins W B (block_of o) s.operands below top → Comes n b (holding top s) ops vs u
          → Comes n (enclosing o b c) s (written o ∷ ops) (below ++ vs) u
      -- in a loop again, once its body has branched to its label
      turns :
          {n : ℕ} {g : Block ℕ} {b c : Code} {s t u : State R} {below top left again : List (Value R)}
          {ops : List (Instruction ℕ)} {vs : List (Value R)}
          → Begins W B g s.operands below top → run W P (suc n) (does B I b) (holding top s) ≡ leaves (branches zero t)
          → Begins W B g t.operands left again
          → Comes n (enclosing (a_loop g) b done) (holding (below ++ again) t) ops vs u → Comes (suc n) (enclosing (a_loop g) b c) s ops vs u
      -- in an `if` whose uppermost operand isn't zero, and in the `else` of one where it is
      within_if :
          {n k : ℕ} {g : Block ℕ} {b c : Code} {s u : State R} {rest below top : List (Value R)} {ops : List (Instruction ℕ)} {vs : List (Value R)}
          → cut 1 s.operands ≡ Some (rest, i32_value (suc k) ∷ []) → Begins W B g rest below top → Comes n b (holding top s) ops vs u
          → Comes n (enclosing (an_if g) b c) s (written (an_if g) ∷ ops) (below ++ vs) u
      within_then :
          {n k : ℕ} {g : Block ℕ} {b d c : Code} {s u : State R} {rest below top : List (Value R)} {ops : List (Instruction ℕ)} {vs : List (Value R)}
          → cut 1 s.operands ≡ Some (rest, i32_value (suc k) ∷ []) → Begins W B g rest below top → Comes n b (holding top s) ops vs u
          → Comes n (choosing_between g b d c) s (written (an_if g) ∷ ops) (below ++ vs) u
      within_else :
          {n : ℕ} {g : Block ℕ} {b d c : Code} {s u : State R} {rest below top : List (Value R)} {ops : List (Instruction ℕ)} {vs : List (Value R)}
          → cut 1 s.operands ≡ Some (rest, i32_value zero ∷ []) → Begins W B g rest below top → Comes n d (holding top s) ops vs u
          → Comes n (choosing_between g b d c) s (written (an_if g) ∷ (flatten b ++ (else_ ∷ ops))) (below ++ vs) u
      -- in a `try` with handlers, or with its `delegate`
      within_try :
          {n : ℕ} {g : Block ℕ} {b c : Code} {hs : Handlers} {s u : State R} {below top : List (Value R)}
          {ops : List (Instruction ℕ)} {vs : List (Value R)}
          → Begins W B g s.operands below top → Comes n b (holding top s) ops vs u
          → Comes n (handling g b hs c) s (written (a_try g) ∷ ops) (below ++ vs) u
      within_delegating :
          {n l : ℕ} {g : Block ℕ} {b c : Code} {s u : State R} {below top : List (Value R)} {ops : List (Instruction ℕ)} {vs : List (Value R)}
          → Begins W B g s.operands below top → Comes n b (holding top s) ops vs u
          → Comes n (delegating_to l g b c) s (written (a_try g) ∷ ops) (below ++ vs) u
      -- in a handler, of an exception that the code of the `try` throws
      catches :
          {n a : ℕ} {g : Block ℕ} {b c : Code} {hs : Handlers} {s t u : State R} {below top : List (Value R)} {e : Exception R}
          {ops : List (Instruction ℕ)} {vs : List (Value R)}
          → (begins : Begins W B g s.operands below top)
          → label falls_through (length begins.signature.gives) below (run W P n (does B I b) (holding top s)) ≡ leaves (throws a t)
          → slice_get t.store.exceptions a ≡ Some e → Handles n hs t e ops vs u
          → Comes n (handling g b hs c) s (written (a_try g) ∷ (flatten b ++ ops)) (below ++ vs) u

    -- So of handlers, from this exception on: the first that takes it, behind those that don't.
    pub data Handles : ℕ → Handlers → State R → Exception R → List (Instruction ℕ) → List (Value R) → State R → Type 0 where
      in_last :
          {n : ℕ} {h : Handler} {c : Code} {s u : State R} {e : Exception R} {found : List (Value R)}
          {ops : List (Instruction ℕ)} {vs : List (Value R)}
          → Takes I h e found → Comes n c (holding found s) ops vs u → Handles n (last_handler h c) s e (handler_written h ∷ ops) vs u
      in_first :
          {n x : ℕ} {c : Code} {hs : Handlers} {s u : State R} {e : Exception R} {found : List (Value R)}
          {ops : List (Instruction ℕ)} {vs : List (Value R)}
          → Takes I (a_catch x) e found → Comes n c (holding found s) ops vs u
          → Handles n (catch_before x c hs) s e (handler_written (a_catch x) ∷ ops) vs u
      in_later :
          {n x t : ℕ} {c : Code} {hs : Handlers} {s u : State R} {e : Exception R} {ops : List (Instruction ℕ)} {vs : List (Value R)}
          → slice_get I.tags x ≡ Some t → (t == e.tag) ≡ false → Handles n hs s e ops vs u
          → Handles n (catch_before x c hs) s e (handler_written (a_catch x) ∷ (flatten c ++ ops)) vs u

-- Behind these instructions, from the start of a block of this type, the validator has so many operands below its innermost frame and so many
-- in it, and doesn't regard what follows as unreachable.
pub record AreHeights {R : Type 0} (W : World R) (B : Surroundings R) (b : Block R) (ops : List (Instruction ℕ)) (below above : ℕ) : Type 0 where
  pub state : machine.State R
  pub frame : Frame R
  pub outer : List (Frame R)
  pub seen : steps_in W B ops (start b) ≡ Some state
  pub frames : state.frames ≡ frame ∷ outer
  pub begins : frame.height ≡ below
  pub height : length state.operands ≡ below + above
  pub reached : frame.unreachable ≡ false

-- For every number of steps: wherever a run of typed code comes, its operands are as many as the validator saw there, those below the innermost
-- block and those in it.
abbrev pub HeightsAreAsSeen : (R : Type 0) → Type 0
HeightsAreAsSeen R =
    (W : World R) (P : Primitives R) → AreSound W P
    → (B : Surroundings R) (I : Instance) (b : Block R) (g : Signature R) (c : Code) (xs : List ℕ)
    → block_signature W B b ≡ Some g → Typed W B (body_scope g.gives) c [] xs (vals g.gives)
    → (n : ℕ) (s : State R) → Fits W P B I s.store [] [] s
    → (ops : List (Instruction ℕ)) (below : List (Value R)) (t : State R) → Comes W P B I n c s ops below t
    → AreHeights W B b ops (length below) (length t.operands)

-- So it is in each function of a store that fits, called with arguments of its types.
abbrev pub FunctionsHaveTheirHeights : (R : Type 0) → Type 0
FunctionsHaveTheirHeights R =
    (W : World R) (P : Primitives R) → AreSound W P
    → (a : ℕ) (f : Function R) (g : Signature R) (B : Surroundings R) (I : Instance) (c : Code) (b : Block R) (s : State R) → StoreFits W P s.store
    → slice_get s.store.functions a ≡ Some f → signature_in W f.type ≡ Some g → f.definition ≡ defined B I c → block_signature W B b ≡ Some g
    → (vs : List (Value R)) → HaveTypes W s.store vs (vals g.takes)
    → (n : ℕ) (ops : List (Instruction ℕ)) (below : List (Value R)) (t : State R) → Comes W P B I n c (entered B.locals vs s) ops below t
    → AreHeights W B b ops (length below) (length t.operands)

-- And where code falls through, its run has come to its end.
abbrev pub RunsComeToTheEnd : (R : Type 0) → Type 0
RunsComeToTheEnd R =
    (W : World R) (P : Primitives R) (B : Surroundings R) (I : Instance) (c : Code) (n : ℕ) (s t : State R)
    → run W P n (does B I c) s ≡ falls_through t → Comes W P B I n c s (flatten c) [] t

-- Where shared types are off: so in each body of a valid module, called with arguments of its types in a store of an instance of the module.
abbrev pub ValidModulesHaveTheirHeights : Type 0
ValidModulesHaveTheirHeights =
    (F : Features) (bytes : List ℕ) (m : IsValidModule F bytes) → F.shared_everything_threads ≡ false
    → (P : Primitives ℕ) → KeepsPromises (world_in m) P
    → (S : Store ℕ) (I : Instance) → IsInstance (world_in m) F (context_in m) P m.well_formed.parts S I
    → (i x : ℕ) (body : List ℕ) → slice_get m.well_formed.parts.functions i ≡ Some x → slice_get m.well_formed.parts.bodies i ≡ Some body
    → (B : Surroundings ℕ) (c : Code) (code : IsCodeOf (world_in m) F (context_in m) x body B c)
    → (vs : List (Value ℕ)) → HaveTypes (world_in m) S vs (vals code.signature.takes)
    → (n : ℕ) (ops : List (Instruction ℕ)) (below : List (Value ℕ)) (t : State ℕ)
    → Comes (world_in m) P B I n c (entered B.locals vs (called_with vs S)) ops below t
    → AreHeights (world_in m) B (func_block x) ops (length below) (length t.operands)
