-- A frame that turns to `else`, or to what catches the exceptions of a `try`.
use Rattle.std.proofs.Common.{◌≡◌, ◌≢◌, ℕ, ◌-◌, Bool, true, false, ◌==◌, List, [], ◌∷◌, length, drop, map, refl, sym, ◌∙◌, ap}
use Rattle.std.specs.Option.{option_map}
use Rattle.std.specs.Prelude.{Option, Some, None, Result}
use Rattle.std.proofs.lemmas.List.{length-drop, length-map}
use Rattle.wasm_spec.specs.MatchingTests.{World}
use Rattle.wasm_spec.specs.Syntax.{Val}
use Rattle.wasm_spec_rules.specs.Contexts.{Context}
use Rattle.wasm_readers_types.specs.WasmReadersValues.declared.indices.UnpackedIndex.{UnpackedIndex}
use Rattle.wasm_spec_rules.specs.Attempts.{◌>>=◌, guard}
use Rattle.wasm_typing_control.specs.WasmTypingChecks.WasmSpecSteps.Actions.{OperandTypes, turn_to_else, turn_to_catch}
use Rattle.wasm_typing_control.specs.WasmTypingChecks.WasmSpecSteps.Bodies.{Surroundings}
use Rattle.wasm_typing_control.specs.WasmTypingChecks.WasmSpecSteps.Machine as machine
use Rattle.wasm_typing_control.specs.WasmTypingChecks.WasmSpecSteps.Machine.{Kind, else_kind, is_if, may_catch, State, pop_vals, push_vals, push_frame}
use Rattle.wasm_typing_control.specs.WasmTypingChecks.WasmSpecSteps.Shapes.{nothing}
use Rattle.wasm_spec_rules.specs.Signatures.{Signature}
use Rattle.wasm_typing_control.specs.WasmTypingChecks.WasmSpecSteps.Meanings.{block_signature, pop_frame, turn_in, catch_in}
use Rattle.wasm_typing_control.specs.WasmTypingChecks.WasmValidatorResources.Answers.{world}
use Rattle.wasm_typing_control.specs.WasmTypingChecks.WasmTypingStacks.BodyStacks.{state_of, around, below}
use Rattle.wasm_typing_control.specs.WasmTypingChecks.WasmTypingStacks.SeenOperands.{operand_of}
use Rattle.wasm_typing_control.specs.WasmTypingChecks.WasmTypingStacks.SeenBlocks.{block_in, kind_of, frame_of, frames_seen}
use Rattle.wasm_typing_control.specs.WasmTypingChecks.WasmTypingStacks.declared.word.Word.{Word}
use Rattle.wasm_typing_control.specs.WasmTypingChecks.WasmTypingStacks.declared.stacks.Frame.{Frame}
use Rattle.wasm_typing_control.specs.WasmTypingChecks.WasmTypingStacks.declared.stacks.Stacks.{Stacks}
use Rattle.wasm_typing_control.specs.WasmTypingChecks.Steps.{Took, acted, typed}
use Rattle.wasm_typing_control.specs.WasmTypingChecks.declared.faults.OperatorError.{OperatorError}
use Rattle.wasm_typing_control.specs.Blocks.{signature_in}
use Rattle.wasm_typing_blocks.specs.FrameKinds.{again}
use Rattle.wasm_typing_blocks.specs.Legacy.{caught}
use Rattle.wasm_typing_control.proofs.WasmTypingChecks.OperandLookups.{same, differ}
use Rattle.wasm_typing_control.proofs.WasmTypingChecks.ActionSteps.{took_along}
use Rattle.wasm_typing_control.proofs.LabelTypes.{same_signature}

-- the frame that begins again
pub begun : (k : Kind) (b : Bool) (ops : List (machine.Operand UnpackedIndex)) (x y : Frame) (xs : List Frame) (inits inits' : List ℕ) → b ≡ true → inits' ≡ drop (length inits - x.init_height) inits
    → frame_of y ≡ record (frame_of x) { kind = k; unreachable = false; init_height = length inits' }
    → record { operands = ops; frames = frames_seen b y xs; inits = inits' } ≡ again k (record { operands = ops; frames = frames_seen b x xs; inits = inits })
unfolding again
begun k true ops x y xs inits inits' e f g = rw (g, f) refl
begun k false ops x y xs inits inits' e f g = cc

pub ruleset begins = (begun)

-- the machine's side: a frame is left, and one of its block type is entered in its place, over some operands
module _ (W : World UnpackedIndex) (B : Surroundings UnpackedIndex) (test : Kind → Bool) (k : Kind) (starts : Signature UnpackedIndex → List (Val UnpackedIndex)) (x : machine.Frame UnpackedIndex) (xs : List (machine.Frame UnpackedIndex)) (s : State UnpackedIndex) where
  abbrev replaced : Option (State UnpackedIndex)
  replaced = block_signature W B x.block >>= λ g. pop_frame W B x xs g s >>= λ t. guard (test x.kind) (push_frame k x.block (starts g) t)

  unsigned_replaced : block_signature W B x.block ≡ None → replaced ≡ None
  unsigned_replaced e = rw e refl

  not_popped : (g : Signature UnpackedIndex) → block_signature W B x.block ≡ Some g → pop_vals W g.gives s ≡ None → replaced ≡ None
  not_popped g e f = rw (e, f) refl

  too_high : (g : Signature UnpackedIndex) (t : State UnpackedIndex) → block_signature W B x.block ≡ Some g → pop_vals W g.gives s ≡ Some t → (length t.operands == x.height) ≡ false → replaced ≡ None
  too_high g t e f h = rw (e, f, h) refl

  other_kind : (g : Signature UnpackedIndex) (t : State UnpackedIndex) → block_signature W B x.block ≡ Some g → pop_vals W g.gives s ≡ Some t → (length t.operands == x.height) ≡ true → test x.kind ≡ false → replaced ≡ None
  other_kind g t e f h i = rw (e, f, h, i) refl

  abbrev without : State UnpackedIndex → State UnpackedIndex
  without t = record t { frames = xs; inits = drop (length t.inits - x.init_height) t.inits }

  is_replaced : (g : Signature UnpackedIndex) (t : State UnpackedIndex) → block_signature W B x.block ≡ Some g → pop_vals W g.gives s ≡ Some t → (length t.operands == x.height) ≡ true → test x.kind ≡ true → replaced ≡ Some (push_frame k x.block (starts g) (without t))
  is_replaced g t e f h i = rw (e, f, h, i) refl

signed : (gives takes : List (Val UnpackedIndex)) (o : Option (Signature UnpackedIndex)) → Some gives ≡ option_map (λ g. g.gives) o → Some takes ≡ option_map (λ g. g.takes) o → (g : Signature UnpackedIndex) × (o ≡ Some g) × (g.gives ≡ gives) × (g.takes ≡ takes)
signed gives takes None e f = cc
signed gives takes (Some g) e f = (g, refl, cc, cc)

signed_once : (gives : List (Val UnpackedIndex)) (o : Option (Signature UnpackedIndex)) → Some gives ≡ option_map (λ g. g.gives) o → (g : Signature UnpackedIndex) × (o ≡ Some g) × (g.gives ≡ gives)
signed_once gives None e = cc
signed_once gives (Some g) e = (g, refl, cc)

unsigned : (f : Signature UnpackedIndex → List (Val UnpackedIndex)) (o : Option (Signature UnpackedIndex)) → None ≡ option_map f o → o ≡ None
unsigned f None e = refl
unsigned f (Some g) e = cc

height_of : (ops : List Word) (k : ℕ) → length (drop k (map operand_of ops)) ≡ length ops - k
height_of ops k = length-drop k (map operand_of ops) ∙ ap (λ n. n - k) (length-map ops operand_of)

module _ {A : Type 0} (v : Stacks A) (C : Context UnpackedIndex) (test : Kind → Bool) (k : Kind) (starts : Signature UnpackedIndex → List (Val UnpackedIndex)) where
  abbrev here : Option (State UnpackedIndex)
  here = replaced (world C) (around v C) test k starts (frame_of v.frame) (map frame_of v.outer) (state_of v)

  abbrev type_here : Option (Signature UnpackedIndex)
  type_here = signature_in C (block_in v.frame.block)

  here_unsigned : type_here ≡ None → here ≡ None
  here_unsigned e = unsigned_replaced (world C) (around v C) test k starts (frame_of v.frame) (map frame_of v.outer) (state_of v) (same_signature v C (block_in v.frame.block) ∙ e)

  here_not_popped : (g : Signature UnpackedIndex) → type_here ≡ Some g → pop_vals (world C) g.gives (state_of v) ≡ None → here ≡ None
  here_not_popped g e h = not_popped (world C) (around v C) test k starts (frame_of v.frame) (map frame_of v.outer) (state_of v) g (same_signature v C (block_in v.frame.block) ∙ e) h

  here_high : (g : Signature UnpackedIndex) (n : ℕ) → type_here ≡ Some g → pop_vals (world C) g.gives (state_of v) ≡ Some (below n (state_of v)) → length v.operands - n ≢ v.frame.height → here ≡ None
  here_high g n e h d =
      too_high (world C) (around v C) test k starts (frame_of v.frame) (map frame_of v.outer) (state_of v) g (below n (state_of v)) (same_signature v C (block_in v.frame.block) ∙ e) h
      (differ _ _ (λ p. d (sym (height_of v.operands n) ∙ p)))

  here_other : (g : Signature UnpackedIndex) (n : ℕ) → type_here ≡ Some g → pop_vals (world C) g.gives (state_of v) ≡ Some (below n (state_of v)) → length v.operands - n ≡ v.frame.height → test (kind_of v.frame.kind) ≡ false → here ≡ None
  here_other g n e h d i =
      other_kind (world C) (around v C) test k starts (frame_of v.frame) (map frame_of v.outer) (state_of v) g (below n (state_of v)) (same_signature v C (block_in v.frame.block) ∙ e) h (same _ _ (height_of v.operands n ∙ d)) i

  -- the state that it turns to
  again_as : (vs : List (Val UnpackedIndex)) (n : ℕ) → v.is_open ≡ true → length (below n (state_of v)).operands ≡ v.frame.height
      → push_frame k (block_in v.frame.block) vs (without (world C) (around v C) test k starts (frame_of v.frame) (map frame_of v.outer) (state_of v) (below n (state_of v))) ≡ again k (push_vals vs (below n (state_of v)))
  unfolding again
  again_as vs n e d = rw (d, e) refl

  here_is : (g : Signature UnpackedIndex) (n : ℕ) (mid new : State UnpackedIndex) → v.is_open ≡ true → type_here ≡ Some g → pop_vals (world C) g.gives (state_of v) ≡ Some (below n (state_of v)) → length v.operands - n ≡ v.frame.height
      → test (kind_of v.frame.kind) ≡ true → mid ≡ push_vals (starts g) (below n (state_of v)) → new ≡ again k mid → here ≡ Some new
  here_is g n mid new o e h d i q m =
      is_replaced (world C) (around v C) test k starts (frame_of v.frame) (map frame_of v.outer) (state_of v) g (below n (state_of v)) (same_signature v C (block_in v.frame.block) ∙ e) h (same _ _ (height_of v.operands n ∙ d)) i
      ∙ ap Some (again_as (starts g) n o (height_of v.operands n ∙ d) ∙ ap (again k) (sym q) ∙ sym m)

module _ {A : Type 0} (v : Stacks A) (C : Context UnpackedIndex) where
  opened : v.is_open ≡ true → (state_of v).frames ≡ frame_of v.frame ∷ map frame_of v.outer
  opened e = rw e refl

  abbrev turned : Option (State UnpackedIndex)
  turned = here v C is_if else_kind (λ g. g.takes)

  in_frame : v.is_open ≡ true → (o : Option (State UnpackedIndex)) → turned ≡ o → acted v C (turn_to_else ∷ []) ≡ (o >>= Some)
  unfolding acted
  in_frame e o h = ap (λ fs. turn_in (world C) (around v C) fs (state_of v) >>= Some) (opened e) ∙ ap (λ p. p >>= Some) h

  pub turn_nowhere : v.is_open ≡ false → acted v C (turn_to_else ∷ []) ≡ None
  unfolding acted
  turn_nowhere e = rw e refl

  pub turn_without_gives : v.is_open ≡ true → None ≡ option_map (λ g. g.gives) (signature_in C (block_in v.frame.block)) → acted v C (turn_to_else ∷ []) ≡ None
  turn_without_gives e f = in_frame e None (here_unsigned v C is_if else_kind (λ g. g.takes) (unsigned (λ g. g.gives) (signature_in C (block_in v.frame.block)) f))

  pub turn_without_takes : v.is_open ≡ true → None ≡ option_map (λ g. g.takes) (signature_in C (block_in v.frame.block)) → acted v C (turn_to_else ∷ []) ≡ None
  turn_without_takes e f = in_frame e None (here_unsigned v C is_if else_kind (λ g. g.takes) (unsigned (λ g. g.takes) (signature_in C (block_in v.frame.block)) f))

  pub turn_not_popped : (vs : List (Val UnpackedIndex)) → v.is_open ≡ true → Some vs ≡ option_map (λ g. g.gives) (signature_in C (block_in v.frame.block)) → pop_vals (world C) vs (state_of v) ≡ None → acted v C (turn_to_else ∷ []) ≡ None
  turn_not_popped vs e f h =
      let g = signed_once vs (signature_in C (block_in v.frame.block)) f in
      in_frame e None (here_not_popped v C is_if else_kind (λ g. g.takes) g.0 g.1 (rw g.2 h))

  pub turn_high : (vs : List (Val UnpackedIndex)) (k : ℕ) → v.is_open ≡ true → Some vs ≡ option_map (λ g. g.gives) (signature_in C (block_in v.frame.block)) → pop_vals (world C) vs (state_of v) ≡ Some (below k (state_of v)) → length v.operands - k ≢ v.frame.height
      → acted v C (turn_to_else ∷ []) ≡ None
  turn_high vs k e f h d =
      let g = signed_once vs (signature_in C (block_in v.frame.block)) f in
      in_frame e None (here_high v C is_if else_kind (λ g. g.takes) g.0 k g.1 (rw g.2 h) d)

  pub turn_no_if : (vs : List (Val UnpackedIndex)) (k : ℕ) → v.is_open ≡ true → Some vs ≡ option_map (λ g. g.gives) (signature_in C (block_in v.frame.block)) → pop_vals (world C) vs (state_of v) ≡ Some (below k (state_of v)) → length v.operands - k ≡ v.frame.height
      → is_if (kind_of v.frame.kind) ≡ false → acted v C (turn_to_else ∷ []) ≡ None
  turn_no_if vs k e f h d i =
      let g = signed_once vs (signature_in C (block_in v.frame.block)) f in
      in_frame e None (here_other v C is_if else_kind (λ g. g.takes) g.0 k g.1 (rw g.2 h) d i)

  pub turn_is : (gives takes : List (Val UnpackedIndex)) (k : ℕ) (mid new : State UnpackedIndex) → v.is_open ≡ true → Some gives ≡ option_map (λ g. g.gives) (signature_in C (block_in v.frame.block)) → Some takes ≡ option_map (λ g. g.takes) (signature_in C (block_in v.frame.block))
      → pop_vals (world C) gives (state_of v) ≡ Some (below k (state_of v)) → length v.operands - k ≡ v.frame.height → is_if (kind_of v.frame.kind) ≡ true → mid ≡ push_vals takes (below k (state_of v)) → new ≡ again else_kind mid → acted v C (turn_to_else ∷ []) ≡ Some new
  turn_is gives takes k mid new e f l p d i q n =
      let g = signed gives takes (signature_in C (block_in v.frame.block)) f l in
      in_frame e (Some new) (here_is v C is_if else_kind (λ g. g.takes) g.0 k mid new e g.1 (rw g.2 p) d i (q ∙ ap (λ ts. push_vals ts (below k (state_of v))) (sym g.3)) n)

pub ruleset turns = (turn_nowhere, turn_without_gives, turn_without_takes, turn_not_popped, turn_high, turn_no_if, turn_is)

-- what is caught
module _ {A : Type 0} (v : Stacks A) (C : Context UnpackedIndex) (k : Kind) (vs : List (Val UnpackedIndex)) where
  caught_as : v.is_open ≡ true → (o : Option (State UnpackedIndex)) → here v C may_catch k (λ g. vs) ≡ o → caught v C k vs ≡ o
  unfolding caught
  caught_as e o h = ap (λ fs. catch_in (world C) (around v C) k vs fs (state_of v)) (opened v C e) ∙ h

  pub catch_nowhere : v.is_open ≡ false → caught v C k vs ≡ None
  unfolding caught
  catch_nowhere e = rw e refl

  pub catch_unsigned : v.is_open ≡ true → None ≡ option_map (λ g. g.gives) (signature_in C (block_in v.frame.block)) → caught v C k vs ≡ None
  catch_unsigned e f = caught_as e None (here_unsigned v C may_catch k (λ g. vs) (unsigned (λ g. g.gives) (signature_in C (block_in v.frame.block)) f))

  pub catch_not_popped : (gives : List (Val UnpackedIndex)) → v.is_open ≡ true → Some gives ≡ option_map (λ g. g.gives) (signature_in C (block_in v.frame.block)) → pop_vals (world C) gives (state_of v) ≡ None → caught v C k vs ≡ None
  catch_not_popped gives e f h =
      let g = signed_once gives (signature_in C (block_in v.frame.block)) f in
      caught_as e None (here_not_popped v C may_catch k (λ g. vs) g.0 g.1 (rw g.2 h))

  pub catch_high : (gives : List (Val UnpackedIndex)) (n : ℕ) → v.is_open ≡ true → Some gives ≡ option_map (λ g. g.gives) (signature_in C (block_in v.frame.block)) → pop_vals (world C) gives (state_of v) ≡ Some (below n (state_of v)) → length v.operands - n ≢ v.frame.height → caught v C k vs ≡ None
  catch_high gives n e f h d =
      let g = signed_once gives (signature_in C (block_in v.frame.block)) f in
      caught_as e None (here_high v C may_catch k (λ g. vs) g.0 n g.1 (rw g.2 h) d)

  pub catch_nothing : (gives : List (Val UnpackedIndex)) (n : ℕ) → v.is_open ≡ true → Some gives ≡ option_map (λ g. g.gives) (signature_in C (block_in v.frame.block)) → pop_vals (world C) gives (state_of v) ≡ Some (below n (state_of v)) → length v.operands - n ≡ v.frame.height
      → may_catch (kind_of v.frame.kind) ≡ false → caught v C k vs ≡ None
  catch_nothing gives n e f h d i =
      let g = signed_once gives (signature_in C (block_in v.frame.block)) f in
      caught_as e None (here_other v C may_catch k (λ g. vs) g.0 n g.1 (rw g.2 h) d i)

  pub catch_is : (gives : List (Val UnpackedIndex)) (n : ℕ) (mid new : State UnpackedIndex) → v.is_open ≡ true → Some gives ≡ option_map (λ g. g.gives) (signature_in C (block_in v.frame.block)) → pop_vals (world C) gives (state_of v) ≡ Some (below n (state_of v)) → length v.operands - n ≡ v.frame.height
      → may_catch (kind_of v.frame.kind) ≡ true → mid ≡ push_vals vs (below n (state_of v)) → new ≡ again k mid → caught v C k vs ≡ Some new
  catch_is gives n mid new e f h d i q m =
      let g = signed_once gives (signature_in C (block_in v.frame.block)) f in
      caught_as e (Some new) (here_is v C may_catch k (λ g. vs) g.0 n mid new e g.1 (rw g.2 h) d i q m)

  last_some : (o : Option (State UnpackedIndex)) → (o >>= Some) ≡ o
  last_some None = refl
  last_some (Some t) = refl

  -- as an action, over operands of types that are named
  pub catches_with : (r : Result (Unit {0}) OperatorError) (t : OperandTypes) (old new : State UnpackedIndex) → typed v C t ≡ Some vs → Took r (caught v C k vs) old new → Took r (acted v C (turn_to_catch t k ∷ [])) old new
  unfolding acted typed caught
  catches_with r t old new e h = took_along r _ _ old new (rw e (last_some (catch_in (world C) (around v C) k vs (state_of v).frames (state_of v)))) h

  pub catches_nothing : (r : Result (Unit {0}) OperatorError) (old new : State UnpackedIndex) → vs ≡ [] → Took r (caught v C k vs) old new → Took r (acted v C (turn_to_catch nothing k ∷ [])) old new
  unfolding acted typed caught
  catches_nothing r old new e h = catches_with r nothing old new (ap Some (sym e)) h

pub ruleset catches_all = (catches_nothing)

pub ruleset catches = (catch_nowhere, catch_unsigned, catch_not_popped, catch_high, catch_nothing, catch_is)
