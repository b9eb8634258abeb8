-- The end of a frame.
use Rattle.std.proofs.Common.{◌≡◌, ◌≢◌, ℕ, ◌-◌, Bool, true, false, ◌==◌, List, [], ◌∷◌, length, drop, map, refl, sym, ◌∙◌, ap}
use Rattle.std.specs.Option.{option_map}
use Rattle.std.specs.Prelude.{Option, Some, None}
use Rattle.std.proofs.lemmas.List.{length-drop, length-map}
use Rattle.std.proofs.lemmas.Option.{same_Some}
use Rattle.wasm_readers_types.specs.WasmSpec.MatchingTests.{World}
use Rattle.wasm_readers_types.specs.WasmSpec.Syntax.{Val}
use Rattle.wasm_typing_numbers.specs.WasmTypingChecks.WasmValidatorResources.WasmSpecRules.Contexts.{Context}
use Rattle.wasm_readers_types.specs.WasmReadersValues.declared.indices.UnpackedIndex.{UnpackedIndex}
use Rattle.wasm_typing_numbers.specs.WasmOperators.Control.{Block, empty_block, value_block, func_block}
use Rattle.wasm_typing_numbers.specs.WasmTypingChecks.WasmValidatorResources.WasmSpecRules.Attempts.{◌>>=◌}
use Rattle.wasm_typing_numbers.specs.WasmSpecSteps.Actions.{leave}
use Rattle.wasm_typing_numbers.specs.WasmSpecSteps.Bodies.{Surroundings}
use Rattle.wasm_typing_numbers.specs.WasmSpecSteps.Matching.{matches_vals}
use Rattle.wasm_typing_numbers.specs.WasmSpecSteps.Machine as machine
use Rattle.wasm_typing_numbers.specs.WasmSpecSteps.Machine.{Kind, block_kind, loop_kind, if_kind, else_kind, try_table_kind, legacy_try_kind, legacy_catch_kind, legacy_catch_all_kind, State, pop_vals, push_vals}
use Rattle.wasm_typing_numbers.specs.WasmTypingChecks.WasmValidatorResources.WasmSpecRules.Signatures.{Signature}
use Rattle.wasm_typing_numbers.specs.WasmSpecSteps.Meanings.{block_signature, leave_in, may_end}
use Rattle.wasm_typing_numbers.specs.WasmTypingChecks.WasmValidatorResources.Answers.{world}
use Rattle.wasm_typing_numbers.specs.WasmTypingStacks.BodyStacks.{state_of, around, below}
use Rattle.wasm_typing_numbers.specs.WasmTypingStacks.SeenOperands.{operand_of}
use Rattle.wasm_typing_numbers.specs.WasmTypingStacks.SeenBlocks.{block_in, kind_of, frame_of}
use Rattle.wasm_typing_numbers.specs.WasmTypingStacks.declared.word.Word.{Word}
use Rattle.wasm_typing_numbers.specs.WasmTypingStacks.declared.stacks.Stacks.{Stacks}
use Rattle.wasm_typing_numbers.specs.WasmTypingChecks.Steps.{acted}
use Rattle.wasm_typing_control.specs.Blocks.{function_in, signature_in, ends_in}
use Rattle.wasm_typing_numbers.proofs.WasmTypingChecks.OperandLookups.{same, differ}
use Rattle.wasm_typing_control.proofs.LabelTypes.{same_signature}

-- an `if` that gives what it takes
module _ (C : Context UnpackedIndex) (b : Block UnpackedIndex) (g : Signature UnpackedIndex) where
  known_signature : (h : Signature UnpackedIndex) → signature_in C b ≡ Some h → signature_in C b ≡ Some g → matches_vals (world C) h.takes h.gives ≡ matches_vals (world C) g.takes g.gives
  known_signature h e f = let q : h ≡ g = same_Some h g (sym e ∙ f) in ap (λ (x : Signature UnpackedIndex). matches_vals (world C) x.takes x.gives) q

  pub empty_ends : empty_block ≡ b → signature_in C b ≡ Some g → true ≡ matches_vals (world C) g.takes g.gives
  empty_ends e f = known_signature (record { takes = []; gives = [] }) (rw (← e) refl) f

  pub value_ends : (v : Val UnpackedIndex) → value_block v ≡ b → signature_in C b ≡ Some g → false ≡ matches_vals (world C) g.takes g.gives
  value_ends v e f = known_signature (record { takes = []; gives = v ∷ [] }) (rw (← e) refl) f

  pub func_ends : (n : ℕ) (h : Signature UnpackedIndex) (r : Bool) → func_block n ≡ b → Some h ≡ function_in C n → r ≡ matches_vals (world C) h.takes h.gives → signature_in C b ≡ Some g → r ≡ matches_vals (world C) g.takes g.gives
  func_ends n h r e i k f = k ∙ known_signature h (rw (← e) (sym i)) f

  pub func_missing : (n : ℕ) (r : Bool) → func_block n ≡ b → None ≡ function_in C n → signature_in C b ≡ Some g → r ≡ matches_vals (world C) g.takes g.gives
  func_missing n r e i f = let h : signature_in C b ≡ None = rw (← e) (sym i) in cc

pub ruleset ends = (empty_ends, value_ends, func_ends, func_missing)

-- the machine's side
module _ (W : World UnpackedIndex) (B : Surroundings UnpackedIndex) (x : machine.Frame UnpackedIndex) (xs : List (machine.Frame UnpackedIndex)) (s : State UnpackedIndex) where
  abbrev left : Option (State UnpackedIndex)
  left = leave_in W B (x ∷ xs) s >>= Some

  abbrev without : State UnpackedIndex → State UnpackedIndex
  without t = record t { frames = xs; inits = drop (length t.inits - x.init_height) t.inits }

  unsigned_left : block_signature W B x.block ≡ None → left ≡ None
  unsigned_left e = rw e refl

  not_popped : (g : Signature UnpackedIndex) → block_signature W B x.block ≡ Some g → pop_vals W g.gives s ≡ None → left ≡ None
  not_popped g e f = rw (e, f) refl

  too_high : (g : Signature UnpackedIndex) (t : State UnpackedIndex) → block_signature W B x.block ≡ Some g → pop_vals W g.gives s ≡ Some t → (length t.operands == x.height) ≡ false → left ≡ None
  too_high g t e f h = rw (e, f, h) refl

  unmatched : (g : Signature UnpackedIndex) (t : State UnpackedIndex) → block_signature W B x.block ≡ Some g → pop_vals W g.gives s ≡ Some t → (length t.operands == x.height) ≡ true → may_end W B x.kind g ≡ false → left ≡ None
  unmatched g t e f h i = rw (e, f, h, i) refl

  is_left : (g : Signature UnpackedIndex) (t : State UnpackedIndex) → block_signature W B x.block ≡ Some g → pop_vals W g.gives s ≡ Some t → (length t.operands == x.height) ≡ true → may_end W B x.kind g ≡ true → left ≡ Some (push_vals g.gives (without t))
  is_left g t e f h i = rw (e, f, h, i) refl

same_end : (W : World UnpackedIndex) (B : Surroundings UnpackedIndex) (k : Kind) (g : Signature UnpackedIndex) → may_end W B k g ≡ ends_in W k g
same_end W B block_kind g = refl
same_end W B loop_kind g = refl
same_end W B if_kind g = refl
same_end W B else_kind g = refl
same_end W B try_table_kind g = refl
same_end W B legacy_try_kind g = refl
same_end W B legacy_catch_kind g = refl
same_end W B legacy_catch_all_kind g = refl

signed : (vs : List (Val UnpackedIndex)) (o : Option (Signature UnpackedIndex)) → Some vs ≡ option_map (λ g. g.gives) o → (g : Signature UnpackedIndex) × (o ≡ Some g) × (g.gives ≡ vs)
signed vs None e = cc
signed vs (Some g) e = (g, refl, cc)

unsigned : (o : Option (Signature UnpackedIndex)) → None ≡ option_map (λ g. g.gives) o → o ≡ None
unsigned None e = refl
unsigned (Some g) e = cc

height_of : (ops : List Word) (k : ℕ) → length (drop k (map operand_of ops)) ≡ length ops - k
height_of ops k = length-drop k (map operand_of ops) ∙ ap (λ n. n - k) (length-map ops operand_of)

module _ {A : Type 0} (v : Stacks A) (C : Context UnpackedIndex) where
  opened : v.is_open ≡ true → (state_of v).frames ≡ frame_of v.frame ∷ map frame_of v.outer
  opened e = rw e refl

  in_frame : v.is_open ≡ true → acted v C (leave ∷ []) ≡ left (world C) (around v C) (frame_of v.frame) (map frame_of v.outer) (state_of v)
  unfolding acted
  in_frame e = ap (λ fs. leave_in (world C) (around v C) fs (state_of v) >>= Some) (opened e)

  pub end_nowhere : v.is_open ≡ false → acted v C (leave ∷ []) ≡ None
  unfolding acted
  end_nowhere e = rw e refl

  pub end_unsigned : v.is_open ≡ true → None ≡ option_map (λ g. g.gives) (signature_in C (block_in v.frame.block)) → acted v C (leave ∷ []) ≡ None
  end_unsigned e f = in_frame e ∙ unsigned_left (world C) (around v C) (frame_of v.frame) (map frame_of v.outer) (state_of v) (same_signature v C (block_in v.frame.block) ∙ unsigned (signature_in C (block_in v.frame.block)) f)

  pub end_not_popped : (vs : List (Val UnpackedIndex)) → v.is_open ≡ true → Some vs ≡ option_map (λ g. g.gives) (signature_in C (block_in v.frame.block)) → pop_vals (world C) vs (state_of v) ≡ None → acted v C (leave ∷ []) ≡ None
  end_not_popped vs e f h =
      let g = signed vs (signature_in C (block_in v.frame.block)) f in
      in_frame e ∙ not_popped (world C) (around v C) (frame_of v.frame) (map frame_of v.outer) (state_of v) g.0 (same_signature v C (block_in v.frame.block) ∙ g.1) (rw g.2 h)

  pub end_high : (vs : List (Val UnpackedIndex)) (k : ℕ) → v.is_open ≡ true → Some vs ≡ option_map (λ g. g.gives) (signature_in C (block_in v.frame.block)) → pop_vals (world C) vs (state_of v) ≡ Some (below k (state_of v)) → length v.operands - k ≢ v.frame.height → acted v C (leave ∷ []) ≡ None
  end_high vs k e f h d =
      let g = signed vs (signature_in C (block_in v.frame.block)) f in
      in_frame e
      ∙ too_high (world C) (around v C) (frame_of v.frame) (map frame_of v.outer) (state_of v) g.0 (below k (state_of v)) (same_signature v C (block_in v.frame.block) ∙ g.1) (rw g.2 h)
      (differ _ _ (λ p. d (sym (height_of v.operands k) ∙ p)))

  pub end_unmatched : (vs : List (Val UnpackedIndex)) (k : ℕ) (r : Bool) → v.is_open ≡ true → Some vs ≡ option_map (λ g. g.gives) (signature_in C (block_in v.frame.block)) → pop_vals (world C) vs (state_of v) ≡ Some (below k (state_of v)) → length v.operands - k ≡ v.frame.height
      → ((g : Signature UnpackedIndex) → signature_in C (block_in v.frame.block) ≡ Some g → r ≡ ends_in (world C) (kind_of v.frame.kind) g) → r ≡ false → acted v C (leave ∷ []) ≡ None
  end_unmatched vs k r e f h d m i =
      let g = signed vs (signature_in C (block_in v.frame.block)) f in
      in_frame e
      ∙ unmatched (world C) (around v C) (frame_of v.frame) (map frame_of v.outer) (state_of v) g.0 (below k (state_of v)) (same_signature v C (block_in v.frame.block) ∙ g.1) (rw g.2 h) (same _ _ (height_of v.operands k ∙ d))
      (same_end (world C) (around v C) (kind_of v.frame.kind) g.0 ∙ sym (m g.0 g.1) ∙ i)

  pub end_is : (vs : List (Val UnpackedIndex)) (k h : ℕ) (r : Bool) (mid new : State UnpackedIndex) → v.is_open ≡ true → Some vs ≡ option_map (λ g. g.gives) (signature_in C (block_in v.frame.block)) → pop_vals (world C) vs (state_of v) ≡ Some (below k (state_of v)) → length v.operands - k ≡ v.frame.height
      → ((g : Signature UnpackedIndex) → signature_in C (block_in v.frame.block) ≡ Some g → r ≡ ends_in (world C) (kind_of v.frame.kind) g) → r ≡ true → mid ≡ push_vals vs (below k (state_of v)) → h ≡ v.frame.init_height
      → new ≡ record mid { frames = drop 1 mid.frames; inits = drop (length mid.inits - h) mid.inits } → acted v C (leave ∷ []) ≡ Some new
  end_is vs k h r mid new e f p d m i q j n =
      let g = signed vs (signature_in C (block_in v.frame.block)) f in
      in_frame e
      ∙ is_left (world C) (around v C) (frame_of v.frame) (map frame_of v.outer) (state_of v) g.0 (below k (state_of v)) (same_signature v C (block_in v.frame.block) ∙ g.1) (rw g.2 p) (same _ _ (height_of v.operands k ∙ d))
      (same_end (world C) (around v C) (kind_of v.frame.kind) g.0 ∙ sym (m g.0 g.1) ∙ i)
      ∙ rw (n, q, j, g.2) (ap (λ fs. Some (record (push_vals vs (below k (state_of v))) { frames = fs; inits = drop (length v.locals.inits - v.frame.init_height) v.locals.inits })) (sym (ap (drop 1) (opened e))))

pub ruleset leaves = (end_nowhere, end_unsigned, end_not_popped, end_high, end_unmatched, end_is)
