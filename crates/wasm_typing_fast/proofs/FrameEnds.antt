-- The end of a frame whose operands are known to be of its type.
use Rattle.std.proofs.Common.{◌≡◌, ℕ, ◌-◌, true, false, List, [], ◌∷◌, length, drop, refl, sym, ◌∙◌, ap, arith}
use Rattle.std.specs.Option.{option_map}
use Rattle.std.specs.Prelude.{Some}
use Rattle.std.proofs.lemmas.Option.{same_Some}
use Rattle.wasm_spec.specs.MatchingTests.{World}
use Rattle.wasm_spec.specs.Syntax.{Val}
use Rattle.wasm_typing_control.specs.WasmTypingChecks.WasmSpecRules.Contexts.{Context}
use Rattle.wasm_readers_types.specs.WasmReadersValues.declared.indices.UnpackedIndex.{UnpackedIndex}
use Rattle.wasm_operators.specs.Control.{empty_block, value_block}
use Rattle.wasm_typing_control.specs.WasmTypingChecks.WasmSpecSteps.Actions.{leave}
use Rattle.wasm_typing_control.specs.WasmTypingChecks.WasmSpecSteps.Machine.{Kind, block_kind, loop_kind, if_kind, else_kind, try_table_kind, legacy_try_kind, legacy_catch_kind, legacy_catch_all_kind, is_if, State, known, pop_val, pop_vals, push_operand, push_vals}
use Rattle.wasm_typing_control.specs.WasmTypingChecks.WasmSpecRules.Signatures.{Signature}
use Rattle.wasm_typing_control.specs.WasmTypingChecks.WasmValidatorResources.Answers.{world}
use Rattle.wasm_typing_control.specs.WasmTypingChecks.WasmTypingStacks.BodyStacks.{state_of, below}
use Rattle.wasm_typing_control.specs.WasmTypingChecks.WasmTypingStacks.SeenBlocks.{block_in, kind_of}
use Rattle.wasm_typing_control.specs.WasmTypingChecks.WasmTypingStacks.declared.stacks.Stacks.{Stacks}
use Rattle.wasm_typing_control.specs.WasmTypingChecks.Steps.{acted}
use Rattle.wasm_typing_control.specs.Blocks.{signature_in, ends_in}
use Rattle.wasm_typing_control.proofs.WasmTypingChecks.OperandLookups.{look_bottom}
use Rattle.wasm_typing_control.proofs.FrameEnds.{end_is}

nothing_ends : (W : World UnpackedIndex) (k : Kind) → true ≡ ends_in W k (record { takes = []; gives = [] })
nothing_ends W block_kind = refl
nothing_ends W loop_kind = refl
nothing_ends W if_kind = refl
nothing_ends W else_kind = refl
nothing_ends W try_table_kind = refl
nothing_ends W legacy_try_kind = refl
nothing_ends W legacy_catch_kind = refl
nothing_ends W legacy_catch_all_kind = refl

other_ends : (W : World UnpackedIndex) (k : Kind) (g : Signature UnpackedIndex) → is_if k ≡ false → true ≡ ends_in W k g
other_ends W block_kind g e = refl
other_ends W loop_kind g e = refl
other_ends W if_kind g e = cc
other_ends W else_kind g e = refl
other_ends W try_table_kind g e = refl
other_ends W legacy_try_kind g e = refl
other_ends W legacy_catch_kind g e = refl
other_ends W legacy_catch_all_kind g e = refl

module _ {A : Type 0} (v : Stacks A) (C : Context UnpackedIndex) (new : State UnpackedIndex) where
  abbrev pub Closed : Type 0
  Closed = new ≡ record (state_of v) { frames = drop 1 (state_of v).frames; inits = drop (length (state_of v).inits - v.frame.init_height) (state_of v).inits }

  pub end_empty : v.is_open ≡ true → empty_block ≡ block_in v.frame.block → length v.operands ≡ v.frame.height → Closed → acted v C (leave ∷ []) ≡ Some new
  end_empty e b h n =
      let f : signature_in C (block_in v.frame.block) ≡ Some (record { takes = []; gives = [] }) = rw (← b) refl in
      end_is v C [] 0 v.frame.init_height true (state_of v) new e (rw f refl) refl (omega (arith, h))
      (λ g i. nothing_ends (world C) (kind_of v.frame.kind) ∙ ap (ends_in (world C) (kind_of v.frame.kind)) (same_Some _ _ (sym f ∙ i))) refl refl refl n

  pub end_value : (x : Val UnpackedIndex) → v.is_open ≡ true → value_block x ≡ block_in v.frame.block → is_if (kind_of v.frame.kind) ≡ false → pop_val (world C) x (state_of v) ≡ Some (below 1 (state_of v)) → push_operand (known x) (below 1 (state_of v)) ≡ state_of v
      → length v.operands - 1 ≡ v.frame.height → Closed → acted v C (leave ∷ []) ≡ Some new
  end_value x e b i p q h n =
      let f : signature_in C (block_in v.frame.block) ≡ Some (record { takes = []; gives = x ∷ [] }) = rw (← b) refl in
      end_is v C (x ∷ []) 1 v.frame.init_height true (state_of v) new e (rw f refl) p h
      (λ g j. other_ends (world C) (kind_of v.frame.kind) g i) refl (sym q) refl n

  pub end_types : (vs : List (Val UnpackedIndex)) (k h : ℕ) (mid : State UnpackedIndex) → v.is_open ≡ true → Some vs ≡ option_map (λ g. g.gives) (signature_in C (block_in v.frame.block)) → is_if (kind_of v.frame.kind) ≡ false → pop_vals (world C) vs (state_of v) ≡ Some (below k (state_of v))
      → length v.operands - k ≡ v.frame.height → mid ≡ push_vals vs (below k (state_of v)) → h ≡ v.frame.init_height → new ≡ record mid { frames = drop 1 mid.frames; inits = drop (length mid.inits - h) mid.inits } → acted v C (leave ∷ []) ≡ Some new
  end_types vs k h mid e f i p d q j n =
      end_is v C vs k h true mid new e f p d (λ g l. other_ends (world C) (kind_of v.frame.kind) g i) refl q j n

-- where code isn't reached and no operand is left, operands of any types
module _ {A : Type 0} (v : Stacks A) (W : World UnpackedIndex) where
  pub unreached_pops : (vs : List (Val UnpackedIndex)) → v.is_open ≡ true → v.frame.unreachable ≡ true → length v.operands ≡ v.frame.height → pop_vals W vs (state_of v) ≡ Some (state_of v)
  unreached_pops [] e u h = refl
  unreached_pops (x ∷ xs) e u h =
      rw (unreached_pops xs e u h, look_bottom v.operands v.is_open v.frame v.outer v.locals.inits 0 e (omega (arith, h)) u) refl

pub ruleset unreached = (unreached_pops)

pub ruleset ends = (end_empty, end_value, end_types)
