-- Operands whose types are known.
use Rattle.std.proofs.Common.{◌≡◌, ◌≢◌, ℕ, ◌-◌, ◌+◌, ◌<◌, ◌≤◌, true, ◌∷◌, length, drop, map, sym, ◌∙◌, ap, arith}
use Rattle.std.specs.Option.{option_map}
use Rattle.std.specs.Prelude.{Some, slice_get}
use Rattle.std.proofs.lemmas.Option.{slice_get-map}
use Rattle.wasm_readers_types.specs.WasmSpec.Syntax.{Val}
use Rattle.wasm_typing_numbers.specs.WasmTypingChecks.WasmSpecRules.Contexts.{Context}
use Rattle.wasm_readers_types.specs.WasmReadersValues.declared.indices.UnpackedIndex.{UnpackedIndex}
use Rattle.wasm_typing_numbers.specs.WasmTypingChecks.WasmSpecSteps.Machine.{known, pop_any, pop_val, push_operand}
use Rattle.wasm_typing_numbers.specs.WasmTypingChecks.WasmValidatorResources.Answers.{world}
use Rattle.wasm_typing_numbers.specs.WasmTypingChecks.WasmTypingStacks.BodyStacks.{state_of, below}
use Rattle.wasm_typing_numbers.specs.WasmTypingChecks.WasmTypingStacks.SeenOperands.{operand_of}
use Rattle.wasm_typing_numbers.specs.WasmTypingChecks.WasmTypingStacks.declared.word.Word.{Word}
use Rattle.wasm_typing_numbers.specs.WasmTypingChecks.WasmTypingStacks.declared.stacks.Stacks.{Stacks}
use Rattle.wasm_typing_numbers.proofs.WasmTypingChecks.OperandMatches.{known_matches}
use Rattle.wasm_typing_numbers.proofs.WasmTypingChecks.OperandLookups.{look_within, one_popped, one_more, from_on}

higher : (a b : ℕ) → b < a → a ≢ b
higher a b h e = absurd (omega (arith, h, e))

module _ {A : Type 0} (v : Stacks A) (C : Context UnpackedIndex) (k : ℕ) (o : Word) (x : Val UnpackedIndex) where
  pub peeked : v.is_open ≡ true → slice_get v.operands k ≡ Some o → operand_of o ≡ known x → v.frame.height < length v.operands - k → pop_val (world C) x (below k (state_of v)) ≡ Some (below (k + 1) (state_of v))
  peeked e u h l =
      one_popped (world C) x (below k (state_of v)) (below (k + 1) (state_of v)) (operand_of o)
      (look_within v.operands v.is_open v.frame v.outer v.locals.inits k o e (higher (length v.operands - k) v.frame.height l) u) (known_matches C (operand_of o) x h)

  pub found_there : v.is_open ≡ true → slice_get v.operands k ≡ Some o → operand_of o ≡ known x → v.frame.height < length v.operands - k → pop_any (below k (state_of v)) ≡ Some (known x, below (k + 1) (state_of v))
  found_there e u h l =
      look_within v.operands v.is_open v.frame v.outer v.locals.inits k o e (higher (length v.operands - k) v.frame.height l) u ∙ ap (λ y. Some (y, below (k + 1) (state_of v))) h

  pub given_again : slice_get v.operands k ≡ Some o → operand_of o ≡ known x → push_operand (known x) (below (k + 1) (state_of v)) ≡ below k (state_of v)
  given_again u h =
      let d = from_on (map operand_of v.operands) k (operand_of o) (slice_get-map operand_of v.operands k ∙ ap (option_map operand_of) u) in
      ap (λ xs. record (state_of v) { operands = xs }) (ap (λ y. y ∷ drop (k + 1) (map operand_of v.operands)) (sym h) ∙ sym d)

  pub is_within : slice_get v.operands k ≡ Some o → k + 1 ≤ length (state_of v).operands
  is_within u = one_more v.operands k o u

pub ruleset peeks = (peeked, given_again, is_within)
