-- Branch tables, each label of which is that of a block without types.
use Rattle.std.proofs.Common.{◌≡◌, ◌<◌, ◌-◌, ℕ, zero, suc, true, List, [], ◌∷◌, refl, sym, ◌∙◌, ap, subst, arith}
use Rattle.std.specs.Prelude.{Some}
use Rattle.wasm_typing_families.specs.WasmTypingBlocks.WasmTypingChecks.WasmSpecRules.WasmSpec.Syntax.{Val, i32}
use Rattle.wasm_readers.specs.WrittenIndices.{written}
use Rattle.wasm_operators.specs.WasmOperatorsPlain.WasmSpec.Values.{u32_at, many_at}
use Rattle.wasm_operators.specs.Control.{control_from, br_table}
use Rattle.wasm_operators.specs.Instructions.{Instruction, control, plain_from, instruction_at}
use Rattle.wasm_operators.specs.Maps.{map_instruction}
use Rattle.wasm_typing_families.specs.WasmTypingBlocks.WasmTypingChecks.WasmSpecRules.Contexts.{Context}
use Rattle.wasm_readers_types.specs.WasmReadersValues.declared.indices.UnpackedIndex.{UnpackedIndex}
use Rattle.wasm_typing_families.specs.WasmTypingBlocks.WasmTypingChecks.WasmSpecSteps.Actions.{label, take, branch_to_one_of}
use Rattle.wasm_typing_families.specs.WasmTypingBlocks.WasmTypingChecks.WasmSpecSteps.Machine.{State, become_unreachable, pop_val}
use Rattle.wasm_typing_families.specs.WasmTypingBlocks.WasmTypingChecks.WasmSpecSteps.Shapes.{one}
use Rattle.wasm_typing_families.specs.WasmTypingBlocks.WasmTypingChecks.WasmSpecSteps.Steps.{is_open, step_in}
use Rattle.wasm_typing_families.specs.WasmTypingBlocks.WasmTypingChecks.WasmValidatorResources.Answers.{world, written_index}
use Rattle.wasm_typing_families.specs.WasmTypingBlocks.WasmTypingChecks.WasmTypingStacks.BodyStacks.{state_of, around, below}
use Rattle.wasm_typing_families.specs.WasmTypingBlocks.WasmTypingChecks.WasmTypingStacks.declared.stacks.Stacks.{Stacks}
use Rattle.wasm_typing_families.specs.WasmTypingBlocks.WasmTypingChecks.Steps.{acted, typed}
use Rattle.wasm_typing_families.specs.WasmTypingBlocks.BranchTargets.{fits, all_fit}
use Rattle.wasm_typing_families.proofs.WasmTypingBlocks.TableBranches.{fits_there, table_is}
use Rattle.wasm_typing_families.specs.WasmTypingSteps.InstructionSteps.{step_at}
use Rattle.wasm_typing_validator.specs.Labels.{Lists}

module _ {A : Type 0} (v : Stacks A) (C : Context UnpackedIndex) where
  pub none_listed : (n : ℕ) (bytes : List ℕ) → n ≡ 0 → Lists v C n bytes bytes
  unfolding Lists all_fit
  none_listed zero bytes e = ([], refl, refl)
  none_listed (suc n) bytes e = cc

  both : (l : ℕ) (ls : List ℕ) → typed v C (label l) ≡ Some [] → all_fit v C 1 0 ls ≡ true → all_fit v C 1 0 (l ∷ ls) ≡ true
  unfolding fits all_fit
  both l ls e f = let h : fits v C 1 0 l ≡ true = sym (fits_there v C 1 0 l [] (below 1 (state_of v)) e refl refl) in rw (h, f) refl

  pub one_listed : (n l : ℕ) (bytes next more : List ℕ) → 0 < n → u32_at bytes ≡ Some (l, next) → typed v C (label l) ≡ Some [] → Lists v C (n - 1) next more → Lists v C n bytes more
  unfolding Lists
  one_listed zero l bytes next more p e t ls = absurd (omega (arith, p))
  one_listed (suc n) l bytes next more p e t ls =
      let k : suc n - 1 ≡ n = omega arith in
      let q : many_at u32_at n next ≡ Some (ls.0, more) = subst (λ j. many_at u32_at j next ≡ Some (ls.0, more)) k ls.1 in
      (l ∷ ls.0, rw (e, q) refl, both l ls.0 t ls.2)

  stepped_by : (i : Instruction UnpackedIndex) (bytes more : List ℕ) (new : State UnpackedIndex) → v.is_open ≡ true → instruction_at written bytes ≡ Some (i, more)
      → step_in (world C) (around v C) (map_instruction written_index i) (state_of v) ≡ Some new → step_at (world C) (around v C) (state_of v) bytes ≡ Some (new, more)
  unfolding step_at
  stepped_by i bytes more new o e f = rw (e, f) refl

  opened : v.is_open ≡ true → is_open (state_of v) ≡ true
  opened e = rw e refl

  in_frame : (ls : List ℕ) (l : ℕ) (new : State UnpackedIndex) → v.is_open ≡ true → acted v C (take (one i32) ∷ branch_to_one_of ls l ∷ []) ≡ Some new
      → step_in (world C) (around v C) (map_instruction written_index (control (br_table ls l))) (state_of v) ≡ Some new
  unfolding acted
  in_frame ls l new o e = rw (opened o) e

  read_table : (n l : ℕ) (bytes first second third more : List ℕ) (ls : List ℕ) → bytes ≡ 0x0e ∷ first → u32_at first ≡ Some (n, second) → many_at u32_at n second ≡ Some (ls, third) → u32_at third ≡ Some (l, more)
      → instruction_at written bytes ≡ Some (control (br_table ls l), more)
  unfolding instruction_at plain_from control_from
  read_table n l bytes first second third more ls e f g h = rw (e, f, g, h) refl

  pub tabled : (x : Val UnpackedIndex) (b n l : ℕ) (bytes first second third more : List ℕ) (mid new : State UnpackedIndex) → v.is_open ≡ true → bytes ≡ b ∷ first → b ≡ 0x0e
      → x ≡ i32 → pop_val (world C) x (state_of v) ≡ Some (below 1 (state_of v)) → u32_at first ≡ Some (n, second) → Lists v C n second third → u32_at third ≡ Some (l, more) → typed v C (label l) ≡ Some []
      → mid ≡ below 1 (state_of v) → become_unreachable mid ≡ Some new → step_at (world C) (around v C) (state_of v) bytes ≡ Some (new, more)
  unfolding Lists
  tabled x b n l bytes first second third more mid new o e b14 xi p f ls h t m s =
      let q : bytes ≡ 0x0e ∷ first = e ∙ ap (λ c. c ∷ first) b14 in
      stepped_by (control (br_table ls.0 l)) bytes more new o (read_table n l bytes first second third more ls.0 q f ls.1 h)
      (in_frame ls.0 l new o (table_is v C x ls.0 l 1 0 [] (below 1 (state_of v)) mid new xi p t refl (sym ls.2) refl m s))
