-- What reading of an expression keeps.
use Rattle.std.proofs.Common.{◌≡◌, ◌≤◌, ◌<◌, ◌+◌, ◌-◌, ◌∙◌, refl, sym, ap, ℕ, zero, suc, Bool, true, false, cond, eqb, List, length, Option, Some, None, arith}
use Rattle.std.proofs.lemmas.List.{length-drop}
use Rattle.wasm_operators_proposals.specs.WasmOperatorsPlain.WasmReaders.WasmReadersBytes.Reader.{SameInput, input, position_in, rest}
use Rattle.wasm_operators_proposals.specs.WasmOperatorsPlain.WasmReaders.WasmReadersBytes.declared.binary_reader.BinaryReader.{BinaryReader}
use Rattle.wasm_operators.specs.Instructions.{Instruction, instruction_at}
use Rattle.wasm_operators.specs.Expressions.{nesting_of, depth_after, behind_from}
use Rattle.wasm_operators.specs.declared.expressions.Nesting.{Nesting}
use Rattle.wasm_operators.specs.declared.expressions.Nesting.TheVariants.{Opens, Closes, Delegates, Keeps}

-- less is left behind what was read
pub shorter : (old new : BinaryReader) → SameInput old new → position_in old < position_in new → length (rest new) < length (rest old)
shorter old new same further =
    omega (arith, length-drop (position_in old) (input old), length-drop (position_in new) (input new), ap (λ (xs : List ℕ). length xs) same.0, new.within)

taken : (b : Bool) (o : Option ℕ) (n : ℕ) → cond b None o ≡ Some n → o ≡ Some n
taken true o n e = cc
taken false o n e = e

-- an instruction opens one block at most
pub one_deeper : (nesting : Nesting) (depth now : ℕ) → depth_after nesting depth ≡ Some now → now ≤ depth + 1
one_deeper Opens depth now e = let same : depth + 1 ≡ now = cc in omega arith
one_deeper Closes depth now e = let less = taken (eqb depth 0) (Some (depth - 1)) now e in let same : depth - 1 ≡ now = cc in omega arith
one_deeper Delegates depth now e = let same : depth - 1 ≡ now = cc in omega arith
one_deeper Keeps depth now e = let same : depth ≡ now = cc in omega arith

one_step : {R : Type 0} (to : ℕ → R) (most depth : ℕ) (bytes more : List ℕ) (i : Instruction R) (now : ℕ)
    → instruction_at to bytes ≡ Some (i, more) → depth_after (nesting_of i) depth ≡ Some now → behind_from to (suc most) depth bytes ≡ behind_from to most now more
one_step to most depth bytes more i now e d = rw (e, d) refl

last_step : {R : Type 0} (to : ℕ → R) (most depth : ℕ) (bytes more : List ℕ) (i : Instruction R)
    → instruction_at to bytes ≡ Some (i, more) → depth_after (nesting_of i) depth ≡ None → behind_from to (suc most) depth bytes ≡ Some more
last_step to most depth bytes more i e d = rw (e, d) refl

-- an instruction that doesn't end the expression
pub go_one : {R : Type 0} (to : ℕ → R) (most depth : ℕ) (bytes more : List ℕ) (i : Instruction R) (now : ℕ) (all : Option (List ℕ))
    → length bytes ≤ most → length more < length bytes → instruction_at to bytes ≡ Some (i, more) → depth_after (nesting_of i) depth ≡ Some now → behind_from to most depth bytes ≡ all
    → (m : ℕ) × (length more ≤ m) × (behind_from to m now more ≡ all)
go_one to zero depth bytes more i now all enough less e d so_far = absurd (omega arith)
go_one to (suc m) depth bytes more i now all enough less e d so_far = (m, omega arith, sym (one_step to m depth bytes more i now e d) ∙ so_far)

-- the one that does
pub end_here : {R : Type 0} (to : ℕ → R) (most depth : ℕ) (bytes more : List ℕ) (i : Instruction R) (all : Option (List ℕ))
    → length bytes ≤ most → length more < length bytes → instruction_at to bytes ≡ Some (i, more) → depth_after (nesting_of i) depth ≡ None → behind_from to most depth bytes ≡ all
    → all ≡ Some more
end_here to zero depth bytes more i all enough less e d so_far = absurd (omega arith)
end_here to (suc m) depth bytes more i all enough less e d so_far = sym so_far ∙ last_step to m depth bytes more i e d

-- no instruction, no expression
pub none_here : {R : Type 0} (to : ℕ → R) (most depth : ℕ) (bytes : List ℕ) (all : Option (List ℕ))
    → instruction_at to bytes ≡ None → behind_from to most depth bytes ≡ all → all ≡ None
none_here to zero depth bytes all e so_far = sym so_far
none_here to (suc m) depth bytes all e so_far = let none : behind_from to (suc m) depth bytes ≡ None = rw e refl in sym so_far ∙ none
