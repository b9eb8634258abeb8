-- The wide-arithmetic proposal, Binary Format: instructions on integers of 128 bits, without immediates.
use Rattle.std.specs.Prelude.{ℕ, List, [], ◌∷◌, Option, Some, None}
use Rattle.wasm_operators_vector.specs.Tables.{entry}
use Rattle.wasm_operators_atomic.specs.declared.wide.WideOperator.{WideOperator}
use Rattle.wasm_operators_atomic.specs.declared.wide.WideOperator.TheVariants.{I64Add128, I64Sub128, I64MulWideS, I64MulWideU}

-- the number of a wide instruction behind the prefix fc
abbrev pub wide_code : WideOperator → ℕ
wide_code I64Add128 = 19
wide_code I64Sub128 = 20
wide_code I64MulWideS = 21
wide_code I64MulWideU = 22

-- the wide instructions in the order of their numbers
unfoldable pub wide_operators : List (Option WideOperator)
wide_operators =
    None ∷ None ∷ None ∷ None ∷ None ∷ None ∷ None ∷ None ∷ None ∷ None ∷ None ∷ None ∷ None ∷ None ∷ None ∷ None ∷ None ∷ None ∷ None ∷
    Some I64Add128 ∷ Some I64Sub128 ∷ Some I64MulWideS ∷ Some I64MulWideU ∷ []

-- the wide instruction of a number
unfoldable pub wide_from : ℕ → Option WideOperator
wide_from = entry wide_operators
