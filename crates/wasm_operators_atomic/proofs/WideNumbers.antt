-- The table of wide operators says what their own numbers say.
use Rattle.std.proofs.Common.{◌≡◌, refl, Some}
use Rattle.wasm_operators_vector.specs.Tables.{entry, IsTableOf}
use Rattle.wasm_operators_vector.proofs.Entries.{table_of}
use Rattle.wasm_operators_atomic.specs.WideArithmetic.{wide_code, wide_from, wide_operators}
use Rattle.wasm_operators_atomic.specs.declared.wide.WideOperator.{WideOperator}
use Rattle.wasm_operators_atomic.specs.declared.wide.WideOperator.TheVariants.{I64Add128, I64Sub128, I64MulWideS, I64MulWideU}

there : (op : WideOperator) → entry wide_operators (wide_code op) ≡ Some op
unfolding wide_operators
there I64Add128 = refl
there I64Sub128 = refl
there I64MulWideS = refl
there I64MulWideU = refl

pub wide_table : IsTableOf wide_code wide_from
unfolding wide_operators wide_from
wide_table = table_of wide_code wide_operators refl there
