-- The tables of operators say what the operators' own opcodes say.
use Rattle.std.proofs.Common.{◌≡◌, refl, sym, subst, ap, ℕ, zero, suc, ◌+◌, ◌-◌, ltb, eqb, Bool, true, false, cond, List, [], ◌∷◌, Option, Some, None, arith}
use Rattle.std.proofs.lemmas.Bool.{eqb-true, ltb-false}
use Rattle.std.specs.Prelude.{slice_get, IfSome, IfNone, ◌≢◌, ◌≤◌}
use Rattle.wasm_operators_plain.specs.Opcodes.{counted_from, IsTableOf}
use Rattle.wasm_operators_plain.specs.Numeric.{numeric_opcode, numeric_from, numeric_operators, saturating_code, saturating_from, saturating_operators}
use Rattle.wasm_operators_plain.specs.declared.numeric.NumericOperator.{NumericOperator}
use Rattle.wasm_operators_plain.specs.declared.numeric.NumericOperator.TheVariants.{I32Eqz, I32Eq, I32Ne, I32LtS, I32LtU, I32GtS, I32GtU, I32LeS, I32LeU, I32GeS, I32GeU, I64Eqz, I64Eq, I64Ne, I64LtS, I64LtU, I64GtS, I64GtU, I64LeS, I64LeU, I64GeS, I64GeU, F32Eq, F32Ne, F32Lt, F32Gt, F32Le, F32Ge, F64Eq, F64Ne, F64Lt, F64Gt, F64Le, F64Ge, I32Clz, I32Ctz, I32Popcnt, I32Add, I32Sub, I32Mul, I32DivS, I32DivU, I32RemS, I32RemU, I32And, I32Or, I32Xor, I32Shl, I32ShrS, I32ShrU, I32Rotl, I32Rotr, I64Clz, I64Ctz, I64Popcnt, I64Add, I64Sub, I64Mul, I64DivS, I64DivU, I64RemS, I64RemU, I64And, I64Or, I64Xor, I64Shl, I64ShrS, I64ShrU, I64Rotl, I64Rotr, F32Abs, F32Neg, F32Ceil, F32Floor, F32Trunc, F32Nearest, F32Sqrt, F32Add, F32Sub, F32Mul, F32Div, F32Min, F32Max, F32Copysign, F64Abs, F64Neg, F64Ceil, F64Floor, F64Trunc, F64Nearest, F64Sqrt, F64Add, F64Sub, F64Mul, F64Div, F64Min, F64Max, F64Copysign, I32WrapI64, I32TruncF32S, I32TruncF32U, I32TruncF64S, I32TruncF64U, I64ExtendI32S, I64ExtendI32U, I64TruncF32S, I64TruncF32U, I64TruncF64S, I64TruncF64U, F32ConvertI32S, F32ConvertI32U, F32ConvertI64S, F32ConvertI64U, F32DemoteF64, F64ConvertI32S, F64ConvertI32U, F64ConvertI64S, F64ConvertI64U, F64PromoteF32, I32ReinterpretF32, I64ReinterpretF64, F32ReinterpretI32, F64ReinterpretI64, I32Extend8S, I32Extend16S, I64Extend8S, I64Extend16S, I64Extend32S}
use Rattle.wasm_operators_plain.specs.declared.numeric.SaturatingOperator.{SaturatingOperator}
use Rattle.wasm_operators_plain.specs.declared.numeric.SaturatingOperator.TheVariants.{I32TruncSatF32S, I32TruncSatF32U, I32TruncSatF64S, I32TruncSatF64U, I64TruncSatF32S, I64TruncSatF32U, I64TruncSatF64S, I64TruncSatF64U}

-- the numbers of these entries count up from this one
abbrev pub counts : {X : Type 0} → (X → ℕ) → ℕ → List X → Bool
counts number first [] = true
counts number first (x ∷ xs) = cond (eqb (number x) first) (counts number (first + 1) xs) false

both : (a b : Bool) → cond a b false ≡ true → (a ≡ true) × (b ≡ true)
both true b e = (refl, e)
both false b e = cc

at_place : {X : Type 0} (number : X → ℕ) (first : ℕ) (xs : List X) → counts number first xs ≡ true → (i : ℕ) (x : X) → slice_get xs i ≡ Some x → number x ≡ first + i
at_place number first [] c i x e = cc
at_place number first (y ∷ ys) c zero x e =
    let h = both (eqb (number y) first) (counts number (first + 1) ys) c in
    let n = eqb-true _ _ h.0 in
    let same : y ≡ x = cc in
    omega (arith, n, ap number same)
at_place number first (y ∷ ys) c (suc i) x e =
    let h = both (eqb (number y) first) (counts number (first + 1) ys) c in
    omega (arith, at_place number (first + 1) ys h.1 i x e)

found : {X : Type 0} (b : Bool) (o : Option X) (x : X) → cond b None o ≡ Some x → (b ≡ false) × (o ≡ Some x)
found true o x e = cc
found false o x e = (refl, e)

-- the entry of a number has that number
pub number_of_entry : {X : Type 0} (number : X → ℕ) (first : ℕ) (xs : List X) → counts number first xs ≡ true → (n : ℕ) (x : X) → counted_from first xs n ≡ Some x → number x ≡ n
number_of_entry number first xs c n x e =
    let h = found (ltb n first) (slice_get xs (n - first)) x e in
    let le : first ≤ n = ltb-false n first h.0 in
    omega (arith, at_place number first xs c (n - first) x h.1)

-- a table whose entries count up, and have each operator at its place
pub table_of : {X : Type 0} (number : X → ℕ) (first : ℕ) (xs : List X) → counts number first xs ≡ true → ((x : X) → counted_from first xs (number x) ≡ Some x) → IsTableOf number (counted_from first xs)
table_of number first xs c there n x = (number_of_entry number first xs c n x, λ e. subst (λ (k : ℕ). counted_from first xs k ≡ Some x) e (there x))

nothing : {X : Type 0} (o : Option X) → ((x : X) → o ≡ Some x → ⊥) → None ≡ o
nothing None h = refl
nothing (Some x) h = absurd (h x refl)

-- what was found by the operators' own numbers is the table's entry
pub entry_of : {X : Type 0} (number : X → ℕ) (operator : ℕ → Option X) → IsTableOf number operator → (n : ℕ) (r : Option X) → IfSome r (λ x. number x ≡ n) → IfNone r ((x : X) → number x ≢ n) → r ≡ operator n
entry_of number operator t n None h none = nothing (operator n) (λ x e. none x ((t n x).0 e))
entry_of number operator t n (Some x) h none = sym ((t n x).1 h)

numeric_there : (op : NumericOperator) → counted_from 0x45 numeric_operators (numeric_opcode op) ≡ Some op
unfolding numeric_operators
numeric_there I32Eqz = refl
numeric_there I32Eq = refl
numeric_there I32Ne = refl
numeric_there I32LtS = refl
numeric_there I32LtU = refl
numeric_there I32GtS = refl
numeric_there I32GtU = refl
numeric_there I32LeS = refl
numeric_there I32LeU = refl
numeric_there I32GeS = refl
numeric_there I32GeU = refl
numeric_there I64Eqz = refl
numeric_there I64Eq = refl
numeric_there I64Ne = refl
numeric_there I64LtS = refl
numeric_there I64LtU = refl
numeric_there I64GtS = refl
numeric_there I64GtU = refl
numeric_there I64LeS = refl
numeric_there I64LeU = refl
numeric_there I64GeS = refl
numeric_there I64GeU = refl
numeric_there F32Eq = refl
numeric_there F32Ne = refl
numeric_there F32Lt = refl
numeric_there F32Gt = refl
numeric_there F32Le = refl
numeric_there F32Ge = refl
numeric_there F64Eq = refl
numeric_there F64Ne = refl
numeric_there F64Lt = refl
numeric_there F64Gt = refl
numeric_there F64Le = refl
numeric_there F64Ge = refl
numeric_there I32Clz = refl
numeric_there I32Ctz = refl
numeric_there I32Popcnt = refl
numeric_there I32Add = refl
numeric_there I32Sub = refl
numeric_there I32Mul = refl
numeric_there I32DivS = refl
numeric_there I32DivU = refl
numeric_there I32RemS = refl
numeric_there I32RemU = refl
numeric_there I32And = refl
numeric_there I32Or = refl
numeric_there I32Xor = refl
numeric_there I32Shl = refl
numeric_there I32ShrS = refl
numeric_there I32ShrU = refl
numeric_there I32Rotl = refl
numeric_there I32Rotr = refl
numeric_there I64Clz = refl
numeric_there I64Ctz = refl
numeric_there I64Popcnt = refl
numeric_there I64Add = refl
numeric_there I64Sub = refl
numeric_there I64Mul = refl
numeric_there I64DivS = refl
numeric_there I64DivU = refl
numeric_there I64RemS = refl
numeric_there I64RemU = refl
numeric_there I64And = refl
numeric_there I64Or = refl
numeric_there I64Xor = refl
numeric_there I64Shl = refl
numeric_there I64ShrS = refl
numeric_there I64ShrU = refl
numeric_there I64Rotl = refl
numeric_there I64Rotr = refl
numeric_there F32Abs = refl
numeric_there F32Neg = refl
numeric_there F32Ceil = refl
numeric_there F32Floor = refl
numeric_there F32Trunc = refl
numeric_there F32Nearest = refl
numeric_there F32Sqrt = refl
numeric_there F32Add = refl
numeric_there F32Sub = refl
numeric_there F32Mul = refl
numeric_there F32Div = refl
numeric_there F32Min = refl
numeric_there F32Max = refl
numeric_there F32Copysign = refl
numeric_there F64Abs = refl
numeric_there F64Neg = refl
numeric_there F64Ceil = refl
numeric_there F64Floor = refl
numeric_there F64Trunc = refl
numeric_there F64Nearest = refl
numeric_there F64Sqrt = refl
numeric_there F64Add = refl
numeric_there F64Sub = refl
numeric_there F64Mul = refl
numeric_there F64Div = refl
numeric_there F64Min = refl
numeric_there F64Max = refl
numeric_there F64Copysign = refl
numeric_there I32WrapI64 = refl
numeric_there I32TruncF32S = refl
numeric_there I32TruncF32U = refl
numeric_there I32TruncF64S = refl
numeric_there I32TruncF64U = refl
numeric_there I64ExtendI32S = refl
numeric_there I64ExtendI32U = refl
numeric_there I64TruncF32S = refl
numeric_there I64TruncF32U = refl
numeric_there I64TruncF64S = refl
numeric_there I64TruncF64U = refl
numeric_there F32ConvertI32S = refl
numeric_there F32ConvertI32U = refl
numeric_there F32ConvertI64S = refl
numeric_there F32ConvertI64U = refl
numeric_there F32DemoteF64 = refl
numeric_there F64ConvertI32S = refl
numeric_there F64ConvertI32U = refl
numeric_there F64ConvertI64S = refl
numeric_there F64ConvertI64U = refl
numeric_there F64PromoteF32 = refl
numeric_there I32ReinterpretF32 = refl
numeric_there I64ReinterpretF64 = refl
numeric_there F32ReinterpretI32 = refl
numeric_there F64ReinterpretI64 = refl
numeric_there I32Extend8S = refl
numeric_there I32Extend16S = refl
numeric_there I64Extend8S = refl
numeric_there I64Extend16S = refl
numeric_there I64Extend32S = refl

pub numeric-table : IsTableOf numeric_opcode numeric_from
unfolding numeric_operators numeric_from
numeric-table = table_of numeric_opcode 0x45 numeric_operators refl numeric_there

saturating_there : (op : SaturatingOperator) → counted_from 0 saturating_operators (saturating_code op) ≡ Some op
unfolding saturating_operators
saturating_there I32TruncSatF32S = refl
saturating_there I32TruncSatF32U = refl
saturating_there I32TruncSatF64S = refl
saturating_there I32TruncSatF64U = refl
saturating_there I64TruncSatF32S = refl
saturating_there I64TruncSatF32U = refl
saturating_there I64TruncSatF64S = refl
saturating_there I64TruncSatF64U = refl

pub saturating-table : IsTableOf saturating_code saturating_from
unfolding saturating_operators saturating_from
saturating-table = table_of saturating_code 0 saturating_operators refl saturating_there
