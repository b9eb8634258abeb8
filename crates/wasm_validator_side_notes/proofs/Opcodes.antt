-- What first bytes say of an instruction: that it branches nowhere and leaves the blocks as they are.
use Rattle.std.proofs.Common.{◌≡◌, ◌≤◌, ◌<◌, refl, sym, ap, subst, ◌∙◌, ℕ, Bool, true, false, List, [], Option, Some, None, arith, if◌then◌else◌, nat_lt, ◌∷◌}
use Rattle.std.proofs.lemmas.Bool.Decides.{nat_tests}
use Rattle.wasm_operators.specs.Control.{unreachable, nop, return_, control_from, parametric_from}
use Rattle.wasm_operators.specs.Instructions.{Instruction, instruction_at, plain_from, of_family, with_nothing, with_memarg, control, call, parametric, variable, table, access, memory, constant, numeric}
use Rattle.wasm_operators.specs.WasmOperatorsPlain.Calls.{call_from}
use Rattle.wasm_operators.specs.WasmOperatorsPlain.Variables.{variable_from}
use Rattle.wasm_operators.specs.WasmOperatorsPlain.Tables.{table_access_from}
use Rattle.wasm_operators.specs.WasmOperatorsPlain.Memories.{access_from, memarg_at, memory_size_from}
use Rattle.wasm_operators.specs.WasmOperatorsPlain.Constants.{constant_from}
use Rattle.wasm_operators.specs.WasmOperatorsPlain.Numeric.{numeric_from}
use Rattle.wasm_operators.specs.WasmOperatorsPlain.declared.memories.MemoryOperator.{MemoryOperator}
use Rattle.wasm_spec_side_tables.specs.SideTables.{Branch, branches, Nesting, stays, nesting}
use Rattle.wasm_spec_side_tables.proofs.Lists.{the_same}
use Rattle.wasm_validator_side_notes.specs.OperatorNotes.{IsQuiet}

pub below : (b m : ℕ) → b < m → nat_lt b m ≡ true
below b m h = grind (arith, nat_tests)

pub not_below : (b m : ℕ) → m ≤ b → nat_lt b m ≡ false
not_below b m h = grind (arith, nat_tests)

abbrev pub Read : Type 0
Read = Instruction ℕ × List ℕ

-- what is read branches so, and does this to the blocks
abbrev pub Does : List Branch → Nesting → Option Read → Type 0
Does bs k o = (i : Instruction ℕ) (more : List ℕ) → o ≡ Some (i, more) → (branches i ≡ bs) × (nesting i ≡ k)

-- one instruction that is read
pub one : (bs : List Branch) (k : Nesting) (j : Instruction ℕ) (bytes : List ℕ) → branches j ≡ bs → nesting j ≡ k → Does bs k (Some (j, bytes))
one bs k j bytes p q i more e =
    let same : j ≡ i = ap (λ (y : Read). y.0) (the_same (j, bytes) (i, more) e) in
    subst (λ (j : Instruction ℕ). (branches j ≡ bs) × (nesting j ≡ k)) same (p, q)

-- all of a family
module _ {X : Type 0} (bs : List Branch) (k : Nesting) (f : X → Instruction ℕ) (h : (x : X) → (branches (f x) ≡ bs) × (nesting (f x) ≡ k)) where
  pub family : (o : Option (X × List ℕ)) → Does bs k (of_family f o)
  family None i more e = absurd cc
  family (Some x) i more e = one bs k (f x.0) x.1 (h x.0).0 (h x.0).1 i more e

  alone_in : (bytes : List ℕ) (o : Option X) → Does bs k (with_nothing f bytes o)
  alone_in bytes None i more e = absurd cc
  alone_in bytes (Some x) i more e = one bs k (f x) bytes (h x).0 (h x).1 i more e

either : (bs : List Branch) (k : Nesting) (c : Bool) (x y : Option Read) → Does bs k x → Does bs k y → Does bs k (if c then x else y)
either bs k true x y p q = p
either bs k false x y p q = q

accesses : (bytes : List ℕ) (o : Option MemoryOperator) → Does [] stays (with_memarg bytes o)
accesses bytes None i more e = absurd cc
accesses bytes (Some op) i more e = family [] stays (access op) (λ m. (refl, refl)) (memarg_at bytes) i more e

-- from 20 up to d0
abbrev high : ℕ → List ℕ → Option Read
high b bytes =
    if nat_lt b 0x25 then of_family variable (variable_from b bytes)
    else (if nat_lt b 0x28 then of_family table (table_access_from b bytes)
    else (if nat_lt b 0x3f then with_memarg bytes (access_from b)
    else (if nat_lt b 0x41 then of_family memory (memory_size_from b bytes)
    else (if nat_lt b 0x45 then of_family constant (constant_from b bytes)
    else with_nothing numeric bytes (numeric_from b)))))

high_is : (b : ℕ) (bytes : List ℕ) → 0x20 ≤ b → b < 0xd0 → plain_from (λ n. n) b bytes ≡ high b bytes
unfolding plain_from
high_is b bytes l h =
    rw (
      not_below b 0x06 (omega arith),
      not_below b 0x08 (omega arith),
      not_below b 0x09 (omega arith),
      not_below b 0x0a (omega arith),
      not_below b 0x10 (omega arith),
      not_below b 0x18 (omega arith),
      not_below b 0x1a (omega arith),
      not_below b 0x1f (omega arith),
      not_below b 0x20 l,
      below b 0xd0 h,
    ) refl

high_does : (b : ℕ) (bytes : List ℕ) → Does [] stays (high b bytes)
high_does b bytes =
    either [] stays (nat_lt b 0x25) _ _ (family [] stays variable (λ x. (refl, refl)) (variable_from b bytes))
    (either [] stays (nat_lt b 0x28) _ _ (family [] stays table (λ x. (refl, refl)) (table_access_from b bytes))
    (either [] stays (nat_lt b 0x3f) _ _ (accesses bytes (access_from b))
    (either [] stays (nat_lt b 0x41) _ _ (family [] stays memory (λ x. (refl, refl)) (memory_size_from b bytes))
    (either [] stays (nat_lt b 0x45) _ _ (family [] stays constant (λ x. (refl, refl)) (constant_from b bytes))
    (alone_in [] stays numeric (λ x. (refl, refl)) bytes (numeric_from b))))))

plain_high : (b : ℕ) (bytes : List ℕ) → 0x20 ≤ b → b < 0xd0 → Does [] stays (plain_from (λ n. n) b bytes)
plain_high b bytes l h i more e = high_does b bytes i more (sym (high_is b bytes l h) ∙ e)

-- an instruction is read by its first byte
by_test : (c : Bool) (x y z : Option Read) → c ≡ true → (if c then x else y) ≡ z → x ≡ z
by_test true x y z e f = f
by_test false x y z e f = absurd cc

pub plainly : (b : ℕ) (bytes : List ℕ) (i : Instruction ℕ) (more : List ℕ) → b < 0xfb → instruction_at (λ n. n) (b ∷ bytes) ≡ Some (i, more) → plain_from (λ n. n) b bytes ≡ Some (i, more)
unfolding instruction_at
plainly b bytes i more h e = by_test (nat_lt b 0xfb) (plain_from (λ n. n) b bytes) _ (Some (i, more)) (below b 0xfb h) e

by_test_back : (c : Bool) (x y z : Option Read) → c ≡ true → x ≡ z → (if c then x else y) ≡ z
by_test_back true x y z e f = f
by_test_back false x y z e f = absurd cc

pub plainly_back : (b : ℕ) (bytes : List ℕ) (i : Instruction ℕ) (more : List ℕ) → b < 0xfb → plain_from (λ n. n) b bytes ≡ Some (i, more) → instruction_at (λ n. n) (b ∷ bytes) ≡ Some (i, more)
unfolding instruction_at
plainly_back b bytes i more h e = by_test_back (nat_lt b 0xfb) (plain_from (λ n. n) b bytes) _ (Some (i, more)) (below b 0xfb h) e

pub quiet_high : (b : ℕ) → 0x20 ≤ b → b < 0xd0 → IsQuiet b
quiet_high b l h = record { at = λ bytes i more e. plain_high b bytes l h i more (plainly b bytes i more (omega arith) e) }

module _ (bytes : List ℕ) where
  at_00 : Does [] stays (plain_from (λ n. n) 0x00 bytes)
  unfolding plain_from control_from
  at_00 = one [] stays (control unreachable) bytes refl refl

  at_01 : Does [] stays (plain_from (λ n. n) 0x01 bytes)
  unfolding plain_from control_from
  at_01 = one [] stays (control nop) bytes refl refl

  at_0f : Does [] stays (plain_from (λ n. n) 0x0f bytes)
  unfolding plain_from control_from
  at_0f = one [] stays (control return_) bytes refl refl

  at_10 : Does [] stays (plain_from (λ n. n) 0x10 bytes)
  unfolding plain_from
  at_10 = family [] stays call (λ x. (refl, refl)) (call_from 0x10 bytes)

  at_11 : Does [] stays (plain_from (λ n. n) 0x11 bytes)
  unfolding plain_from
  at_11 = family [] stays call (λ x. (refl, refl)) (call_from 0x11 bytes)

  at_1a : Does [] stays (plain_from (λ n. n) 0x1a bytes)
  unfolding plain_from
  at_1a = family [] stays parametric (λ x. (refl, refl)) (parametric_from (λ n. n) 0x1a bytes)

  at_1b : Does [] stays (plain_from (λ n. n) 0x1b bytes)
  unfolding plain_from
  at_1b = family [] stays parametric (λ x. (refl, refl)) (parametric_from (λ n. n) 0x1b bytes)

quiet_by : (b c : ℕ) → b ≡ c → c < 0xfb → ((bytes : List ℕ) → Does [] stays (plain_from (λ n. n) c bytes)) → IsQuiet b
quiet_by b c e h d = subst IsQuiet (sym e) (record { at = λ bytes i more f. d bytes i more (plainly c bytes i more h f) })

pub quiet_00 : (b : ℕ) → b ≡ 0x00 → IsQuiet b
quiet_00 b e = quiet_by b 0x00 e (omega arith) at_00

pub quiet_01 : (b : ℕ) → b ≡ 0x01 → IsQuiet b
quiet_01 b e = quiet_by b 0x01 e (omega arith) at_01

pub quiet_0f : (b : ℕ) → b ≡ 0x0f → IsQuiet b
quiet_0f b e = quiet_by b 0x0f e (omega arith) at_0f

pub quiet_10 : (b : ℕ) → b ≡ 0x10 → IsQuiet b
quiet_10 b e = quiet_by b 0x10 e (omega arith) at_10

pub quiet_11 : (b : ℕ) → b ≡ 0x11 → IsQuiet b
quiet_11 b e = quiet_by b 0x11 e (omega arith) at_11

pub quiet_1a : (b : ℕ) → b ≡ 0x1a → IsQuiet b
quiet_1a b e = quiet_by b 0x1a e (omega arith) at_1a

pub quiet_1b : (b : ℕ) → b ≡ 0x1b → IsQuiet b
quiet_1b b e = quiet_by b 0x1b e (omega arith) at_1b

pub ruleset quiets = (quiet_high, quiet_1b)
