-- A small engine: numbers of 32 bits, memories of bytes, and structures; whatever else it is asked for traps. And in it the factorial, as a
-- function that calls itself.
use Rattle.std.specs.Prelude.{◌≡◌, ℕ, zero, suc, true, false, ◌+◌, ◌-◌, ◌*◌, ◌%◌, ◌^◌, ◌==◌, ℤ, pos, negsuc, List, [], ◌∷◌, ◌++◌, Option, Some, None, length, slice_get, slice_set}
use Rattle.wasm_spec_steps.specs.WasmSpecRules.WasmSpec.Syntax.{Val, i32, func, Sub}
use Rattle.wasm_spec_steps.specs.WasmSpecRules.WasmSpec.Features.{Features}
use Rattle.wasm_spec_steps.specs.WasmSpecRules.WasmSpec.MatchingTests.{World}
use Rattle.wasm_spec_steps.specs.WasmSpecRules.Attempts.{◌>>=◌}
use Rattle.wasm_operators.specs.Control.{value_block}
use Rattle.wasm_operators.specs.Instructions as instruction
use Rattle.wasm_operators.specs.Instructions.{Instruction}
use Rattle.wasm_operators.specs.WasmOperatorsPlain.declared.calls.CallOperator.TheVariants.{Call}
use Rattle.wasm_operators.specs.WasmOperatorsPlain.declared.constants.ConstantOperator.{ConstantOperator}
use Rattle.wasm_operators.specs.WasmOperatorsPlain.declared.constants.ConstantOperator.TheVariants.{I32Const}
use Rattle.wasm_operators.specs.WasmOperatorsPlain.declared.memories.MemoryOperator.{MemoryOperator}
use Rattle.wasm_operators.specs.WasmOperatorsPlain.declared.memories.MemoryOperator.TheVariants.{I32Load8U, I32Store8}
use Rattle.wasm_operators.specs.WasmOperatorsPlain.declared.memories.MemArg.{MemArg}
use Rattle.wasm_operators.specs.WasmOperatorsPlain.declared.numeric.NumericOperator.{NumericOperator}
use Rattle.wasm_operators.specs.WasmOperatorsPlain.declared.numeric.NumericOperator.TheVariants.{I32Add, I32Sub, I32Mul}
use Rattle.wasm_operators.specs.WasmOperatorsPlain.declared.structs.StructOperator.{StructOperator}
use Rattle.wasm_operators.specs.WasmOperatorsPlain.declared.structs.StructOperator.TheVariants.{StructNew, StructGet}
use Rattle.wasm_operators.specs.WasmOperatorsPlain.declared.variables.VariableOperator.TheVariants.{LocalGet}
use Rattle.wasm_spec_steps.specs.Bodies.{Surroundings}
use Rattle.wasm_spec_steps.specs.FunctionBodies.{local_taken}
use Rattle.wasm_spec_steps.specs.Meanings.{exact_if, field_at, unpack_field}
use Rattle.wasm_spec_instructions.specs.Code.{Code, done, simply, choosing_between}
use Rattle.wasm_laws_soundness.specs.Values.{Value, i32_value, other, Instance, defined, Function, Store}
use Rattle.wasm_laws_soundness.specs.Outcomes.{State, falls_through, leaves, out_of_steps, Answer, gives, fails, ends, Primitives}
use Rattle.wasm_laws_soundness.specs.StoreValidity.{InstanceFits, StoreFits}
use Rattle.wasm_laws_soundness.specs.Interpreter.{does, invokes, run}
use Rattle.wasm_laws_soundness.specs.Laws.{AreSound}

-- numbers of 32 bits, and the bits of a signed one
abbrev pub in_32_bits : ℕ → ℕ
in_32_bits n = n % (2 ^ 32)

abbrev pub bits_of : ℤ → ℕ
bits_of (pos n) = n
bits_of (negsuc n) = 2 ^ 32 - suc n

module _ {R : Type 0} where
  abbrev pub of_two : (ℕ → ℕ → ℕ) → List (Value R) → Store R → Answer R
  of_two f (i32_value a ∷ i32_value b ∷ []) S = gives (i32_value (f a b) ∷ []) S
  of_two f _ S = fails

  abbrev pub calculated : NumericOperator → List (Value R) → Store R → Answer R
  calculated I32Add vs S = of_two (λ a b. in_32_bits (a + b)) vs S
  calculated I32Sub vs S = of_two (λ a b. in_32_bits (a + (2 ^ 32 - b))) vs S
  calculated I32Mul vs S = of_two (λ a b. in_32_bits (a * b)) vs S
  calculated _ vs S = fails

  abbrev pub given : ConstantOperator → Store R → Answer R
  given (I32Const n) S = gives (i32_value (bits_of n) ∷ []) S
  given _ S = fails

  -- a memory is a row of bytes, at the address that the instance has first
  abbrev pub with_contents : List (List (Value R)) → Store R → Store R
  with_contents rows S = record { functions = S.functions; tags = S.tags; exceptions = S.exceptions; contents = rows }

  abbrev pub row_at : Store R → Option ℕ → Option (List (Value R))
  row_at S None = None
  row_at S (Some a) = slice_get S.contents a

  abbrev pub number_in : Option (Value R) → Store R → Answer R
  number_in (Some (i32_value n)) S = gives (i32_value n ∷ []) S
  number_in _ S = fails

  abbrev pub loaded : Option ℕ → ℕ → Store R → Answer R
  loaded m a S = number_in (row_at S m >>= λ row. slice_get row a) S

  abbrev pub written : Option ℕ → ℕ → ℕ → Store R → Option (List (Value R)) → Answer R
  written (Some m) a n S (Some row) = gives [] (with_contents (slice_set S.contents m (slice_set row a (i32_value (n % 256)))) S)
  written _ a n S _ = fails

  -- within its bounds
  abbrev pub stored : Option ℕ → ℕ → ℕ → Store R → Option (Value R) → Answer R
  stored m a n S None = fails
  stored m a n S (Some b) = written m a n S (row_at S m)

  abbrev pub accessed : MemoryOperator → MemArg → Instance → List (Value R) → Store R → Answer R
  accessed I32Load8U m I (i32_value a ∷ []) S = loaded (slice_get I.others m.memory) (a + m.offset) S
  accessed I32Store8 m I (i32_value a ∷ i32_value n ∷ []) S =
      stored (slice_get I.others m.memory) (a + m.offset) n S (row_at S (slice_get I.others m.memory) >>= λ row. slice_get row (a + m.offset))
  accessed _ m I vs S = fails

  module _ (W : World R) (B : Surroundings R) where
    -- a structure is a row of its fields, of which numbers of 32 bits are read
    abbrev pub made : Option R → List (Value R) → Store R → Answer R
    made None vs S = fails
    made (Some a) vs S = gives (other (exact_if W B true a) (length S.contents) ∷ []) (with_contents (S.contents ++ vs ∷ []) S)

    abbrev pub read_as : Option (Val R) → Option (Value R) → Store R → Answer R
    read_as (Some i32) o S = number_in o S
    read_as _ o S = fails

    abbrev pub content_at : ℕ → ℕ → Option (Val R)
    content_at x i = field_at W B x i >>= λ f. Some (unpack_field f)

    abbrev pub structured : StructOperator → List (Value R) → Store R → Answer R
    structured (StructNew x) vs S = made (slice_get B.context.types x) vs S
    structured (StructGet x i) (other h n ∷ []) S = read_as (content_at x i) (slice_get S.contents n >>= λ row. slice_get row i) S
    structured _ vs S = fails

  abbrev pub computed : World R → Instruction ℕ → Surroundings R → Instance → List (Value R) → Store R → Answer R
  computed W (instruction.numeric op) B I vs S = calculated op vs S
  computed W (instruction.constant op) B I vs S = given op S
  computed W (instruction.access op m) B I vs S = accessed op m I vs S
  computed W (instruction.structure op) B I vs S = structured W B op vs S
  computed W _ B I vs S = fails

  abbrev pub small : World R → Primitives R
  small W = record {
    computes = computed W;
    resumes = λ i B I vs S. ends fails;
    finds = λ x B I vs S. fails;
    acts = λ k vs S. fails;
    describes = λ d v S. false;
    suits = λ B I S. true;
  }

-- one type of functions, from a number to a number
abbrev pub declared_there : ℕ → Option (Sub ℕ)
declared_there zero = Some (record { is_final = true; supers = []; shared = false; comp = func (i32 ∷ []) (i32 ∷ []); descriptor = None; describes = None })
declared_there (suc n) = None

abbrev pub small_world : World ℕ
small_world = record { declared = declared_there; below = λ a b. a == b; same = λ a b. a == b }

abbrev pub alone_with : Instruction ℕ → Code
alone_with i = simply i done

abbrev pub number : ℕ → Instruction ℕ
number n = instruction.constant (I32Const (pos n))

abbrev pub argument : Instruction ℕ
argument = instruction.variable (LocalGet 0)

abbrev pub itself : Instruction ℕ
itself = instruction.call (Call 0)

-- `local.get 0 (if (result i32) (then local.get 0 (local.get 0 i32.const 1 i32.sub call 0) i32.mul) (else i32.const 1))`
abbrev pub product : Code
product =
    simply argument
    (simply argument (simply (number 1) (simply (instruction.numeric I32Sub) (simply itself (alone_with (instruction.numeric I32Mul))))))

abbrev pub factorial_code : Code
factorial_code = simply argument (choosing_between (value_block i32) product (alone_with (number 1)) done)

abbrev pub its_instance : Instance
its_instance = record { functions = 0 ∷ []; tags = []; others = 0 ∷ [] }

-- a byte is stored, and loaded again
abbrev pub byte_at : ℕ → MemArg
byte_at n = record { align = 0; offset = n; memory = 0 }

abbrev pub byte_code : Code
byte_code =
    simply (number 0)
    (simply (number 7) (simply (instruction.access I32Store8 (byte_at 1)) (simply (number 1) (alone_with (instruction.access I32Load8U (byte_at 0))))))

module _ (F : Features) where
  abbrev pub around_it : Surroundings ℕ
  around_it = record {
    features = F;
    context = record {
      types = 0 ∷ [];
      declares = [];
      functions = 0 ∷ [];
      exact = true ∷ [];
      tables = [];
      memories = record { is_64 = false; shared = false; minimum = 1; maximum = None; page_size_log2 = None } ∷ [];
      globals = [];
      tags = [];
      elements = [];
      data_count = None;
      references = [];
    };
    locals = local_taken i32 ∷ [];
    shared = false;
  }

  abbrev pub factorial : Function ℕ
  factorial = record { type = 0; definition = defined around_it its_instance factorial_code }

  -- a memory of two bytes
  abbrev pub its_store : Store ℕ
  its_store = record { functions = factorial ∷ []; tags = []; exceptions = []; contents = (i32_value 0 ∷ i32_value 0 ∷ []) ∷ [] }

  abbrev pub with_operands : List (Value ℕ) → State ℕ
  with_operands vs = record { operands = vs; locals = []; store = its_store }

  -- The engine keeps its promises, the store and the instance fit, and by computation the factorial of five is 120, within seven steps and
  -- not within six; and a byte that is stored is loaded again.
  pub record Works : Type 0 where
    pub sound : AreSound small_world (small small_world)
    pub store : StoreFits small_world (small small_world) its_store
    pub instance : InstanceFits small_world (small small_world) its_store around_it its_instance
    pub computes : run small_world (small small_world) 7 (invokes 0) (with_operands (i32_value 5 ∷ [])) ≡ falls_through (with_operands (i32_value 120 ∷ []))
    pub waits : run small_world (small small_world) 6 (invokes 0) (with_operands (i32_value 5 ∷ [])) ≡ leaves out_of_steps
    pub remembers :
        run small_world (small small_world) 1 (does around_it its_instance byte_code) (with_operands [])
        ≡ falls_through (record { operands = i32_value 7 ∷ []; locals = []; store = with_contents ((i32_value 0 ∷ i32_value 7 ∷ []) ∷ []) its_store })

-- with any features
abbrev pub ExampleWorks : Type 0
ExampleWorks = (F : Features) → Works F
