-- An integer alone is a constant expression of its type, whatever the module.
use Rattle.std.proofs.Common.{◌≡◌, refl, sym, ap, ◌∙◌, ℕ, ℤ, true, List, [], ◌∷◌, Option, Some, None}
use Rattle.std.specs.Option.{option_map}
use Rattle.std.specs.List.{flat_map}
use Rattle.std.proofs.lemmas.List.Elements.{All-nil, All-cons}
use Rattle.wasm_spec.specs.Syntax.{Val, i32, i64}
use Rattle.wasm_spec.specs.Values.{signed_at}
use Rattle.wasm_spec.specs.Features.{Features}
use Rattle.wasm_spec.specs.TypeExamples.{features}
use Rattle.wasm_spec_rules.specs.Contexts.{Context}
use Rattle.wasm_readers_types.specs.WasmReadersValues.declared.indices.UnpackedIndex.{UnpackedIndex}
use Rattle.wasm_operators.specs.WasmOperatorsPlain.Constants.{constant_from}
use Rattle.wasm_operators.specs.WasmOperatorsPlain.declared.constants.ConstantOperator.{ConstantOperator}
use Rattle.wasm_operators.specs.WasmOperatorsPlain.declared.constants.ConstantOperator.TheVariants.{I32Const, I64Const}
use Rattle.wasm_operators.specs.Control.{end_, value_block}
use Rattle.wasm_operators.specs.Instructions.{Instruction, control, constant, plain_from, instruction_at}
use Rattle.wasm_spec_steps.specs.ConstantRules.{is_allowed}
use Rattle.wasm_spec_steps.specs.Machine.{State, known}
use Rattle.wasm_spec_steps.specs.Steps.{start, steps_in}
use Rattle.wasm_validator_resources.specs.Answers.{world}
use Rattle.wasm_validator_constants.specs.SignedNumbers.{behind_signed}
use Rattle.wasm_validator_constants.specs.WasmValidatorReferences.WasmSpecValidity.Expressions.{functions_named, named}
use Rattle.wasm_validator_constants.specs.WasmValidatorReferences.References.{names_if, names_of_expression}
use Rattle.wasm_validator_constants.proofs.WasmValidatorReferences.WasmSpecValidity.ExpressionNames.{named_as_typed}
use Rattle.wasm_validator_segments.specs.Expressions.{around_constants, IsExpressionOf}
use Rattle.wasm_validator_segments.specs.Numbers.{IsAnywhere}
use Rattle.wasm_validator_segments.proofs.ConstantBytes.{are_found}

-- behind the end
abbrev ended : Val UnpackedIndex → State UnpackedIndex
ended v = record { operands = known v ∷ []; frames = []; inits = [] }

abbrev alone : ConstantOperator → List (Instruction ℕ)
alone op = constant op ∷ control end_ ∷ []

module _ (C : Context UnpackedIndex) (F : Features) (imported : ℕ) where
  i32_typed : (n : ℤ) → steps_in (world C) (around_constants C F) (alone (I32Const n)) (start (value_block i32)) ≡ Some (ended i32)
  i32_typed n = refl

  i64_typed : (n : ℤ) → steps_in (world C) (around_constants C F) (alone (I64Const n)) (start (value_block i64)) ≡ Some (ended i64)
  i64_typed n = refl

  is_expression : (op : ConstantOperator) (v : Val UnpackedIndex) (bytes second more : List ℕ) → instruction_at (λ n. n) bytes ≡ Some (constant op, second)
      → instruction_at (λ n. n) second ≡ Some (control end_, more) → steps_in (world C) (around_constants C F) (alone op) (start (value_block v)) ≡ Some (ended v)
      → IsExpressionOf C F imported v bytes more
  is_expression op v bytes second more e f t = record {
    last = ended v;
    is = record {
      instructions = alone op;
      written = (second, e, (more, f, refl));
      allowed =
          All-cons (λ i. is_allowed (around_constants C F) imported i ≡ true) (constant op) (control end_ ∷ []) refl
          (All-cons (λ i. is_allowed (around_constants C F) imported i ≡ true) (control end_) [] refl (All-nil (λ i. is_allowed (around_constants C F) imported i ≡ true)));
      typed = t;
      finished = refl;
    };
  }

module _ (b : ℕ) (bytes second third more : List ℕ) where
  read_i32 : (n : ℤ) → bytes ≡ b ∷ second → b ≡ 0x41 → signed_at 32 second ≡ Some (n, third) → instruction_at (λ n. n) bytes ≡ Some (constant (I32Const n), third)
  unfolding instruction_at plain_from constant_from
  read_i32 n e f r = rw (e, f, r) refl

  read_i64 : (n : ℤ) → bytes ≡ b ∷ second → b ≡ 0x42 → signed_at 64 second ≡ Some (n, third) → instruction_at (λ n. n) bytes ≡ Some (constant (I64Const n), third)
  unfolding instruction_at plain_from constant_from
  read_i64 n e f r = rw (e, f, r) refl

  -- the number that was passed
  some_number : (bits : ℕ) (o : Option (ℤ × List ℕ)) → signed_at bits second ≡ o → option_map (λ n. n.1) o ≡ Some third → (n : ℤ) × (signed_at bits second ≡ Some (n, third))
  some_number bits None e f = absurd cc
  some_number bits (Some n) e f =
      let same : n.1 ≡ third = cc in
      (n.0, rw (← same) e)

  number : (bits : ℕ) → behind_signed bits second ≡ Some third → (n : ℤ) × (signed_at bits second ≡ Some (n, third))
  unfolding behind_signed
  number bits r = some_number bits (signed_at bits second) refl r

  pub i32_anywhere : bytes ≡ b ∷ second → b ≡ 0x41 → behind_signed 32 second ≡ Some third → instruction_at (λ n. n) third ≡ Some (control end_, more) → IsAnywhere i32 bytes more
  i32_anywhere e f r g C F imported =
      let n = number 32 r in
      (are_found C F imported i32 bytes more).1 (is_expression C F imported (I32Const n.0) i32 bytes third more (read_i32 n.0 e f n.1) g (i32_typed C F imported n.0))

  pub i64_anywhere : bytes ≡ b ∷ second → b ≡ 0x42 → behind_signed 64 second ≡ Some third → instruction_at (λ n. n) third ≡ Some (control end_, more) → IsAnywhere i64 bytes more
  i64_anywhere e f r g C F imported =
      let n = number 64 r in
      (are_found C F imported i64 bytes more).1 (is_expression C F imported (I64Const n.0) i64 bytes third more (read_i64 n.0 e f n.1) g (i64_typed C F imported n.0))

-- no module at all
abbrev nowhere : Context UnpackedIndex
nowhere = record { types = []; declares = []; functions = []; exact = []; tables = []; memories = []; globals = []; tags = []; elements = []; data_count = None; references = [] }

names_nothing : (op : ConstantOperator) (v : Val UnpackedIndex) (bytes more : List ℕ) → (x : IsExpressionOf nowhere (features true) 0 v bytes more) → flat_map functions_named x.is.instructions ≡ [] → names_of_expression bytes ≡ []
names_nothing op v bytes more x e =
    let n = named_as_typed (world nowhere) (around_constants nowhere (features true)) 0 v bytes x.last more x.is in
    ap (names_if named) n.1 ∙ sym n.2 ∙ e

module _ (b : ℕ) (bytes second third more : List ℕ) where
  pub i32_nameless : bytes ≡ b ∷ second → b ≡ 0x41 → behind_signed 32 second ≡ Some third → instruction_at (λ n. n) third ≡ Some (control end_, more) → names_of_expression bytes ≡ []
  unfolding is_expression
  i32_nameless e f r g =
      let n = number b bytes second third more 32 r in
      names_nothing (I32Const n.0) i32 bytes more (is_expression nowhere (features true) 0 (I32Const n.0) i32 bytes third more (read_i32 b bytes second third more n.0 e f n.1) g (i32_typed nowhere (features true) 0 n.0)) refl

  pub i64_nameless : bytes ≡ b ∷ second → b ≡ 0x42 → behind_signed 64 second ≡ Some third → instruction_at (λ n. n) third ≡ Some (control end_, more) → names_of_expression bytes ≡ []
  unfolding is_expression
  i64_nameless e f r g =
      let n = number b bytes second third more 64 r in
      names_nothing (I64Const n.0) i64 bytes more (is_expression nowhere (features true) 0 (I64Const n.0) i64 bytes third more (read_i64 b bytes second third more n.0 e f n.1) g (i64_typed nowhere (features true) 0 n.0)) refl

pub ruleset anywhere = (i32_anywhere, i64_anywhere, i32_nameless, i64_nameless)
