-- The functions that are named on the way through a constant expression are those that the expression names.
use Rattle.std.proofs.Common.{◌≡◌, ◌≤◌, ◌∙◌, refl, sym, ap, subst, ℕ, zero, suc, true, List, [], ◌∷◌, ◌++◌, length, Option, Some, None, arith}
use Rattle.std.specs.List.{All, flat_map}
use Rattle.std.proofs.lemmas.List.Elements.{All-head, All-tail}
use Rattle.wasm_spec.specs.MatchingTests.{World}
use Rattle.wasm_spec.specs.Syntax.{Val}
use Rattle.wasm_operators.specs.Control.{value_block}
use Rattle.wasm_operators.specs.Instructions.{Instruction, instruction_at}
use Rattle.wasm_validator_resources.specs.WasmSpecRules.Attempts.{◌>>=◌}
use Rattle.wasm_validator_resources.specs.WasmSpecRules.Parts.{Expression}
use Rattle.wasm_typing_validator.specs.WasmSpecSteps.Bodies.{Surroundings}
use Rattle.wasm_typing_validator.specs.WasmSpecSteps.ConstantRules.{is_allowed, IsConstantExpression}
use Rattle.wasm_typing_validator.specs.WasmSpecSteps.Machine.{State}
use Rattle.wasm_typing_validator.specs.WasmSpecSteps.Sequences.{Are}
use Rattle.wasm_typing_validator.specs.WasmSpecSteps.Steps.{start, step_in, steps_in, is_finished}
use Rattle.wasm_validator_references.specs.WasmSpecValidity.Expressions.{expression_at, functions_named, named}
use Rattle.wasm_validator_references.specs.References.{names_if, names_of_expression}
use Rattle.wasm_validator_references.proofs.WasmSpecValidity.ExpressionNames.{named_as_typed}
use Rattle.wasm_validator_constants.specs.Constants.{named_from, constant_from, constant_names}
use Rattle.wasm_validator_constants.proofs.ExpressionBytes.{steps, not_closed, shorter, finds}
use Rattle.wasm_validator_constants.proofs.Machine.{name_one, none_named}

the_same : {X : Type 0} (x y : X) → Some x ≡ Some y → x ≡ y
the_same x y e = cc

module _ {R : Type 0} (W : World R) (B : Surroundings R) (imported : ℕ) where
  abbrev Allowed : Instruction ℕ → Type 0
  Allowed op = is_allowed B imported op ≡ true

  abbrev Named : ℕ → Type 0
  Named most = (ops : List (Instruction ℕ)) (s t : State R) (bytes more : List ℕ) → length bytes ≤ most → Are ops bytes more → All Allowed ops
      → steps_in W B ops s ≡ Some t → is_finished t ≡ true → named_from W B imported most s bytes ≡ flat_map functions_named ops

  one_more : (m : ℕ) → Named m → (op : Instruction ℕ) (ops : List (Instruction ℕ)) (s t : State R) (bytes next more : List ℕ) (o : Option (State R)) → step_in W B op s ≡ o
      → length bytes ≤ suc m → instruction_at (λ n. n) bytes ≡ Some (op, next) → Are ops next more → Allowed op → All Allowed ops
      → (o >>= steps_in W B ops) ≡ Some t → is_finished t ≡ true → named_from W B imported (suc m) s bytes ≡ flat_map functions_named (op ∷ ops)
  one_more m named op ops s t bytes next more None d enough e are a rest f c = absurd cc
  one_more m named op ops s t bytes next more (Some u) d enough e are a rest f c =
      let less = shorter W B imported bytes next op e in
      name_one W B imported m s u bytes next op (not_closed W B imported (is_finished s) op s u refl d) e (steps W B imported op s u a d)
      ∙ ap (λ (xs : List ℕ). functions_named op ++ xs) (named ops u t next more (omega (arith, less, enough)) are rest f c)

  named_by : (most : ℕ) (ops : List (Instruction ℕ)) (s t : State R) (bytes more : List ℕ) → length bytes ≤ most → Are ops bytes more → All Allowed ops
      → steps_in W B ops s ≡ Some t → is_finished t ≡ true → named_from W B imported most s bytes ≡ flat_map functions_named ops
  named_by most [] s t bytes more enough are rest f c = none_named W B imported most s bytes (subst (λ x. is_finished x ≡ true) (sym (the_same s t f)) c)
  named_by zero (op ∷ ops) s t bytes more enough are rest f c = let less = shorter W B imported bytes are.0 op are.1 in absurd (omega (arith, less, enough))
  named_by (suc m) (op ∷ ops) s t bytes more enough are rest f c =
      one_more m (named_by m) op ops s t bytes are.0 more (step_in W B op s) refl enough are.1 are.2 (All-head Allowed op ops rest) (All-tail Allowed op ops rest) f c

  names_are : (s : State R) (bytes : List ℕ) (t : State R) (more : List ℕ) (x : IsConstantExpression W B imported s bytes t more) → constant_names W B imported s bytes ≡ flat_map functions_named x.instructions
  unfolding constant_names
  names_are s bytes t more x = named_by (length bytes) x.instructions s t bytes more (omega arith) x.written x.allowed x.typed x.finished

  module _ (v : Val R) (bytes : List ℕ) (t : State R) (more : List ℕ) (typed : constant_from W B imported (start (value_block v)) bytes ≡ Some (t, more)) where
    -- what is typed is an expression
    pub expression_read : (e : Expression) × (expression_at bytes ≡ Some (e, more))
    expression_read =
        let x = named_as_typed W B imported v bytes t more (finds W B imported (start (value_block v)) bytes t more typed) in
        (x.0, x.1)

    pub names_of_typed : constant_names W B imported (start (value_block v)) bytes ≡ names_of_expression bytes
    names_of_typed =
        let c = finds W B imported (start (value_block v)) bytes t more typed in
        let x = named_as_typed W B imported v bytes t more c in
        names_are (start (value_block v)) bytes t more c ∙ x.2 ∙ sym (ap (names_if named) x.1)
