-- A constant expression that is read and typed in one pass is one that the grammar reads, and that is constant by itself.
use Rattle.std.proofs.Common.{◌≡◌, refl, sym, ap, ◌∙◌, ℕ, Bool, true, false, true≢false, if◌then◌else◌, List, [], length, Option, Some, None}
use Rattle.std.proofs.lemmas.Bool.{eqb-true}
use Rattle.std.proofs.lemmas.List.{nil_from_length}
use Rattle.std.proofs.lemmas.Option.{none-some}
use Rattle.wasm_spec.specs.Syntax.{Sub, Val}
use Rattle.wasm_spec.specs.Features.{Features}
use Rattle.wasm_spec_rules.specs.Contexts.{Context}
use Rattle.wasm_spec_rules.specs.Parts.{Expression}
use Rattle.wasm_readers_types.specs.WasmReadersValues.declared.indices.UnpackedIndex.{UnpackedIndex}
use Rattle.wasm_validator_types.specs.Spaces.{Spaces}
use Rattle.wasm_validator_segments.specs.WasmValidatorReferences.WasmSpecValidity.Expressions.{expression_at}
use Rattle.wasm_validator_items.specs.Expressions.{behind_expression}
use Rattle.wasm_validator_items.proofs.ConstantBytes.{are_found}
use Rattle.wasm_validator_items.specs.Items.{IsConstantIn, IsTypedExpressionAt}
use Rattle.wasm_validator_items.proofs.Items.{expressions}
use Rattle.wasm_validator_items.specs.Machine.{context_of, behind_initializer}
use Rattle.wasm_validator_items.specs.Entries.{is_whole, is_constant_of}
use Rattle.wasm_validator_items.proofs.Attempts.{behind_where}

none_where : {X : Type 0} (o : Option X) → ((x : X) → o ≡ Some x → ⊥) → o ≡ None
none_where None never = refl
none_where (Some x) never = absurd (never x refl)

-- nothing is left behind what is whole
whole_is : (o : Option (List ℕ)) → is_whole o ≡ true → o ≡ Some []
whole_is None e = absurd (true≢false (sym e))
whole_is (Some more) e = ap (λ (r : List ℕ). Some r) (nil_from_length more (eqb-true (length more) 0 e))

module _ (C : Context UnpackedIndex) (F : Features) (imported : ℕ) (v : Val UnpackedIndex) where
  -- the bytes are a constant expression of the type
  abbrev is_one : Expression → Bool
  is_one e = is_whole (behind_expression C F imported v e)

  one_is_constant : (e : Expression) → is_one e ≡ true → IsConstantIn C F imported v e
  one_is_constant e w = let x = (are_found C F imported v e []).0 (whole_is (behind_expression C F imported v e) w) in (x.last, x.is)

  constant_is_one : (e : Expression) → IsConstantIn C F imported v e → is_one e ≡ true
  constant_is_one e c = ap is_whole ((are_found C F imported v e []).1 (record { last = c.0; is = c.1 }))

  -- what is typed there is what is read there
  read_by : (bytes : List ℕ) (o : Option (Expression × List ℕ)) → expression_at bytes ≡ o → (more : List ℕ) → IsTypedExpressionAt C F imported v bytes more → behind_where is_one o ≡ Some more
  read_by bytes o e more x =
      ap (behind_where is_one) (sym e ∙ x.read) ∙ ap (λ (b : Bool). if b then Some more else None) (constant_is_one x.expression x.typed)

  typed_one : (bytes : List ℕ) (x : Expression × List ℕ) → expression_at bytes ≡ Some x → (b : Bool) → is_one x.0 ≡ b → behind_expression C F imported v bytes ≡ (if b then Some x.1 else None)
  typed_one bytes x e true w = (expressions C F imported v bytes x.1).1 (record { expression = x.0; read = e; typed = one_is_constant x.0 w })
  typed_one bytes x e false w =
      none_where (behind_expression C F imported v bytes) (λ more f.
      let t = read_by bytes (Some x) e more ((expressions C F imported v bytes more).0 f) in
      none-some more (sym (ap (λ (b : Bool). if b then Some x.1 else None) w) ∙ t))

  typed_where : (bytes : List ℕ) (o : Option (Expression × List ℕ)) → expression_at bytes ≡ o → behind_expression C F imported v bytes ≡ behind_where is_one o
  typed_where bytes None e = none_where (behind_expression C F imported v bytes) (λ more f. none-some more (read_by bytes None e more ((expressions C F imported v bytes more).0 f)))
  typed_where bytes (Some x) e = typed_one bytes x e (is_one x.0) refl

  pub read_and_typed : (bytes : List ℕ) → behind_expression C F imported v bytes ≡ behind_where is_one (expression_at bytes)
  read_and_typed bytes = typed_where bytes (expression_at bytes) refl

-- the same in a module as far as it has been read
pub initializer_is : (F : Features) (declares : List (UnpackedIndex × Sub UnpackedIndex)) (s : Spaces) (v : Val UnpackedIndex) (bytes : List ℕ)
    → behind_initializer F declares s v bytes ≡ behind_where (is_constant_of F declares s v) (expression_at bytes)
unfolding behind_initializer
initializer_is F declares s v bytes = read_and_typed (context_of declares s) F s.imported_globals v bytes

-- and of an expression in its context
pub expression_is : (F : Features) (declares : List (UnpackedIndex × Sub UnpackedIndex)) (s : Spaces) (v : Val UnpackedIndex) (bytes : List ℕ)
    → behind_expression (context_of declares s) F s.imported_globals v bytes ≡ behind_where (is_constant_of F declares s v) (expression_at bytes)
unfolding behind_initializer
expression_is F declares s v bytes = read_and_typed (context_of declares s) F s.imported_globals v bytes
