-- A reference alone is a constant expression of the types that it matches.
use Rattle.std.proofs.Common.{◌≡◌, refl, sym, ap, ◌∙◌, ℕ, Bool, true, false, ◌&&◌, List, [], ◌∷◌, slice_get, Option, Some, None, IsSome, if◌then◌else◌}
use Rattle.std.specs.List.{flat_map}
use Rattle.std.proofs.lemmas.List.Elements.{All-nil, All-cons}
use Rattle.wasm_spec.specs.Syntax.{AbstractHeap, abstract_heap, Heap, concrete, exact, Val, i32, i64, f32, f64, v128, reference}
use Rattle.wasm_spec.specs.BinaryTypes.{abstract_heap_from}
use Rattle.wasm_spec.specs.Features.{Features}
use Rattle.wasm_spec.specs.MatchingTests.{matches_heap, matches_val}
use Rattle.wasm_spec.specs.ValueTypes.{allows_heap, allows_val}
use Rattle.wasm_validator_resources.specs.WasmSpecRules.Attempts.{passes, among}
use Rattle.wasm_validator_resources.specs.WasmSpecRules.Contexts.{Context}
use Rattle.wasm_validator_resources.specs.WasmReadersTypes.WasmReadersValues.declared.indices.UnpackedIndex.{UnpackedIndex}
use Rattle.wasm_operators.specs.Control.{end_, value_block}
use Rattle.wasm_operators.specs.References.{ref_func, ref_null}
use Rattle.wasm_operators.specs.Instructions as instruction
use Rattle.wasm_operators.specs.Instructions.{Instruction, control}
use Rattle.wasm_typing_validator.specs.WasmSpecSteps.ConstantRules.{is_allowed, IsConstantExpression}
use Rattle.wasm_typing_validator.specs.WasmSpecSteps.Machine.{State, known}
use Rattle.wasm_typing_validator.specs.WasmSpecSteps.Sequences.{Are}
use Rattle.wasm_typing_validator.specs.WasmSpecSteps.Steps.{start, steps_in}
use Rattle.wasm_validator_resources.specs.Answers.{world}
use Rattle.wasm_validator_references.specs.WasmSpecValidity.Expressions.{functions_named, named}
use Rattle.wasm_validator_references.specs.References.{names_if, names_of_expression}
use Rattle.wasm_validator_references.proofs.WasmSpecValidity.ExpressionNames.{named_as_typed}
use Rattle.wasm_validator_constants.specs.Items.{to_heap, to_type, null_of, TakesType, TakesNull, IsNull, around_items, IsItem}
use Rattle.wasm_validator_constants.proofs.ItemBytes.{null_written}

-- an attempt that passes a test gives something
passing : {A : Type 0} (test : A → Bool) (o : Option A) → passes test o ≡ true → (a : A) × (o ≡ Some a) × (test a ≡ true)
passing test None e = absurd cc
passing test (Some a) e = (a, refl, e)

-- what is told of a function that is there
some_of : (o : Option Bool) → IsSome o → (e : Bool) × (o ≡ Some e)
some_of None h = let q : false ≡ true = h in absurd cc
some_of (Some e) h = (e, refl)

there : {A : Type 0} (o : Option A) (a : A) → Some a ≡ o → IsSome o
there o a e = rw (← e) refl

both : (b c : Bool) → (b && c) ≡ true → (b ≡ true) × (c ≡ true)
both true c e = (refl, e)
both false c e = absurd cc

-- behind the end
abbrev ended : Val UnpackedIndex → State UnpackedIndex
ended v = record { operands = known v ∷ []; frames = []; inits = [] }

abbrev alone : Instruction ℕ → List (Instruction ℕ)
alone op = op ∷ control end_ ∷ []

module _ (C : Context UnpackedIndex) where
  -- what is exactly of a type is of each type that it matches, but for exact ones
  abbrev exactly : Bool → UnpackedIndex → Heap UnpackedIndex
  exactly b a = if b then exact a else concrete a

  exact_heap : (a : UnpackedIndex) (h : Heap UnpackedIndex) → matches_heap (world C) (concrete a) h ≡ true → matches_heap (world C) (exact a) h ≡ true
  exact_heap a (abstract_heap s k) e = e
  exact_heap a (concrete b) e = e
  exact_heap a (exact b) e = absurd cc

  exact_too : (b : Bool) (a : UnpackedIndex) (v : Val UnpackedIndex) → matches_val (world C) (to_type a) v ≡ true → matches_val (world C) (to_heap false (exactly b a)) v ≡ true
  exact_too false a v e = e
  exact_too true a (reference r) e = exact_heap a r.heap e
  exact_too true a i32 e = absurd cc
  exact_too true a i64 e = absurd cc
  exact_too true a f32 e = absurd cc
  exact_too true a f64 e = absurd cc
  exact_too true a v128 e = absurd cc

  module _ (F : Features) (v : Val UnpackedIndex) where
    abbrev with_operand : Val UnpackedIndex → State UnpackedIndex
    with_operand u = record (start (value_block v)) { operands = known u ∷ [] }

    abbrev steps : List (Instruction ℕ) → State UnpackedIndex → Option (State UnpackedIndex)
    steps ops s = steps_in (world C) (around_items C F) ops s

    end_typed : (u : Val UnpackedIndex) → matches_val (world C) u v ≡ true → steps (control end_ ∷ []) (with_operand u) ≡ Some (ended v)
    end_typed u m = rw m refl

    function_step : (x t : ℕ) (a : UnpackedIndex) (e : Bool) → F.reference_types ≡ true → among x C.references ≡ true → slice_get C.functions x ≡ Some t → slice_get C.types t ≡ Some a
        → slice_get C.exact x ≡ Some e → steps (alone (instruction.reference (ref_func x))) (start (value_block v)) ≡ steps (control end_ ∷ []) (with_operand (to_heap false (exactly (e && F.custom_descriptors) a)))
    function_step x t a e s r f g h = rw (s, r, f, g, h) refl

    abbrev null_heap : AbstractHeap → Heap UnpackedIndex
    null_heap k = abstract_heap false k

    null_step : (k : AbstractHeap) → F.reference_types ≡ true → allows_val F (null_of k) ≡ true
        → steps (alone (instruction.reference (ref_null (abstract_heap false k)))) (start (value_block v)) ≡ steps (control end_ ∷ []) (with_operand (null_of k))
    null_step k s r =
        let allowed : allows_heap F true (null_heap k) ≡ true = (both F.reference_types (allows_heap F true (null_heap k)) r).1 in
        rw (s, allowed) refl

    module _ (op : Instruction ℕ) (bytes more : List ℕ) where
      abbrev Allowed : Type 0
      Allowed = (imported : ℕ) → is_allowed (around_items C F) imported op ≡ true

      expression : (imported : ℕ) → Are (alone op) bytes more → Allowed → steps (alone op) (start (value_block v)) ≡ Some (ended v)
          → IsConstantExpression (world C) (around_items C F) imported (start (value_block v)) bytes (ended v) more
      expression imported w a t = record {
        instructions = alone op;
        written = w;
        allowed =
            All-cons (λ i. is_allowed (around_items C F) imported i ≡ true) op (control end_ ∷ []) (a imported)
            (All-cons (λ i. is_allowed (around_items C F) imported i ≡ true) (control end_) [] refl (All-nil (λ i. is_allowed (around_items C F) imported i ≡ true)));
        typed = t;
        finished = refl;
      }

      item : Are (alone op) bytes more → Allowed → steps (alone op) (start (value_block v)) ≡ Some (ended v) → IsItem C F v bytes more
      item w a t = record { last = ended v; is = λ imported. expression imported w a t }

      names : Are (alone op) bytes more → Allowed → steps (alone op) (start (value_block v)) ≡ Some (ended v) → names_of_expression bytes ≡ flat_map functions_named (alone op)
      unfolding expression
      names w a t =
          let n = named_as_typed (world C) (around_items C F) 0 v bytes (ended v) more (expression 0 w a t) in
          ap (names_if named) n.1 ∙ sym n.2

    function_typed : (x t : ℕ) (e : Bool) → F.reference_types ≡ true → among x C.references ≡ true → slice_get C.functions x ≡ Some t → slice_get C.exact x ≡ Some e → TakesType C v t
        → steps (alone (instruction.reference (ref_func x))) (start (value_block v)) ≡ Some (ended v)
    function_typed x t e s r f h m =
        let a = passing (λ (i : UnpackedIndex). matches_val (world C) (to_type i) v) (slice_get C.types t) m in
        function_step x t a.0 e s r f a.1 h
        ∙ end_typed (to_heap false (exactly (e && F.custom_descriptors) a.0)) (exact_too (e && F.custom_descriptors) a.0 v a.2)

    module _ (x t : ℕ) (bytes more : List ℕ) (w : Are (alone (instruction.reference (ref_func x))) bytes more) (s : F.reference_types ≡ true) (r : among x C.references ≡ true)
        (f : Some t ≡ slice_get C.functions x) (told : IsSome (slice_get C.functions x) → IsSome (slice_get C.exact x)) (m : TakesType C v t) where
      abbrev is_exact : (e : Bool) × (slice_get C.exact x ≡ Some e)
      is_exact = some_of (slice_get C.exact x) (told (there (slice_get C.functions x) t f))

      steps_are : steps (alone (instruction.reference (ref_func x))) (start (value_block v)) ≡ Some (ended v)
      steps_are = function_typed x t is_exact.0 s r (sym f) is_exact.1 m

      pub function_item : IsItem C F v bytes more
      function_item = item (instruction.reference (ref_func x)) bytes more w (λ imported. refl) steps_are

      pub function_names : names_of_expression bytes ≡ x ∷ []
      function_names = names (instruction.reference (ref_func x)) bytes more w (λ imported. refl) steps_are

    null_typed : (k : AbstractHeap) → F.reference_types ≡ true → allows_val F (null_of k) ≡ true → matches_val (world C) (null_of k) v ≡ true
        → steps (alone (instruction.reference (ref_null (abstract_heap false k)))) (start (value_block v)) ≡ Some (ended v)
    null_typed k s r m = null_step k s r ∙ end_typed (null_of k) m

    -- the null of a byte
    module _ (b : ℕ) (bytes more : List ℕ) (w : IsNull b bytes more) (s : F.reference_types ≡ true) (n : TakesNull C F v b) where
      abbrev null_is : (k : AbstractHeap) × (abstract_heap_from b ≡ Some k) × ((allows_val F (null_of k) && matches_val (world C) (null_of k) v) ≡ true)
      null_is = passing (λ (k : AbstractHeap). allows_val F (null_of k) && matches_val (world C) (null_of k) v) (abstract_heap_from b) n

      abbrev tests : (allows_val F (null_of null_is.0) ≡ true) × (matches_val (world C) (null_of null_is.0) v ≡ true)
      tests = both (allows_val F (null_of null_is.0)) (matches_val (world C) (null_of null_is.0) v) null_is.2

      abbrev bytes_are : Are (alone (instruction.reference (ref_null (abstract_heap false null_is.0)))) bytes more
      bytes_are = null_written b null_is.0 bytes more w null_is.1

      pub null_item : IsItem C F v bytes more
      null_item = item (instruction.reference (ref_null (abstract_heap false null_is.0))) bytes more bytes_are (λ imported. refl) (null_typed null_is.0 s tests.0 tests.1)

      pub null_names : names_of_expression bytes ≡ []
      null_names = names (instruction.reference (ref_null (abstract_heap false null_is.0))) bytes more bytes_are (λ imported. refl) (null_typed null_is.0 s tests.0 tests.1)
