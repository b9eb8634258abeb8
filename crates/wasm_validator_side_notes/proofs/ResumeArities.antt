-- An instruction that resumes a continuation takes as many operands as its arity says.
use Rattle.std.proofs.Common.{◌≡◌, refl, ap, subst, ◌∙◌, ℕ, ◌+◌, ◌^◌, Bool, true, false, ◌&&◌, nat_lt, if◌then◌else◌, List, [], ◌∷◌, ◌++◌, length, length-append, Option, Some, None, option_map, slice_get}
use Rattle.std.specs.Option.{option_and_then}
use Rattle.wasm_spec.specs.Syntax.{exn_heap, abstract_heap, concrete, Val, reference, Comp, func, array, struct, cont, Sub}
use Rattle.wasm_spec_rules.specs.Contexts.{Context}
use Rattle.wasm_spec_rules.specs.Attempts.{◌>>=◌}
use Rattle.wasm_spec_rules.specs.Signatures.{Signature, signature_of}
use Rattle.wasm_readers_types.specs.WasmReadersValues.declared.indices.UnpackedIndex.{UnpackedIndex}
use Rattle.wasm_readers_types.specs.WasmReadersValues.declared.indices.UnpackedIndex.TheVariants.{Module, RecGroup, Id}
use Rattle.wasm_operators.specs.Continuations.{resume, resume_throw, resume_throw_ref}
use Rattle.wasm_operators.specs.WasmOperatorsProposals.declared.continuations.Handle.{Handle}
use Rattle.wasm_spec_steps.specs.Actions.{OperandTypes, params, of_tag, joined}
use Rattle.wasm_spec_steps.specs.Meanings.{cont_of, continued_signature, type_signature, types_at}
use Rattle.wasm_spec_steps.specs.Shapes.{one, nullable_to, reference_to, takes_of, gives_of}
use Rattle.wasm_validator_resources.specs.Answers.{world, sub_in}
use Rattle.wasm_validator_func.specs.WasmTypingValidator.WasmTypingArity.Arities as arities
use Rattle.wasm_validator_func.specs.WasmTypingValidator.WasmTypingArity.Arities.{plus, pair, func_counts, function_behind, continued_counts, how_many, in_u32}
use Rattle.wasm_validator_func.specs.WasmTypingValidator.WasmTypingArity.ArityQueries.{Asked, type_of_id}
use Rattle.wasm_validator_func.specs.WasmTypingValidator.WasmTypingArity.Lengths.{lengths_of}
use Rattle.wasm_validator_func.specs.WasmTypingValidator.ModuleAnswers.{asked_in}
use Rattle.wasm_validator_func.specs.WasmTypingValidator.BodyTyping.{typed_state}
use Rattle.wasm_validator_func.specs.WasmTypingValidator.TypedInstructions.{within}
use Rattle.wasm_validator_func.specs.WasmTypingValidator.declared.validator.OperatorValidator.{OperatorValidator}
use Rattle.wasm_spec_side_tables.proofs.Lists.{the_same, absent, bind-gives}
use Rattle.wasm_validator_side_notes.specs.ResumeOperands.{AreSoMany, AreTaken}

-- attempts that succeed
pair-gives : (o p : Option ℕ) (x : ℕ × ℕ) → pair o p ≡ Some x → (o ≡ Some x.0) × (p ≡ Some x.1)
pair-gives None p x e = absent x e
pair-gives (Some i) None x e = absent x e
pair-gives (Some i) (Some j) x e = let s = the_same (i, j) x e in (ap (λ (y : ℕ × ℕ). Some y.0) s, ap (λ (y : ℕ × ℕ). Some y.1) s)

plus-gives : (o : Option ℕ) (n : ℕ) → plus o (Some 1) ≡ Some n → (i : ℕ) × (o ≡ Some i) × (i + 1 ≡ n)
plus-gives None n e = absent n e
plus-gives (Some i) n e = (i, refl, the_same (i + 1) n e)

takes-gives : (o : Option (ℕ × ℕ)) (i : ℕ) → arities.takes_of o ≡ Some i → (p : ℕ × ℕ) × (o ≡ Some p) × (p.0 ≡ i)
takes-gives None i e = absent i e
takes-gives (Some p) i e = (p, refl, the_same p.0 i e)

gives-gives : (o : Option (ℕ × ℕ)) (i : ℕ) → arities.gives_of o ≡ Some i → (p : ℕ × ℕ) × (o ≡ Some p)
gives-gives None i e = absent i e
gives-gives (Some p) i e = (p, refl)

-- lists one behind the other
joined_many : (o p : Option (List (Val UnpackedIndex))) (i j : ℕ) → option_map length o ≡ Some i → option_map length p ≡ Some j → option_map length (o >>= λ xs. (p >>= λ ys. Some (xs ++ ys))) ≡ Some (i + j)
joined_many None p i j e f = absent i e
joined_many (Some xs) None i j e f = absent j f
joined_many (Some xs) (Some ys) i j e f = ap Some (length-append xs ys) ∙ ap (λ (k : ℕ). Some (k + length ys)) (the_same (length xs) i e) ∙ ap (λ (k : ℕ). Some (i + k)) (the_same (length ys) j f)

-- what a function type takes
abbrev signature_in : Option (Sub UnpackedIndex) → Option (Signature UnpackedIndex)
signature_in o = o >>= λ d. signature_of d.comp

of_comp : (c : Comp UnpackedIndex) (p : ℕ × ℕ) → func_counts c ≡ Some p → (g : Signature UnpackedIndex) × (signature_of c ≡ Some g) × (lengths_of g ≡ p)
of_comp (func ps rs) p e = (record { takes = ps; gives = rs }, refl, the_same (length ps, length rs) p e)
of_comp (array x) p e = absent p e
of_comp (struct xs) p e = absent p e
of_comp (cont a) p e = absent p e

of_sub : (o : Option (Sub UnpackedIndex)) (p : ℕ × ℕ) → option_and_then (λ d. func_counts d.comp) o ≡ Some p → (g : Signature UnpackedIndex) × (signature_in o ≡ Some g) × (lengths_of g ≡ p)
of_sub None p e = absent p e
of_sub (Some d) p e = of_comp d.comp p e

narrow : (b : Bool) (p : ℕ × ℕ) (i : ℕ) → arities.takes_of (if b then Some p else None) ≡ Some i → Some p.0 ≡ Some i
narrow true p i e = e
narrow false p i e = absent i e

by_signature : (o : Option (Signature UnpackedIndex)) (i : ℕ) → arities.takes_of (option_and_then in_u32 (option_map lengths_of o)) ≡ Some i → option_map length (option_map (λ g. g.takes) o) ≡ Some i
by_signature None i e = absent i e
by_signature (Some g) i e = narrow (nat_lt (length g.takes) (2 ^ 32) && nat_lt (length g.gives) (2 ^ 32)) (lengths_of g) i e

by_sub : (o : Option (Sub UnpackedIndex)) (i : ℕ)
    → arities.takes_of (option_and_then in_u32 (option_map lengths_of (o >>= λ d. signature_of d.comp))) ≡ Some i → option_map length (option_map (λ g. g.takes) (option_map (λ d. d.comp) o >>= signature_of)) ≡ Some i
by_sub None i e = absent i e
by_sub (Some d) i e = by_signature (signature_of d.comp) i e

module _ {A : Type 0} (C : Context UnpackedIndex) (v : OperatorValidator A) where
  abbrev M : Asked
  M = asked_in v.stacks C

  by_tag : (o : Option ℕ) (i : ℕ)
      → arities.takes_of (option_and_then in_u32 (option_map lengths_of (o >>= λ t. (sub_in C t >>= λ d. signature_of d.comp)))) ≡ Some i → option_map length (option_map (λ g. g.takes) (o >>= type_signature (world C) (within v C))) ≡ Some i
  by_tag None i e = absent i e
  by_tag (Some t) i e = by_sub (sub_in C t) i e

  tagged : (x i : ℕ) → how_many M (params (of_tag x)) ≡ Some i → AreSoMany C v (params (of_tag x)) i
  tagged x i e = by_tag (slice_get C.tags x) i e

  -- the function that a continuation runs
  of_id : (a : UnpackedIndex) (d : Sub UnpackedIndex) → type_of_id M a ≡ Some d → (world C).declared a ≡ Some d
  of_id (Module n) d e = absent d e
  of_id (RecGroup n) d e = absent d e
  of_id (Id id) d e = e

  by_cont : (o : Option UnpackedIndex) (g : Signature UnpackedIndex) → signature_in (option_and_then (type_of_id M) o) ≡ Some g → (o >>= λ a. ((world C).declared a >>= λ d. signature_of d.comp)) ≡ Some g
  by_cont None g e = absent g e
  by_cont (Some a) g e =
      let x = bind-gives (type_of_id M a) (λ d. signature_of d.comp) g e in
      ap (λ (o : Option (Sub UnpackedIndex)). o >>= λ d. signature_of d.comp) (of_id a x.0 x.1) ∙ x.2

  behind : (o : Option (Sub UnpackedIndex)) (g : Signature UnpackedIndex) → signature_in (function_behind M o) ≡ Some g → (o >>= λ d. (cont_of d.comp >>= λ a. ((world C).declared a >>= λ e. signature_of e.comp))) ≡ Some g
  behind None g e = absent g e
  behind (Some d) g e = by_cont (cont_of d.comp) g e

  -- a reference to the type of an index
  abbrev referred : Option UnpackedIndex → Option (List (Val UnpackedIndex))
  referred o = option_map reference (option_map (λ h. record { nullable = true; heap = h }) (option_map concrete o)) >>= λ w. (Some [] >>= λ ws. Some (w ∷ ws))

  at_index : (o : Option UnpackedIndex) (g : Signature UnpackedIndex) → ((o >>= (world C).declared) >>= λ d. (cont_of d.comp >>= λ a. ((world C).declared a >>= λ e. signature_of e.comp))) ≡ Some g
      → (option_map length (referred o) ≡ Some 1) × (option_map length (option_map (λ h. h.takes) (referred o >>= continued_signature (world C) (within v C))) ≡ Some (length g.takes))
  at_index None g e = absent g e
  at_index (Some a) g e = (refl, ap (λ (o : Option (Signature UnpackedIndex)). option_map length (option_map (λ h. h.takes) o)) e)

  continued : (n : ℕ) (p : ℕ × ℕ) → continued_counts M n ≡ Some p → AreSoMany C v (one (nullable_to n)) 1 × AreSoMany C v (takes_of n) p.0
  continued n p e =
      let g = of_sub (function_behind M (sub_in C n)) p e in
      let b = at_index (slice_get C.types n) g.0 (behind (sub_in C n) g.0 g.1) in
      (b.0, b.1 ∙ ap (λ (x : ℕ × ℕ). Some x.0) g.2)

  both : (t u : OperandTypes) (i j : ℕ) → AreSoMany C v t i → AreSoMany C v u j → AreSoMany C v (joined t u) (i + j)
  both t u i j e f = joined_many (types_at (world C) (within v C) (typed_state v) t) (types_at (world C) (within v C) (typed_state v) u) i j e f

  -- below the continuation stand the operands that it gets, those of an exception, or a reference to one
  pub resumed : (n : ℕ) (hs : List Handle) → AreTaken C v (joined (takes_of n) (one (nullable_to n))) (resume n hs)
  resumed n hs k g e =
      let a = pair-gives (plus (how_many M (takes_of n)) (Some 1)) (how_many M (gives_of n)) (k, g) e in
      let b = plus-gives (how_many M (takes_of n)) k a.0 in
      let p = takes-gives (continued_counts M n) b.0 b.1 in
      let c = continued n p.0 p.1 in
      subst (λ (i : ℕ). AreSoMany C v (joined (takes_of n) (one (nullable_to n))) i) b.2 (both (takes_of n) (one (nullable_to n)) b.0 1 (subst (λ (i : ℕ). AreSoMany C v (takes_of n) i) p.2 c.1) c.0)

  pub thrown : (n x : ℕ) (hs : List Handle) → AreTaken C v (joined (params (of_tag x)) (one (nullable_to n))) (resume_throw n x hs)
  thrown n x hs k g e =
      let a = pair-gives (plus (how_many M (params (of_tag x))) (Some 1)) (how_many M (gives_of n)) (k, g) e in
      let b = plus-gives (how_many M (params (of_tag x))) k a.0 in
      let p = gives-gives (continued_counts M n) g a.1 in
      let c = continued n p.0 p.1 in
      subst (λ (i : ℕ). AreSoMany C v (joined (params (of_tag x)) (one (nullable_to n))) i) b.2 (both (params (of_tag x)) (one (nullable_to n)) b.0 1 (tagged x b.0 b.1) c.0)

  abbrev exception_or_null : OperandTypes
  exception_or_null = one (reference_to true (abstract_heap false exn_heap))

  pub handed : (n : ℕ) (hs : List Handle) → AreTaken C v (joined exception_or_null (one (nullable_to n))) (resume_throw_ref n hs)
  handed n hs k g e =
      let a = pair-gives (Some 2) (how_many M (gives_of n)) (k, g) e in
      let p = gives-gives (continued_counts M n) g a.1 in
      let c = continued n p.0 p.1 in
      subst (λ (i : ℕ). AreSoMany C v (joined exception_or_null (one (nullable_to n))) i) (the_same 2 k a.0) (both exception_or_null (one (nullable_to n)) 1 1 refl c.0)

pub ruleset resuming = (resumed, thrown, handed)
