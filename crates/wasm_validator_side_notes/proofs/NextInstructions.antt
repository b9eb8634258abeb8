-- One instruction more.
use Rattle.std.proofs.Common.{◌≡◌, ◌≤◌, refl, sym, ap, subst, ◌∙◌, ℕ, ◌+◌, max, false, List, [], ◌∷◌, ◌++◌, length, Option, Some, Result, Ok, arith, option_map}
use Rattle.std.proofs.lemmas.List.{length-drop}
use Rattle.wasm_readers.specs.WrittenIndices.{written}
use Rattle.wasm_readers.specs.WasmReadersBytes.Reader.{SameInput, input, original, position_in, place_of_next, rest}
use Rattle.wasm_readers.specs.WasmReadersBytes.declared.binary_reader.BinaryReader.{BinaryReader}
use Rattle.wasm_spec_rules.specs.Contexts.{Context}
use Rattle.wasm_operators.specs.Instructions.{Instruction}
use Rattle.wasm_operators.specs.Maps.{map_instruction}
use Rattle.wasm_operators.specs.SeenOperators.{operator_of}
use Rattle.wasm_operators.specs.declared.operators.Operator.{Operator}
use Rattle.wasm_operators.proofs.Renamings.{instruction-renames}
use Rattle.wasm_validator_resources.specs.Answers.{world, written_index}
use Rattle.wasm_validator_func.specs.WasmTypingValidator.BodyTyping.{typed_state}
use Rattle.wasm_validator_func.specs.WasmTypingValidator.TypedInstructions.{within, TookAt}
use Rattle.wasm_readers_errors.specs.declared.error.Error.{Error}
use Rattle.wasm_validator_func.specs.WasmTypingValidator.OperatorVisits.{StepsAt}
use Rattle.wasm_validator_func.specs.WasmTypingValidator.declared.validator.OperatorValidator.{OperatorValidator}
use Rattle.wasm_validator_func.proofs.OperatorSteps.{took}
use Rattle.wasm_validator_side_notes.specs.TableViews.{instruction_of, placed, noted_in, steps_to}
use Rattle.wasm_spec.specs.MatchingTests.{World}
use Rattle.wasm_spec_rules.specs.Attempts.{◌>>=◌}
use Rattle.wasm_readers_types.specs.WasmReadersValues.declared.indices.UnpackedIndex.{UnpackedIndex}
use Rattle.wasm_operators.specs.Instructions.{instruction_at}
use Rattle.wasm_spec_steps.specs.Bodies.{Surroundings}
use Rattle.wasm_spec_steps.specs.Machine.{State}
use Rattle.wasm_spec_steps.specs.Steps.{step_in}
use Rattle.wasm_spec_side_tables.specs.SideTables.{Placed, greatest_height}
use Rattle.wasm_spec_side_tables.specs.OnePassTables.{Built, noted, built}
use Rattle.wasm_spec_side_tables.proofs.Lists.{the_same, bind-gives, bind-at}
use Rattle.wasm_validator_side_notes.specs.Tables.{StandsAt, AreAt, Advances, Reaches}

are_more : (is : List Placed) (at : ℕ) (bytes : List ℕ) (end : ℕ) (more : List ℕ) (i : Placed) (next : List ℕ) → AreAt is at bytes end more → StandsAt i end more next → AreAt (is ++ i ∷ []) at bytes i.behind next
are_more [] at bytes end more i next a s = (next, record { at = s.at ∙ sym a.0; read = ap (instruction_at (λ n. n)) a.1 ∙ s.read; behind = s.behind ∙ ap (λ (n : ℕ). n + length more) (sym a.0) ∙ ap (λ (xs : List ℕ). at + length xs) (sym a.1) }, (refl, refl))
are_more (j ∷ is) at bytes end more i next a s = (a.0, a.1, are_more is j.behind a.0 end more i next a.2 s)

module _ (W : World UnpackedIndex) (B : Surroundings UnpackedIndex) where
  built_more : (is : List Placed) (i : Placed) (s t u : State UnpackedIndex) (T U V : Built) → built W B s T is ≡ Some (t, U) → noted W B t i U ≡ Some V → step_in W B i.op t ≡ Some u → built W B s T (is ++ i ∷ []) ≡ Some (u, V)
  built_more [] i s t u T U V e n p =
      let a : s ≡ t = ap (λ (x : State UnpackedIndex × Built). x.0) (the_same (s, T) (t, U) e) in
      let b : T ≡ U = ap (λ (x : State UnpackedIndex × Built). x.1) (the_same (s, T) (t, U) e) in
      ap (λ (x : State UnpackedIndex). noted W B x i T >>= λ X. step_in W B i.op x >>= λ y. Some (y, X)) a
      ∙ ap (λ (X : Built). noted W B t i X >>= λ Y. step_in W B i.op t >>= λ y. Some (y, Y)) b
      ∙ ap (λ o. o >>= λ Y. step_in W B i.op t >>= λ y. Some (y, Y)) n
      ∙ ap (λ o. o >>= λ y. Some (y, V)) p
  built_more (j ∷ is) i s t u T U V e n p =
      let a = bind-gives (noted W B s j T) _ (t, U) e in
      let b = bind-gives (step_in W B j.op s) _ (t, U) a.2 in
      bind-at (noted W B s j T) _ a.0 a.1 ∙ bind-at (step_in W B j.op s) _ b.0 b.1 ∙ built_more is i b.0 t u a.0 U V b.2 n p

  highest_more : (is : List Placed) (i : Placed) (m h : ℕ) (s t u : State UnpackedIndex) (T U : Built) → built W B s T is ≡ Some (t, U) → greatest_height W B m s is ≡ Some h → step_in W B i.op t ≡ Some u → greatest_height W B m s (is ++ i ∷ []) ≡ Some (max h (length u.operands))
  highest_more [] i m h s t u T U e g p =
      let a : s ≡ t = ap (λ (x : State UnpackedIndex × Built). x.0) (the_same (s, T) (t, U) e) in
      ap (λ (x : State UnpackedIndex). step_in W B i.op x >>= λ y. Some (max (max m (length s.operands)) (length y.operands))) a
      ∙ ap (λ o. o >>= λ (y : State UnpackedIndex). Some (max (max m (length s.operands)) (length y.operands))) p
      ∙ ap (λ (n : ℕ). Some (max n (length u.operands))) (the_same (max m (length s.operands)) h g)
  highest_more (j ∷ is) i m h s t u T U e g p =
      let a = bind-gives (noted W B s j T) _ (t, U) e in
      let b = bind-gives (step_in W B j.op s) _ (t, U) a.2 in
      let c : greatest_height W B (max m (length s.operands)) b.0 is ≡ Some h = sym (bind-at (step_in W B j.op s) (λ x. greatest_height W B (max m (length s.operands)) x is) b.0 b.1) ∙ g in
      bind-at (step_in W B j.op s) (λ x. greatest_height W B (max m (length s.operands)) x (is ++ i ∷ [])) b.0 b.1 ∙ highest_more is i (max m (length s.operands)) h b.0 t u a.0 U b.2 c p

  pub reaches_first : (s : State UnpackedIndex) (T : Built) (at h : ℕ) (bytes : List ℕ) → s.operands ≡ [] → h ≡ 0 → Reaches W B s T at bytes s T h at bytes
  reaches_first s T at h bytes e z = record {
    instructions = [];
    are = (refl, refl);
    built = refl;
    highest = ap (λ xs. Some (max 0 (length xs))) e ∙ ap (λ (n : ℕ). Some n) (sym z);
  }

  pub reaches_more :
      (s t u : State UnpackedIndex) (T U V : Built) (at h end behind : ℕ) (bytes more next : List ℕ)
      → Reaches W B s T at bytes t U h end more → Advances W B t U end more u V behind next → Reaches W B s T at bytes u V (max h (length u.operands)) behind next
  reaches_more s t u T U V at h end behind bytes more next r a = record {
    instructions = r.instructions ++ a.instruction ∷ [];
    are = subst (λ (n : ℕ). AreAt (r.instructions ++ a.instruction ∷ []) at bytes n next) a.ends (are_more r.instructions at bytes end more a.instruction next r.are a.stands);
    built = built_more r.instructions a.instruction s t u T U V r.built a.noted a.step;
    highest = highest_more r.instructions a.instruction 0 h s t u T U r.built r.highest a.step;
  }

abbrev by_numbers : Instruction UnpackedIndex × List ℕ → Instruction ℕ × List ℕ
by_numbers x = (map_instruction written_index x.0, x.1)

-- the offset and what is left, together, stay
pub places_add : (r q : BinaryReader) → SameInput r q → place_of_next q + length (rest q) ≡ place_of_next r + length (rest r)
places_add r q same =
    let a = length-drop (position_in r) (input r) in
    let b = length-drop (position_in q) (input q) in
    let c : length (input q) ≡ length (input r) = ap (λ (xs : List ℕ). length xs) same.0 in
    let d : original q ≡ original r = same.1 in
    let e : position_in r ≤ length (input r) = r.within in
    let f : position_in q ≤ length (input q) = q.within in
    omega arith

module _ {A : Type 0} (C : Context UnpackedIndex) (v w : OperatorValidator A) (op : Operator) where
  -- a step of the validator is one of the rules
  pub took_is : (offset : ℕ) (x : Unit {0}) → (v.failed ≡ false → StepsAt (Ok x) offset C (operator_of op) v.stacks w.stacks) → v.failed ≡ false → steps_to C v (instruction_of op) ≡ Some (typed_state w)
  took_is offset x s e = took offset C (operator_of op) v.stacks w.stacks (Ok x) (s e)

  pub took_at : (offset : ℕ) (r : Result (Unit {0}) Error) → (v.failed ≡ false → StepsAt r offset C (operator_of op) v.stacks w.stacks) → v.failed ≡ false → TookAt offset r (steps_to C v (instruction_of op)) (typed_state w)
  took_at offset r s e = took offset C (operator_of op) v.stacks w.stacks r (s e)

  pub advances_is :
      (T U : Built) (r q : BinaryReader) (at behind : ℕ) → SameInput r q → instruction_at written (rest r) ≡ Some (operator_of op, rest q) → at ≡ original r + position_in r → behind ≡ original q + position_in q
      → noted_in C v (placed at behind op) T ≡ Some U → steps_to C v (instruction_of op) ≡ Some (typed_state w)
      → Advances (world C) (within v C) (typed_state v) T (place_of_next r) (rest r) (typed_state w) U (place_of_next q) (rest q)
  advances_is T U r q at behind same read e f n p = record {
    instruction = placed at behind op;
    stands = record {
      at = e;
      read = (instruction-renames written_index written (rest r)).is ∙ ap (λ (o : Option (Instruction UnpackedIndex × List ℕ)). option_map by_numbers o) read;
      behind = ap (λ (n : ℕ). n + length (rest q)) f ∙ places_add r q same;
    };
    ends = f;
    noted = n;
    step = p;
  }

pub ruleset stepping = (took_at)

pub ruleset advancing = (advances_is)
