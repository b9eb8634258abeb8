-- One instruction more, as it stands in bytes.
use Rattle.std.proofs.Common.{◌≡◌, refl, sym, ap, subst, ◌∙◌, ℕ, List, ◌∷◌, Option, Some, None, option_map, Result, Ok, Err, OnOk, arith}
use Rattle.wasm_readers.specs.WrittenIndices.{written}
use Rattle.wasm_readers.specs.WasmReadersBytes.Reader.{SameInput, original, position_in, place_of_next, rest}
use Rattle.wasm_readers.specs.WasmReadersBytes.declared.binary_reader.BinaryReader.{BinaryReader}
use Rattle.wasm_spec_rules.specs.Contexts.{Context}
use Rattle.wasm_readers_types.specs.WasmReadersValues.declared.indices.UnpackedIndex.{UnpackedIndex}
use Rattle.wasm_operators.specs.Instructions.{Instruction, instruction_at}
use Rattle.wasm_operators.specs.Maps.{map_instruction}
use Rattle.wasm_operators.proofs.Renamings.{instruction-renames}
use Rattle.wasm_spec_steps.specs.Machine.{State}
use Rattle.wasm_validator_resources.specs.Answers.{world, written_index}
use Rattle.wasm_typing_stacks.specs.BodyStacks.{Kept}
use Rattle.wasm_validator_func.specs.WasmTypingValidator.WasmTypingSteps.InstructionSteps.{step_read, step_at}
use Rattle.wasm_validator_func.specs.WasmTypingValidator.BodyTyping.{typed_state}
use Rattle.wasm_validator_func.specs.WasmTypingValidator.TypedInstructions.{within}
use Rattle.wasm_validator_func.specs.WasmTypingValidator.StepsFromBytes.{stepped}
use Rattle.wasm_validator_func.specs.WasmTypingValidator.declared.validator.OperatorValidator.{OperatorValidator}
use Rattle.wasm_validator_func.proofs.WasmTypingValidator.CodeSurroundings.{kept_around}
use Rattle.wasm_spec_side_tables.specs.SideTables.{Branch, branches, Nesting, nesting}
use Rattle.wasm_spec_side_tables.specs.OnePassTables.{Built}
use Rattle.wasm_spec_side_tables.proofs.Lists.{the_same, bind-gives}
use Rattle.wasm_validator_side_notes.specs.TableViews.{nested_in, planned_in, steps_to}
use Rattle.wasm_validator_side_notes.specs.Tables.{Advances}
use Rattle.wasm_validator_side_notes.specs.OperatorNotes.{IsQuiet, with_noted, nesting_of, Foresees}
use Rattle.wasm_validator_side_notes.specs.declared.frequent.Noted.{Noted}
use Rattle.wasm_validator_side_notes.proofs.BranchNotes.{planned_none, noted_by}
use Rattle.wasm_validator_side_notes.proofs.NextInstructions.{places_add}

abbrev Read : Type 0
Read = Instruction UnpackedIndex × List ℕ

abbrev by_numbers : Read → Instruction ℕ × List ℕ
by_numbers x = (map_instruction written_index x.0, x.1)

module _ {A : Type 0} (C : Context UnpackedIndex) (v w : OperatorValidator A) (r q : BinaryReader) where
  -- an instruction that is read and takes its step
  record Performs : Type 0 where
    pub op : Instruction ℕ
    pub read : instruction_at (λ n. n) (rest r) ≡ Some (op, rest q)
    pub step : steps_to C v op ≡ Some (typed_state w)

  performs_by : (o : Option Read) → instruction_at written (rest r) ≡ o → step_read (world C) (within v C) (typed_state v) o ≡ Some (typed_state w, rest q) → Performs
  performs_by None e p = absurd cc
  performs_by (Some x) e p =
      let i = map_instruction written_index x.0 in
      let a = bind-gives (steps_to C v i) _ (typed_state w, rest q) p in
      let b = the_same (a.0, x.1) (typed_state w, rest q) a.2 in
      record {
        op = i;
        read = (instruction-renames written_index written (rest r)).is ∙ ap (λ (o : Option Read). option_map by_numbers o) e ∙ ap (λ (y : State UnpackedIndex × List ℕ). Some (i, y.1)) b;
        step = a.1 ∙ ap (λ (y : State UnpackedIndex × List ℕ). Some y.0) b;
      }

  performs : stepped C v.stacks r ≡ Some (typed_state w, rest q) → Performs
  unfolding step_at
  performs p = performs_by (instruction_at written (rest r)) refl p

  -- so the table goes on by what the instruction branches and does to the blocks
  abbrev Goes : Built → Built → Type 0
  Goes T U = Advances (world C) (within v C) (typed_state v) T (place_of_next r) (rest r) (typed_state w) U (place_of_next q) (rest q)

  goes_by : (T U V : Built) → SameInput r q → (x : Performs) → planned_in C v (place_of_next r) (branches x.op) T ≡ Some U → nested_in (nesting x.op) (place_of_next q) U ≡ Some V → Goes T V
  goes_by T U V same x e f = record {
    instruction = record { op = x.op; at = place_of_next r; behind = place_of_next q };
    stands = record {
      at = refl;
      read = x.read;
      behind = places_add r q same;
    };
    ends = refl;
    noted = noted_by C v (place_of_next r) (place_of_next q) x.op T U V e f;
    step = x.step;
  }

  -- or by what was foreseen of it
  noted_by_step : (T V : Built) (n : Noted) → SameInput r q → (x : Performs) → Foresees C v (place_of_next r) T (rest r) n → nested_in (nesting_of n) (place_of_next q) (with_noted n T) ≡ Some V → Goes T V
  noted_by_step T V n same x f g =
      let both = f.foreseen x.op (rest q) x.read in
      goes_by T (with_noted n T) V same x both.0 (ap (λ (k : Nesting). nested_in k (place_of_next q) (with_noted n T)) both.1 ∙ g)

  pub noted_so : (T V : Built) (n : Noted) → SameInput r q → Foresees C v (place_of_next r) T (rest r) n → nested_in (nesting_of n) (place_of_next q) (with_noted n T) ≡ Some V → stepped C v.stacks r ≡ Some (typed_state w, rest q) → Goes T V
  noted_so T V n same f g p = noted_by_step T V n same (performs p) f g

  -- the one instruction that is read takes the step
  pub steps_as : stepped C v.stacks r ≡ Some (typed_state w, rest q) → (i : Instruction ℕ) (more : List ℕ) → instruction_at (λ n. n) (rest r) ≡ Some (i, more) → steps_to C v i ≡ Some (typed_state w)
  steps_as p i more e =
      let x = performs p in
      let same : x.op ≡ i = ap (λ (y : Instruction ℕ × List ℕ). y.0) (the_same (x.op, rest q) (i, more) (sym x.read ∙ e)) in
      subst (λ (j : Instruction ℕ). steps_to C v j ≡ Some (typed_state w)) same x.step

  -- which goes on by what it branches and does to the blocks
  pub noted_as :
      (i : Instruction ℕ) (more : List ℕ) (T U V : Built) → SameInput r q → instruction_at (λ n. n) (rest r) ≡ Some (i, more) → planned_in C v (place_of_next r) (branches i) T ≡ Some U
      → nested_in (nesting i) (place_of_next q) U ≡ Some V → stepped C v.stacks r ≡ Some (typed_state w, rest q) → Goes T V
  noted_as i more T U V same e f g p =
      let x = performs p in
      let s : i ≡ x.op = ap (λ (y : Instruction ℕ × List ℕ). y.0) (the_same (i, more) (x.op, rest q) (sym e ∙ x.read)) in
      goes_by T U V same x (subst (λ (j : Instruction ℕ). planned_in C v (place_of_next r) (branches j) T ≡ Some U) s f) (subst (λ (j : Instruction ℕ). nested_in (nesting j) (place_of_next q) U ≡ Some V) s g)

  module _ (xs : List ℕ) (b : ℕ) where
    -- the instruction begins with this byte
    begins : (x : Performs) → rest r ≡ b ∷ xs → instruction_at (λ n. n) (b ∷ xs) ≡ Some (x.op, rest q)
    begins x e = ap (λ ys. instruction_at (λ n. n) ys) (sym e) ∙ x.read

    quietly_by : (x : Performs) → IsQuiet b → rest r ≡ b ∷ xs → SameInput r q → (T : Built) → Goes T T
    quietly_by x k e same T =
        let both = k.at xs x.op (rest q) (begins x e) in
        goes_by T T T same x (ap (λ (bs : List Branch). planned_in C v (place_of_next r) bs T) both.0 ∙ planned_none C v (place_of_next r) T) (ap (λ (m : Nesting). nested_in m (place_of_next q) T) both.1)

    pub quietly : IsQuiet b → rest r ≡ b ∷ xs → SameInput r q → stepped C v.stacks r ≡ Some (typed_state w, rest q) → (T : Built) → Goes T T
    quietly k e same p = quietly_by (performs p) k e same

-- from where nothing changed
pub advances_from : {A : Type 0} (C D : Context UnpackedIndex) (v w : OperatorValidator A) (r q : BinaryReader) (T X : Built) (t : State UnpackedIndex) (behind : ℕ) (more : List ℕ)
    → D ≡ C → Kept v.stacks w.stacks → typed_state w ≡ typed_state v → q ≡ r
    → Advances (world D) (within w D) (typed_state w) T (place_of_next q) (rest q) t X behind more → Advances (world C) (within v C) (typed_state v) T (place_of_next r) (rest r) t X behind more
advances_from C D v w r q T X t behind more c k s e p =
    let p1 = subst (λ (E : Context UnpackedIndex). Advances (world E) (within w E) (typed_state w) T (place_of_next q) (rest q) t X behind more) c p in
    let p2 = subst (λ B. Advances (world C) B (typed_state w) T (place_of_next q) (rest q) t X behind more) (kept_around v.stacks w.stacks C k) p1 in
    let p3 = subst (λ (z : State UnpackedIndex). Advances (world C) (within v C) z T (place_of_next q) (rest q) t X behind more) s p2 in
    subst (λ (z : BinaryReader). Advances (world C) (within v C) (typed_state v) T (place_of_next z) (rest z) t X behind more) e p3

-- what was answered says nothing more
pub on_ok : {X E P Q : Type 0} (r : Result X E) → (P → Q) → OnOk r P → OnOk r Q
on_ok (Ok x) f p = f p
on_ok (Err e) f p = tt

-- where the reader goes on from another one
pub place_stays : (r q z : BinaryReader) → SameInput r q → SameInput r z → position_in z ≡ position_in q → place_of_next z ≡ place_of_next q
place_stays r q z a b e =
    let c : original q ≡ original r = a.1 in
    let d : original z ≡ original r = b.1 in
    omega arith

pub advances_on : {A : Type 0} (C : Context UnpackedIndex) (v w : OperatorValidator A) (T U : Built) (at : ℕ) (bytes : List ℕ) (q z : BinaryReader) → place_of_next z ≡ place_of_next q → rest z ≡ rest q
    → Advances (world C) (within v C) (typed_state v) T at bytes (typed_state w) U (place_of_next q) (rest q) → Advances (world C) (within v C) (typed_state v) T at bytes (typed_state w) U (place_of_next z) (rest z)
advances_on C v w T U at bytes q z e f a =
    let b = subst (λ (n : ℕ). Advances (world C) (within v C) (typed_state v) T at bytes (typed_state w) U n (rest q)) (sym e) a in
    subst (λ (xs : List ℕ). Advances (world C) (within v C) (typed_state v) T at bytes (typed_state w) U (place_of_next z) xs) (sym f) b
