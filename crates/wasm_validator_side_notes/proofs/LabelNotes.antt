-- The branches of a `br_table`, noted once its step is taken.
use Rattle.std.proofs.Common.{◌≡◌, ◌<◌, refl, sym, ap, subst, ◌∙◌, ℕ, zero, suc, ◌-◌, List, [], ◌∷◌, map, length, Option, Some, None, option_map, arith}
use Rattle.std.specs.Option.{option_and_then}
use Rattle.wasm_spec.specs.Values.{u32_at, many_at}
use Rattle.wasm_spec_rules.specs.Contexts.{Context}
use Rattle.wasm_spec_rules.specs.Attempts.{◌>>=◌}
use Rattle.wasm_readers.specs.WasmReadersBytes.Reader.{SameInput, place_of_next, rest}
use Rattle.wasm_readers.specs.WasmReadersBytes.declared.binary_reader.BinaryReader.{BinaryReader}
use Rattle.wasm_readers_types.specs.WasmReadersValues.declared.indices.UnpackedIndex.{UnpackedIndex}
use Rattle.wasm_operators.specs.Control.{br_table, br_table_at, control_from}
use Rattle.wasm_operators.specs.Instructions.{instruction_at, plain_from, of_family, control}
use Rattle.wasm_spec_steps.specs.Machine.{State}
use Rattle.wasm_validator_resources.specs.Answers.{world}
use Rattle.wasm_validator_func.specs.WasmTypingValidator.BodyTyping.{typed_state}
use Rattle.wasm_validator_func.specs.WasmTypingValidator.QueryResults.{label_counts_in}
use Rattle.wasm_validator_func.specs.WasmTypingValidator.TypedInstructions.{within}
use Rattle.wasm_validator_func.specs.WasmTypingValidator.StepsFromBytes.{stepped}
use Rattle.wasm_validator_func.specs.WasmTypingValidator.declared.validator.OperatorValidator.{OperatorValidator}
use Rattle.wasm_spec_side_tables.specs.declared.entry.Entry.{Entry}
use Rattle.wasm_spec_side_tables.specs.SideTables.{to_label, branches}
use Rattle.wasm_spec_side_tables.specs.OnePassTables.{Built}
use Rattle.wasm_spec_side_tables.proofs.Lists.{the_same, bind-gives}
use Rattle.wasm_validator_side_notes.specs.TableViews.{planned_in}
use Rattle.wasm_validator_side_notes.specs.Tables.{Advances}
use Rattle.wasm_validator_side_notes.specs.OperatorNotes.{IsBranchedTo, entry_to, with_entry}
use Rattle.wasm_validator_side_notes.specs.LabelEntries.{with_each, AreBranchedTo, IsBranchedByTable}
use Rattle.wasm_validator_side_notes.proofs.Opcodes.{plainly_back}
use Rattle.wasm_validator_side_notes.proofs.BranchNotes.{planned_none, planned_alone, planned_more, planned_last}
use Rattle.wasm_validator_side_notes.proofs.LabelsKept.{table-labels}
use Rattle.wasm_validator_side_notes.proofs.InstructionBytes.{steps_as, noted_as}
use Rattle.wasm_validator_side_notes.proofs.ToldNotes.{planned_as}

module _ (C : Context UnpackedIndex) (s : State UnpackedIndex) (at n : ℕ) where
  -- label by label
  pub none_left : (many : ℕ) (bytes : List ℕ) (T : Built) → many ≡ 0 → AreBranchedTo C s at n many bytes bytes T T
  none_left zero bytes T e = record { labels = []; read = refl; added = refl }
  none_left (suc many) bytes T e = cc

  with_one : (l : ℕ) (ls : List ℕ) (e : Entry) (T U V : Built) → entry_to C s T at l n ≡ Some e → U ≡ with_entry T e → with_each C s at n ls U ≡ Some V → with_each C s at n (l ∷ ls) T ≡ Some V
  with_one l ls e T U V p q f = ap (λ (o : Option Entry). o >>= λ (x : Entry). with_each C s at n ls (with_entry T x)) p ∙ ap (λ (X : Built). with_each C s at n ls X) (sym q) ∙ f

  pub one_more : (many l : ℕ) (bytes next more : List ℕ) (T U V : Built) → 0 < many → u32_at bytes ≡ Some (l, next) → IsBranchedTo C s at l n T U → AreBranchedTo C s at n (many - 1) next more U V → AreBranchedTo C s at n many bytes more T V
  one_more zero l bytes next more T U V p r x a = absurd (omega (arith, p))
  one_more (suc many) l bytes next more T U V p r x a =
      let k : suc many - 1 ≡ many = omega arith in
      let f : many_at u32_at many next ≡ Some (a.labels, more) = subst (λ j. many_at u32_at j next ≡ Some (a.labels, more)) k a.read in
      record { labels = l ∷ a.labels; read = rw (r, f) refl; added = with_one l a.labels x.0 T U V x.1 x.2 a.added }

  -- the default, which is one label alone
  abbrev IsOne : Option (ℕ × List ℕ) → List ℕ → List ℕ → Type 0
  IsOne o ks more = (l : ℕ) × (o ≡ Some (l, more)) × (ks ≡ l ∷ [])

  is_one : (o : Option (ℕ × List ℕ)) (ks more : List ℕ) → option_and_then {U = List ℕ × List ℕ} (λ (x : ℕ × List ℕ). option_map (λ (xs : List ℕ × List ℕ). (x.0 ∷ xs.0, xs.1)) (Some ([], x.1))) o ≡ Some (ks, more) → IsOne o ks more
  is_one None ks more e = absurd cc
  is_one (Some x) ks more e =
      let same = the_same (x.0 ∷ [], x.1) (ks, more) e in
      (x.0, ap (λ (y : List ℕ × List ℕ). Some (x.0, y.1)) same, sym (ap (λ (y : List ℕ × List ℕ). y.0) same))

  table_read : (many l : ℕ) (bytes second third more ls : List ℕ) → u32_at bytes ≡ Some (many, second) → many_at u32_at many second ≡ Some (ls, third) → u32_at third ≡ Some (l, more) → br_table_at bytes ≡ Some ((ls, l), more)
  table_read many l bytes second third more ls e f g = rw (e, f, g) refl

  pub branched_by : (many : ℕ) (bytes second third more : List ℕ) (T U V : Built) → u32_at bytes ≡ Some (many, second) → AreBranchedTo C s at n many second third T U → AreBranchedTo C s at n 1 third more U V
      → IsBranchedByTable C s at n bytes T V
  branched_by many bytes second third more T U V r a b =
      let x = is_one (u32_at third) b.labels more b.read in
      record {
        labels = a.labels;
        default = x.0;
        behind = more;
        before = U;
        read = table_read many x.0 bytes second third more a.labels r a.read x.1;
        added = a.added;
        last = subst (λ (ks : List ℕ). with_each C s at n ks U ≡ Some V) x.2 b.added;
      }

-- the same labels before the step and behind it
module _ {A : Type 0} (C : Context UnpackedIndex) (v w : OperatorValidator A) (count at : ℕ) (many : length (typed_state v).operands ≡ count)
    (same : (l : ℕ) → label_counts_in C (typed_state w) l ≡ label_counts_in C (typed_state v) l) where
  planned_each : (ks : List ℕ) (T U : Built) → with_each C (typed_state w) at (count - 1) ks T ≡ Some U → planned_in C v at (map (λ l. to_label l 1) ks) T ≡ Some U
  planned_each [] T U e = planned_none C v at T ∙ e
  planned_each (k ∷ ks) T U e =
      let a = bind-gives (entry_to C (typed_state w) T at k (count - 1)) _ U e in
      let V : Built = with_entry T a.0 in
      planned_more C v at (to_label k 1) (map (λ l. to_label l 1) ks) T V (planned_alone C v at (to_label k 1) T a.0 (planned_as C w count at T v many 1 k a.0 (same k) a.1)) ∙ planned_each ks V U a.2

  planned_table : (ls : List ℕ) (l : ℕ) (T U V : Built) → with_each C (typed_state w) at (count - 1) ls T ≡ Some U → with_each C (typed_state w) at (count - 1) (l ∷ []) U ≡ Some V
      → planned_in C v at (branches (control (br_table ls l))) T ≡ Some V
  planned_table ls l T U V e f = planned_last C v at (map (λ k. to_label k 1) ls) (to_label l 1) T U (planned_each ls T U e) ∙ planned_each (l ∷ []) U V f

read_br_table : (bytes more ls : List ℕ) (l : ℕ) → br_table_at bytes ≡ Some ((ls, l), more) → plain_from (λ n. n) 0x0e bytes ≡ Some (control (br_table ls l), more)
unfolding plain_from control_from
read_br_table bytes more ls l h = ap (λ (o : Option ((List ℕ × ℕ) × List ℕ)). of_family control (option_map (λ (t : (List ℕ × ℕ) × List ℕ). (br_table t.0.0 t.0.1, t.1)) o)) h

-- so the table is led on
module _ {A : Type 0} (C : Context UnpackedIndex) (v w : OperatorValidator A) (r q : BinaryReader) (count : ℕ) where
  leads_by : (ls : List ℕ) (l : ℕ) (more : List ℕ) (T U V : Built) → SameInput r q → length (typed_state v).operands ≡ count → instruction_at (λ n. n) (rest r) ≡ Some (control (br_table ls l), more)
      → with_each C (typed_state w) (place_of_next r) (count - 1) ls T ≡ Some U → with_each C (typed_state w) (place_of_next r) (count - 1) (l ∷ []) U ≡ Some V → stepped C v.stacks r ≡ Some (typed_state w, rest q)
      → Advances (world C) (within v C) (typed_state v) T (place_of_next r) (rest r) (typed_state w) V (place_of_next q) (rest q)
  leads_by ls l more T U V same many read e f p =
      let step = steps_as C v w r q p (control (br_table ls l)) more read in
      let kept = λ (k : ℕ). table-labels C (world C) (within v C) ls l k (typed_state v) (typed_state w) step in
      noted_as C v w r q (control (br_table ls l)) more T V V same read (planned_table C v w count (place_of_next r) many kept ls l T U V e f) refl p

  pub leads_table : (T V : Built) (b at : ℕ) (xs : List ℕ) → SameInput r q → rest r ≡ b ∷ xs → b ≡ 0x0e → at ≡ place_of_next r → length (typed_state v).operands ≡ count → IsBranchedByTable C (typed_state w) at (count - 1) xs T V
      → stepped C v.stacks r ≡ Some (typed_state w, rest q) → Advances (world C) (within v C) (typed_state v) T (place_of_next r) (rest r) (typed_state w) V (place_of_next q) (rest q)
  leads_table T V b at xs same s e d many x p =
      let y : IsBranchedByTable C (typed_state w) (place_of_next r) (count - 1) xs T V = subst (λ (n : ℕ). IsBranchedByTable C (typed_state w) n (count - 1) xs T V) d x in
      let read : instruction_at (λ n. n) (rest r) ≡ Some (control (br_table y.labels y.default), y.behind) =
      ap (λ (ys : List ℕ). instruction_at (λ n. n) ys) (s ∙ ap (λ (c : ℕ). c ∷ xs) e) ∙ plainly_back 0x0e xs (control (br_table y.labels y.default)) y.behind (omega arith) (read_br_table xs y.behind y.labels y.default y.read) in
      leads_by y.labels y.default y.behind T y.before V same many read y.added y.last p

pub ruleset adds = (none_left, one_more)

pub ruleset tables = (branched_by)

pub ruleset leads = (leads_table)
