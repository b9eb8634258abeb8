-- What is noted of an operator once its step is taken and told.
use Rattle.std.proofs.Common.{◌≡◌, ◌≤◌, ◌<◌, refl, sym, ap, subst, ◌∙◌, ℕ, zero, suc, ◌+◌, ◌-◌, List, [], ◌∷◌, length, Option, Some, None, option_map, arith, slice_get}
use Rattle.wasm_spec.specs.Values.{u32_at}
use Rattle.wasm_spec_rules.specs.Contexts.{Context}
use Rattle.wasm_spec_rules.specs.Attempts.{◌>>=◌}
use Rattle.wasm_spec_rules.specs.Signatures.{Signature}
use Rattle.wasm_readers.specs.WasmReadersBytes.Reader.{place_of_next, rest}
use Rattle.wasm_readers.specs.WasmReadersBytes.declared.binary_reader.BinaryReader.{BinaryReader}
use Rattle.wasm_readers_types.specs.WasmReadersValues.declared.indices.UnpackedIndex.{UnpackedIndex}
use Rattle.wasm_operators.specs.Control.{Block, empty_block, value_block, func_block, br, br_if, control_from}
use Rattle.wasm_operators.specs.Instructions.{plain_from, of_family, control}
use Rattle.wasm_spec_steps.specs.Machine.{Frame, Kind, State}
use Rattle.wasm_spec_steps.specs.Meanings.{block_signature, label_by}
use Rattle.wasm_validator_resources.specs.Answers.{world}
use Rattle.wasm_validator_func.specs.WasmTypingValidator.WasmTypingControl.Blocks.{function_in, signature_in}
use Rattle.wasm_validator_func.specs.WasmTypingValidator.WasmTypingSteps.ToldSteps.{told_at}
use Rattle.wasm_validator_func.specs.WasmTypingValidator.WasmTypingSteps.declared.told.Told.{Told}
use Rattle.wasm_validator_func.specs.WasmTypingValidator.WasmTypingSteps.declared.told.Told.TheVariants as told
use Rattle.wasm_validator_func.specs.WasmTypingValidator.BodyTyping.{typed_state}
use Rattle.wasm_validator_func.specs.WasmTypingValidator.QueryResults.{label_counts_in}
use Rattle.wasm_validator_func.specs.WasmTypingValidator.TypedInstructions.{within}
use Rattle.wasm_validator_func.specs.WasmTypingValidator.declared.validator.OperatorValidator.{OperatorValidator}
use Rattle.wasm_spec_side_tables.specs.declared.entry.Entry.{Entry}
use Rattle.wasm_spec_side_tables.specs.declared.entry.OpenBlock.{OpenBlock}
use Rattle.wasm_spec_side_tables.specs.SideTables.{to_label, label_counts, opens, opens_loop, closes}
use Rattle.wasm_spec_side_tables.specs.OnePassTables.{Built}
use Rattle.wasm_validator_side_notes.specs.TableViews.{nested_in, planned_one, steps_to}
use Rattle.wasm_validator_side_notes.specs.OperatorNotes.{IsQuiet, IsBranchedTo, LeadsOn, branch_told, entry_past, with_entry, with_noted, nesting_of, IsNoted, entry_by, entry_to}
use Rattle.wasm_validator_side_notes.specs.declared.frequent.Noted.{Noted}
use Rattle.wasm_validator_side_notes.specs.declared.frequent.Noted.TheVariants.{Opens, OpensLoop, OpensThen, Closes, Branches}
use Rattle.wasm_validator_side_notes.proofs.Opcodes.{plainly_back}
use Rattle.wasm_validator_side_notes.proofs.FirstBytes.{foresees_branch, foresees_then, foresees_opens, foresees_loop, foresees_end}
use Rattle.wasm_validator_side_notes.proofs.LabelsKept.{branch-labels, branch_if-labels}
use Rattle.wasm_validator_side_notes.proofs.ToldBytes.{Said, told_said}
use Rattle.wasm_validator_side_notes.proofs.InstructionBytes.{noted_so, steps_as, quietly}

-- where something is told, there is a first byte, and it says so
pub told_first : (bytes xs : List ℕ) (b : ℕ) (t : Told) → told_at bytes ≡ Some t → bytes ≡ b ∷ xs → Said t b
unfolding told_at
told_first bytes xs b t e f = told_said b t (sym (ap (λ ys. told_at ys) f) ∙ e)

front : (bytes : List ℕ) (t : Told) → told_at bytes ≡ Some t → (b : ℕ) × (xs : List ℕ) × (bytes ≡ b ∷ xs)
unfolding told_at
front [] t e = absurd cc
front (b ∷ xs) t e = (b, xs, refl)

-- `br` and `br_if` by their labels
read_br : (bytes more : List ℕ) (l : ℕ) → u32_at bytes ≡ Some (l, more) → plain_from (λ n. n) 0x0c bytes ≡ Some (control (br l), more)
unfolding plain_from control_from
read_br bytes more l h = ap (λ (o : Option (ℕ × List ℕ)). of_family control (option_map (λ (x : ℕ × List ℕ). (br x.0, x.1)) o)) h

read_br_if : (bytes more : List ℕ) (l : ℕ) → u32_at bytes ≡ Some (l, more) → plain_from (λ n. n) 0x0d bytes ≡ Some (control (br_if l), more)
unfolding plain_from control_from
read_br_if bytes more l h = ap (λ (o : Option (ℕ × List ℕ)). of_family control (option_map (λ (x : ℕ × List ℕ). (br_if x.0, x.1)) o)) h

-- the entry by the number of its place
abbrev number_with : ℕ → ℕ → Option OpenBlock → Option (ℕ × ℕ) → Option Entry
number_with at n o x = option_map (λ (b : OpenBlock). b.label) o >>= λ (k : ℕ). (x >>= λ (c : ℕ × ℕ). Some (c.0, n - c.0 - c.1)) >>= λ (c : ℕ × ℕ). Some (record { at = at; target = k; next = 0; kept = c.0; dropped = c.1 })

planned_by : (at n : ℕ) (o : Option OpenBlock) (x : Option (ℕ × ℕ)) (e : Entry) → entry_by at n o x ≡ Some e → number_with at n o x ≡ Some e
planned_by at n None x e h = h
planned_by at n (Some b) None e h = h
planned_by at n (Some b) (Some c) e h = h

-- how many operands a label is given by this signature, and how many stand below its frame
abbrev counts_of : Kind → ℕ → Signature UnpackedIndex → ℕ × ℕ
counts_of k h g = (length (label_by k g), h)

abbrev counted : Kind → ℕ → Signature UnpackedIndex → Option (ℕ × ℕ)
counted k h g = Some (counts_of k h g)

by_signature : (k : Kind) (h : ℕ) (o : Option (Signature UnpackedIndex)) → (o >>= counted k h) ≡ option_map (counts_of k h) o
by_signature k h None = refl
by_signature k h (Some g) = refl

module _ {A : Type 0} (C : Context UnpackedIndex) (w : OperatorValidator A) (count at : ℕ) (T : Built) where
  module _ (v : OperatorValidator A) (many : length (typed_state v).operands ≡ count) where
    by_block : (k : Kind) (h : ℕ) (b : Block UnpackedIndex) → (block_signature (world C) (within v C) b >>= counted k h) ≡ option_map (counts_of k h) (signature_in C b)
    by_block k h empty_block = refl
    by_block k h (value_block t) = refl
    by_block k h (func_block n) = by_signature k h (function_in C n)

    by_frame : (o : Option (Frame UnpackedIndex)) → (o >>= λ (x : Frame UnpackedIndex). block_signature (world C) (within v C) x.block >>= counted x.kind x.height) ≡ (o >>= λ (x : Frame UnpackedIndex). option_map (counts_of x.kind x.height) (signature_in C x.block))
    by_frame None = refl
    by_frame (Some x) = by_block x.kind x.height x.block

    counts_same : (l : ℕ) → label_counts (world C) (within v C) (typed_state v) l ≡ label_counts_in C (typed_state v) l
    counts_same l = by_frame (slice_get (typed_state v).frames l)

    pub planned_as : (taken l : ℕ) (e : Entry) → label_counts_in C (typed_state w) l ≡ label_counts_in C (typed_state v) l → entry_to C (typed_state w) T at l (count - taken) ≡ Some e → planned_one C v at (to_label l taken) T ≡ Some e
    planned_as taken l e s p =
        let o : Option OpenBlock = slice_get T.nest.open_blocks l in
        let a : entry_by at (length (typed_state v).operands - taken) o (label_counts_in C (typed_state v) l) ≡ Some e =
        ap (λ (n : ℕ). entry_by at (n - taken) o (label_counts_in C (typed_state v) l)) many ∙ ap (λ (x : Option (ℕ × ℕ)). entry_by at (count - taken) o x) (sym s) ∙ p in
        ap (λ (x : Option (ℕ × ℕ)). number_with at (length (typed_state v).operands - taken) o x) (counts_same l) ∙ planned_by at (length (typed_state v).operands - taken) o (label_counts_in C (typed_state v) l) e a

  pub noted_branch : (taken l : ℕ) (bytes more : List ℕ) (e : Entry) → taken ≤ 1 → u32_at bytes ≡ Some (l, more) → entry_to C (typed_state w) T at l (count - taken) ≡ Some e → IsNoted C w count at T ((0x0c + taken) ∷ bytes) (Branches e)
  noted_branch zero l bytes more e few h p = record {
    foreseen = λ v many steps.
        let step : steps_to C v (control (br l)) ≡ Some (typed_state w) = steps (control (br l)) more (plainly_back 0x0c bytes (control (br l)) more (omega arith) (read_br bytes more l h)) in
        let same : label_counts_in C (typed_state w) l ≡ label_counts_in C (typed_state v) l = branch-labels C (world C) (within v C) l l (typed_state v) (typed_state w) step in
        foresees_branch C v at T 0 bytes more l e few h (planned_as v many 0 l e same p);
  }
  noted_branch (suc zero) l bytes more e few h p = record {
    foreseen = λ v many steps.
        let step : steps_to C v (control (br_if l)) ≡ Some (typed_state w) = steps (control (br_if l)) more (plainly_back 0x0d bytes (control (br_if l)) more (omega arith) (read_br_if bytes more l h)) in
        let same : label_counts_in C (typed_state w) l ≡ label_counts_in C (typed_state v) l = branch_if-labels C (world C) (within v C) l l (typed_state v) (typed_state w) step in
        foresees_branch C v at T 1 bytes more l e few h (planned_as v many 1 l e same p);
  }
  noted_branch (suc (suc n)) l bytes more e few h p = absurd (omega (arith, few))

  pub noted_then : (bytes zs : List ℕ) (x : ℕ) (e : Entry) → bytes ≡ x ∷ zs → 0x40 ≤ x → x < 0x80 → e ≡ record { at = at; target = length T.nest.places + 1; next = 0; kept = 0; dropped = 0 } → IsNoted C w count at T (0x04 ∷ bytes) (OpensThen e)
  noted_then bytes zs x e s l h d = record { foreseen = λ v many steps. foresees_then C v at T bytes zs x e s l h d }

  -- what the bytes begin with
  pub noted_by : (bytes xs : List ℕ) (b c : ℕ) (n : Noted) → bytes ≡ b ∷ xs → b ≡ c → IsNoted C w count at T (c ∷ xs) n → IsNoted C w count at T bytes n
  noted_by bytes xs b c n s e f = subst (λ (ys : List ℕ). IsNoted C w count at T ys n) (sym s) (subst (λ (d : ℕ). IsNoted C w count at T (d ∷ xs) n) (sym e) f)

  pub noted_opens : (bytes xs : List ℕ) (b : ℕ) → bytes ≡ b ∷ xs → b ≡ 0x02 → IsNoted C w count at T bytes Opens
  noted_opens bytes xs b s e = record { foreseen = λ v many steps. foresees_opens C v at T bytes xs b s e }

  pub noted_loop : (bytes xs : List ℕ) (b : ℕ) → bytes ≡ b ∷ xs → b ≡ 0x03 → IsNoted C w count at T bytes OpensLoop
  noted_loop bytes xs b s e = record { foreseen = λ v many steps. foresees_loop C v at T bytes xs b s e }

  pub noted_end : (bytes xs : List ℕ) (b : ℕ) → bytes ≡ b ∷ xs → b ≡ 0x0b → IsNoted C w count at T bytes Closes
  noted_end bytes xs b s e = record { foreseen = λ v many steps. foresees_end C v at T bytes xs b s e }

-- so the table is led on
module _ {A : Type 0} (C : Context UnpackedIndex) (w : OperatorValidator A) (r q : BinaryReader) (count : ℕ) where
  pub leads_so : (T V : Built) (n : Noted) → IsNoted C w count (place_of_next r) T (rest r) n → nested_in (nesting_of n) (place_of_next q) (with_noted n T) ≡ Some V → LeadsOn C w r q count T V
  leads_so T V n f g = record {
    advances = λ v same many step. noted_so C v w r q T V n same (f.foreseen v many (steps_as C v w r q step)) g step;
  }

  pub leads_quietly : (T : Built) → told_at (rest r) ≡ Some told.Quiet → LeadsOn C w r q count T T
  leads_quietly T e =
      let f = front (rest r) told.Quiet e in
      let quiet : IsQuiet f.0 = told_first (rest r) f.1 f.0 told.Quiet e f.2 in
      record {
        advances = λ v same many step. quietly C v w r q f.1 f.0 quiet f.2 same step T;
      }

  -- by what is told
  pub leads_opens : (T U : Built) → told_at (rest r) ≡ Some told.Opens → nested_in opens (place_of_next q) T ≡ Some U → LeadsOn C w r q count T U
  leads_opens T U e n =
      let f = front (rest r) told.Opens e in
      let code : f.0 ≡ 0x02 = told_first (rest r) f.1 f.0 told.Opens e f.2 in
      leads_so T U Opens (noted_opens C w count (place_of_next r) T (rest r) f.1 f.0 f.2 code) n

  pub leads_loop : (T U : Built) → told_at (rest r) ≡ Some told.OpensLoop → nested_in opens_loop (place_of_next q) T ≡ Some U → LeadsOn C w r q count T U
  leads_loop T U e n =
      let f = front (rest r) told.OpensLoop e in
      let code : f.0 ≡ 0x03 = told_first (rest r) f.1 f.0 told.OpensLoop e f.2 in
      leads_so T U OpensLoop (noted_loop C w count (place_of_next r) T (rest r) f.1 f.0 f.2 code) n

  pub leads_end : (T U : Built) → told_at (rest r) ≡ Some told.Closes → nested_in closes (place_of_next q) T ≡ Some U → LeadsOn C w r q count T U
  leads_end T U e n =
      let f = front (rest r) told.Closes e in
      let code : f.0 ≡ 0x0b = told_first (rest r) f.1 f.0 told.Closes e f.2 in
      leads_so T U Closes (noted_end C w count (place_of_next r) T (rest r) f.1 f.0 f.2 code) n

  pub leads_then :
      (T U : Built) (b x : ℕ) (xs zs : List ℕ) → told_at (rest r) ≡ Some told.OpensThen → rest r ≡ b ∷ xs → xs ≡ x ∷ zs → 0x40 ≤ x → x < 0x80
      → nested_in opens (place_of_next q) (with_entry T (entry_past (place_of_next r) T)) ≡ Some U → LeadsOn C w r q count T U
  leads_then T U b x xs zs e s t l h n =
      let code : b ≡ 0x04 = told_first (rest r) xs b told.OpensThen e s in
      let entry : Entry = entry_past (place_of_next r) T in
      leads_so T U (OpensThen entry) (noted_by C w count (place_of_next r) T (rest r) xs b 0x04 (OpensThen entry) s code (noted_then C w count (place_of_next r) T xs zs x entry t l h refl)) n

  pub leads_branch :
      (T U : Built) (taken b l : ℕ) (xs more : List ℕ) → taken ≤ 1 → told_at (rest r) ≡ Some (branch_told taken) → rest r ≡ b ∷ xs → u32_at xs ≡ Some (l, more)
      → IsBranchedTo C (typed_state w) (place_of_next r) l (count - taken) T U → LeadsOn C w r q count T U
  leads_branch T U zero b l xs more few e s h x =
      let code : b ≡ 0x0c = told_first (rest r) xs b told.Branches e s in
      leads_so T U (Branches x.0) (noted_by C w count (place_of_next r) T (rest r) xs b 0x0c (Branches x.0) s code (noted_branch C w count (place_of_next r) T 0 l xs more x.0 few h x.1)) (ap (λ (V : Built). Some V) (sym x.2))
  leads_branch T U (suc zero) b l xs more few e s h x =
      let code : b ≡ 0x0d = told_first (rest r) xs b told.BranchesPerhaps e s in
      leads_so T U (Branches x.0) (noted_by C w count (place_of_next r) T (rest r) xs b 0x0d (Branches x.0) s code (noted_branch C w count (place_of_next r) T 1 l xs more x.0 few h x.1)) (ap (λ (V : Built). Some V) (sym x.2))
  leads_branch T U (suc (suc n)) b l xs more few e s h x = absurd (omega (arith, few))

-- an entry that is added
module _ (C : Context UnpackedIndex) (s : State UnpackedIndex) (at l k : ℕ) (T U : Built) where
  pub branched :
      (b : OpenBlock) (c : ℕ × ℕ) (e : Entry) → Some b ≡ slice_get T.nest.open_blocks l → label_counts_in C s l ≡ Some c → e ≡ record { at = at; target = b.label; next = 0; kept = c.0; dropped = k - c.0 - c.1 }
      → U ≡ with_entry T e → IsBranchedTo C s at l k T U
  branched b c e f g h u =
      let x : Option (ℕ × ℕ) = label_counts_in C s l in
      (e, ap (λ (o : Option OpenBlock). entry_by at k o x) (sym f) ∙ ap (λ (y : Option (ℕ × ℕ)). entry_by at k (Some b) y) g ∙ ap (λ (r : Entry). Some r) (sym h), u)

  -- where the label takes nothing
  pub branched_empty :
      (b : OpenBlock) (h : ℕ) (e : Entry) → Some b ≡ slice_get T.nest.open_blocks l → label_counts_in C s l ≡ Some (0, h) → e ≡ record { at = at; target = b.label; next = 0; kept = 0; dropped = k - h }
      → U ≡ with_entry T e → IsBranchedTo C s at l k T U
  branched_empty b h e f g d u =
      let none : k - 0 - h ≡ k - h = omega arith in
      branched b (0, h) e f g (d ∙ ap (λ (n : ℕ). record { at = at; target = b.label; next = 0; kept = 0; dropped = n }) (sym none)) u

  pub branched_from : (S : Built) → S ≡ T → IsBranchedTo C s at l k S U → IsBranchedTo C s at l k T U
  branched_from S e x = subst (λ (V : Built). IsBranchedTo C s at l k V U) e x

  pub branched_at : (n : ℕ) → n ≡ at → IsBranchedTo C s n l k T U → IsBranchedTo C s at l k T U
  branched_at n e x = subst (λ (m : ℕ). IsBranchedTo C s m l k T U) e x

pub ruleset adds = (branched, branched_empty, branched_from, branched_at)

pub ruleset leads = (leads_quietly, leads_opens, leads_loop, leads_end, leads_then, leads_branch)
