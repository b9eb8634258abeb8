-- What first bytes say of instructions on blocks and labels.
use Rattle.std.proofs.Common.{◌≡◌, ◌≤◌, ◌<◌, refl, sym, ap, subst, ◌∙◌, ℕ, zero, suc, ◌+◌, Bool, true, false, ◌==◌, List, [], ◌∷◌, length, Option, Some, None, option_map, arith, if◌then◌else◌, nat_lt}
use Rattle.wasm_spec.specs.MatchingTests.{World}
use Rattle.wasm_spec.specs.Values.{u32_at, s33_index_at}
use Rattle.wasm_spec.specs.BinaryTypes.{val_at}
use Rattle.wasm_spec.specs.Syntax.{Val}
use Rattle.wasm_spec_rules.specs.Contexts.{Context}
use Rattle.wasm_spec_rules.specs.Attempts.{◌>>=◌}
use Rattle.wasm_readers_types.specs.WasmReadersValues.declared.indices.UnpackedIndex.{UnpackedIndex}
use Rattle.wasm_operators.specs.Control.{Block, empty_block, value_block, func_block, Control, block, loop, if_, else_, end_, br, br_if, block_from, block_at, control_from}
use Rattle.wasm_operators.specs.Instructions.{Instruction, plain_from, of_family, control}
use Rattle.wasm_spec_steps.specs.Bodies.{Surroundings}
use Rattle.wasm_validator_resources.specs.Answers.{world}
use Rattle.wasm_validator_func.specs.WasmTypingValidator.TypedInstructions.{within}
use Rattle.wasm_validator_func.specs.WasmTypingValidator.declared.validator.OperatorValidator.{OperatorValidator}
use Rattle.wasm_spec_side_tables.specs.declared.entry.Entry.{Entry}
use Rattle.wasm_spec_side_tables.specs.SideTables.{Branch, to_label, past_then, branches, Nesting, opens, opens_loop, turns, closes, stays, nesting, taken_by}
use Rattle.wasm_spec_side_tables.specs.OnePassTables.{Built}
use Rattle.wasm_spec_side_tables.proofs.Lists.{the_same}
use Rattle.wasm_validator_side_notes.specs.TableViews.{planned_one, planned_in}
use Rattle.wasm_validator_side_notes.specs.OperatorNotes.{IsQuiet, with_entry, with_noted, nesting_of, Foresees}
use Rattle.wasm_validator_side_notes.specs.declared.frequent.Noted.{Noted}
use Rattle.wasm_validator_side_notes.specs.declared.frequent.Noted.TheVariants.{Stays, Opens, OpensLoop, OpensThen, Turns, Closes, Branches}
use Rattle.wasm_validator_side_notes.proofs.Opcodes.{Read, Does, one, plainly, below, not_below}
use Rattle.wasm_validator_side_notes.proofs.BranchNotes.{planned_none, planned_alone}

-- instructions that open a block, by any block type
opens_each : (f : Block ℕ → Control ℕ) (k : Nesting) → ((b : Block ℕ) → (branches (control (f b)) ≡ []) × (nesting (control (f b)) ≡ k)) → (o : Option (Block ℕ × List ℕ))
    → Does [] k (of_family control (option_map (λ (b : Block ℕ × List ℕ). (f b.0, b.1)) o))
opens_each f k h None i more e = absurd cc
opens_each f k h (Some b) i more e = one [] k (control (f b.0)) b.1 (h b.0).0 (h b.0).1 i more e

module _ (bytes : List ℕ) where
  at_02 : Does [] opens (plain_from (λ n. n) 0x02 bytes)
  unfolding plain_from control_from
  at_02 = opens_each block opens (λ b. (refl, refl)) (block_at (λ n. n) bytes)

  at_03 : Does [] opens_loop (plain_from (λ n. n) 0x03 bytes)
  unfolding plain_from control_from
  at_03 = opens_each loop opens_loop (λ b. (refl, refl)) (block_at (λ n. n) bytes)

  at_05 : Does (to_label 0 0 ∷ []) turns (plain_from (λ n. n) 0x05 bytes)
  unfolding plain_from control_from
  at_05 = one (to_label 0 0 ∷ []) turns (control else_) bytes refl refl

  at_0b : Does [] closes (plain_from (λ n. n) 0x0b bytes)
  unfolding plain_from control_from
  at_0b = one [] closes (control end_) bytes refl refl

-- a branch by its label
labelled : (f : ℕ → Control ℕ) (taken l : ℕ) (more : List ℕ) → (branches (control (f l)) ≡ to_label l taken ∷ []) → (nesting (control (f l)) ≡ stays) → (o : Option (ℕ × List ℕ)) → o ≡ Some (l, more)
    → Does (to_label l taken ∷ []) stays (of_family control (option_map (λ (x : ℕ × List ℕ). (f x.0, x.1)) o))
labelled f taken l more p q None h i rest e = absurd cc
labelled f taken l more p q (Some x) h i rest e =
    let same : x.0 ≡ l = ap (λ (y : ℕ × List ℕ). y.0) (the_same x (l, more) h) in
    one (to_label l taken ∷ []) stays (control (f x.0)) x.1 (subst (λ (n : ℕ). branches (control (f n)) ≡ to_label l taken ∷ []) (sym same) p) (subst (λ (n : ℕ). nesting (control (f n)) ≡ stays) (sym same) q) i rest e

module _ (bytes : List ℕ) (l : ℕ) (more : List ℕ) (h : u32_at bytes ≡ Some (l, more)) where
  at_0c : Does (to_label l 0 ∷ []) stays (plain_from (λ n. n) 0x0c bytes)
  unfolding plain_from control_from
  at_0c = labelled br 0 l more refl refl (u32_at bytes) h

  at_0d : Does (to_label l 1 ∷ []) stays (plain_from (λ n. n) 0x0d bytes)
  unfolding plain_from control_from
  at_0d = labelled br_if 1 l more refl refl (u32_at bytes) h

-- Block types that begin with a byte from 40 to 7f take nothing.
abbrev TakesNone : (W : World UnpackedIndex) → Surroundings UnpackedIndex → Option (Block ℕ × List ℕ) → Type 0
TakesNone W B o = (b : Block ℕ) (more : List ℕ) → o ≡ Some (b, more) → taken_by W B b ≡ Some 0

module _ (W : World UnpackedIndex) (B : Surroundings UnpackedIndex) where
  either_none : (c : Bool) (x y : Option (Block ℕ × List ℕ)) → TakesNone W B x → TakesNone W B y → TakesNone W B (if c then x else y)
  either_none true x y p q = p
  either_none false x y p q = q

  empty_none : (bytes : List ℕ) → TakesNone W B (Some (empty_block, bytes))
  empty_none bytes b more e =
      let same : empty_block ≡ b = ap (λ (y : Block ℕ × List ℕ). y.0) (the_same (empty_block, bytes) (b, more) e) in
      subst (λ (c : Block ℕ). taken_by W B c ≡ Some 0) same refl

  value_none : (o : Option (Val ℕ × List ℕ)) → TakesNone W B (option_map (λ (v : Val ℕ × List ℕ). (value_block v.0, v.1)) o)
  value_none None b more e = absurd cc
  value_none (Some v) b more e =
      let same : value_block v.0 ≡ b = ap (λ (y : Block ℕ × List ℕ). y.0) (the_same (value_block v.0, v.1) (b, more) e) in
      subst (λ (c : Block ℕ). taken_by W B c ≡ Some 0) same refl

  plain_none : (x : ℕ) (zs bytes : List ℕ) → 0x40 ≤ x → x < 0x80 → TakesNone W B (block_from (λ n. n) x zs bytes)
  plain_none x zs bytes l h b more e =
      let index : Option (Block ℕ × List ℕ) = option_map (λ (y : ℕ × List ℕ). (func_block y.0, y.1)) (s33_index_at bytes) in
      let value : Option (Block ℕ × List ℕ) = option_map (λ (v : Val ℕ × List ℕ). (value_block v.0, v.1)) (val_at (λ n. n) bytes) in
      let same : block_from (λ n. n) x zs bytes ≡ (if x == 0x40 then Some (empty_block, zs) else value) =
      ap (λ (c : Bool). if x == 0x40 then Some (empty_block, zs) else (if c then index else (if nat_lt x 0x80 then value else index))) (not_below x 0x40 l)
      ∙ ap (λ (c : Bool). if x == 0x40 then Some (empty_block, zs) else (if c then value else index)) (below x 0x80 h) in
      either_none (x == 0x40) _ _ (empty_none zs) (value_none (val_at (λ n. n) bytes)) b more (sym same ∙ e)

  first_none : (x : ℕ) (zs : List ℕ) → 0x40 ≤ x → x < 0x80 → TakesNone W B (block_at (λ n. n) (x ∷ zs))
  unfolding block_at
  first_none x zs l h = plain_none x zs (x ∷ zs) l h

module _ {A : Type 0} (C : Context UnpackedIndex) (v : OperatorValidator A) (at : ℕ) (T : Built) where
  -- an instruction that branches nowhere, and one that branches once
  foresees_none : (b : ℕ) (bytes : List ℕ) (n : Noted) → b < 0xfb → with_noted n T ≡ T → Does [] (nesting_of n) (plain_from (λ m. m) b bytes) → Foresees C v at T (b ∷ bytes) n
  foresees_none b bytes n h e d = record {
    foreseen = λ i more f.
        let both = d i more (plainly b bytes i more h f) in
        (ap (λ (bs : List Branch). planned_in C v at bs T) both.0 ∙ planned_none C v at T ∙ ap (λ (U : Built). Some U) (sym e), both.1);
  }

  foresees_one :
      (b : ℕ) (bytes : List ℕ) (n : Noted) (x : Branch) (e : Entry) → b < 0xfb → with_noted n T ≡ with_entry T e → planned_one C v at x T ≡ Some e → Does (x ∷ []) (nesting_of n) (plain_from (λ m. m) b bytes)
      → Foresees C v at T (b ∷ bytes) n
  foresees_one b bytes n x e h s p d = record {
    foreseen = λ i more f.
        let both = d i more (plainly b bytes i more h f) in
        (ap (λ (bs : List Branch). planned_in C v at bs T) both.0 ∙ planned_alone C v at x T e p ∙ ap (λ (U : Built). Some U) (sym s), both.1);
  }

  pub foresees_branch : (taken : ℕ) (bytes more : List ℕ) (l : ℕ) (e : Entry) → taken ≤ 1 → u32_at bytes ≡ Some (l, more) → planned_one C v at (to_label l taken) T ≡ Some e → Foresees C v at T ((0x0c + taken) ∷ bytes) (Branches e)
  foresees_branch zero bytes more l e few h p = foresees_one 0x0c bytes (Branches e) (to_label l 0) e (omega arith) refl p (at_0c bytes l more h)
  foresees_branch (suc zero) bytes more l e few h p = foresees_one 0x0d bytes (Branches e) (to_label l 1) e (omega arith) refl p (at_0d bytes l more h)
  foresees_branch (suc (suc n)) bytes more l e few h p = absurd (omega (arith, few))

  -- the entry of an `if` whose block takes nothing
  abbrev then_entry : Entry
  then_entry = record { at = at; target = length T.nest.places + 1; next = 0; kept = 0; dropped = 0 }

  abbrev entry_by : Option (ℕ × ℕ) → Option Entry
  entry_by o = o >>= λ (c : ℕ × ℕ). Some (record { at = at; target = length T.nest.places + 1; next = 0; kept = c.0; dropped = c.1 })

  planned_then : (b : Block ℕ) → taken_by (world C) (within v C) b ≡ Some 0 → planned_one C v at (past_then b) T ≡ Some then_entry
  planned_then b h = ap (λ (o : Option ℕ). entry_by (o >>= λ (n : ℕ). Some (n, 0))) h

  abbrev Opens_then : Entry → Instruction ℕ → Type 0
  Opens_then e i = (planned_in C v at (branches i) T ≡ Some (with_entry T e)) × (nesting i ≡ opens)

  then_by : (o : Option (Block ℕ × List ℕ)) → TakesNone (world C) (within v C) o → (i : Instruction ℕ) (more : List ℕ) → of_family control (option_map (λ (b : Block ℕ × List ℕ). (if_ b.0, b.1)) o) ≡ Some (i, more) → Opens_then then_entry i
  then_by None h i more e = absurd cc
  then_by (Some b) h i more e =
      let same : control (if_ b.0) ≡ i = ap (λ (y : Read). y.0) (the_same (control (if_ b.0), b.1) (i, more) e) in
      subst (λ (j : Instruction ℕ). Opens_then then_entry j) same (planned_alone C v at (past_then b.0) T then_entry (planned_then b.0 (h b.0 b.1 refl)), refl)

  then_from : (bytes : List ℕ) → TakesNone (world C) (within v C) (block_at (λ m. m) bytes) → (i : Instruction ℕ) (more : List ℕ) → plain_from (λ m. m) 0x04 bytes ≡ Some (i, more) → Opens_then then_entry i
  unfolding plain_from control_from
  then_from bytes h i more e = then_by (block_at (λ m. m) bytes) h i more e

  pub foresees_then : (bytes zs : List ℕ) (x : ℕ) (e : Entry) → bytes ≡ x ∷ zs → 0x40 ≤ x → x < 0x80 → e ≡ then_entry → Foresees C v at T (0x04 ∷ bytes) (OpensThen e)
  foresees_then bytes zs x e s l h d = record {
    foreseen = λ i more f.
        let none : TakesNone (world C) (within v C) (block_at (λ m. m) bytes) = subst (λ (ys : List ℕ). TakesNone (world C) (within v C) (block_at (λ m. m) ys)) (sym s) (first_none (world C) (within v C) x zs l h) in
        subst (λ (y : Entry). Opens_then y i) (sym d) (then_from bytes none i more (plainly 0x04 bytes i more (omega arith) f));
  }

  -- what the bytes begin with
  pub foresees_by : (bytes xs : List ℕ) (b c : ℕ) (n : Noted) → bytes ≡ b ∷ xs → b ≡ c → Foresees C v at T (c ∷ xs) n → Foresees C v at T bytes n
  foresees_by bytes xs b c n s e f = subst (λ (ys : List ℕ). Foresees C v at T ys n) (sym s) (subst (λ (d : ℕ). Foresees C v at T (d ∷ xs) n) (sym e) f)

  pub foresees_opens : (bytes xs : List ℕ) (b : ℕ) → bytes ≡ b ∷ xs → b ≡ 0x02 → Foresees C v at T bytes Opens
  foresees_opens bytes xs b s e = foresees_by bytes xs b 0x02 Opens s e (foresees_none 0x02 xs Opens (omega arith) refl (at_02 xs))

  pub foresees_loop : (bytes xs : List ℕ) (b : ℕ) → bytes ≡ b ∷ xs → b ≡ 0x03 → Foresees C v at T bytes OpensLoop
  foresees_loop bytes xs b s e = foresees_by bytes xs b 0x03 OpensLoop s e (foresees_none 0x03 xs OpensLoop (omega arith) refl (at_03 xs))

  pub foresees_end : (bytes xs : List ℕ) (b : ℕ) → bytes ≡ b ∷ xs → b ≡ 0x0b → Foresees C v at T bytes Closes
  foresees_end bytes xs b s e = foresees_by bytes xs b 0x0b Closes s e (foresees_none 0x0b xs Closes (omega arith) refl (at_0b xs))

  pub foresees_else : (bytes xs : List ℕ) (b : ℕ) (e : Entry) → bytes ≡ b ∷ xs → b ≡ 0x05 → planned_one C v at (to_label 0 0) T ≡ Some e → Foresees C v at T bytes (Turns e)
  foresees_else bytes xs b e s f p = foresees_by bytes xs b 0x05 (Turns e) s f (foresees_one 0x05 xs (Turns e) (to_label 0 0) e (omega arith) refl p (at_05 xs))

  quiet_so : (b : ℕ) (xs : List ℕ) → IsQuiet b → Foresees C v at T (b ∷ xs) Stays
  quiet_so b xs q = record {
    foreseen = λ i more f.
        let both = q.at xs i more f in
        (ap (λ (bs : List Branch). planned_in C v at bs T) both.0 ∙ planned_none C v at T, both.1);
  }

  pub foresees_quiet : (bytes xs : List ℕ) (b : ℕ) → bytes ≡ b ∷ xs → IsQuiet b → Foresees C v at T bytes Stays
  foresees_quiet bytes xs b s q = subst (λ (ys : List ℕ). Foresees C v at T ys Stays) (sym s) (quiet_so b xs q)
