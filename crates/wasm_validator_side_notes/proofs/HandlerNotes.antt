-- Handlers that are noted, one after another.
use Rattle.std.proofs.Common.{◌≡◌, sym, ap, ◌∙◌, ℕ, ◌-◌, List, [], ◌∷◌, ◌++◌, length, Option, Some, None, option_map, Result, Ok, Err}
use Rattle.std.specs.Prelude.{OnOk}
use Rattle.wasm_spec_rules.specs.Contexts.{Context}
use Rattle.wasm_spec_rules.specs.Attempts.{◌>>=◌}
use Rattle.wasm_readers_types.specs.WasmReadersValues.declared.indices.UnpackedIndex.{UnpackedIndex}
use Rattle.wasm_spec.specs.Syntax.{Val}
use Rattle.wasm_operators.specs.SeenLists.{GivesFront}
use Rattle.wasm_operators.specs.WasmOperatorsProposals.declared.continuations.Handle.{Handle}
use Rattle.wasm_operators.specs.WasmOperatorsProposals.declared.continuations.Handle.TheVariants.{OnLabel, OnSwitch}
use Rattle.wasm_spec_steps.specs.Actions.{OperandTypes}
use Rattle.wasm_spec_steps.specs.Meanings.{types_at}
use Rattle.wasm_validator_resources.specs.Answers.{world}
use Rattle.wasm_validator_func.specs.WasmTypingValidator.BodyTyping.{typed_state}
use Rattle.wasm_validator_func.specs.WasmTypingValidator.TypedInstructions.{within}
use Rattle.wasm_validator_func.specs.WasmTypingValidator.declared.validator.OperatorValidator.{OperatorValidator}
use Rattle.wasm_spec_side_tables.specs.declared.entry.Entry.{Entry}
use Rattle.wasm_spec_side_tables.specs.SideTables.{handling_to, handle_branches, label_counts, counts}
use Rattle.wasm_spec_side_tables.specs.OnePassTables.{Built, number_of}
use Rattle.wasm_spec_side_tables.proofs.Lists.{the_same, absent}
use Rattle.wasm_validator_side_notes.specs.TableViews.{planned_one, planned_in}
use Rattle.wasm_validator_side_notes.specs.ResumeOperands.{AreSoMany}
use Rattle.wasm_validator_side_notes.proofs.BranchNotes.{front_given, none_left, fewer, planned_none, planned_alone, planned_more}

-- what holds where an answer is Ok, with what follows from it
pub on_ok : {X E P Q : Type 0} (r : Result X E) → (P → Q) → OnOk r P → OnOk r Q
on_ok (Ok x) f p = f p
on_ok (Err e) f p = p

-- what is dropped, where so many types are there
abbrev counted : ℕ → ℕ → ℕ → List (Val UnpackedIndex) → Option (ℕ × ℕ)
counted k m h ts = Some (k, m - length ts - h)

dropped : (o : Option (List (Val UnpackedIndex))) (k m h n : ℕ) → option_map length o ≡ Some n → (o >>= counted k m h) ≡ Some (k, m - n - h)
dropped None k m h n e = absent n e
dropped (Some ts) k m h n e = ap (λ (i : ℕ). Some (k, m - i - h)) (the_same (length ts) n e)

module _ {A : Type 0} (C : Context UnpackedIndex) (v : OperatorValidator A) (at : ℕ) (t : OperandTypes) where
  -- the entry of one handler
  handled : (l n : ℕ) (x : ℕ × ℕ) → label_counts (world C) (within v C) (typed_state v) l ≡ Some x → AreSoMany C v t n
      → counts (world C) (within v C) (typed_state v) (handling_to t l) ≡ Some (x.0, length (typed_state v).operands - n - x.1)
  handled l n x e h =
      ap (λ (o : Option (ℕ × ℕ)). o >>= λ y. (types_at (world C) (within v C) (typed_state v) t >>= counted y.0 (length (typed_state v).operands) y.1)) e
      ∙ dropped (types_at (world C) (within v C) (typed_state v) t) x.0 (length (typed_state v).operands) x.1 n h

  pub handler_planned : (l n number : ℕ) (x : ℕ × ℕ) (T : Built) → number_of T.nest (handling_to t l) ≡ Some number → label_counts (world C) (within v C) (typed_state v) l ≡ Some x → AreSoMany C v t n
      → planned_one C v at (handling_to t l) T ≡ Some (record { at = at; target = number; next = 0; kept = x.0; dropped = length (typed_state v).operands - n - x.1 })
  handler_planned l n number x T e f h =
      ap (λ (o : Option ℕ). o >>= λ k. (counts (world C) (within v C) (typed_state v) (handling_to t l) >>= λ c. Some (record { at = at; target = k; next = 0; kept = c.0; dropped = c.1 }))) e
      ∙ ap (λ (o : Option (ℕ × ℕ)). o >>= λ c. Some (record { at = at; target = number; next = 0; kept = c.0; dropped = c.1 })) (handled l n x f h)

  -- a handler that branches to a label, alone
  pub handler_alone : (x : Handle) (g l : ℕ) (T U : Built) (e : Entry) → x ≡ OnLabel g l → planned_one C v at (handling_to t l) T ≡ Some e → U ≡ record { entries = T.entries ++ e ∷ []; nest = T.nest } → planned_in C v at (handle_branches t (x ∷ [])) T ≡ Some U
  handler_alone x g l T U e is p same = ap (λ (y : Handle). planned_in C v at (handle_branches t (y ∷ [])) T) is ∙ planned_alone C v at (handling_to t l) T e p ∙ ap (λ (V : Built). Some V) (sym same)

  -- the next of some handlers, and the others
  one_more : (x : Handle) (after : List Handle) (T U : Built) → planned_in C v at (handle_branches t (x ∷ [])) T ≡ Some U → planned_in C v at (handle_branches t (x ∷ after)) T ≡ planned_in C v at (handle_branches t after) U
  one_more (OnLabel g l) after T U p = planned_more C v at (handling_to t l) (handle_branches t after) T U p
  one_more (OnSwitch g) after T U p = ap (λ (V : Built). planned_in C v at (handle_branches t after) V) (the_same T U (sym (planned_none C v at T) ∙ p))

  pub goes_on : (all : Option Built) (xs after : List Handle) (x : Handle) (T U : Built)
      → all ≡ planned_in C v at (handle_branches t xs) T → GivesFront xs (Some x) after → planned_in C v at (handle_branches t (x ∷ [])) T ≡ Some U → all ≡ planned_in C v at (handle_branches t after) U
  goes_on all xs after x T U e h p = e ∙ ap (λ ys. planned_in C v at (handle_branches t ys) T) (front_given xs after x h) ∙ one_more x after T U p

  pub is_done : (all : Option Built) (xs after : List Handle) (T : Built) → all ≡ planned_in C v at (handle_branches t xs) T → GivesFront xs None after → all ≡ Some T
  is_done all xs after T e h = e ∙ ap (λ ys. planned_in C v at (handle_branches t ys) T) (none_left xs after h) ∙ planned_none C v at T

pub ruleset handlers = (planned_none)

pub ruleset loops = (fewer, is_done)
