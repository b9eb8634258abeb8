-- Branches by a table.
use Rattle.std.proofs.Common.{◌≡◌, ◌≢◌, ℕ, Bool, true, false, ◌&&◌, List, [], ◌∷◌, length, refl, sym, ◌∙◌, ap}
use Rattle.std.specs.Option.{option_map}
use Rattle.std.specs.Prelude.{Option, Some, None, slice_get}
use Rattle.std.proofs.lemmas.List.{length-map}
use Rattle.wasm_spec.specs.Syntax.{Val, i32}
use Rattle.wasm_spec_rules.specs.Contexts.{Context}
use Rattle.wasm_readers_types.specs.WasmReadersValues.declared.indices.UnpackedIndex.{UnpackedIndex}
use Rattle.wasm_operators.specs.Control.{empty_block}
use Rattle.wasm_operators.specs.SeenLists.{GivesFront}
use Rattle.wasm_typing_control.specs.WasmTypingChecks.WasmSpecSteps.Actions.{label, Action, take, branch_to_one_of}
use Rattle.wasm_spec_rules.specs.Attempts.{◌>>=◌, guard}
use Rattle.wasm_typing_control.specs.WasmTypingChecks.WasmSpecSteps.Machine.{Kind, block_kind, loop_kind, if_kind, else_kind, try_table_kind, legacy_try_kind, legacy_catch_kind, legacy_catch_all_kind, State, become_unreachable, pop_val, pop_vals}
use Rattle.wasm_typing_control.specs.WasmTypingChecks.WasmSpecSteps.Meanings.{label_at, label_by, labels_fit, run}
use Rattle.wasm_typing_control.specs.WasmTypingChecks.WasmSpecSteps.Shapes.{one}
use Rattle.wasm_typing_control.specs.WasmTypingChecks.WasmValidatorResources.Answers.{world}
use Rattle.wasm_typing_control.specs.WasmTypingChecks.WasmTypingStacks.BodyStacks.{state_of, around, below}
use Rattle.wasm_typing_control.specs.WasmTypingChecks.WasmTypingStacks.SeenBlocks.{block_in, kind_of, frame_of}
use Rattle.wasm_typing_control.specs.WasmTypingChecks.WasmTypingStacks.declared.stacks.Frame.{Frame}
use Rattle.wasm_typing_control.specs.WasmTypingChecks.WasmTypingStacks.declared.stacks.Stacks.{Stacks}
use Rattle.wasm_typing_control.specs.WasmTypingChecks.Steps.{acted, typed}
use Rattle.wasm_typing_blocks.specs.BranchTargets.{fits, all_fit, LastPasses}
use Rattle.wasm_typing_blocks.proofs.ListItems.{front_given, none_left, fewer}
use Rattle.wasm_typing_control.specs.WasmTypingChecks.declared.types.ValTypes.TheVariants as listed
use Rattle.wasm_typing_control.proofs.WasmTypingChecks.OperandLookups.{same, differ}
use Rattle.wasm_typing_control.proofs.LabelTypes.{of_empty, label_found}

pub ruleset counts = (length-map)

-- a branch to a block without types takes nothing, whatever its kind
nothing_taken : (k : Kind) → label_by {R = UnpackedIndex} k (record { takes = []; gives = [] }) ≡ []
nothing_taken block_kind = refl
nothing_taken loop_kind = refl
nothing_taken if_kind = refl
nothing_taken else_kind = refl
nothing_taken try_table_kind = refl
nothing_taken legacy_try_kind = refl
nothing_taken legacy_catch_kind = refl
nothing_taken legacy_catch_all_kind = refl

pub takes_none : {A : Type 0} (v : Stacks A) (C : Context UnpackedIndex) (n : ℕ) (x : Frame) → option_map frame_of (Some x) ≡ slice_get (state_of v).frames n → empty_block ≡ block_in x.block → typed v C (label n) ≡ Some []
takes_none v C n x e f = label_found v C n x (Some listed.None) e (sym (ap (option_map (label_by (kind_of x.kind))) (of_empty C (block_in x.block) f) ∙ ap Some (nothing_taken (kind_of x.kind))))

pub ruleset empties = (takes_none)

module _ {A : Type 0} (v : Stacks A) (C : Context UnpackedIndex) (first wanted : ℕ) where
  -- one target
  pub fits_nowhere : (n : ℕ) → typed v C (label n) ≡ None → false ≡ fits v C first wanted n
  unfolding fits typed
  fits_nowhere n e = rw e refl

  pub fits_otherwise : (n : ℕ) (vs : List (Val UnpackedIndex)) → typed v C (label n) ≡ Some vs → length vs ≢ wanted → false ≡ fits v C first wanted n
  unfolding fits typed
  fits_otherwise n vs e h = rw (e, differ (length vs) wanted h) refl

  pub fits_missing : (n : ℕ) (vs : List (Val UnpackedIndex)) → typed v C (label n) ≡ Some vs → length vs ≡ wanted → pop_vals (world C) vs (below first (state_of v)) ≡ None → false ≡ fits v C first wanted n
  unfolding fits typed
  fits_missing n vs e h f = rw (e, same (length vs) wanted h, f) refl

  pub fits_there : (n : ℕ) (vs : List (Val UnpackedIndex)) (t : State UnpackedIndex) → typed v C (label n) ≡ Some vs → length vs ≡ wanted → pop_vals (world C) vs (below first (state_of v)) ≡ Some t → true ≡ fits v C first wanted n
  unfolding fits typed
  fits_there n vs t e h f = rw (e, same (length vs) wanted h, f) refl

  -- one that takes nothing, where nothing is wanted
  pub fits_empty : (n : ℕ) (b : Bool) → (b ≡ true → typed v C (label n) ≡ Some []) → b ≡ true → wanted ≡ 0 → true ≡ fits v C first wanted n
  fits_empty n b e h w = fits_there n [] (below first (state_of v)) (e h) (sym w) refl

  -- the label that was checked last
  pub known_fits : (n : ℕ) (b : Bool) (last : Option ℕ) → LastPasses (fits v C first wanted) last → (b ≡ true → last ≡ Some n) → b ≡ true → true ≡ fits v C first wanted n
  known_fits n b last k h e = sym (k n (h e))

  pub starts_fitting : LastPasses (fits v C first wanted) None
  starts_fitting n e = cc

  pub now_fitting : (n : ℕ) → true ≡ fits v C first wanted n → LastPasses (fits v C first wanted) (Some n)
  now_fitting n e m f = let q : n ≡ m = cc in rw (← q) (sym e)

  -- all of them
  apart : (n : ℕ) (ns : List ℕ) → all_fit v C first wanted (n ∷ ns) ≡ (fits v C first wanted n && all_fit v C first wanted ns)
  unfolding fits all_fit
  apart n ns = refl

  pub passed_on : (all xs after : List ℕ) (n : ℕ) → all_fit v C first wanted all ≡ all_fit v C first wanted xs → GivesFront xs (Some n) after → true ≡ fits v C first wanted n → all_fit v C first wanted all ≡ all_fit v C first wanted after
  passed_on all xs after n e h t = e ∙ ap (all_fit v C first wanted) (front_given xs after n h) ∙ apart n after ∙ ap (λ b. b && all_fit v C first wanted after) (sym t)

  pub stopped_at : (all xs after : List ℕ) (n : ℕ) → all_fit v C first wanted all ≡ all_fit v C first wanted xs → GivesFront xs (Some n) after → false ≡ fits v C first wanted n → false ≡ all_fit v C first wanted all
  stopped_at all xs after n e h t = sym (e ∙ ap (all_fit v C first wanted) (front_given xs after n h) ∙ apart n after ∙ ap (λ b. b && all_fit v C first wanted after) (sym t))

  pub all_passed : (all xs after : List ℕ) → all_fit v C first wanted all ≡ all_fit v C first wanted xs → GivesFront xs None after → true ≡ all_fit v C first wanted all
  unfolding all_fit
  all_passed all xs after e h = sym (e ∙ ap (labels_fit (world C) (around v C) (below first (state_of v)) wanted) (none_left xs after h))

pub ruleset targets = (fits_nowhere, fits_otherwise, fits_missing, fits_there, fits_empty, known_fits, starts_fitting, now_fitting)

pub ruleset lists = (fewer, passed_on, stopped_at, all_passed, starts_fitting, now_fitting)

module _ {A : Type 0} (v : Stacks A) (C : Context UnpackedIndex) where
  in_label : (n k : ℕ) → label_at (world C) (around v C) (below k (state_of v)) n ≡ typed v C (label n)
  unfolding typed
  in_label n k = refl

  abbrev tabled : List ℕ → ℕ → State UnpackedIndex → Option (State UnpackedIndex)
  tabled ns n s = run (world C) (around v C) (branch_to_one_of ns n ∷ []) s

  pub table_nowhere : (rest : List Action) → v.is_open ≡ false → acted v C (take (one i32) ∷ rest) ≡ None
  unfolding acted
  table_nowhere rest e = rw e refl

  indexed : (x : Val UnpackedIndex) (ns : List ℕ) (n k : ℕ) → x ≡ i32 → pop_val (world C) x (state_of v) ≡ Some (below k (state_of v)) → acted v C (take (one i32) ∷ branch_to_one_of ns n ∷ []) ≡ tabled ns n (below k (state_of v))
  unfolding acted
  indexed x ns n k e f = let p : pop_val (world C) i32 (state_of v) ≡ Some (below k (state_of v)) = ap (λ y. pop_val (world C) y (state_of v)) (sym e) ∙ f in ap (λ o. o >>= tabled ns n) p

  pub table_unindexed : (x : Val UnpackedIndex) (rest : List Action) → x ≡ i32 → pop_val (world C) x (state_of v) ≡ None → acted v C (take (one i32) ∷ rest) ≡ None
  unfolding acted
  table_unindexed x rest e f = let p : pop_val (world C) i32 (state_of v) ≡ None = ap (λ y. pop_val (world C) y (state_of v)) (sym e) ∙ f in rw p refl

  pub table_unlabelled : (x : Val UnpackedIndex) (ns : List ℕ) (n k : ℕ) → x ≡ i32 → pop_val (world C) x (state_of v) ≡ Some (below k (state_of v)) → typed v C (label n) ≡ None → acted v C (take (one i32) ∷ branch_to_one_of ns n ∷ []) ≡ None
  table_unlabelled x ns n k e f h = indexed x ns n k e f ∙ rw (in_label n k ∙ h) refl

  pub table_missing : (x : Val UnpackedIndex) (ns : List ℕ) (n k : ℕ) (vs : List (Val UnpackedIndex)) → x ≡ i32 → pop_val (world C) x (state_of v) ≡ Some (below k (state_of v)) → typed v C (label n) ≡ Some vs → pop_vals (world C) vs (below k (state_of v)) ≡ None
      → acted v C (take (one i32) ∷ branch_to_one_of ns n ∷ []) ≡ None
  table_missing x ns n k vs e f h p = indexed x ns n k e f ∙ rw (in_label n k ∙ h, p) refl

  unfit_by : (o : Option (State UnpackedIndex)) (b : Bool) → b ≡ false → ((o >>= λ t. guard b t >>= become_unreachable) >>= Some) ≡ None
  unfit_by None b e = refl
  unfit_by (Some t) b e = rw e refl

  pub table_unfit : (x : Val UnpackedIndex) (ns : List ℕ) (n k m : ℕ) (vs : List (Val UnpackedIndex)) → x ≡ i32 → pop_val (world C) x (state_of v) ≡ Some (below k (state_of v)) → typed v C (label n) ≡ Some vs → m ≡ length vs → false ≡ all_fit v C k m ns
      → acted v C (take (one i32) ∷ branch_to_one_of ns n ∷ []) ≡ None
  unfolding all_fit
  table_unfit x ns n k m vs e f h d p = indexed x ns n k e f ∙ rw (in_label n k ∙ h) (unfit_by (pop_vals (world C) vs (below k (state_of v))) (labels_fit (world C) (around v C) (below k (state_of v)) (length vs) ns) (sym (p ∙ ap (λ j. labels_fit (world C) (around v C) (below k (state_of v)) j ns) d)))

  pub table_is : (x : Val UnpackedIndex) (ns : List ℕ) (n k m : ℕ) (vs : List (Val UnpackedIndex)) (t u new : State UnpackedIndex) → x ≡ i32 → pop_val (world C) x (state_of v) ≡ Some (below k (state_of v)) → typed v C (label n) ≡ Some vs → m ≡ length vs → true ≡ all_fit v C k m ns
      → pop_vals (world C) vs (below k (state_of v)) ≡ Some t → u ≡ t → become_unreachable u ≡ Some new → acted v C (take (one i32) ∷ branch_to_one_of ns n ∷ []) ≡ Some new
  unfolding all_fit
  table_is x ns n k m vs t u new e f h d p q w z =
      let a : labels_fit (world C) (around v C) (below k (state_of v)) (length vs) ns ≡ true = sym (p ∙ ap (λ j. labels_fit (world C) (around v C) (below k (state_of v)) j ns) d) in
      let y : become_unreachable t ≡ Some new = ap become_unreachable (sym w) ∙ z in
      indexed x ns n k e f ∙ rw (in_label n k ∙ h, q, a, y) refl

pub ruleset tables = (table_nowhere, table_unindexed, table_unlabelled, table_missing, table_unfit, table_is)
