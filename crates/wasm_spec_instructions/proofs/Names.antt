-- The rules of shapes, read for single instructions.
use Rattle.std.proofs.Common.{◌≡◌, refl, sym, ap, subst, ◌∙◌, ℕ, true, false, List, [], ◌∷◌, ◌++◌, Option, Some, None, option_map, append-nil, slice_get}
use Rattle.wasm_spec_steps.specs.WasmSpecRules.WasmSpec.Syntax.{Val, i32}
use Rattle.wasm_spec_steps.specs.WasmSpecRules.WasmSpec.MatchingTests.{World}
use Rattle.wasm_spec_steps.specs.WasmSpecRules.Attempts.{passes}
use Rattle.wasm_spec_steps.specs.WasmSpecRules.Signatures.{Signature}
use Rattle.wasm_operators.specs.Control as control
use Rattle.wasm_operators.specs.Instructions.{control}
use Rattle.wasm_spec_steps.specs.Matching.{matches_vals}
use Rattle.wasm_spec_steps.specs.Bodies.{Local, Surroundings}
use Rattle.wasm_spec_steps.specs.Actions.{label, returned, local, params, results, of_function, joined, has, reference_types, function_references, each_matches, reaches_function, local_is_set}
use Rattle.wasm_spec_steps.specs.Shapes.{Shape, plain, ending, dropping, choosing, testing_null, asserting_non_null, branching_on_null, branching_on_non_null, branching_by_table, setting, giving_back, nothing, one, rethrowing, legacy_checks}
use Rattle.wasm_spec_steps.specs.Meanings.{signature_at}
use Rattle.wasm_spec_steps.specs.Meanings as meaning
use Rattle.wasm_spec_instructions.specs.ValueTypes.{ValueType, val, vals, reference_at, reference_type}
use Rattle.wasm_spec_instructions.specs.Scopes.{Scope}
use Rattle.wasm_spec_instructions.specs.Rules.{Rule, plain_rule, ending_rule, dropping_rule, choosing_rule, testing_null_rule, asserting_non_null_rule, branching_on_null_rule, branching_on_non_null_rule, branching_by_table_rule, setting_rule, giving_back_rule, rethrowing_rule}
use Rattle.wasm_spec_instructions.specs.Names.{Goes, Branches, BranchesIf, BranchesByTable, Returns, Rethrows, Gets, Drops, Selects, Sets, Tees, TestsNull, AssertsNonNull, BranchesOnNull, BranchesOnNonNull, CallsInPlace, InstructionsHaveTheirRules}
use Rattle.wasm_spec_instructions.proofs.Attempts.{the_same, absent, bind-at, passes-gives}
use Rattle.wasm_spec_instructions.proofs.OperandFits.{vals-append}

module _ {R : Type 0} (W : World R) (B : Surroundings R) (C : Scope R) where
  stops : (ts us : List (ValueType R)) → Goes W B C (control control.unreachable) ts us
  stops ts us = subst (λ (z : List (ValueType R)). Rule W B C (ending [] nothing) z us) (append-nil ts) (ending_rule ts us tt refl)

  branches : (l : ℕ) (ts us : List (ValueType R)) → Rule W B C (ending [] (label l)) ts us → Branches W B C l ts
  branches l ts us (ending_rule {ts = sent} below after h e) = record { sent = sent; below = below; there = e; takes = refl }

  by_branch : (l : ℕ) (ts us : List (ValueType R)) → Branches W B C l ts → Rule W B C (ending [] (label l)) ts us
  by_branch l ts us b = subst (λ (z : List (ValueType R)). Rule W B C (ending [] (label l)) z us) (sym b.takes) (ending_rule b.below us tt b.there)

  returns : (ts us : List (ValueType R)) → Rule W B C (ending [] returned) ts us → Returns W B C ts
  returns ts us (ending_rule {ts = sent} below after h e) = record { sent = sent; below = below; there = e; takes = refl }

  by_return : (ts us : List (ValueType R)) → Returns W B C ts → Rule W B C (ending [] returned) ts us
  by_return ts us b = subst (λ (z : List (ValueType R)). Rule W B C (ending [] returned) z us) (sym b.takes) (ending_rule b.below us tt b.there)

  rethrows : (l : ℕ) (ts us : List (ValueType R)) → Rule W B C (rethrowing (legacy_checks []) l) ts us → Rethrows W B C l
  rethrows l ts us (rethrowing_rule below after h e) = record { legacy_on = h.0; on = h.1.0; there = e }

  by_rethrow : (l : ℕ) (ts us : List (ValueType R)) → Rethrows W B C l → Rule W B C (rethrowing (legacy_checks []) l) ts us
  by_rethrow l ts us b = rethrowing_rule ts us (b.legacy_on, (b.on, tt)) b.there

  tables : (ls : List ℕ) (l : ℕ) (ts us : List (ValueType R)) → Rule W B C (branching_by_table ls l) ts us → BranchesByTable W B C ls l ts
  tables ls l ts us (branching_by_table_rule below sent after m) = record { sent = sent; below = below; there = m; takes = refl }

  by_table : (ls : List ℕ) (l : ℕ) (ts us : List (ValueType R)) → BranchesByTable W B C ls l ts → Rule W B C (branching_by_table ls l) ts us
  by_table ls l ts us b = subst (λ (z : List (ValueType R)). Rule W B C (branching_by_table ls l) z us) (sym b.takes) (branching_by_table_rule b.below b.sent us b.there)

  sends : (l : ℕ) (ts us : List (ValueType R)) → Rule W B C (plain [] (joined (label l) (one i32)) (label l)) ts us → BranchesIf W B C l ts us
  sends l ts us (plain_rule {ts = taken} {us = sent} h e f) = record {
    sent = sent;
    there = f;
    takes = ap vals (the_same taken (sent ++ i32 ∷ []) (sym e ∙ bind-at (λ (vs : List (Val R)). Some (vs ++ i32 ∷ [])) f refl)) ∙ vals-append sent (i32 ∷ []);
    gives = refl;
  }

  by_sending : (l : ℕ) (ts us : List (ValueType R)) → BranchesIf W B C l ts us → Rule W B C (plain [] (joined (label l) (one i32)) (label l)) ts us
  by_sending l ts us b =
      subst (λ (z : List (ValueType R)). Rule W B C (plain [] (joined (label l) (one i32)) (label l)) z us) (vals-append b.sent (i32 ∷ []) ∙ sym b.takes)
      (subst (λ (z : List (ValueType R)). Rule W B C (plain [] (joined (label l) (one i32)) (label l)) (vals (b.sent ++ i32 ∷ [])) z) (sym b.gives)
      (plain_rule tt (bind-at (λ (vs : List (Val R)). Some (vs ++ i32 ∷ [])) b.there refl) b.there))

  found : (x : ℕ) (o : Option (Local R)) (us : List (Val R)) → slice_get B.locals x ≡ o → meaning.one (option_map (λ (y : Local R). y.content) o) ≡ Some us → (it : Local R) × (slice_get B.locals x ≡ Some it) × (us ≡ it.content ∷ [])
  found x None us e f = absurd (absent us f)
  found x (Some y) us e f = (y, e, sym (the_same (y.content ∷ []) us f))

  gets : (x : ℕ) (ts us : List (ValueType R)) → Rule W B C (plain (local_is_set x ∷ []) nothing (local x)) ts us → Gets W B C x ts us
  gets x ts us (plain_rule {ts = taken} {us = given} h e f) =
      let k = found x (slice_get B.locals x) given refl f in
      record { it = k.0; there = k.1; set = h.0; takes = ap vals (sym (the_same [] taken e)); gives = ap vals k.2 }

  by_getting : (x : ℕ) (ts us : List (ValueType R)) → Gets W B C x ts us → Rule W B C (plain (local_is_set x ∷ []) nothing (local x)) ts us
  by_getting x ts us b =
      subst (λ (z : List (ValueType R)). Rule W B C (plain (local_is_set x ∷ []) nothing (local x)) z us) (sym b.takes)
      (subst (λ (z : List (ValueType R)). Rule W B C (plain (local_is_set x ∷ []) nothing (local x)) [] z) (sym b.gives)
      (plain_rule (b.set, tt) refl (ap (λ (o : Option (Local R)). meaning.one (option_map (λ y. y.content) o)) b.there)))

  -- a rule under other names of its types
  pub as_written : (s : Shape) (ts us vs ws : List (ValueType R)) → ts ≡ vs → us ≡ ws → Rule W B C s vs ws → Rule W B C s ts us
  as_written s ts us vs ws e f r = subst (λ (z : List (ValueType R)). Rule W B C s z us) (sym e) (subst (λ (z : List (ValueType R)). Rule W B C s vs z) (sym f) r)

  drops : (ts us : List (ValueType R)) → Rule W B C dropping ts us → Drops W B C ts us
  drops ts us (dropping_rule t) = record { it = t; takes = refl; gives = refl }

  by_dropping : (ts us : List (ValueType R)) → Drops W B C ts us → Rule W B C dropping ts us
  by_dropping ts us b = as_written dropping ts us (b.it ∷ []) [] b.takes b.gives (dropping_rule b.it)

  selects : (ts us : List (ValueType R)) → Rule W B C choosing ts us → Selects W B C ts us
  selects ts us (choosing_rule t v n m) = record { it = t; number = v; is_number = n; matches = m; takes = refl; gives = refl }

  by_selecting : (ts us : List (ValueType R)) → Selects W B C ts us → Rule W B C choosing ts us
  by_selecting ts us b = as_written choosing ts us (b.it ∷ b.it ∷ val i32 ∷ []) (b.it ∷ []) b.takes b.gives (choosing_rule b.it b.number b.is_number b.matches)

  sets : (x : ℕ) (ts us : List (ValueType R)) → Rule W B C (setting x) ts us → Sets W B C x ts us
  sets x ts us (setting_rule l e) = record { it = l; there = e; takes = refl; gives = refl }

  by_setting : (x : ℕ) (ts us : List (ValueType R)) → Sets W B C x ts us → Rule W B C (setting x) ts us
  by_setting x ts us b = as_written (setting x) ts us (val b.it.content ∷ []) [] b.takes b.gives (setting_rule b.it b.there)

  tees : (x : ℕ) (ts us : List (ValueType R)) → Rule W B C (giving_back x) ts us → Tees W B C x ts us
  tees x ts us (giving_back_rule l e) = record { it = l; there = e; takes = refl; gives = refl }

  by_giving_back : (x : ℕ) (ts us : List (ValueType R)) → Tees W B C x ts us → Rule W B C (giving_back x) ts us
  by_giving_back x ts us b = as_written (giving_back x) ts us (val b.it.content ∷ []) (val b.it.content ∷ []) b.takes b.gives (giving_back_rule b.it b.there)

  tests : (ts us : List (ValueType R)) → Rule W B C (testing_null (has reference_types ∷ [])) ts us → TestsNull W B C ts us
  tests ts us (testing_null_rule h c) = record { on = c.0; heap = h; takes = refl; gives = refl }

  by_testing : (ts us : List (ValueType R)) → TestsNull W B C ts us → Rule W B C (testing_null (has reference_types ∷ [])) ts us
  by_testing ts us b = as_written (testing_null (has reference_types ∷ [])) ts us (reference_type true b.heap ∷ []) (val i32 ∷ []) b.takes b.gives (testing_null_rule b.heap (b.on, tt))

  asserts : (ts us : List (ValueType R)) → Rule W B C (asserting_non_null (has function_references ∷ [])) ts us → AssertsNonNull W B C ts us
  asserts ts us (asserting_non_null_rule h c) = record { on = c.0; heap = h; takes = refl; gives = refl }

  by_asserting : (ts us : List (ValueType R)) → AssertsNonNull W B C ts us → Rule W B C (asserting_non_null (has function_references ∷ [])) ts us
  by_asserting ts us b =
      as_written (asserting_non_null (has function_references ∷ [])) ts us (reference_type true b.heap ∷ []) (reference_type false b.heap ∷ []) b.takes b.gives (asserting_non_null_rule b.heap (b.on, tt))

  branches_on_null : (l : ℕ) (ts us : List (ValueType R)) → Rule W B C (branching_on_null (has function_references ∷ []) l) ts us → BranchesOnNull W B C l ts us
  branches_on_null l ts us (branching_on_null_rule {ls = ls} h c e) = record { on = c.0; sent = ls; heap = h; there = e; takes = refl; gives = refl }

  by_null : (l : ℕ) (ts us : List (ValueType R)) → BranchesOnNull W B C l ts us → Rule W B C (branching_on_null (has function_references ∷ []) l) ts us
  by_null l ts us b =
      as_written (branching_on_null (has function_references ∷ []) l) ts us (vals b.sent ++ reference_type true b.heap ∷ []) (vals b.sent ++ reference_type false b.heap ∷ []) b.takes b.gives
      (branching_on_null_rule b.heap (b.on, tt) b.there)

  branches_on_non_null : (l : ℕ) (ts us : List (ValueType R)) → Rule W B C (branching_on_non_null (has function_references ∷ []) l) ts us → BranchesOnNonNull W B C l ts us
  branches_on_non_null l ts us (branching_on_non_null_rule ls r c e) = record { on = c.0; sent = ls; it = r; there = e; takes = refl; gives = refl }

  by_non_null : (l : ℕ) (ts us : List (ValueType R)) → BranchesOnNonNull W B C l ts us → Rule W B C (branching_on_non_null (has function_references ∷ []) l) ts us
  by_non_null l ts us b =
      as_written (branching_on_non_null (has function_references ∷ []) l) ts us (vals b.sent ++ val (reference_at true b.it.heap) ∷ []) (vals b.sent) b.takes b.gives
      (branching_on_non_null_rule b.sent b.it (b.on, tt) b.there)

  -- a tail call
  abbrev tail : ℕ → Shape
  tail x = ending (reaches_function x ∷ each_matches (results (of_function x)) returned ∷ []) (params (of_function x))

  callee_of :
      (x : ℕ) (o : Option (Signature R)) (taken : List (Val R)) → signature_at W B (of_function x) ≡ o → option_map (λ (g : Signature R). g.takes) o ≡ Some taken
      → (g : Signature R) × (signature_at W B (of_function x) ≡ Some g) × (taken ≡ g.takes)
  callee_of x None taken e f = absurd (absent taken f)
  callee_of x (Some g) taken e f = (g, e, sym (the_same g.takes taken f))

  calls : (x : ℕ) (ts us : List (ValueType R)) → Rule W B C (tail x) ts us → CallsInPlace W B C x ts
  calls x ts us (ending_rule {ts = taken} below after h e) =
      let k = callee_of x (signature_at W B (of_function x)) taken refl e in
      let m : passes (matches_vals W k.0.gives) C.returns ≡ true = ap (λ (o : Option (Signature R)). passes (λ (vs : List (Val R)). passes (matches_vals W vs) C.returns) (option_map (λ (g : Signature R). g.gives) o)) (sym k.1) ∙ h.1.0 in
      let r = passes-gives (matches_vals W k.0.gives) C.returns m in
      record { callee = k.0; results = r.0; below = below; reached = h.0; there = k.1; returned = r.1; matches = r.2; takes = ap (λ (z : List (Val R)). below ++ vals z) k.2 }

  by_calling : (x : ℕ) (ts us : List (ValueType R)) → CallsInPlace W B C x ts → Rule W B C (tail x) ts us
  by_calling x ts us b =
      as_written (tail x) ts us (b.below ++ vals b.callee.takes) us b.takes refl
      (ending_rule b.below us (
        b.reached,
        (
          ap (λ (o : Option (Signature R)). passes (λ (vs : List (Val R)). passes (matches_vals W vs) C.returns) (option_map (λ (g : Signature R). g.gives) o)) b.there
              ∙ ap (λ (o : Option (List (Val R))). passes (matches_vals W b.callee.gives) o) b.returned
              ∙ b.matches,
          tt,
        ),
      )
      (ap (λ (o : Option (Signature R)). option_map (λ (g : Signature R). g.takes) o) b.there))

pub instructions_have_their_rules : (R : Type 0) → InstructionsHaveTheirRules R
instructions_have_their_rules R W B C = record {
  unreachable = stops W B C;
  br = λ l ts us. (branches W B C l ts us, by_branch W B C l ts us);
  br_if = λ l ts us. (sends W B C l ts us, by_sending W B C l ts us);
  br_table = λ ls l ts us. (tables W B C ls l ts us, by_table W B C ls l ts us);
  return_ = λ ts us. (returns W B C ts us, by_return W B C ts us);
  rethrow = λ l ts us. (rethrows W B C l ts us, by_rethrow W B C l ts us);
  return_call = λ x ts us. (calls W B C x ts us, by_calling W B C x ts us);
  br_on_null = λ l ts us. (branches_on_null W B C l ts us, by_null W B C l ts us);
  br_on_non_null = λ l ts us. (branches_on_non_null W B C l ts us, by_non_null W B C l ts us);
  ref_is_null = λ ts us. (tests W B C ts us, by_testing W B C ts us);
  ref_as_non_null = λ ts us. (asserts W B C ts us, by_asserting W B C ts us);
  drop_ = λ ts us. (drops W B C ts us, by_dropping W B C ts us);
  select = λ ts us. (selects W B C ts us, by_selecting W B C ts us);
  local_set = λ x ts us. (sets W B C x ts us, by_setting W B C x ts us);
  local_tee = λ x ts us. (tees W B C x ts us, by_giving_back W B C x ts us);
  local_get = λ x ts us. (gets W B C x ts us, by_getting W B C x ts us);
}
