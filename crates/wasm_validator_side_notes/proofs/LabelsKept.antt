-- A branch leaves what its labels are: of frames it changes no more than that the innermost one isn't reached.
use Rattle.std.proofs.Common.{◌≡◌, refl, sym, ap, ◌∙◌, ℕ, zero, suc, true, List, [], ◌∷◌, length, Option, Some, option_map}
use Rattle.std.specs.Prelude.{slice_get}
use Rattle.wasm_spec.specs.Syntax.{i32}
use Rattle.wasm_spec.specs.MatchingTests.{World}
use Rattle.wasm_spec_rules.specs.Contexts.{Context}
use Rattle.wasm_spec_rules.specs.Attempts.{◌>>=◌, guard}
use Rattle.wasm_readers_types.specs.WasmReadersValues.declared.indices.UnpackedIndex.{UnpackedIndex}
use Rattle.wasm_operators.specs.Control.{br, br_if, br_table}
use Rattle.wasm_operators.specs.Instructions.{control}
use Rattle.wasm_spec_steps.specs.Bodies.{Surroundings}
use Rattle.wasm_spec_steps.specs.Actions.{label, joined, take, give, stop, branch_to_one_of}
use Rattle.wasm_spec_steps.specs.Machine.{State, Frame, unreachable_in, become_unreachable, push_vals, pop_vals}
use Rattle.wasm_spec_steps.specs.Meanings.{label_by, types_at, label_at, labels_fit, act, run}
use Rattle.wasm_spec_steps.specs.Shapes.{shape_of, one}
use Rattle.wasm_spec_steps.specs.Steps.{is_open, step_in, actions_of}
use Rattle.wasm_spec_steps.proofs.OperandSequences.{pop_vals-frames}
use Rattle.wasm_validator_func.specs.WasmTypingValidator.WasmTypingControl.Blocks.{signature_in}
use Rattle.wasm_validator_func.specs.WasmTypingValidator.QueryResults.{label_counts_in}
use Rattle.wasm_spec_side_tables.proofs.Lists.{the_same, bind-gives, guard-gives}

module _ (C : Context UnpackedIndex) where
  abbrev label_from : List (Frame UnpackedIndex) → ℕ → Option (ℕ × ℕ)
  label_from fs l = slice_get fs l >>= λ x. option_map (λ g. (length (label_by x.kind g), x.height)) (signature_in C x.block)

  marked : (x : Frame UnpackedIndex) (xs : List (Frame UnpackedIndex)) (l : ℕ) → label_from (record x { unreachable = true } ∷ xs) l ≡ label_from (x ∷ xs) l
  marked x xs zero = refl
  marked x xs (suc l) = refl

  stopped : (fs : List (Frame UnpackedIndex)) (s t : State UnpackedIndex) (l : ℕ) → unreachable_in fs s ≡ Some t → label_from t.frames l ≡ label_from fs l
  stopped [] s t l e = absurd cc
  stopped (x ∷ xs) s t l e = ap (λ (q : State UnpackedIndex). label_from q.frames l) (sym (the_same _ t e)) ∙ marked x xs l

  module _ (W : World UnpackedIndex) (B : Surroundings UnpackedIndex) where
    pub branch-labels : (l k : ℕ) (s t : State UnpackedIndex) → step_in W B (control (br l)) s ≡ Some t → label_counts_in C t k ≡ label_counts_in C s k
    branch-labels l k s t e =
        let f = bind-gives (guard (is_open s) s) (run W B (actions_of (shape_of (control (br l))))) t e in
        let g = guard-gives (is_open s) s f.0 f.1 in
        let a = bind-gives (act W B (take (label l)) f.0) (run W B (stop ∷ [])) t f.2 in
        let b = bind-gives (types_at W B f.0 (label l)) _ a.0 a.1 in
        let c = bind-gives (act W B stop a.0) (run W B []) t a.2 in
        let u : become_unreachable a.0 ≡ Some t = c.1 ∙ ap (λ (q : State UnpackedIndex). Some q) (the_same c.0 t c.2) in
        let same : a.0.frames ≡ s.frames = (pop_vals-frames W b.0 f.0 a.0 b.2).0 ∙ ap (λ (q : State UnpackedIndex). q.frames) (sym g.1) in
        stopped a.0.frames a.0 t k u ∙ ap (λ (fs : List (Frame UnpackedIndex)). label_from fs k) same

    pub branch_if-labels : (l k : ℕ) (s t : State UnpackedIndex) → step_in W B (control (br_if l)) s ≡ Some t → label_counts_in C t k ≡ label_counts_in C s k
    branch_if-labels l k s t e =
        let f = bind-gives (guard (is_open s) s) (run W B (actions_of (shape_of (control (br_if l))))) t e in
        let g = guard-gives (is_open s) s f.0 f.1 in
        let a = bind-gives (act W B (take (joined (label l) (one i32))) f.0) (run W B (give (label l) ∷ [])) t f.2 in
        let b = bind-gives (types_at W B f.0 (joined (label l) (one i32))) _ a.0 a.1 in
        let c = bind-gives (act W B (give (label l)) a.0) (run W B []) t a.2 in
        let d = bind-gives (types_at W B a.0 (label l)) _ c.0 c.1 in
        let after : push_vals d.0 a.0 ≡ t = the_same (push_vals d.0 a.0) c.0 d.2 ∙ the_same c.0 t c.2 in
        let same : a.0.frames ≡ s.frames = (pop_vals-frames W b.0 f.0 a.0 b.2).0 ∙ ap (λ (q : State UnpackedIndex). q.frames) (sym g.1) in
        ap (λ (fs : List (Frame UnpackedIndex)). label_from fs k) (sym (ap (λ (q : State UnpackedIndex). q.frames) after) ∙ same)

    pub table-labels : (ls : List ℕ) (l k : ℕ) (s t : State UnpackedIndex) → step_in W B (control (br_table ls l)) s ≡ Some t → label_counts_in C t k ≡ label_counts_in C s k
    table-labels ls l k s t e =
        let f = bind-gives (guard (is_open s) s) (run W B (actions_of (shape_of (control (br_table ls l))))) t e in
        let g = guard-gives (is_open s) s f.0 f.1 in
        let a = bind-gives (act W B (take (one i32)) f.0) (run W B (branch_to_one_of ls l ∷ [])) t f.2 in
        let b = bind-gives (types_at W B f.0 (one i32)) (λ vs. pop_vals W vs f.0) a.0 a.1 in
        let c = bind-gives (act W B (branch_to_one_of ls l) a.0) (run W B []) t a.2 in
        let d = bind-gives (label_at W B a.0 l) _ c.0 c.1 in
        let p = bind-gives (pop_vals W d.0 a.0) _ c.0 d.2 in
        let q = bind-gives (guard (labels_fit W B a.0 (length d.0) ls) p.0) become_unreachable c.0 p.2 in
        let h = guard-gives (labels_fit W B a.0 (length d.0) ls) p.0 q.0 q.1 in
        let u : become_unreachable q.0 ≡ Some t = q.2 ∙ ap (λ (x : State UnpackedIndex). Some x) (the_same c.0 t c.2) in
        let frames : a.0.frames ≡ s.frames = (pop_vals-frames W b.0 f.0 a.0 b.2).0 ∙ ap (λ (x : State UnpackedIndex). x.frames) (sym g.1) in
        let same : q.0.frames ≡ s.frames = ap (λ (x : State UnpackedIndex). x.frames) (sym h.1) ∙ (pop_vals-frames W d.0 a.0 p.0 p.1).0 ∙ frames in
        stopped q.0.frames q.0 t k u ∙ ap (λ (fs : List (Frame UnpackedIndex)). label_from fs k) same
