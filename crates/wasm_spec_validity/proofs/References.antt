-- Which functions count as referenced: a constant expression refers to none but those that it names, and a module has these.
use Rattle.std.proofs.Common.{◌≡◌, refl, sym, ap, ◌∙◌, subst, ℕ, zero, suc, ◌+◌, ◌<◌, ◌≤◌, ◌==◌, ◌≢◌, Bool, true, false, ◌&&◌, ◌||◌, nat_eq, List, [], ◌∷◌, ◌++◌, length, get_or, slice_get, Option, Some, None, option_map, arith}
use Rattle.std.specs.List.{flat_map, All, Contains}
use Rattle.std.proofs.lemmas.Bool.Decides.{nat_tests, Decides-eqb}
use Rattle.std.proofs.lemmas.List.Elements.{All-nil, All-cons, All-head, All-tail}
use Rattle.std.proofs.lemmas.Option.{none-some}
use Rattle.wasm_spec.specs.BinarySections.{Element}
use Rattle.wasm_spec.specs.Features.{Features}
use Rattle.wasm_spec.specs.MatchingTests.{World}
use Rattle.wasm_spec.specs.Syntax.{Heap, Val}
use Rattle.wasm_operators.specs.WasmOperatorsPlain.Signatures.{signature_of}
use Rattle.wasm_operators.specs.WasmOperatorsPlain.declared.signatures.Signature.{Signature}
use Rattle.wasm_operators.specs.WasmOperatorsPlain.declared.signatures.Signature.TheVariants.{Unary, Binary}
use Rattle.wasm_operators.specs.WasmOperatorsPlain.declared.variables.VariableOperator.{VariableOperator}
use Rattle.wasm_operators.specs.WasmOperatorsPlain.declared.variables.VariableOperator.TheVariants.{LocalGet, LocalSet, LocalTee, GlobalGet, GlobalSet}
use Rattle.wasm_operators.specs.WasmOperatorsPlain.declared.conversions.ConversionOperator.{ConversionOperator}
use Rattle.wasm_operators.specs.WasmOperatorsPlain.declared.conversions.ConversionOperator.TheVariants.{AnyConvertExtern, ExternConvertAny, RefI31, I31GetS, I31GetU, RefI31Shared}
use Rattle.wasm_operators.specs.WasmOperatorsPlain.declared.structs.StructOperator.{StructOperator}
use Rattle.wasm_operators.specs.WasmOperatorsPlain.declared.structs.StructOperator.TheVariants.{StructNew, StructNewDefault, StructGet, StructGetS, StructGetU, StructSet, StructNewDesc, StructNewDefaultDesc}
use Rattle.wasm_operators.specs.WasmOperatorsPlain.declared.arrays.ArrayOperator.{ArrayOperator}
use Rattle.wasm_operators.specs.WasmOperatorsPlain.declared.arrays.ArrayOperator.TheVariants.{ArrayNew, ArrayNewDefault, ArrayNewFixed, ArrayNewData, ArrayNewElem, ArrayGet, ArrayGetS, ArrayGetU, ArraySet, ArrayLen, ArrayFill, ArrayCopy, ArrayInitData, ArrayInitElem}
use Rattle.wasm_operators.specs.Control.{value_block, Control, unreachable, nop, else_, end_, throw_ref, return_, block, loop, if_, try_table, throw, br, br_if, br_table}
use Rattle.wasm_operators.specs.References.{Reference}
use Rattle.wasm_operators.specs.References as references
use Rattle.wasm_operators.specs.Instructions as instruction
use Rattle.wasm_operators.specs.Instructions.{Instruction}
use Rattle.wasm_spec_steps.specs.WasmSpecRules.Attempts.{◌>>=◌, guard, among}
use Rattle.wasm_spec_steps.specs.WasmSpecRules.LinkRules.{exported_functions, listed_functions, referenced}
use Rattle.wasm_spec_steps.specs.WasmSpecRules.Parts.{Parts, Expression, expressions_of}
use Rattle.wasm_spec_steps.specs.WasmSpecRules.Worlds.{world_of}
use Rattle.wasm_spec_steps.specs.Bodies.{Surroundings}
use Rattle.wasm_spec_steps.specs.Machine.{State}
use Rattle.wasm_spec_steps.specs.Actions.{reference_types, Check, has, function_is_referenced, Action, need, function_reference}
use Rattle.wasm_spec_steps.specs.Shapes.{computing, nothing, shape_of}
use Rattle.wasm_spec_steps.specs.Meanings.{ref_to, one, holds, function_heap, act, run}
use Rattle.wasm_spec_steps.specs.Steps.{start, actions_of, is_open, step_in, steps_in}
use Rattle.wasm_spec_steps.specs.ConstantExpressions.{is_constant}
use Rattle.wasm_spec_steps.specs.ConstantRules.{is_allowed, is_readable, IsConstantExpression}
use Rattle.wasm_spec_validity.specs.Expressions.{instructions_of, functions_named, named}
use Rattle.wasm_spec_validity.specs.Typing.{from_on, seeing, around}
use Rattle.wasm_spec_validity.specs.Modules.{context_of, imported_globals}
use Rattle.wasm_spec_validity.specs.Laws.{with_globals, OwnReferencesSuffice}
use Rattle.wasm_spec_validity.proofs.ExpressionTests.{determined}
use Rattle.wasm_spec_validity.proofs.Frames.{bind-gives, guard-gives, plain-types, step-runs}

no : false ≡ true → ⊥
no e = cc

-- checks and actions that hold of these references, where they hold of others
abbrev allows_check : List ℕ → Check → Bool
allows_check r (function_is_referenced n) = among n r
allows_check r _ = true

abbrev allows_action : List ℕ → Action → Bool
allows_action r (need c) = allows_check r c
allows_action r _ = true

abbrev allows_all : List ℕ → List Action → Bool
allows_all r [] = true
allows_all r (a ∷ as_) = allows_action r a && allows_all r as_

both : (a b : Bool) → (a && b) ≡ true → (a ≡ true) × (b ≡ true)
both true b e = (refl, e)
both false b e = absurd (no e)

and : (a b : Bool) → a ≡ true → b ≡ true → (a && b) ≡ true
and a b e f = rw (e, f) refl

passes_guard : {X : Type 0} (c : Bool) (x y : X) → c ≡ true → x ≡ y → guard c x ≡ Some y
passes_guard c x y e f = rw e (ap Some f)

module _ {R : Type 0} (W : World R) (B : Surroundings R) (r : List ℕ) where
  abbrev referring : Surroundings R
  referring = record B { context = record B.context { references = r } }

  check-kept : (c : Check) (s : State R) → allows_check r c ≡ true → holds W B s c ≡ true → holds W referring s c ≡ true
  check-kept (function_is_referenced n) s a h = a
  check-kept _ s a h = h

  action-kept : (a : Action) (s t : State R) → allows_action r a ≡ true → act W B a s ≡ Some t → act W referring a s ≡ Some t
  action-kept (need c) s t a e = let g = guard-gives (holds W B s c) s t e in passes_guard (holds W referring s c) s t (check-kept c s a g.0) g.1
  action-kept _ s t a e = e

  run-kept : (as_ : List Action) (s t : State R) → allows_all r as_ ≡ true → run W B as_ s ≡ Some t → run W referring as_ s ≡ Some t
  run-kept [] s t a e = e
  run-kept (x ∷ as_) s t a e =
      let p = both (allows_action r x) (allows_all r as_) a in
      let f = bind-gives (act W B x s) (run W B as_) t e in
      ap (λ o. o >>= run W referring as_) (action-kept x s f.0 p.0 f.1) ∙ run-kept as_ f.0 t p.1 f.2

  step-kept : (op : Instruction ℕ) (s t : State R) → allows_all r (actions_of (shape_of op)) ≡ true → step_in W B op s ≡ Some t → step_in W referring op s ≡ Some t
  step-kept op s t a e =
      let f = bind-gives (guard (is_open s) s) (run W B (actions_of (shape_of op))) t e in
      ap (λ o. o >>= run W referring (actions_of (shape_of op))) f.1 ∙ run-kept (actions_of (shape_of op)) f.0 t a f.2

  steps-kept : (ops : List (Instruction ℕ)) (s t : State R) → All (λ op. allows_all r (actions_of (shape_of op)) ≡ true) ops → steps_in W B ops s ≡ Some t → steps_in W referring ops s ≡ Some t
  steps-kept [] s t a e = e
  steps-kept (op ∷ ops) s t a e =
      let f = bind-gives (step_in W B op s) (steps_in W B ops) t e in
      ap (λ o. o >>= steps_in W referring ops) (step-kept op s f.0 (All-head (λ x. allows_all r (actions_of (shape_of x)) ≡ true) op ops a) f.1)
      ∙ steps-kept ops f.0 t (All-tail (λ x. allows_all r (actions_of (shape_of x)) ≡ true) op ops a) f.2

-- what the instructions of constant expressions need of references: the functions that they name
abbrev are_among : List ℕ → List ℕ → Bool
are_among r [] = true
are_among r (x ∷ xs) = among x r && are_among r xs

computing-allows : (r : List ℕ) (g : Signature) → allows_all r (actions_of (computing g)) ≡ true
computing-allows r (Unary a b) = refl
computing-allows r (Binary a b) = refl

and_true : (b : Bool) → (b && true) ≡ true → b ≡ true
and_true b e = (both b true e).0

module _ (F : Features) (r : List ℕ) where
  abbrev Allows : Instruction ℕ → Type 0
  Allows op = allows_all r (actions_of (shape_of op)) ≡ true

  control-allows : (op : Control ℕ) → is_constant F (instruction.control op) ≡ true → Allows (instruction.control op)
  control-allows end_ a = refl
  control-allows unreachable a = absurd (no a)
  control-allows nop a = absurd (no a)
  control-allows else_ a = absurd (no a)
  control-allows throw_ref a = absurd (no a)
  control-allows return_ a = absurd (no a)
  control-allows (block b) a = absurd (no a)
  control-allows (loop b) a = absurd (no a)
  control-allows (if_ b) a = absurd (no a)
  control-allows (try_table b cs) a = absurd (no a)
  control-allows (throw x) a = absurd (no a)
  control-allows (br l) a = absurd (no a)
  control-allows (br_if l) a = absurd (no a)
  control-allows (br_table ls l) a = absurd (no a)

  reference-allows : (op : Reference ℕ) → are_among r (functions_named (instruction.reference op)) ≡ true → Allows (instruction.reference op)
  reference-allows (references.ref_func x) n = n
  reference-allows (references.ref_null h) n = refl
  reference-allows references.ref_is_null n = refl
  reference-allows references.ref_eq n = refl
  reference-allows references.ref_as_non_null n = refl
  reference-allows (references.br_on_null l) n = refl
  reference-allows (references.br_on_non_null l) n = refl

  variable-allows : (op : VariableOperator) → Allows (instruction.variable op)
  variable-allows (LocalGet x) = refl
  variable-allows (LocalSet x) = refl
  variable-allows (LocalTee x) = refl
  variable-allows (GlobalGet x) = refl
  variable-allows (GlobalSet x) = refl

  structure-allows : (op : StructOperator) → Allows (instruction.structure op)
  structure-allows (StructNew x) = refl
  structure-allows (StructNewDefault x) = refl
  structure-allows (StructGet x i) = refl
  structure-allows (StructGetS x i) = refl
  structure-allows (StructGetU x i) = refl
  structure-allows (StructSet x i) = refl
  structure-allows (StructNewDesc x) = refl
  structure-allows (StructNewDefaultDesc x) = refl

  array-allows : (op : ArrayOperator) → Allows (instruction.array op)
  array-allows (ArrayNew x) = refl
  array-allows (ArrayNewDefault x) = refl
  array-allows (ArrayNewFixed x n) = refl
  array-allows (ArrayNewData x y) = refl
  array-allows (ArrayNewElem x y) = refl
  array-allows (ArrayGet x) = refl
  array-allows (ArrayGetS x) = refl
  array-allows (ArrayGetU x) = refl
  array-allows (ArraySet x) = refl
  array-allows ArrayLen = refl
  array-allows (ArrayFill x) = refl
  array-allows (ArrayCopy x y) = refl
  array-allows (ArrayInitData x y) = refl
  array-allows (ArrayInitElem x y) = refl

  conversion-allows : (op : ConversionOperator) → Allows (instruction.conversion op)
  conversion-allows AnyConvertExtern = refl
  conversion-allows ExternConvertAny = refl
  conversion-allows RefI31 = refl
  conversion-allows I31GetS = refl
  conversion-allows I31GetU = refl
  conversion-allows RefI31Shared = refl

  constant-allows : (op : Instruction ℕ) → is_constant F op ≡ true → are_among r (functions_named op) ≡ true → Allows op
  constant-allows (instruction.control op) a n = control-allows op a
  constant-allows (instruction.constant c) a n = refl
  constant-allows (instruction.reference op) a n = reference-allows op n
  constant-allows (instruction.variable op) a n = variable-allows op
  constant-allows (instruction.numeric op) a n = computing-allows r (signature_of op)
  constant-allows (instruction.structure op) a n = structure-allows op
  constant-allows (instruction.array op) a n = array-allows op
  constant-allows (instruction.conversion op) a n = conversion-allows op
  constant-allows (instruction.legacy op) a n = absurd (no a)
  constant-allows (instruction.call op) a n = absurd (no a)
  constant-allows (instruction.parametric op) a n = absurd (no a)
  constant-allows (instruction.table op) a n = absurd (no a)
  constant-allows (instruction.access op m) a n = absurd (no a)
  constant-allows (instruction.memory op) a n = absurd (no a)
  constant-allows (instruction.saturating op) a n = absurd (no a)
  constant-allows (instruction.cast op) a n = absurd (no a)
  constant-allows (instruction.vector op values) a n = absurd (no a)
  constant-allows (instruction.atomic op values) a n = absurd (no a)
  constant-allows (instruction.wide op) a n = absurd (no a)
  constant-allows (instruction.shared op values) a n = absurd (no a)
  constant-allows (instruction.continuation op) a n = absurd (no a)

-- a function that is referred to is there
counted_by : (k n x : ℕ) (b : Bool) → (x == k) ≡ b → (b ≡ false → among x (from_on (suc k) n) ≡ true) → among x (from_on k (suc n)) ≡ true
counted_by k n x true e h = rw e refl
counted_by k n x false e h = rw e (h refl)

counted : (k n x : ℕ) → k ≤ x → x < k + n → among x (from_on k n) ≡ true
counted k zero x l m = absurd (omega arith)
counted k (suc n) x l m = counted_by k n x (x == k) refl (λ e. let apart : x ≢ k = grind (arith, nat_tests) in counted (suc k) n x (omega arith) (omega arith))

module _ {R : Type 0} (W : World R) (B : Surroundings R) where
  there : {X Y : Type 0} (o : Option X) (f : X → Option Y) (y : Y) → (o >>= f) ≡ Some y → (x : X) × (o ≡ Some x)
  there o f y e = let h = bind-gives o f y e in (h.0, h.1)

  one_there : (o : Option (Heap R)) (ws : List (Val R)) → one (option_map (ref_to false) o) ≡ Some ws → (h : Heap R) × (o ≡ Some h)
  one_there None ws e = absurd (none-some ws e)
  one_there (Some h) ws e = (h, refl)

  stands : (xs : List ℕ) (x f : ℕ) → slice_get xs x ≡ Some f → x < length xs
  stands [] x f e = absurd (none-some f e)
  stands (y ∷ ys) zero f e = omega arith
  stands (y ∷ ys) (suc x) f e = let l = stands ys x f e in omega (arith, l)

  function-stands : (x : ℕ) (s t : State R) → step_in W B (instruction.reference (references.ref_func x)) s ≡ Some t → among x (from_on 0 (length B.context.functions)) ≡ true
  function-stands x s t e =
      let run = step-runs W B (instruction.reference (references.ref_func x)) s t e in
      let p = plain-types W B (has reference_types ∷ function_is_referenced x ∷ []) nothing (function_reference x) s t run in
      let l = one_there (function_heap W B x) p.1 p.2 in
      let m = there (slice_get B.context.functions x) _ l.0 l.1 in
      let n : x < length B.context.functions = stands B.context.functions x m.0 m.1 in
      counted 0 (length B.context.functions) x (omega arith) (omega (arith, n))

  named-stand : (op : Instruction ℕ) (s t : State R) → step_in W B op s ≡ Some t → are_among (from_on 0 (length B.context.functions)) (functions_named op) ≡ true
  named-stand (instruction.reference (references.ref_func x)) s t e = and (among x (from_on 0 (length B.context.functions))) true (function-stands x s t e) refl
  named-stand _ s t e = refl

  abbrev Stand : Instruction ℕ → Type 0
  Stand op = are_among (from_on 0 (length B.context.functions)) (functions_named op) ≡ true

  all-stand : (ops : List (Instruction ℕ)) (s t : State R) → steps_in W B ops s ≡ Some t → All Stand ops
  all-stand [] s t e = All-nil Stand
  all-stand (op ∷ ops) s t e = let f = bind-gives (step_in W B op s) (steps_in W B ops) t e in All-cons Stand op ops (named-stand op s f.0 f.1) (all-stand ops f.0 t f.2)

  -- instructions that name none but these
  abbrev NamesAmong : List ℕ → Instruction ℕ → Type 0
  NamesAmong r op = are_among r (functions_named op) ≡ true

  all-allow : (imported : ℕ) (r : List ℕ) (ops : List (Instruction ℕ)) → All (λ op. is_allowed B imported op ≡ true) ops → All (NamesAmong r) ops → All (Allows B.features r) ops
  all-allow imported r [] a n = All-nil (Allows B.features r)
  all-allow imported r (op ∷ ops) a n =
      let first = both (is_constant B.features op) (is_readable B.features imported B.context.globals op) (All-head (λ x. is_allowed B imported x ≡ true) op ops a) in
      All-cons (Allows B.features r) op ops (constant-allows B.features r op first.0 (All-head (NamesAmong r) op ops n))
      (all-allow imported r ops (All-tail (λ x. is_allowed B imported x ≡ true) op ops a) (All-tail (NamesAmong r) op ops n))

  pub constant-kept : (imported : ℕ) (r : List ℕ) (s t : State R) (bytes : List ℕ) → (x : IsConstantExpression W B imported s bytes t []) → All (NamesAmong r) x.instructions → IsConstantExpression W (referring W B r) imported s bytes t []
  constant-kept imported r s t bytes x n = record {
    instructions = x.instructions;
    written = x.written;
    allowed = x.allowed;
    typed = steps-kept W B r x.instructions s t (all-allow imported r x.instructions x.allowed n) x.typed;
    finished = x.finished;
  }

-- lists of functions
or_right : (a b : Bool) → b ≡ true → (a || b) ≡ true
or_right true b e = refl
or_right false b e = e

among-right : (x : ℕ) (zs ys : List ℕ) → among x ys ≡ true → among x (zs ++ ys) ≡ true
among-right x [] ys e = e
among-right x (z ∷ zs) ys e = or_right (x == z) (among x (zs ++ ys)) (among-right x zs ys e)

or_left : (a b c : Bool) → (b ≡ true → c ≡ true) → (a || b) ≡ true → (a || c) ≡ true
or_left true b c h e = refl
or_left false b c h e = h e

among-left : (x : ℕ) (xs ys : List ℕ) → among x xs ≡ true → among x (xs ++ ys) ≡ true
among-left x [] ys e = absurd (no e)
among-left x (z ∷ zs) ys e = or_left (x == z) (among x zs) (among x (zs ++ ys)) (among-left x zs ys) e

weaker : (r q xs : List ℕ) → ((x : ℕ) → among x r ≡ true → among x q ≡ true) → are_among r xs ≡ true → are_among q xs ≡ true
weaker r q [] h e = refl
weaker r q (x ∷ xs) h e = let p = both (among x r) (are_among r xs) e in and (among x q) (are_among q xs) (h x p.0) (weaker r q xs h p.1)

itself : (xs : List ℕ) → are_among xs xs ≡ true
itself [] = refl
itself (x ∷ xs) =
    let first : among x (x ∷ xs) ≡ true = rw ((Decides-eqb x x).1 refl) refl in
    and (among x (x ∷ xs)) (are_among (x ∷ xs) xs) first (weaker xs (x ∷ xs) xs (λ y. or_right (y == x) (among y xs)) (itself xs))

split : (r xs ys : List ℕ) → are_among r (xs ++ ys) ≡ true → (are_among r xs ≡ true) × (are_among r ys ≡ true)
split r [] ys e = (refl, e)
split r (x ∷ xs) ys e =
    let p = both (among x r) (are_among r (xs ++ ys)) e in
    let q = split r xs ys p.1 in
    (and (among x r) (are_among r xs) p.0 q.0, q.1)

named_one_by_one : (r : List ℕ) (ops : List (Instruction ℕ)) → are_among r (flat_map functions_named ops) ≡ true → All (λ op. are_among r (functions_named op) ≡ true) ops
named_one_by_one r [] e = All-nil (λ op. are_among r (functions_named op) ≡ true)
named_one_by_one r (op ∷ ops) e =
    let p = split r (functions_named op) (flat_map functions_named ops) e in
    All-cons (λ op. are_among r (functions_named op) ≡ true) op ops p.0 (named_one_by_one r ops p.1)

-- those that a module's expressions name are referenced
named_of_one : (es : List Expression) (k : ℕ) (e : Expression) → k < length es → get_or es k e ≡ e → are_among (flat_map named es) (named e) ≡ true
named_of_one [] k e l f = absurd (omega arith)
named_of_one (x ∷ xs) zero e l f = weaker (named e) (named x ++ flat_map named xs) (named e) (λ y h. among-left y (named x) (flat_map named xs) (subst (λ z. among y (named z) ≡ true) (sym f) h)) (itself (named e))
named_of_one (x ∷ xs) (suc k) e l f = weaker (flat_map named xs) (named x ++ flat_map named xs) (named e) (λ y h. among-right y (named x) (flat_map named xs) h) (named_of_one xs k e (omega (arith, l)) f)

named_of_module : (parts : Parts) (e : Expression) → Contains (expressions_of parts) e → are_among (referenced named parts) (named e) ≡ true
named_of_module parts e h =
    weaker (flat_map named (expressions_of parts)) (referenced named parts) (named e)
    (λ y a. among-right y (flat_map exported_functions parts.exports) (flat_map (λ (x : Element Expression ℕ). listed_functions x.items) parts.elements ++ flat_map named (expressions_of parts))
    (among-right y (flat_map (λ (x : Element Expression ℕ). listed_functions x.items) parts.elements) (flat_map named (expressions_of parts)) a))
    (named_of_one (expressions_of parts) h.0 e h.1 h.2)

named_are : (r : List ℕ) (e : Expression) (ops : List (Instruction ℕ)) → ops ≡ instructions_of (length e) e → are_among r (named e) ≡ true → All (λ op. are_among r (functions_named op) ≡ true) ops
unfolding named
named_are r e ops same n = named_one_by_one r ops (ap (λ (os : List (Instruction ℕ)). are_among r (flat_map functions_named os)) same ∙ n)

pub own_references_suffice : OwnReferencesSuffice
own_references_suffice F C n parts e h visible v =
    let D = context_of C n parts in
    let W = world_of nat_eq D in
    let s = start (value_block v) in (
      (λ x.
          let ops = named_are D.references e x.is.instructions (determined x.is.instructions e x.is.written) (named_of_module parts e h) in
          (x.last, constant-kept W (around F (seeing visible D)) (imported_globals parts) D.references s x.last e x.is ops)),
      (λ x.
          let ops = all-stand W (around F (with_globals visible D)) x.1.instructions s x.0 x.1.typed in
          record { last = x.0; is = constant-kept W (around F (with_globals visible D)) (imported_globals parts) (from_on 0 (length D.functions)) s x.0 e x.1 ops }),
    )
