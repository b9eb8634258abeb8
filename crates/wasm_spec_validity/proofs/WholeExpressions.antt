-- An expression is read whole: the first `end` is the last of its instructions, and what follows can be cut off or put behind.
use Rattle.std.proofs.Common.{◌≡◌, refl, sym, ap, ◌∙◌, subst, ℕ, zero, suc, ◌-◌, ◌≤◌, Bool, true, false, ◌&&◌, if◌then◌else◌, List, [], ◌∷◌, ◌++◌, length, take, Option, Some, None, option_map, append_assoc, arith, length-append}
use Rattle.std.proofs.Math.Seq.{take-append_seam}
use Rattle.std.specs.List.{All}
use Rattle.std.specs.Option.{option_and_then}
use Rattle.std.proofs.lemmas.List.Elements.{All-head, All-tail}
use Rattle.std.proofs.lemmas.Option.{same_Some, none-some}
use Rattle.wasm_spec.specs.Laws.{IsShorterRest}
use Rattle.wasm_spec.specs.Syntax.{Val}
use Rattle.wasm_spec.specs.MatchingTests.{World}
use Rattle.wasm_spec.proofs.LawSet.{goes_on, ignores_what_follows}
use Rattle.wasm_operators.specs.Control.{end_, value_block}
use Rattle.wasm_operators.specs.Instructions.{Instruction, control, instruction_at}
use Rattle.wasm_operators.proofs.Fronts.{instruction-reads}
use Rattle.wasm_spec_steps.specs.WasmSpecRules.Parts.{Expression}
use Rattle.wasm_spec_steps.specs.Bodies.{Surroundings}
use Rattle.wasm_spec_steps.specs.ConstantExpressions.{is_constant}
use Rattle.wasm_spec_steps.specs.ConstantRules.{is_allowed, is_readable, IsConstantExpression}
use Rattle.wasm_spec_steps.specs.Machine.{Frame, State}
use Rattle.wasm_spec_steps.specs.Sequences.{Are}
use Rattle.wasm_spec_steps.specs.Steps.{start, step_in, steps_in, is_open, is_finished}
use Rattle.wasm_spec_validity.specs.Expressions.{is_end, behind_end, expression_at}
use Rattle.wasm_spec_validity.specs.Laws.{ExpressionsAreWhole}
use Rattle.wasm_spec_validity.proofs.InstructionCuts.{instruction_is_cut}
use Rattle.wasm_spec_validity.proofs.Frames.{bind-gives, step-keeps, end-frames}

no : false ≡ true → ⊥
no e = cc

-- a number is read as itself
abbrev written : List ℕ → Option (Instruction ℕ × List ℕ)
written bytes = instruction_at (λ n. n) bytes

pub rest_of : (bytes next : List ℕ) (op : Instruction ℕ) → written bytes ≡ Some (op, next) → IsShorterRest next bytes
rest_of bytes next op e = goes_on (instruction_at (λ n. n)) (λ more. instruction-reads {more = more} (λ n. n)) bytes op next e

followed : (bytes more next : List ℕ) (op : Instruction ℕ) → written bytes ≡ Some (op, next) → written (bytes ++ more) ≡ Some (op, next ++ more)
followed bytes more next op e = ignores_what_follows (instruction_at (λ n. n)) (λ m. instruction-reads {more = m} (λ n. n)) bytes more op next e

-- what is cut off of the bytes
record IsWhole (most : ℕ) (ops : List (Instruction ℕ)) (bytes more : List ℕ) : Type 0 where
  front : List ℕ
  is : bytes ≡ front ++ more
  alone : Are ops front []
  ends : behind_end most bytes ≡ Some more

-- one instruction
ends_here : (m : ℕ) (bytes next : List ℕ) (op : Instruction ℕ) → written bytes ≡ Some (op, next) → is_end op ≡ true → behind_end (suc m) bytes ≡ Some next
ends_here m bytes next op e f = rw (e, f) refl

goes_further : (m : ℕ) (bytes next : List ℕ) (op : Instruction ℕ) → written bytes ≡ Some (op, next) → is_end op ≡ false → behind_end (suc m) bytes ≡ behind_end m next
goes_further m bytes next op e f = rw (e, f) refl

is_constant-first : (a b : Bool) → (a && b) ≡ true → a ≡ true
is_constant-first true b e = refl
is_constant-first false b e = absurd (no e)

the_end : (op : Instruction ℕ) → is_end op ≡ true → op ≡ control end_
the_end (control end_) e = refl
the_end _ e = absurd (no e)

none_open : {R : Type 0} (s : State R) (fs : List (Frame R)) → s.frames ≡ fs → fs ≡ [] → is_open s ≡ false
none_open s fs e f = rw (e, f) refl

still_open : {R : Type 0} (s : State R) (x : Frame R) → s.frames ≡ x ∷ [] → is_finished s ≡ false
still_open s x e = rw e refl

module _ {R : Type 0} (W : World R) (B : Surroundings R) (imported : ℕ) where
  abbrev Allowed : Instruction ℕ → Type 0
  Allowed op = is_allowed B imported op ≡ true

  -- behind the end nothing is taken
  none_behind : (ops : List (Instruction ℕ)) (s t : State R) → s.frames ≡ [] → steps_in W B ops s ≡ Some t → ops ≡ []
  none_behind [] s t e f = refl
  none_behind (op ∷ ops) s t e f =
      let shut : is_open s ≡ false = none_open s [] e refl in
      let refused : steps_in W B (op ∷ ops) s ≡ None = rw shut refl in
      absurd (none-some t (sym refused ∙ f))

  -- by the last instruction, and by one before it
  last_one : (m : ℕ) (op : Instruction ℕ) (ops : List (Instruction ℕ)) (bytes next more : List ℕ) → written bytes ≡ Some (op, next) → Are ops next more
      → is_constant B.features op ≡ true → is_end op ≡ true → ops ≡ [] → IsWhole (suc m) (op ∷ ops) bytes more
  last_one m op ops bytes next more e are a f n =
      let r = rest_of bytes next op e in
      let same : next ≡ more = subst (λ (os : List (Instruction ℕ)). Are os next more) n are in
      let read : written (r.front ++ next) ≡ Some (op, [] ++ next) = ap (λ b. written b) (sym r.is) ∙ e in
      record {
        front = r.front;
        is = r.is ∙ ap (λ b. r.front ++ b) same;
        alone = ([], instruction_is_cut B.features op r.front [] next a read, subst (λ (os : List (Instruction ℕ)). Are os [] []) (sym n) refl);
        ends = ends_here m bytes next op e f ∙ ap (λ (b : List ℕ). Some b) same;
      }

  one_before : (m : ℕ) (op : Instruction ℕ) (ops : List (Instruction ℕ)) (bytes next more : List ℕ) → written bytes ≡ Some (op, next)
      → is_constant B.features op ≡ true → is_end op ≡ false → IsWhole m ops next more → IsWhole (suc m) (op ∷ ops) bytes more
  one_before m op ops bytes next more e a f w =
      let r = rest_of bytes next op e in
      let is : bytes ≡ (r.front ++ w.front) ++ more = r.is ∙ ap (λ b. r.front ++ b) w.is ∙ sym (append_assoc r.front w.front more) in
      let read : written ((r.front ++ w.front) ++ more) ≡ Some (op, w.front ++ more) = ap (λ b. written b) (sym is) ∙ e ∙ ap (λ (b : List ℕ). Some (op, b)) w.is in
      record {
        front = r.front ++ w.front;
        is = is;
        alone = (w.front, instruction_is_cut B.features op (r.front ++ w.front) w.front more a read, w.alone);
        ends = goes_further m bytes next op e f ∙ w.ends;
      }

  abbrev Wholly : ℕ → List (Instruction ℕ) → Type 0
  Wholly m ops =
      (x : Frame R) (s t : State R) (bytes more : List ℕ) → length bytes ≤ m → s.frames ≡ x ∷ [] → Are ops bytes more → All Allowed ops
      → steps_in W B ops s ≡ Some t → is_finished t ≡ true → IsWhole m ops bytes more

  by_end : (m : ℕ) (op : Instruction ℕ) (ops : List (Instruction ℕ)) → Wholly m ops → (b : Bool) → is_end op ≡ b → (x : Frame R) (s u t : State R) (bytes next more : List ℕ) → length next ≤ m
      → s.frames ≡ x ∷ [] → written bytes ≡ Some (op, next) → Are ops next more → is_constant B.features op ≡ true → All Allowed ops
      → step_in W B op s ≡ Some u → steps_in W B ops u ≡ Some t → is_finished t ≡ true → IsWhole (suc m) (op ∷ ops) bytes more
  by_end m op ops wholly true f x s u t bytes next more enough one e are a rest step all c =
      let left = end-frames W B x s u one (subst (λ i. step_in W B i s ≡ Some u) (the_end op f) step) in
      last_one m op ops bytes next more e are a f (none_behind ops u t left all)
  by_end m op ops wholly false f x s u t bytes next more enough one e are a rest step all c =
      one_before m op ops bytes next more e a f (wholly x u t next more enough (step-keeps W B op a f s u step ∙ one) are rest all c)

  whole_by : (m : ℕ) (ops : List (Instruction ℕ)) → Wholly m ops
  whole_by m [] x s t bytes more enough one are rest all c =
      let same : s ≡ t = same_Some s t all in
      let open_ : is_finished t ≡ false = subst (λ q. is_finished q ≡ false) same (still_open s x one) in
      absurd (no (sym open_ ∙ c))
  whole_by zero (op ∷ ops) x s t bytes more enough one are rest all c = let less = (rest_of bytes are.0 op are.1).shorter in absurd (omega (arith, less, enough))
  whole_by (suc m) (op ∷ ops) x s t bytes more enough one are rest all c =
      let f = bind-gives (step_in W B op s) (steps_in W B ops) t all in
      let less = (rest_of bytes are.0 op are.1).shorter in
      let allowed = All-head Allowed op ops rest in
      by_end m op ops (whole_by m ops) (is_end op) refl x s f.0 t bytes are.0 more (omega (arith, less, enough)) one are.1 are.2
      (is_constant-first (is_constant B.features op) (is_readable B.features imported B.context.globals op) allowed)
      (All-tail Allowed op ops rest) f.1 f.2 c

  -- what is put behind
  put_behind : (ops : List (Instruction ℕ)) (bytes more : List ℕ) → Are ops bytes [] → Are ops (bytes ++ more) more
  put_behind [] bytes more e = ap (λ b. b ++ more) e
  put_behind (op ∷ ops) bytes more are = (are.0 ++ more, followed bytes more are.0 op are.1, put_behind ops are.0 more are.2)

-- the front of what is put together
front_taken : (front rest : List ℕ) → take (length (front ++ rest) - length rest) (front ++ rest) ≡ front
front_taken front rest =
    let size : length (front ++ rest) - length rest ≡ length front = omega (arith, length-append front rest) in
    ap (λ (n : ℕ). take n (front ++ rest)) size ∙ take-append_seam front rest

-- what is read as an expression stands in front
abbrev IsFrontOf : List ℕ → List ℕ → Type 0
IsFrontOf bytes more = (front : List ℕ) × (bytes ≡ front ++ more)

in_front : (bytes next more : List ℕ) (op : Instruction ℕ) → written bytes ≡ Some (op, next) → IsFrontOf next more → IsFrontOf bytes more
in_front bytes next more op e f =
    let r = rest_of bytes next op e in
    (r.front ++ f.0, r.is ∙ ap (λ b. r.front ++ b) f.1 ∙ sym (append_assoc r.front f.0 more))

abbrev Fronts : ℕ → Type 0
Fronts m = (bytes more : List ℕ) → behind_end m bytes ≡ Some more → IsFrontOf bytes more

front_by : (m : ℕ) → Fronts m → (b : Bool) (bytes next more : List ℕ) (op : Instruction ℕ) → written bytes ≡ Some (op, next) → (if b then Some next else behind_end m next) ≡ Some more → IsFrontOf bytes more
front_by m fronts true bytes next more op e f = in_front bytes next more op e ([], same_Some next more f)
front_by m fronts false bytes next more op e f = in_front bytes next more op e (fronts next more f)

front_read : (m : ℕ) → Fronts m → (o : Option (Instruction ℕ × List ℕ)) (bytes more : List ℕ) → written bytes ≡ o
    → option_and_then (λ i. if is_end i.0 then Some i.1 else behind_end m i.1) o ≡ Some more → IsFrontOf bytes more
front_read m fronts None bytes more e f = absurd (none-some more f)
front_read m fronts (Some i) bytes more e f = front_by m fronts (is_end i.0) bytes i.1 more i.0 e f

fronts : (m : ℕ) → Fronts m
fronts zero bytes more e = absurd (none-some more e)
fronts (suc m) bytes more e = front_read m (fronts m) (written bytes) bytes more refl e

-- the bytes before these, and these
abbrev cut : List ℕ → List ℕ → Expression × List ℕ
cut bytes more = (take (length bytes - length more) bytes, more)

abbrev read : Expression → List ℕ → Expression × List ℕ
read e more = (e, more)

cut_at : (bytes : List ℕ) (o : Option (List ℕ)) (e more : List ℕ) → option_map (λ r. cut bytes r) o ≡ Some (read e more) → (o ≡ Some more) × (e ≡ take (length bytes - length more) bytes)
cut_at bytes None e more h = absurd (none-some (read e more) h)
cut_at bytes (Some r) e more h =
    let same = same_Some (cut bytes r) (read e more) h in
    let right : r ≡ more = λ i. (same i).1 in
    let left : take (length bytes - length r) bytes ≡ e = λ i. (same i).0 in
    ((λ i. Some (right i)), sym left ∙ ap (λ (l : List ℕ). take (length bytes - length l) bytes) right)

cut_front : (bytes front more : List ℕ) → bytes ≡ front ++ more → take (length bytes - length more) bytes ≡ front
cut_front bytes front more is = ap (λ (b : List ℕ). take (length b - length more) b) is ∙ front_taken front more

is_read : (bytes front more : List ℕ) → bytes ≡ front ++ more → behind_end (length bytes) bytes ≡ Some more → expression_at bytes ≡ Some (front, more)
unfolding expression_at
is_read bytes front more is ends =
    ap (option_map (λ r. cut bytes r)) ends ∙ ap (λ (x : List ℕ). Some (read x more)) (cut_front bytes front more is)

stands_in_front : (bytes e more : List ℕ) → expression_at bytes ≡ Some (e, more) → bytes ≡ e ++ more
unfolding expression_at
stands_in_front bytes e more h =
    let p = cut_at bytes (behind_end (length bytes) bytes) e more h in
    let f = fronts (length bytes) bytes more p.0 in
    f.1 ∙ ap (λ (x : List ℕ). x ++ more) (sym (p.1 ∙ cut_front bytes f.0 more f.1))

-- the bytes of the expression, which are its instructions alone
pub whole : {R : Type 0} (W : World R) (B : Surroundings R) (imported : ℕ) (v : Val R) (bytes : List ℕ) (t : State R) (more : List ℕ) (x : IsConstantExpression W B imported (start (value_block v)) bytes t more)
    → (e : Expression) × (expression_at bytes ≡ Some (e, more)) × Are x.instructions e []
whole W B imported v bytes t more x =
    let w = whole_by W B imported (length bytes) x.instructions (record { kind = _; block = value_block v; height = 0; unreachable = false; init_height = 0 }) (start (value_block v)) t bytes more (omega arith) refl x.written x.allowed x.typed x.finished in
    (w.front, is_read bytes w.front more w.is w.ends, w.alone)

pub expressions_are_whole : {R : Type 0} → ExpressionsAreWhole R
expressions_are_whole W B imported v bytes t more = (
  (λ x.
      let w = whole W B imported v bytes t more x in
      (w.0, w.1, record { instructions = x.instructions; written = w.2; allowed = x.allowed; typed = x.typed; finished = x.finished })),
  (λ h.
      let x = h.2 in
      let is = stands_in_front bytes h.0 more h.1 in
      record {
        instructions = x.instructions;
        written = subst (λ b. Are x.instructions b more) (sym is) (put_behind W B imported x.instructions h.0 more x.written);
        allowed = x.allowed;
        typed = x.typed;
        finished = x.finished;
      }),
)
