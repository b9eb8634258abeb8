-- A constant expression of an address type names no functions: once a reference is among its operands, one always is.
use Rattle.std.proofs.Common.{◌≡◌, ◌⊎◌, inl, inr, refl, sym, ap, ◌∙◌, subst, ℕ, ◌==◌, Bool, true, false, not, ◌&&◌, ◌||◌, List, [], ◌∷◌, ◌++◌, length, Some, None, arith}
use Rattle.std.specs.List.{flat_map, All}
use Rattle.std.proofs.lemmas.Bool.Decides.{nat_tests}
use Rattle.std.proofs.lemmas.List.Elements.{All-head, All-tail}
use Rattle.wasm_spec.specs.Syntax.{i32, i64, f32, f64, v128, reference}
use Rattle.wasm_spec.specs.Features.{Features}
use Rattle.wasm_spec.specs.MatchingTests.{World}
use Rattle.wasm_spec_validity.specs.WasmOperators.WasmOperatorsPlain.declared.variables.VariableOperator.TheVariants.{GlobalGet}
use Rattle.wasm_spec_validity.specs.WasmOperators.WasmOperatorsPlain.declared.conversions.ConversionOperator.TheVariants.{AnyConvertExtern, ExternConvertAny, RefI31, RefI31Shared}
use Rattle.wasm_spec_validity.specs.WasmOperators.Control.{Control, end_, value_block}
use Rattle.wasm_spec_validity.specs.WasmOperators.References as references
use Rattle.wasm_spec_validity.specs.WasmOperators.Instructions as instruction
use Rattle.wasm_spec_validity.specs.WasmOperators.Instructions.{Instruction, control}
use Rattle.wasm_spec_validity.specs.WasmSpecSteps.WasmSpecRules.Worlds.{world_of}
use Rattle.wasm_spec_validity.specs.WasmSpecSteps.Bodies.{Surroundings}
use Rattle.wasm_spec_validity.specs.WasmSpecSteps.Machine.{Operand, bottom, bottom_reference, open_reference, known, block_kind, Frame, State, pop_any, pop_vals, matches_operand}
use Rattle.wasm_spec_validity.specs.WasmSpecSteps.Meanings.{address, pop_frame, leave_in, run}
use Rattle.wasm_spec_validity.specs.WasmSpecSteps.Steps.{start, is_open, is_finished, step_in, steps_in}
use Rattle.wasm_spec_validity.specs.WasmSpecSteps.ConstantExpressions.{is_constant, gives_reference, takes_no_reference, is_reference, is_number, makes_structure, makes_array, IsLeft, none_taken, one_taken, GivesOne, GivesOneReference}
use Rattle.wasm_spec_validity.specs.WasmSpecSteps.ConstantRules.{is_allowed, is_readable}
use Rattle.wasm_spec_validity.specs.WasmSpecSteps.Laws.{ReferencesAreCounted}
use Rattle.wasm_spec_validity.proofs.WasmSpecSteps.ConstantReferences.{constants_give_references}
use Rattle.wasm_spec_validity.specs.Expressions.{is_end, functions_named, named}
use Rattle.wasm_spec_validity.specs.Typing.{seeing, around}
use Rattle.wasm_spec_validity.proofs.ExpressionTests.{determined}
use Rattle.wasm_spec_validity.proofs.Frames.{bind-gives, guard-gives, step-runs, step-keeps, end-frames}
use Rattle.wasm_validator_references.specs.NamedFunctions.{NumbersNameNoFunctions}

none : {P X : Type 0} (x : X) → None ≡ Some x → P
none x e = absurd cc

no : {P : Type 0} → false ≡ true → P
no e = absurd cc

the_same : {X : Type 0} (x y : X) → Some x ≡ Some y → x ≡ y
the_same x y e = cc

both : (a b : Bool) → (a && b) ≡ true → (a ≡ true) × (b ≡ true)
both true b e = (refl, e)
both false b e = no e

or_right : (a b : Bool) → b ≡ true → (a || b) ≡ true
or_right true b e = refl
or_right false b e = e

or_left : (a b : Bool) → a ≡ true → (a || b) ≡ true
or_left true b e = refl
or_left false b e = no e

alone : (b : Bool) → (b || false) ≡ true → b ≡ true
alone true e = refl
alone false e = no e

not_true : (b : Bool) → not b ≡ true → b ≡ false
not_true true e = no e
not_true false e = refl

-- The instructions of constant expressions: `end`; those that give a reference; and those that take none, and name no function.
abbrev GivesReference : Instruction ℕ → Type 0
GivesReference op = (is_end op ≡ false) × (gives_reference op ≡ true)

abbrev TakesNone : Instruction ℕ → Type 0
TakesNone op = (is_end op ≡ false) × (takes_no_reference op ≡ true) × (functions_named op ≡ [])

abbrev IsSorted : Instruction ℕ → Type 0
IsSorted op = (op ≡ control end_) ⊎ (GivesReference op ⊎ TakesNone op)

module _ (F : Features) where
  sorted_control : (op : Control ℕ) → is_constant F (control op) ≡ true → IsSorted (control op)
  sorted_control end_ a = inl refl
  sorted_control _ a = no a

  sorted : (op : Instruction ℕ) → is_constant F op ≡ true → IsSorted op
  sorted (control op) a = sorted_control op a
  sorted (instruction.constant c) a = inr (inr (refl, refl, refl))
  sorted (instruction.reference (references.ref_null h)) a = inr (inl (refl, refl))
  sorted (instruction.reference (references.ref_func x)) a = inr (inl (refl, refl))
  sorted (instruction.reference _) a = no a
  sorted (instruction.variable (GlobalGet x)) a = inr (inr (refl, refl, refl))
  sorted (instruction.variable _) a = no a
  sorted (instruction.numeric op) a = inr (inr (refl, refl, refl))
  sorted (instruction.structure op) a = inr (inl (refl, (both F.gc (makes_structure op) a).1))
  sorted (instruction.array op) a = inr (inl (refl, (both F.gc (makes_array op) a).1))
  sorted (instruction.conversion AnyConvertExtern) a = inr (inl (refl, refl))
  sorted (instruction.conversion ExternConvertAny) a = inr (inl (refl, refl))
  sorted (instruction.conversion RefI31) a = inr (inl (refl, refl))
  sorted (instruction.conversion RefI31Shared) a = inr (inl (refl, refl))
  sorted (instruction.conversion _) a = no a
  sorted _ a = no a

module _ {R : Type 0} where
  -- whether a reference is among the operands
  abbrev has_reference : List (Operand R) → Bool
  has_reference [] = false
  has_reference (x ∷ xs) = is_reference x || has_reference xs

  -- it is, where numbers alone are taken from them, and where a reference is given
  left_there : {xs ys : List (Operand R)} → IsLeft is_number xs ys → has_reference xs ≡ has_reference ys
  left_there none_taken = refl
  left_there (one_taken {x} {xs} n p) = ap (λ b. b || has_reference xs) (not_true (is_reference x) n) ∙ left_there p

  still_there : (before after : List (Operand R)) → GivesOne is_number before after → has_reference before ≡ true → has_reference after ≡ true
  still_there before after g e = ap has_reference g.gives ∙ or_right (is_reference g.given) (has_reference g.left) (sym (left_there g.takes) ∙ e)

  given_there : (before after : List (Operand R)) → GivesOneReference before after → has_reference after ≡ true
  given_there before after g = ap has_reference g.one.gives ∙ or_left (is_reference g.one.given) (has_reference g.one.left) g.is_one

  -- behind the end nothing is taken
  none_open : (s : State R) (fs : List (Frame R)) → s.frames ≡ fs → fs ≡ [] → is_open s ≡ false
  none_open s fs e f = rw (e, f) refl

  still_open : (s : State R) (x : Frame R) → s.frames ≡ x ∷ [] → is_finished s ≡ false
  still_open s x e = rw e refl

  -- a frame that gives one address, over no operands
  abbrev opened : Bool → Frame R
  opened is_64 = record { kind = block_kind; block = value_block (address is_64); height = 0; unreachable = false; init_height = 0 }

  abbrev inside : Bool → List (Operand R) → List ℕ → State R
  inside is_64 xs inits = record { operands = xs; frames = opened is_64 ∷ []; inits = inits }

  -- an operand of an address type is no reference
  no_address : (W : World R) (is_64 : Bool) (x : Operand R) → is_reference x ≡ true → matches_operand W x (address is_64) ≡ true → ⊥
  no_address W is_64 bottom e m = no e
  no_address W is_64 (known i32) e m = no e
  no_address W is_64 (known i64) e m = no e
  no_address W is_64 (known f32) e m = no e
  no_address W is_64 (known f64) e m = no e
  no_address W is_64 (known v128) e m = no e
  no_address W true (known (reference r)) e m = no m
  no_address W false (known (reference r)) e m = no m
  no_address W true bottom_reference e m = no m
  no_address W false bottom_reference e m = no m
  no_address W true (open_reference k) e m = no m
  no_address W false (open_reference k) e m = no m

  -- the one operand that is left
  some_left : (x : Operand R) (xs : List (Operand R)) → (length (x ∷ xs) == 0) ≡ false
  some_left x xs = grind (arith, nat_tests)

  one_left : (x : Operand R) (xs : List (Operand R)) → has_reference (x ∷ xs) ≡ true → (length xs == 0) ≡ true → is_reference x ≡ true
  one_left x [] e l = alone (is_reference x) e
  one_left x (y ∷ ys) e l = no (sym (some_left y ys) ∙ l)

  first_popped : (is_64 : Bool) (x : Operand R) (xs : List (Operand R)) (inits : List ℕ) → pop_any (inside is_64 (x ∷ xs) inits) ≡ Some (x, inside is_64 xs inits)
  first_popped is_64 x xs inits = rw (some_left x xs) refl

module _ {R : Type 0} (W : World R) (B : Surroundings R) (is_64 : Bool) where
  -- where the frame ends no reference is among the operands
  left_inside : (xs : List (Operand R)) (inits : List ℕ) (t : State R) → leave_in W B (opened is_64 ∷ []) (inside is_64 xs inits) ≡ Some t → has_reference xs ≡ true → ⊥
  left_inside [] inits t e h = no h
  left_inside (x ∷ xs) inits t e h =
      let s = inside is_64 (x ∷ xs) inits in
      let a = bind-gives (pop_frame W B (opened is_64) [] (record { takes = []; gives = address is_64 ∷ [] }) s) _ t e in
      let b = bind-gives (pop_vals W (address is_64 ∷ []) s) _ a.0 a.1 in
      let p = bind-gives (pop_any s) _ b.0 b.1 in
      let is : (x, inside is_64 xs inits) ≡ p.0 = the_same (x, inside is_64 xs inits) p.0 (sym (first_popped is_64 x xs inits) ∙ p.1) in
      let c = guard-gives (matches_operand W p.0.0 (address is_64)) p.0.1 b.0 p.2 in
      let d = guard-gives (length b.0.operands == 0) _ a.0 b.2 in
      let left : xs ≡ b.0.operands = ap (λ (q : Operand R × State R). q.1.operands) is ∙ ap (λ (q : State R). q.operands) c.1 in
      no_address W is_64 x (one_left x xs h (ap (λ (ys : List (Operand R)). length ys == 0) left ∙ d.0)) (ap (λ (q : Operand R × State R). matches_operand W q.0 (address is_64)) is ∙ c.0)

  at_end : (s t : State R) → s.frames ≡ opened is_64 ∷ [] → has_reference s.operands ≡ true → step_in W B (control end_) s ≡ Some t → ⊥
  at_end s t f h e =
      let a = bind-gives (leave_in W B s.frames s) (run W B []) t (step-runs W B (control end_) s t e) in
      let same : s ≡ inside is_64 s.operands s.inits = λ i. record { operands = s.operands; frames = f i; inits = s.inits } in
      left_inside s.operands s.inits a.0 (subst (λ (q : State R). leave_in W B q.frames q ≡ Some a.0) same a.1) h

  -- behind the end there are no instructions
  none_behind : (ops : List (Instruction ℕ)) (s t : State R) → s.frames ≡ [] → steps_in W B ops s ≡ Some t → ops ≡ []
  none_behind [] s t e f = refl
  none_behind (op ∷ ops) s t e f =
      let shut : is_open s ≡ false = none_open s [] e refl in
      let refused : steps_in W B (op ∷ ops) s ≡ None = rw shut refl in
      none t (sym refused ∙ f)

module _ {R : Type 0} (same : R → R → Bool) (B : Surroundings R) (imported : ℕ) (is_64 : Bool) where
  abbrev W : World R
  W = world_of same B.context

  abbrev Allowed : Instruction ℕ → Type 0
  Allowed op = is_allowed B imported op ≡ true

  abbrev counted : ReferencesAreCounted same B
  counted = constants_give_references same B

  constant_first : (op : Instruction ℕ) (ops : List (Instruction ℕ)) → All Allowed (op ∷ ops) → is_constant B.features op ≡ true
  constant_first op ops a = (both (is_constant B.features op) (is_readable B.features imported B.context.globals op) (All-head Allowed op ops a)).0

  -- from operands with a reference on no instructions lead to the end
  abbrev Lost : List (Instruction ℕ) → Type 0
  Lost ops = (s t : State R) → s.frames ≡ opened is_64 ∷ [] → has_reference s.operands ≡ true → All Allowed ops → steps_in W B ops s ≡ Some t → is_finished t ≡ true → ⊥

  lost_by : (op : Instruction ℕ) (ops : List (Instruction ℕ)) → Lost ops → is_constant B.features op ≡ true → IsSorted op
      → (s u t : State R) → s.frames ≡ opened is_64 ∷ [] → has_reference s.operands ≡ true → step_in W B op s ≡ Some u → All Allowed ops → steps_in W B ops u ≡ Some t → is_finished t ≡ true → ⊥
  lost_by op ops rest k (inl is) s u t f h e a more c = at_end W B is_64 s u f h (subst (λ i. step_in W B i s ≡ Some u) is e)
  lost_by op ops rest k (inr (inl g)) s u t f h e a more c =
      rest u t (step-keeps W B op k g.0 s u e ∙ f) (given_there s.operands u.operands (counted.gives_one op s u g.1 e)) a more c
  lost_by op ops rest k (inr (inr n)) s u t f h e a more c =
      rest u t (step-keeps W B op k n.0 s u e ∙ f) (still_there s.operands u.operands (counted.takes_none op s u n.1 e) h) a more c

  lost : (ops : List (Instruction ℕ)) → Lost ops
  lost [] s t f h a e c = no (sym (still_open s (opened is_64) f) ∙ ap is_finished (the_same s t e) ∙ c)
  lost (op ∷ ops) s t f h a e c =
      let b = bind-gives (step_in W B op s) (steps_in W B ops) t e in
      let k = constant_first op ops a in
      lost_by op ops (lost ops) k (sorted B.features op k) s b.0 t f h b.1 (All-tail Allowed op ops a) b.2 c

  -- so none of them gives one
  abbrev NamesNone : List (Instruction ℕ) → Type 0
  NamesNone ops = (s t : State R) → s.frames ≡ opened is_64 ∷ [] → All Allowed ops → steps_in W B ops s ≡ Some t → is_finished t ≡ true → flat_map functions_named ops ≡ []

  names_by : (op : Instruction ℕ) (ops : List (Instruction ℕ)) → NamesNone ops → is_constant B.features op ≡ true → IsSorted op
      → (s u t : State R) → s.frames ≡ opened is_64 ∷ [] → step_in W B op s ≡ Some u → All Allowed ops → steps_in W B ops u ≡ Some t → is_finished t ≡ true → flat_map functions_named (op ∷ ops) ≡ []
  names_by op ops rest k (inl is) s u t f e a more c =
      let left : ops ≡ [] = none_behind W B is_64 ops u t (end-frames W B (opened is_64) s u f (subst (λ i. step_in W B i s ≡ Some u) is e)) more in
      λ i. functions_named (is i) ++ flat_map functions_named (left i)
  names_by op ops rest k (inr (inl g)) s u t f e a more c =
      absurd (lost ops u t (step-keeps W B op k g.0 s u e ∙ f) (given_there s.operands u.operands (counted.gives_one op s u g.1 e)) a more c)
  names_by op ops rest k (inr (inr n)) s u t f e a more c =
      let behind = rest u t (step-keeps W B op k n.0 s u e ∙ f) a more c in
      λ i. n.2 i ++ behind i

  names : (ops : List (Instruction ℕ)) → NamesNone ops
  names [] s t f a e c = refl
  names (op ∷ ops) s t f a e c =
      let b = bind-gives (step_in W B op s) (steps_in W B ops) t e in
      let k = constant_first op ops a in
      names_by op ops (names ops) k (sorted B.features op k) s b.0 t f b.1 (All-tail Allowed op ops a) b.2 c

pub numbers_name_no_functions : {R : Type 0} → NumbersNameNoFunctions R
unfolding named
numbers_name_no_functions same F C imported visible is_64 e c =
    let x = c.is in
    ap (flat_map functions_named) (sym (determined x.instructions e x.written))
    ∙ names same (around F (seeing visible C)) imported is_64 x.instructions (start (value_block (address is_64))) c.last refl x.allowed x.typed x.finished
