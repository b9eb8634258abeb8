-- Operands taken and given one by one, and list by list.
use Rattle.std.proofs.Common.{◌≡◌, refl, sym, ap, ◌∙◌, ℕ, Bool, true, false, ◌==◌, List, [], ◌∷◌, ◌++◌, length, Option, Some, None, option_map, is_some, slice_get}
use Rattle.std.proofs.lemmas.Bool.Decides.{Decides-eqb}
use Rattle.std.proofs.lemmas.Option.{same_Some, none-some}
use Rattle.wasm_spec_rules.specs.WasmSpec.Syntax.{Val}
use Rattle.wasm_spec_rules.specs.WasmSpec.MatchingTests.{World}
use Rattle.wasm_operators.specs.Instructions.{Instruction}
use Rattle.wasm_spec_rules.specs.Attempts.{◌>>=◌, guard, last_of, front_of}
use Rattle.wasm_spec_steps.specs.Bodies.{Surroundings}
use Rattle.wasm_spec_steps.specs.Machine.{Operand, bottom, known, Frame, State, push_operand, pushed_onto, push_vals, popped, pop_any, matches_operand, pop_val, pop_vals}
use Rattle.wasm_spec_steps.specs.Actions.{OperandTypes, these, params, results, label, returned, local, global, function_reference, new_reference, descriptor_of, descriptor_for, fields, element, field, table_address, memory_address, table_element, segment, lesser_table_address, lesser_memory_address, top, repeated, front, last, continued, taken_by, given_by, joined, before, behind, Action, take, give}
use Rattle.wasm_spec_steps.specs.Shapes.{shape_of}
use Rattle.wasm_spec_steps.specs.Meanings.{one, copies, all_but, last_ones, label_by, frame_signature, continued_signature, types_at, act, run}
use Rattle.wasm_spec_steps.specs.Steps.{actions_of, is_open, step_in, steps_in}
use Rattle.wasm_spec_steps.specs.StackLaws.{ListsAreTakenInTurn, TakingKeepsFrames, TypesAreTakenInTurn, IsUnreached, UnreachedCodeTakesAnything, ActionsAreRunInTurn}

-- attempts
module _ {A B C : Type 0} where
  bind-bind : (o : Option A) (g : A → Option B) (h : B → Option C) → ((o >>= g) >>= h) ≡ (o >>= λ x. g x >>= h)
  bind-bind None g h = refl
  bind-bind (Some x) g h = refl

module _ {A B : Type 0} where
  abbrev refused : A → Option B
  refused x = None

  bind-none : (o : Option A) → None ≡ (o >>= refused)
  bind-none None = refl
  bind-none (Some x) = refl

  bind-like : (o : Option A) (g h : A → Option B) → ((x : A) → o ≡ Some x → g x ≡ h x) → (o >>= g) ≡ (o >>= h)
  bind-like None g h e = refl
  bind-like (Some x) g h e = e x refl

  bind-gives : (o : Option A) (g : A → Option B) (b : B) → (o >>= g) ≡ Some b → (a : A) × (o ≡ Some a) × (g a ≡ Some b)
  bind-gives None g b e = absurd (none-some b e)
  bind-gives (Some a) g b e = (a, refl, e)

  bind-refused : (o : Option A) (g : A → Option B) → o ≡ None → (o >>= g) ≡ None
  bind-refused o g e = ap (λ (q : Option A). q >>= g) e

bind-some : {A : Type 0} (o : Option A) → o ≡ (o >>= λ x. Some x)
bind-some None = refl
bind-some (Some x) = refl

guard-gives : {A : Type 0} (c : Bool) (x y : A) → guard c x ≡ Some y → x ≡ y
guard-gives true x y e = same_Some x y e
guard-gives false x y e = absurd (none-some y e)

-- a list with a last item
with_last : {A : Type 0} (xs : List A) (x : A) → last_of xs ≡ Some x → xs ≡ front_of xs ++ x ∷ []
with_last [] x e = absurd (none-some x e)
with_last (y ∷ []) x e = ap (λ z. z ∷ []) (same_Some y x e)
with_last (y ∷ z ∷ zs) x e = ap (λ ws. y ∷ ws) (with_last (z ∷ zs) x e)

module _ {R : Type 0} where
  pushed_onto-append : (vs ws : List (Val R)) (xs : List (Operand R)) → pushed_onto (vs ++ ws) xs ≡ pushed_onto ws (pushed_onto vs xs)
  pushed_onto-append [] ws xs = refl
  pushed_onto-append (v ∷ vs) ws xs = pushed_onto-append vs ws (known v ∷ xs)

  pub push_vals-append : (vs ws : List (Val R)) (s : State R) → push_vals (vs ++ ws) s ≡ push_vals ws (push_vals vs s)
  push_vals-append vs ws s = λ i. record s { operands = pushed_onto-append vs ws s.operands i }

  pub push_vals-last : (vs : List (Val R)) (v : Val R) (s : State R) → last_of vs ≡ Some v → push_vals vs s ≡ push_operand (known v) (push_vals (front_of vs) s)
  push_vals-last vs v s e = ap (λ (ws : List (Val R)). push_vals ws s) (with_last vs v e) ∙ push_vals-append (front_of vs) (v ∷ []) s

  -- pops change operands alone
  popped-frames : (b u : Bool) (xs : List (Operand R)) (s : State R) (p : Operand R × State R) → popped b u xs s ≡ Some p → (p.1.frames ≡ s.frames) × (p.1.inits ≡ s.inits)
  popped-frames true true xs s p e = let h = same_Some (bottom, s) p e in (ap (λ (q : Operand R × State R). q.1.frames) (sym h), ap (λ (q : Operand R × State R). q.1.inits) (sym h))
  popped-frames true false xs s p e = absurd (none-some p e)
  popped-frames false u [] s p e = absurd (none-some p e)
  popped-frames false u (x ∷ xs) s p e =
      let h = same_Some (x, record s { operands = xs }) p e in
      (ap (λ (q : Operand R × State R). q.1.frames) (sym h), ap (λ (q : Operand R × State R). q.1.inits) (sym h))

  pub pop_any-frames : (s : State R) (p : Operand R × State R) → pop_any s ≡ Some p → (p.1.frames ≡ s.frames) × (p.1.inits ≡ s.inits)
  pop_any-frames s p e = let f = bind-gives (slice_get s.frames 0) _ p e in popped-frames _ _ s.operands s p f.2

  -- in code that isn't reached
  pub pop_any-unreached : (s : State R) → IsUnreached s → pop_any s ≡ Some (bottom, s)
  pop_any-unreached s h =
      (λ i. h.innermost i >>= λ y. popped (length s.operands == y.height) y.unreachable s.operands s)
      ∙ (λ i. popped ((Decides-eqb (length s.operands) h.frame.height).1 h.at_height i) (h.unreachable i) s.operands s)

module _ {R : Type 0} (W : World R) where
  pub pop_vals-append : (vs ws : List (Val R)) (s : State R) → pop_vals W (vs ++ ws) s ≡ (pop_vals W ws s >>= pop_vals W vs)
  pop_vals-append [] ws s = bind-some (pop_vals W ws s)
  pop_vals-append (v ∷ vs) ws s =
      ap (λ (o : Option (State R)). o >>= λ t. pop_val W v t) (pop_vals-append vs ws s)
      ∙ bind-bind (pop_vals W ws s) (pop_vals W vs) (λ t. pop_val W v t)

  pub pop_vals-last : (vs : List (Val R)) (v : Val R) (s : State R) → last_of vs ≡ Some v → pop_vals W vs s ≡ (pop_val W v s >>= pop_vals W (front_of vs))
  pop_vals-last vs v s e = ap (λ (ws : List (Val R)). pop_vals W ws s) (with_last vs v e) ∙ pop_vals-append (front_of vs) (v ∷ []) s

  pub pop_vals-refused : (vs ws : List (Val R)) (s : State R) → pop_vals W ws s ≡ None → pop_vals W (vs ++ ws) s ≡ None
  pop_vals-refused vs ws s e = pop_vals-append vs ws s ∙ bind-refused (pop_vals W ws s) (pop_vals W vs) e

  pub pop_val-frames : (v : Val R) (s t : State R) → pop_val W v s ≡ Some t → (t.frames ≡ s.frames) × (t.inits ≡ s.inits)
  pop_val-frames v s t e =
      let f = bind-gives (pop_any s) _ t e in
      let g = guard-gives (matches_operand W f.0.0 v) f.0.1 t f.2 in
      let h = pop_any-frames s f.0 f.1 in
      (ap (λ (q : State R). q.frames) (sym g) ∙ h.0, ap (λ (q : State R). q.inits) (sym g) ∙ h.1)

  pub pop_vals-frames : (vs : List (Val R)) (s t : State R) → pop_vals W vs s ≡ Some t → (t.frames ≡ s.frames) × (t.inits ≡ s.inits)
  pop_vals-frames [] s t e = let h = same_Some s t e in (ap (λ (q : State R). q.frames) (sym h), ap (λ (q : State R). q.inits) (sym h))
  pop_vals-frames (v ∷ vs) s t e =
      let f = bind-gives (pop_vals W vs s) _ t e in
      let g = pop_vals-frames vs s f.0 f.1 in
      let h = pop_val-frames v f.0 t f.2 in
      (h.0 ∙ g.0, h.1 ∙ g.1)

  pub pop_vals-unreached : (s : State R) → IsUnreached s → (vs : List (Val R)) → pop_vals W vs s ≡ Some s
  pop_vals-unreached s h [] = refl
  pop_vals-unreached s h (v ∷ vs) =
      ap (λ (o : Option (State R)). o >>= λ t. pop_val W v t) (pop_vals-unreached s h vs)
      ∙ ap (λ (o : Option (Operand R × State R)). o >>= λ p. guard (matches_operand W p.0 v) p.1) (pop_any-unreached s h)

module _ {R : Type 0} (W : World R) (B : Surroundings R) where
  -- what names types looks at no operand
  pub types_at-frames : (s r : State R) → r.frames ≡ s.frames → (t : OperandTypes) → types_at W B r t ≡ types_at W B s t
  types_at-frames s r e (these vs) = refl
  types_at-frames s r e (params g) = refl
  types_at-frames s r e (results g) = refl
  types_at-frames s r e (label n) = ap (λ (fs : List (Frame R)). slice_get fs n >>= λ x. option_map (label_by x.kind) (frame_signature W B x)) e
  types_at-frames s r e returned = ap (λ (fs : List (Frame R)). last_of fs >>= λ x. option_map (λ g. g.gives) (frame_signature W B x)) e
  types_at-frames s r e (local n) = refl
  types_at-frames s r e (global n) = refl
  types_at-frames s r e (function_reference n) = refl
  types_at-frames s r e (new_reference n) = refl
  types_at-frames s r e (descriptor_of n) = refl
  types_at-frames s r e (fields n) = refl
  types_at-frames s r e (element n) = refl
  types_at-frames s r e (field n k) = refl
  types_at-frames s r e (table_address n) = refl
  types_at-frames s r e (memory_address n) = refl
  types_at-frames s r e (table_element n) = refl
  types_at-frames s r e (segment n) = refl
  types_at-frames s r e (lesser_table_address m n) = refl
  types_at-frames s r e (lesser_memory_address m n) = refl
  types_at-frames s r e (top q) = refl
  types_at-frames s r e (descriptor_for x) = refl
  types_at-frames s r e (repeated n t) = ap (option_map (copies n)) (types_at-frames s r e t)
  types_at-frames s r e (front t) = ap (option_map front_of) (types_at-frames s r e t)
  types_at-frames s r e (last t) = ap (λ (o : Option (List (Val R))). one (o >>= last_of)) (types_at-frames s r e t)
  types_at-frames s r e (continued n) = refl
  types_at-frames s r e (taken_by t) = ap (λ (o : Option (List (Val R))). option_map (λ g. g.takes) (o >>= continued_signature W B)) (types_at-frames s r e t)
  types_at-frames s r e (given_by t) = ap (λ (o : Option (List (Val R))). option_map (λ g. g.gives) (o >>= continued_signature W B)) (types_at-frames s r e t)
  types_at-frames s r e (before t u) = λ i. types_at-frames s r e t i >>= λ vs. types_at-frames s r e u i >>= λ ws. all_but (length ws) vs
  types_at-frames s r e (behind t u) = λ i. types_at-frames s r e t i >>= λ vs. types_at-frames s r e u i >>= λ ws. last_ones (length ws) vs
  types_at-frames s r e (joined t u) = λ i. types_at-frames s r e t i >>= λ vs. types_at-frames s r e u i >>= λ ws. Some (vs ++ ws)

  -- lists that may not be there, taken and given
  taking : State R → Option (List (Val R)) → Option (State R)
  taking s o = o >>= λ vs. pop_vals W vs s

  giving : State R → Option (List (Val R)) → Option (State R)
  giving s o = o >>= λ vs. Some (push_vals vs s)

  taken-joined : (s : State R) (o p : Option (List (Val R))) → ((o >>= λ vs. p >>= λ ws. Some (vs ++ ws)) >>= λ vs. pop_vals W vs s) ≡ ((p >>= λ ws. pop_vals W ws s) >>= λ r. o >>= λ vs. pop_vals W vs r)
  taken-joined s None None = refl
  taken-joined s None (Some ws) = bind-none (pop_vals W ws s)
  taken-joined s (Some vs) None = refl
  taken-joined s (Some vs) (Some ws) = pop_vals-append W vs ws s

  taken-frames : (t u : OperandTypes) (s r : State R) → act W B (take u) s ≡ Some r → types_at W B r t ≡ types_at W B s t
  taken-frames t u s r e = let f = bind-gives (types_at W B s u) _ r e in types_at-frames s r (pop_vals-frames W f.0 s r f.2).0 t

  take-joined : (t u : OperandTypes) (s : State R) → act W B (take (joined t u)) s ≡ (act W B (take u) s >>= act W B (take t))
  take-joined t u s =
      taken-joined s (types_at W B s t) (types_at W B s u)
      ∙ bind-like (act W B (take u) s) (λ r. types_at W B s t >>= λ vs. pop_vals W vs r) (act W B (take t))
      (λ r e. ap (λ (o : Option (List (Val R))). o >>= λ vs. pop_vals W vs r) (sym (taken-frames t u s r e)))

  given-joined : (s : State R) (o p : Option (List (Val R))) → ((o >>= λ vs. p >>= λ ws. Some (vs ++ ws)) >>= λ vs. Some (push_vals vs s)) ≡ ((o >>= λ vs. Some (push_vals vs s)) >>= λ r. p >>= λ ws. Some (push_vals ws r))
  given-joined s None p = refl
  given-joined s (Some vs) None = refl
  given-joined s (Some vs) (Some ws) = ap Some (push_vals-append vs ws s)

  given-frames : (t u : OperandTypes) (s r : State R) → act W B (give u) s ≡ Some r → types_at W B r t ≡ types_at W B s t
  given-frames t u s r e =
      let f = bind-gives (types_at W B s u) _ r e in
      types_at-frames s r (ap (λ (q : State R). q.frames) (sym (same_Some (push_vals f.0 s) r f.2))) t

  give-joined : (t u : OperandTypes) (s : State R) → act W B (give (joined t u)) s ≡ (act W B (give t) s >>= act W B (give u))
  give-joined t u s =
      given-joined s (types_at W B s t) (types_at W B s u)
      ∙ bind-like (act W B (give t) s) (λ r. types_at W B s u >>= λ vs. Some (push_vals vs r)) (act W B (give u))
      (λ r e. ap (λ (o : Option (List (Val R))). o >>= λ vs. Some (push_vals vs r)) (sym (given-frames u t s r e)))

  -- all of a list that has a last item
  taken-last : (s : State R) (o : Option (List (Val R))) (l : Option (Val R)) → (o >>= last_of) ≡ l → is_some (one l) ≡ true →
      (o >>= λ vs. pop_vals W vs s) ≡ ((one l >>= λ vs. pop_vals W vs s) >>= λ r. option_map front_of o >>= λ vs. pop_vals W vs r)
  taken-last s o None e h = absurd (let f : false ≡ true = h in cc)
  taken-last s None (Some v) e h = absurd (none-some v e)
  taken-last s (Some vs) (Some v) e h = pop_vals-last W vs v s e

  take-last : (t : OperandTypes) (s : State R) → is_some (types_at W B s (last t)) ≡ true → act W B (take t) s ≡ (act W B (take (last t)) s >>= act W B (take (front t)))
  take-last t s h =
      taken-last s (types_at W B s t) (types_at W B s t >>= last_of) refl h
      ∙ bind-like (act W B (take (last t)) s) (λ r. types_at W B s (front t) >>= λ vs. pop_vals W vs r) (act W B (take (front t)))
      (λ r e. ap (λ (o : Option (List (Val R))). o >>= λ vs. pop_vals W vs r) (sym (taken-frames (front t) (last t) s r e)))

  given-last : (s : State R) (o : Option (List (Val R))) (l : Option (Val R)) → (o >>= last_of) ≡ l → is_some (one l) ≡ true →
      (o >>= λ vs. Some (push_vals vs s)) ≡ ((option_map front_of o >>= λ vs. Some (push_vals vs s)) >>= λ r. one l >>= λ vs. Some (push_vals vs r))
  given-last s o None e h = absurd (let f : false ≡ true = h in cc)
  given-last s None (Some v) e h = absurd (none-some v e)
  given-last s (Some vs) (Some v) e h = ap Some (push_vals-last vs v s e)

  give-last : (t : OperandTypes) (s : State R) → is_some (types_at W B s (last t)) ≡ true → act W B (give t) s ≡ (act W B (give (front t)) s >>= act W B (give (last t)))
  give-last t s h =
      given-last s (types_at W B s t) (types_at W B s t >>= last_of) refl h
      ∙ bind-like (act W B (give (front t)) s) (λ r. types_at W B s (last t) >>= λ vs. Some (push_vals vs r)) (act W B (give (last t)))
      (λ r e. ap (λ (o : Option (List (Val R))). o >>= λ vs. Some (push_vals vs r)) (sym (given-frames (last t) (front t) s r e)))

  -- runs
  pub run-append : (as_ bs : List Action) (s : State R) → run W B (as_ ++ bs) s ≡ (run W B as_ s >>= run W B bs)
  run-append [] bs s = refl
  run-append (a ∷ as_) bs s =
      bind-like (act W B a s) (run W B (as_ ++ bs)) (λ t. run W B as_ t >>= run W B bs) (λ t e. run-append as_ bs t)
      ∙ sym (bind-bind (act W B a s) (run W B as_) (run W B bs))

  pub run-refused : (as_ bs : List Action) (s : State R) → run W B as_ s ≡ None → run W B (as_ ++ bs) s ≡ None
  run-refused as_ bs s e = run-append as_ bs s ∙ bind-refused (run W B as_ s) (run W B bs) e

  guard-refused : (c : Bool) (g : State R → Option (State R)) (s : State R) → g s ≡ None → (guard c s >>= g) ≡ None
  guard-refused true g s e = e
  guard-refused false g s e = refl

  pub step_in-refused : (op : Instruction ℕ) (as_ bs : List Action) (s : State R) → actions_of (shape_of op) ≡ as_ ++ bs → run W B as_ s ≡ None → step_in W B op s ≡ None
  step_in-refused op as_ bs s e h = guard-refused (is_open s) (run W B (actions_of (shape_of op))) s (ap (λ (xs : List Action). run W B xs s) e ∙ run-refused as_ bs s h)

  pub steps_in-append : (ops more : List (Instruction ℕ)) (s : State R) → steps_in W B (ops ++ more) s ≡ (steps_in W B ops s >>= steps_in W B more)
  steps_in-append [] more s = refl
  steps_in-append (op ∷ ops) more s =
      bind-like (step_in W B op s) (steps_in W B (ops ++ more)) (λ t. steps_in W B ops t >>= steps_in W B more) (λ t e. steps_in-append ops more t)
      ∙ sym (bind-bind (step_in W B op s) (steps_in W B ops) (steps_in W B more))

pub lists_are_taken_in_turn : {R : Type 0} → ListsAreTakenInTurn R
lists_are_taken_in_turn W = record { taken = pop_vals-append W; given = push_vals-append; taken_last = pop_vals-last W; given_last = push_vals-last }

pub taking_keeps_frames : {R : Type 0} → TakingKeepsFrames R
taking_keeps_frames W = record { frames = λ vs s t e. (pop_vals-frames W vs s t e).0; inits = λ vs s t e. (pop_vals-frames W vs s t e).1 }

pub types_are_taken_in_turn : {R : Type 0} → TypesAreTakenInTurn R
types_are_taken_in_turn W B = record { taken = take-joined W B; given = give-joined W B; taken_last = take-last W B; given_last = give-last W B }

pub unreached_code_takes_anything : {R : Type 0} → UnreachedCodeTakesAnything R
unreached_code_takes_anything W s h = record { one = pop_any-unreached s h; list = pop_vals-unreached W s h }

pub actions_are_run_in_turn : {R : Type 0} → ActionsAreRunInTurn R
actions_are_run_in_turn W B = record {
  actions = run-append W B;
  steps = steps_in-append W B;
  list_refused = pop_vals-refused W;
  refused = run-refused W B;
  step_refused = step_in-refused W B;
}

pub ruleset taken_in_turn = (lists_are_taken_in_turn, taking_keeps_frames, types_are_taken_in_turn, unreached_code_takes_anything)
