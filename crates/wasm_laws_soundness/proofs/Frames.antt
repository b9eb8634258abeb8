-- With other operands below, code does the same.
use Rattle.std.proofs.Common.{◌≡◌, refl, sym, ap, subst, ◌∙◌, ℕ, zero, suc, ◌+◌, ◌-◌, ◌≤◌, Bool, true, false, not, nat_le, ◌==◌, List, [], ◌∷◌, ◌++◌, append_assoc, Option, Some, None, length, take, drop, slice_get, arith}
use Rattle.std.proofs.Math.Seq.{take-append_seam, drop-append_seam}
use Rattle.std.proofs.lemmas.List.{length-append, length-drop, take-append-drop}
use Rattle.std.proofs.lemmas.Bool.{le-leb, leb-true}
use Rattle.wasm_spec_steps.specs.WasmSpecRules.WasmSpec.Syntax.{Ref}
use Rattle.wasm_spec_steps.specs.WasmSpecRules.WasmSpec.MatchingTests.{World}
use Rattle.wasm_spec_steps.specs.WasmSpecRules.Attempts.{◌>>=◌}
use Rattle.wasm_spec_steps.specs.WasmSpecRules.Signatures.{Signature, resolve_ref}
use Rattle.wasm_operators.specs.Control.{Block}
use Rattle.wasm_operators.specs.Instructions.{Instruction}
use Rattle.wasm_spec_steps.specs.Bodies.{Surroundings}
use Rattle.wasm_spec_steps.specs.Shapes.{shape_of}
use Rattle.wasm_spec_steps.specs.Meanings.{resolve_block, block_signature}
use Rattle.wasm_spec_instructions.specs.Code.{Opening, a_block, a_loop, an_if, a_try, a_try_table, a_catch, a_catch_all, Code, done, simply, enclosing, choosing_between, handling, delegating_to, Handlers, last_handler, catch_before}
use Rattle.wasm_operators.specs.WasmOperatorsProposals.declared.continuations.Handle.{Handle}
use Rattle.wasm_operators.specs.declared.control.Catch.{Catch}
use Rattle.wasm_operators.specs.declared.control.Catch.TheVariants as catch
use Rattle.wasm_laws_soundness.specs.Values.{Value, i32_value, null, function_at, exception_at, other, Instance, Definition, defined, hosted, Function, Exception, signature_in, is_of}
use Rattle.wasm_laws_soundness.specs.Outcomes.{State, branches, throws, calls_in_place, rethrows, delegates, returns, traps, out_of_steps, stuck, Outcome, falls_through, leaves, Answer, gives, raises, fails, Resumed, ends, suspends, Primitives, cut_if, cut, on_cut, with_top, on_some, on_number, on_one, on_exception, on_function, on_reference, pick, either, on_choice, on_set, put, holding, writing, next, pushing, with_store, answered, on_answer, label, again_from, handed, in_block, in_either, threw, catching, entered, back}
use Rattle.wasm_laws_soundness.specs.Roles as role
use Rattle.wasm_laws_soundness.specs.Roles.{Callee, by_index, by_reference, by_table, Role, role_of, handler_at, operand_count}
use Rattle.wasm_laws_soundness.specs.Interpreter.{Task, does, invokes, label_for, finish, enter_function, with_function, invoke, invoke_in_place, if_of_type, with_callee, by_cast, is_described, by_description, resumed, step_as, if_tag, caught, with_signature, enter, exec, handle, run}
use Rattle.wasm_laws_soundness.specs.Frames.{over, IsSame, falls_so, branches_so, returns_so, calls_so, throws_so, rethrows_so, delegates_so, traps_so, waits_so, stuck_so, NoRunReadsBelow}

module _ {R : Type 0} where
  -- the uppermost operands, with others below
  data Uppermost (n : ℕ) (below vs : List (Value R)) : Type 0 where
    too_few : cut n vs ≡ None → Uppermost n below vs
    enough : (front top : List (Value R)) → cut n vs ≡ Some (front, top) → cut n (below ++ vs) ≡ Some (below ++ front, top) → Uppermost n below vs

  cut-at : (n : ℕ) (a b : List (Value R)) → n ≡ length b → cut n (a ++ b) ≡ Some (a, b)
  cut-at n a b e =
      let l : length (a ++ b) ≡ length a + length b = length-append a b in
      let m : length (a ++ b) - n ≡ length a = omega arith in
      let t : nat_le n (length (a ++ b)) ≡ true = le-leb n (length (a ++ b)) (omega arith) in
      ap (λ c. cut_if c n (a ++ b)) t ∙ ap (λ (k : ℕ). Some (take k (a ++ b), drop k (a ++ b))) m ∙ (λ i. Some (take-append_seam a b i, drop-append_seam a b i))

  uppermost : (n : ℕ) (below vs : List (Value R)) → Uppermost n below vs
  uppermost n below vs = go (nat_le n (length vs)) refl
    where
      go : (b : Bool) → nat_le n (length vs) ≡ b → Uppermost n below vs
      go false e = too_few (ap (λ c. cut_if c n vs) e)
      go true e =
          let front = take (length vs - n) vs in
          let top = drop (length vs - n) vs in
          let w : front ++ top ≡ vs = take-append-drop (length vs - n) vs in
          let h : n ≤ length vs = leb-true n (length vs) e in
          let d : length top ≡ length vs - (length vs - n) = length-drop (length vs - n) vs in
          let l : n ≡ length top = omega arith in
          enough front top (ap (λ c. cut_if c n vs) e)
          (ap (λ (z : List (Value R)). cut n (below ++ z)) (sym w) ∙ ap (cut n) (sym (append_assoc below front top)) ∙ cut-at n (below ++ front) top l)

module _ {R : Type 0} {below : List (Value R)} where
  with_top-same :
      (n : ℕ) (vs : List (Value R)) (f g : List (Value R) → List (Value R) → Outcome R)
      → ((front top : List (Value R)) → IsSame below (f front top) (g (below ++ front) top))
      → IsSame below (with_top n vs f) (with_top n (below ++ vs) g)
  with_top-same n vs f g k = go (uppermost n below vs)
    where
      go : Uppermost n below vs → IsSame below (with_top n vs f) (with_top n (below ++ vs) g)
      go (too_few e) = subst (λ (z : Option (List (Value R) × List (Value R))). IsSame below (on_cut f z) (with_top n (below ++ vs) g)) (sym e) stuck_so
      go (enough front top e h) =
          subst (λ (z : Option (List (Value R) × List (Value R))). IsSame below (on_cut f z) (with_top n (below ++ vs) g)) (sym e)
          (subst (λ (z : Option (List (Value R) × List (Value R))). IsSame below (f front top) (on_cut g z)) (sym h) (k front top))

  on_cut-same :
      (o : Option (List (Value R) × List (Value R))) (f g : List (Value R) → List (Value R) → Outcome R)
      → ((front top : List (Value R)) → IsSame below (f front top) (g front top))
      → IsSame below (on_cut f o) (on_cut g o)
  on_cut-same None f g k = stuck_so
  on_cut-same (Some p) f g k = k p.0 p.1

  on_some-same : {A : Type 0} (o : Option A) (f g : A → Outcome R) → ((x : A) → IsSame below (f x) (g x)) → IsSame below (on_some f o) (on_some g o)
  on_some-same None f g k = stuck_so
  on_some-same (Some x) f g k = k x

  on_number-same : (vs : List (Value R)) (f g : ℕ → Outcome R) → ((n : ℕ) → IsSame below (f n) (g n)) → IsSame below (on_number f vs) (on_number g vs)
  on_number-same (i32_value n ∷ []) f g k = k n
  on_number-same _ f g k = stuck_so

  on_one-same : (vs : List (Value R)) (f g : Value R → Outcome R) → ((v : Value R) → IsSame below (f v) (g v)) → IsSame below (on_one f vs) (on_one g vs)
  on_one-same (v ∷ []) f g k = k v
  on_one-same _ f g k = stuck_so

  on_exception-same : (vs : List (Value R)) (f g : ℕ → Outcome R) → ((n : ℕ) → IsSame below (f n) (g n)) → IsSame below (on_exception f vs) (on_exception g vs)
  on_exception-same (exception_at a ∷ []) f g k = k a
  on_exception-same (null ∷ []) f g k = traps_so
  on_exception-same _ f g k = stuck_so

  on_function-same : (vs : List (Value R)) (f g : ℕ → Outcome R) → ((n : ℕ) → IsSame below (f n) (g n)) → IsSame below (on_function f vs) (on_function g vs)
  on_function-same (function_at a ∷ []) f g k = k a
  on_function-same (null ∷ []) f g k = traps_so
  on_function-same _ f g k = stuck_so

  on_reference-same :
      (vs : List (Value R)) (o p : Outcome R) (f g : Value R → Outcome R) → IsSame below o p → ((v : Value R) → IsSame below (f v) (g v))
      → IsSame below (on_reference o f vs) (on_reference p g vs)
  on_reference-same (null ∷ []) o p f g h k = h
  on_reference-same (function_at a ∷ []) o p f g h k = k (function_at a)
  on_reference-same (exception_at a ∷ []) o p f g h k = k (exception_at a)
  on_reference-same (other j n ∷ []) o p f g h k = k (other j n)
  on_reference-same _ o p f g h k = stuck_so

  on_choice-same :
      (vs : List (Value R)) (f g : Value R → Outcome R) → ((v : Value R) → IsSame below (f v) (g v)) → IsSame below (on_choice f vs) (on_choice g vs)
  on_choice-same (a ∷ b ∷ i32_value n ∷ []) f g k = k (pick n a b)
  on_choice-same _ f g k = stuck_so

  on_set-same :
      (o : Option (Option (Value R))) (f g : Value R → Outcome R) → ((v : Value R) → IsSame below (f v) (g v)) → IsSame below (on_set f o) (on_set g o)
  on_set-same (Some (Some v)) f g k = k v
  on_set-same _ f g k = stuck_so

  pick-same : (n : ℕ) (o p q r : Outcome R) → IsSame below o q → IsSame below p r → IsSame below (pick n o p) (pick n q r)
  pick-same zero o p q r h k = k
  pick-same (suc n) o p q r h k = h

  either-same : (b : Bool) (o p q r : Outcome R) → IsSame below o q → IsSame below p r → IsSame below (either b o p) (either b q r)
  either-same true o p q r h k = h
  either-same false o p q r h k = k

  next-same :
      {o p : Outcome R} (f : State R → Outcome R) → IsSame below o p → ((s : State R) → IsSame below (f s) (f (over below s)))
      → IsSame below (next f o) (next f p)
  next-same f (falls_so {s = s}) k = k s
  next-same f (branches_so more) k = branches_so more
  next-same f (returns_so more) k = returns_so more
  next-same f calls_so k = calls_so
  next-same f (throws_so vs) k = throws_so vs
  next-same f (rethrows_so vs) k = rethrows_so vs
  next-same f (delegates_so vs) k = delegates_so vs
  next-same f traps_so k = traps_so
  next-same f waits_so k = waits_so
  next-same f stuck_so k = stuck_so

  -- operands over what lies below, which other operands are below of
  falls :
      (front top : List (Value R)) (s : State R)
      → IsSame below (falls_through (holding (front ++ top) s)) (falls_through (holding ((below ++ front) ++ top) s))
  falls front top s =
      subst (λ (z : List (Value R)). IsSame below (falls_through (holding (front ++ top) s)) (falls_through (holding z s)))
      (sym (append_assoc below front top)) falls_so

  over_both :
      (f : State R → Outcome R) → ((s : State R) → IsSame below (f s) (f (over below s))) → (front top : List (Value R)) (s : State R)
      → IsSame below (f (holding (front ++ top) s)) (f (holding ((below ++ front) ++ top) s))
  over_both f k front top s =
      subst (λ (z : List (Value R)). IsSame below (f (holding (front ++ top) s)) (f (holding z s))) (sym (append_assoc below front top))
      (k (holding (front ++ top) s))

  label-same :
      (f : State R → Outcome R) → ((s : State R) → IsSame below (f s) (f (over below s))) → (n : ℕ) (front : List (Value R)) (o : Outcome R)
      → IsSame below (label f n front o) (label f n (below ++ front) o)
  label-same f k n front (falls_through s) = falls front s.operands s
  label-same f k n front (leaves (branches zero s)) =
      on_cut-same (cut n s.operands) (λ left top. f (holding (front ++ top) s)) (λ left top. f (holding ((below ++ front) ++ top) s))
      (λ left top. over_both f k front top s)
  label-same f k n front (leaves (branches (suc l) s)) = branches_so []
  label-same f k n front (leaves (rethrows zero s)) = stuck_so
  label-same f k n front (leaves (rethrows (suc l) s)) = rethrows_so s.operands
  label-same f k n front (leaves (delegates zero a s)) = throws_so s.operands
  label-same f k n front (leaves (delegates (suc l) a s)) = delegates_so s.operands
  label-same f k n front (leaves (throws a s)) = throws_so s.operands
  label-same f k n front (leaves (calls_in_place a s)) = calls_so
  label-same f k n front (leaves (returns s)) = returns_so []
  label-same f k n front (leaves traps) = traps_so
  label-same f k n front (leaves out_of_steps) = waits_so
  label-same f k n front (leaves stuck) = stuck_so

  in_block-same : (g : Signature R) (body : State R → Outcome R) (s : State R) → IsSame below (in_block g body s) (in_block g body (over below s))
  in_block-same g body s =
      with_top-same (length g.takes) s.operands (λ front top. label falls_through (length g.gives) front (body (holding top s)))
      (λ front top. label falls_through (length g.gives) front (body (holding top s)))
      (λ front top. label-same falls_through (λ t. falls_so) (length g.gives) front (body (holding top s)))

  in_either-same :
      (g : Signature R) (body otherwise : State R → Outcome R) (s : State R)
      → IsSame below (in_either g body otherwise s) (in_either g body otherwise (over below s))
  in_either-same g body otherwise s =
      with_top-same 1 s.operands (λ front top. on_number (λ n. in_block g (pick n body otherwise) (holding front s)) top)
      (λ front top. on_number (λ n. in_block g (pick n body otherwise) (holding front s)) top)
      (λ front top. on_number-same top (λ n. in_block g (pick n body otherwise) (holding front s))
      (λ n. in_block g (pick n body otherwise) (holding (below ++ front) s))
      (λ n. in_block-same g (pick n body otherwise) (holding front s)))

  catching-same :
      {o p : Outcome R} (f g : ℕ → State R → Exception R → Outcome R) → IsSame below o p
      → ((a : ℕ) (s : State R) (vs : List (Value R)) (e : Exception R) → IsSame below (f a s e) (g a (holding vs s) e))
      → IsSame below (catching f o) (catching g p)
  catching-same f g (throws_so {a = a} {s = s} vs) k =
      on_some-same (slice_get s.store.exceptions a) (λ e. f a s e) (λ e. g a (holding vs s) e) (λ e. k a s vs e)
  catching-same f g falls_so k = falls_so
  catching-same f g (branches_so more) k = branches_so more
  catching-same f g (returns_so more) k = returns_so more
  catching-same f g calls_so k = calls_so
  catching-same f g (rethrows_so vs) k = rethrows_so vs
  catching-same f g (delegates_so vs) k = delegates_so vs
  catching-same f g traps_so k = traps_so
  catching-same f g waits_so k = waits_so
  catching-same f g stuck_so k = stuck_so

  handed-same : {o p : Outcome R} (l : ℕ) → IsSame below o p → IsSame below (handed l o) (handed l p)
  handed-same l (throws_so vs) = delegates_so vs
  handed-same l falls_so = falls_so
  handed-same l (branches_so more) = branches_so more
  handed-same l (returns_so more) = returns_so more
  handed-same l calls_so = calls_so
  handed-same l (rethrows_so vs) = rethrows_so vs
  handed-same l (delegates_so vs) = delegates_so vs
  handed-same l traps_so = traps_so
  handed-same l waits_so = waits_so
  handed-same l stuck_so = stuck_so

  answered-same : (front : List (Value R)) (s : State R) (a : Answer R) → IsSame below (answered front s a) (answered (below ++ front) (over below s) a)
  answered-same front s (gives vs T) = falls front vs (with_store T s)
  answered-same front s (raises a T) = throws_so []
  answered-same front s fails = traps_so

module _ {R : Type 0} (W : World R) (P : Primitives R) (again : Task R → State R → Outcome R)
    (keeps : (t : Task R) (s : State R) (below : List (Value R)) → IsSame below (again t s) (again t (over below s))) (below : List (Value R)) where
  finish-same :
      (n : ℕ) (front : List (Value R)) (s : State R) (o : Outcome R)
      → IsSame below (finish W P again n front s o) (finish W P again n (below ++ front) (over below s) o)
  finish-same n front s (falls_through t) = falls front t.operands (back [] s t)
  finish-same n front s (leaves (branches zero t)) =
      on_cut-same (cut n t.operands) (λ left top. falls_through (back (front ++ top) s t)) (λ left top. falls_through (back ((below ++ front) ++ top) s t))
      (λ left top. falls front top (back [] s t))
  finish-same n front s (leaves (branches (suc l) t)) = stuck_so
  finish-same n front s (leaves (returns t)) =
      on_cut-same (cut n t.operands) (λ left top. falls_through (back (front ++ top) s t)) (λ left top. falls_through (back ((below ++ front) ++ top) s t))
      (λ left top. falls front top (back [] s t))
  finish-same n front s (leaves (calls_in_place a t)) = over_both (again (invokes a)) (λ u. keeps (invokes a) u below) front t.operands (back [] s t)
  finish-same n front s (leaves (throws a t)) = throws_so []
  finish-same n front s (leaves (rethrows l t)) = stuck_so
  finish-same n front s (leaves (delegates zero a t)) = throws_so []
  finish-same n front s (leaves (delegates (suc l) a t)) = stuck_so
  finish-same n front s (leaves traps) = traps_so
  finish-same n front s (leaves out_of_steps) = waits_so
  finish-same n front s (leaves stuck) = stuck_so

  enter_function-same :
      (d : Definition R) (n : ℕ) (front vs : List (Value R)) (s : State R)
      → IsSame below (enter_function W P again d n front vs s) (enter_function W P again d n (below ++ front) vs (over below s))
  enter_function-same (defined B I c) n front vs s = finish-same n front s (again (does B I c) (entered B.locals vs s))
  enter_function-same (hosted k) n front vs s = answered-same front s (P.acts k vs s.store)

  with_function-same :
      (k l : Function R → Signature R → List (Value R) → List (Value R) → Outcome R) (a : ℕ) (s : State R)
      → ((f : Function R) (g : Signature R) (front vs : List (Value R)) → IsSame below (k f g front vs) (l f g (below ++ front) vs))
      → IsSame below (with_function W P again k a s) (with_function W P again l a (over below s))
  with_function-same k l a s h =
      on_some-same (slice_get s.store.functions a)
      (λ f. on_some (λ g. with_top (length g.takes) s.operands (λ front top. k f g front top)) (signature_in W f.type))
      (λ f. on_some (λ g. with_top (length g.takes) (below ++ s.operands) (λ front top. l f g front top)) (signature_in W f.type))
      (λ f. on_some-same (signature_in W f.type) (λ g. with_top (length g.takes) s.operands (λ front top. k f g front top))
      (λ g. with_top (length g.takes) (below ++ s.operands) (λ front top. l f g front top))
      (λ g. with_top-same (length g.takes) s.operands (λ front top. k f g front top) (λ front top. l f g front top) (λ front top. h f g front top)))

  invoke-same : (a : ℕ) (s : State R) → IsSame below (invoke W P again a s) (invoke W P again a (over below s))
  invoke-same a s =
      with_function-same (λ f g front vs. enter_function W P again f.definition (length g.gives) front vs s)
      (λ f g front vs. enter_function W P again f.definition (length g.gives) front vs (over below s)) a s
      (λ f g front vs. enter_function-same f.definition (length g.gives) front vs s)

  in_place-same : (a : ℕ) (s : State R) → IsSame below (invoke_in_place W P again a s) (invoke_in_place W P again a (over below s))
  in_place-same a s =
      with_function-same (λ f g front vs. leaves (calls_in_place a (holding vs s))) (λ f g front vs. leaves (calls_in_place a (holding vs s))) a s
      (λ f g front vs. calls_so)

  module _ (B : Surroundings R) (I : Instance) where
    with_callee-same :
        (c : Callee) (k : ℕ → State R → Outcome R) (s : State R) → ((a : ℕ) (t : State R) → IsSame below (k a t) (k a (over below t)))
        → IsSame below (with_callee W P again B I c k s) (with_callee W P again B I c k (over below s))
    with_callee-same (by_index x) k s h = on_some-same (slice_get I.functions x) (λ a. k a s) (λ a. k a (over below s)) (λ a. h a s)
    with_callee-same by_reference k s h =
        with_top-same 1 s.operands (λ front top. on_function (λ a. k a (holding front s)) top) (λ front top. on_function (λ a. k a (holding front s)) top)
        (λ front top. on_function-same top (λ a. k a (holding front s)) (λ a. k a (holding (below ++ front) s)) (λ a. h a (holding front s)))
    with_callee-same (by_table y x) k s h =
        with_top-same 1 s.operands
        (λ front top. on_answer (λ v t. on_function (if_of_type W P again B I y k t) (v ∷ [])) (holding front s) (P.finds x B I top s.store))
        (λ front top. on_answer (λ v t. on_function (if_of_type W P again B I y k t) (v ∷ [])) (holding front s) (P.finds x B I top s.store))
        (λ front top. found front (P.finds x B I top s.store))
      where
        called : (t : State R) (a : ℕ) → IsSame below (if_of_type W P again B I y k t a) (if_of_type W P again B I y k (over below t) a)
        called t a =
            on_some-same (slice_get B.context.types y) (λ r. on_some (λ f. either (W.below f.type r) (k a t) (leaves traps)) (slice_get t.store.functions a))
            (λ r. on_some (λ f. either (W.below f.type r) (k a (over below t)) (leaves traps)) (slice_get t.store.functions a))
            (λ r. on_some-same (slice_get t.store.functions a) (λ f. either (W.below f.type r) (k a t) (leaves traps))
            (λ f. either (W.below f.type r) (k a (over below t)) (leaves traps))
            (λ f. either-same (W.below f.type r) (k a t) (leaves traps) (k a (over below t)) (leaves traps) (h a t) traps_so))

        found :
            (front : List (Value R)) (a : Answer R)
            → IsSame below (on_answer (λ v t. on_function (if_of_type W P again B I y k t) (v ∷ [])) (holding front s) a)
            (on_answer (λ v t. on_function (if_of_type W P again B I y k t) (v ∷ [])) (holding (below ++ front) s) a)
        found front (gives vs T) =
            on_one-same vs (λ v. on_function (if_of_type W P again B I y k (with_store T (holding front s))) (v ∷ []))
            (λ v. on_function (if_of_type W P again B I y k (with_store T (holding (below ++ front) s))) (v ∷ []))
            (λ v. on_function-same (v ∷ []) (if_of_type W P again B I y k (with_store T (holding front s)))
            (if_of_type W P again B I y k (with_store T (holding (below ++ front) s)))
            (λ a. called (with_store T (holding front s)) a))
        found front (raises a T) = throws_so []
        found front fails = traps_so

    -- a branch with one more operand on top, and operands that go on
    sends-same :
        (l : ℕ) (front : List (Value R)) (v : Value R) (s : State R)
        → IsSame below (leaves (branches l (holding (front ++ v ∷ []) s))) (leaves (branches l (holding ((below ++ front) ++ v ∷ []) s)))
    sends-same l front v s =
        subst (λ (z : List (Value R)). IsSame below (leaves (branches l (holding (front ++ v ∷ []) s))) (leaves (branches l (holding z s))))
        (sym (append_assoc below front (v ∷ []))) (branches_so below)

    writing-same : (x : ℕ) (v : Value R) (s : State R) (vs ws : List (Value R)) → ws ≡ below ++ vs → IsSame below (writing x vs v s) (writing x ws v s)
    writing-same x v s vs ws e =
        on_some-same (put x v s.locals) (λ os. falls_through (record { operands = vs; locals = os; store = s.store }))
        (λ os. falls_through (record { operands = ws; locals = os; store = s.store }))
        (λ os. subst (λ (z : List (Value R)). IsSame below (falls_through (record { operands = vs; locals = os; store = s.store }))
        (falls_through (record { operands = z; locals = os; store = s.store }))) (sym e) falls_so)

    by_cast-same :
        (sends : Bool → Bool) (l : ℕ) (s : State R) (front : List (Value R)) (v : Value R) (b : Bool)
        → IsSame below (by_cast W P again B I sends l s front v b) (by_cast W P again B I sends l (over below s) (below ++ front) v b)
    by_cast-same sends l s front v b =
        either-same (sends b) (leaves (branches l (holding (front ++ v ∷ []) s))) (pushing front v s)
        (leaves (branches l (holding ((below ++ front) ++ v ∷ []) s))) (pushing (below ++ front) v s)
        (sends-same l front v s) (falls front (v ∷ []) s)

    casts-same :
        (sends : Bool → Bool) (l : ℕ) (q : Option (Ref R)) (s : State R)
        → IsSame below (with_top 1 s.operands (λ front top. on_some (λ r. on_one (λ v. by_cast W P again B I sends l s front v (is_of W s.store r v)) top) q))
        (with_top 1 (below ++ s.operands)
        (λ front top. on_some (λ r. on_one (λ v. by_cast W P again B I sends l (over below s) front v (is_of W s.store r v)) top) q))
    casts-same sends l q s =
        with_top-same 1 s.operands (λ front top. on_some (λ r. on_one (λ v. by_cast W P again B I sends l s front v (is_of W s.store r v)) top) q)
        (λ front top. on_some (λ r. on_one (λ v. by_cast W P again B I sends l (over below s) front v (is_of W s.store r v)) top) q)
        (λ front top. on_some-same q (λ r. on_one (λ v. by_cast W P again B I sends l s front v (is_of W s.store r v)) top)
        (λ r. on_one (λ v. by_cast W P again B I sends l (over below s) (below ++ front) v (is_of W s.store r v)) top)
        (λ r. on_one-same top (λ v. by_cast W P again B I sends l s front v (is_of W s.store r v))
        (λ v. by_cast W P again B I sends l (over below s) (below ++ front) v (is_of W s.store r v))
        (λ v. by_cast-same sends l s front v (is_of W s.store r v))))

    described-same :
        (sends : Bool → Bool) (l : ℕ) (q : Ref ℕ) (s : State R) (d : Value R)
        → IsSame below (by_description W P again B I sends l q s d) (by_description W P again B I sends l q (over below s) d)
    described-same sends l q s d =
        with_top-same 1 s.operands
        (λ front top. on_some (λ r. on_one (λ v. by_cast W P again B I sends l s front v (is_described P s.store r d v)) top) (resolve_ref B.context.types q))
        (λ front top. on_some (λ r. on_one (λ v. by_cast W P again B I sends l (over below s) front v (is_described P s.store r d v)) top) (resolve_ref B.context.types q))
        (λ front top. on_some-same (resolve_ref B.context.types q) (λ r. on_one (λ v. by_cast W P again B I sends l s front v (is_described P s.store r d v)) top)
        (λ r. on_one (λ v. by_cast W P again B I sends l (over below s) (below ++ front) v (is_described P s.store r d v)) top)
        (λ r. on_one-same top (λ v. by_cast W P again B I sends l s front v (is_described P s.store r d v))
        (λ v. by_cast W P again B I sends l (over below s) (below ++ front) v (is_described P s.store r d v))
        (λ v. by_cast-same sends l s front v (is_described P s.store r d v))))

    descriptions-same :
        (sends : Bool → Bool) (l : ℕ) (q : Ref ℕ) (s : State R)
        → IsSame below (with_top 1 s.operands (λ front top. on_reference (leaves traps) (λ d. by_description W P again B I sends l q (holding front s) d) top))
        (with_top 1 (below ++ s.operands) (λ front top. on_reference (leaves traps) (λ d. by_description W P again B I sends l q (holding front (over below s)) d) top))
    descriptions-same sends l q s =
        with_top-same 1 s.operands (λ front top. on_reference (leaves traps) (λ d. by_description W P again B I sends l q (holding front s) d) top)
        (λ front top. on_reference (leaves traps) (λ d. by_description W P again B I sends l q (holding front (over below s)) d) top)
        (λ front top. on_reference-same top (leaves traps) (leaves traps) (λ d. by_description W P again B I sends l q (holding front s) d)
        (λ d. by_description W P again B I sends l q (holding (below ++ front) s) d) traps_so
        (λ d. described-same sends l q (holding front s) d))

    resumed-same :
        (hs : List Handle) (front : List (Value R)) (s : State R) (o : Resumed R)
        → IsSame below (resumed W P again B I hs front s o) (resumed W P again B I hs (below ++ front) (over below s) o)
    resumed-same hs front s (ends r) = answered-same front s r
    resumed-same hs front s (suspends k vs v T) =
        on_some-same (handler_at hs k) (λ y. leaves (branches y.1 (holding (vs ++ v ∷ []) (with_store T s))))
        (λ y. leaves (branches y.1 (holding (vs ++ v ∷ []) (with_store T (over below s))))) (λ y. branches_so [])

    step-same : (r : Role) (i : Instruction ℕ) (s : State R) → IsSame below (step_as W P again B I r i s) (step_as W P again B I r i (over below s))
    step-same role.computing i s =
        on_some-same (operand_count W B (shape_of i)) (λ n. with_top n s.operands (λ front top. answered front s (P.computes i B I top s.store)))
        (λ n. with_top n (below ++ s.operands) (λ front top. answered front (over below s) (P.computes i B I top s.store)))
        (λ n. with_top-same n s.operands (λ front top. answered front s (P.computes i B I top s.store))
        (λ front top. answered front (over below s) (P.computes i B I top s.store))
        (λ front top. answered-same front s (P.computes i B I top s.store)))
    step-same role.trapping i s = traps_so
    step-same role.returning i s = returns_so below
    step-same role.dropping i s =
        with_top-same 1 s.operands (λ front top. falls_through (holding front s)) (λ front top. falls_through (holding front s)) (λ front top. falls_so)
    step-same role.choosing i s =
        with_top-same 3 s.operands (λ front top. on_choice (λ v. pushing front v s) top) (λ front top. on_choice (λ v. pushing front v s) top)
        (λ front top. on_choice-same top (λ v. pushing front v s) (λ v. pushing (below ++ front) v s) (λ v. falls front (v ∷ []) s))
    step-same role.throwing_again i s =
        with_top-same 1 s.operands (λ front top. on_exception (λ a. leaves (throws a (holding front s))) top)
        (λ front top. on_exception (λ a. leaves (throws a (holding front s))) top)
        (λ front top. on_exception-same top (λ a. leaves (throws a (holding front s))) (λ a. leaves (throws a (holding (below ++ front) s)))
        (λ a. throws_so (below ++ front)))
    step-same role.testing_null i s =
        with_top-same 1 s.operands (λ front top. on_reference (pushing front (i32_value 1) s) (λ v. pushing front (i32_value 0) s) top)
        (λ front top. on_reference (pushing front (i32_value 1) s) (λ v. pushing front (i32_value 0) s) top)
        (λ front top. on_reference-same top (pushing front (i32_value 1) s) (pushing (below ++ front) (i32_value 1) s) (λ v. pushing front (i32_value 0) s)
        (λ v. pushing (below ++ front) (i32_value 0) s)
        (falls front (i32_value 1 ∷ []) s) (λ v. falls front (i32_value 0 ∷ []) s))
    step-same role.asserting_non_null i s =
        with_top-same 1 s.operands (λ front top. on_reference (leaves traps) (λ v. pushing front v s) top)
        (λ front top. on_reference (leaves traps) (λ v. pushing front v s) top)
        (λ front top. on_reference-same top (leaves traps) (leaves traps) (λ v. pushing front v s) (λ v. pushing (below ++ front) v s) traps_so
        (λ v. falls front (v ∷ []) s))
    step-same role.giving_null i s = falls s.operands (null ∷ []) s
    step-same role.nowhere i s = stuck_so
    step-same (role.branching l) i s = branches_so below
    step-same (role.branching_if l) i s =
        with_top-same 1 s.operands (λ front top. on_number (λ n. pick n (leaves (branches l (holding front s))) (falls_through (holding front s))) top)
        (λ front top. on_number (λ n. pick n (leaves (branches l (holding front s))) (falls_through (holding front s))) top)
        (λ front top. on_number-same top (λ n. pick n (leaves (branches l (holding front s))) (falls_through (holding front s)))
        (λ n. pick n (leaves (branches l (holding (below ++ front) s))) (falls_through (holding (below ++ front) s)))
        (λ n. pick-same n (leaves (branches l (holding front s))) (falls_through (holding front s)) (leaves (branches l (holding (below ++ front) s)))
        (falls_through (holding (below ++ front) s)) (branches_so below) falls_so))
    step-same (role.branching_on_null l) i s =
        with_top-same 1 s.operands (λ front top. on_reference (leaves (branches l (holding front s))) (λ v. pushing front v s) top)
        (λ front top. on_reference (leaves (branches l (holding front s))) (λ v. pushing front v s) top)
        (λ front top. on_reference-same top (leaves (branches l (holding front s))) (leaves (branches l (holding (below ++ front) s)))
        (λ v. pushing front v s) (λ v. pushing (below ++ front) v s) (branches_so below) (λ v. falls front (v ∷ []) s))
    step-same (role.branching_on_non_null l) i s =
        with_top-same 1 s.operands (λ front top. on_reference (falls_through (holding front s)) (λ v. leaves (branches l (holding (front ++ v ∷ []) s))) top)
        (λ front top. on_reference (falls_through (holding front s)) (λ v. leaves (branches l (holding (front ++ v ∷ []) s))) top)
        (λ front top. on_reference-same top (falls_through (holding front s)) (falls_through (holding (below ++ front) s))
        (λ v. leaves (branches l (holding (front ++ v ∷ []) s))) (λ v. leaves (branches l (holding ((below ++ front) ++ v ∷ []) s)))
        falls_so (λ v. sends-same l front v s))
    step-same (role.reading x) i s =
        on_set-same (slice_get s.locals x) (λ v. pushing s.operands v s) (λ v. pushing (below ++ s.operands) v s) (λ v. falls s.operands (v ∷ []) s)
    step-same (role.writing x) i s =
        with_top-same 1 s.operands (λ front top. on_one (λ v. writing x front v s) top) (λ front top. on_one (λ v. writing x front v (over below s)) top)
        (λ front top. on_one-same top (λ v. writing x front v s) (λ v. writing x (below ++ front) v (over below s))
        (λ v. writing-same x v s front (below ++ front) refl))
    step-same (role.giving_back x) i s =
        with_top-same 1 s.operands (λ front top. on_one (λ v. writing x (front ++ v ∷ []) v s) top)
        (λ front top. on_one (λ v. writing x (front ++ v ∷ []) v (over below s)) top)
        (λ front top. on_one-same top (λ v. writing x (front ++ v ∷ []) v s) (λ v. writing x ((below ++ front) ++ v ∷ []) v (over below s))
        (λ v. writing-same x v s (front ++ v ∷ []) ((below ++ front) ++ v ∷ []) (append_assoc below front (v ∷ []))))
    step-same (role.naming x) i s =
        on_some-same (slice_get I.functions x) (λ a. pushing s.operands (function_at a) s) (λ a. pushing (below ++ s.operands) (function_at a) s)
        (λ a. falls s.operands (function_at a ∷ []) s)
    step-same (role.throwing x) i s =
        on_some-same (slice_get I.tags x)
        (λ t. on_some (λ ts. with_top (length ts) s.operands (λ front top. leaves (throws (length s.store.exceptions) (threw t top s))))
        (slice_get s.store.tags t))
        (λ t. on_some (λ ts. with_top (length ts) (below ++ s.operands) (λ front top. leaves (throws (length s.store.exceptions) (threw t top s))))
        (slice_get s.store.tags t))
        (λ t. on_some-same (slice_get s.store.tags t)
        (λ ts. with_top (length ts) s.operands (λ front top. leaves (throws (length s.store.exceptions) (threw t top s))))
        (λ ts. with_top (length ts) (below ++ s.operands) (λ front top. leaves (throws (length s.store.exceptions) (threw t top s))))
        (λ ts. with_top-same (length ts) s.operands (λ front top. leaves (throws (length s.store.exceptions) (threw t top s)))
        (λ front top. leaves (throws (length s.store.exceptions) (threw t top s))) (λ front top. throws_so [])))
    step-same (role.rethrowing l) i s = rethrows_so (below ++ s.operands)
    step-same (role.branching_by_table ls l) i s =
        with_top-same 1 s.operands (λ front top. on_number (λ n. leaves (branches (label_for ls l n) (holding front s))) top)
        (λ front top. on_number (λ n. leaves (branches (label_for ls l n) (holding front s))) top)
        (λ front top. on_number-same top (λ n. leaves (branches (label_for ls l n) (holding front s)))
        (λ n. leaves (branches (label_for ls l n) (holding (below ++ front) s))) (λ n. branches_so below))
    step-same (role.calling c) i s = with_callee-same c (invoke W P again) s (λ a t. invoke-same a t)
    step-same (role.calling_in_place c) i s = with_callee-same c (invoke_in_place W P again) s (λ a t. in_place-same a t)
    step-same (role.branching_on_cast l q) i s = casts-same (λ b. b) l (resolve_ref B.context.types q) s
    step-same (role.branching_on_failure l q) i s = casts-same not l (resolve_ref B.context.types q) s
    step-same (role.branching_on_description l q) i s = descriptions-same (λ b. b) l q s
    step-same (role.branching_on_no_description l q) i s = descriptions-same not l q s
    step-same (role.resuming hs) i s =
        on_some-same (operand_count W B (shape_of i)) (λ n. with_top n s.operands (λ front top. resumed W P again B I hs front s (P.resumes i B I top s.store)))
        (λ n. with_top n (below ++ s.operands) (λ front top. resumed W P again B I hs front (over below s) (P.resumes i B I top s.store)))
        (λ n. with_top-same n s.operands (λ front top. resumed W P again B I hs front s (P.resumes i B I top s.store))
        (λ front top. resumed W P again B I hs front (over below s) (P.resumes i B I top s.store))
        (λ front top. resumed-same hs front s (P.resumes i B I top s.store)))

    -- clauses and handlers: of what was thrown the operands don't count
    if_tag-same :
        (x : ℕ) (e : Exception R) (o p q r : Outcome R) → IsSame below o q → IsSame below p r
        → IsSame below (if_tag W P again B I x e o p) (if_tag W P again B I x e q r)
    if_tag-same x e o p q r h k =
        on_some-same (slice_get I.tags x) (λ t. either (t == e.tag) o p) (λ t. either (t == e.tag) q r) (λ t. either-same (t == e.tag) o p q r h k)

    caught-same :
        (cs : List Catch) (a : ℕ) (s : State R) (vs : List (Value R)) (e : Exception R)
        → IsSame below (caught W P again B I cs a s e) (caught W P again B I cs a (holding vs s) e)
    caught-same [] a s vs e = throws_so vs
    caught-same (catch.One x l ∷ cs) a s vs e =
        if_tag-same x e (leaves (branches l (holding e.values s))) (caught W P again B I cs a s e) (leaves (branches l (holding e.values s)))
        (caught W P again B I cs a (holding vs s) e) (branches_so []) (caught-same cs a s vs e)
    caught-same (catch.OneRef x l ∷ cs) a s vs e =
        if_tag-same x e (leaves (branches l (holding (e.values ++ exception_at a ∷ []) s))) (caught W P again B I cs a s e)
        (leaves (branches l (holding (e.values ++ exception_at a ∷ []) s))) (caught W P again B I cs a (holding vs s) e)
        (branches_so []) (caught-same cs a s vs e)
    caught-same (catch.All l ∷ cs) a s vs e = branches_so []
    caught-same (catch.AllRef l ∷ cs) a s vs e = branches_so []

    handle-same :
        (hs : Handlers) (n : ℕ) (front : List (Value R)) (a : ℕ) (s : State R) (vs : List (Value R)) (e : Exception R)
        → IsSame below (handle W P again B I hs n front a s e) (handle W P again B I hs n (below ++ front) a (holding vs s) e)
    handle-same (last_handler (a_catch x) c) n front a s vs e =
        if_tag-same x e (label falls_through n front (again_from a (exec W P again B I c (holding e.values s)))) (leaves (throws a s))
        (label falls_through n (below ++ front) (again_from a (exec W P again B I c (holding e.values s)))) (leaves (throws a (holding vs s)))
        (label-same falls_through (λ t. falls_so) n front (again_from a (exec W P again B I c (holding e.values s)))) (throws_so vs)
    handle-same (last_handler a_catch_all c) n front a s vs e =
        label-same falls_through (λ t. falls_so) n front (again_from a (exec W P again B I c (holding [] s)))
    handle-same (catch_before x c hs) n front a s vs e =
        if_tag-same x e (label falls_through n front (again_from a (exec W P again B I c (holding e.values s)))) (handle W P again B I hs n front a s e)
        (label falls_through n (below ++ front) (again_from a (exec W P again B I c (holding e.values s))))
        (handle W P again B I hs n (below ++ front) a (holding vs s) e)
        (label-same falls_through (λ t. falls_so) n front (again_from a (exec W P again B I c (holding e.values s)))) (handle-same hs n front a s vs e)

    signed-same :
        (b : Block ℕ) (f g : Signature R → Outcome R) → ((x : Signature R) → IsSame below (f x) (g x))
        → IsSame below (with_signature W P again B I b f) (with_signature W P again B I b g)
    signed-same b f g k = on_some-same (resolve_block B.context.types b >>= block_signature W B) f g k

    enter-same :
        (o : Opening) (c : Code) (body : State R → Outcome R) (s : State R)
        → IsSame below (enter W P again B I o c body s) (enter W P again B I o c body (over below s))
    enter-same (a_block b) c body s = signed-same b (λ g. in_block g body s) (λ g. in_block g body (over below s)) (λ g. in_block-same g body s)
    enter-same (a_try b) c body s = signed-same b (λ g. in_block g body s) (λ g. in_block g body (over below s)) (λ g. in_block-same g body s)
    enter-same (an_if b) c body s =
        signed-same b (λ g. in_either g body falls_through s) (λ g. in_either g body falls_through (over below s))
        (λ g. in_either-same g body falls_through s)
    enter-same (a_try_table b cs) c body s =
        catching-same (caught W P again B I cs) (caught W P again B I cs)
        (signed-same b (λ g. in_block g body s) (λ g. in_block g body (over below s)) (λ g. in_block-same g body s))
        (λ a t vs e. caught-same cs a t vs e)
    enter-same (a_loop b) c body s =
        signed-same b (λ g. with_top (length g.takes) s.operands
        (λ front top. label (again (does B I (enclosing (a_loop b) c done))) (length g.takes) front (body (holding top s))))
        (λ g. with_top (length g.takes) (below ++ s.operands)
        (λ front top. label (again (does B I (enclosing (a_loop b) c done))) (length g.takes) front (body (holding top s))))
        (λ g. with_top-same (length g.takes) s.operands
        (λ front top. label (again (does B I (enclosing (a_loop b) c done))) (length g.takes) front (body (holding top s)))
        (λ front top. label (again (does B I (enclosing (a_loop b) c done))) (length g.takes) front (body (holding top s)))
        (λ front top. label-same (again (does B I (enclosing (a_loop b) c done))) (λ t. keeps (does B I (enclosing (a_loop b) c done)) t below)
        (length g.takes) front (body (holding top s))))

    exec-same : (c : Code) (s : State R) → IsSame below (exec W P again B I c s) (exec W P again B I c (over below s))
    exec-same done s = falls_so
    exec-same (simply i c) s = next-same (λ t. exec W P again B I c t) (step-same (role_of i) i s) (λ t. exec-same c t)
    exec-same (enclosing o b c) s = next-same (λ t. exec W P again B I c t) (enter-same o b (λ t. exec W P again B I b t) s) (λ t. exec-same c t)
    exec-same (choosing_between b c d e) s =
        next-same (λ t. exec W P again B I e t)
        (signed-same b (λ g. in_either g (λ t. exec W P again B I c t) (λ t. exec W P again B I d t) s)
        (λ g. in_either g (λ t. exec W P again B I c t) (λ t. exec W P again B I d t) (over below s))
        (λ g. in_either-same g (λ t. exec W P again B I c t) (λ t. exec W P again B I d t) s)) (λ t. exec-same e t)
    exec-same (handling b c hs d) s =
        next-same (λ t. exec W P again B I d t)
        (signed-same b
        (λ g. with_top (length g.takes) s.operands
        (λ front top. catching (λ a t e. handle W P again B I hs (length g.gives) front a t e)
        (label falls_through (length g.gives) front (exec W P again B I c (holding top s)))))
        (λ g. with_top (length g.takes) (below ++ s.operands)
        (λ front top. catching (λ a t e. handle W P again B I hs (length g.gives) front a t e)
        (label falls_through (length g.gives) front (exec W P again B I c (holding top s)))))
        (λ g. with_top-same (length g.takes) s.operands
        (λ front top. catching (λ a t e. handle W P again B I hs (length g.gives) front a t e)
        (label falls_through (length g.gives) front (exec W P again B I c (holding top s))))
        (λ front top. catching (λ a t e. handle W P again B I hs (length g.gives) front a t e)
        (label falls_through (length g.gives) front (exec W P again B I c (holding top s))))
        (λ front top. catching-same (λ a t e. handle W P again B I hs (length g.gives) front a t e)
        (λ a t e. handle W P again B I hs (length g.gives) (below ++ front) a t e)
        (label-same falls_through (λ t. falls_so) (length g.gives) front (exec W P again B I c (holding top s)))
        (λ a t vs e. handle-same hs (length g.gives) front a t vs e)))) (λ t. exec-same d t)
    exec-same (delegating_to l b c d) s =
        next-same (λ t. exec W P again B I d t)
        (handed-same l (signed-same b (λ g. in_block g (λ t. exec W P again B I c t) s) (λ g. in_block g (λ t. exec W P again B I c t) (over below s))
        (λ g. in_block-same g (λ t. exec W P again B I c t) s))) (λ t. exec-same d t)

run-same :
    {R : Type 0} (W : World R) (P : Primitives R) (n : ℕ) (t : Task R) (s : State R) (below : List (Value R))
    → IsSame below (run W P n t s) (run W P n t (over below s))
run-same W P zero t s below = waits_so
run-same W P (suc n) (does B I c) s below = exec-same W P (run W P n) (λ t u b. run-same W P n t u b) below B I c s
run-same W P (suc n) (invokes a) s below = invoke-same W P (run W P n) (λ t u b. run-same W P n t u b) below a s

pub no_run_reads_below : (R : Type 0) → NoRunReadsBelow R
no_run_reads_below R W P n t s below = run-same W P n t s below
