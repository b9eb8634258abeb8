-- What code does, by a definition that computes it. Steps count calls and further turns of loops.
-- Core Specification 3.0, Execution, Instructions; and the legacy exception-handling proposal.
use Rattle.std.specs.Prelude.{ℕ, zero, suc, Bool, not, ◌==◌, List, [], ◌∷◌, ◌++◌, length, slice_get, unwrap_or}
use Rattle.wasm_spec_steps.specs.WasmSpecRules.WasmSpec.Syntax.{Ref}
use Rattle.wasm_spec_steps.specs.WasmSpecRules.WasmSpec.MatchingTests.{World}
use Rattle.wasm_spec_steps.specs.WasmSpecRules.Attempts.{◌>>=◌}
use Rattle.wasm_spec_steps.specs.WasmSpecRules.Signatures.{Signature, resolve_ref}
use Rattle.wasm_operators.specs.Control.{Block}
use Rattle.wasm_operators.specs.Instructions.{Instruction}
use Rattle.wasm_operators.specs.WasmOperatorsProposals.declared.continuations.Handle.{Handle}
use Rattle.wasm_operators.specs.declared.control.Catch.{Catch}
use Rattle.wasm_operators.specs.declared.control.Catch.TheVariants as catch
use Rattle.wasm_spec_steps.specs.Bodies.{Surroundings}
use Rattle.wasm_spec_steps.specs.Shapes.{shape_of}
use Rattle.wasm_spec_steps.specs.Meanings.{resolve_block, block_signature}
use Rattle.wasm_spec_instructions.specs.Code.{Opening, a_block, a_loop, an_if, a_try, a_try_table, a_catch, a_catch_all, Code, done, simply, enclosing, choosing_between, handling, delegating_to, Handlers, last_handler, catch_before}
use Rattle.wasm_laws_soundness.specs.Values.{Value, i32_value, null, function_at, exception_at, Instance, Definition, defined, hosted, Function, Exception, Store, signature_in, is_of}
use Rattle.wasm_laws_soundness.specs.Outcomes.{State, branches, throws, calls_in_place, rethrows, delegates, returns, traps, out_of_steps, stuck, Outcome, falls_through, leaves, Resumed, ends, suspends, Primitives, with_top, on_some, on_number, on_one, on_exception, on_function, on_reference, pick, either, on_choice, on_set, holding, writing, next, pushing, with_store, answered, on_answer, label, again_from, handed, in_block, in_either, threw, catching, entered, back}
use Rattle.wasm_laws_soundness.specs.Roles as role
use Rattle.wasm_laws_soundness.specs.Roles.{Callee, by_index, by_reference, by_table, Role, role_of, handler_at, operand_count}

-- what takes steps: code in a module, and the function at an address
pub data Task (R : Type 0) : Type 0 where
  does : Surroundings R → Instance → Code → Task R
  invokes : ℕ → Task R

-- the label that a table names for a number
abbrev pub label_for : List ℕ → ℕ → ℕ → ℕ
label_for ls l n = unwrap_or (slice_get ls n) l

-- whether a reference is described by another one, and so is of a type; null is, where the type has it
abbrev pub is_described : {R : Type 0} → Primitives R → Store R → Ref R → Value R → Value R → Bool
is_described P S r d null = r.nullable
is_described P S r d v = P.describes d v S

module _ {R : Type 0} (W : World R) (P : Primitives R) where
  -- what code does, where bodies, further turns of a loop and functions called in place do this
  module _ (again : Task R → State R → Outcome R) where
    -- the end of a function that gives n, called in that state, over what lay below its arguments
    abbrev pub finish : ℕ → List (Value R) → State R → Outcome R → Outcome R
    finish n below s (falls_through t) = falls_through (back (below ++ t.operands) s t)
    finish n below s (leaves (branches zero t)) = with_top n t.operands (λ left top. falls_through (back (below ++ top) s t))
    finish n below s (leaves (branches (suc l) t)) = leaves stuck
    finish n below s (leaves (returns t)) = with_top n t.operands (λ left top. falls_through (back (below ++ top) s t))
    finish n below s (leaves (calls_in_place a t)) = again (invokes a) (back (below ++ t.operands) s t)
    finish n below s (leaves (throws a t)) = leaves (throws a (back [] s t))
    finish n below s (leaves (rethrows l t)) = leaves stuck
    finish n below s (leaves (delegates zero a t)) = leaves (throws a (back [] s t))
    finish n below s (leaves (delegates (suc l) a t)) = leaves stuck
    finish n below s (leaves e) = leaves e

    -- the body of a function that gives n, with these arguments, over what lies below them
    abbrev pub enter_function : Definition R → ℕ → List (Value R) → List (Value R) → State R → Outcome R
    enter_function (defined B I c) n below vs s = finish n below s (again (does B I c) (entered B.locals vs s))
    enter_function (hosted k) n below vs s = answered below s (P.acts k vs s.store)

    -- with a function, its signature and its arguments
    abbrev pub with_function : (Function R → Signature R → List (Value R) → List (Value R) → Outcome R) → ℕ → State R → Outcome R
    with_function k a s =
        on_some
        (λ f. on_some (λ g. with_top (length g.takes) s.operands (λ below top. k f g below top)) (signature_in W f.type))
        (slice_get s.store.functions a)

    abbrev pub invoke : ℕ → State R → Outcome R
    invoke a s = with_function (λ f g below vs. enter_function f.definition (length g.gives) below vs s) a s

    -- the function at this address is to take the place of the one that runs
    abbrev pub invoke_in_place : ℕ → State R → Outcome R
    invoke_in_place a s = with_function (λ f g below vs. leaves (calls_in_place a (holding vs s))) a s

    -- in a function of this module
    module _ (B : Surroundings R) (I : Instance) where
      -- with a function that is of the type of an index; else it traps
      abbrev pub if_of_type : ℕ → (ℕ → State R → Outcome R) → State R → ℕ → Outcome R
      if_of_type y k s a =
          on_some (λ t. on_some (λ f. either (W.below f.type t) (k a s) (leaves traps)) (slice_get s.store.functions a)) (slice_get B.context.types y)

      -- with the function that is called, and the operands without what names it
      abbrev pub with_callee : Callee → (ℕ → State R → Outcome R) → State R → Outcome R
      with_callee (by_index x) k s = on_some (λ a. k a s) (slice_get I.functions x)
      with_callee by_reference k s = with_top 1 s.operands (λ below top. on_function (λ a. k a (holding below s)) top)
      with_callee (by_table y x) k s =
          with_top 1 s.operands (λ below top. on_answer (λ v t. on_function (if_of_type y k t) (v ∷ [])) (holding below s) (P.finds x B I top s.store))

      -- a branch on a cast of the top operand to a type, where it succeeds or where it fails
      abbrev pub by_cast : (Bool → Bool) → ℕ → State R → List (Value R) → Value R → Bool → Outcome R
      by_cast sends l s below v b = either (sends b) (leaves (branches l (holding (below ++ v ∷ []) s))) (pushing below v s)

      -- and one on whether it is described by another reference, which was taken
      abbrev pub by_description : (Bool → Bool) → ℕ → Ref ℕ → State R → Value R → Outcome R
      by_description sends l q s d =
          with_top 1 s.operands
          (λ below top. on_some (λ r. on_one (λ v. by_cast sends l s below v (is_described P s.store r d v)) top) (resolve_ref B.context.types q))

      -- a continuation that ends, or is suspended: a handler's label takes what the tag takes, and a reference to the continuation
      abbrev pub resumed : List Handle → List (Value R) → State R → Resumed R → Outcome R
      resumed hs below s (ends r) = answered below s r
      resumed hs below s (suspends k vs v T) = on_some (λ y. leaves (branches y.1 (holding (vs ++ v ∷ []) (with_store T s)))) (handler_at hs k)

      abbrev pub step_as : Role → Instruction ℕ → State R → Outcome R
      step_as role.computing i s =
          on_some (λ n. with_top n s.operands (λ below top. answered below s (P.computes i B I top s.store))) (operand_count W B (shape_of i))
      step_as role.trapping i s = leaves traps
      step_as role.returning i s = leaves (returns s)
      step_as role.dropping i s = with_top 1 s.operands (λ below top. falls_through (holding below s))
      step_as role.choosing i s = with_top 3 s.operands (λ below top. on_choice (λ v. pushing below v s) top)
      step_as role.throwing_again i s = with_top 1 s.operands (λ below top. on_exception (λ a. leaves (throws a (holding below s))) top)
      step_as role.testing_null i s = with_top 1 s.operands (λ below top. on_reference (pushing below (i32_value 1) s) (λ v. pushing below (i32_value 0) s) top)
      step_as role.asserting_non_null i s = with_top 1 s.operands (λ below top. on_reference (leaves traps) (λ v. pushing below v s) top)
      step_as role.giving_null i s = pushing s.operands null s
      step_as role.nowhere i s = leaves stuck
      step_as (role.branching l) i s = leaves (branches l s)
      step_as (role.branching_if l) i s =
          with_top 1 s.operands (λ below top. on_number (λ n. pick n (leaves (branches l (holding below s))) (falls_through (holding below s))) top)
      step_as (role.branching_on_null l) i s =
          with_top 1 s.operands (λ below top. on_reference (leaves (branches l (holding below s))) (λ v. pushing below v s) top)
      step_as (role.branching_on_non_null l) i s =
          with_top 1 s.operands (λ below top. on_reference (falls_through (holding below s)) (λ v. leaves (branches l (holding (below ++ v ∷ []) s))) top)
      step_as (role.reading x) i s = on_set (λ v. pushing s.operands v s) (slice_get s.locals x)
      step_as (role.writing x) i s = with_top 1 s.operands (λ below top. on_one (λ v. writing x below v s) top)
      step_as (role.giving_back x) i s = with_top 1 s.operands (λ below top. on_one (λ v. writing x (below ++ v ∷ []) v s) top)
      step_as (role.naming x) i s = on_some (λ a. pushing s.operands (function_at a) s) (slice_get I.functions x)
      step_as (role.throwing x) i s =
          on_some
          (λ t. on_some
          (λ ts. with_top (length ts) s.operands (λ below top. leaves (throws (length s.store.exceptions) (threw t top s))))
          (slice_get s.store.tags t))
          (slice_get I.tags x)
      step_as (role.rethrowing l) i s = leaves (rethrows l s)
      step_as (role.branching_by_table ls l) i s =
          with_top 1 s.operands (λ below top. on_number (λ n. leaves (branches (label_for ls l n) (holding below s))) top)
      step_as (role.calling c) i s = with_callee c invoke s
      step_as (role.calling_in_place c) i s = with_callee c invoke_in_place s
      step_as (role.branching_on_cast l q) i s =
          with_top 1 s.operands
          (λ below top. on_some (λ r. on_one (λ v. by_cast (λ b. b) l s below v (is_of W s.store r v)) top) (resolve_ref B.context.types q))
      step_as (role.branching_on_failure l q) i s =
          with_top 1 s.operands
          (λ below top. on_some (λ r. on_one (λ v. by_cast not l s below v (is_of W s.store r v)) top) (resolve_ref B.context.types q))
      step_as (role.branching_on_description l q) i s =
          with_top 1 s.operands (λ below top. on_reference (leaves traps) (λ d. by_description (λ b. b) l q (holding below s) d) top)
      step_as (role.branching_on_no_description l q) i s =
          with_top 1 s.operands (λ below top. on_reference (leaves traps) (λ d. by_description not l q (holding below s) d) top)
      step_as (role.resuming hs) i s =
          on_some (λ n. with_top n s.operands (λ below top. resumed hs below s (P.resumes i B I top s.store))) (operand_count W B (shape_of i))

      abbrev pub step : Instruction ℕ → State R → Outcome R
      step i s = step_as (role_of i) i s

      -- the first clause that takes an exception: with the tag that it names, or any
      abbrev pub if_tag : ℕ → Exception R → Outcome R → Outcome R → Outcome R
      if_tag x e o p = on_some (λ t. either (t == e.tag) o p) (slice_get I.tags x)

      abbrev pub caught : List Catch → ℕ → State R → Exception R → Outcome R
      caught [] a s e = leaves (throws a s)
      caught (catch.One x l ∷ cs) a s e = if_tag x e (leaves (branches l (holding e.values s))) (caught cs a s e)
      caught (catch.OneRef x l ∷ cs) a s e = if_tag x e (leaves (branches l (holding (e.values ++ exception_at a ∷ []) s))) (caught cs a s e)
      caught (catch.All l ∷ cs) a s e = leaves (branches l (holding [] s))
      caught (catch.AllRef l ∷ cs) a s e = leaves (branches l (holding (exception_at a ∷ []) s))

      -- with the signature of a block
      abbrev pub with_signature : Block ℕ → (Signature R → Outcome R) → Outcome R
      with_signature b k = on_some k (resolve_block B.context.types b >>= block_signature W B)

      -- a block, whose body does this
      abbrev pub enter : Opening → Code → (State R → Outcome R) → State R → Outcome R
      enter (a_block b) c body s = with_signature b (λ g. in_block g body s)
      enter (a_try b) c body s = with_signature b (λ g. in_block g body s)
      enter (an_if b) c body s = with_signature b (λ g. in_either g body falls_through s)
      enter (a_try_table b cs) c body s = catching (caught cs) (with_signature b (λ g. in_block g body s))
      enter (a_loop b) c body s =
          with_signature b
          (λ g. with_top (length g.takes) s.operands
          (λ below top. label (again (does B I (enclosing (a_loop b) c done))) (length g.takes) below (body (holding top s))))

      abbrev mutual
        pub exec : Code → State R → Outcome R
        exec done s = falls_through s
        exec (simply i c) s = next (λ t. exec c t) (step i s)
        exec (choosing_between b c d e) s = next (λ t. exec e t) (with_signature b (λ g. in_either g (λ t. exec c t) (λ t. exec d t) s))
        exec (enclosing o b c) s = next (λ t. exec c t) (enter o b (λ t. exec b t) s)
        exec (handling b c hs d) s =
            next (λ t. exec d t)
            (with_signature b
            (λ g. with_top (length g.takes) s.operands
            (λ below top. catching (λ a t e. handle hs (length g.gives) below a t e) (label falls_through (length g.gives) below (exec c (holding top s))))))
        exec (delegating_to l b c d) s = next (λ t. exec d t) (handed l (with_signature b (λ g. in_block g (λ t. exec c t) s)))

        pub handle : Handlers → ℕ → List (Value R) → ℕ → State R → Exception R → Outcome R
        handle (last_handler (a_catch x) c) n below a s e =
            if_tag x e (label falls_through n below (again_from a (exec c (holding e.values s)))) (leaves (throws a s))
        handle (last_handler a_catch_all c) n below a s e = label falls_through n below (again_from a (exec c (holding [] s)))
        handle (catch_before x c hs) n below a s e =
            if_tag x e (label falls_through n below (again_from a (exec c (holding e.values s)))) (handle hs n below a s e)

    abbrev pub perform : Task R → State R → Outcome R
    perform (does B I c) s = exec B I c s
    perform (invokes a) s = invoke a s

  -- within so many calls and turns of loops, one inside or behind another
  abbrev pub run : ℕ → Task R → State R → Outcome R
  run zero t s = leaves out_of_steps
  run (suc n) t s = perform (run n) t s
