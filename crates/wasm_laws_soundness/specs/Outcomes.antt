-- States, how code ends, and what is done with operands, labels and exceptions.
-- Core Specification 3.0, Execution, Runtime Structure (Stack) and Instructions (Control Instructions); and the legacy exception-handling
-- proposal.
use Rattle.std.specs.Prelude.{ℕ, zero, suc, Bool, true, false, ◌-◌, nat_le, List, [], ◌∷◌, ◌++◌, Option, Some, None, length, take, drop, slice_get}
use Rattle.wasm_spec_steps.specs.WasmSpecRules.WasmSpec.Syntax.{Val, i32, i64, f32, f64, v128, reference}
use Rattle.wasm_spec_steps.specs.WasmSpecRules.Signatures.{Signature}
use Rattle.wasm_operators.specs.Instructions.{Instruction}
use Rattle.wasm_spec_steps.specs.Bodies.{Local, Surroundings}
use Rattle.wasm_laws_soundness.specs.Values.{Value, i32_value, i64_value, f32_value, f64_value, v128_value, null, function_at, exception_at, other, Instance, Exception, Store}

-- the operands of the innermost block, the last one on top; the locals, each of which may be unset; and the store
pub record State (R : Type 0) : Type 0 where
  pub operands : List (Value R)
  pub locals : List (Option (Value R))
  pub store : Store R

-- How code leaves what is around it: it branches to a label, throws an exception, calls a function in its own place, throws again what the
-- handler of a label has caught, hands an exception to a label, returns, traps, or has no steps left. A branch and a return leave all
-- operands of their block behind: the label takes from the top what it takes. The last way is to be stuck.
pub data Exit (R : Type 0) : Type 0 where
  branches throws calls_in_place rethrows : ℕ → State R → Exit R
  delegates : ℕ → ℕ → State R → Exit R
  returns : State R → Exit R
  traps out_of_steps stuck : Exit R

pub data Outcome (R : Type 0) : Type 0 where
  falls_through : State R → Outcome R
  leaves : Exit R → Outcome R

-- what a plain instruction or a function of the host computes: results, an exception that it throws, or a trap
pub data Answer (R : Type 0) : Type 0 where
  gives : List (Value R) → Store R → Answer R
  raises : ℕ → Store R → Answer R
  fails : Answer R

-- what a continuation comes to that is resumed: it ends, as a plain instruction does; or it is suspended for the handler of this place in the
-- list, with what its tag takes, and with a reference to what is left of it
pub data Resumed (R : Type 0) : Type 0 where
  ends : Answer R → Resumed R
  suspends : ℕ → List (Value R) → Value R → Store R → Resumed R

-- What isn't said here: what plain instructions compute of their operands, what continuations come to that are resumed, which reference a
-- table has at an address, what functions of the host do, whether a reference is the descriptor of another one, and a test that all else in a
-- store is as the instance of a module wants it. Code on one stack is followed, and so what it is resumed with is computed by `suspend` and
-- `switch`.
pub record Primitives (R : Type 0) : Type 0 where
  pub computes : Instruction ℕ → Surroundings R → Instance → List (Value R) → Store R → Answer R
  pub resumes : Instruction ℕ → Surroundings R → Instance → List (Value R) → Store R → Resumed R
  pub finds : ℕ → Surroundings R → Instance → List (Value R) → Store R → Answer R
  pub acts : ℕ → List (Value R) → Store R → Answer R
  pub describes : Value R → Value R → Store R → Bool
  pub suits : Surroundings R → Instance → Store R → Bool

-- the first of two, where the number isn't zero
abbrev pub pick : {A : Type 0} → ℕ → A → A → A
pick zero a b = b
pick (suc n) a b = a

module _ {R : Type 0} where
  -- the last n of them, and those before
  abbrev pub cut_if : Bool → ℕ → List (Value R) → Option (List (Value R) × List (Value R))
  cut_if true n vs = Some (take (length vs - n) vs, drop (length vs - n) vs)
  cut_if false n vs = None

  abbrev pub cut : ℕ → List (Value R) → Option (List (Value R) × List (Value R))
  cut n vs = cut_if (nat_le n (length vs)) n vs

  abbrev pub on_cut : (List (Value R) → List (Value R) → Outcome R) → Option (List (Value R) × List (Value R)) → Outcome R
  on_cut f None = leaves stuck
  on_cut f (Some p) = f p.0 p.1

  -- with the uppermost operands, where there are so many
  abbrev pub with_top : ℕ → List (Value R) → (List (Value R) → List (Value R) → Outcome R) → Outcome R
  with_top n vs f = on_cut f (cut n vs)

  -- with what must be there
  abbrev pub on_some : {A : Type 0} → (A → Outcome R) → Option A → Outcome R
  on_some f None = leaves stuck
  on_some f (Some x) = f x

  abbrev pub on_number : (ℕ → Outcome R) → List (Value R) → Outcome R
  on_number f (i32_value n ∷ []) = f n
  on_number f _ = leaves stuck

  abbrev pub on_one : (Value R → Outcome R) → List (Value R) → Outcome R
  on_one f (v ∷ []) = f v
  on_one f _ = leaves stuck

  -- with an exception's address; null traps
  abbrev pub on_exception : (ℕ → Outcome R) → List (Value R) → Outcome R
  on_exception f (exception_at a ∷ []) = f a
  on_exception f (null ∷ []) = leaves traps
  on_exception f _ = leaves stuck

  -- with a function's address; null traps
  abbrev pub on_function : (ℕ → Outcome R) → List (Value R) → Outcome R
  on_function f (function_at a ∷ []) = f a
  on_function f (null ∷ []) = leaves traps
  on_function f _ = leaves stuck

  -- null, or a reference that isn't
  abbrev pub on_reference : Outcome R → (Value R → Outcome R) → List (Value R) → Outcome R
  on_reference o f (null ∷ []) = o
  on_reference o f (function_at a ∷ []) = f (function_at a)
  on_reference o f (exception_at a ∷ []) = f (exception_at a)
  on_reference o f (other h n ∷ []) = f (other h n)
  on_reference o f _ = leaves stuck

  -- the first of two, where the test passes
  abbrev pub either : Bool → Outcome R → Outcome R → Outcome R
  either true o p = o
  either false o p = p

  abbrev pub on_choice : (Value R → Outcome R) → List (Value R) → Outcome R
  on_choice f (a ∷ b ∷ i32_value n ∷ []) = f (pick n a b)
  on_choice f _ = leaves stuck

  -- locals: what is read, and what is there after a write
  abbrev pub on_set : (Value R → Outcome R) → Option (Option (Value R)) → Outcome R
  on_set f (Some (Some v)) = f v
  on_set f _ = leaves stuck

  abbrev pub with_head : Option (Value R) → Option (List (Option (Value R))) → Option (List (Option (Value R)))
  with_head o None = None
  with_head o (Some os) = Some (o ∷ os)

  abbrev pub put : ℕ → Value R → List (Option (Value R)) → Option (List (Option (Value R)))
  put n v [] = None
  put zero v (o ∷ os) = Some (Some v ∷ os)
  put (suc n) v (o ∷ os) = with_head o (put n v os)

  abbrev pub holding : List (Value R) → State R → State R
  holding vs s = record { operands = vs; locals = s.locals; store = s.store }

  -- a local that is written, and the operands behind it
  abbrev pub writing : ℕ → List (Value R) → Value R → State R → Outcome R
  writing x vs v s = on_some (λ os. falls_through (record { operands = vs; locals = os; store = s.store })) (put x v s.locals)

  -- what comes next, if anything does
  abbrev pub next : (State R → Outcome R) → Outcome R → Outcome R
  next f (falls_through s) = f s
  next f (leaves e) = leaves e

  abbrev pub pushing : List (Value R) → Value R → State R → Outcome R
  pushing below v s = falls_through (holding (below ++ v ∷ []) s)

  abbrev pub with_store : Store R → State R → State R
  with_store T s = record { operands = s.operands; locals = s.locals; store = T }

  abbrev pub answered : List (Value R) → State R → Answer R → Outcome R
  answered below s (gives vs T) = falls_through (holding (below ++ vs) (with_store T s))
  answered below s (raises a T) = leaves (throws a (holding [] (with_store T s)))
  answered below s fails = leaves traps

  -- with the one value that is computed
  abbrev pub on_answer : (Value R → State R → Outcome R) → State R → Answer R → Outcome R
  on_answer f s (gives vs T) = on_one (λ v. f v (with_store T s)) vs
  on_answer f s (raises a T) = leaves (throws a (holding [] (with_store T s)))
  on_answer f s fails = leaves traps

  -- the end of a block whose label takes n, where a branch to it goes, over what lay below it
  abbrev pub leaving_block : (State R → Outcome R) → ℕ → List (Value R) → Exit R → Outcome R
  leaving_block f n below (branches zero s) = with_top n s.operands (λ left top. f (holding (below ++ top) s))
  leaving_block f n below (branches (suc l) s) = leaves (branches l s)
  leaving_block f n below (rethrows zero s) = leaves stuck
  leaving_block f n below (rethrows (suc l) s) = leaves (rethrows l s)
  leaving_block f n below (delegates zero a s) = leaves (throws a s)
  leaving_block f n below (delegates (suc l) a s) = leaves (delegates l a s)
  leaving_block f n below e = leaves e

  abbrev pub label : (State R → Outcome R) → ℕ → List (Value R) → Outcome R → Outcome R
  label f n below (falls_through s) = falls_through (holding (below ++ s.operands) s)
  label f n below (leaves e) = leaving_block f n below e

  -- a handler of the exception at this address
  abbrev pub again_from : ℕ → Outcome R → Outcome R
  again_from a (leaves (rethrows zero s)) = leaves (throws a s)
  again_from a o = o

  -- exceptions that go to a label
  abbrev pub handed : ℕ → Outcome R → Outcome R
  handed l (leaves (throws a s)) = leaves (delegates l a s)
  handed l o = o

  -- what a body of n operands, whose label takes m, does over what lies below
  abbrev pub in_block : Signature R → (State R → Outcome R) → State R → Outcome R
  in_block g body s = with_top (length g.takes) s.operands (λ below top. label falls_through (length g.gives) below (body (holding top s)))

  -- one of two blocks, by the uppermost operand
  abbrev pub in_either : Signature R → (State R → Outcome R) → (State R → Outcome R) → State R → Outcome R
  in_either g body otherwise s = with_top 1 s.operands (λ below top. on_number (λ n. in_block g (pick n body otherwise) (holding below s)) top)

  -- exceptions: a new one, and what is done with one
  abbrev pub with_exception : ℕ → List (Value R) → Store R → Store R
  with_exception x vs S =
      record { functions = S.functions; tags = S.tags; exceptions = S.exceptions ++ record { tag = x; values = vs } ∷ []; contents = S.contents }

  abbrev pub threw : ℕ → List (Value R) → State R → State R
  threw x vs s = record { operands = []; locals = s.locals; store = with_exception x vs s.store }

  abbrev pub catching : (ℕ → State R → Exception R → Outcome R) → Outcome R → Outcome R
  catching f (leaves (throws a s)) = on_some (λ e. f a s e) (slice_get s.store.exceptions a)
  catching f o = o

  -- the locals at a function's start: its arguments, and the default of each other type that has one
  abbrev pub null_if : Bool → Option (Value R)
  null_if true = Some null
  null_if false = None

  abbrev pub default : Val R → Option (Value R)
  default i32 = Some (i32_value 0)
  default i64 = Some (i64_value 0)
  default f32 = Some (f32_value 0)
  default f64 = Some (f64_value 0)
  default v128 = Some (v128_value 0)
  default (reference r) = null_if r.nullable

  abbrev pub start_locals : List (Value R) → List (Local R) → List (Option (Value R))
  start_locals vs [] = []
  start_locals [] (x ∷ L) = default x.content ∷ start_locals [] L
  start_locals (v ∷ vs) (x ∷ L) = Some v ∷ start_locals vs L

  abbrev pub entered : List (Local R) → List (Value R) → State R → State R
  entered L vs s = record { operands = []; locals = start_locals vs L; store = s.store }

  -- the caller goes on
  abbrev pub back : List (Value R) → State R → State R → State R
  back vs s t = record { operands = vs; locals = s.locals; store = t.store }
