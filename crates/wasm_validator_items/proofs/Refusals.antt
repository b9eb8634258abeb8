-- What refuses a part of an item refuses the item.
use Rattle.std.proofs.Common.{◌≡◌, sym, subst, List, ℕ, Option, None}
use Rattle.std.specs.Prelude.{IfErr}
use Rattle.std.specs.Result.{IsErrAnd}
use Rattle.std.specs.declared.result.Result.{Result}
use Rattle.std.specs.declared.result.Result.TheVariants.{Ok, Err}
use Rattle.wasm_readers_errors.specs.declared.error.Error as below
use Rattle.wasm_readers_errors.specs.declared.error.Error.TheVariants as read
use Rattle.wasm_validator_core.specs.declared.error.Error.{Error}
use Rattle.wasm_validator_core.specs.declared.error.Error.TheVariants.{Refused, DuplicateExport, InFunction, OutOfMemory}
use Rattle.wasm_validator_core.specs.Answers.{Adds}
use Rattle.wasm_readers_errors.specs.Errors.{Reads}
use Rattle.wasm_validator_core.specs.Errors.{IsMemory, lifted}
use Rattle.wasm_validator_segments.specs.Answers as items
use Rattle.wasm_validator_items.specs.Answers.{Refuses}

-- an error that is handed on
pub err_as : {T E : Type 0} (r : Result T E) (e : E) (Q : E → Type 0) → IsErrAnd r (λ w. w ≡ e) → Q e → IfErr r Q
err_as (Ok x) e Q h q = tt
err_as (Err w) e Q h q = subst Q (sym h) q

-- the refusal of what is read
pub lifted_refuses : (A : Type 0) (e : below.Error) (o : Option (List ℕ)) → items.Refuses e o → Refuses {A = A} (lifted e) o
lifted_refuses A (read.Refused r) o h = h
lifted_refuses A read.OutOfMemory o h = tt

-- the same of what is read and gives something
pub reads_refuses : {Y : Type 0} (A : Type 0) (e : below.Error) (o : Option (Y × List ℕ)) (more : List ℕ) → Reads (λ (y : Y). y) (Err e) o more → Refuses {A = A} (lifted e) o
reads_refuses A (read.Refused r) o more h = h
reads_refuses A read.OutOfMemory o more h = tt

module _ {A : Type 0} where
  -- a refusal of memory says nothing
  pub memory_refuses : {X : Type 0} (e : Error A) (o : Option X) → IsMemory e → Refuses e o
  memory_refuses (Refused r) o h = absurd h
  memory_refuses (DuplicateExport name offset) o h = absurd h
  memory_refuses (InFunction index r) o h = absurd h
  memory_refuses OutOfMemory o h = tt

  -- an error of a part, where nothing of that part is nothing of the whole
  pub refuses_whole : {X Y : Type 0} (e : Error A) (o : Option X) (p : Option Y) → (o ≡ None → p ≡ None) → Refuses e o → Refuses e p
  refuses_whole (Refused r) o p f h = f h
  refuses_whole (DuplicateExport name offset) o p f h = f h
  refuses_whole (InFunction index r) o p f h = h
  refuses_whole OutOfMemory o p f h = tt

  -- an item that isn't added
  pub adding_refuses : {X : Type 0} (e : Error A) (o : Option X) (x : X) → Adds {T = Unit {0}} (Err e) o x → Refuses e o
  adding_refuses (Refused r) o x h = h
  adding_refuses (DuplicateExport name offset) o x h = h
  adding_refuses (InFunction index r) o x h = h
  adding_refuses OutOfMemory o x h = tt

  -- nothing is added where an error is handed on
  pub adds_nothing : {T Y : Type 0} (r : Result T (Error A)) (p : Option Y) (y : Y) → IsErrAnd r (λ w. Refuses w p) → Adds r p y
  adds_nothing (Ok x) p y h = absurd h
  adds_nothing (Err (Refused r)) p y h = h
  adds_nothing (Err (DuplicateExport name offset)) p y h = h
  adds_nothing (Err (InFunction index r)) p y h = h
  adds_nothing (Err OutOfMemory) p y h = tt

-- an error that is handed on, and is one
pub error_as : {T E : Type 0} (r : Result T E) (e : E) (Q : E → Type 0) → IsErrAnd r (λ w. w ≡ e) → Q e → IsErrAnd r Q
error_as (Ok x) e Q h q = h
error_as (Err w) e Q h q = subst Q (sym h) q
