-- Locals that a body declares.
use Rattle.std.proofs.Common.{◌≡◌, ◌≤◌, ◌<◌, ◌+◌, ◌-◌, ◌∙◌, refl, sym, ap, ℕ, zero, suc, Bool, true, false, ◌&&◌, ◌⊎◌, inl, inr, List, ◌++◌, length, replicate, leb, if◌then◌else◌, Option, Some, None, Ok, Err, arith}
use Rattle.std.specs.Option.{option_and_then}
use Rattle.std.proofs.lemmas.Bool.{leb-true, le-leb}
use Rattle.wasm_spec.specs.Syntax.{Heap, Val, abstract_heap, concrete, exact, reference, i32, i64, f32, f64, v128, map_heap, map_val}
use Rattle.wasm_spec.specs.Features.{Features}
use Rattle.wasm_spec.specs.ValueTypes.{allows_heap, allows_val}
use Rattle.wasm_spec.specs.Values.{u32_at}
use Rattle.wasm_spec_rules.specs.Contexts.{Context}
use Rattle.wasm_spec_rules.specs.FeatureFlags.{features_of}
use Rattle.wasm_readers_errors.specs.declared.error.Error.{Error}
use Rattle.wasm_readers_errors.specs.declared.error.Error.TheVariants as error
use Rattle.wasm_readers_types.specs.WasmReadersValues.declared.indices.UnpackedIndex.{UnpackedIndex}
use Rattle.wasm_spec_steps.specs.Bodies.{Local}
use Rattle.wasm_spec_rules.specs.Signatures.{resolve_val}
use Rattle.wasm_spec_rules.specs.Limits.{most_locals}
use Rattle.wasm_validator_resources.specs.Answers.{written_index, val_in}
use Rattle.wasm_typing_validator.specs.WasmTypingChecks.OperatorRefusals.{TellsError}
use Rattle.wasm_typing_validator.specs.WasmTypingChecks.declared.faults.OperatorError.{OperatorError}
use Rattle.wasm_typing_validator.specs.WasmTypingChecks.declared.faults.OperatorError.TheVariants.{Refused, OutOfMemory}
use Rattle.wasm_typing_validator.specs.BodyTyping.{locals_in, Defines}
use Rattle.wasm_typing_validator.proofs.ReadingFailures.{failure_told, no_failure}
use Rattle.wasm_typing_validator.specs.declared.validator.OperatorValidator.{OperatorValidator}
use Rattle.wasm_validator_func.specs.Bodies.{more_locals, declared_from, locals_from}
use Rattle.wasm_spec_steps.specs.FunctionBodies.{Declaration, declaration_at, local_declared, type_of}
use Rattle.wasm_validator_func.specs.BodyValidation.{Goes, DeclaredAt, KeepsLocals, Declares}

heap_allowed : (F : Features) (nullable : Bool) (h : Heap UnpackedIndex) → allows_heap F nullable (map_heap written_index h) ≡ allows_heap F nullable h
heap_allowed F nullable (abstract_heap s a) = refl
heap_allowed F nullable (concrete r) = refl
heap_allowed F nullable (exact r) = refl

val_allowed : (F : Features) (v : Val UnpackedIndex) → allows_val F (map_val written_index v) ≡ allows_val F v
val_allowed F i32 = refl
val_allowed F i64 = refl
val_allowed F f32 = refl
val_allowed F f64 = refl
val_allowed F v128 = refl
val_allowed F (reference r) = ap (λ b. F.reference_types && b) (heap_allowed F r.nullable r.heap)

-- the type by its numbers
same_type : (F : Features) (C : Context UnpackedIndex) (v : Val UnpackedIndex) → type_of F C.types (map_val written_index v) ≡ val_in C F v
same_type F C v = ap (λ b. if b then resolve_val C.types (map_val written_index v) else None) (val_allowed F v)

past_by : (k : ℕ) (b : Bool) → leb k most_locals ≡ b → most_locals < k → b ≡ false
past_by k true e h = let le : k ≤ most_locals = leb-true k most_locals e in absurd (omega (arith, le, h))
past_by k false e h = refl

module _ {R : Type 0} where
  abbrev pub more_of : ℕ → List (Local R) → Option (Val R) → Option (List (Local R))
  more_of n ls o = option_and_then (λ v. if leb (length ls + n) most_locals then Some (ls ++ replicate n (local_declared v)) else None) o

  pub room : (n : ℕ) (ls : List (Local R)) (v : Val R) → length ls + n ≤ most_locals → more_of n ls (Some v) ≡ Some (ls ++ replicate n (local_declared v))
  room n ls v h = ap (λ b. if b then Some (ls ++ replicate n (local_declared v)) else None) (le-leb (length ls + n) most_locals h)

  no_room : (n : ℕ) (ls : List (Local R)) (v : Val R) → most_locals < length ls + n → more_of n ls (Some v) ≡ None
  no_room n ls v h = ap (λ b. if b then Some (ls ++ replicate n (local_declared v)) else None) (past_by (length ls + n) (leb (length ls + n) most_locals) refl h)

  not_more : (n : ℕ) (ls : List (Local R)) (o : Option (Val R)) → (o ≡ None) ⊎ (most_locals < length ls + n) → more_of n ls o ≡ None
  not_more n ls None h = refl
  not_more n ls (Some v) (inl e) = absurd cc
  not_more n ls (Some v) (inr h) = no_room n ls v h

module _ {A : Type 0} (offset n : ℕ) (v w : OperatorValidator A) where
  made : (y : Unit {0}) (o : Option (Val UnpackedIndex)) → Defines (Ok y) o n v w → more_of n (locals_in v) o ≡ Some (locals_in w)
  made y None d = absurd d
  made y (Some t) d = room n (locals_in v) t d.1 ∙ ap Some (sym d.2)

  pub declared_so : (C : Context UnpackedIndex) (x : Val UnpackedIndex) (y z : Unit {0}) → Defines (Ok y) (val_in C (features_of v.stacks.features) x) n v w
      → DeclaredAt offset (Ok z) (more_locals (features_of v.stacks.features) C.types (record { count = n; content = map_val written_index x }) (locals_in v)) (locals_in w)
  declared_so C x y z d = ap (more_of n (locals_in v)) (same_type (features_of v.stacks.features) C x) ∙ made y (val_in C (features_of v.stacks.features) x) d

  pub not_declared : (C : Context UnpackedIndex) (x : Val UnpackedIndex) (e : OperatorError) (r : Error) → Defines (Err e) (val_in C (features_of v.stacks.features) x) n v w
      → TellsError e offset r → v.failed ≡ false
      → DeclaredAt offset (Err r) (more_locals (features_of v.stacks.features) C.types (record { count = n; content = map_val written_index x }) (locals_in v)) (locals_in w)
  not_declared C x (Refused f) (error.Refused q) d t g =
      (ap (more_of n (locals_in v)) (same_type (features_of v.stacks.features) C x) ∙ not_more n (locals_in v) (val_in C (features_of v.stacks.features) x) (d.1 g), t.0)
  not_declared C x (Refused f) error.OutOfMemory d t g = absurd t
  not_declared C x OutOfMemory (error.Refused q) d t g = absurd t
  not_declared C x OutOfMemory error.OutOfMemory d t g = tt

-- a refused declaration keeps the locals
pub refused_keeps : {A : Type 0} (offset n : ℕ) (v w : OperatorValidator A) (o : Option (Val UnpackedIndex)) (e : OperatorError) (r : Error)
    → Defines (Err e) o n v w → TellsError e offset r → KeepsLocals (Err r) (locals_in v) (locals_in w)
refused_keeps offset n v w o (Refused f) (error.Refused q) d t = d.0
refused_keeps offset n v w o (Refused f) error.OutOfMemory d t = tt
refused_keeps offset n v w o OutOfMemory (error.Refused q) d t = absurd t
refused_keeps offset n v w o OutOfMemory error.OutOfMemory d t = tt

pub goes_on : {A : Type 0} (u v w : OperatorValidator A) → Goes u v → Goes v w → Goes u w
goes_on u v w j k = record { features = k.features ∙ j.features; shared = k.shared ∙ j.shared }

pub goes : {A : Type 0} (v : OperatorValidator A) → Goes v v
goes v = record { features = refl; shared = refl }

pub ruleset declares = (declared_so, not_declared, refused_keeps, failure_told, no_failure)

-- one declaration after another
module _ {R : Type 0} (F : Features) (types : List R) where
  abbrev pub on_from : ℕ → List ℕ → Option (List (Local R)) → Option (List (Local R) × List ℕ)
  on_from n more o = option_and_then (λ ks. declared_from F types n ks more) o

  abbrev behind_from : ℕ → List (Local R) → Option (Declaration × List ℕ) → Option (List (Local R) × List ℕ)
  behind_from n ls o = option_and_then (λ d. on_from n d.1 (more_locals F types d.0 ls)) o

  pub then_more : (n : ℕ) (ls : List (Local R)) (bytes more : List ℕ) (d : Declaration) (o : Option (List (Local R))) → declaration_at bytes ≡ Some (d, more) → more_locals F types d ls ≡ o
      → declared_from F types (suc n) ls bytes ≡ on_from n more o
  then_more n ls bytes more d o e f = ap (behind_from n ls) e ∙ ap (on_from n more) f

  pub one_more : (left : ℕ) (ls ks : List (Local R)) (bytes more : List ℕ) (d : Declaration) (all : Option (List (Local R) × List ℕ)) → 0 < left → declaration_at bytes ≡ Some (d, more)
      → more_locals F types d ls ≡ Some ks → declared_from F types left ls bytes ≡ all → declared_from F types (left - 1) ks more ≡ all
  one_more zero ls ks bytes more d all h e f so_far = absurd (omega arith)
  one_more (suc n) ls ks bytes more d all h e f so_far =
      let back : suc n - 1 ≡ n = omega arith in
      ap (λ m. declared_from F types m ks more) back ∙ sym (then_more n ls bytes more d (Some ks) e f) ∙ so_far

  pub one_refused : (left : ℕ) (ls : List (Local R)) (bytes more : List ℕ) (d : Declaration) (all : Option (List (Local R) × List ℕ)) → 0 < left → declaration_at bytes ≡ Some (d, more)
      → declared_from F types left ls bytes ≡ all → more_locals F types d ls ≡ None → all ≡ None
  one_refused zero ls bytes more d all h e so_far f = absurd (omega arith)
  one_refused (suc n) ls bytes more d all h e so_far f = sym so_far ∙ then_more n ls bytes more d None e f

  pub none_read : (left : ℕ) (ls : List (Local R)) (bytes : List ℕ) (all : Option (List (Local R) × List ℕ)) → 0 < left → declaration_at bytes ≡ None
      → declared_from F types left ls bytes ≡ all → all ≡ None
  none_read zero ls bytes all h e so_far = absurd (omega arith)
  none_read (suc n) ls bytes all h e so_far = sym so_far ∙ ap (behind_from n ls) e

  pub none_left : (left : ℕ) (ls : List (Local R)) (bytes : List ℕ) (all : Option (List (Local R) × List ℕ)) → left ≤ 0 → declared_from F types left ls bytes ≡ all → all ≡ Some (ls, bytes)
  none_left zero ls bytes all h so_far = sym so_far
  none_left (suc n) ls bytes all h so_far = absurd (omega arith)

  abbrev counted_from : List (Local R) → Option (ℕ × List ℕ) → Option (List (Local R) × List ℕ)
  counted_from ls o = option_and_then (λ n. declared_from F types n.0 ls n.1) o

  pub counted : (ls : List (Local R)) (bytes middle : List ℕ) (n : ℕ) → u32_at bytes ≡ Some (n, middle) → locals_from F types ls bytes ≡ declared_from F types n ls middle
  unfolding locals_from
  counted ls bytes middle n e = ap (counted_from ls) e

  pub not_counted : (ls : List (Local R)) (bytes : List ℕ) → u32_at bytes ≡ None → locals_from F types ls bytes ≡ None
  unfolding locals_from
  not_counted ls bytes e = ap (counted_from ls) e

-- a refused declaration refuses the list
pub ends : (offset : ℕ) (e : Error) (o : Option (List (Local UnpackedIndex))) (ls : List (Local UnpackedIndex)) (all : Option (List (Local UnpackedIndex) × List ℕ)) (ks : List (Local UnpackedIndex)) (more : List ℕ)
    → DeclaredAt offset (Err e) o ls → (o ≡ None → all ≡ None) → Declares (Err e) all ks more
ends offset (error.Refused r) o ls all ks more t f = f t.0
ends offset error.OutOfMemory o ls all ks more t f = tt
