-- The body of a function, from its start.
use Rattle.std.proofs.Common.{◌≡◌, inl, inr, ◌≤◌, ◌<◌, ◌+◌, ◌∙◌, refl, sym, ap, subst, ℕ, Bool, false, true≢false, List, length, map, Option, Some, None, Err, length-append, arith}
use Rattle.std.proofs.lemmas.List.{length-map}
use Rattle.std.specs.Prelude.{is_some}
use Rattle.std.specs.Option.{option_map}
use Rattle.wasm_spec.specs.Features.{Features}
use Rattle.wasm_spec_rules.specs.Contexts.{Context}
use Rattle.wasm_spec_rules.specs.FeatureFlags.{features_of}
use Rattle.wasm_readers_bytes.specs.declared.binary_reader.BinaryReader.{BinaryReader}
use Rattle.wasm_readers_errors.specs.declared.error.Error.{Error}
use Rattle.wasm_readers_errors.specs.declared.error.Error.TheVariants.{Refused, OutOfMemory}
use Rattle.wasm_readers_errors.specs.declared.error.Refusal.{Refusal}
use Rattle.wasm_readers_types.specs.WasmReadersValues.declared.indices.UnpackedIndex.{UnpackedIndex}
use Rattle.wasm_operators.specs.Control.{func_block}
use Rattle.wasm_spec_steps.specs.Bodies.{Local}
use Rattle.wasm_spec_steps.specs.Machine.{State}
use Rattle.wasm_spec_rules.specs.Signatures.{Signature}
use Rattle.wasm_spec_rules.specs.Limits.{most_locals}
use Rattle.wasm_spec_steps.specs.Steps.{start}
use Rattle.wasm_validator_resources.specs.Answers.{world, sub_in}
use Rattle.wasm_typing_validator.specs.WasmTypingStacks.BodyStacks.{surroundings}
use Rattle.wasm_typing_validator.specs.WasmTypingControl.Blocks.{function_in}
use Rattle.wasm_typing_validator.specs.BodyTyping.{typed_state, locals_in, parameter, BeginsBody, HasMany}
use Rattle.wasm_typing_validator.specs.declared.validator.OperatorValidator.{OperatorValidator}
use Rattle.wasm_typing_validator.specs.WasmTypingChecks.OperatorRefusals.{TellsError}
use Rattle.wasm_typing_validator.specs.WasmTypingChecks.declared.faults.OperatorError.{OperatorError}
use Rattle.wasm_typing_validator.specs.WasmTypingChecks.declared.faults.OperatorError.TheVariants as operator_error
use Rattle.wasm_typing_validator.specs.TypedInstructions.{within, IsRefusedAt, StandsIn}
use Rattle.wasm_validator_func.specs.Bodies.{body_from}
use Rattle.wasm_spec_steps.specs.FunctionBodies.{IsBody}
use Rattle.wasm_validator_func.specs.Functions.{IsFunctionBody, Refuses, HasMore, StandsFirst, StandsInOrFirst}
use Rattle.wasm_validator_func.specs.BodyValidation.{body_in, Validates}
use Rattle.wasm_validator_func.proofs.BodyBytes.{finds, are_found}

abbrev value_or : {X : Type 0} → X → Option X → X
value_or x None = x
value_or x (Some y) = y

something : {X : Type 0} (x : X) → Some x ≡ None → ⊥
something x e = absurd cc

abbrev parameters : Signature UnpackedIndex → List (Local UnpackedIndex)
parameters g = map parameter g.takes

-- a validator that begins the body of a function
module _ {A : Type 0} (v : OperatorValidator A) (F : Features) (C : Context UnpackedIndex) (n : ℕ) (bytes : List ℕ) where
  abbrev Body : List (Local UnpackedIndex) → Bool → State UnpackedIndex → List (Local UnpackedIndex) → State UnpackedIndex → Type 0
  Body ps shared s ls t = IsBody (world C) (surroundings F shared C ps) s bytes ls t

  accepted_by : (ls : List (Local UnpackedIndex)) (t : State UnpackedIndex) (o : Option (Signature UnpackedIndex)) → function_in C n ≡ o → Some (locals_in v) ≡ option_map parameters o
      → option_map (λ d. d.shared) (sub_in C n) ≡ Some v.stacks.is_shared → Body (locals_in v) v.stacks.is_shared (start (func_block n)) ls t → IsFunctionBody F C n bytes
  accepted_by ls t None e f h b = absurd cc
  accepted_by ls t (Some g) e f h b = record {
    signature = g;
    shared = v.stacks.is_shared;
    locals = ls;
    last = t;
    is_function = e;
    is_shared = h;
    body = subst (λ ps. Body ps v.stacks.is_shared (start (func_block n)) ls t) (ap (value_or (locals_in v)) f) b;
  }

  pub accepted : (ls : List (Local UnpackedIndex)) (t : State UnpackedIndex) → features_of v.stacks.features ≡ F → length (locals_in v) ≤ most_locals → BeginsBody v C n → body_in v C bytes ≡ Some (ls, t) → IsFunctionBody F C n bytes
  accepted ls t e h b f =
      let found : IsBody (world C) (within v C) (typed_state v) bytes ls t = finds (world C) (within v C) (typed_state v) bytes ls t h f in
      let featured : Body (locals_in v) v.stacks.is_shared (typed_state v) ls t =
      subst (λ G. IsBody (world C) (surroundings G v.stacks.is_shared C (locals_in v)) (typed_state v) bytes ls t) e found in
      accepted_by ls t (function_in C n) refl b.locals (sym b.shared) (subst (λ s. Body (locals_in v) v.stacks.is_shared s ls t) b.state featured)

  -- such a body is found
  found : features_of v.stacks.features ≡ F → BeginsBody v C n → (x : IsFunctionBody F C n bytes) → body_in v C bytes ≡ Some (x.locals, x.last)
  found e b x =
      let there : body_from (world C) (surroundings F x.shared C (parameters x.signature)) (start (func_block n)) bytes ≡ Some (x.locals, x.last) =
      are_found (world C) (surroundings F x.shared C (parameters x.signature)) (start (func_block n)) bytes x.locals x.last x.body in
      let same_locals : locals_in v ≡ parameters x.signature = ap (value_or (locals_in v)) (b.locals ∙ ap (option_map parameters) x.is_function) in
      let same_shared : v.stacks.is_shared ≡ x.shared = ap (value_or v.stacks.is_shared) (b.shared ∙ x.is_shared) in
      ap (λ G. body_from (world C) (surroundings G v.stacks.is_shared C (locals_in v)) (typed_state v) bytes) e
      ∙ ap (λ c. body_from (world C) (surroundings F c C (locals_in v)) (typed_state v) bytes) same_shared
      ∙ ap (λ ps. body_from (world C) (surroundings F x.shared C ps) (typed_state v) bytes) same_locals
      ∙ ap (λ s. body_from (world C) (surroundings F x.shared C (parameters x.signature)) s bytes) b.state ∙ there

  refused : features_of v.stacks.features ≡ F → BeginsBody v C n → body_in v C bytes ≡ None → IsFunctionBody F C n bytes → ⊥
  refused e b f x = something (x.locals, x.last) (sym (found e b x) ∙ f)

-- where there is no function type, and where one has too many parameters, nothing is a body
module _ (F : Features) (C : Context UnpackedIndex) (n : ℕ) (bytes : List ℕ) where
  none_or_too_many : (X : Type 0) (r : Refusal) → HasMore {X = X} (Err (Refused r)) (function_in C n) → IsFunctionBody F C n bytes → ⊥
  none_or_too_many X r h x =
      let many : most_locals < length x.signature.takes = subst (λ o. HasMore {X = X} (Err (Refused r)) o) x.is_function h in
      let all : length x.locals ≡ length (parameters x.signature) + length x.body.locals = ap length x.body.all ∙ length-append (parameters x.signature) x.body.locals in
      let mapped : length (parameters x.signature) ≡ length x.signature.takes = length-map x.signature.takes parameter in
      let few : length x.locals ≤ most_locals = x.body.few in
      absurd (omega (arith, many, all, mapped, few))

  -- the answer where the start is refused
  pub begins_not : (X : Type 0) (e : Error) → HasMore {X = X} (Err e) (function_in C n) → Refuses (IsFunctionBody F C n bytes) e
  begins_not X (Refused r) h = none_or_too_many X r h
  begins_not X OutOfMemory h = tt

module _ {A : Type 0} (v : OperatorValidator A) (F : Features) (C : Context UnpackedIndex) (n : ℕ) (bytes : List ℕ) where
  -- and where the body is
  pub body_refused : (e : Error) (ls : List (Local UnpackedIndex)) (t : State UnpackedIndex) → features_of v.stacks.features ≡ F → BeginsBody v C n → Validates (Err e) (body_in v C bytes) ls t
      → Refuses (IsFunctionBody F C n bytes) e
  body_refused (Refused r) ls t e b f = refused v F C n bytes e b f
  body_refused OutOfMemory ls t e b f = tt

-- there is no function type
pub none_there : (X : Type 0) (e : Error) (o : Option (Signature UnpackedIndex)) → false ≡ is_some o → HasMore {X = X} (Err e) o
none_there X (Refused r) None h = tt
none_there X (Refused r) (Some g) h = absurd (true≢false (sym h))
none_there X OutOfMemory o h = tt

-- a function type has more parameters than a body may have locals: so operators refuse, or so the locals are counted
pub many_told : (X Y : Type 0) (f : OperatorError) (e : Error) (o : Option (Signature UnpackedIndex)) → HasMany {X = X} (Err f) o → TellsError f 0 e → HasMore {X = Y} (Err e) o
many_told X Y (operator_error.Refused f) (Refused r) None h t = tt
many_told X Y (operator_error.Refused f) (Refused r) (Some g) h t = h
many_told X Y (operator_error.Refused f) OutOfMemory o h t = tt
many_told X Y operator_error.OutOfMemory (Refused r) o h t = absurd t
many_told X Y operator_error.OutOfMemory OutOfMemory o h t = tt

pub many_counted : (Y : Type 0) (e : Error) (ls : List (Local UnpackedIndex)) (o : Option (Signature UnpackedIndex)) (k : ℕ) → Some ls ≡ option_map parameters o → k ≡ length ls → most_locals < k → HasMore {X = Y} (Err e) o
many_counted Y (Refused r) ls None k d h l = tt
many_counted Y (Refused r) ls (Some g) k d h l =
    let same : length ls ≡ length (parameters g) = ap (λ o. length (value_or ls o)) d in
    let mapped : length (parameters g) ≡ length g.takes = length-map g.takes parameter in
    omega (arith, h, same, mapped, l)
many_counted Y OutOfMemory ls o k d h l = tt

-- a refusal of operators that is told at 0, and one at 0
pub first_told : (f : OperatorError) (e : Error) → TellsError f 0 e → StandsFirst e
first_told (operator_error.Refused f) (Refused r) h = h.0
first_told (operator_error.Refused f) OutOfMemory h = tt
first_told operator_error.OutOfMemory (Refused r) h = absurd h
first_told operator_error.OutOfMemory OutOfMemory h = tt

pub first_refused : (e : Error) → IsRefusedAt 0 e → StandsFirst e
first_refused (Refused r) h = h
first_refused OutOfMemory h = tt

pub ruleset starts = (none_there, first_told, first_refused)

-- where a refusal stands
pub at_first : (body : BinaryReader) (e : Error) → StandsFirst e → StandsInOrFirst body e
at_first body e h = inl h

pub inside : (body : BinaryReader) (e : Error) → StandsIn body e → StandsInOrFirst body e
inside body e h = inr h

pub ruleset functions = (begins_not, at_first, inside)
