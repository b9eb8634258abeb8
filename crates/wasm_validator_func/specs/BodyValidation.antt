-- What contracts see of the validation of a body.
use Rattle.std.specs.Prelude.{◌≡◌, ℕ, List, Option, Some, None, Result, Ok, Err, ⊤}
use Rattle.wasm_spec.specs.Syntax.{map_val}
use Rattle.wasm_spec_rules.specs.Contexts.{Context}
use Rattle.wasm_spec_rules.specs.FeatureFlags.{features_of}
use Rattle.wasm_readers_errors.specs.declared.error.Error.{Error}
use Rattle.wasm_readers_errors.specs.declared.error.Error.TheVariants.{Refused, OutOfMemory}
use Rattle.wasm_readers_types.specs.WasmReadersValues.SeenValues.{val_of}
use Rattle.wasm_readers_types.specs.WasmReadersValues.declared.indices.UnpackedIndex.{UnpackedIndex}
use Rattle.wasm_readers_types.specs.WasmReadersValues.declared.values.ValType.{ValType}
use Rattle.wasm_spec_steps.specs.Bodies.{Local}
use Rattle.wasm_spec_steps.specs.Machine.{State}
use Rattle.wasm_validator_resources.specs.Answers.{world, written_index}
use Rattle.wasm_typing_validator.specs.BodyTyping.{typed_state, locals_in}
use Rattle.wasm_typing_validator.specs.declared.validator.OperatorValidator.{OperatorValidator}
use Rattle.wasm_typing_validator.specs.TypedInstructions.{within}
use Rattle.wasm_validator_func.specs.Bodies.{more_locals, declared_from, locals_from, body_from}
use Rattle.wasm_spec_steps.specs.FunctionBodies.{Declaration}

-- a declaration of so many locals of a type
abbrev pub declaration_of : ℕ → ValType → Declaration
declaration_of n ty = record { count = n; content = map_val written_index (val_of ty) }

module _ {A : Type 0} (v : OperatorValidator A) (C : Context UnpackedIndex) where
  -- the locals with those of a declaration more, of so many, and of the list that the bytes begin with
  abbrev pub declared_in : Declaration → Option (List (Local UnpackedIndex))
  declared_in d = more_locals (features_of v.stacks.features) C.types d (locals_in v)

  abbrev pub counted_in : ℕ → List ℕ → Option (List (Local UnpackedIndex) × List ℕ)
  counted_in n bytes = declared_from (features_of v.stacks.features) C.types n (locals_in v) bytes

  abbrev pub listed_in : List ℕ → Option (List (Local UnpackedIndex) × List ℕ)
  listed_in bytes = locals_from (features_of v.stacks.features) C.types (locals_in v) bytes

  -- the locals and the state behind the body that the bytes are
  abbrev pub body_in : List ℕ → Option (List (Local UnpackedIndex) × State UnpackedIndex)
  body_in bytes = body_from (world C) (within v C) (typed_state v) bytes

-- the same features and sharedness
pub record Goes {A : Type 0} (v w : OperatorValidator A) : Type 0 where
  pub features : w.stacks.features ≡ v.stacks.features
  pub shared : w.stacks.is_shared ≡ v.stacks.is_shared

-- one declaration at this offset: the locals then, or none where it is refused
abbrev pub DeclaredAt : ℕ → Result (Unit {0}) Error → Option (List (Local UnpackedIndex)) → List (Local UnpackedIndex) → Type 0
DeclaredAt offset (Ok x) o ls = o ≡ Some ls
DeclaredAt offset (Err (Refused r)) o ls = (o ≡ None) × (r.offset ≡ offset)
DeclaredAt offset (Err OutOfMemory) o ls = ⊤

-- a refused declaration keeps the locals
abbrev pub KeepsLocals : Result (Unit {0}) Error → List (Local UnpackedIndex) → List (Local UnpackedIndex) → Type 0
KeepsLocals (Ok x) old new = ⊤
KeepsLocals (Err (Refused r)) old new = new ≡ old
KeepsLocals (Err OutOfMemory) old new = ⊤

-- declarations: the locals then and the bytes behind them, or none where they are refused
abbrev pub Declares : Result (Unit {0}) Error → Option (List (Local UnpackedIndex) × List ℕ) → List (Local UnpackedIndex) → List ℕ → Type 0
Declares (Ok x) o ls more = o ≡ Some (ls, more)
Declares (Err (Refused r)) o ls more = o ≡ None
Declares (Err OutOfMemory) o ls more = ⊤

-- a body: the locals and the state behind it, or none where it is refused
abbrev pub Validates : Result (Unit {0}) Error → Option (List (Local UnpackedIndex) × State UnpackedIndex) → List (Local UnpackedIndex) → State UnpackedIndex → Type 0
Validates (Ok x) o ls t = o ≡ Some (ls, t)
Validates (Err (Refused r)) o ls t = o ≡ None
Validates (Err OutOfMemory) o ls t = ⊤
