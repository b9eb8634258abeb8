-- The body of a function of a module. Core Specification 3.0, Validation, Modules (Functions).
use Rattle.std.specs.Prelude.{◌≡◌, ◌<◌, ◌⊎◌, ℕ, List, length, Option, Some, None, Result, Ok, Err, ⊤}
use Rattle.wasm_spec.specs.Features.{Features}
use Rattle.wasm_spec_rules.specs.Contexts.{Context}
use Rattle.wasm_spec_rules.specs.Signatures.{Signature}
use Rattle.wasm_spec_rules.specs.Limits.{most_locals}
use Rattle.wasm_readers_bytes.specs.declared.binary_reader.BinaryReader.{BinaryReader}
use Rattle.wasm_readers_errors.specs.declared.error.Error.{Error}
use Rattle.wasm_readers_errors.specs.declared.error.Error.TheVariants.{Refused, OutOfMemory}
use Rattle.wasm_readers_types.specs.WasmReadersValues.declared.indices.UnpackedIndex.{UnpackedIndex}
use Rattle.wasm_spec_steps.specs.FunctionBodies.{IsBodyOfFunction}
use Rattle.wasm_validator_resources.specs.Answers.{world}
use Rattle.wasm_typing_validator.specs.TypedInstructions.{StandsIn}

-- the bytes are the body of a function of the type with this index
abbrev pub IsFunctionBody : Features → Context UnpackedIndex → ℕ → List ℕ → Type 0
IsFunctionBody F C n bytes = IsBodyOfFunction (world C) F C n bytes

-- A refusal of the content says that this doesn't hold, and one for want of memory nothing.
abbrev pub Refuses : Type 0 → Error → Type 0
Refuses P (Refused r) = P → ⊥
Refuses P OutOfMemory = ⊤

-- The call accepts where this holds, and refuses where it doesn't, memory aside.
abbrev pub Decides : {X : Type 0} → Type 0 → Result X Error → Type 0
Decides P (Ok x) = P
Decides P (Err e) = Refuses P e

-- a refusal at the start of a body: there is no function type, or it has more parameters than a body may have locals
abbrev pub HasMore : {X : Type 0} → Result X Error → Option (Signature UnpackedIndex) → Type 0
HasMore (Ok x) g = ⊤
HasMore (Err (Refused r)) None = ⊤
HasMore (Err (Refused r)) (Some g) = most_locals < length g.takes
HasMore (Err OutOfMemory) g = ⊤

-- a refusal at offset 0, unless memory was refused
abbrev pub StandsFirst : Error → Type 0
StandsFirst (Refused r) = r.offset ≡ 0
StandsFirst OutOfMemory = ⊤

-- a refusal at offset 0, or in what is left to read, unless memory was refused
abbrev pub StandsInOrFirst : BinaryReader → Error → Type 0
StandsInOrFirst body e = StandsFirst e ⊎ StandsIn body e
