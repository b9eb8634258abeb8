-- Counts against the types that validation looks up: a list that is there has as many types as are counted.
use Rattle.std.specs.Prelude.{◌≡◌, ℕ, List, [], ◌∷◌, length, map, Some, None, slice_get, ⊤}
use Rattle.std.specs.Option.{option_map}
use Rattle.wasm_spec_steps.specs.WasmSpecRules.WasmSpec.Syntax.{Ref, Val, reference}
use Rattle.wasm_spec_steps.specs.WasmSpecRules.WasmSpec.MatchingTests.{World}
use Rattle.wasm_readers_types.specs.WasmReadersValues.declared.indices.UnpackedIndex.{UnpackedIndex}
use Rattle.wasm_readers_types.specs.WasmReadersValues.declared.indices.UnpackedIndex.TheVariants.{Module, RecGroup, Id}
use Rattle.wasm_spec_steps.specs.Bodies.{Surroundings}
use Rattle.wasm_spec_steps.specs.Machine.{Frame, State}
use Rattle.wasm_spec_steps.specs.Actions.{of_tag, OperandTypes, these, repeated, front, last, taken_by, given_by, joined, before, behind}
use Rattle.wasm_spec_steps.specs.WasmSpecRules.Signatures.{Signature}
use Rattle.wasm_spec_steps.specs.Meanings.{sub_at, signature_at, types_at}
use Rattle.wasm_typing_arity.specs.Arities.{how_many}
use Rattle.wasm_typing_arity.specs.ArityQueries.{Asked}

-- how many parameters and results a signature has
abbrev pub lengths_of : {R : Type 0} → Signature R → ℕ × ℕ
lengths_of g = (length g.takes, length g.gives)

-- what a context and the frames of a state answer
abbrev pub asked_of : World UnpackedIndex → Surroundings UnpackedIndex → State UnpackedIndex → Asked
asked_of W B s = record {
  types = sub_at W B;
  ids = λ n. W.declared (Id (record { index = n }));
  functions = slice_get B.context.functions;
  tags = λ n. option_map lengths_of (signature_at W B (of_tag n));
  frames = map (λ (x : Frame UnpackedIndex). (x.block, x.kind)) s.frames;
}

-- no type is declared but by an id
pub record DeclaresIds (W : World UnpackedIndex) : Type 0 where
  pub of_module : (n : ℕ) → W.declared (Module n) ≡ None
  pub of_group : (n : ℕ) → W.declared (RecGroup n) ≡ None

-- the continuation is told that the last of these types refers to: by a reference that is written, or as the last that another takes
pub data TellsLast : OperandTypes → Type 0 where
  by_reference : (r : Ref ℕ) → TellsLast (these (reference r ∷ []))
  by_continuation : (t : OperandTypes) → TellsLast t → TellsLast (taken_by t)

-- So many types of a list are counted, where its types are there: all but those of continuations that aren't told so, or where other
-- indices than ids declare types.
abbrev pub IsCounted : World UnpackedIndex → OperandTypes → Type 0
IsCounted W (repeated n t) = IsCounted W t
IsCounted W (front t) = IsCounted W t
IsCounted W (last t) = IsCounted W t
IsCounted W (taken_by t) = TellsLast t × DeclaresIds W
IsCounted W (given_by t) = TellsLast t × DeclaresIds W
IsCounted W (before t u) = IsCounted W t × IsCounted W u
IsCounted W (behind t u) = IsCounted W t × IsCounted W u
IsCounted W (joined t u) = IsCounted W t × IsCounted W u
IsCounted W _ = ⊤

abbrev pub CountsAreLengths : Type 0
CountsAreLengths =
    (W : World UnpackedIndex) (B : Surroundings UnpackedIndex) (s : State UnpackedIndex) (t : OperandTypes) (vs : List (Val UnpackedIndex))
    → IsCounted W t → types_at W B s t ≡ Some vs → how_many (asked_of W B s) t ≡ Some (length vs)
