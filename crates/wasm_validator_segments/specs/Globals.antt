-- Globals: a type, with the identities of the module in it, and an initializer of the type.
-- Core Specification 3.0, Validation, Modules (Globals), and Binary Format, Modules (Global Section).
use Rattle.std.specs.Prelude.{ℕ, List, Option}
use Rattle.std.specs.Option.{option_map, option_and_then}
use Rattle.wasm_spec.specs.Syntax.{Val, Global}
use Rattle.wasm_spec.specs.BinaryTypes.{global_at}
use Rattle.wasm_spec.specs.Features.{Features}
use Rattle.wasm_spec_rules.specs.Contexts.{Context}
use Rattle.wasm_readers.specs.WrittenIndices.{written}
use Rattle.wasm_readers_types.specs.WasmReadersValues.declared.indices.UnpackedIndex.{UnpackedIndex}
use Rattle.wasm_validator_resources.specs.Answers.{val_in}
use Rattle.wasm_validator_segments.specs.Expressions.{behind_expression}

-- the same global, of this content
abbrev pub with_content : Global UnpackedIndex → Val UnpackedIndex → Global UnpackedIndex
with_content g v = record { content = v; mutable = g.mutable; shared = g.shared }

module _ (C : Context UnpackedIndex) (F : Features) where
  -- a global's type, where the features allow what it holds and the module has the type that it names
  unfoldable pub global_type_at : List ℕ → Option (Global UnpackedIndex × List ℕ)
  global_type_at bytes = option_and_then (λ g. option_map (λ v. (with_content g.0 v, g.1)) (val_in C F g.0.content)) (global_at written bytes)

  -- a global's type, and an expression of it
  unfoldable pub typed_global_at : ℕ → List ℕ → Option (Global UnpackedIndex × List ℕ)
  typed_global_at imported bytes =
      option_and_then (λ g. option_map (λ more. (g.0, more)) (behind_expression C F imported g.0.content g.1)) (global_type_at bytes)
