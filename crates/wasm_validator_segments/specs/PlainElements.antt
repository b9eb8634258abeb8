-- Element segments as compilers write them: functions that are there, for the first table, from an offset that is an integer.
-- Core Specification 3.0, Validation, Modules (Element Segments).
use Rattle.std.specs.Prelude.{◌≡◌, ℕ, false, List, Some, slice_get}
use Rattle.std.specs.Option.{option_map}
use Rattle.wasm_spec.specs.Syntax.{Table, Val, reference}
use Rattle.wasm_spec.specs.BinarySections.{funcref, ref_func}
use Rattle.wasm_spec.specs.Features.{Features}
use Rattle.wasm_spec_rules.specs.Contexts.{Context}
use Rattle.wasm_readers_types.specs.WasmReadersValues.declared.indices.UnpackedIndex.{UnpackedIndex}
use Rattle.wasm_validator_constants.specs.WasmValidatorReferences.References.{names_of_element}
use Rattle.wasm_validator_segments.specs.Elements.{behind_function, typed_element_at}
use Rattle.wasm_validator_segments.specs.Lists.{behind_many}
use Rattle.wasm_validator_segments.specs.NamedFunctions.{names_of_functions}

-- The first table may hold any functions, and has addresses of 32 bits.
pub record TakesFunctions (C : Context UnpackedIndex) : Type 0 where
  pub first : Table UnpackedIndex
  pub is : slice_get C.tables 0 ≡ Some first
  pub narrow : first.is_64 ≡ false
  pub any : first.element ≡ funcref

-- Whatever the features are, the bytes begin with an element segment of so many functions, whose indices begin these, and it names
-- these functions alone.
pub record IsPlain (C : Context UnpackedIndex) (count : ℕ) (bytes indices : List ℕ) : Type 0 where
  pub typed : (F : Features) (imported : ℕ) → typed_element_at C F imported bytes ≡ option_map {U = Val UnpackedIndex × List ℕ} (λ more. (reference ref_func, more)) (behind_many (behind_function C) count indices)
  pub named : (more : List ℕ) → behind_many (behind_function C) count indices ≡ Some more → names_of_element bytes ≡ names_of_functions count indices
