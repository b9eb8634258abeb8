-- When a module is valid, with its constant expressions and bodies. Core Specification 3.0, Validation, Modules.
use Rattle.std.specs.Prelude.{◌≡◌, ℕ, nat_eq, List, length, slice_get, Some}
use Rattle.wasm_spec.specs.Features.{Features}
use Rattle.wasm_spec.specs.Trees.{DefType}
use Rattle.wasm_spec_steps.specs.WasmSpecRules.Contexts.{Context, context_over, AreFirst}
use Rattle.wasm_spec_steps.specs.WasmSpecRules.IndexSpaces.{IndexSpaces, index_spaces, imported, globals_in, type_at}
use Rattle.wasm_spec_steps.specs.WasmSpecRules.Modules.{IsWellFormed}
use Rattle.wasm_spec_steps.specs.WasmSpecRules.Parts.{Parts}
use Rattle.wasm_spec_validity.specs.Expressions.{expression_at, named}
use Rattle.wasm_spec_validity.specs.Typing.{HasTypedConstants, HasTypedBodies}

-- The types of a module under numbers: the different ones in the order in which they first appear.
pub record Numbering (types : List DefType) : Type 0 where
  pub distinct : List DefType
  pub first : AreFirst types distinct
  pub number : DefType → ℕ
  pub numbers : (k : ℕ) (d : DefType) → slice_get distinct k ≡ Some d → number d ≡ k

-- the number of the type with this index, and the context over these numbers
abbrev pub number_at : {types : List DefType} → Numbering types → ℕ → ℕ
number_at {types} n x = n.number (type_at types x)

abbrev pub context_of : (C : IndexSpaces) → Numbering C.types → Parts → Context ℕ
context_of C n parts = context_over n.number n.distinct named C parts

-- so many globals are imported
abbrev pub imported_globals : Parts → ℕ
imported_globals parts = length (imported globals_in parts.imports)

-- the constant expressions and the bodies of a module with these index spaces and parts are typed
pub record IsTyped (F : Features) (C : IndexSpaces) (parts : Parts) : Type 0 where
  pub numbering : Numbering C.types
  pub constants : HasTypedConstants nat_eq F (context_of C numbering parts) (imported_globals parts) (number_at numbering) parts
  pub bodies : HasTypedBodies nat_eq F (context_of C numbering parts) parts

-- The bytes are a valid module up to its bodies: all but these keep their rules.
pub record IsValidUpToBodies (F : Features) (bytes : List ℕ) : Type 0 where
  pub well_formed : IsWellFormed expression_at F bytes
  pub numbering : Numbering (index_spaces well_formed.types.types well_formed.parts).types
  pub constants :
      HasTypedConstants nat_eq F (context_of (index_spaces well_formed.types.types well_formed.parts) numbering well_formed.parts)
      (imported_globals well_formed.parts) (number_at numbering) well_formed.parts

-- The bytes are a valid module.
pub record IsValidModule (F : Features) (bytes : List ℕ) : Type 0 where
  pub well_formed : IsWellFormed expression_at F bytes
  pub typed : IsTyped F (index_spaces well_formed.types.types well_formed.parts) well_formed.parts

-- A valid module is valid up to its bodies.
abbrev pub up_to_bodies : {F : Features} {bytes : List ℕ} → IsValidModule F bytes → IsValidUpToBodies F bytes
up_to_bodies m = record { well_formed = m.well_formed; numbering = m.typed.numbering; constants = m.typed.constants }
