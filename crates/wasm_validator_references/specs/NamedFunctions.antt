-- What a module's constant expressions and pieces name: the functions that count as referenced. Core Specification 3.0, Validation,
-- Modules (the set refs).
use Rattle.std.specs.Prelude.{ℕ, ◌≡◌, nat_eq, Bool, List, []}
use Rattle.std.specs.List.{All, flat_map}
use Rattle.wasm_spec.specs.Features.{Features}
use Rattle.wasm_spec.specs.Framing.{Piece}
use Rattle.wasm_spec_validity.specs.WasmSpecSteps.WasmSpecRules.Attempts.{among}
use Rattle.wasm_spec_validity.specs.WasmSpecSteps.WasmSpecRules.Contexts.{Context}
use Rattle.wasm_spec_validity.specs.WasmSpecSteps.WasmSpecRules.IndexSpaces.{IndexSpaces}
use Rattle.wasm_spec_validity.specs.WasmSpecSteps.WasmSpecRules.LinkRules.{referenced}
use Rattle.wasm_spec_validity.specs.WasmSpecSteps.WasmSpecRules.Parts.{Parts, Expression, HasParts}
use Rattle.wasm_spec_validity.specs.WasmSpecSteps.WasmSpecRules.SegmentRules.{IsValidData}
use Rattle.wasm_spec_validity.specs.WasmSpecSteps.Meanings.{address}
use Rattle.wasm_spec_validity.specs.Expressions.{expression_at, named}
use Rattle.wasm_spec_validity.specs.Modules.{Numbering, context_of, imported_globals, number_at}
use Rattle.wasm_spec_validity.specs.Typing.{IsConstant, HasTypedConstants}
use Rattle.wasm_validator_references.specs.References.{piece_names}

-- A constant expression that gives an address names no functions. Each of its instructions that takes a reference gives one, so that the
-- reference to a function would never leave the operands, and the address at the end wouldn't be alone.
abbrev pub NumbersNameNoFunctions : (R : Type 0) → Type 0
NumbersNameNoFunctions R =
    (same : R → R → Bool) (F : Features) (C : Context R) (imported visible : ℕ) (is_64 : Bool) (e : Expression)
    → IsConstant same F C imported visible (address is_64) e → named e ≡ []

-- So where the constant expressions of a module are typed, and its data goes to memories that are there, the functions that its pieces
-- name are those that count as referenced. Sections may come in any order and any number.
abbrev pub PiecesNameWhatIsReferenced : Type 0
PiecesNameWhatIsReferenced =
    (F : Features) (C : IndexSpaces) (n : Numbering C.types) (parts : Parts) (pieces : List Piece) → HasParts F.compact_imports expression_at pieces parts
    → All (IsValidData F C) parts.segments
    → HasTypedConstants nat_eq F (context_of C n parts) (imported_globals parts) (number_at n) parts
    → (i : ℕ) → among i (flat_map piece_names pieces) ≡ among i (referenced named parts)
