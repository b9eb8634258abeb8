-- What a module's pieces name is what counts as referenced.
use Rattle.std.proofs.Common.{◌≡◌, ◌<◌, refl, ◌∙◌, ℕ, zero, suc, nat_eq, true, ◌||◌, List, [], ◌∷◌, length, Option, Some, None, is_some, slice_get, arith}
use Rattle.std.specs.Prelude.{IfSome}
use Rattle.std.specs.List.{All}
use Rattle.std.proofs.lemmas.List.Elements.{All-nil, All-cons, All-head, All-tail}
use Rattle.wasm_spec.specs.Syntax.{Memory}
use Rattle.wasm_spec.specs.BinaryModules.{export_at}
use Rattle.wasm_spec.specs.BinarySections.{Data, SegmentMode, passive, active, declarative, table_entry_at, global_entry_at, element_at}
use Rattle.wasm_spec.specs.Features.{Features}
use Rattle.wasm_spec_validity.specs.WasmSpecSteps.WasmSpecRules.Attempts.{among}
use Rattle.wasm_spec_validity.specs.WasmSpecSteps.WasmSpecRules.IndexSpaces.{IndexSpaces}
use Rattle.wasm_spec_validity.specs.WasmSpecSteps.WasmSpecRules.LinkRules.{exported_functions}
use Rattle.wasm_spec_validity.specs.WasmSpecSteps.WasmSpecRules.Parts.{Parts, Expression, index}
use Rattle.wasm_spec_validity.specs.WasmSpecSteps.WasmSpecRules.SegmentRules.{index_or_first, IsValidDataMode, IsValidData}
use Rattle.wasm_spec_validity.specs.WasmSpecSteps.Meanings.{address}
use Rattle.wasm_spec_validity.specs.Expressions.{expression_at, named}
use Rattle.wasm_spec_validity.specs.Modules.{Numbering, context_of, imported_globals, number_at}
use Rattle.wasm_spec_validity.specs.Typing.{IsConstant, IsTypedDataMode, IsTypedData}
use Rattle.wasm_validator_references.specs.References.{table_names, global_names, mode_names, element_names}
use Rattle.wasm_validator_references.specs.NamedFunctions.{PiecesNameWhatIsReferenced}
use Rattle.wasm_validator_references.proofs.Constants.{numbers_name_no_functions}
use Rattle.wasm_validator_references.proofs.Parts.{NamesNothing, parts_named}
use Rattle.wasm_validator_references.proofs.Pieces.{of_all}
use Rattle.wasm_validator_references.proofs.SectionPieces.{all_named}

there : {X : Type 0} (xs : List X) (k : ℕ) → k < length xs → is_some (slice_get xs k) ≡ true
there [] k l = absurd (omega (arith, l))
there (x ∷ xs) zero l = refl
there (x ∷ xs) (suc k) l = there xs k (omega (arith, l))

module _ (F : Features) (C : IndexSpaces) (n : Numbering C.types) (parts : Parts) where
  abbrev IsOffset : Expression → Memory → Type 0
  IsOffset e m = IsConstant nat_eq F (context_of C n parts) (imported_globals parts) (length (context_of C n parts).globals) (address m.is_64) e

  at_memory : (e : Expression) (o : Option Memory) → is_some o ≡ true → IfSome o (IsOffset e) → named e ≡ []
  at_memory e None s h = absurd cc
  at_memory e (Some m) s h = numbers_name_no_functions nat_eq F (context_of C n parts) (imported_globals parts) (length (context_of C n parts).globals) m.is_64 e h

  mode_quiet : (m : SegmentMode Expression) → IsValidDataMode F C m → IsTypedDataMode nat_eq F (context_of C n parts) (imported_globals parts) (number_at n) m → mode_names m ≡ []
  mode_quiet passive v t = refl
  mode_quiet declarative v t = refl
  mode_quiet (active x e) v t = at_memory e (slice_get C.memories (index_or_first x)) (there C.memories (index_or_first x) v) t

  abbrev IsTyped : Data Expression → Type 0
  IsTyped d = IsTypedData nat_eq F (context_of C n parts) (imported_globals parts) (number_at n) d

  all_quiet : (ds : List (Data Expression)) → All (IsValidData F C) ds → All IsTyped ds → All NamesNothing ds
  all_quiet [] v t = All-nil NamesNothing
  all_quiet (d ∷ ds) v t =
      All-cons NamesNothing d ds (mode_quiet d.mode (All-head (IsValidData F C) d ds v) (All-head IsTyped d ds t))
      (all_quiet ds (All-tail (IsValidData F C) d ds v) (All-tail IsTyped d ds t))

pub pieces_name_what_is_referenced : PiecesNameWhatIsReferenced
pieces_name_what_is_referenced F C n parts pieces h v typed i =
    let tables = all_named 4 (table_entry_at expression_at index) table_names pieces parts.tables h.tables in
    let globals = all_named 6 (global_entry_at expression_at index) global_names pieces parts.globals h.globals in
    let exports = all_named 7 export_at exported_functions pieces parts.exports h.exports in
    let elements = all_named 9 (element_at expression_at index) element_names pieces parts.elements h.elements in
    of_all i pieces
    ∙ (λ j. among i (tables j) || (among i (globals j) || (among i (exports j) || among i (elements j))))
    ∙ parts_named i parts (all_quiet F C n parts parts.segments v typed.segments)
