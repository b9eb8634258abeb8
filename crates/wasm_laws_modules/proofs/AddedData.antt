-- Data segments, added behind all other lists.
use Rattle.std.proofs.Common.{◌≡◌, refl, sym, ap, subst, ◌∙◌, ℕ, zero, suc, ◌<◌, nat_eq, Bool, true, false, List, [], ◌∷◌, length, take, slice_get, IfSome, arith}
use Rattle.std.specs.Prelude.{⊤}
use Rattle.std.specs.Bool.{Decides}
use Rattle.std.specs.List.{All}
use Rattle.std.proofs.Math.Seq.{take-length}
use Rattle.std.proofs.lemmas.List.{length-map}
use Rattle.wasm_spec.specs.Syntax.{Memory, Global, map_global}
use Rattle.wasm_spec.specs.BinarySections.{SegmentMode, passive, active, declarative, Data}
use Rattle.wasm_spec.specs.Features.{Features}
use Rattle.wasm_spec.specs.Trees.{DefType}
use Rattle.wasm_spec_rules.specs.Attempts.{passes}
use Rattle.wasm_spec_rules.specs.Parts.{Parts, Expression}
use Rattle.wasm_spec_rules.specs.IndexSpaces.{index_spaces}
use Rattle.wasm_spec_rules.specs.SegmentRules.{index_or_first, IsValidDataMode, IsValidData}
use Rattle.wasm_spec_rules.proofs.Verdicts.{Verdict, verdict_as}
use Rattle.wasm_spec_validity.specs.WasmSpecSteps.Meanings.{address}
use Rattle.wasm_laws_core.specs.WasmValidatorTypes.Spaces.{Spaces}
use Rattle.wasm_laws_core.specs.ModuleParts.{spaces_of}
use Rattle.wasm_laws_core.specs.ListedTypes.{types_declare}
use Rattle.wasm_spec_validity.specs.Typing.{IsConstant, IsTypedDataMode, IsTypedData}
use Rattle.wasm_spec_validity.specs.Modules.{Numbering, number_at, context_of, imported_globals}
use Rattle.wasm_validator_items.specs.Entries.{add_data, may_be_stored, is_offset}
use Rattle.wasm_laws_modules.specs.Contexts.{ShowsConstants, ConstantsAreOverNumbers}
use Rattle.wasm_laws_modules.specs.Lists.{add_segments, up_to_elements}
use Rattle.wasm_laws_modules.proofs.ItemSequences.{IsRight, are_right, right_behind, each_verdict, tested_verdict}
use Rattle.wasm_laws_modules.proofs.Constants.{Setting, spaces, GlobalsInRange, shows_constants, offset_decided}

-- an item at an index that passes a test
passes_decided : {X : Type 0} (test : X → Bool) (Q : X → Type 0) → ((x : X) → Decides (test x) (Q x)) → (xs : List X) (k : ℕ)
    → Decides (passes test (slice_get xs k)) ((k < length xs) × IfSome (slice_get xs k) Q)
passes_decided test Q d [] k = (λ e. absurd (let z : false ≡ true = e in cc), λ h. let below = h.0 in absurd (omega (arith, below)))
passes_decided test Q d (x ∷ xs) zero = (λ e. (omega arith, (d x).0 e), λ h. (d x).1 h.1)
passes_decided test Q d (x ∷ xs) (suc k) =
    let rest = passes_decided test Q d xs k in
    (λ e. let below = (rest.0 e).0 in (omega (arith, below), (rest.0 e).1), λ h. let below = h.0 in rest.1 (omega (arith, below), h.1))

-- all globals are visible to segments
pub all_visible : (F : Features) (us : List DefType) (ids : List ℕ) (types : List DefType) (w : Setting F us ids types) (parts : Parts) (p : Parts) (count : ℕ)
    → count ≡ length (index_spaces types parts).globals → p.imports ≡ parts.imports → p.functions ≡ parts.functions → p.globals ≡ parts.globals
    → GlobalsInRange types (index_spaces types parts).globals → ShowsConstants F us (spaces_of F types ids p) (index_spaces types parts) parts count
all_visible F us ids types w parts p count counted same_imports same_functions same_globals in_range =
    let all : List (Global ℕ) = (index_spaces types parts).globals in
    let whole : take count all ≡ all = ap (λ (k : ℕ). take k all) counted ∙ take-length all in
    shows_constants F us ids types w parts p count same_imports same_functions
    ((λ i. (index_spaces types (record p { imports = same_imports i; globals = same_globals i })).globals) ∙ sym whole)
    (subst (GlobalsInRange types) (sym whole) in_range)

module _ (F : Features) (us : List DefType) (ids : List ℕ) (types : List DefType) (w : Setting F us ids types) (parts : Parts)
    (constants : ConstantsAreOverNumbers) (n : Numbering types) (in_range : GlobalsInRange types (index_spaces types parts).globals) where
  abbrev before_segments : Spaces
  before_segments = spaces_of F types ids (up_to_elements parts)

  -- how many globals the module's context has
  abbrev count : ℕ
  count = length (context_of (spaces F us ids types w parts) n parts).globals

  abbrev IsTypedMode : SegmentMode Expression → Type 0
  IsTypedMode m = IsTypedDataMode nat_eq F (context_of (spaces F us ids types w parts) n parts) (imported_globals parts) (number_at n) m

  abbrev IsTypedSegment : Data Expression → Type 0
  IsTypedSegment d = IsTypedData nat_eq F (context_of (spaces F us ids types w parts) n parts) (imported_globals parts) (number_at n) d

  memory_offset : (e : Expression) (m : Memory)
      → Decides (is_offset F (types_declare us us) before_segments m.is_64 e) (IsConstant nat_eq F (context_of (spaces F us ids types w parts) n parts) (imported_globals parts) count (address m.is_64) e)
  memory_offset e m =
      offset_decided F us ids types w parts constants n before_segments count
      (all_visible F us ids types w parts (up_to_elements parts) count (length-map (index_spaces types parts).globals (map_global (number_at n))) refl refl refl in_range) m.is_64 e

  mode_decided : (m : SegmentMode Expression) → Decides (may_be_stored F (types_declare us us) before_segments m) (IsValidDataMode F (index_spaces types parts) m × IsTypedMode m)
  mode_decided passive = (λ e. (e, tt), λ h. h.0)
  mode_decided declarative = (λ e. absurd (let z : false ≡ true = e in cc), λ h. absurd h.0)
  mode_decided (active x e) =
      passes_decided
      (λ (m : Memory). is_offset F (types_declare us us) before_segments m.is_64 e)
      (λ (m : Memory). IsConstant nat_eq F (context_of (spaces F us ids types w parts) n parts) (imported_globals parts) count (address m.is_64) e)
      (memory_offset e) (index_spaces types parts).memories (index_or_first x)

  abbrev IsRightSegment : Data Expression → Type 0
  IsRightSegment d = IsValidData F (index_spaces types parts) d × IsTypedSegment d

  pub segments_verdict : Verdict (All IsRightSegment parts.segments) (add_segments F us before_segments parts.segments) before_segments
  segments_verdict =
      verdict_as (add_segments F us before_segments parts.segments) before_segments (are_right IsRightSegment [] parts.segments) (right_behind IsRightSegment [] parts.segments)
      (each_verdict (IsRight IsRightSegment) (λ _ _. ⊤) (add_data F (types_declare us us)) (λ _. before_segments)
      (λ acc d ds _. tested_verdict (may_be_stored F (types_declare us us) before_segments d.mode) before_segments (mode_decided d.mode))
      (λ acc d ds _ _. tt) parts.segments [] tt)
