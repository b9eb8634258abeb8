-- A constant expression in a module as far as it has been read, over the ids of a list of types, is one in the module's own context, over
-- the numbers of its types by first appearance. Core Specification 3.0, Validation, Conventions (Contexts), and Instructions (Constant
-- Expressions).
use Rattle.std.specs.Prelude.{ℕ, ◌≡◌, ◌↔◌, ◌+◌, nat_eq, true, false, List, map, length, take}
use Rattle.std.specs.List.{flat_map, All}
use Rattle.wasm_spec.specs.Syntax.{Ref, Val, reference, Global, Rec, map_ref, map_val}
use Rattle.wasm_spec.specs.BinaryModules.{Import}
use Rattle.wasm_spec.specs.Features.{Features, canonical}
use Rattle.wasm_spec.specs.GroupRules.{IsValidTypeSection}
use Rattle.wasm_spec.specs.Matching.{MatchesRef}
use Rattle.wasm_spec.specs.MatchingTests.{matches_val}
use Rattle.wasm_spec.specs.Trees.{DefType, declared}
use Rattle.wasm_spec.specs.TypeLaws.{HasNoRepetition, AreAccepted}
use Rattle.wasm_spec_rules.specs.Parts.{Parts, Expression}
use Rattle.wasm_spec_rules.specs.IndexSpaces.{IndexSpaces, ref_over, IsRefInRange, IsValInRange}
use Rattle.wasm_spec_rules.specs.Contexts.{exact_in}
use Rattle.wasm_validator_type_groups.specs.Elements.{numbers_from}
use Rattle.wasm_laws_core.specs.WasmValidatorCanonical.Groups.{AreValid}
use Rattle.wasm_laws_core.specs.WasmValidatorChecks.Laws.{Stand}
use Rattle.wasm_validator_resources.specs.Answers.{world}
use Rattle.wasm_laws_core.specs.WasmValidatorTypes.Spaces.{Spaces}
use Rattle.wasm_laws_core.specs.ModuleParts.{listed, listed_global}
use Rattle.wasm_laws_core.specs.ListedTypes.{types_declare}
use Rattle.wasm_spec_validity.specs.Typing.{IsConstant}
use Rattle.wasm_spec_validity.specs.Modules.{Numbering, number_at, context_of, imported_globals}
use Rattle.wasm_validator_items.specs.Machine as machine
use Rattle.wasm_validator_items.specs.Entries.{is_constant_of}

-- Where equal types aren't one, each type of a module has an id of its own: so many, one after another.
abbrev pub HasOwnIds : Features → List ℕ → Type 0
HasOwnIds F ids = canonical F ≡ false → (first : ℕ) × (ids ≡ numbers_from first (length ids))

-- The types of a module: each is valid and mentions only types among them, and where equal types aren't one, none comes twice.
pub record AreModuleTypes (F : Features) (types : List DefType) : Type 0 where
  pub accepted : AreAccepted F declared types
  pub once : canonical F ≡ false → HasNoRepetition types

-- So are the types of a valid type section.
abbrev pub SectionsGiveModuleTypes : Type 0
SectionsGiveModuleTypes = (F : Features) (gs : List (Rec ℕ)) (h : IsValidTypeSection F gs) → AreModuleTypes F h.types

-- The lists of a module as far as it has been read show of its index spaces what a constant expression may see: its types under ids that
-- stand for them, its functions, and the first so many of its globals.
pub record ShowsConstants (F : Features) (us : List DefType) (s : Spaces) (C : IndexSpaces) (parts : Parts) (visible : ℕ) : Type 0 where
  pub types : Stand (canonical F) us s.types C.types
  pub own_ids : HasOwnIds F s.types
  pub functions : s.functions ≡ C.functions
  pub imported_functions : s.imported_functions ≡ flat_map (λ (i : Import ℕ). exact_in i.ty) parts.imports
  pub imported_first : length s.imported_functions + length parts.functions ≡ length C.functions
  pub globals : s.globals ≡ map (listed_global s.types) (take visible C.globals)
  pub globals_in_range : All (λ (g : Global ℕ). IsValInRange C.types g.content) (take visible C.globals)
  pub imported_globals : s.imported_globals ≡ imported_globals parts

-- So what is typed over the ids of a list of valid types, in which no type has two, is typed in the module's context.
abbrev pub ConstantsAreOverNumbers : Type 0
ConstantsAreOverNumbers =
    (F : Features) (us : List DefType) → AreValid F us → HasNoRepetition us
    → (s : Spaces) (C : IndexSpaces) (parts : Parts) (visible : ℕ) → AreModuleTypes F C.types → ShowsConstants F us s C parts visible
    → (n : Numbering C.types) (v : Val ℕ) → IsValInRange C.types v → (e : Expression)
    → (is_constant_of F (types_declare us us) s (map_val (listed s.types) v) e ≡ true) ↔ IsConstant nat_eq F (context_of C n parts) (imported_globals parts) visible (map_val (number_at n) v) e

-- And reference types match over these ids exactly where they do over the types themselves.
abbrev pub ReferencesMatchOverIds : Type 0
ReferencesMatchOverIds =
    (F : Features) (us : List DefType) → AreValid F us → HasNoRepetition us
    → (s : Spaces) (types : List DefType) → AreModuleTypes F types → Stand (canonical F) us s.types types → HasOwnIds F s.types
    → (a b : Ref ℕ) → IsRefInRange types a → IsRefInRange types b
    → (matches_val (world (machine.context_of (types_declare us us) s)) (reference (map_ref (listed s.types) a)) (reference (map_ref (listed s.types) b)) ≡ true)
    ↔ MatchesRef declared (ref_over types a) (ref_over types b)
