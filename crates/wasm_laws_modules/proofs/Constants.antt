-- Constant expressions of a module, typed in the state that shows its lists so far.
use Rattle.std.proofs.Common.{◌≡◌, refl, sym, ap, ◌∙◌, ℕ, ◌+◌, ◌<◌, nat_eq, Bool, true, false, List, [], ◌∷◌, ◌++◌, map, length, take, length-append}
use Rattle.std.specs.Bool.{Decides}
use Rattle.std.specs.List.{All, flat_map}
use Rattle.std.proofs.lemmas.Bool.Decides.{Decides-at}
use Rattle.std.proofs.lemmas.List.Elements.{All-nil}
use Rattle.wasm_spec.specs.Syntax.{Val, i32, i64, Global, Extern, func_extern, func_exact_extern, table_extern, memory_extern, global_extern, tag_extern, map_val}
use Rattle.wasm_spec.specs.BinaryModules.{Import}
use Rattle.wasm_spec.specs.Features.{Features, canonical}
use Rattle.wasm_spec.specs.Trees.{DefType}
use Rattle.wasm_spec.specs.TypeLaws.{HasNoRepetition}
use Rattle.wasm_spec.proofs.SyntaxMaps.{map_val-map}
use Rattle.wasm_spec_rules.specs.Parts.{Parts, Expression}
use Rattle.wasm_spec_rules.specs.IndexSpaces.{IndexSpaces, index_spaces, imported, functions_in, globals_in, IsValInRange}
use Rattle.wasm_spec_rules.specs.Contexts.{exact_in}
use Rattle.wasm_spec_validity.specs.WasmSpecSteps.Meanings.{address}
use Rattle.wasm_readers_types.specs.WasmReadersValues.declared.indices.UnpackedIndex.{UnpackedIndex}
use Rattle.wasm_laws_core.specs.WasmValidatorCanonical.Groups.{AreValid}
use Rattle.wasm_laws_core.specs.WasmValidatorCanonical.Indices.{canonical_index}
use Rattle.wasm_laws_core.specs.WasmValidatorCanonical.Sections.{written}
use Rattle.wasm_laws_core.specs.WasmValidatorChecks.Laws.{Stand}
use Rattle.wasm_laws_core.specs.WasmValidatorTypes.Spaces.{Spaces}
use Rattle.wasm_laws_core.specs.ModuleParts.{listed, listed_global, spaces_of}
use Rattle.wasm_laws_core.specs.ListedTypes.{types_declare}
use Rattle.wasm_spec_validity.specs.Typing.{IsConstant}
use Rattle.wasm_spec_validity.specs.Modules.{Numbering, number_at, context_of, imported_globals}
use Rattle.wasm_validator_items.specs.Entries.{is_constant_of, is_offset}
use Rattle.wasm_laws_modules.specs.Contexts.{HasOwnIds, AreModuleTypes, ShowsConstants, ConstantsAreOverNumbers}

-- each imported function is one that is exactly of its type or isn't
exact_of_extern : (x : Extern ℕ) → length (exact_in x) ≡ length (functions_in x)
exact_of_extern (func_extern x) = refl
exact_of_extern (func_exact_extern x) = refl
exact_of_extern (table_extern t) = refl
exact_of_extern (memory_extern m) = refl
exact_of_extern (global_extern g) = refl
exact_of_extern (tag_extern x) = refl

exact_of_imports : (is : List (Import ℕ)) → length (flat_map (λ (i : Import ℕ). exact_in i.ty) is) ≡ length (imported functions_in is)
exact_of_imports [] = refl
exact_of_imports (i ∷ is) =
    length-append (exact_in i.ty) (flat_map (λ (j : Import ℕ). exact_in j.ty) is)
    ∙ (λ k. exact_of_extern i.ty k + exact_of_imports is k)
    ∙ sym (length-append (functions_in i.ty) (imported functions_in is))

-- the globals of this module have types in range
abbrev pub GlobalsInRange : List DefType → List (Global ℕ) → Type 0
GlobalsInRange types gs = All (λ (g : Global ℕ). IsValInRange types g.content) gs

-- What a module's lists so far show, where its types stand under these ids.
pub record Setting (F : Features) (us : List DefType) (ids : List ℕ) (types : List DefType) : Type 0 where
  pub valid : AreValid F us
  pub once : HasNoRepetition us
  pub stand : Stand (canonical F) us ids types
  pub own_ids : HasOwnIds F ids
  pub module_types : AreModuleTypes F types

module _ (F : Features) (us : List DefType) (ids : List ℕ) (types : List DefType) (w : Setting F us ids types) (parts : Parts) where
  abbrev pub spaces : IndexSpaces
  spaces = index_spaces types parts

  -- with the module's imports and functions, and the first so many of its globals
  pub shows_constants : (p : Parts) (visible : ℕ) → p.imports ≡ parts.imports → p.functions ≡ parts.functions → (index_spaces types p).globals ≡ take visible spaces.globals
      → GlobalsInRange types (take visible spaces.globals) → ShowsConstants F us (spaces_of F types ids p) spaces parts visible
  shows_constants p visible same_imports same_functions same_globals in_range = record {
    types = w.stand;
    own_ids = w.own_ids;
    functions = λ i. imported functions_in (same_imports i) ++ same_functions i;
    imported_functions = ap (flat_map (λ (i : Import ℕ). exact_in i.ty)) same_imports;
    imported_first = ap (λ (is : List (Import ℕ)). length (flat_map (λ (i : Import ℕ). exact_in i.ty) is) + length parts.functions) same_imports
        ∙ ap (λ k. k + length parts.functions) (exact_of_imports parts.imports)
        ∙ sym (length-append (imported functions_in parts.imports) parts.functions);
    globals = ap (map (listed_global ids)) same_globals;
    globals_in_range = in_range;
    imported_globals = ap (λ (is : List (Import ℕ)). length (imported globals_in is)) same_imports;
  }

  module _ (constants : ConstantsAreOverNumbers) (n : Numbering types) (st : Spaces) (visible : ℕ) (shows : ShowsConstants F us st spaces parts visible) where
    -- an expression of a type is typed by the state where it is in the module's context
    pub constant_decided : (v : Val ℕ) → IsValInRange types v → (e : Expression)
        → Decides (is_constant_of F (types_declare us us) st (map_val (canonical_index st.types) (map_val written v)) e) (IsConstant nat_eq F (context_of spaces n parts) (imported_globals parts) visible (map_val (number_at n) v) e)
    constant_decided v in_range e =
        Decides-at
        (is_constant_of F (types_declare us us) st (map_val (canonical_index st.types) (map_val written v)) e)
        (is_constant_of F (types_declare us us) st (map_val (listed st.types) v) e)
        (ap (λ (t : Val UnpackedIndex). is_constant_of F (types_declare us us) st t e) (map_val-map (canonical_index st.types) written v))
        (constants F us w.valid w.once st spaces parts visible w.module_types shows n v in_range e)

    -- and so is an offset of these addresses
    pub offset_decided : (is_64 : Bool) (e : Expression)
        → Decides (is_offset F (types_declare us us) st is_64 e) (IsConstant nat_eq F (context_of spaces n parts) (imported_globals parts) visible (address is_64) e)
    offset_decided true e = constant_decided i64 (All-nil (λ x. x < length types)) e
    offset_decided false e = constant_decided i32 (All-nil (λ x. x < length types)) e
