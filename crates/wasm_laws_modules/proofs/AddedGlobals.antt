-- Globals that are defined, each added behind those whose values its initializer may read.
use Rattle.std.proofs.Common.{◌≡◌, refl, sym, ap, subst, ◌∙◌, ℕ, ◌+◌, ◌≤◌, nat_eq, Bool, ◌&&◌, cond, leb, List, [], ◌∷◌, ◌++◌, map, length, take, Option, Some, None, arith, append_assoc, length-append}
use Rattle.std.specs.Bool.{Decides}
use Rattle.std.specs.List.{All}
use Rattle.std.proofs.Math.Seq.{take-append_seam}
use Rattle.std.proofs.lemmas.List.{length-map, map-append}
use Rattle.std.proofs.lemmas.List.Elements.{All-nil, All-cons, All-head, All-tail, All-append, All-map}
use Rattle.wasm_spec.specs.Syntax.{Global, Extern, func_extern, func_exact_extern, table_extern, memory_extern, global_extern, tag_extern, map_global, map_val}
use Rattle.wasm_spec.specs.BinaryModules.{Import}
use Rattle.wasm_spec.specs.BinarySections.{GlobalEntry}
use Rattle.wasm_spec.specs.Features.{Features, canonical}
use Rattle.wasm_spec.specs.Trees.{DefType}
use Rattle.wasm_spec.proofs.SyntaxMaps.{map_global-map}
use Rattle.wasm_spec_rules.specs.Parts.{Parts, Expression}
use Rattle.wasm_spec_rules.specs.IndexSpaces.{index_spaces, imported, globals_in, global_type, IsValInRange}
use Rattle.wasm_spec_rules.specs.ItemRules.{IsValidGlobal}
use Rattle.wasm_spec_rules.specs.LinkRules.{IsValidExtern, IsValidImport}
use Rattle.wasm_spec_rules.specs.Sections.{each}
use Rattle.wasm_spec_rules.specs.Limits.{most_globals}
use Rattle.wasm_spec_rules.proofs.Verdicts.{Verdict, verdict_as, verdict_of}
use Rattle.wasm_readers_types.specs.WasmReadersValues.declared.indices.UnpackedIndex.{UnpackedIndex}
use Rattle.wasm_laws_core.specs.WasmValidatorCanonical.Groups.{types_at}
use Rattle.wasm_laws_core.specs.WasmValidatorCanonical.Indices.{canonical_index}
use Rattle.wasm_laws_core.specs.WasmValidatorCanonical.Sections.{written}
use Rattle.wasm_laws_core.specs.WasmValidatorChecks.Items.{is_valid_global}
use Rattle.wasm_laws_core.proofs.WasmValidatorChecks.ItemTests.{globals_are_decided}
use Rattle.wasm_laws_core.specs.WasmValidatorTypes.Spaces.{Spaces}
use Rattle.wasm_laws_core.specs.ModuleParts.{listed_global, spaces_of}
use Rattle.wasm_laws_core.proofs.AddedItems.{for_each, each_changed}
use Rattle.wasm_laws_core.specs.ListedTypes.{types_declare}
use Rattle.wasm_spec_validity.specs.Typing.{IsTypedGlobal}
use Rattle.wasm_spec_validity.specs.Modules.{Numbering, number_at, context_of, imported_globals}
use Rattle.wasm_validator_items.specs.Entries.{add_global_entry, is_constant_of}
use Rattle.wasm_validator_items.specs.Maps.{map_global_entry}
use Rattle.wasm_laws_modules.specs.Contexts.{ShowsConstants, ConstantsAreOverNumbers}
use Rattle.wasm_laws_modules.specs.Lists.{add_global_entries, up_to_tags}
use Rattle.wasm_laws_modules.proofs.ItemSequences.{decides_then, IsWithin, AllFrom, are_within, all_behind, each_verdict, limited_verdict}
use Rattle.wasm_laws_modules.proofs.Constants.{Setting, spaces, GlobalsInRange, shows_constants, constant_decided}

-- the types of valid globals are in range
module _ (F : Features) (types : List DefType) where
  abbrev IsInRange : Global ℕ → Type 0
  IsInRange g = IsValInRange types g.content

  global_in_range : (x : Extern ℕ) → IsValidExtern F types x → GlobalsInRange types (globals_in x)
  global_in_range (func_extern x) v = All-nil IsInRange
  global_in_range (func_exact_extern x) v = All-nil IsInRange
  global_in_range (table_extern t) v = All-nil IsInRange
  global_in_range (memory_extern m) v = All-nil IsInRange
  global_in_range (global_extern g) v = All-cons IsInRange g [] v.0.content.in_range (All-nil IsInRange)
  global_in_range (tag_extern x) v = All-nil IsInRange

  pub imported_in_range : (is : List (Import ℕ)) → All (IsValidImport F types) is → GlobalsInRange types (imported globals_in is)
  imported_in_range [] v = All-nil IsInRange
  imported_in_range (i ∷ is) v =
      All-append IsInRange (globals_in i.ty) (imported globals_in is) (global_in_range i.ty (All-head (IsValidImport F types) i is v).item) (imported_in_range is (All-tail (IsValidImport F types) i is v))

  abbrev pub IsValidEntry : GlobalEntry Expression ℕ → Type 0
  IsValidEntry g = IsValidGlobal F types g.ty

  pub all_in_range : (is : List (Import ℕ)) (gs : List (GlobalEntry Expression ℕ)) → All (IsValidImport F types) is → All IsValidEntry gs → GlobalsInRange types (imported globals_in is ++ map global_type gs)
  all_in_range is gs i g =
      All-append IsInRange (imported globals_in is) (map global_type gs) (imported_in_range is i)
      (All-map IsInRange global_type gs (for_each IsValidEntry (λ (x : GlobalEntry Expression ℕ). IsInRange x.ty) gs (λ x (v : IsValidEntry x). v.content.in_range) g))

module _ (F : Features) (us : List DefType) (ids : List ℕ) (types : List DefType) (w : Setting F us ids types) (parts : Parts)
    (constants : ConstantsAreOverNumbers) (n : Numbering types) (imports : All (IsValidImport F types) parts.imports) where
  abbrev before : List (Global ℕ)
  before = imported globals_in parts.imports

  -- the state where these are defined
  abbrev with_globals : List (GlobalEntry Expression ℕ) → Parts
  with_globals gs = record (up_to_tags parts) { globals = gs }

  abbrev at_globals : List (GlobalEntry Expression ℕ) → Spaces
  at_globals gs = spaces_of F types ids (with_globals gs)

  abbrev add_one : Spaces → GlobalEntry Expression ℕ → Option Spaces
  add_one st g = add_global_entry F (types_declare us us) us st (map_global_entry written g)

  abbrev IsTyped : ℕ → GlobalEntry Expression ℕ → Type 0
  IsTyped x g = IsTypedGlobal nat_eq F (context_of (spaces F us ids types w parts) n parts) (imported_globals parts) (number_at n) x g

  -- those so far are valid, and these come next
  abbrev IsReached : List (GlobalEntry Expression ℕ) → List (GlobalEntry Expression ℕ) → Type 0
  IsReached acc gs = All (IsValidEntry F types) acc × (acc ++ gs ≡ parts.globals)

  seen : (acc gs : List (GlobalEntry Expression ℕ)) → acc ++ gs ≡ parts.globals → (index_spaces types (with_globals acc)).globals ≡ take (length before + length acc) (spaces F us ids types w parts).globals
  seen acc gs e =
      let so_far : List (Global ℕ) = before ++ map global_type acc in
      let counted : length so_far ≡ length before + length acc = length-append before (map global_type acc) ∙ ap (λ k. length before + k) (length-map acc global_type) in
      let all : so_far ++ map global_type gs ≡ before ++ map global_type parts.globals =
      append_assoc before (map global_type acc) (map global_type gs) ∙ ap (λ ts. before ++ ts) (sym (map-append global_type acc gs)) ∙ ap (λ ts. before ++ map global_type ts) e in
      sym (take-append_seam so_far (map global_type gs)) ∙ (λ i. take (counted i) (all i))

  shown : (acc gs : List (GlobalEntry Expression ℕ)) → IsReached acc gs → ShowsConstants F us (at_globals acc) (spaces F us ids types w parts) parts (length before + length acc)
  shown acc gs known =
      shows_constants F us ids types w parts (with_globals acc) (length before + length acc) refl refl (seen acc gs known.1)
      (subst (GlobalsInRange types) (seen acc gs known.1) (all_in_range F types parts.imports acc imports known.0))

  abbrev entry_test : List (GlobalEntry Expression ℕ) → GlobalEntry Expression ℕ → Bool
  entry_test acc g =
      is_valid_global F (types_at us ids) (map_global written g.ty)
      && is_constant_of F (types_declare us us) (at_globals acc) (map_val (canonical_index ids) (map_val written g.ty.content)) g.init

  entry_decided : (acc gs : List (GlobalEntry Expression ℕ)) (g : GlobalEntry Expression ℕ) → IsReached acc gs → Decides (entry_test acc g) (IsValidEntry F types g × IsTyped (length before + length acc) g)
  entry_decided acc gs g known =
      decides_then
      (is_valid_global F (types_at us ids) (map_global written g.ty))
      (is_constant_of F (types_declare us us) (at_globals acc) (map_val (canonical_index ids) (map_val written g.ty.content)) g.init)
      (globals_are_decided F (canonical F) us ids types w.stand g.ty)
      (λ (v : IsValidEntry F types g). constant_decided F us ids types w parts constants n (at_globals acc) (length before + length acc) (shown acc gs known) g.ty.content v.content.in_range g.init)

  globals_counted : (acc : List (GlobalEntry Expression ℕ)) → length (map (listed_global ids) (before ++ map global_type acc)) ≡ length before + length acc
  globals_counted acc = length-map (before ++ map global_type acc) (listed_global ids) ∙ length-append before (map global_type acc) ∙ ap (λ k. length before + k) (length-map acc global_type)

  one_more : (acc : List (GlobalEntry Expression ℕ)) (g : GlobalEntry Expression ℕ)
      → map (listed_global ids) (before ++ map global_type acc) ++ map_global (canonical_index ids) (map_global written g.ty) ∷ [] ≡ map (listed_global ids) (before ++ map global_type (acc ++ g ∷ []))
  one_more acc g =
      let all : List (Global ℕ) → List (Global UnpackedIndex) = map (listed_global ids) in
      (λ i. all (before ++ map global_type acc) ++ map_global-map (canonical_index ids) written g.ty i ∷ [])
      ∙ sym (map-append (listed_global ids) (before ++ map global_type acc) (g.ty ∷ []))
      ∙ ap all (append_assoc before (map global_type acc) (g.ty ∷ []))
      ∙ ap (λ gs. all (before ++ gs)) (sym (map-append global_type acc (g ∷ [])))

  abbrev IsRightEntry : List (GlobalEntry Expression ℕ) → GlobalEntry Expression ℕ → Type 0
  IsRightEntry acc g = IsWithin (IsValidEntry F types) IsTyped (length before) most_globals acc g

  global_step : (acc : List (GlobalEntry Expression ℕ)) (g : GlobalEntry Expression ℕ) (gs : List (GlobalEntry Expression ℕ)) → IsReached acc (g ∷ gs)
      → Verdict (IsRightEntry acc g) (add_one (at_globals acc) g) (at_globals (acc ++ g ∷ []))
  global_step acc g gs known =
      let next : Spaces = at_globals (acc ++ g ∷ []) in
      let room : ℕ = length before + length acc + 1 in
      verdict_of
      (add_one (at_globals acc) g)
      (cond (entry_test acc g) (cond (leb room most_globals) (Some next) None) None)
      next
      (λ i. cond (entry_test acc g) (cond (leb (globals_counted acc i + 1) most_globals) (Some (record (at_globals acc) { globals = one_more acc g i })) None) None)
      (limited_verdict (entry_test acc g) room most_globals next (entry_decided acc (g ∷ gs) g known))

  global_kept : (acc : List (GlobalEntry Expression ℕ)) (g : GlobalEntry Expression ℕ) (gs : List (GlobalEntry Expression ℕ)) → IsReached acc (g ∷ gs) → IsRightEntry acc g → IsReached (acc ++ g ∷ []) gs
  global_kept acc g gs known right =
      (All-append (IsValidEntry F types) acc (g ∷ []) known.0 (All-cons (IsValidEntry F types) g [] right.0.0 (All-nil (IsValidEntry F types))), append_assoc acc (g ∷ []) gs ∙ known.1)

  -- What is asked of all globals.
  abbrev pub GlobalsFit : Type 0
  GlobalsFit = (All (IsValidEntry F types) parts.globals × AllFrom IsTyped (imported_globals parts) parts.globals) × (length (before ++ map global_type parts.globals) ≤ most_globals)

  abbrev AreAllWithin : Type 0
  AreAllWithin = (All (IsValidEntry F types) parts.globals × AllFrom IsTyped (length before + length {A = GlobalEntry Expression ℕ} []) parts.globals) × (length before + length {A = GlobalEntry Expression ℕ} [] + length parts.globals ≤ most_globals)

  none_before : length before + length {A = GlobalEntry Expression ℕ} [] ≡ length before
  none_before = omega arith

  all_counted : length (before ++ map global_type parts.globals) ≡ length before + length parts.globals
  all_counted = length-append before (map global_type parts.globals) ∙ ap (λ k. length before + k) (length-map parts.globals global_type)

  fit_within : AreAllWithin → GlobalsFit
  fit_within a =
      let few = a.1 in
      let counted = all_counted in
      ((a.0.0, subst (λ (k : ℕ). AllFrom IsTyped k parts.globals) none_before a.0.1), omega (arith, few, counted))

  within_fit : GlobalsFit → AreAllWithin
  within_fit a =
      let few = a.1 in
      let counted = all_counted in
      ((a.0.0, subst (λ (k : ℕ). AllFrom IsTyped k parts.globals) (sym none_before) a.0.1), omega (arith, few, counted))

  pub globals_verdict : length before ≤ most_globals → Verdict GlobalsFit (add_global_entries F us (at_globals []) parts.globals) (at_globals parts.globals)
  globals_verdict few =
      verdict_of
      (add_global_entries F us (at_globals []) parts.globals)
      (each add_one (at_globals []) parts.globals)
      (at_globals parts.globals)
      (each_changed (add_global_entry F (types_declare us us) us) (map_global_entry written) (at_globals []) parts.globals)
      (verdict_as
      (each add_one (at_globals []) parts.globals)
      (at_globals parts.globals)
      (λ a. fit_within (are_within (IsValidEntry F types) IsTyped (length before) most_globals [] parts.globals (omega (arith, few)) a))
      (λ a. all_behind (IsValidEntry F types) IsTyped (length before) most_globals [] parts.globals (within_fit a))
      (each_verdict IsRightEntry IsReached add_one at_globals global_step global_kept parts.globals [] (All-nil (IsValidEntry F types), refl)))
