-- Tables that are defined, with what their entries begin with.
use Rattle.std.proofs.Common.{◌≡◌, refl, sym, ap, subst, ◌∙◌, ℕ, ◌+◌, ◌≤◌, nat_eq, Bool, ◌&&◌, cond, leb, List, [], ◌∷◌, ◌++◌, map, length, take, Option, Some, None, is_some, IfSome, arith, append_assoc, append-nil, length-append}
use Rattle.std.specs.Prelude.{⊤}
use Rattle.std.specs.Bool.{Decides}
use Rattle.std.specs.List.{All}
use Rattle.std.proofs.Math.Seq.{take-append_seam}
use Rattle.std.proofs.lemmas.List.{length-map, map-append}
use Rattle.wasm_spec.specs.Syntax.{Ref, Table, reference, map_ref, map_table}
use Rattle.wasm_spec.specs.BinarySections.{TableEntry}
use Rattle.wasm_spec.specs.Features.{Features, canonical}
use Rattle.wasm_spec.specs.Trees.{DefType}
use Rattle.wasm_spec.proofs.SyntaxMaps.{map_table-map}
use Rattle.wasm_spec_rules.specs.Parts.{Parts, Expression}
use Rattle.wasm_spec_rules.specs.IndexSpaces.{imported, tables_in, globals_in, table_type, global_type, IsRefInRange}
use Rattle.wasm_spec_rules.specs.ItemRules.{IsValidTableEntry}
use Rattle.wasm_spec_rules.specs.LinkRules.{IsValidImport}
use Rattle.wasm_spec_rules.specs.Limits.{most_tables}
use Rattle.wasm_spec_rules.specs.Sections.{each}
use Rattle.wasm_spec_rules.proofs.Verdicts.{Verdict, verdict_as, verdict_of}
use Rattle.wasm_readers_types.specs.WasmReadersValues.declared.indices.UnpackedIndex.{UnpackedIndex}
use Rattle.wasm_laws_core.specs.WasmValidatorCanonical.Groups.{types_at}
use Rattle.wasm_laws_core.specs.WasmValidatorCanonical.Indices.{canonical_index}
use Rattle.wasm_laws_core.specs.WasmValidatorCanonical.Sections.{written}
use Rattle.wasm_laws_core.specs.WasmValidatorChecks.Items.{is_valid_defined_table}
use Rattle.wasm_laws_core.proofs.WasmValidatorChecks.ItemTests.{defined_tables_are_decided}
use Rattle.wasm_laws_core.specs.WasmValidatorTypes.Spaces.{Spaces}
use Rattle.wasm_laws_core.specs.ModuleParts.{listed_table, spaces_of}
use Rattle.wasm_laws_core.specs.Lists.{up_to_functions}
use Rattle.wasm_laws_core.proofs.AddedItems.{each_changed}
use Rattle.wasm_laws_core.specs.ListedTypes.{types_declare}
use Rattle.wasm_spec_validity.specs.Typing.{IsConstant, IsTypedTable}
use Rattle.wasm_spec_validity.specs.Modules.{Numbering, number_at, context_of, imported_globals}
use Rattle.wasm_validator_items.specs.Entries.{add_table_entry, is_constant_or_none}
use Rattle.wasm_validator_items.specs.Maps.{map_table_entry}
use Rattle.wasm_laws_modules.specs.Contexts.{ShowsConstants, ConstantsAreOverNumbers}
use Rattle.wasm_laws_modules.specs.Lists.{add_table_entries}
use Rattle.wasm_laws_modules.proofs.ItemSequences.{decides_then, IsWithin, AllFrom, all_from, from_all, are_within, all_behind, each_verdict, limited_verdict}
use Rattle.wasm_laws_modules.proofs.Constants.{Setting, spaces, GlobalsInRange, shows_constants, constant_decided}
use Rattle.wasm_laws_modules.proofs.AddedGlobals.{imported_in_range}

module _ (F : Features) (us : List DefType) (ids : List ℕ) (types : List DefType) (w : Setting F us ids types) (parts : Parts)
    (constants : ConstantsAreOverNumbers) (n : Numbering types) (imports : All (IsValidImport F types) parts.imports) where
  abbrev before : List (Table ℕ)
  before = imported tables_in parts.imports

  -- the state where these are defined
  abbrev with_tables : List (TableEntry Expression ℕ) → Parts
  with_tables ts = record (up_to_functions parts) { tables = ts }

  abbrev at_tables : List (TableEntry Expression ℕ) → Spaces
  at_tables ts = spaces_of F types ids (with_tables ts)

  abbrev add_one : Spaces → TableEntry Expression ℕ → Option Spaces
  add_one st t = add_table_entry F (types_declare us us) us st (map_table_entry written t)

  abbrev IsTyped : TableEntry Expression ℕ → Type 0
  IsTyped t = IsTypedTable nat_eq F (context_of (spaces F us ids types w parts) n parts) (imported_globals parts) (number_at n) t

  -- the imported globals are visible
  imported_seen : imported globals_in parts.imports ++ [] ≡ take (imported_globals parts) (spaces F us ids types w parts).globals
  imported_seen = append-nil (imported globals_in parts.imports) ∙ sym (take-append_seam (imported globals_in parts.imports) (map global_type parts.globals))

  shown : (acc : List (TableEntry Expression ℕ)) → ShowsConstants F us (at_tables acc) (spaces F us ids types w parts) parts (imported_globals parts)
  shown acc =
      let in_range = subst (GlobalsInRange types) (sym (append-nil (imported globals_in parts.imports)) ∙ imported_seen) (imported_in_range F types parts.imports imports) in
      shows_constants F us ids types w parts (with_tables acc) (imported_globals parts) refl refl imported_seen in_range

  init_decided : (acc : List (TableEntry Expression ℕ)) (r : Ref ℕ) → IsRefInRange types r → (init : Option Expression)
      → Decides (is_constant_or_none F (types_declare us us) (at_tables acc) (reference (map_ref (canonical_index ids) (map_ref written r))) init)
      (IfSome init (IsConstant nat_eq F (context_of (spaces F us ids types w parts) n parts) (imported_globals parts) (imported_globals parts) (reference (map_ref (number_at n) r))))
  init_decided acc r in_range None = (λ _. tt, λ _. refl)
  init_decided acc r in_range (Some e) = constant_decided F us ids types w parts constants n (at_tables acc) (imported_globals parts) (shown acc) (reference r) in_range e

  abbrev is_initial : List (TableEntry Expression ℕ) → TableEntry Expression ℕ → Bool
  is_initial acc t = is_constant_or_none F (types_declare us us) (at_tables acc) (reference (map_ref (canonical_index ids) (map_ref written t.ty.element))) t.init

  abbrev entry_test : List (TableEntry Expression ℕ) → TableEntry Expression ℕ → Bool
  entry_test acc t = is_valid_defined_table F (types_at us ids) (map_table written t.ty) (is_some t.init) && is_initial acc t

  entry_decided : (acc : List (TableEntry Expression ℕ)) (t : TableEntry Expression ℕ) → Decides (entry_test acc t) (IsValidTableEntry F types t × IsTyped t)
  entry_decided acc t =
      decides_then
      (is_valid_defined_table F (types_at us ids) (map_table written t.ty) (is_some t.init))
      (is_initial acc t)
      (defined_tables_are_decided F (canonical F) us ids types w.stand t)
      (λ (v : IsValidTableEntry F types t). init_decided acc t.ty.element v.ty.element.in_range t.init)

  tables_counted : (acc : List (TableEntry Expression ℕ)) → length (map (listed_table ids) (before ++ map table_type acc)) ≡ length before + length acc
  tables_counted acc = length-map (before ++ map table_type acc) (listed_table ids) ∙ length-append before (map table_type acc) ∙ ap (λ k. length before + k) (length-map acc table_type)

  one_more : (acc : List (TableEntry Expression ℕ)) (t : TableEntry Expression ℕ)
      → map (listed_table ids) (before ++ map table_type acc) ++ map_table (canonical_index ids) (map_table written t.ty) ∷ [] ≡ map (listed_table ids) (before ++ map table_type (acc ++ t ∷ []))
  one_more acc t =
      let all : List (Table ℕ) → List (Table UnpackedIndex) = map (listed_table ids) in
      (λ i. all (before ++ map table_type acc) ++ map_table-map (canonical_index ids) written t.ty i ∷ [])
      ∙ sym (map-append (listed_table ids) (before ++ map table_type acc) (t.ty ∷ []))
      ∙ ap all (append_assoc before (map table_type acc) (t.ty ∷ []))
      ∙ ap (λ ts. all (before ++ ts)) (sym (map-append table_type acc (t ∷ [])))

  abbrev IsRightEntry : List (TableEntry Expression ℕ) → TableEntry Expression ℕ → Type 0
  IsRightEntry acc t = IsWithin (IsValidTableEntry F types) (λ _. IsTyped) (length before) (most_tables F) acc t

  table_step : (acc : List (TableEntry Expression ℕ)) (t : TableEntry Expression ℕ) → Verdict (IsRightEntry acc t) (add_one (at_tables acc) t) (at_tables (acc ++ t ∷ []))
  table_step acc t =
      let next : Spaces = at_tables (acc ++ t ∷ []) in
      let room : ℕ = length before + length acc + 1 in
      verdict_of
      (add_one (at_tables acc) t)
      (cond (entry_test acc t) (cond (leb room (most_tables F)) (Some next) None) None)
      next
      (λ i. cond (entry_test acc t) (cond (leb (tables_counted acc i + 1) (most_tables F)) (Some (record (at_tables acc) { tables = one_more acc t i })) None) None)
      (limited_verdict (entry_test acc t) room (most_tables F) next (entry_decided acc t))

  -- What is asked of all tables.
  abbrev pub TablesFit : Type 0
  TablesFit = (All (IsValidTableEntry F types) parts.tables × All IsTyped parts.tables) × (length (before ++ map table_type parts.tables) ≤ most_tables F)

  abbrev AreAllWithin : Type 0
  AreAllWithin =
      (All (IsValidTableEntry F types) parts.tables × AllFrom (λ _. IsTyped) (length before + length {A = TableEntry Expression ℕ} []) parts.tables)
      × (length before + length {A = TableEntry Expression ℕ} [] + length parts.tables ≤ most_tables F)

  all_counted : length (before ++ map table_type parts.tables) ≡ length before + length parts.tables
  all_counted = length-append before (map table_type parts.tables) ∙ ap (λ k. length before + k) (length-map parts.tables table_type)

  fit_within : AreAllWithin → TablesFit
  fit_within a =
      let few = a.1 in
      let counted = all_counted in
      ((a.0.0, from_all IsTyped (length before + length {A = TableEntry Expression ℕ} []) parts.tables a.0.1), omega (arith, few, counted))

  within_fit : TablesFit → AreAllWithin
  within_fit a =
      let few = a.1 in
      let counted = all_counted in
      ((a.0.0, all_from IsTyped (length before + length {A = TableEntry Expression ℕ} []) parts.tables a.0.1), omega (arith, few, counted))

  pub tables_verdict : length before ≤ most_tables F → Verdict TablesFit (add_table_entries F us (at_tables []) parts.tables) (at_tables parts.tables)
  tables_verdict few =
      verdict_of
      (add_table_entries F us (at_tables []) parts.tables)
      (each add_one (at_tables []) parts.tables)
      (at_tables parts.tables)
      (each_changed (add_table_entry F (types_declare us us) us) (map_table_entry written) (at_tables []) parts.tables)
      (verdict_as
      (each add_one (at_tables []) parts.tables)
      (at_tables parts.tables)
      (λ a. fit_within (are_within (IsValidTableEntry F types) (λ _. IsTyped) (length before) (most_tables F) [] parts.tables (omega (arith, few)) a))
      (λ a. all_behind (IsValidTableEntry F types) (λ _. IsTyped) (length before) (most_tables F) [] parts.tables (within_fit a))
      (each_verdict IsRightEntry (λ _ _. ⊤) add_one at_tables (λ acc t _ _. table_step acc t) (λ _ _ _ _ _. tt) parts.tables [] tt))
