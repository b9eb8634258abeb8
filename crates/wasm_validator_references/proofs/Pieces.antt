-- What pieces name is what their sections name, by id: tables, globals, exports and element segments.
use Rattle.std.proofs.Common.{◌≡◌, refl, sym, ap, ◌∙◌, ℕ, Bool, true, false, ◌==◌, ◌||◌, if◌then◌else◌, List, [], ◌∷◌, ◌++◌}
use Rattle.std.specs.List.{flat_map}
use Rattle.std.proofs.lemmas.Bool.Decides.{Decides-eqb}
use Rattle.wasm_spec.specs.BinaryModules.{export_at}
use Rattle.wasm_spec.specs.BinarySections.{Element, ElementItems, functions, expressions, table_entry_at, global_entry_at, element_at}
use Rattle.wasm_spec.specs.Framing.{Piece, Counted}
use Rattle.wasm_spec.specs.Values.{items_at}
use Rattle.wasm_spec_validity.specs.WasmSpecSteps.WasmSpecRules.Attempts.{among}
use Rattle.wasm_spec_validity.specs.WasmSpecSteps.WasmSpecRules.LinkRules.{exported_functions}
use Rattle.wasm_spec_validity.specs.WasmSpecSteps.WasmSpecRules.Parts.{Expression, index}
use Rattle.wasm_readers.specs.WrittenIndices.{written}
use Rattle.wasm_spec_validity.specs.Expressions.{expression_at}
use Rattle.wasm_validator_references.specs.References.{table_names, global_names, mode_names, items_names, element_names, names_or_none, names_of_tables, names_of_globals, names_of_exports, names_of_elements, section_names, piece_names}
use Rattle.wasm_validator_references.proofs.EntryPieces.{map_table_entry, map_global_entry, map_items, map_element, tables, globals, elements, items}
use Rattle.wasm_validator_references.proofs.SectionPieces.{exchange, among-append, names_same, of_piece, in_section}

-- with type indices in either form
tables_same : (n : ℕ) (bytes : List ℕ) → names_of_tables n bytes ≡ names_or_none table_names (items_at (table_entry_at expression_at index) n bytes)
tables_same n bytes = names_same (map_table_entry written) table_names table_names (λ t. refl) _ _ (items (map_table_entry written) _ _ (tables written index expression_at) n bytes)

globals_same : (n : ℕ) (bytes : List ℕ) → names_of_globals n bytes ≡ names_or_none global_names (items_at (global_entry_at expression_at index) n bytes)
globals_same n bytes = names_same (map_global_entry written) global_names global_names (λ g. refl) _ _ (items (map_global_entry written) _ _ (globals written index expression_at) n bytes)

listed_same : (x : ElementItems Expression ℕ) → items_names (map_items written x) ≡ items_names x
listed_same (functions xs) = refl
listed_same (expressions r es) = refl

element_same : (e : Element Expression ℕ) → element_names (map_element written e) ≡ element_names e
element_same e = ap (λ xs. mode_names e.mode ++ xs) (listed_same e.items)

elements_same : (n : ℕ) (bytes : List ℕ) → names_of_elements n bytes ≡ names_or_none element_names (items_at (element_at expression_at index) n bytes)
elements_same n bytes = names_same (map_element written) element_names element_names element_same _ _ (items (map_element written) _ _ (elements written index expression_at) n bytes)

-- what a piece names of each kind
abbrev pub in_tables : Piece → List ℕ
in_tables p = of_piece 4 (table_entry_at expression_at index) table_names p

abbrev pub in_globals : Piece → List ℕ
in_globals p = of_piece 6 (global_entry_at expression_at index) global_names p

abbrev pub in_exports : Piece → List ℕ
in_exports p = of_piece 7 export_at exported_functions p

abbrev pub in_elements : Piece → List ℕ
in_elements p = of_piece 9 (element_at expression_at index) element_names p

-- whether it names this function
abbrev named_in : ℕ → Piece → Bool
named_in i p = among i (in_tables p) || (among i (in_globals p) || (among i (in_exports p) || among i (in_elements p)))

or_nothing : (b : Bool) → b ≡ (b || false)
or_nothing true = refl
or_nothing false = refl

-- one of two lists, where the other has nothing then
one_of : (i : ℕ) (b : Bool) (xs ys : List ℕ) → (b ≡ true → ys ≡ []) → among i (if b then xs else ys) ≡ (among i (if b then xs else []) || among i ys)
one_of i true xs ys h = or_nothing (among i xs) ∙ ap (λ zs. among i xs || among i zs) (sym (h refl))
one_of i false xs ys h = refl

module _ (i id n : ℕ) (bytes : List ℕ) where
  -- what a section with this id names, of one kind and of the kinds from there on
  abbrev from_table : ℕ → List ℕ
  from_table k = if k == 4 then names_of_tables n bytes else []

  abbrev from_global : ℕ → List ℕ
  from_global k = if k == 6 then names_of_globals n bytes else []

  abbrev from_export : ℕ → List ℕ
  from_export k = if k == 7 then names_of_exports n bytes else []

  abbrev from_element : ℕ → List ℕ
  from_element k = if k == 9 then names_of_elements n bytes else []

  abbrev exports_on : ℕ → List ℕ
  exports_on k = if k == 7 then names_of_exports n bytes else from_element k

  abbrev globals_on : ℕ → List ℕ
  globals_on k = if k == 6 then names_of_globals n bytes else exports_on k

  is : (k : ℕ) → (id == k) ≡ true → id ≡ k
  is k e = (Decides-eqb id k).0 e

  by_id : among i (section_names id n bytes) ≡ (among i (from_table id) || (among i (from_global id) || (among i (from_export id) || among i (from_element id))))
  by_id =
      one_of i (id == 4) (names_of_tables n bytes) (globals_on id) (λ e. ap globals_on (is 4 e))
      ∙ ap (λ b. among i (from_table id) || b) (one_of i (id == 6) (names_of_globals n bytes) (exports_on id) (λ e. ap exports_on (is 6 e))
      ∙ ap (λ b. among i (from_global id) || b) (one_of i (id == 7) (names_of_exports n bytes) (from_element id) (λ e. ap from_element (is 7 e))))

  abbrev piece : Piece
  piece = Counted id n bytes

  table_piece : from_table id ≡ in_tables piece
  table_piece =
      ap (λ (xs : List ℕ). if id == 4 then xs else []) (tables_same n bytes)
      ∙ in_section table_names (id == 4) (items_at (table_entry_at expression_at index) n bytes)

  global_piece : from_global id ≡ in_globals piece
  global_piece =
      ap (λ (xs : List ℕ). if id == 6 then xs else []) (globals_same n bytes)
      ∙ in_section global_names (id == 6) (items_at (global_entry_at expression_at index) n bytes)

  export_piece : from_export id ≡ in_exports piece
  export_piece = in_section exported_functions (id == 7) (items_at export_at n bytes)

  element_piece : from_element id ≡ in_elements piece
  element_piece =
      ap (λ (xs : List ℕ). if id == 9 then xs else []) (elements_same n bytes)
      ∙ in_section element_names (id == 9) (items_at (element_at expression_at index) n bytes)

  of_section : among i (section_names id n bytes) ≡ named_in i piece
  of_section = by_id ∙ (λ j. among i (table_piece j) || (among i (global_piece j) || (among i (export_piece j) || among i (element_piece j))))

of_one : (i : ℕ) (p : Piece) → among i (piece_names p) ≡ named_in i p
of_one i (Counted id n bytes) = of_section i id n bytes
of_one i _ = refl

-- and all pieces
exchange_all : (a b c d e f g h : Bool) → ((a || (b || (c || d))) || (e || (f || (g || h)))) ≡ ((a || e) || ((b || f) || ((c || g) || (d || h))))
exchange_all a b c d e f g h = exchange a (b || (c || d)) e (f || (g || h)) ∙ ap (λ x. (a || e) || x) (exchange b (c || d) f (g || h) ∙ ap (λ x. (b || f) || x) (exchange c d g h))

pub of_all :
    (i : ℕ) (ps : List Piece) → among i (flat_map piece_names ps)
    ≡ (among i (flat_map in_tables ps) || (among i (flat_map in_globals ps) || (among i (flat_map in_exports ps) || among i (flat_map in_elements ps))))
of_all i [] = refl
of_all i (p ∷ ps) =
    among-append i (piece_names p) (flat_map piece_names ps)
    ∙ (λ j. of_one i p j || of_all i ps j)
    ∙ exchange_all (among i (in_tables p)) (among i (in_globals p)) (among i (in_exports p)) (among i (in_elements p))
    (among i (flat_map in_tables ps)) (among i (flat_map in_globals ps)) (among i (flat_map in_exports ps)) (among i (flat_map in_elements ps))
    ∙ sym (λ j. among-append i (in_tables p) (flat_map in_tables ps) j || (among-append i (in_globals p) (flat_map in_globals ps) j
    || (among-append i (in_exports p) (flat_map in_exports ps) j || among-append i (in_elements p) (flat_map in_elements ps) j)))
