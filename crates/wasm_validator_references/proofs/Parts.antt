-- What the parts of a module name is what counts as referenced, where the offsets of its data name nothing.
use Rattle.std.proofs.Common.{◌≡◌, refl, sym, ap, ◌∙◌, ℕ, Bool, true, false, ◌||◌, List, [], ◌∷◌, ◌++◌, map, Option, Some, None}
use Rattle.std.specs.List.{flat_map, All}
use Rattle.std.proofs.lemmas.List.{append-nil}
use Rattle.std.proofs.lemmas.List.Concat.{flat_map-append}
use Rattle.std.proofs.lemmas.List.Elements.{All-head, All-tail}
use Rattle.std.proofs.lemmas.List.Folds.{flat_map-map}
use Rattle.wasm_spec.specs.BinarySections.{TableEntry, GlobalEntry, Element, ElementItems, functions, expressions, Data, SegmentMode, passive, active, declarative}
use Rattle.wasm_spec_validity.specs.WasmSpecSteps.WasmSpecRules.Attempts.{among}
use Rattle.wasm_spec_validity.specs.WasmSpecSteps.WasmSpecRules.LinkRules.{exported_functions, listed_functions, referenced}
use Rattle.wasm_spec_validity.specs.WasmSpecSteps.WasmSpecRules.Parts.{Parts, Expression, mode_expressions, items_expressions, table_expressions, expressions_of}
use Rattle.wasm_spec_validity.specs.Expressions.{named}
use Rattle.wasm_validator_references.specs.References.{optional_names, table_names, global_names, mode_names, items_names, element_names}
use Rattle.wasm_validator_references.proofs.SectionPieces.{exchange, among-append, among-flat}

-- tables and globals
optional : (o : Option Expression) → flat_map named (table_expressions o) ≡ optional_names o
optional None = refl
optional (Some e) = append-nil (named e)

abbrev of_tables : List (TableEntry Expression ℕ) → List Expression
of_tables ts = flat_map (λ (t : TableEntry Expression ℕ). table_expressions t.init) ts

tables_named : (ts : List (TableEntry Expression ℕ)) → flat_map named (of_tables ts) ≡ flat_map table_names ts
tables_named [] = refl
tables_named (t ∷ ts) = flat_map-append named (table_expressions t.init) (of_tables ts) ∙ (λ j. optional t.init j ++ tables_named ts j)

abbrev of_globals : List (GlobalEntry Expression ℕ) → List Expression
of_globals gs = map (λ (g : GlobalEntry Expression ℕ). g.init) gs

globals_named : (gs : List (GlobalEntry Expression ℕ)) → flat_map named (of_globals gs) ≡ flat_map global_names gs
globals_named gs = flat_map-map named (λ (g : GlobalEntry Expression ℕ). g.init) gs

-- element segments
mode_named : (m : SegmentMode Expression) → flat_map named (mode_expressions m) ≡ mode_names m
mode_named passive = refl
mode_named declarative = refl
mode_named (active x e) = append-nil (named e)

last_first : (b c : Bool) → (b || c) ≡ (c || (b || false))
last_first true true = refl
last_first true false = refl
last_first false true = refl
last_first false false = refl

by_items : (i : ℕ) (b : Bool) (x : ElementItems Expression ℕ) → (b || among i (items_names x)) ≡ (among i (listed_functions x) || (b || among i (flat_map named (items_expressions x))))
by_items i b (functions xs) = last_first b (among i xs)
by_items i b (expressions r es) = refl

abbrev of_element : Element Expression ℕ → List Expression
of_element e = mode_expressions e.mode ++ items_expressions e.items

abbrev listed : List (Element Expression ℕ) → List ℕ
listed es = flat_map (λ (e : Element Expression ℕ). listed_functions e.items) es

element_named : (i : ℕ) (e : Element Expression ℕ) → among i (element_names e) ≡ (among i (listed_functions e.items) || among i (flat_map named (of_element e)))
element_named i e =
    among-append i (mode_names e.mode) (items_names e.items)
    ∙ by_items i (among i (mode_names e.mode)) e.items
    ∙ ap (λ b. among i (listed_functions e.items) || b)
    (ap (λ xs. among i xs || among i (flat_map named (items_expressions e.items))) (sym (mode_named e.mode)) ∙ sym (among-flat i named (mode_expressions e.mode) (items_expressions e.items)))

elements_named : (i : ℕ) (es : List (Element Expression ℕ)) → among i (flat_map element_names es) ≡ (among i (listed es) || among i (flat_map named (flat_map of_element es)))
elements_named i [] = refl
elements_named i (e ∷ es) =
    among-append i (element_names e) (flat_map element_names es)
    ∙ (λ j. element_named i e j || elements_named i es j)
    ∙ exchange (among i (listed_functions e.items)) (among i (flat_map named (of_element e))) (among i (listed es)) (among i (flat_map named (flat_map of_element es)))
    ∙ sym (λ j. among-append i (listed_functions e.items) (listed es) j || among-flat i named (of_element e) (flat_map of_element es) j)

-- data
abbrev pub NamesNothing : Data Expression → Type 0
NamesNothing d = mode_names d.mode ≡ []

abbrev of_data : List (Data Expression) → List Expression
of_data ds = flat_map (λ (d : Data Expression). mode_expressions d.mode) ds

data_named : (ds : List (Data Expression)) → All NamesNothing ds → flat_map named (of_data ds) ≡ []
data_named [] h = refl
data_named (d ∷ ds) h =
    flat_map-append named (mode_expressions d.mode) (of_data ds)
    ∙ (λ j. mode_named d.mode j ++ data_named ds (All-tail NamesNothing d ds h) j)
    ∙ (λ j. All-head NamesNothing d ds h j ++ [])

-- in their order, and in the order of what counts as referenced
in_order : (t g x l e : Bool) → (t || (g || (x || (l || e)))) ≡ (x || (l || (t || (g || (e || false)))))
in_order true g true l e = refl
in_order true g false true e = refl
in_order true g false false e = refl
in_order false true true l e = refl
in_order false true false true e = refl
in_order false true false false e = refl
in_order false false true l e = refl
in_order false false false true e = refl
in_order false false false false true = refl
in_order false false false false false = refl

module _ (i : ℕ) (parts : Parts) (h : All NamesNothing parts.segments) where
  abbrev of_elements : List Expression
  of_elements = flat_map of_element parts.elements

  -- whether the function is named by a table, a global, an export, an element segment's list and its expressions
  abbrev by_tables : Bool
  by_tables = among i (flat_map table_names parts.tables)

  abbrev by_globals : Bool
  by_globals = among i (flat_map global_names parts.globals)

  abbrev by_exports : Bool
  by_exports = among i (flat_map exported_functions parts.exports)

  abbrev by_lists : Bool
  by_lists = among i (listed parts.elements)

  abbrev by_expressions : Bool
  by_expressions = among i (flat_map named of_elements)

  expressions_named : among i (flat_map named (expressions_of parts)) ≡ (by_tables || (by_globals || (by_expressions || false)))
  expressions_named =
      among-flat i named (of_tables parts.tables) (of_globals parts.globals ++ (of_elements ++ of_data parts.segments))
      ∙ ap (λ b. among i (flat_map named (of_tables parts.tables)) || b) (among-flat i named (of_globals parts.globals) (of_elements ++ of_data parts.segments)
      ∙ ap (λ b. among i (flat_map named (of_globals parts.globals)) || b) (among-flat i named of_elements (of_data parts.segments)))
      ∙ (λ j. among i (tables_named parts.tables j) || (among i (globals_named parts.globals j) || (by_expressions || among i (data_named parts.segments h j))))

  referenced_named : among i (referenced named parts) ≡ (by_exports || (by_lists || (by_tables || (by_globals || (by_expressions || false)))))
  referenced_named =
      among-append i (flat_map exported_functions parts.exports) (listed parts.elements ++ flat_map named (expressions_of parts))
      ∙ ap (λ b. by_exports || b) (among-append i (listed parts.elements) (flat_map named (expressions_of parts)) ∙ ap (λ b. by_lists || b) expressions_named)

  pub parts_named : (by_tables || (by_globals || (by_exports || among i (flat_map element_names parts.elements)))) ≡ among i (referenced named parts)
  parts_named =
      (λ j. by_tables || (by_globals || (by_exports || elements_named i parts.elements j)))
      ∙ in_order by_tables by_globals by_exports by_lists by_expressions
      ∙ sym referenced_named
