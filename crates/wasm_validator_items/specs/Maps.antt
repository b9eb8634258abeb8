-- Entries of sections with each type index renamed.
use Rattle.wasm_spec.specs.Syntax.{map_ref, map_table, map_global}
use Rattle.wasm_spec.specs.BinarySections.{TableEntry, GlobalEntry, Element, ElementItems, functions, expressions}

module _ {E R S : Type 0} (f : R → S) where
  abbrev pub map_table_entry : TableEntry E R → TableEntry E S
  map_table_entry t = record { ty = map_table f t.ty; init = t.init }

  abbrev pub map_global_entry : GlobalEntry E R → GlobalEntry E S
  map_global_entry g = record { ty = map_global f g.ty; init = g.init }

  abbrev pub map_items : ElementItems E R → ElementItems E S
  map_items (functions xs) = functions xs
  map_items (expressions r es) = expressions (map_ref f r) es

  abbrev pub map_element : Element E R → Element E S
  map_element e = record { mode = e.mode; items = map_items e.items }
