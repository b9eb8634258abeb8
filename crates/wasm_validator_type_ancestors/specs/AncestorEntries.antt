-- What lists of ancestors hold.
use Rattle.std.specs.Prelude.{ℕ, List}
use Rattle.std.specs.declared.option.Option.{Option}
use Rattle.wasm_validator_type_ancestors.specs.declared.ancestor_lists.AncestorLists.TheInside.{Inside}
use Rattle.wasm_validator_type_ancestors.specs.Entries.{supers_of, AreEntries}

module _ {A : Type 0} where
  abbrev pub supers_in : Inside A → List (Option ℕ)
  supers_in a = supers_of a.ids a.entries

  abbrev pub AreEntriesIn : Inside A → Type 0
  AreEntriesIn a = AreEntries a.entries a.ids
