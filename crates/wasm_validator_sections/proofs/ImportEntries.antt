-- An import section as the list of its imports, whether its entries are one import each or may be several.
use Rattle.std.proofs.Common.{◌≡◌, refl, sym, ap, ◌∙◌, ℕ, ◌+◌, Bool, true, false, cond, leb, List, [], ◌∷◌, ◌++◌, map, length, Option, Some, None}
use Rattle.std.specs.Option.{option_map, option_and_then}
use Rattle.std.proofs.lemmas.List.{map-append}
use Rattle.wasm_spec.specs.BinaryModules.{Import, import_at, entry_at, map_import, map_entry}
use Rattle.wasm_spec.specs.Features.{Features}
use Rattle.wasm_spec.specs.Values.{items_at}
use Rattle.wasm_spec.proofs.LawSet.{import_renames, entry_renames}
use Rattle.wasm_spec_rules.specs.Parts.{index, in_order, section_imports}
use Rattle.wasm_spec_rules.specs.Sections.{each}
use Rattle.wasm_readers.specs.WrittenIndices.{written}
use Rattle.wasm_validator_types.specs.Spaces.{Spaces}
use Rattle.wasm_validator_items.specs.WasmValidatorCore.Answers.{TypesSoFar}
use Rattle.wasm_validator_items.specs.WasmValidatorCore.Items.{add_import}
use Rattle.wasm_validator_items.specs.WasmValidatorCore.declared.limits.TheConstants.{MAX_IMPORTS}
use Rattle.wasm_validator_sections.specs.Machine.{add_entry, single_imports, entry_imports, import_items}
use Rattle.wasm_validator_sections.proofs.ItemReads.{read_then_added, items_renamed}

-- one item after another, of two lists
then_behind : {S V : Type 0} (add : S → V → Option S) (xs ys : List V) → ((t : S) → each add t (xs ++ ys) ≡ option_and_then (λ u. each add u ys) (each add t xs))
    → (o : Option S) → option_and_then (λ t. each add t (xs ++ ys)) o ≡ option_and_then (λ t. each add t ys) (option_and_then (λ t. each add t xs) o)
then_behind add xs ys h None = refl
then_behind add xs ys h (Some t) = h t

pub each_behind : {S V : Type 0} (add : S → V → Option S) (s : S) (xs ys : List V) → each add s (xs ++ ys) ≡ option_and_then (λ t. each add t ys) (each add s xs)
each_behind add s [] ys = refl
each_behind add s (x ∷ xs) ys = then_behind add xs ys (λ t. each_behind add t xs ys) (add s x)

-- the imports of entries, one after another
behind_entry : {S : Type 0} (f g : S → Option S) → ((t : S) → f t ≡ g t) → (o : Option S) → option_and_then f o ≡ option_and_then g o
behind_entry f g h None = refl
behind_entry f g h (Some t) = h t

pub each_entry : (F : Features) (us : TypesSoFar) (s : Spaces) (entries : List (List (Import ℕ)))
    → each (add_entry F us) s (map (map_entry written) entries) ≡ each (add_import F us) s (map (map_import written) (in_order entries))
each_entry F us s [] = refl
each_entry F us s (is ∷ entries) =
    behind_entry (λ t. each (add_entry F us) t (map (map_entry written) entries)) (λ t. each (add_import F us) t (map (map_import written) (in_order entries))) (λ t. each_entry F us t entries) (each (add_import F us) s (map (map_import written) is))
    ∙ sym (each_behind (add_import F us) s (map (map_import written) is) (map (map_import written) (in_order entries)))
    ∙ ap (each (add_import F us) s) (sym (map-append (map_import written) is (in_order entries)))

-- a section whose count keeps to the limit with what is there, as the list of what it stands for
abbrev pub counted_imports : Features → TypesSoFar → ℕ → Spaces → List (Import ℕ) → Option Spaces
counted_imports F us count s is = cond (leb (length s.imports + count) MAX_IMPORTS) (each (add_import F us) s (map (map_import written) is)) None

module _ (F : Features) (us : TypesSoFar) (count : ℕ) (bytes : List ℕ) (s : Spaces) where
  abbrev few : Bool
  few = leb (length s.imports + count) MAX_IMPORTS

  single : (b : Bool) (o : Option (List (Import ℕ)))
      → cond b (option_and_then (λ is. each (add_import F us) s is) (option_map (map (map_import written)) o)) None ≡ option_and_then (λ is. cond b (each (add_import F us) s (map (map_import written) is)) None) o
  single true None = refl
  single true (Some is) = refl
  single false None = refl
  single false (Some is) = refl

  several : (b : Bool) (o : Option (List (List (Import ℕ))))
      → cond b (option_and_then (λ es. each (add_entry F us) s es) (option_map (map (map_entry written)) o)) None
      ≡ option_and_then (λ is. cond b (each (add_import F us) s (map (map_import written) is)) None) (option_map in_order o)
  several true None = refl
  several true (Some es) = each_entry F us s es
  several false None = refl
  several false (Some es) = refl

  singles_are : single_imports F us count bytes s ≡ option_and_then (counted_imports F us count s) (items_at (import_at index) count bytes)
  singles_are =
      ap (λ o. cond few o None) (read_then_added (import_at written) (add_import F us) count bytes s)
      ∙ ap (λ o. cond few (option_and_then (λ is. each (add_import F us) s is) o) None) (items_renamed (map_import written) (import_at index) (import_at written) (import_renames written index) count bytes)
      ∙ single few (items_at (import_at index) count bytes)

  entries_are : entry_imports F us count bytes s ≡ option_and_then (counted_imports F us count s) (option_map in_order (items_at (entry_at index) count bytes))
  entries_are =
      ap (λ o. cond few o None) (read_then_added (entry_at written) (add_entry F us) count bytes s)
      ∙ ap (λ o. cond few (option_and_then (λ es. each (add_entry F us) s es) o) None) (items_renamed (map_entry written) (entry_at index) (entry_at written) (entry_renames written index) count bytes)
      ∙ several few (items_at (entry_at index) count bytes)

  by_flag : (b : Bool) → cond b (entry_imports F us count bytes s) (single_imports F us count bytes s) ≡ option_and_then (counted_imports F us count s) (section_imports index b count bytes)
  by_flag true = entries_are
  by_flag false = singles_are

  pub section_of_imports : import_items F us count bytes s ≡ option_and_then (counted_imports F us count s) (section_imports index F.compact_imports count bytes)
  section_of_imports = by_flag F.compact_imports
