-- What the calls for single items answer: an item that is read and typed in one pass is read by the grammar and then added, over what the
-- types of the list declare.
use Rattle.std.proofs.Common.{◌≡◌, sym, ap, subst, ◌∙◌, ℕ, ◌+◌, nat_le, Bool, true, if◌then◌else◌, List, length, Option, Some, None}
use Rattle.std.specs.Prelude.{IfOk, IfErr}
use Rattle.std.specs.declared.result.Result.{Result}
use Rattle.std.specs.declared.result.Result.TheVariants.{Ok, Err}
use Rattle.wasm_spec.specs.BinarySections.{table_entry_at, global_entry_at, element_at, data_at}
use Rattle.wasm_spec.specs.Features.{Features}
use Rattle.wasm_spec.specs.Syntax.{Sub}
use Rattle.wasm_spec.specs.TypeLaws.{HasNoRepetition}
use Rattle.wasm_readers.specs.WrittenIndices.{written}
use Rattle.wasm_readers_types.specs.WasmReadersValues.declared.indices.UnpackedIndex.{UnpackedIndex}
use Rattle.wasm_readers_types.specs.declared.types.SubType.{SubType}
use Rattle.wasm_validator_type_list.specs.DefTypes.{def_types}
use Rattle.wasm_validator_type_list.specs.GroupOrder.{AreListable}
use Rattle.wasm_validator_types.specs.Spaces.{Spaces}
use Rattle.wasm_validator_items.specs.WasmValidatorCore.Answers.{TypesSoFar, Adds}
use Rattle.wasm_validator_items.specs.WasmValidatorCore.declared.error.Error.{Error}
use Rattle.wasm_validator_items.specs.WasmValidatorCore.declared.error.Error.TheVariants.{Refused, DuplicateExport, InFunction, OutOfMemory}
use Rattle.wasm_validator_items.specs.WasmValidatorCore.declared.limits.TheConstants.{MAX_ELEMENT_SEGMENTS}
use Rattle.wasm_validator_items.specs.WasmValidatorCoreResources.IndexContexts.{id_of}
use Rattle.wasm_validator_items.specs.WasmValidatorCoreResources.ListContexts.{list_declares}
use Rattle.wasm_laws_modules.specs.WasmLawsCore.ListedTypes.{types_declare}
use Rattle.wasm_laws_modules.proofs.WasmLawsCore.ListedTypes.{lists_declare_their_types}
use Rattle.wasm_validator_items.specs.WasmValidatorReferences.WasmSpecValidity.Expressions.{expression_at}
use Rattle.wasm_validator_items.specs.Answers.{Refuses}
use Rattle.wasm_validator_items.specs.Entries.{add_table_entry, add_global_entry, add_element, add_data}
use Rattle.wasm_validator_items.specs.Machine.{table_step, global_step, element_step, data_step}
use Rattle.wasm_validator_items.specs.Sections.{read_one}
use Rattle.wasm_validator_items.proofs.Singles.{items_are_added}
use Rattle.wasm_validator_sections.specs.Singles.{next_table, next_global, next_element, next_data}

-- the answer says the same in other words for the machine
kept_adds : {T A S : Type 0} (r : Result T (Error A)) (o p : Option S) (t : S) → o ≡ p → IfOk r (λ x. o ≡ Some t) → IfErr r (λ e. Refuses e o) → Adds r p t
kept_adds (Ok x) o p t f ok err = sym f ∙ ok
kept_adds (Err (Refused r)) o p t f ok err = sym f ∙ err
kept_adds (Err (DuplicateExport name offset)) o p t f ok err = sym f ∙ err
kept_adds (Err (InFunction index r)) o p t f ok err = err
kept_adds (Err OutOfMemory) o p t f ok err = tt

-- what each id declares
abbrev Declared : Type 0
Declared = List (UnpackedIndex × Sub UnpackedIndex)

module _ {A : Type 0} (F : Features) (c : Bool) (gs : List (List (SubType A))) (listable : AreListable gs) (apart : HasNoRepetition (def_types c gs)) (s : Spaces) (bytes : List ℕ) where
  abbrev us : TypesSoFar
  us = def_types c gs

  abbrev ids : Declared
  ids = list_declares id_of gs

  same : ids ≡ types_declare us us
  same = lists_declare_their_types c gs listable apart

  table_is : table_step F ids us s bytes ≡ next_table F us s bytes
  table_is =
      items_are_added.tables F ids us s bytes
      ∙ ap (λ (ds : Declared). read_one (table_entry_at expression_at written) (add_table_entry F ds us) s bytes) same

  global_is : global_step F ids us s bytes ≡ next_global F us s bytes
  global_is =
      items_are_added.globals F ids us s bytes
      ∙ ap (λ (ds : Declared). read_one (global_entry_at expression_at written) (add_global_entry F ds us) s bytes) same

  -- within the limit
  element_is : nat_le (length s.elements + 1) MAX_ELEMENT_SEGMENTS ≡ true → element_step F ids s bytes ≡ next_element F us s bytes
  element_is fits =
      items_are_added.elements F ids s bytes
      ∙ ap (λ (ds : Declared). read_one (element_at expression_at written) (add_element F ds) s bytes) same
      ∙ ap (λ (b : Bool). if b then read_one (element_at expression_at written) (add_element F (types_declare us us)) s bytes else None) (sym fits)

  data_is : data_step F ids s bytes ≡ next_data F us s bytes
  data_is =
      items_are_added.segments F ids s bytes
      ∙ ap (λ (ds : Declared). read_one (data_at expression_at) (add_data F ds) s bytes) same

  -- so the answer of the one says what the other does
  module _ {T : Type 0} (r : Result T (Error A)) (t : Spaces × List ℕ) where
    pub table_added : IfOk r (λ x. table_step F ids us s bytes ≡ Some t) → IfErr r (λ e. Refuses e (table_step F ids us s bytes)) → Adds r (next_table F us s bytes) t
    table_added ok err = kept_adds r (table_step F ids us s bytes) (next_table F us s bytes) t table_is ok err

    pub global_added : IfOk r (λ x. global_step F ids us s bytes ≡ Some t) → IfErr r (λ e. Refuses e (global_step F ids us s bytes)) → Adds r (next_global F us s bytes) t
    global_added ok err = kept_adds r (global_step F ids us s bytes) (next_global F us s bytes) t global_is ok err

    pub element_added : nat_le (length s.elements + 1) MAX_ELEMENT_SEGMENTS ≡ true
        → IfOk r (λ x. element_step F ids s bytes ≡ Some t) → IfErr r (λ e. Refuses e (element_step F ids s bytes)) → Adds r (next_element F us s bytes) t
    element_added fits ok err = kept_adds r (element_step F ids s bytes) (next_element F us s bytes) t (element_is fits) ok err

  -- a data segment leaves the module as it is
  pub data_checked : {T : Type 0} (r : Result T (Error A)) (u : Spaces) (more : List ℕ) → u ≡ s
      → IfOk r (λ x. data_step F ids u bytes ≡ Some (u, more)) → IfErr r (λ e. Refuses e (data_step F ids u bytes)) → Adds r (next_data F us s bytes) (s, more)
  data_checked r u more here ok err =
      subst (λ (w : Spaces). Adds r (next_data F us s bytes) (w, more)) here
      (kept_adds r (data_step F ids u bytes) (next_data F us s bytes) (u, more) (ap (λ (w : Spaces). data_step F ids w bytes) here ∙ data_is) ok err)
