-- Constant expressions in a module, and where an item isn't added.
use Rattle.std.proofs.Common.{◌≡◌, sym, ap, ◌∙◌, ℕ, true, List, Some, None}
use Rattle.std.specs.Prelude.{if◌then◌else◌}
use Rattle.std.specs.Option.{option_map, option_and_then}
use Rattle.wasm_spec.specs.Syntax.{Sub, Val, Table, Global, map_table, map_global}
use Rattle.wasm_spec.specs.BinaryTypes.{global_at}
use Rattle.wasm_spec.specs.Features.{Features}
use Rattle.wasm_readers.specs.Tables.{Head, table_head_at}
use Rattle.wasm_readers.specs.WrittenIndices.{written}
use Rattle.wasm_readers_types.specs.WasmReadersValues.declared.indices.UnpackedIndex.{UnpackedIndex}
use Rattle.wasm_validator_core.specs.WasmValidatorCanonical.Indices.{canonical_index}
use Rattle.wasm_validator_core.specs.WasmValidatorChecks.Items.{is_valid_defined_table, is_valid_global}
use Rattle.wasm_validator_types.specs.Spaces.{Spaces}
use Rattle.wasm_validator_core.specs.Answers.{TypesSoFar}
use Rattle.wasm_validator_core.specs.Items.{types_of_module, with_table, with_global}
use Rattle.wasm_spec_rules.specs.Contexts.{Context}
use Rattle.wasm_validator_segments.specs.Data.{behind_data}
use Rattle.wasm_validator_segments.specs.Elements.{typed_element_at}
use Rattle.wasm_validator_segments.specs.Expressions.{behind_expression}
use Rattle.wasm_validator_items.specs.Machine.{context_of, behind_initializer, with_initialized, with_written, global_step, behind_init, with_init, with_head, table_step, with_items, element_step, data_step}

-- an expression in the context of the module is an initializer in it
pub initializer_is : (F : Features) (declares : List (UnpackedIndex × Sub UnpackedIndex)) (s t : Spaces) (C : Context UnpackedIndex) (imported : ℕ) (v : Val UnpackedIndex) (bytes : List ℕ)
    → t ≡ s → C ≡ context_of declares t → imported ≡ t.imported_globals → behind_expression C F imported v bytes ≡ behind_initializer F declares s v bytes
unfolding behind_initializer
initializer_is F declares s t C imported v bytes here context count =
    λ i. behind_expression ((context ∙ ap (context_of declares) here) i) F ((count ∙ ap (λ (u : Spaces). u.imported_globals) here) i) v bytes

module _ (F : Features) (declares : List (UnpackedIndex × Sub UnpackedIndex)) (us : TypesSoFar) (s : Spaces) (bytes more : List ℕ) (g h : Global UnpackedIndex) where
  -- of a valid type, it is there with its initializer
  step_is : global_at written bytes ≡ Some (g, more) → true ≡ is_valid_global F (types_of_module us s) g → h ≡ map_global (canonical_index s.types) g → global_step F declares us s bytes ≡ with_initialized F declares s h more
  unfolding global_step
  step_is e v l =
      ap (option_and_then (λ (x : Global UnpackedIndex × List ℕ). with_written F declares us s x.0 x.1)) e
      ∙ (λ i. if sym v i then with_initialized F declares s (sym l i) more else None)

  -- its initializer isn't there
  pub uninitialized : global_at written bytes ≡ Some (g, more) → true ≡ is_valid_global F (types_of_module us s) g → h ≡ map_global (canonical_index s.types) g
      → behind_initializer F declares s h.content more ≡ None → global_step F declares us s bytes ≡ None
  uninitialized e v l n = step_is e v l ∙ ap (option_and_then (λ (a : List ℕ). option_map (λ (t : Spaces). (t, a)) (with_global s h))) n

  -- there is no room for it
  pub no_room : (after : List ℕ) → global_at written bytes ≡ Some (g, more) → true ≡ is_valid_global F (types_of_module us s) g → h ≡ map_global (canonical_index s.types) g
      → behind_initializer F declares s h.content more ≡ Some after → with_global s h ≡ None → global_step F declares us s bytes ≡ None
  no_room after e v l i n =
      step_is e v l ∙ ap (option_and_then (λ (a : List ℕ). option_map (λ (t : Spaces). (t, a)) (with_global s h))) i
      ∙ ap (option_map (λ (t : Spaces). (t, after))) n

module _ (F : Features) (declares : List (UnpackedIndex × Sub UnpackedIndex)) (us : TypesSoFar) (s : Spaces) (bytes more : List ℕ) (h : Head) (t : Table UnpackedIndex) where
  -- of a valid type, it is there with what its entries begin with
  table_is : table_head_at bytes ≡ Some (h, more) → true ≡ is_valid_defined_table F (types_of_module us s) h.ty h.has_init → t ≡ map_table (canonical_index s.types) h.ty
      → table_step F declares us s bytes ≡ with_init F declares s t h.has_init more
  unfolding table_step
  table_is e v l =
      ap (option_and_then (λ (x : Head × List ℕ). with_head F declares us s x.0 x.1)) e
      ∙ (λ i. if sym v i then with_init F declares s (sym l i) h.has_init more else None)

  -- what its entries begin with isn't there
  pub without_init : table_head_at bytes ≡ Some (h, more) → true ≡ is_valid_defined_table F (types_of_module us s) h.ty h.has_init → t ≡ map_table (canonical_index s.types) h.ty
      → behind_init F declares s t h.has_init more ≡ None → table_step F declares us s bytes ≡ None
  without_init e v l n = table_is e v l ∙ ap (option_and_then (λ (a : List ℕ). option_map (λ (u : Spaces). (u, a)) (with_table F s t))) n

  -- there is no room for it
  pub no_table_room : (after : List ℕ) → table_head_at bytes ≡ Some (h, more) → true ≡ is_valid_defined_table F (types_of_module us s) h.ty h.has_init → t ≡ map_table (canonical_index s.types) h.ty
      → behind_init F declares s t h.has_init more ≡ Some after → with_table F s t ≡ None → table_step F declares us s bytes ≡ None
  no_table_room after e v l i n =
      table_is e v l ∙ ap (option_and_then (λ (a : List ℕ). option_map (λ (u : Spaces). (u, a)) (with_table F s t))) i
      ∙ ap (option_map (λ (u : Spaces). (u, after))) n

-- an element segment in the context of the module
pub segment_is : (F : Features) (declares : List (UnpackedIndex × Sub UnpackedIndex)) (s t : Spaces) (C : Context UnpackedIndex) (imported : ℕ) (bytes : List ℕ)
    → t ≡ s → C ≡ context_of declares t → imported ≡ t.imported_globals → typed_element_at C F imported bytes ≡ typed_element_at (context_of declares s) F s.imported_globals bytes
segment_is F declares s t C imported bytes here context count =
    λ i. typed_element_at ((context ∙ ap (context_of declares) here) i) F ((count ∙ ap (λ (u : Spaces). u.imported_globals) here) i) bytes

-- it isn't there
pub no_segment : (F : Features) (declares : List (UnpackedIndex × Sub UnpackedIndex)) (s : Spaces) (bytes : List ℕ)
    → typed_element_at (context_of declares s) F s.imported_globals bytes ≡ None → element_step F declares s bytes ≡ None
unfolding element_step
no_segment F declares s bytes n = ap (option_map (λ (x : Val UnpackedIndex × List ℕ). (with_items s x.0, x.1))) n

-- a data segment in the context of the module isn't there
pub no_data : (F : Features) (declares : List (UnpackedIndex × Sub UnpackedIndex)) (s t : Spaces) (C : Context UnpackedIndex) (imported : ℕ) (bytes : List ℕ)
    → t ≡ s → C ≡ context_of declares t → imported ≡ t.imported_globals → behind_data C F imported bytes ≡ None → data_step F declares s bytes ≡ None
unfolding data_step
no_data F declares s t C imported bytes here context count n =
    ap (option_map (λ (more : List ℕ). (s, more)))
    ((λ i. behind_data ((sym (context ∙ ap (context_of declares) here)) i) F ((sym (count ∙ ap (λ (u : Spaces). u.imported_globals) here)) i) bytes) ∙ n)
