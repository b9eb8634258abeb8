-- The items of an element segment, read and typed in one pass, are read and then typed.
use Rattle.std.proofs.Common.{◌≡◌, refl, sym, ap, ◌∙◌, ℕ, ◌==◌, nat_lt, nat_le, Bool, true, false, ◌&&◌, if◌then◌else◌, List, length, slice_get, Option, Some, None, option_map}
use Rattle.std.specs.List.{list_all}
use Rattle.std.specs.Option.{option_and_then}
use Rattle.std.proofs.lemmas.Bool.{ltb-true, ltb-false}
use Rattle.std.proofs.lemmas.Option.{slice_get_past, slice_get-get_or}
use Rattle.wasm_spec.specs.Syntax.{Ref, Val, reference, Sub, map_ref}
use Rattle.wasm_spec.specs.Values.{u32_at, list_at}
use Rattle.wasm_spec.specs.BinaryTypes.{flags_at, ref_at}
use Rattle.wasm_spec.specs.BinarySections.{ElementItems, functions, expressions, funcref, ref_func}
use Rattle.wasm_spec.specs.ValueTypes.{allows_ref}
use Rattle.wasm_spec.specs.Features.{Features}
use Rattle.wasm_spec_rules.specs.Contexts.{Context}
use Rattle.wasm_spec_rules.specs.Parts.{Expression, index}
use Rattle.wasm_spec_rules.specs.Limits.{most_items}
use Rattle.wasm_readers.specs.WrittenIndices.{written}
use Rattle.wasm_readers_types.specs.WasmReadersValues.declared.indices.UnpackedIndex.{UnpackedIndex}
use Rattle.wasm_validator_core.specs.WasmValidatorCanonical.Indices.{canonical_index}
use Rattle.wasm_validator_core.specs.WasmValidatorChecks.Items.{is_ref_in_range}
use Rattle.wasm_validator_resources.specs.Answers.{val_in}
use Rattle.wasm_validator_segments.specs.WasmValidatorReferences.WasmSpecValidity.Expressions.{expression_at}
use Rattle.wasm_validator_segments.specs.Elements.{behind_function, may_go, reference_at}
use Rattle.wasm_validator_items.specs.Expressions.{behind_expression}
use Rattle.wasm_validator_segments.specs.Lists.{behind_list}
use Rattle.wasm_validator_types.specs.Spaces.{Spaces}
use Rattle.wasm_validator_items.specs.Machine.{context_of}
use Rattle.wasm_validator_items.specs.Entries.{listed_items_type, is_constant_of, are_items}
use Rattle.wasm_validator_items.proofs.Attempts.{behind_where, always_none, then_mapped, then_then, then_same}
use Rattle.wasm_validator_items.proofs.InitializerReads.{expression_is}
use Rattle.wasm_validator_items.proofs.Lists.{list_is}
use Rattle.wasm_validator_items.proofs.EntryRenamings.{ref-renames}
use Rattle.wasm_validator_items.proofs.WrittenTypes.{Resolves, written_resolves, funcref_resolves, val_is}

-- a value beside what is behind
abbrev pub with_more : {W : Type 0} → W → List ℕ → W × List ℕ
with_more v more = (v, more)

-- two tests
two_tests : {W : Type 0} (c g : Bool) (v : W) (more : List ℕ) → (if g then option_map (with_more v) (if c then Some more else None) else None) ≡ (if c && g then Some (v, more) else None)
two_tests true true v more = refl
two_tests true false v more = refl
two_tests false true v more = refl
two_tests false false v more = refl

abbrev nothing : {W : Type 0} → Option (W × List ℕ)
nothing = None

none_either : {W : Type 0} (g : Bool) → (if g then nothing {W = W} else nothing) ≡ nothing
none_either true = refl
none_either false = refl

pub tested_items : {V W : Type 0} (g : Bool) (test : V → Bool) (v : W) (o : Option (V × List ℕ))
    → (if g then option_map (with_more v) (behind_where test o) else None) ≡ option_and_then (λ x. if test x.0 && g then Some (v, x.1) else None) o
tested_items g test v None = none_either g
tested_items g test v (Some x) = two_tests (test x.0) g v x.1

module _ (F : Features) (declares : List (UnpackedIndex × Sub UnpackedIndex)) (s : Spaces) where
  abbrev pub C : Context UnpackedIndex
  C = context_of declares s

  abbrev pub Items : Type 0
  Items = ElementItems Expression UnpackedIndex

  abbrev pub type_of : Items → Val UnpackedIndex
  type_of i = reference (listed_items_type s i)

  -- items that are there and may go where the segment goes
  abbrev pub placed : Option ℕ → Option (Items × List ℕ) → Option (Val UnpackedIndex × List ℕ)
  placed t o = option_and_then (λ i. if are_items F declares s i.0 && may_go C t (type_of i.0) then Some (type_of i.0, i.1) else None) o

  abbrev pub IsPlaced : (Option ℕ → List ℕ → Option (Val UnpackedIndex × List ℕ)) → (List ℕ → Option (Items × List ℕ)) → Type 0
  IsPlaced typed items = (t : Option ℕ) (bytes : List ℕ) → typed t bytes ≡ placed t (items bytes)

  -- functions
  there : (n : ℕ) (more : List ℕ) (b : Bool) → nat_lt n (length s.functions) ≡ b → option_map (λ f. more) (slice_get s.functions n) ≡ (if b then Some more else None)
  there n more true e = ap (option_map (λ f. more)) (slice_get-get_or s.functions n 0 (ltb-true n (length s.functions) e))
  there n more false e = ap (option_map (λ f. more)) (slice_get_past s.functions n (ltb-false n (length s.functions) e))

  function_is : (bytes : List ℕ) → behind_function C bytes ≡ behind_where (λ x. nat_lt x (length s.functions)) (u32_at bytes)
  unfolding behind_function
  function_is bytes =
      then_same (λ (x : ℕ × List ℕ). option_map (λ f. x.1) (slice_get s.functions x.0)) (λ x. if nat_lt x.0 (length s.functions) then Some x.1 else None)
      (λ x. there x.0 x.1 (nat_lt x.0 (length s.functions)) refl) (u32_at bytes)

  abbrev pub function_items : List ℕ → Option (Items × List ℕ)
  function_items bytes = option_map (λ xs. (functions xs.0, xs.1)) (list_at u32_at bytes)

  functions_typed : (t : Option ℕ) (bytes : List ℕ)
      → (if may_go C t (reference ref_func) then option_map (with_more (reference ref_func)) (behind_list (behind_function C) bytes) else None) ≡ placed t (function_items bytes)
  functions_typed t bytes =
      ap (λ (o : Option (List ℕ)). if may_go C t (reference ref_func) then option_map (with_more (reference ref_func)) o else None)
      (list_is (behind_function C) u32_at (λ x. nat_lt x (length s.functions)) function_is bytes)
      ∙ tested_items (may_go C t (reference ref_func)) (λ xs. list_all (λ x. nat_lt x (length s.functions)) xs && nat_le (length xs) most_items) (reference ref_func) (list_at u32_at bytes)
      ∙ sym (then_mapped (λ (i : Items × List ℕ). if are_items F declares s i.0 && may_go C t (type_of i.0) then Some (type_of i.0, i.1) else None) (λ (xs : List ℕ × List ℕ). (functions xs.0, xs.1)) (list_at u32_at bytes))

  -- behind their kind
  abbrev pub kind_items : List ℕ → Option (Items × List ℕ)
  kind_items bytes = option_and_then (λ k. function_items k.1) (flags_at 0 bytes)

  abbrev plain : Option ℕ → Val UnpackedIndex × List ℕ → Option (Val UnpackedIndex × List ℕ)
  plain t v = if may_go C t v.0 then option_map (with_more v.0) (behind_list (behind_function C) v.1) else None

  pub functions_placed : IsPlaced (λ t bytes. plain t (reference ref_func, bytes)) function_items
  functions_placed t bytes = functions_typed t bytes

  pub kinds_placed : IsPlaced (λ t bytes. option_and_then (plain t) (option_map (λ k. (reference ref_func, k.1)) (flags_at 0 bytes))) kind_items
  kinds_placed t bytes =
      then_mapped (plain t) (λ (k : ℕ × List ℕ). (reference ref_func, k.1)) (flags_at 0 bytes)
      ∙ then_same (λ (k : ℕ × List ℕ). plain t (reference ref_func, k.1)) (λ k. placed t (function_items k.1)) (λ k. functions_typed t k.1) (flags_at 0 bytes)
      ∙ sym (then_then (λ (i : Items × List ℕ). if are_items F declares s i.0 && may_go C t (type_of i.0) then Some (type_of i.0, i.1) else None) (λ (k : ℕ × List ℕ). function_items k.1) (flags_at 0 bytes))

  -- expressions of a type
  abbrev pub expression_items : Ref UnpackedIndex → List ℕ → Option (Items × List ℕ)
  expression_items r bytes = option_map (λ es. (expressions r es.0, es.1)) (list_at expression_at bytes)

  abbrev typed : Option ℕ → Val UnpackedIndex × List ℕ → Option (Val UnpackedIndex × List ℕ)
  typed t v = if may_go C t v.0 then option_map (with_more v.0) (behind_list (behind_expression C F s.imported_globals v.0) v.1) else None

  list_typed : (t : Option ℕ) (v : Val UnpackedIndex) (bytes : List ℕ)
      → typed t (v, bytes) ≡ option_and_then (λ es. if (list_all (is_constant_of F declares s v) es.0 && nat_le (length es.0) most_items) && may_go C t v then Some (v, es.1) else None) (list_at expression_at bytes)
  list_typed t v bytes =
      ap (λ (o : Option (List ℕ)). if may_go C t v then option_map (with_more v) o else None)
      (list_is (behind_expression C F s.imported_globals v) expression_at (is_constant_of F declares s v) (expression_is F declares s v) bytes)
      ∙ tested_items (may_go C t v) (λ es. list_all (is_constant_of F declares s v) es && nat_le (length es) most_items) v (list_at expression_at bytes)

  -- where the type is allowed and there
  where_typed : (allowed has : Bool) (t : Option ℕ) (v : Val UnpackedIndex) (bytes : List ℕ)
      → option_and_then (typed t) (option_map (λ w. (w, bytes)) (if allowed && has then Some v else None))
      ≡ option_and_then (λ es. if (allowed && has && list_all (is_constant_of F declares s v) es.0 && nat_le (length es.0) most_items) && may_go C t v then Some (v, es.1) else None) (list_at expression_at bytes)
  where_typed true true t v bytes = list_typed t v bytes
  where_typed true false t v bytes = sym (always_none (λ (es : List Expression × List ℕ). if false then Some (v, es.1) else None) (λ es. refl) (list_at expression_at bytes))
  where_typed false has t v bytes = sym (always_none (λ (es : List Expression × List ℕ). if false then Some (v, es.1) else None) (λ es. refl) (list_at expression_at bytes))

  expressions_typed : (t : Option ℕ) (r : Ref UnpackedIndex) → Resolves s.types r → (bytes : List ℕ)
      → option_and_then (typed t) (option_map (λ w. (w, bytes)) (val_in C F (reference r))) ≡ placed t (expression_items r bytes)
  expressions_typed t r e bytes =
      ap (λ (o : Option (Val UnpackedIndex)). option_and_then (typed t) (option_map (λ w. (w, bytes)) o)) (val_is F declares s r e)
      ∙ where_typed (allows_ref F r) (is_ref_in_range (length s.types) r) t (reference (map_ref (canonical_index s.types) r)) bytes
      ∙ sym (then_mapped (λ (i : Items × List ℕ). if are_items F declares s i.0 && may_go C t (type_of i.0) then Some (type_of i.0, i.1) else None) (λ (es : List Expression × List ℕ). (expressions r es.0, es.1)) (list_at expression_at bytes))

  -- of any functions, where no type is written
  pub funcrefs_placed : IsPlaced (λ t bytes. option_and_then (typed t) (reference_at C F 4 bytes)) (expression_items funcref)
  unfolding reference_at
  funcrefs_placed t bytes = expressions_typed t funcref (funcref_resolves s.types) bytes

  -- of a written type
  abbrev pub typed_items : List ℕ → Option (Items × List ℕ)
  typed_items bytes = option_and_then (λ r. expression_items r.0 r.1) (ref_at written bytes)

  abbrev resolved : Ref UnpackedIndex × List ℕ → Option (Val UnpackedIndex × List ℕ)
  resolved r = option_map (λ v. (v, r.1)) (val_in C F (reference r.0))

  abbrev in_form : Ref ℕ × List ℕ → Ref UnpackedIndex × List ℕ
  in_form r = (map_ref written r.0, r.1)

  form_typed : (t : Option ℕ) (o : Option (Ref ℕ × List ℕ))
      → option_and_then (typed t) (option_and_then resolved (option_map in_form o)) ≡ placed t (option_and_then (λ r. expression_items r.0 r.1) (option_map in_form o))
  form_typed t None = refl
  form_typed t (Some r) = expressions_typed t (map_ref written r.0) (written_resolves s.types r.0) r.1

  written_typed : (t : Option ℕ) (bytes : List ℕ) → option_and_then (typed t) (option_and_then resolved (ref_at written bytes)) ≡ placed t (typed_items bytes)
  written_typed t bytes =
      let form : ref_at written bytes ≡ option_map in_form (ref_at index bytes) = (ref-renames written index bytes).is in
      ap (λ (o : Option (Ref UnpackedIndex × List ℕ)). option_and_then (typed t) (option_and_then resolved o)) form
      ∙ form_typed t (ref_at index bytes)
      ∙ sym (ap (λ (o : Option (Ref UnpackedIndex × List ℕ)). placed t (option_and_then (λ r. expression_items r.0 r.1) o)) form)

  pub types_placed : (flag : ℕ) → (flag == 4) ≡ false → IsPlaced (λ t bytes. option_and_then (typed t) (reference_at C F flag bytes)) typed_items
  unfolding reference_at
  types_placed flag other t bytes =
      ap (λ (b : Bool). option_and_then (typed t) (option_and_then resolved (if b then Some (funcref, bytes) else ref_at written bytes))) other
      ∙ written_typed t bytes
