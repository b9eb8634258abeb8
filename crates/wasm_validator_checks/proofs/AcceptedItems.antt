-- What accepted items say of their type indices.
use Rattle.std.proofs.Common.{◌≡◌, sym, ℕ, ◌<◌, Bool, true, ◌&&◌, List, length, slice_get, Option, Some, None, is_some, IsTrue, true≢false}
use Rattle.std.proofs.lemmas.Option.{slice_get_within}
use Rattle.wasm_spec.specs.Syntax.{Table, Global, Extern, func_extern, func_exact_extern, table_extern, memory_extern, global_extern, tag_extern}
use Rattle.wasm_spec.specs.Features.{Features}
use Rattle.wasm_spec.specs.Trees.{DefType}
use Rattle.wasm_readers_types.specs.WasmReadersValues.declared.indices.UnpackedIndex.{UnpackedIndex}
use Rattle.wasm_validator_canonical.specs.Arities.{type_arity}
use Rattle.wasm_validator_canonical.proofs.CanonicalTypes.{and_left, and_right}
use Rattle.wasm_validator_checks.specs.ModuleTypes.{arity_at}
use Rattle.wasm_validator_checks.specs.Items.{is_ref_in_range, is_val_in_range, is_function, is_valid_table, is_valid_defined_table, is_valid_tag, is_valid_global, is_valid_extern, allows_tag}
use Rattle.wasm_validator_checks.specs.ModuleTypeIds.{IsTyped}
use Rattle.std.specs.Option.{option_and_then}

-- of tests that hold together
first : (a b : Bool) → (a && b) ≡ true → a ≡ true
first a b e = and_left a b e

second : (a b : Bool) → (a && b) ≡ true → b ≡ true
second a b e = and_right a b e

arity_inside : (types : List DefType) (x : ℕ) (o : Option DefType) → slice_get types x ≡ o → is_some (option_and_then type_arity o) ≡ true → x < length types
arity_inside types x None e h = absurd (true≢false (sym h))
arity_inside types x (Some d) e h = slice_get_within types x d e

allowed_is_some : (F : Features) (o : Option (ℕ × ℕ)) → allows_tag F o ≡ true → is_some o ≡ true
allowed_is_some F None e = absurd (true≢false (sym e))
allowed_is_some F (Some a) e = λ i. true

pub function_inside : (types : List DefType) (x : ℕ) → is_function types x ≡ true → x < length types
function_inside types x e = arity_inside types x (slice_get types x) (λ i. slice_get types x) e

module _ (F : Features) (types : List DefType) where
  pub tag_inside : (x : ℕ) → is_valid_tag F types x ≡ true → x < length types
  tag_inside x e = function_inside types x (allowed_is_some F (arity_at types x) (second _ _ e))

  pub table_inside : (t : Table UnpackedIndex) → is_valid_table F types t ≡ true → IsTrue (is_ref_in_range (length types) t.element)
  table_inside t e = second _ _ (first _ _ (first _ _ (first _ _ (first _ _ (first _ _ e)))))

  pub defined_table_inside : (t : Table UnpackedIndex) (has_init : Bool) → is_valid_defined_table F types t has_init ≡ true → IsTrue (is_ref_in_range (length types) t.element)
  defined_table_inside t has_init e = table_inside t (first _ _ (first _ _ e))

  pub global_inside : (g : Global UnpackedIndex) → is_valid_global F types g ≡ true → IsTrue (is_val_in_range (length types) g.content)
  global_inside g e = second _ _ (first _ _ (first _ _ e))

  pub extern_typed : (x : Extern UnpackedIndex) → is_valid_extern F types x ≡ true → IsTyped (length types) x
  extern_typed (func_extern x) e = function_inside types x e
  extern_typed (func_exact_extern x) e = function_inside types x (second _ _ e)
  extern_typed (table_extern t) e = tt
  extern_typed (memory_extern m) e = tt
  extern_typed (global_extern g) e = tt
  extern_typed (tag_extern x) e = tag_inside x e
