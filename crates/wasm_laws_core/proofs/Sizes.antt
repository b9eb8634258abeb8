-- How many types an entity of the list counts as: as many as in the module.
use Rattle.std.proofs.Common.{◌≡◌, refl, ap, ◌∙◌, ℕ, zero, suc, Bool, true, false, List, [], ◌∷◌, slice_index, Option, Some, None}
use Rattle.std.specs.Option.{option_map}
use Rattle.wasm_spec.specs.Syntax.{Val, Extern, func_extern, func_exact_extern, table_extern, memory_extern, global_extern, tag_extern}
use Rattle.wasm_spec.specs.Features.{Features}
use Rattle.wasm_spec.specs.Trees.{DefType}
use Rattle.wasm_spec_rules.specs.IndexSpaces.{signature_at, IsFunctionType}
use Rattle.wasm_spec_rules.specs.LinkRules.{IsValidExtern, signature_size, extern_size}
use Rattle.wasm_validator_core.specs.WasmValidatorCanonical.Arities.{arity, arity_at}
use Rattle.wasm_validator_core.proofs.WasmValidatorCanonical.Arities.{ids_keep_arities}
use Rattle.wasm_validator_core.specs.WasmValidatorChecks.Laws.{Stand}
use Rattle.wasm_validator_core.specs.Items.{function_size, entity_size}
use Rattle.wasm_laws_core.specs.ModuleParts.{entity_in}

-- functions and tags are of function types
abbrev pub IsTyped : List DefType → Extern ℕ → Type 0
IsTyped types (func_extern x) = IsFunctionType types x
IsTyped types (func_exact_extern x) = IsFunctionType types x
IsTyped types (tag_extern x) = IsFunctionType types x
IsTyped types _ = Unit {0}

pub valid_typed : (F : Features) (types : List DefType) (x : Extern ℕ) → IsValidExtern F types x → IsTyped types x
valid_typed F types (func_extern x) v = v
valid_typed F types (func_exact_extern x) v = v.0
valid_typed F types (table_extern t) v = tt
valid_typed F types (memory_extern m) v = tt
valid_typed F types (global_extern g) v = tt
valid_typed F types (tag_extern x) v = v.is_of_function_type

size_by_arity : (o : Option (List (Val DefType) × List (Val DefType))) → function_size (option_map arity o) ≡ signature_size o
size_by_arity None = refl
size_by_arity (Some s) = refl

module _ (c : Bool) (us : List DefType) where
  -- the list's type under an id of a function type has the parameters and results that the module's has
  arity_listed : (ids : List ℕ) (types : List DefType) → Stand c us ids types → (x : ℕ) → IsFunctionType types x → arity_at us (slice_index ids x) ≡ option_map arity (signature_at types x)
  arity_listed [] [] s x h = absurd (let z : false ≡ true = h in cc)
  arity_listed [] (d ∷ ds) s x h = absurd s
  arity_listed (id ∷ ids) [] s x h = absurd s
  arity_listed (id ∷ ids) (d ∷ ds) s zero h = ids_keep_arities c us id d s.0
  arity_listed (id ∷ ids) (d ∷ ds) s (suc x) h = arity_listed ids ds s.1 x h

  module _ (ids : List ℕ) (types : List DefType) (stand : Stand c us ids types) where
    pub function_size_is : (x : ℕ) → IsFunctionType types x → function_size (arity_at us (slice_index ids x)) ≡ signature_size (signature_at types x)
    function_size_is x h = ap function_size (arity_listed ids types stand x h) ∙ size_by_arity (signature_at types x)

    pub entity_size_is : (x : Extern ℕ) → IsTyped types x → entity_size us (entity_in ids x) ≡ extern_size types x
    entity_size_is (func_extern x) h = function_size_is x h
    entity_size_is (func_exact_extern x) h = function_size_is x h
    entity_size_is (table_extern t) h = refl
    entity_size_is (memory_extern m) h = refl
    entity_size_is (global_extern g) h = refl
    entity_size_is (tag_extern x) h = function_size_is x h
