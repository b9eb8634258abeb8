-- What each form of composite type needs, in the order in which the code asks for it.
use Rattle.std.proofs.Common.{◌≡◌, refl, ap, sym, ◌∙◌, ℕ, Bool, true, false, ◌&&◌, length, List, ◌++◌, map, Option, Some, None}
use Rattle.std.specs.Prelude.{nat_lt}
use Rattle.std.specs.List.{list_all}
use Rattle.std.proofs.lemmas.List.{length-map}
use Rattle.std.proofs.lemmas.List.Folds.{list_all-map, list_all-append}
use Rattle.wasm_readers_errors.specs.WasmSpec.Syntax.{Val, Field, func, array, struct, unpacked}
use Rattle.wasm_readers_errors.specs.WasmSpec.Features.{Features}
use Rattle.wasm_readers_errors.specs.WasmSpec.ValueTypes.{implies, allows_val, allows_storage}
use Rattle.wasm_readers_errors.specs.WasmSpec.GroupRules.{field_storage}
use Rattle.wasm_readers_errors.specs.declared.error.Refusal.{Refusal}
use Rattle.wasm_readers_errors.specs.WasmReadersFeatures.declared.features.WasmFeatures.{WasmFeatures}
use Rattle.wasm_validator_resources.specs.AllowedComposites.{proposals_allow}
use Rattle.wasm_validator_resources.specs.Refusals.{IsOff, IsMissing, IsOffOrLimited, IsMissingOrLimited}

-- the needs of the form that a type has, among those of the forms that it doesn't have
results_last : (held results : Bool) → (held && (results && true && true && true)) ≡ (held && results)
results_last held true = refl
results_last held false = refl

array_first : (held form : Bool) → (held && true && (form && true && true)) ≡ (form && held)
array_first true true = refl
array_first true false = refl
array_first false true = refl
array_first false false = refl

struct_first : (held form : Bool) → (held && (form && true)) ≡ (form && held)
struct_first true true = refl
struct_first true false = refl
struct_first false true = refl
struct_first false false = refl

module _ {R : Type 0} (F : Features) where
  allows-func : (ps rs : List (Val R)) → proposals_allow F (func ps rs) ≡ (list_all (allows_val F) ps && list_all (allows_val F) rs && implies (nat_lt 1 (length rs)) F.multi_value)
  allows-func ps rs =
      let results : Bool = implies (nat_lt 1 (length rs)) F.multi_value in
      ap (λ (b : Bool). b && (results && true && true && true)) (list_all-map (allows_storage F) unpacked (ps ++ rs) ∙ list_all-append (allows_val F) ps rs)
      ∙ results_last (list_all (allows_val F) ps && list_all (allows_val F) rs) results

  allows-array : (x : Field R) → proposals_allow F (array x) ≡ (F.gc && F.gc_types && allows_storage F x.storage)
  allows-array x = array_first (allows_storage F x.storage) (F.gc && F.gc_types)

  allows-struct : (xs : List (Field R)) → proposals_allow F (struct xs) ≡ (F.gc && F.gc_types && list_all (allows_storage F) (map field_storage xs))
  allows-struct xs = struct_first (list_all (allows_storage F) (map field_storage xs)) (F.gc && F.gc_types)

  pub judged_func : {X : Type 0} (view : X → Val R) (ps rs : List X) (judged : Bool)
      → judged ≡ (list_all (allows_val F) (map view ps) && list_all (allows_val F) (map view rs) && implies (nat_lt 1 (length rs)) F.multi_value)
      → judged ≡ proposals_allow F (func (map view ps) (map view rs))
  judged_func view ps rs judged e =
      e
      ∙ ap (λ (n : ℕ). list_all (allows_val F) (map view ps) && list_all (allows_val F) (map view rs) && implies (nat_lt 1 n) F.multi_value) (sym (length-map rs view))
      ∙ sym (allows-func (map view ps) (map view rs))

  pub judged_array : (x : Field R) (judged : Bool) → judged ≡ (F.gc && F.gc_types && allows_storage F x.storage) → judged ≡ proposals_allow F (array x)
  judged_array x judged e = e ∙ sym (allows-array x)

  pub judged_struct : (xs : List (Field R)) (judged : Bool) → judged ≡ (F.gc && F.gc_types && list_all (allows_storage F) (map field_storage xs)) → judged ≡ proposals_allow F (struct xs)
  judged_struct xs judged e = e ∙ sym (allows-struct xs)

-- a proposal that is off is one that is off or a limit that is on
off_or_limited : (features : WasmFeatures) (missing : Option WasmFeatures) → IsOff features missing → IsOffOrLimited features missing
off_or_limited features None h = absurd h
off_or_limited features (Some proposal) h = h

pub missing_or_limited : (features : WasmFeatures) (offset : ℕ) (refusal : Refusal) → IsMissing features offset refusal → IsMissingOrLimited features offset refusal
missing_or_limited features offset refusal m = record { place = m.place; proposal = off_or_limited features refusal.missing m.proposal }

pub ruleset composites = (judged_array, judged_struct)

pub ruleset limited = (missing_or_limited)
