-- What a list keeps of a module's types that stand in it: how many parameters and results they have, and whether they
-- are shared.
use Rattle.std.proofs.Common.{◌≡◌, refl, sym, ap, ◌∙◌, ℕ, zero, suc, Bool, List, [], ◌∷◌, length, slice_get, get_or, Option, Some, None}
use Rattle.std.specs.Option.{option_map, option_and_then}
use Rattle.std.proofs.lemmas.Option.{get_or_from_slice_get}
use Rattle.wasm_spec.specs.Syntax.{Sub, map_sub}
use Rattle.wasm_spec.specs.Trees.{DefType, members, denote, declared}
use Rattle.wasm_spec.specs.Matching.{shared_flag, is_shared_type}
use Rattle.wasm_validator_resources.specs.WasmSpecRules.IndexSpaces.{type_at}
use Rattle.wasm_validator_canonical.specs.Arities.{type_arity}
use Rattle.wasm_validator_canonical.specs.Groups.{nowhere, types_at}
use Rattle.wasm_validator_canonical.specs.Sections.{StandsFor}
use Rattle.wasm_validator_canonical.proofs.Arities.{ids_keep_arities}
use Rattle.wasm_validator_checks.specs.ModuleTypes.{arity_at}
use Rattle.wasm_validator_checks.specs.Laws.{Stand}

flag_mapped : {R S : Type 0} (f : R → S) (o : Option (Sub R)) → shared_flag (option_map (map_sub f) o) ≡ shared_flag o
flag_mapped f None = refl
flag_mapped f (Some s) = refl

shared_declared : (d : DefType) → is_shared_type declared d ≡ shared_flag (slice_get (members d.tree) d.position)
unfolding declared
shared_declared d = flag_mapped (denote d.tree) (slice_get (members d.tree) d.position)

module _ (c : Bool) (us : List DefType) where
  abbrev under : ℕ → DefType
  under id = get_or us id nowhere

  listed_is : (id : ℕ) (d : DefType) (s : StandsFor c us id d) → under id ≡ s.listed
  listed_is id d s = get_or_from_slice_get us id s.listed nowhere s.is_there

  arity_under : (id : ℕ) (d : DefType) → StandsFor c us id d → type_arity (under id) ≡ type_arity d
  arity_under id d s = ap type_arity (listed_is id d s) ∙ sym (ap (option_and_then type_arity) s.is_there) ∙ ids_keep_arities c us id d s

  shared_under : (id : ℕ) (d : DefType) → StandsFor c us id d → is_shared_type declared (under id) ≡ is_shared_type declared d
  shared_under id d s =
      ap (is_shared_type declared) (listed_is id d s)
      ∙ shared_declared s.listed
      ∙ (λ i. shared_flag (slice_get (s.same_members i) (s.same_position i)))
      ∙ sym (shared_declared d)

  pub arity_kept : (ids : List ℕ) (types : List DefType) → Stand c us ids types → (x : ℕ) → arity_at (types_at us ids) x ≡ arity_at types x
  arity_kept [] [] s x = refl
  arity_kept [] (d ∷ ds) s x = absurd s
  arity_kept (id ∷ ids) [] s x = absurd s
  arity_kept (id ∷ ids) (d ∷ ds) s zero = arity_under id d s.0
  arity_kept (id ∷ ids) (d ∷ ds) s (suc x) = arity_kept ids ds s.1 x

  pub shared_kept : (ids : List ℕ) (types : List DefType) → Stand c us ids types → (x : ℕ) → is_shared_type declared (type_at (types_at us ids) x) ≡ is_shared_type declared (type_at types x)
  shared_kept [] [] s x = refl
  shared_kept [] (d ∷ ds) s x = absurd s
  shared_kept (id ∷ ids) [] s x = absurd s
  shared_kept (id ∷ ids) (d ∷ ds) s zero = shared_under id d s.0
  shared_kept (id ∷ ids) (d ∷ ds) s (suc x) = shared_kept ids ds s.1 x

  pub length_kept : (ids : List ℕ) (types : List DefType) → Stand c us ids types → length (types_at us ids) ≡ length types
  length_kept [] [] s = refl
  length_kept [] (d ∷ ds) s = absurd s
  length_kept (id ∷ ids) [] s = absurd s
  length_kept (id ∷ ids) (d ∷ ds) s = ap suc (length_kept ids ds s.1)
