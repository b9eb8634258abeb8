-- How the items of a section that are added where types are valid move a validator.
use Rattle.std.proofs.Common.{◌≡◌, refl, sym, ap, subst, ◌∙◌, ℕ, true, not, cond, Option, Some, None}
use Rattle.std.proofs.lemmas.Option.{none-some}
use Rattle.wasm_spec_rules.specs.FeatureFlags.{features_of}
use Rattle.std.specs.Option.{option_and_then}
use Rattle.std.specs.Prelude.{OnOk}
use Rattle.std.specs.declared.result.Result.{Result}
use Rattle.std.specs.declared.result.Result.TheVariants as results
use Rattle.wasm_readers_errors.specs.WasmReadersFeatures.declared.features.WasmFeatures.{WasmFeatures}
use Rattle.wasm_validator_types.specs.Spaces.{Spaces}
use Rattle.wasm_validator_sections.specs.WasmValidatorCore.declared.error.Error.{Error}
use Rattle.wasm_validator_sections.specs.WasmValidatorCore.declared.error.Error.TheVariants.{Refused, DuplicateExport, InFunction, OutOfMemory}
use Rattle.wasm_validator_sections.specs.WasmValidatorCore.Answers.{TypesSoFar, IsNowhere, Adds, AddsWhere, HasValidTypes}
use Rattle.wasm_validator_states.specs.declared.state.State.{State}
use Rattle.wasm_validator_states.specs.declared.state.State.TheVariants.{Module}
use Rattle.wasm_validator_sections.specs.declared.module_state.ModuleState.{ModuleState}
use Rattle.wasm_validator_sections.specs.ModuleNotes.{Noted, noted_of}
use Rattle.wasm_validator_states.specs.ValidatorStages.{Stage, in_module, Standing, HoldsValid, refused_at, read_refused_at, within, at_stage, Moves}
use Rattle.wasm_validator_states.specs.States.{section_refused_at}
use Rattle.wasm_validator_states.specs.Views.{stage_of, state_kept}
use Rattle.wasm_validator_states.proofs.ListGrowth.{within_some}

module _ (id : ℕ) (features : WasmFeatures) (types : TypesSoFar) (m : Spaces) (k : Noted) (note : Noted → Noted) where
  abbrev before : Standing
  before = record { id = id; features = features; stage = in_module types m k }

  abbrev after : {A : Type 0} → TypesSoFar → State A → Standing
  after types' s = record { id = id; features = features; stage = stage_of types' s }

  module _ (f : TypesSoFar × Spaces → Option (TypesSoFar × Spaces)) where
    nowhere_within : IsNowhere (HasValidTypes features) (f (types, m)) → IsNowhere HoldsValid (at_stage before (within note f (in_module types m k)))
    nowhere_within h q e v = let a = within_some before q types m k note f e in h a.0 a.1 (subst HoldsValid (sym a.2) v)

    moves_here : {T A : Type 0} (r : Result T (Error A)) (types' : TypesSoFar) (m' : ModuleState A) → AddsWhere (HasValidTypes features) r (f (types, m)) (types', m'.«module») → OnOk r (noted_of m' ≡ note k) → Moves r (at_stage before (within note f (in_module types m k))) before (after types' (state_kept r m'))
    moves_here (results.Ok x) types' m' a n = ap (λ o. at_stage before (option_and_then (λ (p : TypesSoFar × Spaces). Some (in_module p.0 p.1 (note k))) o)) a
        ∙ (λ i. Some (record { id = id; features = features; stage = in_module types' m'.«module» (sym n i) }))
    moves_here (results.Err (Refused r)) types' m' a n = (nowhere_within a, refl)
    moves_here (results.Err (DuplicateExport name offset)) types' m' a n = (nowhere_within a, refl)
    moves_here (results.Err (InFunction index r)) types' m' a n = a
    moves_here (results.Err OutOfMemory) types' m' a n = (refl, refl, refl)

module _ {T A : Type 0} (id : ℕ) (features : WasmFeatures) (types : TypesSoFar) (n : ModuleState A) (note : Noted → Noted) (f : WasmFeatures → TypesSoFar × Spaces → Option (TypesSoFar × Spaces)) where
  abbrev moves_by : Result T (Error A) → Standing → Standing → Type 0
  moves_by r old new = Moves r (at_stage old (within note (f old.features) old.stage)) old new

  -- the same of the state that a validator has
  pub section_moves : (s : State A) (r : Result T (Error A)) (types' : TypesSoFar) (m' : ModuleState A) (old new : Standing) → s ≡ Module n → record { id = id; features = features; stage = stage_of types s } ≡ old
      → record { id = id; features = features; stage = stage_of types' (state_kept r m') } ≡ new → AddsWhere (HasValidTypes features) r (f features (types, n.«module»)) (types', m'.«module») → OnOk r (noted_of m' ≡ note (noted_of n)) → moves_by r old new
  section_moves s r types' m' old new o was is a k =
      let start : Standing = record { id = id; features = features; stage = in_module types n.«module» (noted_of n) } in
      let here : start ≡ old = (λ i. record { id = id; features = features; stage = stage_of types (sym o i) }) ∙ was in
      subst (λ (s : Standing). moves_by r s new) here (subst (λ (t : Standing). moves_by r start t) is (moves_here id features types n.«module» (noted_of n) note (f features) r types' m' a k))

  -- and of what the caller is told
  pub section_answers : (s new : State A) (r q : Result T (Error A)) (types' : TypesSoFar) (m' : ModuleState A) (old : Standing) → s ≡ Module n → record { id = id; features = features; stage = stage_of types s } ≡ old
      → AddsWhere (HasValidTypes features) r (f features (types, n.«module»)) (types', m'.«module») → OnOk r (noted_of m' ≡ note (noted_of n)) → new ≡ state_kept r m' → q ≡ r → moves_by q old (record { id = id; features = features; stage = stage_of types' new })
  section_answers s new r q types' m' old o was a k kept same =
      subst (λ w. moves_by w old (record { id = id; features = features; stage = stage_of types' new })) (sym same)
      (section_moves s r types' m' old (record { id = id; features = features; stage = stage_of types' new }) o was (λ i. record { id = id; features = features; stage = stage_of types' (sym kept i) }) a k)

-- where nothing more is noted
pub nothing_more : {T A : Type 0} (r : Result T (Error A)) (m n : ModuleState A) → noted_of m ≡ noted_of n → OnOk r (noted_of m ≡ noted_of n)
nothing_more (results.Ok x) m n e = e
nothing_more (results.Err w) m n e = tt

-- what is nothing satisfies nothing
none_nowhere : {S : Type 0} (P : S → Type 0) (o : Option S) → o ≡ None → IsNowhere P o
none_nowhere P o n = λ s e p. none-some s (sym n ∙ e)

-- a section that leaves the list of types
pub adds_beside : {T A : Type 0} (P : TypesSoFar × Spaces → Type 0) (types : TypesSoFar) (r : Result T (Error A)) (o : Option Spaces) (m : Spaces) → Adds r o m → AddsWhere P r (option_and_then (λ s. Some (types, s)) o) (types, m)
adds_beside P types (results.Ok x) o m a = ap (option_and_then (λ (s : Spaces). Some (types, s))) a
adds_beside P types (results.Err (Refused r)) o m a = none_nowhere P (option_and_then (λ (s : Spaces). Some (types, s)) o) (ap (option_and_then (λ (s : Spaces). Some (types, s))) a)
adds_beside P types (results.Err (DuplicateExport name offset)) o m a = none_nowhere P (option_and_then (λ (s : Spaces). Some (types, s)) o) (ap (option_and_then (λ (s : Spaces). Some (types, s))) a)
adds_beside P types (results.Err (InFunction index r)) o m a = a
adds_beside P types (results.Err OutOfMemory) o m a = tt

-- with exceptions a refused section of tags leaves what any other does
pub tags_refused : (features : WasmFeatures) (g : Stage) → (features_of features).exceptions ≡ true → refused_at g ≡ section_refused_at features 13 g
tags_refused features g is = ap (λ b. cond (not b) (read_refused_at g) (refused_at g)) (sym is)
