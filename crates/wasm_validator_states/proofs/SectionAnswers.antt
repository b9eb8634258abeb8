-- What a section tells, by where the validator stands.
use Rattle.std.proofs.Common.{◌≡◌, sym, ap, subst, ◌∙◌, ℕ, Option, Some, None}
use Rattle.std.specs.Prelude.{IfErr, is_ok}
use Rattle.std.specs.declared.result.Result.{Result}
use Rattle.std.specs.declared.result.Result.TheVariants as results
use Rattle.wasm_readers_errors.specs.Refusals.{plain, refused}
use Rattle.wasm_readers_errors.specs.declared.error.Fault.TheVariants as fault
use Rattle.wasm_readers_errors.specs.declared.error.Refusal.{Refusal}
use Rattle.wasm_readers_errors.specs.WasmReadersFeatures.declared.features.WasmFeatures.{WasmFeatures}
use Rattle.wasm_validator_types.specs.Spaces.{Spaces}
use Rattle.wasm_validator_sections.specs.WasmValidatorCore.declared.error.Error.{Error}
use Rattle.wasm_validator_sections.specs.WasmValidatorCore.declared.error.Error.TheVariants.{Refused}
use Rattle.wasm_validator_sections.specs.WasmValidatorCore.Answers.{TypesSoFar}
use Rattle.wasm_validator_states.specs.declared.state.State.{State}
use Rattle.wasm_validator_states.specs.declared.state.State.TheVariants.{Unparsed, Module, Code, End, Failed}
use Rattle.wasm_validator_sections.specs.ModuleNotes.{Noted}
use Rattle.wasm_validator_states.specs.ValidatorStages.{in_module, Standing}
use Rattle.wasm_validator_sections.specs.ModuleNotes.{noted_of}
use Rattle.wasm_validator_states.specs.Views.{open_of, stage_of, order_at}
use Rattle.wasm_validator_states.specs.OrderRefusals.{TellsWithin}
use Rattle.wasm_validator_sections.specs.SectionFaults.{OfContent, TellsAt}

-- a module is being read, before the start of its code
open_stage : {A : Type 0} (types : TypesSoFar) (s : State A) (m : Spaces) → open_of s ≡ Some m → (k : Noted) × (stage_of types s ≡ in_module types m k)
open_stage types (Module n) m o = let same : n.«module» ≡ m = cc in (noted_of n, ap (λ x. in_module types x (noted_of n)) same)
open_stage types (Code n) m o = absurd (cc)
open_stage types Unparsed m o = absurd (cc)
open_stage types End m o = absurd (cc)
open_stage types Failed m o = absurd (cc)

-- elsewhere the order is told
order_stage : {A : Type 0} (types : TypesSoFar) (s : State A) (tells : TypesSoFar → Spaces → Error A → Type 0) (place : ℕ) (r : Refusal) → open_of s ≡ None → r ≡ plain (fault.OutOfOrder (order_at s)) place → TellsWithin tells place (stage_of types s) (Refused r)
order_stage types (Module n) tells place r o e = absurd (cc)
order_stage types (Code n) tells place r o e = ap Refused e
order_stage types Unparsed tells place r o e = ap Refused e
order_stage types End tells place r o e = ap Refused e
order_stage types Failed tells place r o e = ap Refused e

module _ {A : Type 0} (id : ℕ) (features : WasmFeatures) (types : TypesSoFar) (s : State A) where
  abbrev here : Standing
  here = record { id = id; features = features; stage = stage_of types s }

  -- where a module is being read, what its lists say is told
  error_told : (m : Spaces) (tells : WasmFeatures → TypesSoFar → Spaces → Error A → Type 0) (place : ℕ) (old : Standing) (e : Error A) → open_of s ≡ Some m → here ≡ old
      → OfContent (tells features types m) e → OfContent (TellsWithin (tells old.features) place old.stage) e
  error_told m tells place old e o was h =
      let opened = open_stage types s m o in
      let start : Standing = record { id = id; features = features; stage = in_module types m opened.0 } in
      let same : start ≡ old = (λ i. record { id = id; features = features; stage = sym opened.1 i }) ∙ was in
      subst (λ (w : Standing). OfContent (TellsWithin (tells w.features) place w.stage) e) same h

  pub told_within : {T : Type 0} (m : Spaces) (tells : WasmFeatures → TypesSoFar → Spaces → Error A → Type 0) (place : ℕ) (old : Standing) (r q : Result T (Error A)) → open_of s ≡ Some m → here ≡ old → q ≡ r
      → IfErr r (OfContent (tells features types m)) → IfErr q (OfContent (TellsWithin (tells old.features) place old.stage))
  told_within m tells place old (results.Ok x) q o was same h = subst (λ w. IfErr w (OfContent (TellsWithin (tells old.features) place old.stage))) (sym same) h
  told_within m tells place old (results.Err e) q o was same h = subst (λ w. IfErr w (OfContent (TellsWithin (tells old.features) place old.stage))) (sym same) (error_told m tells place old e o was h)

  -- where none is, or its code has started, the order is told
  pub order_within : (tells : WasmFeatures → TypesSoFar → Spaces → Error A → Type 0) (place : ℕ) (old : Standing) (r : Refusal) → open_of s ≡ None → here ≡ old → r ≡ plain (fault.OutOfOrder (order_at s)) place
      → TellsWithin (tells old.features) place old.stage (Refused r)
  order_within tells place old r o was e = subst (λ (w : Standing). TellsWithin (tells w.features) place w.stage (Refused r)) was (order_stage types s (tells features) place r o e)

  -- the same of what is told of any error
  any_told : (m : Spaces) (tells : WasmFeatures → TypesSoFar → Spaces → Error A → Type 0) (place : ℕ) (old : Standing) (e : Error A) → open_of s ≡ Some m → here ≡ old
      → tells features types m e → TellsWithin (tells old.features) place old.stage e
  any_told m tells place old e o was h =
      let opened = open_stage types s m o in
      let start : Standing = record { id = id; features = features; stage = in_module types m opened.0 } in
      let same : start ≡ old = (λ i. record { id = id; features = features; stage = sym opened.1 i }) ∙ was in
      subst (λ (w : Standing). TellsWithin (tells w.features) place w.stage e) same h

  pub all_told_within : {T : Type 0} (m : Spaces) (tells : WasmFeatures → TypesSoFar → Spaces → Error A → Type 0) (place : ℕ) (old : Standing) (r q : Result T (Error A)) → open_of s ≡ Some m → here ≡ old → q ≡ r
      → IfErr r (tells features types m) → IfErr q (TellsWithin (tells old.features) place old.stage)
  all_told_within m tells place old (results.Ok x) q o was same h = subst (λ w. IfErr w (TellsWithin (tells old.features) place old.stage)) (sym same) h
  all_told_within m tells place old (results.Err e) q o was same h = subst (λ w. IfErr w (TellsWithin (tells old.features) place old.stage)) (sym same) (any_told m tells place old e o was h)

module _ {A : Type 0} where
  -- what a check of a module tells, as the answer of a section
  pub checked_told : {T U : Type 0} (answer : Result T Refusal) (result : Result U (Error A)) (told : Option Refusal) (place : ℕ) → is_ok result ≡ is_ok answer → IfErr answer (λ r. IfErr result (λ e. e ≡ Refused r))
      → refused answer ≡ told → IfErr answer (λ r. r.offset ≡ place) → IfErr result (TellsAt place told)
  checked_told answer (results.Ok x) told place same is tells at = tt
  checked_told (results.Ok y) (results.Err e) told place same is tells at = absurd (cc)
  checked_told (results.Err r) (results.Err e) told place same is tells at = subst (TellsAt place told) (sym is) (sym tells, at)
