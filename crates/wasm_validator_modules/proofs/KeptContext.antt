-- The bodies of a module are all checked in one context: that with which its code has started.
use Rattle.std.proofs.Common.{◌≡◌, sym, ap, subst, ◌∙◌, ℕ, Bool, true, false, cond, eqb, List, [], ◌∷◌, Option, Some, None, slice_get}
use Rattle.std.specs.Prelude.{⊤}
use Rattle.std.proofs.lemmas.Option.{none-some, same_Some}
use Rattle.wasm_spec_rules.specs.Contexts.{Context}
use Rattle.wasm_spec_rules.specs.FeatureFlags.{features_of}
use Rattle.wasm_spec_rules.proofs.Tests.{then_some}
use Rattle.wasm_readers_types.specs.WasmReadersValues.declared.indices.UnpackedIndex.{UnpackedIndex}
use Rattle.wasm_readers_errors.specs.WasmReadersFeatures.declared.features.WasmFeatures.{WasmFeatures}
use Rattle.wasm_spec.specs.Framing as parts
use Rattle.wasm_spec.specs.Framing.{Piece, Version, Custom, Counted, Start, DataCount, CodeStart, CodeEntry, Unknown}
use Rattle.wasm_validator_states.specs.WasmValidatorSections.WasmValidatorReferences.References.{section_names}
use Rattle.wasm_validator_states.specs.WasmParser.declared.function_body.FunctionBody.{FunctionBody}
use Rattle.wasm_validator_states.specs.WasmValidatorTypes.Spaces.{Spaces}
use Rattle.wasm_validator_states.specs.WasmValidatorSections.WasmValidatorCore.Answers.{TypesSoFar}
use Rattle.wasm_validator_states.specs.WasmValidatorSections.WasmValidatorFunc.declared.func_validator.FuncToValidate.{FuncToValidate}
use Rattle.wasm_validator_states.specs.WasmValidatorSections.Machine.{section_items, start_item, data_count_item, beside}
use Rattle.wasm_validator_states.specs.WasmValidatorSections.ModuleNotes.{Noted, naming, counting, noting_nothing}
use Rattle.wasm_validator_states.specs.ValidatorStages.{Stage, unparsed, in_module, in_code, ended, failed, Standing, within, within_all, at_stage}
use Rattle.wasm_validator_states.specs.States.{BodyToValidate, begun, code_started, body_taken, module_ended, after_piece, next_function, body_with, body_at, handed}
use Rattle.wasm_validator_states.specs.BodyAnswers.{body_seen}
use Rattle.wasm_validator_modules.specs.PayloadAnswers.{bodies_given, IsKept, IsGivenIn, kept_behind}
use Rattle.wasm_validator_modules.specs.declared.payload.ValidPayload.{ValidPayload}
use Rattle.wasm_validator_modules.specs.declared.payload.ValidPayload.TheVariants.{Ok, Func, End}
use Rattle.wasm_validator_states.proofs.ListGrowth.{body_some}

-- The code has started with this context, and no body comes behind its end.
abbrev pub IsIn : Context UnpackedIndex → Stage → Type 0
IsIn context (unparsed types) = ⊥
IsIn context (in_module types spaces more) = ⊥
IsIn context (in_code types spaces more) = more.context ≡ context
IsIn context (ended types) = ⊤
IsIn context failed = ⊥

-- so it is with the context that is kept, if one is
abbrev pub IsInKept : Option (Context UnpackedIndex) → Stage → Type 0
IsInKept None g = ⊤
IsInKept (Some context) g = IsIn context g

module _ (context : Context UnpackedIndex) where
  abbrev In : Standing → Type 0
  In s = IsIn context s.stage

  within_in : (s t : Standing) (g : Stage) (note : Noted → Noted) (f : TypesSoFar × Spaces → Option (TypesSoFar × Spaces)) → at_stage s (within note f g) ≡ Some t → IsIn context g → In t
  within_in s t (unparsed types) note f e h = absurd h
  within_in s t (in_module types spaces more) note f e h = absurd h
  within_in s t (in_code types spaces more) note f e h = absurd (none-some t e)
  within_in s t (ended types) note f e h = absurd (none-some t e)
  within_in s t failed note f e h = absurd h

  within_all_in : (s t : Standing) (g : Stage) (f : TypesSoFar × Spaces → Option (TypesSoFar × Spaces)) → at_stage s (within_all f g) ≡ Some t → IsIn context g → In t
  within_all_in s t (unparsed types) f e h = absurd h
  within_all_in s t (in_module types spaces more) f e h = absurd h
  within_all_in s t (in_code types spaces more) f e h =
      let a = then_some (λ (g : Stage). Some (record s { stage = g })) (within_all f (in_code types spaces more)) t e in
      let b = then_some (λ (p : TypesSoFar × Spaces). Some (in_code p.0 p.1 more)) (f (types, spaces)) a.0 a.1 in
      let there : record s { stage = in_code b.0.0 b.0.1 more } ≡ t = ap (λ (g : Stage). record s { stage = g }) (same_Some (in_code b.0.0 b.0.1 more) a.0 b.2) ∙ same_Some (record s { stage = a.0 }) t a.2 in
      subst In there h
  within_all_in s t (ended types) f e h = absurd (none-some t e)
  within_all_in s t failed f e h = absurd h

  section_in : (b : Bool) (s t : Standing) (g : Stage) (note : Noted → Noted) (f : TypesSoFar × Spaces → Option (TypesSoFar × Spaces)) → at_stage s (cond b (within_all f g) (within note f g)) ≡ Some t → IsIn context g → In t
  section_in true s t g note f e h = within_all_in s t g f e h
  section_in false s t g note f e h = within_in s t g note f e h

  code_in : (s t : Standing) (g : Stage) → at_stage s (code_started g) ≡ Some t → IsIn context g → In t
  code_in s t (unparsed types) e h = absurd h
  code_in s t (in_module types spaces more) e h = absurd h
  code_in s t (in_code types spaces more) e h = absurd (none-some t e)
  code_in s t (ended types) e h = absurd (none-some t e)
  code_in s t failed e h = absurd h

  body_in : (s t : Standing) (bytes : List ℕ) (g : Stage) → at_stage s (body_taken bytes g) ≡ Some t → IsIn context g → In t
  body_in s t bytes (unparsed types) e h = absurd h
  body_in s t bytes (in_module types spaces more) e h = absurd h
  body_in s t bytes (in_code types spaces more) e h = subst In (body_some s t bytes types spaces more e).2 h
  body_in s t bytes (ended types) e h = absurd (none-some t e)
  body_in s t bytes failed e h = absurd h

  version_in : (s t : Standing) (number : ℕ) (b : Bool) (g : Stage) → at_stage s (begun number b g) ≡ Some t → IsIn context g → In t
  version_in s t number b (unparsed types) e h = absurd h
  version_in s t number b (in_module types spaces more) e h = absurd h
  version_in s t number b (in_code types spaces more) e h = absurd (none-some t e)
  version_in s t number b (ended types) e h = absurd (none-some t e)
  version_in s t number b failed e h = absurd h

  end_in : (s t : Standing) (g : Stage) → at_stage s (module_ended g) ≡ Some t → IsIn context g → In t
  end_in s t (unparsed types) e h = absurd h
  end_in s t (in_module types spaces more) e h = absurd h
  end_in s t (in_code types spaces more) e h = subst In (same_Some (record s { stage = ended types }) t e) tt
  end_in s t (ended types) e h = absurd (none-some t e)
  end_in s t failed e h = absurd h

  piece_in : (s t : Standing) (p : Piece) → after_piece s p ≡ Some t → In s → In t
  piece_in s t (Version number kind) e h = version_in s t number (eqb kind 0) s.stage e h
  piece_in s t (Custom name bytes) e h = subst In (same_Some s t e) h
  piece_in s t (Counted id n bytes) e h = section_in (eqb id 11) s t s.stage (naming (section_names id n bytes)) (section_items s.features id n bytes) e h
  piece_in s t (Start x) e h = within_in s t s.stage noting_nothing (beside (λ us u. start_item us u x)) e h
  piece_in s t (DataCount n) e h = within_in s t s.stage (counting n) (beside (λ us u. data_count_item (features_of s.features) u n)) e h
  piece_in s t (CodeStart n size) e h = code_in s t s.stage e h
  piece_in s t (CodeEntry bytes) e h = body_in s t bytes s.stage e h
  piece_in s t (Unknown id bytes) e h = absurd (none-some t e)
  piece_in s t parts.End e h = end_in s t s.stage e h

stays_in : (kept : Option (Context UnpackedIndex)) (s t : Standing) (p : Piece) → after_piece s p ≡ Some t → IsInKept kept s.stage → IsInKept kept t.stage
stays_in None s t p e h = tt
stays_in (Some context) s t p e h = piece_in context s t p e h

-- the first of some, if there is one
abbrev first_or : BodyToValidate → List BodyToValidate → BodyToValidate
first_or other [] = other
first_or other (b ∷ bs) = b

-- What is handed out is checked under the validator's features, in the context with which the code has started.
with_given : (features : WasmFeatures) (context : Context UnpackedIndex) (index : ℕ) (bytes : List ℕ) (o : Option ℕ) (f : FuncToValidate (Context UnpackedIndex)) (b : FunctionBody)
    → body_with features context index bytes o ≡ body_seen f b ∷ [] → (f.features ≡ features) × (context ≡ f.resources)
with_given features context index bytes None f b e = absurd (cc)
with_given features context index bytes (Some ty) f b e =
    let first = ap (first_or (body_seen f b)) e in (sym (ap (λ (x : BodyToValidate). x.features) first), ap (λ (x : BodyToValidate). x.context) first)

-- so it is where the code has started, and nowhere else is a body handed out
given_at : (features : WasmFeatures) (bytes : List ℕ) (g : Stage) (f : FuncToValidate (Context UnpackedIndex)) (b : FunctionBody)
    → body_at features bytes g ≡ body_seen f b ∷ [] → (f.features ≡ features) × IsIn f.resources g
given_at features bytes (unparsed types) f b e = absurd (cc)
given_at features bytes (in_module types spaces more) f b e = absurd (cc)
given_at features bytes (in_code types spaces more) f b e = with_given features more.context (next_function spaces more) bytes (slice_get spaces.functions (next_function spaces more)) f b e
given_at features bytes (ended types) f b e = absurd (cc)
given_at features bytes failed f b e = absurd (cc)

-- a function comes with a body alone
body_given : (s : Standing) (p : Piece) (f : FuncToValidate (Context UnpackedIndex)) (b : FunctionBody) → handed s p ≡ body_seen f b ∷ [] → (f.features ≡ s.features) × IsIn f.resources s.stage
body_given s (CodeEntry bytes) f b e = given_at s.features bytes s.stage f b e
body_given s (Version number kind) f b e = absurd (let h : [] ≡ body_seen f b ∷ [] = e in cc)
body_given s (Custom name bytes) f b e = absurd (let h : [] ≡ body_seen f b ∷ [] = e in cc)
body_given s (Counted id count bytes) f b e = absurd (let h : [] ≡ body_seen f b ∷ [] = e in cc)
body_given s (Start index) f b e = absurd (let h : [] ≡ body_seen f b ∷ [] = e in cc)
body_given s (DataCount count) f b e = absurd (let h : [] ≡ body_seen f b ∷ [] = e in cc)
body_given s (CodeStart count size) f b e = absurd (let h : [] ≡ body_seen f b ∷ [] = e in cc)
body_given s (Unknown id bytes) f b e = absurd (let h : [] ≡ body_seen f b ∷ [] = e in cc)
body_given s parts.End f b e = absurd (let h : [] ≡ body_seen f b ∷ [] = e in cc)

-- and the context that is kept is that one
kept_at : (context : Context UnpackedIndex) (features : WasmFeatures) (bytes : List ℕ) (g : Stage) (f : FuncToValidate (Context UnpackedIndex)) (b : FunctionBody)
    → body_at features bytes g ≡ body_seen f b ∷ [] → IsIn context g → context ≡ f.resources
kept_at context features bytes (unparsed types) f b e h = absurd h
kept_at context features bytes (in_module types spaces more) f b e h = absurd h
kept_at context features bytes (in_code types spaces more) f b e h = sym h ∙ (given_at features bytes (in_code types spaces more) f b e).1
kept_at context features bytes (ended types) f b e h = absurd (cc)
kept_at context features bytes failed f b e h = absurd h

kept_given : (context : Context UnpackedIndex) (s : Standing) (p : Piece) (f : FuncToValidate (Context UnpackedIndex)) (b : FunctionBody) → handed s p ≡ body_seen f b ∷ [] → IsIn context s.stage → context ≡ f.resources
kept_given context s (CodeEntry bytes) f b e h = kept_at context s.features bytes s.stage f b e h
kept_given context s (Version number kind) f b e h = absurd (let h : [] ≡ body_seen f b ∷ [] = e in cc)
kept_given context s (Custom name bytes) f b e h = absurd (let h : [] ≡ body_seen f b ∷ [] = e in cc)
kept_given context s (Counted id count bytes) f b e h = absurd (let h : [] ≡ body_seen f b ∷ [] = e in cc)
kept_given context s (Start index) f b e h = absurd (let h : [] ≡ body_seen f b ∷ [] = e in cc)
kept_given context s (DataCount count) f b e h = absurd (let h : [] ≡ body_seen f b ∷ [] = e in cc)
kept_given context s (CodeStart count size) f b e h = absurd (let h : [] ≡ body_seen f b ∷ [] = e in cc)
kept_given context s (Unknown id bytes) f b e h = absurd (let h : [] ≡ body_seen f b ∷ [] = e in cc)
kept_given context s parts.End f b e h = absurd (let h : [] ≡ body_seen f b ∷ [] = e in cc)

is_kept : (kept : Option (Context UnpackedIndex)) (s : Standing) (p : Piece) (f : FuncToValidate (Context UnpackedIndex)) (b : FunctionBody) → handed s p ≡ body_seen f b ∷ [] → IsInKept kept s.stage → IsKept kept f.resources
is_kept None s p f b e h = tt
is_kept (Some context) s p f b e h = kept_given context s p f b e h

-- What a payload gives goes with what was given before it.
pub given_in : {A : Type 0} (kept : Option (Context UnpackedIndex)) (s : Standing) (p : Piece) (v : ValidPayload A) → handed s p ≡ bodies_given v → IsInKept kept s.stage → IsGivenIn s.features kept v
given_in kept s p Ok e h = tt
given_in kept s p (Func f b) e h = ((body_given s p f b e).0, is_kept kept s p f b e h)
given_in kept s p (End t) e h = tt

-- And so it is behind it.
pub kept_in : {A : Type 0} (kept : Option (Context UnpackedIndex)) (s t : Standing) (p : Piece) (v : ValidPayload A) → after_piece s p ≡ Some t → handed s p ≡ bodies_given v → IsInKept kept s.stage
    → IsInKept (kept_behind kept v) t.stage
kept_in kept s t p Ok step e h = stays_in kept s t p step h
kept_in kept s t p (Func f b) step e h = stays_in (Some f.resources) s t p step (body_given s p f b e).1
kept_in kept s t p (End types) step e h = stays_in kept s t p step h
