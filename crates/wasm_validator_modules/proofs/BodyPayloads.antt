-- Payloads that were taken, or weren't.
use Rattle.std.proofs.Common.{◌≡◌, sym, subst, inl, inr, ℕ, true≢false, Option, Some, List, [], ◌∷◌, ◌++◌}
use Rattle.std.specs.declared.result.Result.TheVariants as results
use Rattle.wasm_spec_rules.specs.Contexts.{Context}
use Rattle.wasm_readers_types.specs.WasmReadersValues.declared.indices.UnpackedIndex.{UnpackedIndex}
use Rattle.wasm_spec.specs.Framing.{Piece, CodeEntry}
use Rattle.wasm_validator_states.specs.WasmParser.Machine.{State, next_of}
use Rattle.wasm_validator_states.specs.WasmParser.PayloadViews.{body_of}
use Rattle.wasm_validator_states.specs.WasmParser.declared.function_body.FunctionBody.{FunctionBody}
use Rattle.wasm_validator_states.specs.WasmValidatorTypes.declared.shown.Types.{Types}
use Rattle.wasm_validator_states.specs.WasmValidatorSections.WasmValidatorCore.Answers.{IsNowhere}
use Rattle.wasm_validator_states.specs.WasmValidatorSections.WasmValidatorCore.declared.error.Error.{Error}
use Rattle.wasm_validator_states.specs.WasmValidatorSections.WasmValidatorCore.declared.error.Error.TheVariants.{Refused, DuplicateExport, InFunction, OutOfMemory}
use Rattle.wasm_validator_states.specs.WasmValidatorSections.WasmValidatorFunc.declared.func_validator.FuncToValidate.{FuncToValidate}
use Rattle.wasm_validator_states.specs.ValidatorStages.{Stage, Standing, Leaves, HoldsValid, HasNotEnded, body_refused_at}
use Rattle.wasm_validator_states.specs.States.{BodyToValidate, after_piece, after_body, body_at, left_by}
use Rattle.wasm_validator_states.specs.Payloads.{Rejects, Validates}
use Rattle.wasm_validator_states.specs.BodyAnswers.{body_seen}
use Rattle.wasm_validator_states.proofs.WholeModules.{refusal}
use Rattle.wasm_validator_modules.specs.PayloadAnswers.{EndsBy, AllEndBy, bodies_seen, Gathers, GathersNothing}
use Rattle.wasm_validator_modules.specs.declared.payload.Gathered.{Gathered}
use Rattle.wasm_validator_modules.specs.declared.payload.ValidPayload.{ValidPayload}
use Rattle.wasm_validator_modules.specs.declared.payload.ValidPayload.TheVariants.{Func}
use Rattle.wasm_validator_modules.proofs.Runs.{Progress, refused_whole, no_memory}

-- what an error says doesn't depend on what would have been given
same_leaves : (T U : Type 0) {A : Type 0} (e : Error A) (next : Option Standing) (left : Stage) (old new : Standing) → Leaves {T = T} (results.Err e) next left old new → Leaves {T = U} (results.Err e) next left old new
same_leaves T U (Refused r) next left old new h = h
same_leaves T U (DuplicateExport name offset) next left old new h = h
same_leaves T U (InFunction index r) next left old new h = h
same_leaves T U OutOfMemory next left old new h = h

module _ {A : Type 0} (s t : Standing) (b : FunctionBody) where
  -- a body that was kept
  pub body_gathered : (f : FuncToValidate (Context UnpackedIndex)) (end : ℕ) (g h : Gathered A) → after_body s (body_of b) ≡ Some t → body_at s.features (body_of b) s.stage ≡ body_seen f b ∷ [] → EndsBy end b
      → h.ended ≡ g.ended → bodies_seen h.bodies ≡ bodies_seen g.bodies ++ body_seen f b ∷ [] → h.bodies.features ≡ g.bodies.features → h.bodies.resources ≡ Some f.resources
      → ((n : ℕ) → AllEndBy n g.bodies → EndsBy n b → AllEndBy n h.bodies) → Gathers (CodeEntry (body_of b)) end s t g h
  body_gathered f end g h moves given within ended bodies features resources all_within = record {
    valid = Func f b;
    moves = moves;
    shown = tt;
    given = given;
    within = within;
    ended = ended;
    bodies = bodies;
    features = features;
    resources = resources;
    all_within = all_within;
  }

  -- one that was refused
  pub body_refused : (e : Error A) → Leaves {T = FuncToValidate (Context UnpackedIndex)} (results.Err e) (after_body s (body_of b)) (body_refused_at s.stage) s t → GathersNothing (CodeEntry (body_of b)) s t e
  body_refused e left = inl (record { left = same_leaves (FuncToValidate (Context UnpackedIndex)) (ValidPayload A) e (after_body s (body_of b)) (body_refused_at s.stage) s t left; memory = λ h. absurd (true≢false h) })

-- what the refusal of a payload says of the whole
pub refused_gathering : {A B : Type 0} (seen : B → List BodyToValidate) (bytes : List ℕ) (old now new : Standing) (s s' : State) (latest : Option (Types A)) (bodies : List BodyToValidate) (p : Piece) (e : Error A)
    → Progress bytes old now s latest bodies → next_of s ≡ Some (Some (p, s')) → GathersNothing p now new e → (new ≡ record now { stage = left_by now p } → HasNotEnded old new) → (IsNowhere HoldsValid (after_piece now p) → Rejects bytes old)
    → Validates seen (refusal (Types A × B) e) bytes old new
refused_gathering {A} {B} seen bytes old now new s s' latest bodies p e g n (inl r) ends rejected = refused_whole (ValidPayload A) seen bytes old now new s s' latest bodies p e g n r.left r.memory ends rejected
refused_gathering {A} {B} seen bytes old now new s s' latest bodies p e g n (inr r) ends rejected =
    let P : Error A → Type 0 = λ f. Validates seen (refusal (Types A × B) f) bytes old new in
    subst P (sym r.0) (no_memory bytes old now new s s' p latest bodies r.1.valid g n r.1.moves r.1.shown r.1.given r.1.keeps)
