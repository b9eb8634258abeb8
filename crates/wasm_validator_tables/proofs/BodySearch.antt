-- A validator that takes one payload after another, up to the body of a function.
use Rattle.std.proofs.Common.{◌≡◌, ◌≤◌, ◌+◌, sym, subst, ◌∙◌, arith, List, [], ◌∷◌, ◌++◌, length, ℕ, Bool, true, false, Option, Some, None}
use Rattle.std.proofs.lemmas.List.{length-drop}
use Rattle.wasm_spec.specs.Features.{canonical}
use Rattle.wasm_spec.specs.Framing.{Piece}
use Rattle.wasm_spec_rules.specs.FeatureFlags.{features_of}
use Rattle.wasm_readers_errors.specs.WasmReadersFeatures.declared.features.WasmFeatures.{WasmFeatures}
use Rattle.wasm_readers_bytes.specs.Reader.{SameInput, input, original, position_in, place_of_next, rest}
use Rattle.wasm_readers_bytes.specs.declared.binary_reader.BinaryReader.{BinaryReader}
use Rattle.wasm_parser.specs.Machine.{State, start, next_of}
use Rattle.wasm_parser.specs.Places.{IsFormat, reader_end}
use Rattle.wasm_parser.specs.PayloadViews.{body_reader}
use Rattle.wasm_readers_errors.specs.declared.error.Refusal.{Refusal}
use Rattle.wasm_parser.proofs.Law.{run_framed}
use Rattle.wasm_parser.proofs.RunFronts.{ends}
use Rattle.wasm_validator_modules.specs.WasmValidatorCore.declared.error.Error.{Error}
use Rattle.wasm_validator_modules.specs.WasmValidatorCore.declared.error.Error.TheVariants.{Refused, DuplicateExport, InFunction, OutOfMemory}
use Rattle.wasm_validator_modules.specs.ValidatorStages.{Standing, fresh}
use Rattle.wasm_validator_modules.specs.States.{BodyToValidate}
use Rattle.wasm_validator_modules.specs.WasmValidatorCanonical.DistinctTypes.{AreApart}
use Rattle.wasm_validator_modules.specs.Payloads.{Validates}
use Rattle.wasm_validator_modules.specs.WasmValidatorTypes.declared.shown.Types.{Types}
use Rattle.wasm_validator_modules.proofs.ParserAndValidator.{Together, is_on, together_step, refused_together, stuck_together}
use Rattle.wasm_validator_modules.proofs.ParserProgress.{IsOn}
use Rattle.wasm_validator_modules.proofs.UsedLaws.{used_laws}
use Rattle.wasm_validator_modules.proofs.WholeModules.{decides_refusal, decides_alone, refusal}
use Rattle.wasm_validator_modules.specs.PayloadAnswers.{IsRefused, bodies_given, latest_of}
use Rattle.wasm_validator_modules.proofs.Runs.{Progress, begun, has_taken, progress-step, refused_whole, refused_format, rejected_payload}
use Rattle.wasm_validator_modules.specs.declared.payload.ValidPayload.{ValidPayload}
use Rattle.wasm_validator_side_table.specs.WasmValidatorSideNotes.declared.table.SideTable.{SideTable}
use Rattle.wasm_validator_tables.specs.declared.function.Found.{Found}
use Rattle.wasm_validator_tables.specs.declared.function.NoTable.{NoTable}
use Rattle.wasm_validator_tables.specs.declared.function.NoTable.TheVariants as no_table
use Rattle.wasm_validator_tables.specs.FunctionTables.{IsBodyIn, IsTableIn, IsMade, HasNoBody, AreOfOthers, Tells, TellsOf, Takes, found_seen, found_at}

-- of others, one list behind the other
of_others-append : (n : ℕ) (xs ys : List BodyToValidate) → AreOfOthers n xs → AreOfOthers n ys → AreOfOthers n (xs ++ ys)
of_others-append n [] ys a b = b
of_others-append n (x ∷ xs) ys a b = (a.0, of_others-append n xs ys a.1 b)

-- no types are told apart
pub none_apart : (b : Bool) → AreApart b []
none_apart true = (record { one_id = λ j k d h. absurd cc }, λ k d h. absurd cc)
none_apart false = λ k d h. absurd cc

-- a reader of the same input ends where the other does
pub same_end : (old new : BinaryReader) → SameInput old new → reader_end new ≡ reader_end old
same_end old new s = λ i. s.1 i + length (s.0 i)

-- a body lies where its reader does
pub within_bytes : (r : BinaryReader) (end n : ℕ) → original r + length (input r) ≤ end → end ≤ n → place_of_next r + length (rest r) ≤ n
within_bytes r end n e f =
    let a = length-drop (position_in r) (input r) in
    let b : position_in r ≤ length (input r) = r.within in
    omega (arith, a, b, e, f)

abbrev seen_all : List BodyToValidate → List BodyToValidate
seen_all bs = bs

module _ (A : Type 0) (bytes : List ℕ) (features : WasmFeatures) (function : ℕ) where
  -- Some payloads were taken, and none of them handed out a body of this function.
  pub record IsBefore (now : Standing) (s : State) : Type 0 where
    pub latest : Option (Types A)
    pub bodies : List BodyToValidate
    pub progress : Progress bytes (fresh 0 features) now s latest bodies
    pub others : AreOfOthers function bodies
    pub together : Together s.stage (fresh 0 features) now

  -- none yet
  pub before_none : (now : Standing) (s : State) → now ≡ (fresh 0 features) → s ≡ start bytes → IsBefore now s
  before_none now s w e = record {
    latest = None;
    bodies = [];
    progress = subst (λ (t : Standing). Progress {A = A} bytes (fresh 0 features) t s None []) (sym w) (begun bytes s (fresh 0 features) e);
    others = tt;
    together = subst (λ (t : State). Together t.stage (fresh 0 features) now) (sym e) (sym w);
  }

  abbrev pub nothing : Option (Found A)
  nothing = None

  -- one more
  pub before_more : (now now' : Standing) (s s' : State) (p : Piece) (end : ℕ) → IsBefore now s → next_of s ≡ Some (Some (p, s')) → Takes function p end now now' nothing → IsBefore now' s'
  before_more now now' s s' p end b e t = record {
    latest = latest_of b.latest t.valid;
    bodies = b.bodies ++ bodies_given t.valid;
    progress = progress-step bytes (fresh 0 features) now now' s s' p b.latest b.bodies t.valid b.progress e t.moves t.shown t.given;
    others = of_others-append function b.bodies (bodies_given t.valid) b.others t.gives;
    together = together_step s s' p (fresh 0 features) now now' e t.moves b.together;
  }

  -- the next one hands out the body of the function
  pub body_in : (now now' : Standing) (s s' : State) (p : Piece) (end : ℕ) (f : Found A) → IsBefore now s → next_of s ≡ Some (Some (p, s')) → Takes function p end now now' (Some f) → end ≤ length bytes → IsBodyIn bytes features function (found_seen f) (found_at f)
  body_in now now' s s' p end f b e t last = record {
    reached = now;
    behind = s;
    taken = has_taken bytes (fresh 0 features) now s b.latest b.bodies b.progress;
    next = p;
    rest = s';
    comes = e;
    hands_out = t.given ∙ t.gives.0;
    its_index = t.gives.1;
    within = within_bytes (body_reader f.body) end (length bytes) t.within last;
  }

  -- they are all
  pub no_body : (now : Standing) (s : State) → IsBefore now s → next_of s ≡ Some None → HasNoBody bytes features function
  no_body now s b e = record {
    pieces = b.progress.pieces;
    framed = run_framed bytes b.progress.pieces (ends b.progress.pieces (start bytes) s b.progress.given e);
    reached = now;
    accepted = b.progress.taken;
    none = subst (AreOfOthers function) (sym b.progress.handed_out) b.others;
  }

  -- what a refusal says of the whole
  tells_refused : (now : Standing) (e : Error A) → Validates seen_all (refusal (Types A × List BodyToValidate) e) bytes (fresh 0 features) now → Tells bytes features function (no_table.Refused e)
  tells_refused now (Refused r) v =
      (decides_alone {A = A} bytes 0 features now (refusal (Types A) (Refused r)) (decides_refusal {A = A} seen_all used_laws bytes (fresh 0 features) now (Refused r) (λ k d l. absurd (omega (arith, l))) (none_apart (canonical (features_of features))) v)).0
  tells_refused now (DuplicateExport name offset) v =
      (decides_alone {A = A} bytes 0 features now (refusal (Types A) (DuplicateExport name offset)) (decides_refusal {A = A} seen_all used_laws bytes (fresh 0 features) now (DuplicateExport name offset) (λ k d l. absurd (omega (arith, l))) (none_apart (canonical (features_of features))) v)).0
  tells_refused now (InFunction index r) v = absurd v
  tells_refused now OutOfMemory v = tt

  -- that of a payload
  pub refused_payload : (now left : Standing) (s s' : State) (p : Piece) (e : Error A) → IsBefore now s → next_of s ≡ Some (Some (p, s')) → IsRefused p now left e → Tells bytes features function (no_table.Refused e)
  refused_payload now left s s' p e b n r =
      tells_refused left e
      (refused_whole (ValidPayload A) seen_all bytes (fresh 0 features) now left s s' b.latest b.bodies p e b.progress n r.left r.memory (refused_together s s' p (fresh 0 features) now left n b.together) (rejected_payload bytes (fresh 0 features) now s s' p b.latest b.bodies b.progress n))

  -- that of the parser
  pub refused_bytes : (now : Standing) (s : State) (r : Refusal) → IsFormat r → IsBefore now s → next_of s ≡ None → Tells {A = A} bytes features function (no_table.Refused (Refused r))
  refused_bytes now s r f b e = tells_refused now (Refused r) (refused_format seen_all bytes (fresh 0 features) now s b.latest b.bodies (Refused r) f b.progress e (stuck_together s (fresh 0 features) now e b.together))

  pub is_going_on : (now : Standing) (s : State) → IsBefore now s → IsOn s.stage
  is_going_on now s b = is_on s.stage (fresh 0 features) now b.together

  -- of the body that was found
  pub table_in : (body : BodyToValidate) (offset : ℕ) (t : SideTable A) → IsBodyIn bytes features function body offset → IsMade body offset t → IsTableIn bytes features function t
  table_in body offset t is made = record { body = body; offset = offset; is = is; valid = made.valid; few = made.few; table = made.table }

  pub tells_in : (body : BodyToValidate) (offset : ℕ) (w : NoTable A) → IsBodyIn bytes features function body offset → TellsOf body offset w → Tells bytes features function w
  tells_in body offset (no_table.Refused (Refused r)) is h = absurd h
  tells_in body offset (no_table.Refused (DuplicateExport name at)) is h = absurd h
  tells_in body offset (no_table.Refused (InFunction index r)) is h = (h.0 ∙ is.its_index, record { body = body; offset = offset; is = is; wrong = h.1 })
  tells_in body offset (no_table.Refused OutOfMemory) is h = tt
  tells_in body offset no_table.NoBody is h = absurd h
  tells_in body offset no_table.TooLarge is h = record { body = body; offset = offset; is = is; valid = h.0; many = h.1 }
