-- The tables of a module's bodies, made one after another.
use Rattle.std.proofs.Common.{◌≡◌, refl, sym, ap, subst, ◌∙◌, ◌≤◌, ◌+◌, arith, List, [], ◌∷◌, ◌++◌, length, map, suc, ℕ, Option, Some, None, All}
use Rattle.std.specs.List.{flat_map}
use Rattle.std.proofs.lemmas.List.{length-append, append-nil, map_push}
use Rattle.std.proofs.lemmas.List.Concat.{flat_map-append}
use Rattle.std.proofs.lemmas.List.Elements.{All-push}
use Rattle.std.specs.declared.result.Result.{Result}
use Rattle.std.specs.declared.result.Result.TheVariants as results
use Rattle.wasm_spec.specs.Features.{canonical}
use Rattle.wasm_spec.specs.Framing.{Piece}
use Rattle.wasm_spec_rules.specs.FeatureFlags.{features_of}
use Rattle.wasm_readers_errors.specs.WasmReadersFeatures.declared.features.WasmFeatures.{WasmFeatures}
use Rattle.wasm_parser.specs.Machine.{State, start, next_of}
use Rattle.wasm_parser.specs.PayloadViews.{body_reader}
use Rattle.wasm_spec_side_tables.specs.declared.entry.Entry.{Entry}
use Rattle.wasm_validator_modules.specs.ValidatorStages.{Standing, fresh}
use Rattle.wasm_validator_modules.specs.States.{BodyToValidate, after_piece, handed}
use Rattle.wasm_validator_modules.specs.Payloads.{HasTaken, IsBodyOfIts, Runs}
use Rattle.wasm_validator_modules.specs.Verdict.{DecidesModule, DecidesAlone}
use Rattle.wasm_validator_modules.specs.WasmValidatorTypes.declared.shown.Types.{Types}
use Rattle.wasm_validator_modules.specs.WasmValidatorCore.declared.error.Error.{Error}
use Rattle.wasm_validator_modules.proofs.ParserAndValidator.{Together, together_step}
use Rattle.wasm_validator_modules.proofs.UsedLaws.{used_laws}
use Rattle.wasm_validator_modules.proofs.WholeModules.{decides_whole, decides_alone}
use Rattle.wasm_validator_modules.specs.PayloadAnswers.{ShowsModule, GivenEndBy, EndsBy, bodies_given, latest_of}
use Rattle.wasm_validator_modules.proofs.Runs.{Progress, begun, has_taken, has_ended, accepted, progress-step}
use Rattle.wasm_validator_modules.specs.declared.payload.ValidPayload.{ValidPayload}
use Rattle.wasm_validator_modules.specs.declared.payload.ValidPayload.TheVariants as payload
use Rattle.wasm_validator_tables.specs.declared.function.NoTable.{NoTable}
use Rattle.wasm_validator_tables.specs.declared.function.NoTable.TheVariants as no_table
use Rattle.wasm_validator_tables.specs.declared.function.Found.{Found}
use Rattle.wasm_validator_tables.specs.declared.module.Making.{Making}
use Rattle.wasm_validator_tables.specs.declared.module.ModuleTables.{ModuleTables}
use Rattle.wasm_validator_tables.specs.FunctionTables.{IsBodyIn, IsTableIn, TellsOf, found_seen, found_at}
use Rattle.wasm_validator_tables.specs.ModuleTables.{Tabled, function_in, entries_in, told_of, told_behind, index_of, AreMade, HasSomeLargeBody, IsLarge, IsLargeBody, Makes, Keeps, KeepsTables, Gathers, GivesLarge, HandsOutLarge}
use Rattle.wasm_validator_tables.proofs.BodySearch.{none_apart, within_bytes}

module _ {A : Type 0} where
  -- one table more
  pub told_more : (begin : ℕ) (ts : List (Tabled A)) (t : Tabled A) → told_behind begin (ts ++ t ∷ []) ≡ told_behind begin ts ++ told_of (begin + length (flat_map entries_in ts)) t.function t.table ∷ []
  told_more begin [] t = ap (λ n. told_of n t.function t.table ∷ []) (omega arith)
  told_more begin (u ∷ us) t =
      let next = begin + length (entries_in u) in
      let long = length-append (entries_in u) (flat_map entries_in us) in
      ap (λ xs. told_of begin u.function u.table ∷ xs)
      (told_more next us t ∙ ap (λ n. told_behind next us ++ told_of n t.function t.table ∷ []) (omega (arith, long)))

  pub entries_more : (ts : List (Tabled A)) (t : Tabled A) → flat_map entries_in (ts ++ t ∷ []) ≡ flat_map entries_in ts ++ entries_in t
  entries_more ts t = flat_map-append entries_in ts (t ∷ []) ∙ ap (λ es. flat_map entries_in ts ++ es) (append-nil (entries_in t))

  -- there are as many as tables
  pub count_told : (begin : ℕ) (ts : List (Tabled A)) → length (told_behind begin ts) ≡ length ts
  count_told begin [] = refl
  count_told begin (t ∷ ts) = ap suc (count_told (begin + length (entries_in t)) ts)

  -- so a body whose table wasn't made is too large where that is said
  pub told_large : (body : BodyToValidate) (offset : ℕ) (w : NoTable A) → TellsOf body offset w → IsLarge (IsLargeBody body offset) w
  told_large body offset (no_table.Refused e) h = tt
  told_large body offset no_table.NoBody h = tt
  told_large body offset no_table.TooLarge h = h

  -- what is said where a table is too large
  pub large_so : (P Q : Type 0) (w : NoTable A) → (P → Q) → IsLarge P w → IsLarge Q w
  large_so P Q (no_table.Refused e) f h = tt
  large_so P Q no_table.NoBody f h = tt
  large_so P Q no_table.TooLarge f h = f h

module _ (A : Type 0) (bytes : List ℕ) (features : WasmFeatures) where
  -- Some payloads were taken, and each body that they handed out is valid and has its table.
  pub record IsSoFar (now : Standing) (s : State) (m : Making A) : Type 0 where
    pub bodies : List BodyToValidate
    pub all : List (Tabled A)
    pub progress : Progress bytes (fresh 0 features) now s m.ended bodies
    pub together : Together s.stage (fresh 0 features) now
    pub functions : map function_in all ≡ map index_of bodies
    pub each : All (λ (t : Tabled A). IsTableIn bytes features t.function t.table) all
    pub valid : All IsBodyOfIts bodies
    pub tables : m.tables.items ≡ told_behind 0 all
    pub entries : m.entries.items ≡ flat_map entries_in all

  -- none yet
  pub so_far_none : (now : Standing) (s : State) (m : Making A) → now ≡ fresh 0 features → s ≡ start bytes → m.ended ≡ None → m.tables.items ≡ [] → m.entries.items ≡ [] → IsSoFar now s m
  so_far_none now s m w e n ts es = record {
    bodies = [];
    all = [];
    progress = subst (λ (o : Option (Types A)). Progress bytes (fresh 0 features) now s o []) (sym n)
        (subst (λ (t : Standing). Progress {A = A} bytes (fresh 0 features) t s None []) (sym w) (begun bytes s (fresh 0 features) e));
    together = subst (λ (t : State). Together t.stage (fresh 0 features) now) (sym e) (sym w);
    functions = refl;
    each = λ k d l. absurd (omega (arith, l));
    valid = λ k d l. absurd (omega (arith, l));
    tables = ts;
    entries = es;
  }

  -- a payload more
  went_on : (now now' : Standing) (s s' : State) (p : Piece) (m m' : Making A) (valid : ValidPayload A) (bodies : List BodyToValidate) → Progress bytes (fresh 0 features) now s m.ended bodies → next_of s ≡ Some (Some (p, s'))
      → after_piece now p ≡ Some now' → ShowsModule now p valid → handed now p ≡ bodies_given valid → m'.ended ≡ latest_of m.ended valid → Progress bytes (fresh 0 features) now' s' m'.ended (bodies ++ bodies_given valid)
  went_on now now' s s' p m m' valid bodies g e moves shown given ended =
      subst (λ (o : Option (Types A)). Progress bytes (fresh 0 features) now' s' o (bodies ++ bodies_given valid)) (sym ended)
      (progress-step bytes (fresh 0 features) now now' s s' p m.ended bodies valid g e moves shown given)

  -- which gives no body
  without_body : (now now' : Standing) (s s' : State) (p : Piece) (m m' : Making A) (valid : ValidPayload A) → IsSoFar now s m → next_of s ≡ Some (Some (p, s'))
      → after_piece now p ≡ Some now' → ShowsModule now p valid → handed now p ≡ bodies_given valid → bodies_given valid ≡ [] → KeepsTables m m' valid → IsSoFar now' s' m'
  without_body now now' s s' p m m' valid b e moves shown given none k =
      let same : b.bodies ++ bodies_given valid ≡ b.bodies = ap (λ (bs : List BodyToValidate). b.bodies ++ bs) none ∙ append-nil b.bodies in
      record {
        bodies = b.bodies ++ bodies_given valid;
        all = b.all;
        progress = went_on now now' s s' p m m' valid b.bodies b.progress e moves shown given k.ended;
        together = together_step s s' p (fresh 0 features) now now' e moves b.together;
        functions = b.functions ∙ ap (map index_of) (sym same);
        each = b.each;
        valid = subst (All IsBodyOfIts) (sym same) b.valid;
        tables = k.tables ∙ b.tables;
        entries = k.entries ∙ b.entries;
      }

  -- a body that was handed out stands in the bytes
  stands_in : (now : Standing) (s s' : State) (p : Piece) (end : ℕ) (f : Found A) → HasTaken bytes (fresh 0 features) now s → next_of s ≡ Some (Some (p, s'))
      → handed now p ≡ found_seen f ∷ [] → EndsBy end f.body → end ≤ length bytes → IsBodyIn bytes features f.function.index (found_seen f) (found_at f)
  stands_in now s s' p end f taken e given within last = record {
    reached = now;
    behind = s;
    taken = taken;
    next = p;
    rest = s';
    comes = e;
    hands_out = given;
    its_index = refl;
    within = within_bytes (body_reader f.body) end (length bytes) within last;
  }

  -- one that gives a body, whose table was made
  with_body : (now now' : Standing) (s s' : State) (p : Piece) (end : ℕ) (m m' : Making A) (f : Found A) → IsSoFar now s m → next_of s ≡ Some (Some (p, s')) → end ≤ length bytes
      → after_piece now p ≡ Some now' → ShowsModule {A = A} now p (payload.Func f.function f.body) → handed now p ≡ found_seen f ∷ [] → EndsBy end f.body → Makes (found_seen f) (found_at f) m m' → IsSoFar now' s' m'
  with_body now now' s s' p end m m' f b e last moves shown given within made =
      let one : Tabled A = record { function = f.function.index; table = made.table } in
      let seen = found_seen f in
      let begin : length (flat_map (entries_in {A = A}) b.all) ≡ 0 + length (flat_map (entries_in {A = A}) b.all) = omega arith in
      let is = stands_in now s s' p end f (has_taken bytes (fresh 0 features) now s m.ended b.bodies b.progress) e given within last in
      record {
        bodies = b.bodies ++ seen ∷ [];
        all = b.all ++ one ∷ [];
        progress = went_on now now' s s' p m m' (payload.Func f.function f.body) b.bodies b.progress e moves shown given made.ended;
        together = together_step s s' p (fresh 0 features) now now' e moves b.together;
        functions = map_push function_in b.all one ∙ ap (λ (ns : List ℕ). ns ++ f.function.index ∷ []) b.functions ∙ sym (map_push index_of b.bodies seen);
        each = All-push (λ (t : Tabled A). IsTableIn bytes features t.function t.table) b.all one b.each
            (record { body = seen; offset = found_at f; is = is; valid = made.is.valid; few = made.is.few; table = made.is.table });
        valid = All-push IsBodyOfIts b.bodies seen b.valid made.is.valid;
        tables = made.adds.tables ∙ ((λ i. b.tables i ++ told_of (length (b.entries i)) f.function.index made.table ∷ []) ∙ (ap (λ n. told_behind 0 b.all ++ told_of n f.function.index made.table ∷ []) begin ∙ sym (told_more 0 b.all one)));
        entries = made.adds.entries ∙ ap (λ (es : List Entry). es ++ made.table.entries) b.entries ∙ sym (entries_more b.all one);
      }

  by_payload : (now now' : Standing) (s s' : State) (p : Piece) (end : ℕ) (m m' : Making A) (valid : ValidPayload A) → IsSoFar now s m → next_of s ≡ Some (Some (p, s')) → end ≤ length bytes
      → after_piece now p ≡ Some now' → ShowsModule now p valid → handed now p ≡ bodies_given valid → GivenEndBy end valid → Keeps valid m m' → IsSoFar now' s' m'
  by_payload now now' s s' p end m m' payload.Ok b e last moves shown given within kept = without_body now now' s s' p m m' payload.Ok b e moves shown given refl kept
  by_payload now now' s s' p end m m' (payload.Func f body) b e last moves shown given within kept = with_body now now' s s' p end m m' (record { function = f; body = body }) b e last moves shown given within kept
  by_payload now now' s s' p end m m' (payload.End t) b e last moves shown given within kept = without_body now now' s s' p m m' (payload.End t) b e moves shown given refl kept

  pub so_far_more : (now now' : Standing) (s s' : State) (p : Piece) (end : ℕ) (m m' : Making A) → IsSoFar now s m → next_of s ≡ Some (Some (p, s')) → end ≤ length bytes → Gathers p end now now' m m' → IsSoFar now' s' m'
  so_far_more now now' s s' p end m m' b e last g = by_payload now now' s s' p end m m' g.valid b e last g.moves g.shown g.given g.within g.keeps

  -- a body whose table is too large
  some_large : (now : Standing) (s s' : State) (p : Piece) (end : ℕ) (valid : ValidPayload A) → HasTaken bytes (fresh 0 features) now s → next_of s ≡ Some (Some (p, s')) → end ≤ length bytes → handed now p ≡ bodies_given valid → GivenEndBy end valid → GivesLarge valid → HasSomeLargeBody bytes features
  some_large now s s' p end payload.Ok taken e last given within large = absurd large
  some_large now s s' p end (payload.Func f body) taken e last given within large =
      let found : Found A = record { function = f; body = body } in
      (f.index, record { body = found_seen found; offset = found_at found; is = stands_in now s s' p end found taken e given within last; valid = large.0; many = large.1 })
  some_large now s s' p end (payload.End t) taken e last given within large = absurd large

  pub large_in : (now : Standing) (s s' : State) (p : Piece) (end : ℕ) (m : Making A) → IsSoFar now s m → next_of s ≡ Some (Some (p, s')) → end ≤ length bytes → HandsOutLarge A p end now → HasSomeLargeBody bytes features
  large_in now s s' p end m b e last h =
      some_large now s s' p end h.valid (has_taken bytes (fresh 0 features) now s m.ended b.bodies b.progress) e last h.given h.within h.large

  -- they are all
  ran : (now : Standing) (s : State) (m : Making A) (t : Types A) (b : IsSoFar now s m) → next_of s ≡ Some None → m.ended ≡ Some t → Runs bytes (fresh 0 features) now t b.bodies
  ran now s m t b over ended = accepted bytes (fresh 0 features) now s t b.bodies (subst (λ (o : Option (Types A)). Progress bytes (fresh 0 features) now s o b.bodies) ended b.progress) over

  pub all_made : (now : Standing) (s : State) (m : Making A) (made : ModuleTables A) → IsSoFar now s m → next_of s ≡ Some None → m.ended ≡ Some made.types → made.tables.items ≡ m.tables.items → made.entries.items ≡ m.entries.items → AreMade bytes features made
  all_made now s m made b over ended ts es =
      let r = ran now s m made.types b over ended in
      record {
        all = b.all;
        are = record {
          pieces = r.accepts.pieces;
          framed = r.accepts.framed;
          reached = now;
          accepted = r.accepts.accepted;
          functions = b.functions ∙ ap (map index_of) (sym r.hands_out);
          each = b.each;
        };
        tables = ts ∙ b.tables;
        entries = es ∙ b.entries;
      }

  pub all_accepted : (now : Standing) (s : State) (m : Making A) (t : Types A) → IsSoFar now s m → next_of s ≡ Some None → m.ended ≡ Some t → DecidesAlone {A = A} (results.Ok t) bytes 0 features
  all_accepted now s m t b over ended =
      (now, decides_whole used_laws bytes (fresh 0 features) now t b.bodies (none_apart (canonical (features_of features))) (ran now s m t b over ended) b.valid)

  -- what a new validator says of the whole
  pub alone : (r : Result (Types A) (Error A)) (old new : Standing) → old ≡ fresh 0 features → DecidesModule r bytes old new → DecidesAlone r bytes 0 features
  alone r old new w d = decides_alone {A = A} bytes 0 features new r (subst (λ (s : Standing). DecidesModule r bytes s new) w d)

  pub has_types : (now : Standing) (s : State) (m : Making A) → IsSoFar now s m → next_of s ≡ Some None → m.ended ≡ None → ⊥
  has_types now s m b over none = has_ended {A = A} bytes (fresh 0 features) now s b.bodies (subst (λ (o : Option (Types A)). Progress bytes (fresh 0 features) now s o b.bodies) none b.progress) over
