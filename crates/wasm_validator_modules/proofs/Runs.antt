-- A validator that goes over the payloads of whole bytes.
use Rattle.std.proofs.Common.{◌≡◌, refl, sym, ap, subst, ◌∙◌, inl, inr, Bool, true, false, true≢false, ℕ, ◌≤◌, arith, List, [], ◌∷◌, ◌++◌, Option, Some, None, append_assoc, append-nil}
use Rattle.std.specs.Option.{option_and_then}
use Rattle.std.specs.Prelude.{IsSome}
use Rattle.wasm_spec.specs.Framing as parts
use Rattle.wasm_spec.specs.Framing.{Piece, IsFramed, Version, Custom, Counted, Start, DataCount, CodeStart, CodeEntry, Unknown}
use Rattle.wasm_validator_states.specs.WasmParser.Machine.{State, start, next_of, Run, Given}
use Rattle.wasm_readers_errors.specs.declared.error.Refusal.{Refusal}
use Rattle.wasm_validator_states.proofs.WasmParser.Law.{run_framed, framed_run}
use Rattle.wasm_validator_states.proofs.WasmParser.RunFronts.{front, grows, ends, stuck}
use Rattle.wasm_validator_states.specs.WasmValidatorTypes.declared.shown.Types.{Types}
use Rattle.wasm_validator_modules.specs.declared.payload.ValidPayload.{ValidPayload}
use Rattle.wasm_validator_modules.specs.declared.payload.ValidPayload.TheVariants.{Ok, Func, End}
use Rattle.std.specs.declared.result.Result.TheVariants as results
use Rattle.wasm_validator_states.specs.WasmValidatorSections.WasmValidatorCore.declared.error.Error.{Error}
use Rattle.wasm_validator_states.specs.WasmValidatorSections.WasmValidatorCore.declared.error.Error.TheVariants.{Refused, DuplicateExport, InFunction, OutOfMemory}
use Rattle.wasm_spec_rules.proofs.Tests.{then_some}
use Rattle.wasm_validator_states.specs.WasmValidatorSections.WasmValidatorCore.Answers.{IsNowhere}
use Rattle.wasm_validator_states.specs.WasmValidatorSections.WasmValidatorCore.Errors.{IsContent}
use Rattle.wasm_validator_states.specs.WasmValidatorSections.CodeProgress.{starting}
use Rattle.wasm_validator_states.specs.ValidatorStages.{Stage, unparsed, in_module, in_code, ended, failed, Standing, at_stage, HoldsValid, Leaves, IsEnded, HasNotEnded}
use Rattle.wasm_validator_states.specs.States.{after_piece, BodyToValidate, code_started, body_taken, body_at, handed, IsBeforeEnd, left_by, takes_memory, code_count}
use Rattle.wasm_validator_states.specs.Payloads.{Show, after_all, handed_behind, all_handed, Runs, Rejects, HasTaken, IsToldOfFormat, IsLeft, IsBehindCode, IsOutOfMemory, Validates}
use Rattle.wasm_validator_states.specs.BodyAnswers.{body_seen}
use Rattle.wasm_validator_modules.specs.PayloadAnswers.{ShowsModule, IsFunction, KeepsBodies, bodies_given, latest_of, TellsFormat}
use Rattle.wasm_validator_states.specs.WasmValidatorSections.SectionFaults.{StandsBetween}
use Rattle.wasm_validator_states.proofs.ListGrowth.{body_some}
use Rattle.wasm_readers_errors.specs.WasmReadersFeatures.declared.features.WasmFeatures.{WasmFeatures}
use Rattle.std.proofs.lemmas.Option.{same_Some}
use Rattle.wasm_validator_states.proofs.ValidTypes.{all_back}
use Rattle.wasm_validator_states.proofs.WholeModules.{refusal}

-- pieces after pieces
all_from : (ps qs : List Piece) (t : Standing) (o : Option Standing) → ((u : Standing) → after_all u ps ≡ Some t → after_all u (ps ++ qs) ≡ after_all t qs)
    → option_and_then (λ u. after_all u ps) o ≡ Some t → option_and_then (λ u. after_all u (ps ++ qs)) o ≡ after_all t qs
all_from ps qs t None below h = absurd (cc)
all_from ps qs t (Some u) below h = below u h

pub after_all-append : (ps qs : List Piece) (s t : Standing) → after_all s ps ≡ Some t → after_all s (ps ++ qs) ≡ after_all t qs
after_all-append [] qs s t e = let same : s ≡ t = cc in ap (λ u. after_all u qs) same
after_all-append (p ∷ ps) qs s t e = all_from ps qs t (after_piece s p) (λ u h. after_all-append ps qs u t h) e

-- what they hand out
handed_from : (ps qs : List Piece) (s t : Standing) → after_all s ps ≡ Some t → all_handed s (ps ++ qs) ≡ all_handed s ps ++ all_handed t qs
handed_from [] qs s t e = ap (λ u. all_handed u qs) (same_Some s t e)
handed_from (p ∷ ps) qs s t e =
    let a = then_some (λ u. after_all u ps) (after_piece s p) t e in
    ap (λ o. handed s p ++ handed_behind (λ u. all_handed u (ps ++ qs)) o) a.1
    ∙ ap (λ bs. handed s p ++ bs) (handed_from ps qs a.0 t a.2)
    ∙ sym (append_assoc (handed s p) (all_handed a.0 ps) (all_handed t qs))
    ∙ ap (λ o. (handed s p ++ handed_behind (λ u. all_handed u ps) o) ++ all_handed t qs) (sym a.1)

handed_last : (o : Option Standing) (bs : List BodyToValidate) → bs ++ handed_behind (λ t. []) o ≡ bs
handed_last None bs = append-nil bs
handed_last (Some t) bs = append-nil bs

pub handed_one : (ps : List Piece) (p : Piece) (s t : Standing) → after_all s ps ≡ Some t → all_handed s (ps ++ p ∷ []) ≡ all_handed s ps ++ handed t p
handed_one ps p s t e = handed_from ps (p ∷ []) s t e ∙ ap (λ bs. all_handed s ps ++ bs) (handed_last (after_piece t p) (handed t p))

-- two pieces that come next are one
next_in : (s s' : State) (p : Piece) (qs : List Piece) → next_of s ≡ Some (Some (p, s')) → Run s qs → (rest : List Piece) × (qs ≡ p ∷ rest)
next_in s s' p [] e r = let h = sym e ∙ r in absurd (cc)
next_in s s' p (q ∷ qs) e r =
    let here : Piece × State = (p, s') in
    let there : Piece × State = (q, r.0) in
    let given : Some (Some here) ≡ Some (Some there) = sym e ∙ r.1 in
    let same : here ≡ there = cc in
    (qs, ap (λ (x : Piece × State). x.0 ∷ qs) (sym same))

-- a call that could be refused memory takes some
some_taken : (takes : Bool) → (takes ≡ false → ⊥) → takes ≡ true
some_taken true h = refl
some_taken false h = absurd (h refl)

-- none of them is the end
abbrev NoEnd : List Piece → Type 0
NoEnd [] = Unit {0}
NoEnd (p ∷ ps) = IsBeforeEnd p × NoEnd ps

no_end-push : (ps : List Piece) (p : Piece) → NoEnd ps → IsBeforeEnd p → NoEnd (ps ++ p ∷ [])
no_end-push [] p n h = (h, tt)
no_end-push (q ∷ ps) p n h = (n.0, no_end-push ps p n.1 h)

no_end-last : (ps : List Piece) → NoEnd (ps ++ parts.End ∷ []) → ⊥
no_end-last [] n = n.0
no_end-last (p ∷ ps) n = no_end-last ps n.1

-- a framing has an end
framed_has_end : (bytes : List ℕ) (ps : List Piece) → IsFramed bytes ps → NoEnd ps → ⊥
framed_has_end bytes ps f n = no_end-last (Version f.number f.kind ∷ f.others) (subst NoEnd f.all n)

-- the code section has started, and the module hasn't ended
abbrev IsInCode : Stage → Type 0
IsInCode (unparsed types) = ⊥
IsInCode (in_module types spaces more) = ⊥
IsInCode (in_code types spaces more) = Unit {0}
IsInCode (ended types) = ⊥
IsInCode failed = ⊥

is_behind : (g : Stage) → IsInCode g → IsBehindCode g
is_behind (unparsed types) h = h
is_behind (in_module types spaces more) h = h
is_behind (in_code types spaces more) h = tt
is_behind (ended types) h = tt
is_behind failed h = h

not_ended : (g : Stage) → IsInCode g → IsEnded g → ⊥
not_ended (unparsed types) h e = e
not_ended (in_module types spaces more) h e = e
not_ended (in_code types spaces more) h e = e
not_ended (ended types) h e = h
not_ended failed h e = e

-- so it is behind its start
with_start : (g h : Stage) → code_started g ≡ Some h → IsInCode h
with_start (unparsed types) h e = absurd cc
with_start (in_module types spaces more) h e = subst IsInCode (same_Some (in_code types spaces (starting types spaces more)) h e) tt
with_start (in_code types spaces more) h e = absurd cc
with_start (ended types) h e = absurd cc
with_start failed h e = absurd cc

start_in_code : (now now' : Standing) (p : Piece) → IsSome (code_count p) → after_piece now p ≡ Some now' → IsInCode now'.stage
start_in_code now now' (CodeStart n size) s a =
    let c = then_some (λ (g : Stage). Some (record now { stage = g })) (code_started now.stage) now' a in
    subst (λ (s : Standing). IsInCode s.stage) (same_Some (record now { stage = c.0 }) now' c.2) (with_start now.stage c.0 c.1)
start_in_code now now' (Version number kind) s a = absurd (true≢false (sym s))
start_in_code now now' (Custom name bytes) s a = absurd (true≢false (sym s))
start_in_code now now' (Counted id n bytes) s a = absurd (true≢false (sym s))
start_in_code now now' (Start x) s a = absurd (true≢false (sym s))
start_in_code now now' (DataCount n) s a = absurd (true≢false (sym s))
start_in_code now now' (CodeEntry bytes) s a = absurd (true≢false (sym s))
start_in_code now now' (Unknown id bytes) s a = absurd (true≢false (sym s))
start_in_code now now' parts.End s a = absurd (true≢false (sym s))

-- and a body is handed out only then
with_code : (g : Stage) (features : WasmFeatures) (bytes : List ℕ) (b : BodyToValidate) → body_at features bytes g ≡ b ∷ [] → (h : Stage) → body_taken bytes g ≡ Some h → IsInCode h
with_code (unparsed types) features bytes b e h t = absurd cc
with_code (in_module types spaces more) features bytes b e h t = absurd cc
with_code (in_code types spaces more) features bytes b e h t =
    let a = body_some (record { id = 0; features = features; stage = h }) (record { id = 0; features = features; stage = h }) bytes types spaces more (ap (at_stage (record { id = 0; features = features; stage = h })) t) in
    subst (λ (s : Standing). IsInCode s.stage) a.2 tt
with_code (ended types) features bytes b e h t = absurd cc
with_code failed features bytes b e h t = absurd cc

module _ {A : Type 0} where
  -- where the end was, and what the types show
  pub record EndedWith (old : Standing) (pieces : List Piece) (t : Types A) : Type 0 where
    pub front : List Piece
    pub behind : List Piece
    pub split : pieces ≡ front ++ parts.End ∷ behind
    pub before_end : Standing
    pub reached : after_all old front ≡ Some before_end
    pub shown : Show before_end t

  abbrev pub EndedAs : Standing → List Piece → Option (Types A) → Type 0
  EndedAs old pieces None = NoEnd pieces
  EndedAs old pieces (Some t) = EndedWith old pieces t

  -- the validator has gone over these pieces
  pub record Progress (bytes : List ℕ) (old now : Standing) (s : State) (latest : Option (Types A)) (bodies : List BodyToValidate) : Type 0 where
    pub pieces : List Piece
    pub given : Given (start bytes) pieces s
    pub taken : after_all old pieces ≡ Some now
    pub ended : EndedAs old pieces latest
    pub handed_out : all_handed old pieces ≡ bodies

  pub begun : (bytes : List ℕ) (s : State) (old : Standing) → s ≡ start bytes → Progress bytes old old s None []
  begun bytes s old e = record { pieces = []; given = sym e; taken = refl; ended = tt; handed_out = refl }

  -- one payload more
  ended-step : (old now : Standing) (ps : List Piece) (p : Piece) (latest : Option (Types A)) (valid : ValidPayload A)
      → after_all old ps ≡ Some now → EndedAs old ps latest → ShowsModule now p valid → EndedAs old (ps ++ p ∷ []) (latest_of latest valid)
  ended-step old now ps p None Ok taken e h = no_end-push ps p e h
  ended-step old now ps p None (Func f b) taken e h = no_end-push ps p e h
  ended-step old now ps p (Some t) (Func f b) taken e h = record {
    front = e.front;
    behind = e.behind ++ p ∷ [];
    split = ap (λ (xs : List Piece). xs ++ p ∷ []) e.split ∙ append_assoc e.front (parts.End ∷ e.behind) (p ∷ []);
    before_end = e.before_end;
    reached = e.reached;
    shown = e.shown;
  }
  ended-step old now ps p (Some t) Ok taken e h = record {
    front = e.front;
    behind = e.behind ++ p ∷ [];
    split = ap (λ (xs : List Piece). xs ++ p ∷ []) e.split ∙ append_assoc e.front (parts.End ∷ e.behind) (p ∷ []);
    before_end = e.before_end;
    reached = e.reached;
    shown = e.shown;
  }
  ended-step old now ps p latest (End t) taken e h = record {
    front = ps;
    behind = [];
    split = ap (λ (q : Piece). ps ++ q ∷ []) h.0;
    before_end = now;
    reached = taken;
    shown = h.1;
  }

  pub progress-step : (bytes : List ℕ) (old now now' : Standing) (s s' : State) (p : Piece) (latest : Option (Types A)) (bodies : List BodyToValidate) (valid : ValidPayload A)
      → Progress bytes old now s latest bodies → next_of s ≡ Some (Some (p, s')) → after_piece now p ≡ Some now' → ShowsModule now p valid → handed now p ≡ bodies_given valid
      → Progress bytes old now' s' (latest_of latest valid) (bodies ++ bodies_given valid)
  progress-step bytes old now now' s s' p latest bodies valid g e a h given = record {
    pieces = g.pieces ++ p ∷ [];
    given = grows g.pieces (start bytes) s s' p g.given e;
    taken = after_all-append g.pieces (p ∷ []) old now g.taken ∙ ap (option_and_then (λ t. Some t)) a;
    ended = ended-step old now g.pieces p latest valid g.taken g.ended h;
    handed_out = handed_one g.pieces p old now g.taken ∙ (λ i. g.handed_out i ++ given i);
  }

  -- all payloads
  pub accepted : (bytes : List ℕ) (old now : Standing) (s : State) (t : Types A) (bodies : List BodyToValidate) → Progress bytes old now s (Some t) bodies → next_of s ≡ Some None → Runs bytes old now t bodies
  accepted bytes old now s t bodies g e = record {
    accepts = record {
      pieces = g.pieces;
      framed = run_framed bytes g.pieces (ends g.pieces (start bytes) s g.given e);
      accepted = g.taken;
      front = g.ended.front;
      behind = g.ended.behind;
      split = g.ended.split;
      before_end = g.ended.before_end;
      reached = g.ended.reached;
      shown = g.ended.shown;
    };
    hands_out = g.handed_out;
    ended = record { behind = s; taken = record { pieces = g.pieces; given = g.given; run = g.taken }; none = e };
  }

  pub has_ended : (bytes : List ℕ) (old now : Standing) (s : State) (bodies : List BodyToValidate) → Progress bytes old now s None bodies → next_of s ≡ Some None → ⊥
  has_ended bytes old now s bodies g e = framed_has_end bytes g.pieces (run_framed bytes g.pieces (ends g.pieces (start bytes) s g.given e)) g.ended

  -- bytes that the parser refuses have no framing
  pub rejected_bytes : (bytes : List ℕ) (old now : Standing) (s : State) (latest : Option (Types A)) (bodies : List BodyToValidate) → Progress bytes old now s latest bodies → next_of s ≡ None → Rejects bytes old
  rejected_bytes bytes old now s latest bodies g e = λ all f. let b = front g.pieces (start bytes) s all g.given (framed_run bytes all f) in absurd (stuck s b.0 e b.2)

  -- a payload that is refused is in each framing
  pub rejected_payload : (bytes : List ℕ) (old now : Standing) (s s' : State) (p : Piece) (latest : Option (Types A)) (bodies : List BodyToValidate)
      → Progress bytes old now s latest bodies → next_of s ≡ Some (Some (p, s')) → IsNowhere HoldsValid (after_piece now p) → Rejects bytes old
  rejected_payload bytes old now s s' p latest bodies g e a = λ all f q r v.
      let b = front g.pieces (start bytes) s all g.given (framed_run bytes all f) in
      let n = next_in s s' p b.0 e b.2 in
      let split : after_all old all ≡ after_all now (p ∷ n.0) = ap (after_all old) (b.1 ∙ ap (λ (qs : List Piece). g.pieces ++ qs) n.1) ∙ after_all-append g.pieces (p ∷ n.0) old now g.taken in
      let c = then_some (λ t. after_all t n.0) (after_piece now p) q (sym split ∙ r) in
      a c.0 c.1 (all_back n.0 c.0 q c.2 v)

  -- what was taken
  pub has_taken : (bytes : List ℕ) (old now : Standing) (s : State) (latest : Option (Types A)) (bodies : List BodyToValidate) → Progress bytes old now s latest bodies → HasTaken bytes old now s
  has_taken bytes old now s latest bodies g = record { pieces = g.pieces; given = g.given; run = g.taken }

  -- where a payload that was refused leaves the validator
  left_refused : (told : Option Refusal) (bytes : List ℕ) (old now new : Standing) (s s' : State) (latest : Option (Types A)) (bodies : List BodyToValidate) (p : Piece) → Progress bytes old now s latest bodies → next_of s ≡ Some (Some (p, s'))
      → IsNowhere HoldsValid (after_piece now p) → new ≡ record now { stage = left_by now p } → IsLeft told bytes old new
  left_refused told bytes old now new s s' latest bodies p g e nowhere left = record {
    behind = s;
    reached = now;
    taken = has_taken bytes old now s latest bodies g;
    left = inr (inl (record { next = p; rest = s'; comes = e; nowhere = nowhere; left = left }));
  }

  -- what the refusal of a payload says of the whole
  pub refused_whole : (T : Type 0) {B : Type 0} (seen : B → List BodyToValidate) (bytes : List ℕ) (old now new : Standing) (s s' : State) (latest : Option (Types A)) (bodies : List BodyToValidate) (p : Piece) (e : Error A) → Progress bytes old now s latest bodies → next_of s ≡ Some (Some (p, s'))
      → Leaves (refusal T e) (after_piece now p) (left_by now p) now new → (takes_memory now.features p ≡ false → IsContent e) → (new ≡ record now { stage = left_by now p } → HasNotEnded old new) → (IsNowhere HoldsValid (after_piece now p) → Rejects bytes old) → Validates seen (refusal (Types A × B) e) bytes old new
  refused_whole T seen bytes old now new s s' latest bodies p (Refused r) g n l takes ends rejected = (rejected l.0, left_refused (Some r) bytes old now new s s' latest bodies p g n l.0 l.1, ends l.1)
  refused_whole T seen bytes old now new s s' latest bodies p (DuplicateExport name offset) g n l takes ends rejected = (rejected l.0, left_refused None bytes old now new s s' latest bodies p g n l.0 l.1, ends l.1)
  refused_whole T seen bytes old now new s s' latest bodies p (InFunction index r) g n l takes ends rejected = l
  refused_whole T seen bytes old now new s s' latest bodies p OutOfMemory g n l takes ends rejected = (
    record {
      behind = s;
      reached = now;
      taken = has_taken bytes old now s latest bodies g;
      left = inl (record { next = p; rest = s'; comes = n; reads = l.0; takes = some_taken (takes_memory now.features p) takes; fails = l.1; left = l.2 });
    },
    λ e. absurd (subst (λ (t : Standing). IsEnded t.stage) l.2 e),
  )

  given_in_code : (now now' : Standing) (p : Piece) (valid : ValidPayload A) → IsFunction valid → handed now p ≡ bodies_given valid → after_piece now p ≡ Some now' → IsInCode now'.stage
  given_in_code now now' p Ok f h a = absurd f
  given_in_code now now' p (End t) f h a = absurd f
  given_in_code now now' (CodeEntry bytes) (Func k b) f h a =
      let c = then_some (λ (g : Stage). Some (record now { stage = g })) (body_taken bytes now.stage) now' a in
      subst (λ (s : Standing). IsInCode s.stage) (same_Some (record now { stage = c.0 }) now' c.2) (with_code now.stage now.features bytes (body_seen k b) h c.0 c.1)
  given_in_code now now' (Version number kind) (Func k b) f h a = absurd cc
  given_in_code now now' (Custom name bytes) (Func k b) f h a = absurd cc
  given_in_code now now' (Counted id n bytes) (Func k b) f h a = absurd cc
  given_in_code now now' (Start x) (Func k b) f h a = absurd cc
  given_in_code now now' (DataCount n) (Func k b) f h a = absurd cc
  given_in_code now now' (CodeStart n size) (Func k b) f h a = absurd cc
  given_in_code now now' (Unknown id bytes) (Func k b) f h a = absurd cc
  given_in_code now now' parts.End (Func k b) f h a = absurd cc

  kept_in_code : (now now' : Standing) (p : Piece) (valid : ValidPayload A) → KeepsBodies p valid → handed now p ≡ bodies_given valid → after_piece now p ≡ Some now' → IsInCode now'.stage
  kept_in_code now now' p valid (inl f) h a = given_in_code now now' p valid f h a
  kept_in_code now now' p valid (inr s) h a = start_in_code now now' p s a

  -- where there is no memory for a body, or for all where the code starts, the validator stands behind that payload
  pub no_memory : (bytes : List ℕ) (old now now' : Standing) (s s' : State) (p : Piece) (latest : Option (Types A)) (bodies : List BodyToValidate) (valid : ValidPayload A)
      → Progress bytes old now s latest bodies → next_of s ≡ Some (Some (p, s')) → after_piece now p ≡ Some now' → ShowsModule now p valid → handed now p ≡ bodies_given valid → KeepsBodies p valid → IsOutOfMemory bytes old now' × HasNotEnded old now'
  no_memory bytes old now now' s s' p latest bodies valid g e a h given f =
      let more = progress-step bytes old now now' s s' p latest bodies valid g e a h given in
      let in_its_code = kept_in_code now now' p valid f given a in (
        record {
          behind = s';
          reached = now';
          taken = has_taken bytes old now' s' (latest_of latest valid) (bodies ++ bodies_given valid) more;
          left = inr (is_behind now'.stage in_its_code, refl);
        },
        λ e. absurd (not_ended now'.stage in_its_code e),
      )

  -- where the parser refuses, the validator stands where it was
  pub refused_bytes : (told : Option Refusal) → IsToldOfFormat told → (bytes : List ℕ) (old now : Standing) (s : State) (latest : Option (Types A)) (bodies : List BodyToValidate) → Progress bytes old now s latest bodies → next_of s ≡ None → HasNotEnded old now → Rejects bytes old × IsLeft told bytes old now × HasNotEnded old now
  refused_bytes told h bytes old now s latest bodies g e n = (
    rejected_bytes bytes old now s latest bodies g e,
    record { behind = s; reached = now; taken = has_taken bytes old now s latest bodies g; left = inl (e, h, refl) },
    n,
  )

  -- the parser's refusal, as it is handed on
  pub refused_format : {B : Type 0} (seen : B → List BodyToValidate) (bytes : List ℕ) (old now : Standing) (s : State) (latest : Option (Types A)) (bodies : List BodyToValidate) (e : Error A) → TellsFormat e
      → Progress bytes old now s latest bodies → next_of s ≡ None → HasNotEnded old now → Validates seen (refusal (Types A × B) e) bytes old now
  refused_format seen bytes old now s latest bodies (Refused r) h g none n = refused_bytes (Some r) h bytes old now s latest bodies g none n
  refused_format seen bytes old now s latest bodies (DuplicateExport name offset) h g none n = absurd h
  refused_format seen bytes old now s latest bodies (InFunction index r) h g none n = absurd h
  refused_format seen bytes old now s latest bodies OutOfMemory h g none n = absurd h

  -- a refusal between two offsets stands between wider ones
  pub between_wider : (a b c d : ℕ) (e : Error A) → c ≤ a → b ≤ d → StandsBetween a b e → StandsBetween c d e
  between_wider a b c d (Refused r) low high h = (omega (arith, low, h.0), omega (arith, high, h.1))
  between_wider a b c d (DuplicateExport name offset) low high h = (omega (arith, low, h.0), omega (arith, high, h.1))
  between_wider a b c d (InFunction index r) low high h = (omega (arith, low, h.0), omega (arith, high, h.1))
  between_wider a b c d OutOfMemory low high h = tt
