-- A run over whole bytes, and the validation of the bodies that it hands out, decide whether they are a valid module.
use Rattle.std.proofs.Common.{◌≡◌, refl, sym, ap, subst, ◌∙◌, ℕ, ◌≤◌, Bool, true, false, cond, ◌==◌, ◌&&◌, eqb, List, [], ◌∷◌, ◌++◌, length, Option, Some, None, append_assoc, append-nil, arith, inr}
use Rattle.std.specs.Option.{option_and_then}
use Rattle.std.specs.List.{All, flat_map, list_all}
use Rattle.std.proofs.lemmas.Bool.{eqb-true}
use Rattle.std.specs.declared.result.Result.{Result}
use Rattle.std.specs.declared.result.Result.TheVariants as results
use Rattle.wasm_spec.specs.Framing as parts
use Rattle.wasm_spec.specs.Framing.{Piece, Version, IsFramed}
use Rattle.wasm_spec.specs.Features.{Features, canonical}
use Rattle.wasm_spec.specs.Trees.{DefType}
use Rattle.wasm_spec.specs.TypeLaws.{HasNoRepetition}
use Rattle.wasm_spec_rules.specs.FeatureFlags.{features_of}
use Rattle.wasm_spec_rules.specs.IndexSpaces.{IndexSpaces, index_spaces, imported, functions_in}
use Rattle.wasm_spec_rules.specs.Sections.{each}
use Rattle.wasm_spec_rules.proofs.FramedOrder.{IsInner, AreInner, others_inner, others_follow}
use Rattle.wasm_spec_rules.proofs.Tests.{then_some}
use Rattle.wasm_readers_errors.specs.WasmReadersFeatures.declared.features.WasmFeatures.{WasmFeatures}
use Rattle.wasm_validator_types.specs.Spaces.{Spaces, no_spaces}
use Rattle.wasm_validator_type_list.specs.DefTypes.{def_types, types_of_list}
use Rattle.wasm_validator_types.specs.ShownModules.{shown_of, HoldsIds}
use Rattle.wasm_validator_types.specs.declared.shown.Types as shown
use Rattle.wasm_validator_sections.specs.WasmValidatorCore.declared.error.Error.{Error}
use Rattle.wasm_validator_sections.specs.WasmValidatorCore.declared.error.Error.TheVariants.{Refused, DuplicateExport, InFunction, OutOfMemory}
use Rattle.wasm_validator_canonical.specs.Groups.{AreValid}
use Rattle.wasm_validator_canonical.specs.TypeTotals.{AreWith}
use Rattle.wasm_validator_canonical.proofs.TypeCounts.{with_at_most}
use Rattle.wasm_validator_canonical.proofs.Sections.{added_types_are_counted}
use Rattle.wasm_validator_sections.specs.WasmValidatorCore.Answers.{TypesSoFar, HasValidTypes}
use Rattle.wasm_validator_canonical.specs.DistinctTypes.{AreApart}
use Rattle.wasm_validator_sections.specs.ModuleNotes.{nothing_noted}
use Rattle.wasm_validator_sections.specs.CodeProgress.{starting}
use Rattle.wasm_validator_states.specs.ValidatorStages.{Stage, Standing, unparsed, in_module, in_code, ended, failed, fresh, shown_at, HoldsAt, AreValidAt, HoldsValid}
use Rattle.wasm_validator_states.specs.States.{after_piece, after_version, BodyToValidate, handed, IsBeforeEnd}
use Rattle.wasm_validator_states.specs.Payloads.{Show, after_all, handed_behind, all_handed, Accepts, Rejects, IsBodyOfIts, RefusesOne, DecidesBodies, IsBehindCode, Runs, Validates}
use Rattle.wasm_validator_states.specs.ShownModules.{ShowModule}
use Rattle.wasm_validator_states.specs.PayloadVerdicts.{PayloadsDecide}
use Rattle.wasm_validator_states.specs.Verdict.{StandsApart, AcceptsModule, RefusesModule, RefusesUpToBodies, EndsModule, StopsModule, DecidesModule, DecidesAlone, HasIdsWith}
use Rattle.wasm_validator_states.proofs.AddedTypes.{section, type_space, list_after}
use Rattle.wasm_validator_states.proofs.ModuleRun.{step, is_part, are_parts, run_allowed}
use Rattle.wasm_validator_states.proofs.CodeOrder.{ranks_in_order}
use Rattle.wasm_validator_states.proofs.PieceRuns.{Place, before, at, shown_in, ends_in, ends_handed, noted_all, bodies_from, went, goes}
use Rattle.wasm_validator_states.proofs.UsedLaws.{UsedLaws}
use Rattle.wasm_validator_states.proofs.RunOfParts.{Accepted, end_of, ran, runs}
use Rattle.wasm_validator_states.proofs.KnownSections.{framed_started}
use Rattle.wasm_validator_states.proofs.TypedBodies.{exact_of_imports, typed_valid, valid_typed}
use Rattle.wasm_validator_states.proofs.ValidModules.{accepted_valid, accepted_up_to_bodies, AreTypedBodies, valid_accepted}
use Rattle.wasm_validator_states.proofs.ValidRules.{AreSmall}
use Rattle.wasm_parser.specs.Machine.{State, start, Run}
use Rattle.wasm_parser.proofs.Law.{framed_run}
use Rattle.wasm_spec_rules.specs.Parts.{bodies_of}
use Rattle.wasm_spec_rules.specs.Limits.{most_types}
use Rattle.wasm_spec_validity.specs.Modules.{IsValidUpToBodies, IsValidModule, up_to_bodies}
use Rattle.wasm_spec_validity.specs.Expressions.{expression_at}
use Rattle.std.proofs.lemmas.List.{length-append}
use Rattle.std.proofs.lemmas.Option.{same_Some}
use Rattle.wasm_validator_sections.specs.Bodies.{expected_bodies}
use Rattle.wasm_validator_type_list.proofs.GroupMatching.{all-right}

-- one of some
pub one_of : {X : Type 0} (P : X → Type 0) (xs ys rest : List X) (x : X) → xs ≡ ys ++ x ∷ rest → All P xs → P x
one_of P xs ys rest x e h = all-right P ys (x ∷ rest) (subst (All P) e h) 0 x (omega arith)

-- a refusal, as an answer of any type
abbrev pub refusal : {A : Type 0} (T : Type 0) → Error A → Result T (Error A)
refusal T e = results.Err e

-- pieces and then others
nested_all : (o : Option Standing) (ps qs : List Piece) → ((s : Standing) → after_all s (ps ++ qs) ≡ option_and_then (λ t. after_all t qs) (after_all s ps))
    → option_and_then (λ t. after_all t (ps ++ qs)) o ≡ option_and_then (λ t. after_all t qs) (option_and_then (λ t. after_all t ps) o)
nested_all None ps qs h = refl
nested_all (Some s) ps qs h = h s

all_split : (ps qs : List Piece) (s : Standing) → after_all s (ps ++ qs) ≡ option_and_then (λ t. after_all t qs) (after_all s ps)
all_split [] qs s = refl
all_split (p ∷ ps) qs s = nested_all (after_piece s p) ps qs (all_split ps qs)

-- what they hand out
handed_split : (ps qs : List Piece) (s t : Standing) → after_all s ps ≡ Some t → all_handed s (ps ++ qs) ≡ all_handed s ps ++ all_handed t qs
handed_split [] qs s t e = ap (λ u. all_handed u qs) (same_Some s t e)
handed_split (p ∷ ps) qs s t e =
    let a = then_some (λ u. after_all u ps) (after_piece s p) t e in
    ap (λ o. handed s p ++ handed_behind (λ u. all_handed u (ps ++ qs)) o) a.1
    ∙ ap (λ bs. handed s p ++ bs) (handed_split ps qs a.0 t a.2)
    ∙ sym (append_assoc (handed s p) (all_handed a.0 ps) (all_handed t qs))
    ∙ ap (λ o. (handed s p ++ handed_behind (λ u. all_handed u ps) o) ++ all_handed t qs) (sym a.1)

-- bytes are framed in one way
run_same : (ps qs : List Piece) (s : State) → Run s ps → Run s qs → ps ≡ qs
run_same [] [] s r t = refl
run_same [] (q ∷ qs) s r t = absurd (let h = sym r ∙ t.1 in cc)
run_same (p ∷ ps) [] s r t = absurd (let h = sym t ∙ r.1 in cc)
run_same (p ∷ ps) (q ∷ qs) s r t =
    let here : Piece × State = (p, r.0) in
    let there : Piece × State = (q, t.0) in
    let given : Some (Some here) ≡ Some (Some there) = sym r.1 ∙ t.1 in
    let same : here ≡ there = cc in
    let more = run_same ps qs t.0 (subst (λ (u : State). Run u ps) (ap (λ (x : Piece × State). x.1) same) r.2) t.2 in
    λ i. (same i).0 ∷ more i

framed_once : (bytes : List ℕ) (ps qs : List Piece) → IsFramed bytes ps → IsFramed bytes qs → ps ≡ qs
framed_once bytes ps qs f g = run_same ps qs (start bytes) (framed_run bytes ps f) (framed_run bytes qs g)

no_more : (front behind : List Piece) → [] ≡ front ++ parts.End ∷ behind → ⊥
no_more [] behind e = cc
no_more (x ∷ front) behind e = cc

-- what is before the only end
unique_end : (xs front behind : List Piece) → AreInner xs → xs ++ parts.End ∷ [] ≡ front ++ parts.End ∷ behind → front ≡ xs
unique_end [] [] behind i e = refl
unique_end [] (y ∷ front) behind i e = absurd (no_more front behind (let h : [] ≡ front ++ parts.End ∷ behind = cc in h))
unique_end (x ∷ xs) [] behind i e = absurd (let same : x ≡ parts.End = cc in subst IsInner same i.0)
unique_end (x ∷ xs) (y ∷ front) behind i e =
    let same : x ≡ y = cc in
    let rest : xs ++ parts.End ∷ [] ≡ front ++ parts.End ∷ behind = cc in
    λ j. sym same j ∷ unique_end xs front behind i.1 rest j

-- nothing is noted at the start of a module
abbrev at_start : Place
at_start = before nothing_noted

-- where a header begins a module
record Begins (old : Standing) (number kind : ℕ) (s : Standing) : Type 0 where
  before : TypesSoFar
  was : old.stage ≡ unparsed before
  header : Version number kind ≡ Version 1 0
  now : s ≡ at old.id old.features at_start (before, no_spaces)

begun_is : (a b : Bool) (old : Standing) (g : Stage) (s : Standing) → option_and_then (λ (h : Stage). Some (record old { stage = h })) (cond (a && b) (Some g) None) ≡ Some s → (a ≡ true) × (b ≡ true) × (record old { stage = g } ≡ s)
begun_is true true old g s e = (refl, refl, cc)
begun_is true false old g s e = absurd cc
begun_is false b old g s e = absurd cc

begin_case : (old : Standing) (number kind : ℕ) (s : Standing) (g : Stage) → old.stage ≡ g → after_version (record old { stage = g }) number (kind == 0) ≡ Some s → Begins old number kind s
begin_case old number kind s (unparsed T) w e =
    let b = begun_is (eqb number 1) (eqb kind 0) (record old { stage = unparsed T }) (in_module T no_spaces nothing_noted) s e in
    record {
      before = T;
      was = w;
      header = λ i. Version (eqb-true number 1 b.0 i) (eqb-true kind 0 b.1 i);
      now = sym b.2;
    }
begin_case old number kind s (in_module types spaces more) w e = absurd cc
begin_case old number kind s (in_code types spaces more) w e = absurd cc
begin_case old number kind s (ended types) w e = absurd cc
begin_case old number kind s failed w e = absurd cc

begins : (old : Standing) (number kind : ℕ) (s : Standing) → after_piece old (Version number kind) ≡ Some s → Begins old number kind s
begins old number kind s e = begin_case old number kind s old.stage refl e

-- the header and what is inside are before the end
front_is : (header : Piece) (xs front behind : List Piece) → AreInner xs → header ∷ (xs ++ parts.End ∷ []) ≡ front ++ parts.End ∷ behind → IsBeforeEnd header → front ≡ header ∷ xs
front_is header xs [] behind i e b = absurd (let same : header ≡ parts.End = cc in subst IsBeforeEnd same b)
front_is header xs (y ∷ front) behind i e b =
    let same : header ≡ y = cc in
    let rest : xs ++ parts.End ∷ [] ≡ front ++ parts.End ∷ behind = cc in
    λ j. sym same j ∷ unique_end xs front behind i rest j

the_same : {X : Type 0} (x y : X) → Some x ≡ Some y → x ≡ y
the_same x y e = cc

-- a run through the end, by its run inside
record RunInside (bytes : List ℕ) (old new : Standing) (pieces : List Piece) (f : IsFramed bytes pieces) : Type 0 where
  before : TypesSoFar
  was : old.stage ≡ unparsed before
  header : Version f.number f.kind ≡ Version 1 0
  last : Place
  q : TypesSoFar × Spaces
  inside : each (step old.features) (before, no_spaces) f.others ≡ Some q
  known : list_all is_part f.others ≡ true
  small : AreSmall (flat_map bodies_of f.others)
  hands : all_handed old pieces ≡ bodies_from old.features q.1 (starting q.0 q.1 (noted_all nothing_noted f.others)) (flat_map bodies_of f.others)
  reached : after_all old (Version f.number f.kind ∷ f.others) ≡ Some (at old.id old.features last q)
  after : new ≡ record old { stage = ended q.0 }

run_inside : (bytes : List ℕ) (old new : Standing) (pieces : List Piece) (f : IsFramed bytes pieces) → after_all old pieces ≡ Some new → RunInside bytes old new pieces f
run_inside bytes old new pieces f accepted =
    let header = Version f.number f.kind in
    let whole : after_all old (header ∷ (f.others ++ parts.End ∷ [])) ≡ Some new = sym (ap (after_all old) f.all) ∙ accepted in
    let first = then_some (λ s. after_all s (f.others ++ parts.End ∷ [])) (after_piece old header) new whole in
    let b = begins old f.number f.kind first.0 first.1 in
    let start : TypesSoFar × Spaces = (b.before, no_spaces) in
    let inner = others_inner bytes pieces f in
    let rest : option_and_then (λ s. after_all s (parts.End ∷ [])) (after_all (at old.id old.features at_start start) f.others) ≡ Some new =
    sym (all_split f.others (parts.End ∷ []) (at old.id old.features at_start start)) ∙ sym (ap (λ s. after_all s (f.others ++ parts.End ∷ [])) b.now) ∙ first.2 in
    let last = then_some (λ s. after_all s (parts.End ∷ [])) (after_all (at old.id old.features at_start start) f.others) new rest in
    let m = went old.id old.features f.others nothing_noted start last.0 inner last.1 in
    let q = m.q in
    let closing : Some (record old { stage = ended q.0 }) ≡ Some new = sym (ends_in old.id old.features m.last q) ∙ ap (λ s. after_all s (parts.End ∷ [])) m.there ∙ last.2 in
    let stood : record old { stage = ended q.0 } ≡ new = the_same (record old { stage = ended q.0 }) new closing in
    record {
      before = b.before;
      was = b.was;
      header = b.header;
      last = m.last;
      q = q;
      inside = m.ran;
      known = m.known;
      small = m.small;
      hands = ap (all_handed old) f.all
          ∙ ap (handed_behind (λ s. all_handed s (f.others ++ parts.End ∷ []))) first.1
          ∙ ap (λ s. all_handed s (f.others ++ parts.End ∷ [])) b.now
          ∙ handed_split f.others (parts.End ∷ []) (at old.id old.features at_start start) last.0 last.1
          ∙ ap (λ t. all_handed (at old.id old.features at_start start) f.others ++ all_handed t (parts.End ∷ [])) (sym m.there)
          ∙ ap (λ bs. all_handed (at old.id old.features at_start start) f.others ++ bs) (ends_handed old.id old.features m.last q)
          ∙ append-nil (all_handed (at old.id old.features at_start start) f.others)
          ∙ m.hands;
      reached = ap (option_and_then (λ s. after_all s f.others)) first.1 ∙ ap (λ s. after_all s f.others) b.now ∙ last.1 ∙ ap Some (sym m.there);
      after = sym stood;
    }

-- and by what its types show
record RunsInside {A : Type 0} (old : Standing) (t : shown.Types A) (q : TypesSoFar × Spaces) : Type 0 where
  valid : HasValidTypes old.features q
  list : q.0 ≡ types_of_list (shown_of t).list
  spaces : q.1 ≡ (shown_of t).spaces
  same_id : (shown_of t).id ≡ old.id
  same_features : (shown_of t).features ≡ features_of old.features
  once : canonical (features_of old.features) ≡ true → HasNoRepetition (types_of_list (shown_of t).list)

-- no type has two ids in what is shown
same_once : {A : Type 0} (t : shown.Types A) (old s : Standing) → old.features ≡ s.features → Show s t → canonical (features_of old.features) ≡ true → HasNoRepetition (types_of_list (shown_of t).list)
same_once t old s f h e =
    let list = (shown_of t).list in
    let mode : list.is_canonical ≡ true = h.mode ∙ ap (λ (g : WasmFeatures). canonical (features_of g)) (sym f) ∙ e in
    subst (λ (c : Bool). HasNoRepetition (def_types c list.groups)) (sym mode) (h.once mode).types

runs_inside : {A : Type 0} (bytes : List ℕ) (old new : Standing) (t : shown.Types A) (a : Accepts bytes old new t) (r : RunInside bytes old new a.pieces a.framed) → RunsInside old t r.q
runs_inside bytes old new t a r =
    let f = a.framed in
    let q = r.q in
    let header = Version f.number f.kind in
    let inner = others_inner bytes a.pieces f in
    let split : header ∷ f.others ≡ a.front = sym (front_is header f.others a.front a.behind inner (sym f.all ∙ a.split) tt) in
    let at_end : at old.id old.features r.last q ≡ a.before_end = the_same (at old.id old.features r.last q) a.before_end (sym r.reached ∙ ap (after_all old) split ∙ a.reached) in
    let seen : Some q ≡ Some (types_of_list (shown_of t).list, (shown_of t).spaces) = sym (shown_in r.last q) ∙ ap (λ (s : Standing). shown_at s.stage) at_end ∙ a.shown.held in
    let shown_pair : TypesSoFar × Spaces = (types_of_list (shown_of t).list, (shown_of t).spaces) in
    let pair : q ≡ shown_pair = the_same q shown_pair seen in
    record {
      valid = subst (AreValid (features_of old.features)) (sym (λ i. (pair i).0)) (subst (λ (s : Standing). AreValid (features_of s.features) (types_of_list (shown_of t).list)) (sym at_end) a.shown.valid);
      list = λ i. (pair i).0;
      spaces = λ i. (pair i).1;
      same_id = a.shown.same_id ∙ sym (ap (λ (s : Standing). s.id) at_end);
      same_features = a.shown.same_features ∙ sym (ap (λ (s : Standing). features_of s.features) at_end);
      once = λ e. same_once t old a.before_end (ap (λ (s : Standing). s.features) at_end) a.shown e;
    }

-- what the lists at the end show
module _ (features : WasmFeatures) (T : TypesSoFar) (ps : List Piece) (a : Accepted features T ps) where
  abbrev F : Features
  F = features_of features

  abbrev pub end_space : List DefType
  end_space = type_space features T a.parts.groups a.types

  abbrev pub end_spaces : IndexSpaces
  end_spaces = index_spaces end_space a.parts

  pub ends_shown : (canonical F ≡ true → HasNoRepetition (list_after features T a.parts.groups a.types)) → ShowModule F (end_of features T ps a).0 (end_of features T ps a).1 end_spaces a.parts
  ends_shown once = record {
    types = (section features T a.parts.groups a.types).stand;
    one_id = once;
    functions = refl;
    exactly = refl;
    tables = refl;
    memories = refl;
    globals = refl;
    tags = refl;
    imports = refl;
    exports = refl;
    elements = refl;
  }

-- what is accepted is a valid module, and its types show it
pub accepts_valid : {A : Type 0} → UsedLaws → (bytes : List ℕ) (old new : Standing) (t : shown.Types A) → StandsApart old → (a : Accepts bytes old new t) → All IsBodyOfIts (all_handed old a.pieces) → AcceptsModule bytes old new t
accepts_valid laws bytes old new t apart a bodies =
    let f = a.framed in
    let r = run_inside bytes old new a.pieces f a.accepted in
    let seen = runs_inside bytes old new t a r in
    let F = features_of old.features in
    let ps = f.others in
    let parts = are_parts ps r.known (others_inner bytes a.pieces f) in
    let allowed = run_allowed old.features ps (r.before, no_spaces) r.q parts r.inside in
    let begun_apart : AreApart (canonical F) r.before = subst (HoldsAt (AreApart (canonical F))) r.was apart in
    let run = ran laws old.features r.before ps parts (others_follow bytes a.pieces f) allowed begun_apart r.small r.q seen.valid r.inside in
    let acc = run.accepted in
    let C = end_spaces old.features r.before ps acc in
    let there : end_of old.features r.before ps acc ≡ (types_of_list (shown_of t).list, (shown_of t).spaces) = run.ends ∙ (λ i. (seen.list i, seen.spaces i)) in
    let once : canonical F ≡ true → HasNoRepetition (end_of old.features r.before ps acc).0 = λ e. subst HasNoRepetition (sym (λ i. (there i).0)) (seen.once e) in
    let held = section old.features r.before acc.parts.groups acc.types in
    let given : All IsBodyOfIts (bodies_from old.features (end_of old.features r.before ps acc).1 (starting (end_of old.features r.before ps acc).0 (end_of old.features r.before ps acc).1 (noted_all nothing_noted ps)) (flat_map bodies_of ps)) =
    subst (λ (x : TypesSoFar × Spaces). All IsBodyOfIts (bodies_from old.features x.1 (starting x.0 x.1 (noted_all nothing_noted ps)) (flat_map bodies_of ps))) (sym run.ends) (subst (All IsBodyOfIts) r.hands bodies) in
    record {
      module_valid = accepted_valid old.features r.before bytes a.pieces f r.header parts allowed acc (valid_typed laws old.features r.before ps parts (others_follow bytes a.pieces f) allowed begun_apart acc given);
      shows = subst (λ (x : TypesSoFar × Spaces). ShowModule F x.0 x.1 C acc.parts) there (ends_shown old.features r.before ps acc once);
      same_id = seen.same_id;
      same_features = seen.same_features;
      before = r.before;
      began = r.was;
      more = held.more;
      kept = sym (λ i. (there i).0) ∙ held.front;
      own_ids = λ own. sym (λ i. (there i).1.types) ∙ held.own_ids own;
      own_types = λ own. ap length (sym (λ i. (there i).0)) ∙ held.grows own;
      after = r.after ∙ ap (λ (xs : TypesSoFar). record old { stage = ended xs }) seen.list;
    }

-- what is accepted is a valid module up to its bodies, and leaves no more types than its own behind those before it
ends_up_to_bodies : {A : Type 0} → UsedLaws → (bytes : List ℕ) (old new : Standing) (t : shown.Types A) → StandsApart old → Accepts bytes old new t → EndsModule bytes old new
ends_up_to_bodies laws bytes old new t apart a =
    let f = a.framed in
    let r = run_inside bytes old new a.pieces f a.accepted in
    let seen = runs_inside bytes old new t a r in
    let F = features_of old.features in
    let ps = f.others in
    let parts = are_parts ps r.known (others_inner bytes a.pieces f) in
    let allowed = run_allowed old.features ps (r.before, no_spaces) r.q parts r.inside in
    let begun_apart : AreApart (canonical F) r.before = subst (HoldsAt (AreApart (canonical F))) r.was apart in
    let run = ran laws old.features r.before ps parts (others_follow bytes a.pieces f) allowed begun_apart r.small r.q seen.valid r.inside in
    let acc = run.accepted in
    let held = section old.features r.before acc.parts.groups acc.types in
    let listed : r.q.0 ≡ r.before ++ held.more = sym (ap (λ (x : TypesSoFar × Spaces). x.0) run.ends) ∙ held.front in
    let counted = added_types_are_counted F r.before acc.parts.groups acc.types.end begun_apart acc.types.ran acc.types.valid held.section in
    record {
      module_valid = accepted_up_to_bodies old.features r.before bytes a.pieces f r.header parts allowed acc;
      before = r.before;
      began = r.was;
      more = held.more;
      counted = subst (λ (us : TypesSoFar). AreWith (canonical F) us r.before held.section.types) held.front counted;
      after = r.after ∙ ap (λ (xs : TypesSoFar). record old { stage = ended xs }) listed;
    }

-- The payloads of whole bytes, all accepted, are those of a valid module, where the bodies that they hand out are valid.
run_valid : UsedLaws → (bytes : List ℕ) (old new : Standing) → StandsApart old → (pieces : List Piece) → IsFramed bytes pieces → after_all old pieces ≡ Some new → HoldsValid new → All IsBodyOfIts (all_handed old pieces) → IsValidModule (features_of old.features) bytes
run_valid laws bytes old new apart pieces f accepted valid bodies =
    let r = run_inside bytes old new pieces f accepted in
    let ps = f.others in
    let parts = are_parts ps r.known (others_inner bytes pieces f) in
    let follows = others_follow bytes pieces f in
    let allowed = run_allowed old.features ps (r.before, no_spaces) r.q parts r.inside in
    let begun_apart : AreApart (canonical (features_of old.features)) r.before = subst (HoldsAt (AreApart (canonical (features_of old.features)))) r.was apart in
    let run = ran laws old.features r.before ps parts follows allowed begun_apart r.small r.q (subst HoldsValid r.after valid) r.inside in
    let given : All IsBodyOfIts (bodies_from old.features (end_of old.features r.before ps run.accepted).1 (starting (end_of old.features r.before ps run.accepted).0 (end_of old.features r.before ps run.accepted).1 (noted_all nothing_noted ps)) (flat_map bodies_of ps)) =
    subst (λ (x : TypesSoFar × Spaces). All IsBodyOfIts (bodies_from old.features x.1 (starting x.0 x.1 (noted_all nothing_noted ps)) (flat_map bodies_of ps))) (sym run.ends) (subst (All IsBodyOfIts) r.hands bodies) in
    accepted_valid old.features r.before bytes pieces f r.header parts allowed run.accepted (valid_typed laws old.features r.before ps parts follows allowed begun_apart run.accepted given)

-- there are as many bodies as functions that are defined
few_enough : UsedLaws → (features : WasmFeatures) (T : TypesSoFar) (bytes : List ℕ) (pieces : List Piece) (f : IsFramed bytes pieces) (a : Accepted features T f.others) → length (flat_map bodies_of f.others) ≤ expected_bodies (end_of features T f.others a).1
few_enough laws features T bytes pieces f a =
    let many = laws.as_many (features_of features).compact_imports expression_at bytes pieces f a.parts a.has in
    let same = ap length (a.has).bodies in
    let exact = exact_of_imports (a.parts).imports in
    let all = length-append (imported functions_in (a.parts).imports) (a.parts).functions in
    omega (arith, many, same, exact, all)

-- a valid module has an accepted run, and the bodies that it hands out are valid
begins_at : (old : Standing) (T : TypesSoFar) (number kind : ℕ) → old.stage ≡ unparsed T → Version number kind ≡ Version 1 0 → after_piece old (Version number kind) ≡ Some (at old.id old.features at_start (T, no_spaces))
begins_at old T number kind w e = ap (after_piece old) e ∙ ap (λ (g : Stage). after_version (record old { stage = g }) 1 true) w

record RunsThrough (old : Standing) (pieces : List Piece) (Typed : Type 0) : Type 0 where
  new : Standing
  through : after_all old pieces ≡ Some new
  valid : HoldsValid new
  bodies : Typed → All IsBodyOfIts (all_handed old pieces)

valid_runs : UsedLaws → (bytes : List ℕ) (old : Standing) → HoldsValid old → StandsApart old → (T : TypesSoFar) → old.stage ≡ unparsed T → (m : IsValidUpToBodies (features_of old.features) bytes) → HasIdsWith (features_of old.features) T m.well_formed.types.types
    → RunsThrough old m.well_formed.pieces (AreTypedBodies old.features T bytes m)
valid_runs laws bytes old valid apart T w m room =
    let F = features_of old.features in
    let v = m.well_formed in
    let f = v.framed in
    let ps = f.others in
    let begun_apart = subst (HoldsAt (AreApart (canonical F))) w apart in
    let a = valid_accepted old.features T bytes begun_apart (subst (AreValidAt old.features) w valid) m room in
    let acc = a.accepted in
    let start : TypesSoFar × Spaces = (T, no_spaces) in
    let q = end_of old.features T ps acc in
    let follows = others_follow bytes v.pieces f in
    let inside = runs laws old.features T ps a.parts follows a.allowed begun_apart acc in
    let inner = others_inner bytes v.pieces f in
    let many : length (flat_map bodies_of ps) ≤ expected_bodies q.1 = few_enough laws old.features T bytes v.pieces f acc in
    let through = goes old.id old.features ps nothing_noted start q inner (ranks_in_order ps follows) (framed_started bytes v.pieces f) (subst AreSmall (sym (acc.has).bodies) (acc.others).bodies) many inside in
    let run = through.1 in
    let went_so = went old.id old.features ps nothing_noted start (at old.id old.features through.0 q) inner run in
    let same_end : went_so.q ≡ q = same_Some went_so.q q (sym went_so.ran ∙ inside) in
    let begins = begins_at old T f.number f.kind w a.header in
    let whole : all_handed old v.pieces ≡ bodies_from old.features q.1 (starting q.0 q.1 (noted_all nothing_noted ps)) (flat_map bodies_of ps) =
    ap (all_handed old) f.all
    ∙ ap (handed_behind (λ s. all_handed s (ps ++ parts.End ∷ []))) begins
    ∙ handed_split ps (parts.End ∷ []) (at old.id old.features at_start start) (at old.id old.features through.0 q) run
    ∙ ap (λ bs. all_handed (at old.id old.features at_start start) ps ++ bs) (ends_handed old.id old.features through.0 q)
    ∙ append-nil (all_handed (at old.id old.features at_start start) ps)
    ∙ went_so.hands
    ∙ ap (λ (x : TypesSoFar × Spaces). bodies_from old.features x.1 (starting x.0 x.1 (noted_all nothing_noted ps)) (flat_map bodies_of ps)) same_end in
    record {
      new = record old { stage = ended q.0 };
      through = ap (after_all old) f.all
          ∙ ap (option_and_then (λ s. after_all s (ps ++ parts.End ∷ []))) begins
          ∙ all_split ps (parts.End ∷ []) (at old.id old.features at_start start)
          ∙ ap (option_and_then (λ s. after_all s (parts.End ∷ []))) run
          ∙ ends_in old.id old.features through.0 q;
      valid = (acc.types).valid;
      bodies = λ typed. subst (All IsBodyOfIts) (sym whole) (typed_valid laws old.features T ps a.parts follows a.allowed begun_apart acc (a.bodies typed));
    }

-- what has no accepted run is no valid module
rejects_up_to_bodies : UsedLaws → (bytes : List ℕ) (old : Standing) → HoldsValid old → StandsApart old → Rejects bytes old → RefusesUpToBodies bytes old
rejects_up_to_bodies laws bytes old valid apart rejects T w m room =
    let r = valid_runs laws bytes old valid apart T w m room in
    rejects m.well_formed.pieces m.well_formed.framed r.new r.through r.valid

-- nor is one whose bodies aren't valid
bodies_refuse : UsedLaws → (bytes : List ℕ) (old : Standing) → HoldsValid old → StandsApart old → (pieces : List Piece) → IsFramed bytes pieces → (All IsBodyOfIts (all_handed old pieces) → ⊥) → RefusesModule bytes old
bodies_refuse laws bytes old valid apart pieces f wrong T w m room =
    let r = valid_runs laws bytes old valid apart T w (up_to_bodies m) room in
    wrong (subst (λ (ps : List Piece). All IsBodyOfIts (all_handed old ps)) (framed_once bytes m.well_formed.pieces pieces m.well_formed.framed f) (r.bodies m.typed.bodies))

-- payload by payload
pub decide_payloads : UsedLaws → PayloadsDecide
decide_payloads laws bytes old valid apart = (
  λ a. run_valid laws bytes old a.new apart a.pieces a.framed a.accepted a.valid a.bodies,
  λ before was m room.
      let r = valid_runs laws bytes old valid apart before was (up_to_bodies m) room in
      record { pieces = m.well_formed.pieces; framed = m.well_formed.framed; new = r.new; accepted = r.through; valid = r.valid; bodies = r.bodies m.typed.bodies },
)

-- no module has more types than a list may hold
few_alone : (features : WasmFeatures) (ds : List DefType) → length ds ≤ most_types → HasIdsWith (features_of features) [] ds
few_alone features ds few = let all = with_at_most (canonical (features_of features)) [] ds in omega (arith, all, few)

room_alone : (features : WasmFeatures) (id : ℕ) (bytes : List ℕ) → RefusesModule bytes (fresh id features) → IsValidModule (features_of features) bytes → ⊥
room_alone features id bytes h m = let few = m.well_formed.rules.limits.types in h [] refl m (few_alone features m.well_formed.types.types few)

room_up_alone : (features : WasmFeatures) (id : ℕ) (bytes : List ℕ) → RefusesUpToBodies bytes (fresh id features) → IsValidUpToBodies (features_of features) bytes → ⊥
room_up_alone features id bytes h m = let few = m.well_formed.rules.limits.types in h [] refl m (few_alone features m.well_formed.types.types few)

-- the answers
module _ {A : Type 0} where
  -- where a payload, or what follows the payloads, was refused
  pub decides_refusal : {B : Type 0} (seen : B → List BodyToValidate) → UsedLaws → (bytes : List ℕ) (old new : Standing) (e : Error A) → HoldsValid old → StandsApart old → Validates seen (results.Err e) bytes old new → DecidesModule (refusal (shown.Types A) e) bytes old new
  decides_refusal seen laws bytes old new (Refused r) valid apart v = (rejects_up_to_bodies laws bytes old valid apart v.0, v.1)
  decides_refusal seen laws bytes old new (DuplicateExport name offset) valid apart v = (rejects_up_to_bodies laws bytes old valid apart v.0, v.1)
  decides_refusal seen laws bytes old new (InFunction index r) valid apart v = absurd v
  decides_refusal seen laws bytes old new OutOfMemory valid apart v = v.0

  pub stops : {B : Type 0} (seen : B → List BodyToValidate) → UsedLaws → (bytes : List ℕ) (old new : Standing) (e : Error A) → HoldsValid old → StandsApart old → Validates seen (results.Err e) bytes old new → StopsModule (refusal (shown.Types A) e) bytes old new
  stops seen laws bytes old new (Refused r) valid apart v = (rejects_up_to_bodies laws bytes old valid apart v.0, v.2)
  stops seen laws bytes old new (DuplicateExport name offset) valid apart v = (rejects_up_to_bodies laws bytes old valid apart v.0, v.2)
  stops seen laws bytes old new (InFunction index r) valid apart v = v
  stops seen laws bytes old new OutOfMemory valid apart v = v.1

  -- where all payloads were accepted
  pub ends : UsedLaws → (bytes : List ℕ) (old new : Standing) (t : shown.Types A) (bodies : List BodyToValidate) → StandsApart old → Runs bytes old new t bodies → EndsModule bytes old new
  ends laws bytes old new t bodies apart ran = ends_up_to_bodies laws bytes old new t apart ran.accepts

  -- where all payloads were accepted, and all bodies
  pub decides_whole : UsedLaws → (bytes : List ℕ) (old new : Standing) (t : shown.Types A) (bodies : List BodyToValidate) → StandsApart old → Runs bytes old new t bodies → All IsBodyOfIts bodies → AcceptsModule bytes old new t
  decides_whole laws bytes old new t bodies apart r h = accepts_valid laws bytes old new t apart r.accepts (subst (All IsBodyOfIts) (sym r.hands_out) h)

  -- where a body was refused, or memory for it
  ended_stage : (bytes : List ℕ) (old new : Standing) (t : shown.Types A) → Accepts bytes old new t → IsBehindCode new.stage
  ended_stage bytes old new t a = let r = run_inside bytes old new a.pieces a.framed a.accepted in subst (λ (s : Standing). IsBehindCode s.stage) (sym r.after) tt

  pub decides_body : UsedLaws → (bytes : List ℕ) (old new : Standing) (t : shown.Types A) (bodies : List BodyToValidate) (e : Error A) → HoldsValid old → StandsApart old → Runs bytes old new t bodies → DecidesBodies {T = Unit {0}} bodies (results.Err e) → DecidesModule (refusal (shown.Types A) e) bytes old new
  decides_body laws bytes old new t bodies (Refused r) valid apart ran wrong = absurd wrong
  decides_body laws bytes old new t bodies (DuplicateExport name offset) valid apart ran wrong = absurd wrong
  decides_body laws bytes old new t bodies (InFunction index r) valid apart ran wrong = (
    bodies_refuse laws bytes old valid apart ran.accepts.pieces ran.accepts.framed
        (λ all. wrong.invalid (one_of IsBodyOfIts bodies wrong.before wrong.behind wrong.body wrong.split (subst (All IsBodyOfIts) ran.hands_out all))),
    (
      record { behind = (ran.ended).behind; reached = new; taken = (ran.ended).taken; left = inr (inr ((ran.ended).none, refl)) },
      record {
        pieces = ran.accepts.pieces;
        framed = ran.accepts.framed;
        one = subst (λ (bs : List BodyToValidate). RefusesOne bs index) (sym ran.hands_out) wrong;
      },
    ),
  )
  decides_body laws bytes old new t bodies OutOfMemory valid apart ran wrong =
      record { behind = (ran.ended).behind; reached = new; taken = (ran.ended).taken; left = inr (ended_stage bytes old new t ran.accepts, refl) }

  -- the list has each id of a module that was accepted
  pub accepts-ids : (bytes : List ℕ) (old new : Standing) (t : shown.Types A) (bodies : List BodyToValidate) → Runs bytes old new t bodies → HoldsIds (shown_of t)
  accepts-ids bytes old new t bodies r = r.accepts.shown.ids

  pub decides_alone : (bytes : List ℕ) (id : ℕ) (features : WasmFeatures) (new : Standing) (r : Result (shown.Types A) (Error A)) → DecidesModule r bytes (fresh id features) new → DecidesAlone r bytes id features
  decides_alone bytes id features new (results.Ok t) v = (new, v)
  decides_alone bytes id features new (results.Err (Refused e)) v = (room_up_alone features id bytes v.0, (new, v.1))
  decides_alone bytes id features new (results.Err (DuplicateExport name offset)) v = (room_up_alone features id bytes v.0, (new, v.1))
  decides_alone bytes id features new (results.Err (InFunction index r)) v = (room_alone features id bytes v.0, (new, v.1))
  decides_alone bytes id features new (results.Err OutOfMemory) v = tt
