-- The types of a module as far as they have been read, and what groups behind them change.
use Rattle.std.proofs.Common.{◌≡◌, refl, sym, ap, subst, ◌∙◌, ℕ, zero, suc, ◌-◌, ◌<◌, ◌≤◌, false, true, List, [], ◌∷◌, ◌++◌, length, slice_get, Option, Some, arith, append_assoc, append-nil, length-append}
use Rattle.std.specs.Option.{option_and_then}
use Rattle.std.specs.List.{All}
use Rattle.std.proofs.lemmas.List.Elements.{All-nil}
use Rattle.std.proofs.lemmas.Option.{same_Some}
use Rattle.wasm_spec.specs.Syntax.{Table, Global, Rec, map_rec}
use Rattle.wasm_spec.specs.References.{refs_heap, refs_val}
use Rattle.wasm_spec.specs.Features.{Features, canonical}
use Rattle.wasm_spec.specs.Trees.{DefType, declared}
use Rattle.wasm_spec.specs.Closing.{positions}
use Rattle.wasm_spec.specs.GroupRules.{IsValidType}
use Rattle.wasm_spec.specs.TypeLaws.{HasNoRepetition}
use Rattle.wasm_spec.proofs.Closing.{front_of_type_space, slice_get-append_left}
use Rattle.wasm_spec_rules.specs.IndexSpaces.{IndexSpaces, IsFunctionType, IsRefInRange, IsValInRange}
use Rattle.wasm_spec_rules.specs.Parts.{Parts}
use Rattle.wasm_spec_rules.specs.Limits.{most_types, most_functions, most_tags}
use Rattle.wasm_spec_rules.proofs.Tests.{then_some}
use Rattle.wasm_readers_types.specs.WasmReadersValues.declared.indices.UnpackedIndex.{UnpackedIndex}
use Rattle.wasm_validator_type_groups.specs.Elements.{numbers_from}
use Rattle.wasm_validator_type_list.proofs.Lookups.{group_found}
use Rattle.wasm_validator_states.specs.WasmValidatorCanonical.Groups.{placed, AreValid, with_written}
use Rattle.wasm_validator_states.specs.WasmValidatorCanonical.Indices.{use_of_index}
use Rattle.wasm_validator_states.specs.WasmValidatorCanonical.Sections.{written, with_all_written, StandsFor, HoldsSection}
use Rattle.wasm_validator_states.proofs.WasmValidatorCanonical.DistinctLists.{added_types_stay_apart, apart_types_are_distinct}
use Rattle.wasm_validator_states.proofs.WasmValidatorCanonical.KeptTypes.{new_ids}
use Rattle.wasm_validator_states.proofs.WasmValidatorCanonical.Steps.{is_held}
use Rattle.wasm_validator_states.proofs.WasmValidatorCanonical.Sections.{added_sections_are_valid}
use Rattle.wasm_validator_types.specs.Spaces.{Spaces}
use Rattle.wasm_validator_states.specs.WasmValidatorSections.WasmValidatorChecks.Laws.{Stand}
use Rattle.wasm_validator_states.specs.WasmValidatorSections.WasmValidatorCore.Answers.{TypesSoFar}
use Rattle.wasm_validator_states.specs.WasmValidatorSections.WasmLawsCore.ModuleParts.{listed}
use Rattle.wasm_validator_states.specs.WasmValidatorSections.WasmLawsModules.Contexts.{HasOwnIds, AreModuleTypes}
use Rattle.wasm_validator_states.proofs.WasmValidatorSections.WasmLawsCore.AddedItems.{for_each}
use Rattle.wasm_validator_states.proofs.WasmValidatorSections.WasmLawsCore.IndexRanges.{tables-agree, globals-agree, zip-length}
use Rattle.wasm_validator_states.proofs.WasmValidatorSections.WasmLawsModules.SectionTypes.{sections_give_module_types}
use Rattle.wasm_laws_sections.specs.StateInvariants.{AreHeld, HasTypes, ShowsIndices, ShowsTables, ShowsGlobals, Shows}

-- what the types of a module are known to be
module _ (F : Features) (us : TypesSoFar) (ids : List ℕ) (types : List DefType) (h : HasTypes F us ids types) where
  pub stand : Stand (canonical F) us ids types
  stand = subst (λ (ts : List DefType). Stand (canonical F) us ids ts) h.are h.holds.stand

  pub as_many : length ids ≡ length types
  as_many = zip-length (StandsFor (canonical F) us) ids types stand

  pub are_held : AreHeld F us
  are_held = record { valid = h.valid; apart = added_types_stay_apart F h.before h.groups (us, ids) h.apart h.added }

  pub once : HasNoRepetition us
  once = apart_types_are_distinct (canonical F) us (added_types_stay_apart F h.before h.groups (us, ids) h.apart h.added)

  pub module_types : AreModuleTypes F types
  module_types = subst (AreModuleTypes F) h.are (sections_give_module_types F h.groups h.holds.section)

  pub own_ids : HasOwnIds F ids
  own_ids = λ off. (
    length h.before,
    h.holds.own_ids off ∙ ap (numbers_from (length h.before)) (sym (zip-length (StandsFor (canonical F) us) ids h.holds.section.types h.holds.stand)),
  )

-- a module of which nothing has been read
pub no_types : (F : Features) (us : TypesSoFar) → AreHeld F us → HasTypes F us [] []
no_types F us h = record {
  before = us;
  apart = h.apart;
  groups = [];
  added = refl;
  holds = record {
    section = record { types = []; gives = refl; valid = All-nil (IsValidType F declared) };
    stand = tt;
    more = [];
    front = sym (append-nil us);
    own_ids = λ off. refl;
    grows = λ off. omega arith;
  };
  are = refl;
  valid = h.valid;
  few = omega arith;
}

-- groups behind others
behind_groups : (F : Features) (gs hs : List (Rec ℕ)) (us : TypesSoFar) (ids : List ℕ) (q r : TypesSoFar × List ℕ)
    → with_all_written F us ids gs ≡ Some q → with_all_written F q.0 q.1 hs ≡ Some r → with_all_written F us ids (gs ++ hs) ≡ Some r
behind_groups F [] hs us ids q r e f = ap (λ (p : TypesSoFar × List ℕ). with_all_written F p.0 p.1 hs) (same_Some (us, ids) q e) ∙ f
behind_groups F (g ∷ gs) hs us ids q r e f =
    let x = then_some (λ (p : TypesSoFar × List ℕ). with_all_written F p.0 p.1 gs) (with_written F us ids (map_rec written g)) q e in
    ap (option_and_then (λ (p : TypesSoFar × List ℕ). with_all_written F p.0 p.1 (gs ++ hs))) x.1 ∙ behind_groups F gs hs x.0.0 x.0.1 q r x.2 f

-- ids come behind those that are there
ids_behind : (F : Features) (us : TypesSoFar) (ids : List ℕ) (g : Rec UnpackedIndex) (r : TypesSoFar × List ℕ) → with_written F us ids g ≡ Some r → (more : List ℕ) × (r.1 ≡ ids ++ more)
ids_behind F us ids g r e =
    let h = is_held F us ids g r e in
    let ds = positions (placed (canonical F) (length us) h.tree) 0 g.types in
    let n = new_ids us ids ds (canonical F) in
    (numbers_from n.start (length ds), ap (λ (p : TypesSoFar × List ℕ). p.1) (sym h.is) ∙ n.ids_are)

all_ids_behind : (F : Features) (gs : List (Rec ℕ)) (us : TypesSoFar) (ids : List ℕ) (r : TypesSoFar × List ℕ) → with_all_written F us ids gs ≡ Some r → (more : List ℕ) × (r.1 ≡ ids ++ more)
all_ids_behind F [] us ids r e = ([], ap (λ (p : TypesSoFar × List ℕ). p.1) (sym (same_Some (us, ids) r e)) ∙ sym (append-nil ids))
all_ids_behind F (g ∷ gs) us ids r e =
    let x = then_some (λ (p : TypesSoFar × List ℕ). with_all_written F p.0 p.1 gs) (with_written F us ids (map_rec written g)) r e in
    let here = ids_behind F us ids (map_rec written g) x.0 x.1 in
    let later = all_ids_behind F gs x.0.0 x.0.1 r x.2 in
    (here.0 ++ later.0, later.1 ∙ ap (λ xs. xs ++ later.0) here.1 ∙ append_assoc ids here.0 later.0)

-- The types of a module with more groups: those that it had, and others behind.
pub record Grows (F : Features) (ids : List ℕ) (ts : List DefType) (vs : TypesSoFar) (xs : List ℕ) : Type 0 where
  pub new_ids : List ℕ
  pub new_types : List DefType
  pub ids_are : xs ≡ ids ++ new_ids
  pub has : HasTypes F vs xs (ts ++ new_types)

pub grown : (F : Features) (us : TypesSoFar) (ids : List ℕ) (types : List DefType) → HasTypes F us ids types → (gs : List (Rec ℕ)) (vs : TypesSoFar) (xs : List ℕ)
    → with_all_written F us ids gs ≡ Some (vs, xs) → AreValid F vs → length xs ≤ most_types → Grows F ids types vs xs
grown F us ids types h gs vs xs e valid few =
    let all = h.groups ++ gs in
    let added : with_all_written F h.before [] all ≡ Some (vs, xs) = behind_groups F h.groups gs h.before [] (us, ids) (vs, xs) h.added e in
    let holds : HoldsSection F h.before all (vs, xs) = added_sections_are_valid F h.before all (vs, xs) added valid in
    let front = front_of_type_space F h.groups gs holds.section.types holds.section.gives in
    let same : front.front ≡ types = same_Some front.front h.holds.section.types (sym front.gives ∙ h.holds.section.gives) ∙ h.are in
    let behind = all_ids_behind F gs us ids (vs, xs) e in
    record {
      new_ids = behind.0;
      new_types = front.rest;
      ids_are = behind.1;
      has = record {
        before = h.before;
        apart = h.apart;
        groups = all;
        added = added;
        holds = holds;
        are = front.is ∙ ap (λ (ts : List DefType). ts ++ front.rest) same;
        valid = valid;
        few = few;
      };
    }

-- an index of a type that was there
listed_grows : (ids more : List ℕ) (x : ℕ) → x < length ids → listed ids x ≡ listed (ids ++ more) x
listed_grows ids more x below =
    let g = group_found ids x below in
    let there : slice_get (ids ++ more) x ≡ Some g.0 = slice_get-append_left ids more x below ∙ g.1 in
    ap (λ (o : Option ℕ). use_of_index o (x - length ids)) g.1 ∙ sym (ap (λ (o : Option ℕ). use_of_index o (x - length (ids ++ more))) there)

function_grows : (types more : List DefType) (x : ℕ) → IsFunctionType types x → IsFunctionType (types ++ more) x
function_grows [] more x h = absurd (let z : false ≡ true = h in cc)
function_grows (d ∷ ds) more zero h = h
function_grows (d ∷ ds) more (suc x) h = function_grows ds more x h

module _ (types more : List DefType) where
  below_grows : (xs : List ℕ) → All (λ x. x < length types) xs → All (λ x. x < length (types ++ more)) xs
  below_grows xs h = for_each (λ x. x < length types) (λ x. x < length (types ++ more)) xs (λ x b. let longer = length-append types more in omega (arith, b, longer)) h

  indices_grow : (most : ℕ) (xs ys : List ℕ) → ShowsIndices most types xs ys → ShowsIndices most (types ++ more) xs ys
  indices_grow most xs ys h = record { same = h.same; of_functions = for_each (IsFunctionType types) (IsFunctionType (types ++ more)) ys (function_grows types more) h.of_functions; few = h.few }

  module _ (ids new : List ℕ) (many : length ids ≡ length types) where
    agree : (x : ℕ) → x < length types → listed ids x ≡ listed (ids ++ new) x
    agree x b = listed_grows ids new x (omega (arith, b, many))

    tables_grow : (F : Features) (xs : List (Table UnpackedIndex)) (ys : List (Table ℕ)) → ShowsTables F ids types xs ys → ShowsTables F (ids ++ new) (types ++ more) xs ys
    tables_grow F xs ys h = record {
      same = h.same ∙ tables-agree (listed ids) (listed (ids ++ new)) (length types) agree ys h.in_range;
      in_range = for_each (λ (t : Table ℕ). IsRefInRange types t.element) (λ (t : Table ℕ). IsRefInRange (types ++ more) t.element) ys (λ t b. below_grows (refs_heap t.element.heap) b) h.in_range;
      few = h.few;
    }

    globals_grow : (xs : List (Global UnpackedIndex)) (ys : List (Global ℕ)) → ShowsGlobals ids types xs ys → ShowsGlobals (ids ++ new) (types ++ more) xs ys
    globals_grow xs ys h = record {
      same = h.same ∙ globals-agree (listed ids) (listed (ids ++ new)) (length types) agree ys h.in_range;
      in_range = for_each (λ (g : Global ℕ). IsValInRange types g.content) (λ (g : Global ℕ). IsValInRange (types ++ more) g.content) ys (λ g b. below_grows (refs_val g.content) b) h.in_range;
      few = h.few;
    }

-- the lists of a module, with more types
pub types_shown : (F : Features) (us : TypesSoFar) (m : Spaces) (C : IndexSpaces) (parts : Parts) → Shows F us m C parts → (vs : TypesSoFar) (xs : List ℕ) (g : Grows F m.types C.types vs xs)
    → Shows F vs (record m { types = xs }) (record C { types = C.types ++ g.new_types }) parts
types_shown F us m C parts h vs xs g =
    let many = as_many F us m.types C.types h.types in
    record {
      types = g.has;
      functions = indices_grow C.types g.new_types most_functions m.functions C.functions h.functions;
      tables = subst (λ (ids : List ℕ). ShowsTables F ids (C.types ++ g.new_types) m.tables C.tables) (sym g.ids_are) (tables_grow C.types g.new_types m.types g.new_ids many F m.tables C.tables h.tables);
      memories = h.memories;
      globals = subst (λ (ids : List ℕ). ShowsGlobals ids (C.types ++ g.new_types) m.globals C.globals) (sym g.ids_are) (globals_grow C.types g.new_types m.types g.new_ids many m.globals C.globals h.globals);
      tags = indices_grow C.types g.new_types most_tags m.tags C.tags h.tags;
      exports = h.exports;
      imported = h.imported;
    }
