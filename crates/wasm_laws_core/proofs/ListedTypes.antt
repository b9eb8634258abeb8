-- The ids of a list declare what its types do.
use Rattle.std.proofs.Common.{◌≡◌, refl, sym, ap, subst, ◌∙◌, ℕ, zero, suc, ◌+◌, ◌<◌, Bool, true, false, ◌&&◌, if◌then◌else◌, List, [], ◌∷◌, ◌++◌, length, get_or, slice_get, Some, None, All, arith, length-append}
use Rattle.std.proofs.lemmas.List.{append-nil, get_or_append_left}
use Rattle.wasm_spec.proofs.Closing.{slice_get-append_left}
use Rattle.std.specs.Option.{option_map}
use Rattle.std.specs.List.{AllByRecursion}
use Rattle.std.proofs.lemmas.Bool.Decides.{Decides-eqb}
use Rattle.std.proofs.lemmas.List.Elements.{recursion_from_All}
use Rattle.std.proofs.lemmas.Option.{same_Some, slice_get_within, get_or_from_slice_get}
use base.Stored.{Gv, gnil, gnum, gcons}
use Rattle.wasm_spec.specs.Syntax.{Sub, map_sub}
use Rattle.wasm_spec.specs.References.{refs_sub}
use Rattle.wasm_spec.specs.Trees.{DefType, declared}
use Rattle.wasm_spec.specs.TreeCode.{coded_type}
use Rattle.wasm_spec.specs.TypeLaws.{HasNoRepetition}
use Rattle.wasm_spec.proofs.Agreement.{agree_sub}
use Rattle.wasm_spec.proofs.SyntaxMaps.{map_sub-map}
use Rattle.wasm_spec_rules.specs.Contexts.{declares_at}
use Rattle.wasm_spec_rules.specs.IndexSpaces.{nowhere}
use Rattle.wasm_readers_types.specs.SeenTypes.{sub_of}
use Rattle.wasm_readers_types.specs.WasmReadersValues.declared.indices.UnpackedIndex.{UnpackedIndex}
use Rattle.wasm_readers_types.specs.WasmReadersValues.declared.indices.UnpackedIndex.TheVariants.{Module, RecGroup, Id}
use Rattle.wasm_readers_types.specs.declared.types.SubType.{SubType}
use Rattle.wasm_validator_type_groups.specs.Groups.{first_of}
use Rattle.wasm_validator_type_list.specs.GroupOrder.{IsKnown, AreListable}
use Rattle.wasm_validator_type_list.specs.Lookups.{leads_to}
use Rattle.wasm_validator_type_list.specs.DefTypes.{def_types}
use Rattle.wasm_validator_type_list.specs.DeclarationsById.{subs_by_ids, declares}
use Rattle.wasm_validator_type_list.proofs.IdDeclarations.{IsDeclared, declared_by}
use Rattle.wasm_validator_type_list.proofs.Lookups.{first_of-next}
use Rattle.wasm_validator_type_list.proofs.DefTypes.{length-def_types, first_of-within}
use Rattle.wasm_validator_type_list.proofs.IdsAndTypes.{length-subs, types_declare_what_ids_declare}
use Rattle.wasm_validator_core_resources.specs.ListContexts.{under_ids, list_declares}
use Rattle.wasm_validator_core_resources.specs.IndexContexts.{id_of}
use Rattle.wasm_laws_core.specs.ListedTypes.{same_code, same_type, number_in, id_in, types_declare, ListsDeclareTheirTypes}

not_both : {P : Type 0} → false ≡ true → P
not_both e = absurd (let h : false ≡ true = e in cc)

none : {P X : Type 0} (x : X) → None ≡ Some x → P
none x e = absurd cc

-- equal codes, told by the test
same-code : (a b : Gv) → same_code a b ≡ true → a ≡ b
same-code gnil gnil e = refl
same-code (gnum m) (gnum n) e = ap gnum ((Decides-eqb m n).0 e)
same-code (gcons a b) (gcons c d) e = λ i. gcons (same-code a c (left_of (same_code a c) (same_code b d) e) i) (same-code b d (right_of (same_code a c) (same_code b d) e) i)
  where
    left_of : (p q : Bool) → (p && q) ≡ true → p ≡ true
    left_of true q e = refl
    left_of false q e = not_both e

    right_of : (p q : Bool) → (p && q) ≡ true → q ≡ true
    right_of true q e = e
    right_of false q e = not_both e
same-code gnil (gnum n) e = not_both e
same-code gnil (gcons c d) e = not_both e
same-code (gnum m) gnil e = not_both e
same-code (gnum m) (gcons c d) e = not_both e
same-code (gcons a b) gnil e = not_both e
same-code (gcons a b) (gnum n) e = not_both e

code-itself : (a : Gv) → same_code a a ≡ true
code-itself gnil = refl
code-itself (gnum m) = (Decides-eqb m m).1 refl
code-itself (gcons a b) = ap (λ p. p && same_code b b) (code-itself a) ∙ code-itself b

same-type : (a b : DefType) → same_type a b ≡ true → a ≡ b
same-type a b e = coded_type.inj a b (same-code (coded_type.code a) (coded_type.code b) e)

type-itself : (a : DefType) → same_type a a ≡ true
type-itself a = code-itself (coded_type.code a)

-- the number of a type that is there is one of its ids
number_by : (ts : List DefType) (t d : DefType) (k : ℕ) (b : Bool) → same_type t d ≡ b → slice_get (t ∷ ts) k ≡ Some d → ((j : ℕ) → slice_get ts j ≡ Some d → slice_get ts (number_in ts d) ≡ Some d)
    → slice_get (t ∷ ts) (if b then 0 else suc (number_in ts d)) ≡ Some d
number_by ts t d k true e g rest = ap Some (same-type t d e)
number_by ts t d zero false e g rest = not_both (sym e ∙ ap (λ u. same_type u d) (same_Some t d g) ∙ type-itself d)
number_by ts t d (suc k) false e g rest = rest k g

number-there : (ts : List DefType) (d : DefType) (k : ℕ) → slice_get ts k ≡ Some d → slice_get ts (number_in ts d) ≡ Some d
number-there [] d k g = none d g
number-there (t ∷ ts) d k g = number_by ts t d k (same_type t d) refl g (number-there ts d)

module _ (us : List DefType) (once : HasNoRepetition us) where
  -- where no type has two ids, it is the id
  pub number-is : (k : ℕ) (d : DefType) → slice_get us k ≡ Some d → number_in us d ≡ k
  number-is k d g = once.one_id (number_in us d) k d (number-there us d k g) g

  id-again : (k : ℕ) → k < length us → id_in us (get_or us k nowhere) ≡ id_of k
  id-again k l = ap id_of (number-is k (get_or us k nowhere) (slice_get-within us k l))
    where
      slice_get-within : (xs : List DefType) (j : ℕ) → j < length xs → slice_get xs j ≡ Some (get_or xs j nowhere)
      slice_get-within [] j l = absurd (omega (arith, l))
      slice_get-within (x ∷ xs) zero l = refl
      slice_get-within (x ∷ xs) (suc j) l = slice_get-within xs j (omega (arith, l))

-- one after another, types declare what stands under their ids
module _ (us : List DefType) where
  abbrev Entry : ℕ → DefType → Sub ℕ → Type 0
  Entry k d s = declares_at (id_in us) d (declared d) ≡ (id_of k, map_sub id_of s) ∷ []

  in_turn : (start : ℕ) (ss : List (Sub ℕ)) (ds : List DefType) → length ss ≡ length ds
      → ((j : ℕ) (d : DefType) (s : Sub ℕ) → slice_get ds j ≡ Some d → slice_get ss j ≡ Some s → Entry (start + j) d s) → under_ids id_of start ss ≡ types_declare us ds
  in_turn start [] [] e h = refl
  in_turn start [] (d ∷ ds) e h = absurd (omega (arith, e))
  in_turn start (s ∷ ss) [] e h = absurd (omega (arith, e))
  in_turn start (s ∷ ss) (d ∷ ds) e h =
      let z : start + 0 ≡ start = omega arith in
      let here : Entry start d s = subst (λ k. Entry k d s) z (h 0 d s refl refl) in
      let behind : under_ids id_of (suc start) ss ≡ types_declare us ds =
      in_turn (suc start) ss ds (omega (arith, e)) (λ j c t f g. let y : start + suc j ≡ suc start + j = omega arith in subst (λ k. Entry k c t) y (h (suc j) c t f g)) in
      ap (λ l. (id_of start, map_sub id_of s) ∷ l) behind ∙ sym (ap (λ l. l ++ types_declare us ds) here)

-- the types of groups that may stand one behind another, in a list that goes on behind them
module _ {A : Type 0} (c : Bool) (gs : List (List (SubType A))) (listable : AreListable gs) (vs more : List DefType) (once : HasNoRepetition vs) (front : vs ≡ def_types c gs ++ more) where
  abbrev us : List DefType
  us = def_types c gs

  abbrev T : ℕ → DefType
  T id = get_or us id nowhere

  here : (k : ℕ) (d : DefType) → slice_get us k ≡ Some d → slice_get vs k ≡ Some d
  here k d g = ap (λ (l : List DefType). slice_get l k) front ∙ slice_get-append_left us more k (slice_get_within us k d g) ∙ g

  again : (k : ℕ) → k < length us → id_in vs (T k) ≡ id_of k
  again k l =
      let n : k < length vs = omega (arith, l, ap length front, length-append us more) in
      ap (id_in vs) (sym (ap (λ (t : List DefType). get_or t k nowhere) front ∙ get_or_append_left us more nowhere k l)) ∙ id-again vs once k n

  refs-again : (start n : ℕ) → start + n < suc (length us) → (rs : List UnpackedIndex) → AllByRecursion (IsKnown start n) rs → AllByRecursion (λ r. id_in vs (T (leads_to start r)) ≡ id_of (leads_to start r)) rs
  refs-again start n l [] h = tt
  refs-again start n l (Module i ∷ rs) h = absurd h.0
  refs-again start n l (RecGroup i ∷ rs) h = (let m : i < n = h.0 in again (start + i) (omega (arith, l, m)), refs-again start n l rs h.1)
  refs-again start n l (Id a ∷ rs) h = (let m : a.index < start = h.0 in again a.index (omega (arith, l, m)), refs-again start n l rs h.1)

  named_again : (k : ℕ) (s : Sub ℕ) → IsDeclared gs 0 k s → map_sub (id_in vs) (map_sub T s) ≡ map_sub id_of s
  named_again k s p =
      let start = first_of gs p.group in
      let n = length p.members in
      let L = leads_to start in
      let x = sub_of p.ty in
      let P = λ (ty : SubType A). All (IsKnown start n) (refs_sub (sub_of ty)) in
      let known : P p.ty = subst P (get_or_from_slice_get p.members p.position p.ty p.ty p.member) ((listable p.group p.members p.there).known p.position p.ty (slice_get_within p.members p.position p.ty p.member)) in
      let few : start + n < suc (length us) = omega (arith, first_of-next gs p.group p.members p.there, first_of-within gs (p.group + 1), length-def_types c gs) in
      let z : 0 + start ≡ start = omega arith in
      let says : s ≡ map_sub L x = sym (ap (λ m. map_sub (leads_to m) x) (sym z) ∙ p.says) in
      let same : map_sub (λ r. id_in vs (T (L r))) x ≡ map_sub (λ r. id_of (L r)) x =
      agree_sub (λ r. id_in vs (T (L r))) (λ r. id_of (L r)) x (refs-again start n few (refs_sub x) (recursion_from_All (IsKnown start n) (refs_sub x) known)) in
      ap (λ y. map_sub (id_in vs) (map_sub T y)) says ∙ ap (map_sub (id_in vs)) (map_sub-map T L x) ∙ map_sub-map (id_in vs) (λ r. T (L r)) x ∙ same ∙ sym (map_sub-map id_of L x) ∙ ap (map_sub id_of) (sym says)

  entry : (k : ℕ) (d : DefType) (s : Sub ℕ) → slice_get us k ≡ Some d → declares gs k ≡ Some s → Entry vs k d s
  entry k d s g e =
      let says : declared d ≡ Some (map_sub T s) = types_declare_what_ids_declare c gs nowhere listable k d g ∙ ap (option_map (map_sub T)) e in
      says_so says
    where
      says_so : declared d ≡ Some (map_sub T s) → Entry vs k d s
      says_so f = ap (declares_at (id_in vs) d) f ∙ (λ i. (id_of (number-is vs once k d (here k d g) i), named_again k s (declared_by gs k s e) i) ∷ [])

  pub declare_in_front : list_declares id_of gs ≡ types_declare vs us
  unfolding declares
  declare_in_front =
      in_turn vs 0 (subs_by_ids 0 gs) us (length-subs gs 0 ∙ sym (length-def_types c gs))
      (λ j d s f g. let z : 0 + j ≡ j = omega arith in subst (λ k. Entry vs k d s) (sym z) (entry j d s f g))

pub lists_declare_their_types : {A : Type 0} → ListsDeclareTheirTypes A
lists_declare_their_types c gs h once = declare_in_front c gs h (def_types c gs) [] once (sym (append-nil (def_types c gs)))
