-- The context of constant expressions over the ids of a list is the module's own, with each number of a type renamed to its id.
use Rattle.std.proofs.Common.{◌≡◌, refl, sym, ap, subst, ◌∙◌, ℕ, zero, suc, ◌+◌, ◌<◌, Bool, true, false, nat_eq, List, [], ◌∷◌, ◌++◌, map, length, take, slice_get, Option, Some, None, arith}
use Rattle.std.specs.List.{flat_map, AllZip}
use Rattle.std.proofs.lemmas.Bool.Decides.{Decides-eqb}
use Rattle.wasm_spec.specs.Syntax.{Val, map_val, map_global}
use Rattle.wasm_spec.specs.BinaryModules.{Import}
use Rattle.wasm_spec.specs.Features.{Features, canonical}
use Rattle.wasm_spec.specs.MatchingTests.{World}
use Rattle.wasm_spec.specs.Trees.{DefType}
use Rattle.wasm_spec.specs.TypeLaws.{HasNoRepetition}
use Rattle.wasm_spec.proofs.SyntaxMaps.{map-map_by, map_val-map, map_global-map}
use Rattle.wasm_spec_rules.specs.Contexts.{Context, exact_in, is_exact}
use Rattle.wasm_spec_rules.specs.IndexSpaces.{IndexSpaces, IsValInRange}
use Rattle.wasm_spec_rules.specs.Parts.{Parts, Expression}
use Rattle.wasm_spec_rules.specs.Worlds.{world_of}
use Rattle.wasm_readers_types.specs.WasmReadersValues.declared.indices.UnpackedIndex.{UnpackedIndex}
use Rattle.wasm_laws_core.specs.WasmValidatorCanonical.Groups.{AreValid}
use Rattle.wasm_laws_core.specs.WasmValidatorCanonical.Sections.{StandsFor}
use Rattle.wasm_spec_validity.specs.WasmOperators.Control.{value_block}
use Rattle.wasm_spec_validity.specs.WasmSpecSteps.Bodies.{Surroundings, map_surroundings}
use Rattle.wasm_spec_validity.specs.WasmSpecSteps.ConstantRules.{IsConstantExpression}
use Rattle.wasm_spec_validity.specs.WasmSpecSteps.Machine.{map_state}
use Rattle.wasm_spec_validity.specs.WasmSpecSteps.Renaming.{Renames}
use Rattle.wasm_spec_validity.specs.WasmSpecSteps.Steps.{start}
use Rattle.wasm_laws_core.specs.WasmValidatorCoreResources.IndexContexts.{id_of}
use Rattle.wasm_validator_resources.specs.Answers.{world}
use Rattle.wasm_laws_core.specs.WasmValidatorTypes.Spaces.{Spaces}
use Rattle.wasm_laws_core.specs.ModuleParts.{listed}
use Rattle.wasm_laws_core.specs.WasmValidatorCoreResources.ModuleContexts.{exact_flags, numbers_from}
use Rattle.wasm_validator_items.specs.Expressions.{around_constants, behind_expression}
use Rattle.wasm_validator_items.proofs.ConstantBytes.{are_found}
use Rattle.wasm_laws_core.specs.ListedTypes.{types_declare}
use Rattle.wasm_laws_core.specs.TypeNumbers.{identity_at}
use Rattle.wasm_laws_core.proofs.IndexRanges.{val-agrees, globals-agree, zip-length}
use Rattle.wasm_spec_validity.specs.Modules.{Numbering, number_at, context_of, imported_globals}
use Rattle.wasm_spec_validity.specs.OtherContexts.{elsewhere, ConstantsAreRenamed}
use Rattle.wasm_spec_validity.specs.Typing.{from_on, seeing, around, IsConstant}
use Rattle.wasm_spec_validity.proofs.ConstantRenamings.{constants_rename}
use Rattle.wasm_validator_items.specs.Machine as machine
use Rattle.wasm_validator_items.specs.Entries.{is_whole, is_constant_of}
use Rattle.wasm_laws_modules.specs.Contexts.{HasOwnIds, AreModuleTypes, ShowsConstants, ConstantsAreOverNumbers}
use Rattle.wasm_laws_modules.proofs.Indices.{index-back}
use Rattle.wasm_laws_modules.proofs.DistinctTypeIds.{AreRenamed, renamed_on, renamed_off}

-- which functions are exactly of their type: the imported ones as they say, and as many as are left
exact-left : (xs ys : List ℕ) → length xs ≡ length ys → exact_flags xs [] ≡ map is_exact ys
exact-left [] [] e = refl
exact-left [] (y ∷ ys) e = absurd (omega (arith, e))
exact-left (x ∷ xs) [] e = absurd (omega (arith, e))
exact-left (x ∷ xs) (y ∷ ys) e = λ i. true ∷ exact-left xs ys (omega (arith, e)) i

exact-all : (xs : List ℕ) (bs : List Bool) (ys : List ℕ) → length bs + length ys ≡ length xs → exact_flags xs bs ≡ bs ++ map is_exact ys
exact-all xs [] ys e = exact-left xs ys (omega (arith, e))
exact-all [] (b ∷ bs) ys e = absurd (omega (arith, e))
exact-all (x ∷ xs) (b ∷ bs) ys e = λ i. b ∷ exact-all xs bs ys (omega (arith, e)) i

-- the same numbers
numbers-same : (first count : ℕ) → numbers_from first count ≡ from_on first count
numbers-same first zero = refl
numbers-same first (suc count) = λ i. first ∷ numbers-same (suc first) count i

take-map : {X Y : Type 0} (f : X → Y) (k : ℕ) (xs : List X) → take k (map f xs) ≡ map f (take k xs)
take-map f zero xs = refl
take-map f (suc k) [] = refl
take-map f (suc k) (x ∷ xs) = λ i. f x ∷ take-map f k xs i

whole_is : (o : Option (List ℕ)) → is_whole o ≡ true → o ≡ Some []
whole_is None e = absurd cc
whole_is (Some []) e = refl
whole_is (Some (b ∷ bs)) e = let z : length (b ∷ bs) ≡ 0 = (Decides-eqb (length (b ∷ bs)) 0).0 e in absurd (omega (arith, z))

types-back : (f : ℕ → UnpackedIndex) (n : DefType → ℕ) (sids : List ℕ) (types : List DefType) → length sids ≡ length types
    → ((j y : ℕ) (d : DefType) → slice_get types j ≡ Some d → slice_get sids j ≡ Some y → id_of y ≡ f (n d)) → map id_of sids ≡ map f (map n types)
types-back f n [] [] e h = refl
types-back f n [] (d ∷ ds) e h = absurd (omega (arith, e))
types-back f n (x ∷ xs) [] e h = absurd (omega (arith, e))
types-back f n (x ∷ xs) (d ∷ ds) e h = λ i. h 0 x d refl refl i ∷ types-back f n xs ds (omega (arith, e)) (λ j y c g k. h (suc j) y c g k) i

module _ (F : Features) (us : List DefType) (s : Spaces) (C : IndexSpaces) (parts : Parts) (visible : ℕ) (shows : ShowsConstants F us s C parts visible) (n : Numbering C.types)
    (renamed : AreRenamed us s.types C.types n.distinct n.number) where
  abbrev f : ℕ → UnpackedIndex
  f = identity_at renamed.ids

  abbrev at : ℕ → ℕ
  at = number_at n

  abbrev B : Surroundings ℕ
  B = around F (seeing visible (context_of C n parts))

  abbrev D : Context UnpackedIndex
  D = machine.context_of (types_declare us us) s

  index-at : (x : ℕ) → x < length C.types → listed s.types x ≡ f (at x)
  index-at = index-back (canonical F) us s.types C.types n.distinct n.number shows.types renamed

  abbrev through : ℕ → UnpackedIndex
  through x = f (at x)

  val-back : (v : Val ℕ) → IsValInRange C.types v → map_val (listed s.types) v ≡ map_val f (map_val at v)
  val-back v h = val-agrees (listed s.types) through (length C.types) index-at v h ∙ sym (map_val-map f at v)

  globals-back : s.globals ≡ map (map_global f) (take visible (map (map_global at) C.globals))
  globals-back =
      shows.globals
      ∙ globals-agree (listed s.types) through (length C.types) index-at (take visible C.globals) shows.globals_in_range
      ∙ sym (map-map_by (map_global f) (map_global at) (map_global through) (map_global-map f at) (take visible C.globals))
      ∙ ap (map (map_global f)) (sym (take-map (map_global at) visible C.globals))

  types-are : map id_of s.types ≡ map f (map n.number C.types)
  types-are = types-back f n.number s.types C.types (zip-length (StandsFor (canonical F) us) s.types C.types shows.types) renamed.back

  exact-are : exact_flags s.functions s.imported_functions ≡ flat_map (λ (i : Import ℕ). exact_in i.ty) parts.imports ++ map is_exact parts.functions
  exact-are =
      exact-all s.functions s.imported_functions parts.functions (omega (arith, shows.imported_first, ap length shows.functions))
      ∙ ap (λ bs. bs ++ map is_exact parts.functions) shows.imported_functions

  references-are : numbers_from 0 (length s.functions) ≡ from_on 0 (length C.functions)
  references-are = numbers-same 0 (length s.functions) ∙ ap (λ (xs : List ℕ). from_on 0 (length xs)) shows.functions

  surroundings-are : around_constants D F ≡ elsewhere (map_surroundings f B) D
  surroundings-are = λ i. record {
    features = F;
    context = record {
      types = types-are i;
      declares = types_declare us us;
      functions = shows.functions i;
      exact = exact-are i;
      tables = s.tables;
      memories = s.memories;
      globals = globals-back i;
      tags = s.tags;
      elements = [];
      data_count = None;
      references = references-are i;
    };
    locals = [];
    shared = false;
  }

  abbrev W : World ℕ
  W = world_of nat_eq (context_of C n parts)

  renames : Renames f W (world D)
  renames = renamed.renames (context_of C n parts) refl D refl

  module _ (v : Val ℕ) (in_range : IsValInRange C.types v) (e : Expression) where
    abbrev k : ℕ
    k = imported_globals parts

    abbrev over : ConstantsAreRenamed f W (world D) B D k (start (value_block (map_val at v))) e []
    over = constants_rename f W (world D) renames B D k (start (value_block (map_val at v))) e []

    found-there : is_constant_of F (types_declare us us) s (map_val (listed s.types) v) e ≡ is_whole (behind_expression D F s.imported_globals (map_val (listed s.types) v) e)
    unfolding machine.behind_initializer
    found-there = refl

    same-found : behind_expression D F s.imported_globals (map_val (listed s.types) v) e ≡ behind_expression D F k (map_val f (map_val at v)) e
    same-found = λ i. behind_expression D F (shows.imported_globals i) (val-back v in_range i) e

    is_over : is_constant_of F (types_declare us us) s (map_val (listed s.types) v) e ≡ true → IsConstant nat_eq F (context_of C n parts) k visible (map_val at v) e
    is_over g =
        let whole : behind_expression D F k (map_val f (map_val at v)) e ≡ Some [] = sym same-found ∙ whole_is (behind_expression D F s.imported_globals (map_val (listed s.types) v) e) (sym found-there ∙ g) in
        let x = (are_found D F k (map_val f (map_val at v)) e []).0 whole in
        let there : IsConstantExpression (world D) (elsewhere (map_surroundings f B) D) k (map_state f (start (value_block (map_val at v)))) e x.last [] =
        subst (λ (S : Surroundings UnpackedIndex). IsConstantExpression (world D) S k (start (value_block (map_val f (map_val at v)))) e x.last []) surroundings-are x.is in
        let t = over.back x.last there in
        record { last = t.0; is = t.1 }

    is_listed : IsConstant nat_eq F (context_of C n parts) k visible (map_val at v) e → is_constant_of F (types_declare us us) s (map_val (listed s.types) v) e ≡ true
    is_listed g =
        let there : IsConstantExpression (world D) (elsewhere (map_surroundings f B) D) k (map_state f (start (value_block (map_val at v)))) e (map_state f g.last) [] = over.there g.last g.is in
        let here : IsConstantExpression (world D) (around_constants D F) k (start (value_block (map_val f (map_val at v)))) e (map_state f g.last) [] =
        subst (λ (S : Surroundings UnpackedIndex). IsConstantExpression (world D) S k (start (value_block (map_val f (map_val at v)))) e (map_state f g.last) []) (sym surroundings-are) there in
        let whole : behind_expression D F k (map_val f (map_val at v)) e ≡ Some [] = (are_found D F k (map_val f (map_val at v)) e []).1 (record { last = map_state f g.last; is = here }) in
        found-there ∙ ap is_whole (same-found ∙ whole)

-- the ids of a module's types, whether equal types are one or not
renamed_by : (F : Features) (c : Bool) → canonical F ≡ c → (us : List DefType) → AreValid F us → HasNoRepetition us → (sids : List ℕ) (types : List DefType) → AreModuleTypes F types
    → AllZip (StandsFor (canonical F) us) sids types → HasOwnIds F sids → (n : Numbering types) → AreRenamed us sids types n.distinct n.number
renamed_by F true on us valid one sids types are stand own n = renamed_on F us valid one sids types stand are.accepted n.distinct n.first n.number n.numbers on
renamed_by F false off us valid one sids types are stand own n =
    let first = own off in
    renamed_off F us valid one sids types stand are.accepted n.distinct n.first n.number n.numbers off (are.once off) first.0 first.1

pub renamed_types : (F : Features) (us : List DefType) → AreValid F us → HasNoRepetition us → (sids : List ℕ) (types : List DefType) → AreModuleTypes F types
    → AllZip (StandsFor (canonical F) us) sids types → HasOwnIds F sids → (n : Numbering types) → AreRenamed us sids types n.distinct n.number
renamed_types F us valid one sids types are stand own n = renamed_by F (canonical F) refl us valid one sids types are stand own n

pub constants_are_over_numbers : ConstantsAreOverNumbers
constants_are_over_numbers F us valid one s C parts visible are shows n v in_range e =
    let r = renamed_types F us valid one s.types C.types are shows.types shows.own_ids n in (
      is_over F us s C parts visible shows n r v in_range e,
      is_listed F us s C parts visible shows n r v in_range e,
    )
