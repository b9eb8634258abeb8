-- Contexts over other identities.
use Rattle.std.proofs.Common.{◌≡◌, ◌≢◌, refl, sym, ap, ◌∙◌, ℕ, zero, suc, ◌<◌, List, [], ◌∷◌, ◌++◌, map, slice_get, slice_index_or, Option, Some, None, arith}
use Rattle.std.specs.List.{flat_map, Contains}
use Rattle.std.proofs.lemmas.List.Elements.{All-nil, All-cons, All-head, All-tail, All-contains_itself}
use Rattle.std.proofs.lemmas.List.{map-append}
use Rattle.std.proofs.lemmas.Option.{same_Some, none-some}
use Rattle.wasm_readers_errors.specs.WasmSpec.Syntax.{Sub, map_ref, map_table, map_global}
use Rattle.wasm_readers_errors.specs.WasmSpec.BinarySections.{Element}
use Rattle.wasm_readers_errors.specs.WasmSpec.Trees.{DefType, declared}
use Rattle.wasm_readers_errors.proofs.WasmSpec.SyntaxMaps.{map-map_by, map_ref-map, map_table-map, map_global-map, map_sub-map}
use Rattle.wasm_spec_rules.specs.Parts.{Expression}
use Rattle.wasm_spec_rules.specs.IndexSpaces.{type_at}
use Rattle.wasm_spec_rules.specs.SegmentRules.{items_type}
use Rattle.wasm_spec_rules.specs.Contexts.{declares_at, renamed_declared, context_over, ContextsAreRenamed, AreFirst, RepeatedTypeIsOne, TypeOfOthersIsNone}

module _ {R S : Type 0} (f : R → S) (n : DefType → R) where
  one_declares : (d : DefType) (o : Option (Sub DefType)) → map (renamed_declared f) (declares_at n d o) ≡ declares_at (λ x. f (n x)) d o
  one_declares d None = refl
  one_declares d (Some s) = ap (λ t. (f (n d), t) ∷ []) (map_sub-map f n s)

  all_declare : (ds : List DefType) → map (renamed_declared f) (flat_map (λ (d : DefType). declares_at n d (declared d)) ds) ≡ flat_map (λ (d : DefType). declares_at (λ x. f (n x)) d (declared d)) ds
  all_declare [] = refl
  all_declare (d ∷ ds) =
      map-append (renamed_declared f) (declares_at n d (declared d)) (flat_map (λ (x : DefType). declares_at n x (declared x)) ds)
      ∙ (λ i. one_declares d (declared d) i ++ all_declare ds i)

pub contexts_are_renamed : {R S : Type 0} → ContextsAreRenamed R S
contexts_are_renamed f n distinct named C parts =
    let at : ℕ → _ = λ x. n (type_at C.types x) in
    λ i. record {
      types = map-map_by f n (λ d. f (n d)) (λ d. refl) C.types i;
      declares = all_declare f n distinct i;
      functions = C.functions;
      exact = (context_over n distinct named C parts).exact;
      tables = map-map_by (map_table f) (map_table at) (map_table (λ x. f (at x))) (map_table-map f at) C.tables i;
      memories = C.memories;
      globals = map-map_by (map_global f) (map_global at) (map_global (λ x. f (at x))) (map_global-map f at) C.globals i;
      tags = C.tags;
      elements = map-map_by (map_ref f) (λ (e : Element Expression ℕ). map_ref at (items_type e.items)) (λ (e : Element Expression ℕ). map_ref (λ x. f (at x)) (items_type e.items)) (λ e. map_ref-map f at (items_type e.items)) parts.elements i;
      data_count = (context_over n distinct named C parts).data_count;
      references = (context_over n distinct named C parts).references;
    }

module _ (a b : DefType) (apart : a ≢ b) where
  abbrev both : List DefType
  both = a ∷ b ∷ []

  abbrev three : List DefType
  three = a ∷ b ∷ a ∷ []

  has_a : Contains both a
  has_a = All-head (Contains both) a (b ∷ []) (All-contains_itself both)

  has_b : Contains both b
  has_b = All-head (Contains both) b [] (All-tail (Contains both) a (b ∷ []) (All-contains_itself both))

  one_place : (j k : ℕ) (d : DefType) → slice_get both j ≡ Some d → slice_get both k ≡ Some d → j ≡ k
  one_place zero zero d e f = refl
  one_place zero (suc zero) d e f = absurd (apart (same_Some a d e ∙ sym (same_Some b d f)))
  one_place (suc zero) zero d e f = absurd (apart (same_Some a d f ∙ sym (same_Some b d e)))
  one_place (suc zero) (suc zero) d e f = refl
  one_place (suc (suc j)) k d e f = absurd (none-some d e)
  one_place zero (suc (suc k)) d e f = absurd (none-some d f)
  one_place (suc zero) (suc (suc k)) d e f = absurd (none-some d f)

  a_is_first : (i j k : ℕ) (c d : DefType) → i < j → slice_get both i ≡ Some c → slice_get both j ≡ Some d → slice_get three k ≡ Some d → (h : ℕ) × (h < k) × (slice_get three h ≡ Some c)
  a_is_first zero (suc zero) zero c d l e f g = absurd (apart (same_Some a d g ∙ sym (same_Some b d f)))
  a_is_first zero (suc zero) (suc k) c d l e f g = (0, omega arith, e)
  a_is_first zero zero k c d l e f g = absurd (omega (arith, l))
  a_is_first zero (suc (suc j)) k c d l e f g = absurd (none-some d f)
  a_is_first (suc zero) zero k c d l e f g = absurd (omega (arith, l))
  a_is_first (suc zero) (suc zero) k c d l e f g = absurd (omega (arith, l))
  a_is_first (suc zero) (suc (suc j)) k c d l e f g = absurd (none-some d f)
  a_is_first (suc (suc i)) j k c d l e f g = absurd (none-some c e)

  repeated : AreFirst three both
  repeated = record {
    all = All-cons (Contains both) a (b ∷ a ∷ []) has_a (All-cons (Contains both) b (a ∷ []) has_b (All-cons (Contains both) a [] has_a (All-nil (Contains both))));
    only =
        let itself = All-contains_itself three in
        let rest = All-tail (Contains three) a (b ∷ a ∷ []) itself in
        All-cons (Contains three) a (b ∷ []) (All-head (Contains three) a (b ∷ a ∷ []) itself) (All-cons (Contains three) b [] (All-head (Contains three) b (a ∷ []) rest) (All-nil (Contains three)));
    once = record { one_id = one_place };
    in_order = a_is_first;
  }

pub repeated_type_is_one : RepeatedTypeIsOne
repeated_type_is_one a b apart = repeated a b apart

only_item : (a b : DefType) (k : ℕ) → k < 1 → slice_index_or (a ∷ []) k b ≡ b → a ≡ b
only_item a b zero l e = e
only_item a b (suc k) l e = absurd (omega (arith, l))

pub type_of_others_is_none : TypeOfOthersIsNone
type_of_others_is_none a b apart v =
    let c = All-head (Contains (a ∷ [])) b [] (All-tail (Contains (a ∷ [])) a (b ∷ []) v.only) in
    apart (only_item a b c.0 c.1 c.2)
