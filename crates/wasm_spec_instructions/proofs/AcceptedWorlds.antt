-- In a world of accepted types matching is an order, and without shared types nothing is shared.
use Rattle.std.proofs.Common.{◌≡◌, refl, sym, ap, subst, ◌∙◌, Bool, true, false, not, ◌&&◌, List, [], ◌∷◌, ◌++◌, map, Option, Some, None}
use Rattle.std.specs.List.{list_all}
use Rattle.std.proofs.lemmas.List.Elements.{All-contains}
use Rattle.wasm_spec.specs.Syntax.{Heap, abstract_heap, concrete, exact, Val, i32, i64, f32, f64, v128, reference, unpacked, Comp, func, array, struct, cont, Sub}
use Rattle.wasm_spec.specs.Features.{Features}
use Rattle.wasm_spec.specs.ValueTypes.{implies, abstract_needs, is_without_gc_types, allows_heap, allows_val, allows_storage}
use Rattle.wasm_spec.specs.Matching.{shared_flag, is_shared_heap}
use Rattle.wasm_spec.specs.MatchingTests.{World}
use Rattle.wasm_spec.specs.GroupRules.{storages, IsValidType}
use Rattle.wasm_spec.specs.TypeLaws.{KeepsKind}
use Rattle.wasm_spec.proofs.Matching.{accepted_types_match_ancestors}
use Rattle.wasm_spec_steps.specs.WasmSpecRules.Signatures.{Signature, signature_of}
use Rattle.wasm_spec_instructions.specs.ValueTypes.{IsUnshared, AreUnshared}
use Rattle.wasm_spec_instructions.specs.Laws.{HasNoSharing, IsAcceptedWorld, AcceptedWorldsAreInOrder}
use Rattle.wasm_spec_instructions.proofs.Attempts.{no, the_same, absent, and-both}
use Rattle.wasm_spec_instructions.proofs.Orders.{in_order}

module _ {R : Type 0} (W : World R) (F : Features) (ts : List R) (w : IsAcceptedWorld W F ts) where
  keeps_kind : (a : R) → KeepsKind W.declared a
  keeps_kind a b s p e = (accepted_types_match_ancestors {R = R}).keep_kind F W.declared ts w.accepted a (w.all a s e) b s p e

  valid : (a : R) (s : Sub R) → W.declared a ≡ Some s → IsValidType F W.declared a
  valid a s e = All-contains (IsValidType F W.declared) ts a w.accepted.valid (w.all a s e)

  module _ (off : F.shared_everything_threads ≡ false) where
    no_flag : (b : Bool) → (b ≡ true → F.shared_everything_threads ≡ true) → b ≡ false
    no_flag true h = no (sym off ∙ h refl)
    no_flag false h = refl

    types : (a : R) → shared_flag (W.declared a) ≡ false
    types a = go (W.declared a) refl
      where
        go : (o : Option (Sub R)) → W.declared a ≡ o → shared_flag (W.declared a) ≡ false
        go None e = ap shared_flag e
        go (Some s) e = let v : IsValidType F W.declared a = valid a s e in ap shared_flag v.declares ∙ no_flag v.sub.shared v.rules.shared_needs_shared_everything_threads

    allowed : (v : Val R) → allows_val F v ≡ true → IsUnshared W v
    allowed i32 e = tt
    allowed i64 e = tt
    allowed f32 e = tt
    allowed f64 e = tt
    allowed v128 e = tt
    allowed (reference r) e = heap r.heap (and-both F.reference_types (allows_heap F r.nullable r.heap) e).1
      where
        heap : (h : Heap R) → allows_heap F r.nullable h ≡ true → is_shared_heap W.declared h ≡ false
        heap (concrete a) f = types a
        heap (exact a) f = types a
        heap (abstract_heap false k) f = refl
        heap (abstract_heap true k) f = no (ap (λ (b : Bool). b && implies (not (is_without_gc_types k)) F.gc_types && abstract_needs F r.nullable k) (sym off) ∙ f)

    all_allowed : (vs : List (Val R)) → list_all (allows_storage F) (map unpacked vs) ≡ true → AreUnshared W vs
    all_allowed [] e = tt
    all_allowed (v ∷ vs) e = let f = and-both (allows_val F v) (list_all (allows_storage F) (map unpacked vs)) e in (allowed v f.0, all_allowed vs f.1)

    in_parts : (vs ws : List (Val R)) → AreUnshared W (vs ++ ws) → AreUnshared W vs × AreUnshared W ws
    in_parts [] ws h = (tt, h)
    in_parts (v ∷ vs) ws h = let f = in_parts vs ws h.1 in ((h.0, f.0), f.1)

    signature : (c : Comp R) (g : Signature R) → list_all (allows_storage F) (storages c) ≡ true → signature_of c ≡ Some g → AreUnshared W g.takes × AreUnshared W g.gives
    signature (func ps rs) g e f =
        subst (λ (z : Signature R). AreUnshared W z.takes × AreUnshared W z.gives) (the_same (record { takes = ps; gives = rs }) g f) (in_parts ps rs (all_allowed (ps ++ rs) e))
    signature (array x) g e f = absurd (absent g f)
    signature (struct xs) g e f = absurd (absent g f)
    signature (cont r) g e f = absurd (absent g f)

    unshared : HasNoSharing W F
    unshared = record {
      off = off;
      types = types;
      signatures = λ a s g e f.
          let v : IsValidType F W.declared a = valid a s e in
          signature v.sub.comp g v.rules.members_are_allowed (ap (λ (z : Sub R). signature_of z.comp) (the_same v.sub s (sym v.declares ∙ e)) ∙ f);
    }

pub accepted_worlds_are_in_order : (R : Type 0) → AcceptedWorldsAreInOrder R
accepted_worlds_are_in_order R W F ts w = (in_order W w.right (keeps_kind W F ts w), unshared W F ts w)
