-- Signatures, and written types with the identities that their type indices name.
-- Core Specification 3.0, Validation, Conventions (Contexts), and Appendix, Validation Algorithm.
use Rattle.std.specs.Prelude.{ℕ, List, [], ◌∷◌, Option, Some, None, slice_get}
use Rattle.std.specs.Option.{option_map}
use Rattle.wasm_readers_errors.specs.WasmSpec.Syntax.{Heap, abstract_heap, concrete, exact, Ref, Val, i32, i64, f32, f64, v128, reference, Comp, func}
use Rattle.wasm_spec_rules.specs.Attempts.{◌>>=◌}

-- what goes in, and what comes out
pub record Signature (R : Type 0) : Type 0 where
  pub takes : List (Val R)
  pub gives : List (Val R)

module _ {R : Type 0} where
  -- written types, where the module has the types that their indices name
  abbrev pub resolve_heap : List R → Heap ℕ → Option (Heap R)
  resolve_heap ts (abstract_heap s k) = Some (abstract_heap s k)
  resolve_heap ts (concrete n) = option_map concrete (slice_get ts n)
  resolve_heap ts (exact n) = option_map exact (slice_get ts n)

  abbrev pub resolve_ref : List R → Ref ℕ → Option (Ref R)
  resolve_ref ts r = option_map (λ h. record { nullable = r.nullable; heap = h }) (resolve_heap ts r.heap)

  abbrev pub resolve_val : List R → Val ℕ → Option (Val R)
  resolve_val ts i32 = Some i32
  resolve_val ts i64 = Some i64
  resolve_val ts f32 = Some f32
  resolve_val ts f64 = Some f64
  resolve_val ts v128 = Some v128
  resolve_val ts (reference r) = option_map reference (resolve_ref ts r)

  abbrev pub resolve_vals : List R → List (Val ℕ) → Option (List (Val R))
  resolve_vals ts [] = Some []
  resolve_vals ts (v ∷ vs) = do
    w ← resolve_val ts v
    ws ← resolve_vals ts vs
    Some (w ∷ ws)

  -- the signature of a function type
  abbrev pub signature_of : Comp R → Option (Signature R)
  signature_of (func ps rs) = Some (record { takes = ps; gives = rs })
  signature_of _ = None
