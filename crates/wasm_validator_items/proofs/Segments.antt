-- A data segment that is read and typed in one pass is read and then added.
use Rattle.std.proofs.Common.{◌≡◌, refl, sym, ap, ◌∙◌, ℕ, ◌+◌, ◌==◌, nat_le, Bool, true, false, if◌then◌else◌, List, Option, Some, None, option_map, slice_get, arith}
use Rattle.std.specs.Option.{option_and_then}
use Rattle.wasm_spec.specs.Syntax.{Sub}
use Rattle.wasm_spec.specs.Values.{u32_at, sized_at}
use Rattle.wasm_spec.specs.BinarySections.{Data, SegmentMode, passive, active, data_mode_from, data_at}
use Rattle.wasm_spec.specs.Features.{Features}
use Rattle.wasm_spec_rules.specs.Attempts.{passes}
use Rattle.wasm_spec_rules.specs.Parts.{Expression}
use Rattle.wasm_readers_types.specs.WasmReadersValues.declared.indices.UnpackedIndex.{UnpackedIndex}
use Rattle.wasm_validator_segments.specs.WasmValidatorReferences.WasmSpecValidity.Expressions.{expression_at}
use Rattle.wasm_validator_segments.specs.Data.{behind_data_mode, behind_data}
use Rattle.wasm_validator_segments.specs.Offsets.{behind_memory_offset}
use Rattle.wasm_validator_types.specs.Spaces.{Spaces}
use Rattle.wasm_validator_core.specs.declared.limits.TheConstants.{MAX_DATA_SEGMENTS}
use Rattle.wasm_validator_items.specs.Machine.{context_of, items_from, data_step}
use Rattle.wasm_validator_items.specs.Entries.{is_offset, may_be_stored, add_data}
use Rattle.wasm_validator_items.specs.OnePassSections.{DataAreReadAndAdded}
use Rattle.wasm_validator_items.proofs.Attempts.{behind_where, beside, added, then_mapped, then_then, then_same, map_then}
use Rattle.wasm_validator_items.proofs.Offsets.{memory_offset_is}
use Rattle.wasm_validator_items.proofs.StepsInTurn.{section_is_added}

module _ (F : Features) (declares : List (UnpackedIndex × Sub UnpackedIndex)) (s : Spaces) where
  abbrev Mode : Type 0
  Mode = SegmentMode Expression × List ℕ

  abbrev stored : SegmentMode Expression → Bool
  stored = may_be_stored F declares s

  -- an offset into a memory, and what it goes to
  stored_at : (x : Option ℕ) (at : ℕ) (bytes : List ℕ)
      → ((e : Expression) → passes (λ m. is_offset F declares s m.is_64 e) (slice_get s.memories at) ≡ stored (active x e))
      → behind_memory_offset (context_of declares s) F s.imported_globals at bytes ≡ behind_where stored (option_map (λ e. (active x e.0, e.1)) (expression_at bytes))
  stored_at x at bytes same =
      memory_offset_is F declares s at bytes
      ∙ then_same (λ (e : Expression × List ℕ). if passes (λ m. is_offset F declares s m.is_64 e.0) (slice_get s.memories at) then Some e.1 else None) (λ e. if stored (active x e.0) then Some e.1 else None)
      (λ e. ap (λ (b : Bool). if b then Some e.1 else None) (same e.0)) (expression_at bytes)
      ∙ sym (then_mapped (λ (m : Mode). if stored m.0 then Some m.1 else None) (λ e. (active x e.0, e.1)) (expression_at bytes))

  -- by the tests of the flag
  abbrev behind_by : Bool → Bool → Bool → List ℕ → Option (List ℕ)
  behind_by b c d bytes =
      if b then behind_memory_offset (context_of declares s) F s.imported_globals 0 bytes
      else (if c then (if F.bulk_memory then Some bytes else None)
      else (if d then option_and_then (λ m. behind_memory_offset (context_of declares s) F s.imported_globals m.0 m.1) (u32_at bytes) else None))

  abbrev mode_by : Bool → Bool → Bool → List ℕ → Option Mode
  mode_by b c d bytes =
      if b then option_map (λ e. (active None e.0, e.1)) (expression_at bytes)
      else (if c then Some (passive, bytes)
      else (if d then option_and_then (λ m. option_map (λ e. (active (Some m.0) e.0, e.1)) (expression_at m.1)) (u32_at bytes) else None))

  mode_is : (b c d : Bool) (bytes : List ℕ) → behind_by b c d bytes ≡ behind_where stored (mode_by b c d bytes)
  mode_is true c d bytes = stored_at None 0 bytes (λ e. refl)
  mode_is false true d bytes = refl
  mode_is false false true bytes =
      then_same (λ (m : ℕ × List ℕ). behind_memory_offset (context_of declares s) F s.imported_globals m.0 m.1) (λ m. behind_where stored (option_map (λ e. (active (Some m.0) e.0, e.1)) (expression_at m.1)))
      (λ m. stored_at (Some m.0) m.0 m.1 (λ e. refl)) (u32_at bytes)
      ∙ sym (then_then (λ (m : Mode). if stored m.0 then Some m.1 else None) (λ m. option_map (λ e. (active (Some m.0) e.0, e.1)) (expression_at m.1)) (u32_at bytes))
  mode_is false false false bytes = refl

  -- the bytes of the segment
  abbrev sized_rest : List ℕ → Option (List ℕ)
  sized_rest bytes = option_map (λ b. b.1) (sized_at bytes)

  abbrev with_bytes : Mode → Option (Data Expression × List ℕ)
  with_bytes m = option_map (λ b. (record { mode = m.0; bytes = b.0 }, b.1)) (sized_at m.1)

  abbrev kept : List ℕ → Spaces × List ℕ
  kept more = (s, more)

  abbrev add : Data Expression → Option Spaces
  add = add_data F declares s

  bytes_behind : (b : Bool) (mode : SegmentMode Expression) → stored mode ≡ b → (o : Option (List ℕ × List ℕ)) (more : List ℕ)
      → option_map kept (option_and_then (λ (r : List ℕ). option_map (λ p. p.1) o) (if b then Some more else None)) ≡ added add (option_map (λ p. (record { mode = mode; bytes = p.0 }, p.1)) o)
  bytes_behind true mode e None more = refl
  bytes_behind true mode e (Some p) more = ap (λ (c : Bool). option_map (beside p.1) (if c then Some s else None)) (sym e)
  bytes_behind false mode e None more = refl
  bytes_behind false mode e (Some p) more = ap (λ (c : Bool). option_map (beside p.1) (if c then Some s else None)) (sym e)

  with_rest : (b : Bool) (m : Mode) → stored m.0 ≡ b → option_map kept (option_and_then sized_rest (if b then Some m.1 else None)) ≡ added add (with_bytes m)
  with_rest true m e = bytes_behind true m.0 e (sized_at m.1) m.1
  with_rest false m e = bytes_behind false m.0 e (sized_at m.1) m.1

  behind_mode : (o : Option Mode) → option_map kept (option_and_then sized_rest (behind_where stored o)) ≡ added add (option_and_then with_bytes o)
  behind_mode None = refl
  behind_mode (Some m) = with_rest (stored m.0) m refl

  flagged : (f : ℕ × List ℕ) → option_map kept (option_and_then sized_rest (behind_data_mode (context_of declares s) F s.imported_globals f.0 f.1)) ≡ added add (option_and_then with_bytes (data_mode_from expression_at f.0 f.1))
  flagged f =
      ap (λ (o : Option (List ℕ)). option_map kept (option_and_then sized_rest o)) (mode_is (f.0 == 0) (f.0 == 1) (f.0 == 2) f.1)
      ∙ behind_mode (mode_by (f.0 == 0) (f.0 == 1) (f.0 == 2) f.1)

  pub data_is_added : (bytes : List ℕ) → data_step F declares s bytes ≡ added add (data_at expression_at bytes)
  unfolding data_step behind_data data_at
  data_is_added bytes =
      map_then kept (λ (f : ℕ × List ℕ). option_and_then sized_rest (behind_data_mode (context_of declares s) F s.imported_globals f.0 f.1)) (u32_at bytes)
      ∙ then_same (λ (f : ℕ × List ℕ). option_map kept (option_and_then sized_rest (behind_data_mode (context_of declares s) F s.imported_globals f.0 f.1)))
      (λ f. added add (option_and_then with_bytes (data_mode_from expression_at f.0 f.1))) flagged (u32_at bytes)
      ∙ sym (then_then (λ (x : Data Expression × List ℕ). option_map (beside x.1) (add x.0)) (λ (f : ℕ × List ℕ). option_and_then with_bytes (data_mode_from expression_at f.0 f.1)) (u32_at bytes))

pub data_are_added : DataAreReadAndAdded
data_are_added F declares count bytes s =
    let none : count ≡ 0 + count = omega arith in
    ap (λ (n : ℕ). if nat_le n MAX_DATA_SEGMENTS then items_from (data_step F declares) count bytes s else None) none
    ∙ section_is_added (data_step F declares) (data_at expression_at) (add_data F declares) (data_is_added F declares) 0 MAX_DATA_SEGMENTS count bytes s
