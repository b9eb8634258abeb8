-- Element segments, read and typed in one pass.
-- Core Specification 3.0, Validation, Modules (Element Segments), and Binary Format, Modules (Element Section).
use Rattle.std.specs.Prelude.{ℕ, Bool, true, false, ◌==◌, nat_lt, if◌then◌else◌, List, Option, Some, None, slice_get}
use Rattle.std.specs.Option.{option_map, option_and_then}
use Rattle.wasm_spec.specs.Syntax.{Val, reference}
use Rattle.wasm_spec.specs.Values.{u32_at}
use Rattle.wasm_spec.specs.BinaryTypes.{has_bit, flags_at}
use Rattle.wasm_spec.specs.BinarySections.{ref_func}
use Rattle.wasm_spec.specs.MatchingTests.{matches_val}
use Rattle.wasm_spec.specs.Features.{Features}
use Rattle.wasm_spec_rules.specs.Contexts.{Context}
use Rattle.wasm_items.specs.ItemExpressions.{written_type_at}
use Rattle.wasm_readers_types.specs.WasmReadersValues.declared.indices.UnpackedIndex.{UnpackedIndex}
use Rattle.wasm_spec_rules.specs.Attempts.{passes}
use Rattle.wasm_validator_resources.specs.Answers.{world, val_in}
use Rattle.wasm_validator_segments.specs.Expressions.{behind_expression}
use Rattle.wasm_validator_segments.specs.Lists.{behind_list}
use Rattle.wasm_validator_segments.specs.Offsets.{behind_table_offset}

-- an index that is written, or else the first
abbrev pub index_if : Bool → List ℕ → Option (ℕ × List ℕ)
index_if true bytes = u32_at bytes
index_if false bytes = Some (0, bytes)

module _ (C : Context UnpackedIndex) where
  -- the index of a function that is there
  unfoldable pub behind_function : List ℕ → Option (List ℕ)
  behind_function bytes = option_and_then (λ x. option_map (λ f. x.1) (slice_get C.functions x.0)) (u32_at bytes)

  -- items of this type may go where the segment goes: to no table, or to one that may hold them
  abbrev pub may_go : Option ℕ → Val UnpackedIndex → Bool
  may_go None v = true
  may_go (Some x) v = passes (λ t. matches_val (world C) v (reference t.element)) (slice_get C.tables x)

  module _ (F : Features) where
    -- a type of expressions that the features allow, with the identity in it
    unfoldable pub reference_at : ℕ → List ℕ → Option (Val UnpackedIndex × List ℕ)
    reference_at flag bytes = option_and_then (λ r. option_map (λ v. (v, r.1)) (val_in C F (reference r.0))) (written_type_at flag bytes)

    -- the type of the items: of expressions, or of functions by their indices, behind a kind but for the flag 0
    abbrev pub items_type_at : ℕ → List ℕ → Option (Val UnpackedIndex × List ℕ)
    items_type_at flag bytes =
        if has_bit flag 4 then reference_at flag bytes
        else (if flag == 0 then Some (reference ref_func, bytes) else option_map (λ k. (reference ref_func, k.1)) (flags_at 0 bytes))

    module _ (imported : ℕ) where
      -- the table that the segment goes to, behind its index, which is 0 where none is written, and its offset; to none with bulk memory
      -- alone
      unfoldable pub segment_table_at : ℕ → List ℕ → Option (Option ℕ × List ℕ)
      segment_table_at flag bytes =
          if has_bit flag 1 then (if F.bulk_memory then Some (None, bytes) else None)
          else option_and_then (λ x. option_map (λ more. (Some x.0, more)) (behind_table_offset C F imported x.0 x.1)) (index_if (has_bit flag 2) bytes)

      -- the items, of this type: functions by their indices, or expressions
      abbrev pub behind_items : ℕ → Val UnpackedIndex → List ℕ → Option (List ℕ)
      behind_items flag v bytes = if has_bit flag 4 then behind_list (behind_expression C F imported v) bytes else behind_list behind_function bytes

      -- the type of a segment's items, behind these, and behind where it goes and that type
      abbrev pub typed_items_at : ℕ → Option ℕ → Val UnpackedIndex → List ℕ → Option (Val UnpackedIndex × List ℕ)
      typed_items_at flag table v bytes = if may_go table v then option_map (λ more. (v, more)) (behind_items flag v bytes) else None

      abbrev pub typed_element_from : ℕ → List ℕ → Option (Val UnpackedIndex × List ℕ)
      typed_element_from flag bytes =
          if nat_lt 7 flag then None
          else option_and_then (λ x. option_and_then (λ v. typed_items_at flag x.0 v.0 v.1) (items_type_at flag x.1)) (segment_table_at flag bytes)

      -- an element segment: the type of its items
      unfoldable pub typed_element_at : List ℕ → Option (Val UnpackedIndex × List ℕ)
      typed_element_at bytes = option_and_then (λ f. typed_element_from f.0 f.1) (u32_at bytes)
