-- What one entry of a section adds to a module that has been read so far, where its constant expressions are typed in that module.
-- `us` are the types of all modules so far, and `declares` says of each of their ids what it declares.
-- Core Specification 3.0, Validation, Modules.
use Rattle.std.specs.Prelude.{ℕ, ◌==◌, nat_lt, nat_le, Bool, true, false, ◌&&◌, if◌then◌else◌, List, [], length, slice_get, Option, Some, None, is_some}
use Rattle.std.specs.List.{list_all}
use Rattle.wasm_spec.specs.Syntax.{Ref, Val, reference, Sub, map_ref, map_val, map_table, map_global}
use Rattle.wasm_spec.specs.BinarySections.{TableEntry, GlobalEntry, Element, ElementItems, functions, expressions, Data, SegmentMode, passive, active, declarative, ref_func}
use Rattle.wasm_spec.specs.ValueTypes.{allows_ref}
use Rattle.wasm_spec.specs.MatchingTests.{matches_val}
use Rattle.wasm_spec.specs.Features.{Features}
use Rattle.wasm_spec_rules.specs.Attempts.{passes}
use Rattle.wasm_spec_rules.specs.Parts.{Expression}
use Rattle.wasm_spec_rules.specs.SegmentRules.{index_or_first}
use Rattle.wasm_spec_rules.specs.Limits.{most_items}
use Rattle.wasm_readers_types.specs.WasmReadersValues.declared.indices.UnpackedIndex.{UnpackedIndex}
use Rattle.wasm_validator_core.specs.WasmValidatorCanonical.Indices.{canonical_index}
use Rattle.wasm_validator_core.specs.WasmValidatorChecks.Items.{is_ref_in_range, is_valid_defined_table, is_valid_global}
use Rattle.wasm_validator_resources.specs.Answers.{world}
use Rattle.wasm_validator_segments.specs.Offsets.{address_type}
use Rattle.wasm_validator_types.specs.Spaces.{Spaces}
use Rattle.wasm_validator_core.specs.Answers.{TypesSoFar}
use Rattle.wasm_validator_core.specs.Items.{types_of_module, with_table, with_global}
use Rattle.wasm_validator_segments.specs.WasmValidatorReferences.References.{names_of_expression}
use Rattle.wasm_validator_items.specs.Machine.{context_of, behind_initializer, with_element}

-- nothing is behind what was read
abbrev pub is_whole : Option (List ℕ) → Bool
is_whole None = false
is_whole (Some more) = length more == 0

-- the functions that are named by what a table's entries begin with, if that is written
abbrev pub names_of_init : Bool → List ℕ → List ℕ
names_of_init true bytes = names_of_expression bytes
names_of_init false bytes = []

-- the type of a segment's items, as the list of types has it
abbrev pub listed_items_type : Spaces → ElementItems Expression UnpackedIndex → Ref UnpackedIndex
listed_items_type s (functions xs) = ref_func
listed_items_type s (expressions r es) = map_ref (canonical_index s.types) r

module _ (F : Features) (declares : List (UnpackedIndex × Sub UnpackedIndex)) where
  -- the bytes are a constant expression of this type in the module as far as it has been read
  abbrev pub is_constant_of : Spaces → Val UnpackedIndex → Expression → Bool
  is_constant_of s v e = is_whole (behind_initializer F declares s v e)

  -- what the entries of a table begin with, if that is written
  abbrev pub is_constant_or_none : Spaces → Val UnpackedIndex → Option Expression → Bool
  is_constant_or_none s v None = true
  is_constant_or_none s v (Some e) = is_constant_of s v e

  abbrev pub add_table_entry : TypesSoFar → Spaces → TableEntry Expression UnpackedIndex → Option Spaces
  add_table_entry us s t =
      if is_valid_defined_table F (types_of_module us s) t.ty (is_some t.init) && is_constant_or_none s (reference (map_ref (canonical_index s.types) t.ty.element)) t.init
      then with_table F s (map_table (canonical_index s.types) t.ty)
      else None

  abbrev pub add_global_entry : TypesSoFar → Spaces → GlobalEntry Expression UnpackedIndex → Option Spaces
  add_global_entry us s g =
      if is_valid_global F (types_of_module us s) g.ty && is_constant_of s (map_val (canonical_index s.types) g.ty.content) g.init
      then with_global s (map_global (canonical_index s.types) g.ty)
      else None

  -- an offset of the addresses of what is there, if it is
  abbrev pub is_offset : Spaces → Bool → Expression → Bool
  is_offset s is_64 e = is_constant_of s (address_type is_64) e

  -- functions that are there, or expressions of a type that the features allow and the module has
  abbrev pub are_items : Spaces → ElementItems Expression UnpackedIndex → Bool
  are_items s (functions xs) = list_all (λ x. nat_lt x (length s.functions)) xs && nat_le (length xs) most_items
  are_items s (expressions r es) =
      allows_ref F r && is_ref_in_range (length s.types) r && list_all (is_constant_of s (reference (map_ref (canonical_index s.types) r))) es && nat_le (length es) most_items

  -- where items of this type may go: to no table with bulk memory, or to a table that may hold them, from an offset on
  abbrev pub may_be_placed : Spaces → Ref UnpackedIndex → SegmentMode Expression → Bool
  may_be_placed s r passive = F.bulk_memory
  may_be_placed s r declarative = F.bulk_memory
  may_be_placed s r (active x e) =
      passes (λ t. matches_val (world (context_of declares s)) (reference r) (reference t.element) && is_offset s t.is_64 e) (slice_get s.tables (index_or_first x))

  abbrev pub add_element : Spaces → Element Expression UnpackedIndex → Option Spaces
  add_element s e =
      if are_items s e.items && may_be_placed s (listed_items_type s e.items) e.mode then Some (with_element s (listed_items_type s e.items)) else None

  -- where data may go: nowhere with bulk memory, or to a memory, from an offset on
  abbrev pub may_be_stored : Spaces → SegmentMode Expression → Bool
  may_be_stored s passive = F.bulk_memory
  may_be_stored s declarative = false
  may_be_stored s (active x e) = passes (λ m. is_offset s m.is_64 e) (slice_get s.memories (index_or_first x))

  -- a data segment changes nothing
  abbrev pub add_data : Spaces → Data Expression → Option Spaces
  add_data s d = if may_be_stored s d.mode then Some s else None
