-- Reference types that are written in a module, with the ids of its types in the place of their indices.
use Rattle.std.proofs.Common.{◌≡◌, refl, sym, ap, ◌∙◌, ℕ, ◌-◌, nat_lt, Bool, true, false, ◌&&◌, if◌then◌else◌, List, map, length, slice_get, Option, Some, None, option_map}
use Rattle.std.specs.List.{list_all}
use Rattle.std.proofs.lemmas.Bool.{ltb-true, ltb-false}
use Rattle.std.proofs.lemmas.Option.{slice_get_past, slice_get-get_or, slice_get-map}
use Rattle.wasm_spec.specs.Syntax.{Heap, abstract_heap, concrete, exact, Ref, reference, Sub, map_heap, map_ref}
use Rattle.wasm_spec.specs.References.{refs_heap}
use Rattle.wasm_spec.specs.BinarySections.{funcref}
use Rattle.wasm_spec.specs.ValueTypes.{allows_ref}
use Rattle.wasm_spec.specs.Features.{Features}
use Rattle.wasm_spec_rules.specs.Signatures.{resolve_heap}
use Rattle.wasm_readers.specs.WrittenIndices.{written}
use Rattle.wasm_readers_types.specs.WasmReadersValues.declared.indices.UnpackedIndex.{UnpackedIndex}
use Rattle.wasm_readers_types.specs.WasmReadersValues.declared.indices.UnpackedIndex.TheVariants.{Id}
use Rattle.wasm_validator_core.specs.WasmValidatorCanonical.Indices.{use_of_index, canonical_index}
use Rattle.wasm_validator_core.specs.WasmValidatorChecks.Items.{is_in_range, is_ref_in_range}
use Rattle.wasm_validator_resources.specs.Answers.{written_index, val_in}
use Rattle.wasm_validator_types.specs.Spaces.{Spaces}
use Rattle.wasm_validator_items.specs.Machine.{context_of}

-- the id with this number
abbrev id_of : ℕ → UnpackedIndex
id_of n = Id (record { index = n })

module _ (ids : List ℕ) where
  -- a heap type is that of a type of the module, or of none
  abbrev HeapResolves : Heap UnpackedIndex → Type 0
  HeapResolves h =
      resolve_heap (map id_of ids) (map_heap written_index h) ≡ (if list_all (is_in_range (length ids)) (refs_heap h) then Some (map_heap (canonical_index ids) h) else None)

  index_resolves : (f : UnpackedIndex → Heap UnpackedIndex) (n : ℕ) (b : Bool) → nat_lt n (length ids) ≡ b
      → option_map f (slice_get (map id_of ids) n) ≡ (if b && true then Some (f (use_of_index (slice_get ids n) (n - length ids))) else None)
  index_resolves f n true e =
      let at = slice_get-get_or ids n 0 (ltb-true n (length ids) e) in
      ap (option_map f) (slice_get-map id_of ids n)
      ∙ ap (λ (o : Option ℕ). option_map f (option_map id_of o)) at
      ∙ sym (ap (λ (o : Option ℕ). Some (f (use_of_index o (n - length ids)))) at)
  index_resolves f n false e =
      ap (option_map f) (slice_get-map id_of ids n) ∙ ap (λ (o : Option ℕ). option_map f (option_map id_of o)) (slice_get_past ids n (ltb-false n (length ids) e))

  heap_resolves : (h : Heap ℕ) → HeapResolves (map_heap written h)
  heap_resolves (abstract_heap s a) = refl
  heap_resolves (concrete n) = index_resolves concrete n (nat_lt n (length ids)) refl
  heap_resolves (exact n) = index_resolves exact n (nat_lt n (length ids)) refl

  -- what a reference type refers to is
  abbrev pub Resolves : Ref UnpackedIndex → Type 0
  Resolves r = HeapResolves r.heap

  pub written_resolves : (r : Ref ℕ) → Resolves (map_ref written r)
  written_resolves r = heap_resolves r.heap

  pub funcref_resolves : Resolves funcref
  funcref_resolves = refl

module _ (F : Features) (declares : List (UnpackedIndex × Sub UnpackedIndex)) (s : Spaces) where
  -- a reference type that the features allow and the module has
  resolved : (allowed has : Bool) (nullable : Bool) (h : Heap UnpackedIndex)
      → (if allowed then option_map reference (option_map (λ k. record { nullable = nullable; heap = k }) (if has then Some h else None)) else None)
      ≡ (if allowed && has then Some (reference (record { nullable = nullable; heap = h })) else None)
  resolved true true nullable h = refl
  resolved true false nullable h = refl
  resolved false has nullable h = refl

  pub val_is : (r : Ref UnpackedIndex) → Resolves s.types r
      → val_in (context_of declares s) F (reference r) ≡ (if allows_ref F r && is_ref_in_range (length s.types) r then Some (reference (map_ref (canonical_index s.types) r)) else None)
  val_is r e =
      ap (λ (o : Option (Heap UnpackedIndex)). if allows_ref F r then option_map reference (option_map (λ k. record { nullable = r.nullable; heap = k }) o) else None) e
      ∙ resolved (allows_ref F r) (is_ref_in_range (length s.types) r) r.nullable (map_heap (canonical_index s.types) r.heap)
