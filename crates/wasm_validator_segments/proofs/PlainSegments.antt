-- A segment of functions for the first table is found at once.
use Rattle.std.proofs.Common.{◌≡◌, ◌∙◌, refl, ap, ℕ, ◌≤◌, nat_le, if◌then◌else◌, Bool, true, List, [], ◌++◌, Option, Some, None, option_map, arith}
use Rattle.std.proofs.lemmas.Bool.{le-leb}
use Rattle.std.specs.Option.{option_and_then}
use Rattle.wasm_spec.specs.Syntax.{Table, Ref, Val, reference, i32}
use Rattle.wasm_spec.specs.Values.{u32_at}
use Rattle.wasm_spec.specs.BinarySections.{ref_func}
use Rattle.wasm_spec.specs.MatchingTests.{matches_val}
use Rattle.wasm_spec.specs.Features.{Features}
use Rattle.wasm_spec.specs.TypeExamples.{features}
use Rattle.wasm_spec_rules.specs.Attempts.{passes}
use Rattle.wasm_spec_rules.specs.Contexts.{Context}
use Rattle.wasm_spec_rules.specs.Limits.{most_items}
use Rattle.wasm_readers_types.specs.WasmReadersValues.declared.indices.UnpackedIndex.{UnpackedIndex}
use Rattle.wasm_validator_resources.specs.Answers.{world}
use Rattle.wasm_validator_segments.specs.Expressions.{behind_expression}
use Rattle.wasm_validator_segments.specs.Numbers.{IsAnywhere}
use Rattle.wasm_validator_segments.specs.Lists.{behind_many, behind_list}
use Rattle.wasm_validator_segments.specs.Offsets.{address_type, behind_table_offset}
use Rattle.wasm_validator_segments.specs.Elements.{behind_function, may_go, items_type_at, segment_table_at, behind_items, typed_items_at, typed_element_from, typed_element_at}
use Rattle.wasm_validator_constants.specs.WasmValidatorReferences.References.{names_of_expression}
use Rattle.wasm_validator_segments.specs.NamedFunctions.{names_of_functions, names_of_list, names_of_element_from}
use Rattle.wasm_validator_segments.specs.PlainElements.{TakesFunctions, IsPlain}
use Rattle.wasm_validator_segments.proofs.NamedSegments.{are_named, behind_flag}

abbrev Item : Type 0
Item = Val UnpackedIndex

abbrev functions : Item
functions = reference ref_func

module _ (C : Context UnpackedIndex) (first second third : List ℕ) (count : ℕ) where
  -- the segment, if so many functions follow
  abbrev followed : Option (List ℕ) → Option (Item × List ℕ)
  followed o = option_map {U = Item × List ℕ} (λ more. (functions, more)) o

  abbrev indices : Option (List ℕ)
  indices = behind_many (behind_function C) count third

  list_is : u32_at second ≡ Some (count, third) → count ≤ most_items → behind_list (behind_function C) second ≡ indices
  list_is f few =
      ap (λ (o : Option (ℕ × List ℕ)). option_and_then (λ n. if nat_le n.0 most_items then behind_many (behind_function C) n.0 n.1 else None) o) f
      ∙ ap (λ (b : Bool). if b then behind_many (behind_function C) count third else None) (le-leb count most_items few)

  module _ (t : TakesFunctions C) where
    goes : may_go C (Some 0) functions ≡ true
    goes =
        ap (λ (o : Option (Table UnpackedIndex)). passes (λ u. matches_val (world C) functions (reference u.element)) o) t.is
        ∙ ap (λ (r : Ref UnpackedIndex). matches_val (world C) functions (reference r)) t.any

    module _ (F : Features) (imported : ℕ) where
      offset_is : IsAnywhere i32 first second → behind_table_offset C F imported 0 first ≡ Some second
      unfolding behind_table_offset
      offset_is a =
          ap (λ (o : Option (Table UnpackedIndex)). option_and_then (λ u. behind_expression C F imported (address_type u.is_64) first) o) t.is
          ∙ ap (λ (w : Bool). behind_expression C F imported (address_type w) first) t.narrow
          ∙ a C F imported

      table_is : IsAnywhere i32 first second → segment_table_at C F imported 0 first ≡ Some (Some 0, second)
      unfolding segment_table_at
      table_is a = ap (λ (o : Option (List ℕ)). option_map {U = Option ℕ × List ℕ} (λ rest. (Some 0, rest)) o) (offset_is a)

      items_are : behind_list (behind_function C) second ≡ indices → typed_items_at C F imported 0 (Some 0) functions second ≡ followed indices
      items_are l =
          ap (λ (b : Bool). if b then option_map {U = Item × List ℕ} (λ rest. (functions, rest)) (behind_items C F imported 0 functions second) else None) goes
          ∙ ap followed l

      segment_is : IsAnywhere i32 first second → behind_list (behind_function C) second ≡ indices → typed_element_from C F imported 0 first ≡ followed indices
      segment_is a l =
          ap (λ (o : Option (Option ℕ × List ℕ)). option_and_then (λ x. option_and_then (λ v. typed_items_at C F imported 0 x.0 v.0 v.1) (items_type_at C F 0 x.1)) o) (table_is a)
          ∙ items_are l

      -- what it names
      names_are : IsAnywhere i32 first second → names_of_expression first ≡ [] → u32_at second ≡ Some (count, third) → count ≤ most_items → (more : List ℕ) → indices ≡ Some more
          → names_of_element_from 0 first ≡ names_of_functions count third
      names_are a n f few more e =
          are_named C F imported (Some 0) functions first second second more 0 (omega arith) (table_is a) refl (list_is f few ∙ e)
          ∙ ap (λ (xs : List ℕ). xs ++ names_of_list names_of_functions second) n
          ∙ ap (λ (o : Option (ℕ × List ℕ)). elim o [ None ↦ [] | Some x ↦ names_of_functions x.0 x.1 ]) f

module _ (C : Context UnpackedIndex) (flag count : ℕ) (bytes first second third : List ℕ) where
  is_typed : u32_at bytes ≡ Some (flag, first) → flag ≡ 0 → IsAnywhere i32 first second → u32_at second ≡ Some (count, third) → count ≤ most_items
      → TakesFunctions C → (F : Features) (imported : ℕ) → typed_element_at C F imported bytes ≡ followed C first second third count (indices C first second third count)
  unfolding typed_element_at
  is_typed e z a f few t F imported =
      ap (λ (o : Option (ℕ × List ℕ)). option_and_then (λ x. typed_element_from C F imported x.0 x.1) o) e
      ∙ ap (λ (k : ℕ). typed_element_from C F imported k first) z
      ∙ segment_is C first second third count t F imported a (list_is C first second third count f few)

  pub plain : u32_at bytes ≡ Some (flag, first) → flag ≡ 0 → IsAnywhere i32 first second → names_of_expression first ≡ [] → u32_at second ≡ Some (count, third) → count ≤ most_items
      → TakesFunctions C → IsPlain C count bytes third
  plain e z a n f few t = record {
    typed = is_typed e z a f few t;
    named = λ more g.
        behind_flag bytes first flag e ∙ ap (λ (k : ℕ). names_of_element_from k first) z
        ∙ names_are C first second third count t (features true) 0 a n f few more g;
  }
