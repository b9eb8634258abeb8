-- Reference types match over the ids of a list where they do over the types themselves.
use Rattle.std.proofs.Common.{◌≡◌, refl, sym, ◌∙◌, ℕ, List, [], length, None}
use Rattle.wasm_spec.specs.Syntax.{Ref, reference, map_ref}
use Rattle.wasm_spec.specs.Features.{canonical}
use Rattle.wasm_spec.specs.MatchingTests.{World, matches_ref, matches_val}
use Rattle.wasm_spec.specs.Trees.{DefType}
use Rattle.wasm_spec.proofs.MatchingTests.{tests_decide_matching}
use Rattle.wasm_spec.proofs.SyntaxMaps.{map_ref-map}
use Rattle.wasm_spec_rules.specs.Contexts.{Context}
use Rattle.wasm_spec_rules.specs.IndexSpaces.{type_at, IsRefInRange}
use Rattle.wasm_spec_rules.specs.Worlds.{world_of}
use Rattle.wasm_readers_types.specs.WasmReadersValues.declared.indices.UnpackedIndex.{UnpackedIndex}
use Rattle.wasm_spec_validity.proofs.WasmSpecSteps.MatchingRenamed.{matches_val-map}
use Rattle.wasm_validator_resources.specs.Answers.{world}
use Rattle.wasm_spec_validity.proofs.FirstAppearances.{types_are_numbered}
use Rattle.wasm_laws_core.specs.ModuleParts.{listed}
use Rattle.wasm_validator_items.specs.Machine as machine
use Rattle.wasm_laws_core.specs.ListedTypes.{types_declare}
use Rattle.wasm_laws_core.specs.TypeNumbers.{AreNumbered, same_number, identity_at}
use Rattle.wasm_laws_core.proofs.AcceptedTypeNumbers.{accepted_types_are_numbered}
use Rattle.wasm_laws_core.proofs.IndexRanges.{ref-agrees}
use Rattle.wasm_laws_modules.specs.Contexts.{ReferencesMatchOverIds}
use Rattle.wasm_laws_modules.proofs.ConstantsOverNumbers.{renamed_types}
use Rattle.wasm_laws_modules.proofs.Entries.{entries}
use Rattle.wasm_laws_modules.proofs.Indices.{index-back}
use Rattle.wasm_laws_modules.proofs.References.{references_over}

-- a context that declares what these types do, and has nothing else
abbrev numbers_of : (DefType → ℕ) → List DefType → Context ℕ
numbers_of n distinct = record {
  types = [];
  declares = entries n distinct;
  functions = [];
  exact = [];
  tables = [];
  memories = [];
  globals = [];
  tags = [];
  elements = [];
  data_count = None;
  references = [];
}

pub references_match_over_ids : ReferencesMatchOverIds
references_match_over_ids F us valid one s types are stand own a b p q =
    let n = types_are_numbered types in
    let r = renamed_types F us valid one s.types types are stand own n in
    let f : ℕ → UnpackedIndex = identity_at r.ids in
    let at : ℕ → ℕ = λ x. n.number (type_at types x) in
    let C = numbers_of n.number n.distinct in
    let D = machine.context_of (types_declare us us) s in
    let W : World ℕ = world_of same_number C in
    let back : (c : Ref ℕ) → IsRefInRange types c → map_ref (listed s.types) c ≡ map_ref f (map_ref at c)
    = λ c h. ref-agrees (listed s.types) (λ x. f (at x)) (length types) (index-back (canonical F) us s.types types n.distinct n.number stand r) c h ∙ sym (map_ref-map f at c) in
    let same : matches_val (world D) (reference (map_ref (listed s.types) a)) (reference (map_ref (listed s.types) b)) ≡ matches_ref W (map_ref at a) (map_ref at b)
    = (λ i. matches_val (world D) (reference (back a p i)) (reference (back b q i))) ∙ matches_val-map f W (world D) (r.renames C refl D refl) (reference (map_ref at a)) (reference (map_ref at b)) in
    let tests = tests_decide_matching.reference_types W (r.right C refl) (map_ref at a) (map_ref at b) in
    let numbered : AreNumbered n.number n.distinct = accepted_types_are_numbered F types n.distinct n.number are.accepted n.first n.numbers in
    let over = references_over n.number n.distinct numbered types n.first a b p q in (
      (λ e. over.0 (tests.0 (sym same ∙ e))),
      (λ m. same ∙ tests.1 (over.1 m)),
    )
