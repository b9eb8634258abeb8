-- The laws of lower crates from which it is proved that a run decides whether bytes are a valid module.
use Rattle.wasm_validator_canonical.specs.DistinctTypes.{AddedTypesStayApart, ApartTypesAreDistinct}
use Rattle.wasm_validator_sections.specs.WasmLawsModules.Laws.{AllListsAreAdded}
use Rattle.wasm_validator_sections.specs.WasmLawsModules.OnePassSections.{EntriesAreRenamed}
use Rattle.wasm_validator_canonical.proofs.DistinctLists.{added_types_stay_apart, apart_types_are_distinct}
use Rattle.wasm_validator_sections.proofs.WasmLawsModules.ConstantsOverNumbers.{constants_are_over_numbers}
use Rattle.wasm_validator_sections.proofs.WasmLawsModules.MatchingOverIds.{references_match_over_ids}
use Rattle.wasm_validator_sections.proofs.WasmLawsModules.AllModuleLists.{all_lists_added}
use Rattle.wasm_validator_sections.proofs.WasmLawsModules.RenamedEntries.{entries}
use Rattle.wasm_validator_sections.specs.WasmLawsModules.BodyContexts.{BodiesAreOverNumbers}
use Rattle.wasm_validator_sections.proofs.WasmLawsModules.Bodies.{bodies_are_over_numbers}
use Rattle.wasm_spec_rules.specs.Bodies.{BodiesAreAsManyAsFunctions}
use Rattle.wasm_spec_rules.proofs.Bodies.{bodies_are_as_many_as_functions}
use Rattle.wasm_validator_sections.specs.WasmValidatorReferences.NamedFunctions.{PiecesNameWhatIsReferenced}
use Rattle.wasm_validator_sections.proofs.WasmValidatorReferences.PieceReferences.{pieces_name_what_is_referenced}
use Rattle.wasm_validator_sections.specs.WasmValidatorReferences.Marks.{MarkedFlagsSayNames}
use Rattle.wasm_validator_sections.proofs.WasmValidatorReferences.Marks.{flags_say_names}
use Rattle.wasm_validator_sections.specs.WasmLawsCore.WasmValidatorCoreResources.ModuleContexts.{FlagsSayReferences}
use Rattle.wasm_validator_sections.proofs.WasmValidatorCoreResources.Lists.{flags_say_references}

pub record UsedLaws : Type 0 where
  pub lists : AllListsAreAdded
  pub entries : EntriesAreRenamed
  pub stay_apart : AddedTypesStayApart
  pub are_distinct : ApartTypesAreDistinct
  pub bodies : BodiesAreOverNumbers
  pub names : PiecesNameWhatIsReferenced
  pub flags : FlagsSayReferences
  pub marked : MarkedFlagsSayNames
  pub as_many : BodiesAreAsManyAsFunctions

pub used_laws : UsedLaws
used_laws = record {
  lists = all_lists_added constants_are_over_numbers references_match_over_ids;
  entries = entries;
  stay_apart = added_types_stay_apart;
  are_distinct = apart_types_are_distinct;
  bodies = bodies_are_over_numbers;
  names = pieces_name_what_is_referenced;
  flags = flags_say_references;
  marked = flags_say_names;
  as_many = bodies_are_as_many_as_functions;
}
