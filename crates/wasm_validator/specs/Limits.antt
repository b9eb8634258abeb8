-- That the public constants are the limits of the definitions.
-- Core Specification 3.0, Appendix, Implementation Limitations; the numbers are this validator's.
use Rattle.std.specs.Prelude.{◌≡◌, IsTrue}
use Rattle.wasm_spec.specs.Features.{Features}
use Rattle.wasm_spec.specs.Limits.{most_types, most_imports, most_functions, most_tables, most_memories, most_globals, most_tags, most_exports, most_elements, most_segments}
use Rattle.wasm_validator_modules.specs.WasmValidatorCore.declared.limits.TheConstants.{MAX_TYPES, MAX_IMPORTS, MAX_FUNCTIONS, MAX_TABLES, MAX_MEMORIES, MAX_GLOBALS, MAX_TAGS, MAX_EXPORTS, MAX_ELEMENT_SEGMENTS, MAX_DATA_SEGMENTS}

pub record ConstantsAreLimits : Type 0 where
  pub types : MAX_TYPES ≡ most_types
  pub imports : MAX_IMPORTS ≡ most_imports
  pub functions : MAX_FUNCTIONS ≡ most_functions
  pub tables : (F : Features) → IsTrue F.reference_types → MAX_TABLES ≡ most_tables F
  pub memories : (F : Features) → IsTrue F.multi_memory → MAX_MEMORIES ≡ most_memories F
  pub globals : MAX_GLOBALS ≡ most_globals
  pub tags : MAX_TAGS ≡ most_tags
  pub exports : MAX_EXPORTS ≡ most_exports
  pub elements : MAX_ELEMENT_SEGMENTS ≡ most_elements
  pub segments : MAX_DATA_SEGMENTS ≡ most_segments
