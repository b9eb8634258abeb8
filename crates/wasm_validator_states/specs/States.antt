-- The machine: where a payload leads a validator that stands somewhere, what it hands out, and where a refusal leaves it.
use Rattle.std.specs.Prelude.{ℕ, ◌+◌, ◌==◌, nat_le, Bool, true, false, not, ◌&&◌, ◌||◌, cond, if◌then◌else◌, List, [], ◌∷◌, length, slice_get, Option, Some, None, ⊤}
use Rattle.wasm_readers_errors.specs.WasmReadersFeatures.declared.features.WasmFeatures.{WasmFeatures}
use Rattle.wasm_spec_rules.specs.FeatureFlags.{features_of}
use Rattle.wasm_validator_types.specs.Spaces.{Spaces, no_spaces}
use Rattle.wasm_spec.specs.Framing as parts
use Rattle.wasm_spec.specs.Framing.{Piece, Version, Custom, Counted, Start, DataCount, CodeStart, CodeEntry, Unknown}
use Rattle.wasm_spec_rules.specs.Contexts.{Context}
use Rattle.wasm_readers_types.specs.WasmReadersValues.declared.indices.UnpackedIndex.{UnpackedIndex}
use Rattle.wasm_validator_sections.specs.WasmValidatorReferences.References.{section_names}
use Rattle.wasm_validator_sections.specs.declared.code_state.TheConstants.{MAX_FUNCTION_SIZE}
use Rattle.wasm_validator_sections.specs.WasmValidatorCore.Answers.{TypesSoFar}
use Rattle.wasm_validator_sections.specs.ModuleNotes.{nothing_noted, naming, counting, noting_nothing}
use Rattle.wasm_validator_sections.specs.CodeProgress.{Started, starting, taking, bodies_left}
use Rattle.wasm_validator_states.specs.ValidatorStages.{Stage, unparsed, in_module, in_code, ended, failed, Standing, ended_at, refused_at, read_refused_at, body_refused_at, within, within_all, at_stage}
use Rattle.wasm_validator_sections.specs.Machine.{section_items, start_item, data_count_item, beside}

-- the header of a module of version 1 begins a module
abbrev pub begun : ℕ → Bool → Stage → Option Stage
begun number is_module (unparsed types) = cond (number == 1 && is_module) (Some (in_module types no_spaces nothing_noted)) None
begun number is_module (in_module types spaces more) = None
begun number is_module (in_code types spaces more) = None
begun number is_module (ended types) = None
begun number is_module failed = None

abbrev pub after_version : Standing → ℕ → Bool → Option Standing
after_version s number is_module = at_stage s (begun number is_module s.stage)

-- a section by its id: the data section may come behind the start of the code, and the functions that the others name are noted
abbrev pub within_by : ℕ → List ℕ → (TypesSoFar × Spaces → Option (TypesSoFar × Spaces)) → Stage → Option Stage
within_by id names f g = if id == 11 then within_all f g else within (naming names) f g

abbrev pub after_section : Standing → ℕ → ℕ → List ℕ → Option Standing
after_section s id count bytes = at_stage s (within_by id (section_names id count bytes) (section_items s.features id count bytes) s.stage)

-- the start function and the data count
abbrev pub after_start : Standing → ℕ → Option Standing
after_start s x = at_stage s (within noting_nothing (beside (λ us t. start_item us t x)) s.stage)

abbrev pub after_data_count : Standing → ℕ → Option Standing
after_data_count s n = at_stage s (within (counting n) (beside (λ us t. data_count_item (features_of s.features) t n)) s.stage)

-- the start of the code
abbrev pub code_started : Stage → Option Stage
code_started (unparsed types) = None
code_started (in_module types spaces more) = Some (in_code types spaces (starting types spaces more))
code_started (in_code types spaces more) = None
code_started (ended types) = None
code_started failed = None

abbrev pub after_code_start : Standing → Option Standing
after_code_start s = at_stage s (code_started s.stage)

-- a body, where one is to come, and which isn't too long
abbrev pub body_taken : List ℕ → Stage → Option Stage
body_taken bytes (unparsed types) = None
body_taken bytes (in_module types spaces more) = None
body_taken bytes (in_code types spaces more) =
    if bodies_left spaces more == 0 then None else (if nat_le (length bytes) MAX_FUNCTION_SIZE then Some (in_code types spaces (taking more)) else None)
body_taken bytes (ended types) = None
body_taken bytes failed = None

abbrev pub after_body : Standing → List ℕ → Option Standing
after_body s bytes = at_stage s (body_taken bytes s.stage)

-- A function's body that is to be validated: the function's index and its type's, the features, what it is checked in, and its bytes.
pub record BodyToValidate : Type 0 where
  pub index : ℕ
  pub ty : ℕ
  pub features : WasmFeatures
  pub context : Context UnpackedIndex
  pub bytes : List ℕ

-- the function with this index, where there is one
abbrev pub body_with : WasmFeatures → Context UnpackedIndex → ℕ → List ℕ → Option ℕ → List BodyToValidate
body_with features context index bytes None = []
body_with features context index bytes (Some ty) = record { index = index; ty = ty; features = features; context = context; bytes = bytes } ∷ []

-- that of the next function: imported ones are the first, and have none
abbrev pub next_function : Spaces → Started → ℕ
next_function s c = length s.imported_functions + c.taken

abbrev pub body_at : WasmFeatures → List ℕ → Stage → List BodyToValidate
body_at features bytes (unparsed types) = []
body_at features bytes (in_module types spaces more) = []
body_at features bytes (in_code types spaces more) = body_with features more.context (next_function spaces more) bytes (slice_get spaces.functions (next_function spaces more))
body_at features bytes (ended types) = []
body_at features bytes failed = []

-- what a payload hands out
abbrev pub handed : Standing → Piece → List BodyToValidate
handed s (Version number kind) = []
handed s (Custom name bytes) = []
handed s (Counted id count bytes) = []
handed s (Start index) = []
handed s (DataCount count) = []
handed s (CodeStart count size) = []
handed s (CodeEntry bytes) = body_at s.features bytes s.stage
handed s (Unknown id bytes) = []
handed s parts.End = []

-- the end of a module
abbrev pub module_ended : Stage → Option Stage
module_ended (unparsed types) = None
module_ended (in_module types spaces more) = Some (ended types)
module_ended (in_code types spaces more) = Some (ended types)
module_ended (ended types) = None
module_ended failed = None

abbrev pub after_end : Standing → Option Standing
after_end s = at_stage s (module_ended s.stage)

-- a payload, without where it lies
abbrev pub after_piece : Standing → Piece → Option Standing
after_piece s (Version number kind) = after_version s number (kind == 0)
after_piece s (Custom name bytes) = Some s
after_piece s (Counted id count bytes) = after_section s id count bytes
after_piece s (Start index) = after_start s index
after_piece s (DataCount count) = after_data_count s count
after_piece s (CodeStart count size) = after_code_start s
after_piece s (CodeEntry bytes) = after_body s bytes
after_piece s (Unknown id bytes) = None
after_piece s parts.End = after_end s

-- a section of tags is barred where there are no exceptions
abbrev pub is_barred : WasmFeatures → ℕ → Bool
is_barred features id = (id == 13) && not (features_of features).exceptions

-- what a refused section leaves, by its id
abbrev pub section_refused_at : WasmFeatures → ℕ → Stage → Stage
section_refused_at features id g = if (id == 11) || is_barred features id then read_refused_at g else refused_at g

-- what a refused payload leaves: the header, an unknown section and a body out of place change nothing
abbrev pub left_by : Standing → Piece → Stage
left_by s (Version number kind) = s.stage
left_by s (Custom name bytes) = s.stage
left_by s (Counted id count bytes) = section_refused_at s.features id s.stage
left_by s (Start index) = refused_at s.stage
left_by s (DataCount count) = refused_at s.stage
left_by s (CodeStart count size) = refused_at s.stage
left_by s (CodeEntry bytes) = body_refused_at s.stage
left_by s (Unknown id bytes) = s.stage
left_by s parts.End = ended_at s.stage

-- Memory may be refused to this payload. The header, custom and unknown sections, the start function and the data count take none, nor do tags
-- without the exceptions proposal.
abbrev pub takes_memory : WasmFeatures → Piece → Bool
takes_memory features (Version number kind) = false
takes_memory features (Custom name bytes) = false
takes_memory features (Counted id count bytes) = if id == 13 then (features_of features).exceptions else true
takes_memory features (Start index) = false
takes_memory features (DataCount count) = false
takes_memory features (CodeStart count size) = true
takes_memory features (CodeEntry bytes) = true
takes_memory features (Unknown id bytes) = false
takes_memory features parts.End = true

-- the number of bodies that are to come, where the code section starts
abbrev pub code_count : Piece → Option ℕ
code_count (Version number kind) = None
code_count (Custom name bytes) = None
code_count (Counted id count bytes) = None
code_count (Start index) = None
code_count (DataCount count) = None
code_count (CodeStart count size) = Some count
code_count (CodeEntry bytes) = None
code_count (Unknown id bytes) = None
code_count parts.End = None

-- the piece is not the end
abbrev pub IsBeforeEnd : Piece → Type 0
IsBeforeEnd (Version number kind) = ⊤
IsBeforeEnd (Custom name bytes) = ⊤
IsBeforeEnd (Counted id count bytes) = ⊤
IsBeforeEnd (Start index) = ⊤
IsBeforeEnd (DataCount count) = ⊤
IsBeforeEnd (CodeStart count size) = ⊤
IsBeforeEnd (CodeEntry bytes) = ⊤
IsBeforeEnd (Unknown id bytes) = ⊤
IsBeforeEnd parts.End = ⊥

-- nor is it a body
abbrev pub IsSection : Piece → Type 0
IsSection (Version number kind) = ⊤
IsSection (Custom name bytes) = ⊤
IsSection (Counted id count bytes) = ⊤
IsSection (Start index) = ⊤
IsSection (DataCount count) = ⊤
IsSection (CodeStart count size) = ⊤
IsSection (CodeEntry bytes) = ⊥
IsSection (Unknown id bytes) = ⊤
IsSection parts.End = ⊥
