-- The machine keeps the state table.
use Rattle.std.specs.Prelude.{ℕ, ◌≡◌, ◌==◌, if◌then◌else◌, Some}
use Rattle.wasm_spec.specs.Framing as parts
use Rattle.wasm_spec.specs.Framing.{Piece, Version, Custom, Counted, Start, DataCount, CodeStart, CodeEntry, Unknown}
use Rattle.wasm_spec_rules.specs.StateTable as table
use Rattle.wasm_spec_rules.specs.StateTable.{Phase, Call, header, section, barred_section, code_start, code_entry, data_section, custom, unknown, accepted_to, refused_to}
use Rattle.wasm_validator_sections.specs.CodeProgress.{starting, bodies_left}
use Rattle.wasm_validator_states.specs.ValidatorStages.{Stage, unparsed, in_module, in_code, ended, failed, Standing}
use Rattle.wasm_validator_states.specs.States.{after_piece, is_barred, left_by}

-- so many bodies are to come
abbrev pub phase_of : Stage → Phase
phase_of (unparsed types) = table.unparsed
phase_of (in_module types spaces more) = table.in_module
phase_of (in_code types spaces more) = table.in_code (bodies_left spaces more)
phase_of (ended types) = table.ended
phase_of failed = table.failed

-- as many bodies as functions are defined
abbrev pub bodies_at : Stage → ℕ
bodies_at (unparsed types) = 0
bodies_at (in_module types spaces more) = bodies_left spaces (starting types spaces more)
bodies_at (in_code types spaces more) = bodies_left spaces more
bodies_at (ended types) = 0
bodies_at failed = 0

abbrev pub call_of : Standing → Piece → Call
call_of s (Version number kind) = header
call_of s (Custom name bytes) = custom
call_of s (Counted id n bytes) = if id == 11 then data_section else (if is_barred s.features id then barred_section else section)
call_of s (Start x) = section
call_of s (DataCount n) = section
call_of s (CodeStart n size) = code_start (bodies_at s.stage)
call_of s (CodeEntry bytes) = code_entry
call_of s (Unknown id bytes) = unknown
call_of s parts.End = table.end

-- a payload that is accepted leads where the table says
abbrev pub AcceptedByTable : Type 0
AcceptedByTable = (s t : Standing) (p : Piece) → after_piece s p ≡ Some t → accepted_to (call_of s p) (phase_of s.stage) ≡ Some (phase_of t.stage)

-- one that is refused leaves what the table says
abbrev pub RefusedByTable : Type 0
RefusedByTable = (s : Standing) (p : Piece) → refused_to (call_of s p) (phase_of s.stage) ≡ phase_of (left_by s p)
