-- The stack-switching proposal, Binary Format, Instructions: the instructions on continuations, by one byte.
use Rattle.std.specs.Prelude.{ℕ, ◌==◌, if◌then◌else◌, List, Option, None}
use Rattle.std.specs.Option.{option_map, option_and_then}
use Rattle.wasm_operators_plain.specs.WasmSpec.Values.{byte_at, u32_at, list_at}
use Rattle.wasm_operators_plain.specs.Immediates.{one_index, two_indices}
use Rattle.wasm_operators_proposals.specs.declared.continuations.Handle.{Handle}
use Rattle.wasm_operators_proposals.specs.declared.continuations.Handle.TheVariants.{OnLabel, OnSwitch}

-- a new continuation of a function; one with some of its arguments; a suspension; resuming, with a value, with an exception of a tag and
-- with a reference to one, each with handlers; and switching to another one. Continuation types and tags are told by their index.
pub data Continuation : Type 0 where
  cont_new suspend : ℕ → Continuation
  cont_bind switch : ℕ → ℕ → Continuation
  resume resume_throw_ref : ℕ → List Handle → Continuation
  resume_throw : ℕ → ℕ → List Handle → Continuation

abbrev pub continuation_opcode : Continuation → ℕ
continuation_opcode (cont_new n) = 0xe0
continuation_opcode (cont_bind m n) = 0xe1
continuation_opcode (suspend x) = 0xe2
continuation_opcode (resume n hs) = 0xe3
continuation_opcode (resume_throw n x hs) = 0xe4
continuation_opcode (resume_throw_ref n hs) = 0xe5
continuation_opcode (switch n x) = 0xe6

-- a handler, by its first byte
abbrev pub handle_from : ℕ → List ℕ → Option (Handle × List ℕ)
handle_from b bytes =
    if b == 0 then two_indices OnLabel bytes
    else (if b == 1 then one_index OnSwitch bytes
    else None)

unfoldable pub handle_at : List ℕ → Option (Handle × List ℕ)
handle_at bytes = option_and_then (λ b. handle_from b.0 b.1) (byte_at bytes)

unfoldable pub handles_at : List ℕ → Option (List Handle × List ℕ)
handles_at bytes = list_at handle_at bytes

-- a list of handlers behind an index, and behind two
abbrev pub index_and_handles : (ℕ → List Handle → Continuation) → List ℕ → Option (Continuation × List ℕ)
index_and_handles op bytes = option_and_then (λ n. option_map (λ hs. (op n.0 hs.0, hs.1)) (handles_at n.1)) (u32_at bytes)

abbrev pub indices_and_handles : (ℕ → ℕ → List Handle → Continuation) → List ℕ → Option (Continuation × List ℕ)
indices_and_handles op bytes = option_and_then (λ n. index_and_handles (op n.0) n.1) (u32_at bytes)

-- the instruction of this byte
unfoldable pub continuation_from : ℕ → List ℕ → Option (Continuation × List ℕ)
continuation_from b bytes =
    if b == 0xe0 then one_index cont_new bytes
    else (if b == 0xe1 then two_indices cont_bind bytes
    else (if b == 0xe2 then one_index suspend bytes
    else (if b == 0xe3 then index_and_handles resume bytes
    else (if b == 0xe4 then indices_and_handles resume_throw bytes
    else (if b == 0xe5 then index_and_handles resume_throw_ref bytes
    else (if b == 0xe6 then two_indices switch bytes
    else None))))))
