-- References that are passed at once are found by the way through the bytes.
use Rattle.std.proofs.Common.{◌≡◌, ℕ, List, Some}
use Rattle.wasm_spec.specs.Syntax.{Val}
use Rattle.wasm_spec.specs.Features.{Features}
use Rattle.wasm_spec_rules.specs.Contexts.{Context}
use Rattle.wasm_readers_types.specs.WasmReadersValues.declared.indices.UnpackedIndex.{UnpackedIndex}
use Rattle.wasm_validator_constants.specs.Items.{IsItem}
use Rattle.wasm_validator_segments.specs.Expressions.{behind_expression}
use Rattle.wasm_validator_segments.proofs.ConstantBytes.{are_found}

pub item_found : (C : Context UnpackedIndex) (F : Features) (imported : ℕ) (v : Val UnpackedIndex) (bytes more : List ℕ) → IsItem C F v bytes more → behind_expression C F imported v bytes ≡ Some more
item_found C F imported v bytes more x = (are_found C F imported v bytes more).1 (record { last = x.last; is = x.is imported })
