use Rattle.wasm_validator_references.proofs.PieceReferences.{pieces_name_what_is_referenced}
use Rattle.wasm_validator_references.proofs.pieces_name_what_is_referenced.Goals as goal

pub returns : goal.returns
returns c = record { names = pieces_name_what_is_referenced }
