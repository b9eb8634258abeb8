use Rattle.std.proofs.Common.{◌≡◌, leb, length}
use Rattle.wasm_operators.specs.Control.{catch_at}
use Rattle.wasm_operators.specs.SeenLists.{items_left}
use Rattle.wasm_typing_blocks.proofs.tries.are_few.Given as goal

abbrev pub invariant-counting : goal.invariant-counting
invariant-counting l = leb (length (items_left catch_at l.initial.left)) l.initial.room ≡ leb (length (items_left catch_at l.left)) l.room

abbrev pub decreases-counting : goal.decreases-counting
decreases-counting l = length (items_left catch_at l.left)
