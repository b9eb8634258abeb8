use Rattle.wasm_typing_blocks.proofs.WrittenTypeLists.{given_written}
use Rattle.wasm_typing_blocks.proofs.choices.select_typed.Goals as goal

pub select_of-requires : goal.select_of-requires
select_of-requires g c = given_written _ _ _ _ c.in-Some.ensures.steps
