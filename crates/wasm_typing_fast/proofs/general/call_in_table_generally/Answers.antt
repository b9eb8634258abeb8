use Rattle.wasm_typing_fast.proofs.general.call_in_table_generally.Goals as goal

pub returns-clause-took : goal.returns-clause-took
returns-clause-took g c =
    c.as_fast.ensures _ _ _ c.call_indirect.ensures.took
