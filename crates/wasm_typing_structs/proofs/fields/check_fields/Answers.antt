use Rattle.std.proofs.Common.{◌-◌, rules, length, ◌∙◌, ap}
use Rattle.wasm_typing_checks.specs.WasmTypingStacks.SeenTypeWords.{val_in}
use Rattle.wasm_typing_checks.specs.WasmValidatorResources.Answers.{world}
use Rattle.wasm_typing_checks.specs.WasmTypingStacks.BodyStacks.{state_of, below}
use Rattle.wasm_typing_structs.proofs.FieldOperands.{next_missing, all_popped}
use Rattle.wasm_typing_structs.proofs.fields.check_fields.Goals as goal

pub returns-in_err-next : goal.returns-in_err-next
returns-in_err-next g c =
    let e =
    next_missing (world (g.T.WasmModuleResources.context c.args.resources.now)) c.args.fields.now c.filling.i c.index-fields-count.result (val_in c.new.result) (below c.args.taken (state_of c.args.stacks.now)) (below c.filling.taken (state_of c.args.stacks.now))
    c.filling-test.true (c.new.ensures ∙ c.unpack.ensures) c.filling.invariant.so_far c.in_err-next.ensures in
    search rules

-- src/fields.rt:57:13
pub returns-then-next-taken : goal.returns-then-next-taken
returns-then-next-taken g c =
    let e =
    all_popped (world (g.T.WasmModuleResources.context c.args.resources.now)) c.args.fields.now (length c.args.fields.now - c.filling.i) (val_in c.new.result) (below c.args.taken (state_of c.args.stacks.now)) (below c.filling.taken (state_of c.args.stacks.now)) (below c.in_ok-next.next (state_of c.args.stacks.now))
    c.filling.invariant.so_far c.in_ok-next.ensures.0 (ap (λ n. below n (state_of c.args.stacks.now)) c.if-next-taken.true) in
    (e, c.filling.invariant.there)
