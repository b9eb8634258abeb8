use Rattle.std.proofs.Common.{rules}
use Rattle.wasm_typing_validator.proofs.FrameQueries.{few_counted, many_counted}
use Rattle.wasm_typing_validator.proofs.validator.OperatorValidator.count_labels.Goals as goal

pub returns-then-outer-lt4294967295 : goal.returns-then-outer-lt4294967295
returns-then-outer-lt4294967295 g c =
    few_counted c.args.self.now.stacks.is_open c.args.self.now.stacks.frame c.args.self.now.stacks.outer c.len-outer.result
    (search rules) c.len-outer.ensures c.if-outer-lt4294967295.true

pub returns-else-outer-lt4294967295 : goal.returns-else-outer-lt4294967295
returns-else-outer-lt4294967295 g c =
    many_counted c.args.self.now.stacks.is_open c.args.self.now.stacks.frame c.args.self.now.stacks.outer c.len-outer.result
    (search rules) c.len-outer.ensures c.if-outer-lt4294967295.false
