use Rattle.ruthvelka_c.proofs.queries.judge_below.Goals as goal

pub returns : goal.returns
returns c = record { holds = c.is_below.result; decides = c.is_below.ensures; said = c.say.ensures }
