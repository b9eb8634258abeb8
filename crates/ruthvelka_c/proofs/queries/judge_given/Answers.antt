use Rattle.ruthvelka_c.proofs.queries.judge_given.Goals as goal

pub returns : goal.returns
returns c = record { holds = c.may_be_given.result; decides = c.may_be_given.ensures; said = c.say.ensures }
