use Rattle.std.proofs.Common.{◌≡◌, take}
use Rattle.std.specs.List.{flat_map}
use Rattle.ruthvelka_c.specs.Lists.{functions_of}
use Rattle.ruthvelka_c.proofs.lists.gather_functions.Given as goal

abbrev pub invariant-answers : goal.invariant-answers
invariant-answers l = l.ids.items ≡ flat_map functions_of (take l.answer-index l.answers)
