use Rattle.wasm_parser.specs.Machine.{start}
use Rattle.wasm_parser.proofs.Law.{run_framed, framed_run}
use Rattle.wasm_parser.proofs.RunFronts.{front, grows, ends, stuck, one_run}
use Rattle.wasm_parser.proofs.PieceCounts.{falls}
use Rattle.wasm_parser.proofs.laws.Goals as goal

pub returns-clause-framed : goal.returns-clause-framed
returns-clause-framed c = run_framed

pub returns-clause-run : goal.returns-clause-run
returns-clause-run c = framed_run

pub returns-clause-one : goal.returns-clause-one
returns-clause-one c = λ bytes ps qs f g. one_run (start bytes) ps qs (framed_run bytes ps f) (framed_run bytes qs g)

pub returns-clause-front : goal.returns-clause-front
returns-clause-front c = λ bytes ps all t g f. front ps (start bytes) t all g (framed_run bytes all f)

pub returns-clause-refused : goal.returns-clause-refused
returns-clause-refused c = λ bytes ps all t g e f. let b = front ps (start bytes) t all g (framed_run bytes all f) in stuck t b.0 e b.2

pub returns-clause-grows : goal.returns-clause-grows
returns-clause-grows c = λ s t u ps p g e. grows ps s t u p g e

pub returns-clause-ends : goal.returns-clause-ends
returns-clause-ends c = λ s t ps g e. ends ps s t g e

pub returns-clause-fewer : goal.returns-clause-fewer
returns-clause-fewer c = λ s t p e. falls s p t e
