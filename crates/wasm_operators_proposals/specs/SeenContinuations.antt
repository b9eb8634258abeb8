-- What contracts see of operators on continuations.
use Rattle.std.specs.Prelude.{List}
use Rattle.wasm_operators_proposals.specs.Continuations as syntax
use Rattle.wasm_operators_proposals.specs.Continuations.{Continuation, handle_at}
use Rattle.wasm_operators_proposals.specs.SeenLists.{listed}
use Rattle.wasm_operators_proposals.specs.declared.continuations.Handle.{Handle}
use Rattle.wasm_operators_proposals.specs.declared.continuations.ResumeTable.{ResumeTable}
use Rattle.wasm_operators_proposals.specs.declared.continuations.ContinuationOperator.{ContinuationOperator}
use Rattle.wasm_operators_proposals.specs.declared.continuations.ContinuationOperator.TheVariants as operator

abbrev pub handles_of : ResumeTable → List Handle
handles_of t = listed handle_at t.handlers

abbrev pub continuation_of : ContinuationOperator → Continuation
continuation_of (operator.ContNew n) = syntax.cont_new n
continuation_of (operator.ContBind m n) = syntax.cont_bind m n
continuation_of (operator.Suspend x) = syntax.suspend x
continuation_of (operator.Resume n t) = syntax.resume n (handles_of t)
continuation_of (operator.ResumeThrow n x t) = syntax.resume_throw n x (handles_of t)
continuation_of (operator.ResumeThrowRef n t) = syntax.resume_throw_ref n (handles_of t)
continuation_of (operator.Switch n x) = syntax.switch n x
