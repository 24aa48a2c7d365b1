-- `tp_stream::report` meets its contract: where an end is given, the report fits the buffer. Assumes nothing.
use mathlib.Core.Path.{sym, ap, ◌∙◌}
use Prim.Native.Nat.{ℕ}
use native.Mathlib.Omega.{arith}
use lib.Seq.{length-take-le}
use Rattle.numbers.specs.Answers.{Answer, given}
use Rattle.tp_machine.specs.Taking.{report}
use Rattle.tp_machine.proofs.Steps.{ready_tells}
use Rattle.refusal.specs.Said.{count_said}
use Rattle.tp_stream.proofs.report.Goals as goal

pub returns-in_default : goal.returns-in_default
unfolding given
returns-in_default c = ap (λ (a : Answer ℕ). report a c.args.buf.now) (ap count_said (sym c.in_default.is) ∙ c.ready.ensures)

pub overflow_add-n : goal.overflow_add-n
overflow_add-n c = omega (arith, ready_tells _ _ _ c.in-Ok.ensures)

pub slice_bounds-result-end-2 : goal.slice_bounds-result-end-2
slice_bounds-result-end-2 c = sym (length-take-le _ _ (ready_tells _ _ _ c.in-Ok.ensures).0)

pub returns : goal.returns
unfolding given
returns c = ap (λ (a : Answer ℕ). report a c.args.buf.now) c.in-Ok.ensures
