-- `reading::into_table` meets its contract: the reading that ran, and the table once it is settled. Assumes nothing.
use mathlib.Core.Path.{sym, ◌∙◌}
use borrow.Author.Rules.{of_calls}
use Rattle.sd_payload.proofs.ReadLaws.{settled_refused, settled_passed}
use Rattle.sd_payload.proofs.reading.into_table.Goals as goal

pub returns-then-is_err-clause-enough : goal.returns-then-is_err-clause-enough
returns-then-is_err-clause-enough g c long = (c.read-answer.new.arg2, search of_calls, c.clear_slots.ensures ∙ settled_refused _ _ (sym c.if-is_err.ensures.value))

pub returns-else-is_err-clause-enough : goal.returns-else-is_err-clause-enough
returns-else-is_err-clause-enough g c long = (c.read-answer.new.arg2, search of_calls, settled_passed _ _ (sym c.if-is_err.ensures.value))
