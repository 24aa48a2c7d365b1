-- `cursor::RunCursor::option` meets its contract: where some of the run are left, as lookup does. Assumes nothing.
use mathlib.Core.Path.{sym, ◌∙◌}
use Rattle.sd_index.specs.Steps.{run_said}
use Rattle.sd_index.proofs.StepLaws.{run_within}
use Rattle.sd_index.proofs.cursor.RunCursor.option.Goals as goal

pub returns : goal.returns
returns c = c.look_up.ensures ∙ sym (run_within c.args.options.now c.args.table.now c.args.count (run_said c.args.self) c.if-self-eq0.false)
