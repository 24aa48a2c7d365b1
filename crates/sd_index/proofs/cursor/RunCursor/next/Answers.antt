-- `cursor::RunCursor::next` meets its contract: behind what it hands out, and where it was after a refusal. Assumes nothing.
use native.Mathlib.Omega.{arith}
use Rattle.sd_index.specs.Steps.{run_said}
use Rattle.sd_index.proofs.StepLaws.{run_some, run_counted, run_kept}
use Rattle.sd_index.proofs.cursor.RunCursor.next.Goals as goal

pub overflow_add-result : goal.overflow_add-result
overflow_add-result c =
    let below = run_counted c.args.options.now c.args.table.now c.args.count (run_said c.args.self) _ c.in-Ok.ensures in
    omega (arith, below, c)

pub overflow_sub-result : goal.overflow_sub-result
overflow_sub-result c = run_some c.args.options.now c.args.table.now c.args.count (run_said c.args.self) _ c.in-Ok.ensures

pub returns-in-Err : goal.returns-in-Err
returns-in-Err c =
    record {
      answer = c.in-Err.ensures;
      cursor = run_kept c.args.options.now c.args.table.now c.args.count (run_said c.args.self) _ c.in-Err.ensures;
    }
