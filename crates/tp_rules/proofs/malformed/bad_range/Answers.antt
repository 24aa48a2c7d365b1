-- `tp_rules::malformed::bad_range` meets its contract. Assumes nothing.
use native.Mathlib.Omega.{arith}
use Rattle.tp_rules.proofs.MalformedLaws.{bad_tests}
use Rattle.tp_rules.proofs.malformed.bad_range.Goals as goal

pub returns-then-top-r : goal.returns-then-top-r
returns-then-top-r c = λ p reach counts. let e = bad_tests p c.args.r c.args.top c.args.accepted reach counts in grind arith

pub returns-else-top-r : goal.returns-else-top-r
returns-else-top-r c = λ p reach counts. let e = bad_tests p c.args.r c.args.top c.args.accepted reach counts in grind arith
