use mathlib.Core.Path.{◌≡◌}
use lib.ListN.{length}
use Rattle.tp_machine.specs.Ranges.{some_touch}
use Rattle.tp_range.proofs.two_touch.Given as goal

abbrev pub invariant-loop-r : goal.invariant-loop-r
invariant-loop-r l = some_touch l.held ≡ some_touch l.left

abbrev pub decreases-loop-r : goal.decreases-loop-r
decreases-loop-r l = length l.left
