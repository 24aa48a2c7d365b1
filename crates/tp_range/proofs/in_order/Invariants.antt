use mathlib.Core.Path.{◌≡◌}
use lib.ListN.{drop}
use Rattle.tp_range.specs.Ordered.{rising, backward}
use Rattle.tp_range.proofs.in_order.Given as goal

abbrev pub invariant-loop-r : goal.invariant-loop-r
invariant-loop-r l = rising backward 0 l.held ≡ rising backward l.low (drop l.r-index l.held)
