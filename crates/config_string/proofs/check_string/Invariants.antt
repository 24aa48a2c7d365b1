use Prim.Native.Nat.{◌-◌}
use mathlib.Core.Path.{◌≡◌}
use lib.ListN.{length}
use Rattle.numbers.specs.Answers.{verdict}
use Rattle.sd_format.specs.Strings.{read_string}
use Rattle.sd_format.proofs.StringLaws.{items_left}
use Rattle.config_string.proofs.check_string.Given as goal

abbrev pub invariant-loop-size : goal.invariant-loop-size
invariant-loop-size l = verdict (read_string l.s) ≡ verdict (items_left l.s l.at)

abbrev pub decreases-loop-size : goal.decreases-loop-size
decreases-loop-size l = length l.s - l.at
