use mathlib.Core.Path.{◌≡◌}
use Rattle.tp_words.proofs.WordLaws.{laid}
use Rattle.tp_words.proofs.put_ranges.Given as goal

abbrev pub invariant-loop-i : goal.invariant-loop-i
invariant-loop-i l = l.words ≡ laid l.initial.words l.ranges l.i
