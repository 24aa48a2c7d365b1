use mathlib.Core.Path.{◌≡◌}
use lib.ListN.{replicate}
use Rattle.tp_machine.specs.Machine.{most}
use Rattle.tp_range.specs.Joining.{none}
use Rattle.tp_words.proofs.WordLaws.{read_in}
use Rattle.tp_words.proofs.held_in.Given as goal

abbrev pub invariant-loop-i : goal.invariant-loop-i
invariant-loop-i l = l.range-items ≡ read_in l.words (replicate most none) l.i
