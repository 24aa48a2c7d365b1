use Prim.Native.Nat.{◌-◌}
use lib.ListN.{length}
use Rattle.refusal.specs.Said.{verdict_said}
use Rattle.sd_option.specs.Settings.{settings_said}
use Rattle.sd_index.proofs.Turns.{Turn}
use Rattle.sd_index.proofs.reading.sweep.Given as goal

abbrev pub invariant-loop-at : goal.invariant-loop-at
invariant-loop-at l = Turn (settings_said l.settings) l.options l.initial.slots l.slots l.at.0 l.count.0 (verdict_said l.permission)

abbrev pub decreases-loop-at : goal.decreases-loop-at
decreases-loop-at l = length l.options - l.at.0
