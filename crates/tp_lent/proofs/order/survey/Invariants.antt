use Prim.Native.Nat.{ℕ, ◌+◌, ◌≤◌, ◌<◌}
use mathlib.Core.Path.{◌≡◌}
use mathlib.Core.Bool.{false}
use mathlib.Core.List.{List}
use lib.ListN.{drop}
use Rattle.tp_machine.specs.declared.TpRange.{TpRange}
use Rattle.tp_machine.specs.Lists.{counted}
use Rattle.tp_machine.specs.Ranges.{ends_before, begins_by}
use Rattle.tp_machine.specs.Machine.{bad_range}
use Rattle.tp_range.specs.Ordered.{rising}
use Rattle.tp_words.specs.Words.{state_of}
use Rattle.tp_lent.specs.Lent.{held, top_of}
use Rattle.tp_lent.proofs.order.survey.Given as goal

pub record Sofar (ws : List ℕ) (new : TpRange) (low before behind i : ℕ) : Type 0 where
  pub few : before ≤ i
  pub fewer : behind ≤ i
  -- as long as none has reached too far
  pub rises : low ≤ top_of ws + 1 → rising (bad_range (state_of ws)) 0 (held ws) ≡ rising (bad_range (state_of ws)) low (drop i (held ws))
  pub past : top_of ws + 1 < low → rising (bad_range (state_of ws)) 0 (held ws) ≡ false
  pub befores : before + counted (ends_before new.start) (drop i (held ws)) ≡ counted (ends_before new.start) (held ws)
  pub behinds : behind + counted (begins_by new.end) (drop i (held ws)) ≡ counted (begins_by new.end) (held ws)

abbrev pub invariant-loop-i : goal.invariant-loop-i
invariant-loop-i l = Sofar l.stream.words.now l.new l.low l.before l.behind l.i
