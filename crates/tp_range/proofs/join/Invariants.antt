use Prim.Native.Nat.{ℕ, ◌≤◌}
use mathlib.Core.Path.{◌≡◌}
use mathlib.Core.List.{List}
use lib.ListN.{length, take}
use Rattle.tp_machine.specs.declared.TpRange.{TpRange}
use Rattle.tp_machine.specs.Machine.{most}
use Rattle.tp_machine.specs.Ranges.{keep, grow}
use Rattle.tp_range.proofs.Laws.{over}
use Rattle.tp_range.proofs.join.Given as goal

-- seen are those that the loop has looked at: out has those of them that `new` does not touch, grown the others
pub record Held (new : TpRange) (array seen out : List TpRange) (kept : ℕ) (grown : TpRange) : Type 0 where
  pub long : length out ≡ most
  pub few : kept ≤ length seen
  pub counts : kept ≡ length (keep new seen)
  pub lays : out ≡ over (keep new seen) array
  pub grows : grown ≡ grow new new seen

abbrev pub invariant-loop-r : goal.invariant-loop-r
invariant-loop-r l = Held l.new l.fn.ranges (take l.r-index l.r-items) l.out l.kept l.grown
