-- `tp_range::insert` meets its contract: those from `at` on are moved one place further, and the range is put in their place. Assumes nothing.
use Prim.Native.Nat.{ℕ, ◌≤◌}
use mathlib.Core.Path.{ap, ◌∙◌}
use mathlib.Core.List.{List}
use lib.ListN.{set}
use native.Mathlib.Omega.{arith}
use Rattle.std.proofs.lemmas.Grind.{common_steps}
use Rattle.tp_machine.specs.declared.TpRange.{TpRange}
use Rattle.tp_range.proofs.Laws.{copied, moved_in, place}
use Rattle.tp_range.proofs.insert.Goals as goal

pub returns : goal.returns
returns c =
    let at : ℕ = c.place_of-at.result in
    let low : at ≤ c.args.count = grind (arith, common_steps) in
    ap (λ (l : List TpRange). set l at c.args.new) (c.copy_within.ensures.after ∙ copied c.args.ranges c.args.count (omega arith) at low)
    ∙ moved_in c.args.ranges c.args.count (omega arith) c.args.new at (c.place_of-at.ensures.first ∙ ap (place c.args.new.start) c.held.ensures)
