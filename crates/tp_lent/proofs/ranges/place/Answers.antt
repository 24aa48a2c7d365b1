-- `tp_lent::ranges::place` meets its contract: where the arms meet those behind stand behind the place of the joined range. Assumes nothing.
use Prim.Native.Nat.{◌+◌, ◌*◌, ◌≤◌}
use mathlib.Core.Path.{◌≡◌, ap, ◌∙◌}
use native.Mathlib.Omega.{arith}
use lib.ListN.{length, take, drop}
use Rattle.tp_machine.specs.Machine.{most}
use Rattle.tp_machine.specs.Segments.{pasted}
use Rattle.tp_words.specs.Words.{size, ranges_in, flat}
use Rattle.tp_lent.proofs.PlaceLaws.{moved, there, put_placed}
use Rattle.tp_lent.proofs.ranges.place.Goals as goal
use Rattle.tp_lent.proofs.ranges.place.Goals.{then-behind-before, else-behind-before}

pub returns : goal.returns
returns c =
    let ws = c.args.words.now in
    let a = c.args in
    let f = c.args.found in
    let p = c.requires in
    let long : size ≤ length ws = omega arith in
    let first : c.if-behind-before.words ≡ pasted ws (5 + 3 * (f.before + 1)) (flat (drop f.behind (take a.count (ranges_in ws most)))) =
    elim c.if-behind-before.branch [
      | then-behind-before w ↦ w.words-is ∙ w.shift.ensures ∙ ap (pasted ws (5 + 3 * (f.before + 1))) (moved ws long a.count f.before f.behind a.grown p.0 p.1 p.2 p.3)
      | else-behind-before w ↦ w.words-is ∙ there ws long a.count f.before f.behind a.grown p.0 p.1 p.2 p.3 w.if-behind-before.false
    ] in
    c.put_range.ensures ∙ put_placed ws long a.count f.before f.behind a.grown p.0 p.1 p.2 p.3 c.if-behind-before.words first
