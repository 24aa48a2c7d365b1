-- `tp_words::held_in` meets its contract. In the loop the first i ranges stand in the array. Assumes nothing.
use mathlib.Core.Path.{◌≡◌, refl, ap, ◌∙◌}
use native.Mathlib.Omega.{arith}
use lib.ListN.{replicate, set}
use Rattle.tp_machine.specs.declared.TpRange.{TpRange}
use Rattle.tp_machine.specs.Machine.{most}
use Rattle.tp_range.specs.Joining.{none}
use Rattle.tp_words.specs.Words.{ranges_in}
use Rattle.tp_words.proofs.PutLaws.{held}
use Rattle.tp_words.proofs.WordLaws.{read_in, read_starts, read_more, read_ends}
use Rattle.tp_words.proofs.held_in.Goals as goal

pub loop-i-init : goal.loop-i-init
loop-i-init c = read_starts c.args.words.now (replicate most none)

pub loop-i-preserved : goal.loop-i-preserved
loop-i-preserved c =
    ap (λ (r : TpRange). set c.loop-i.range-items c.loop-i.i r) c.range_at.ensures
    ∙ read_more c.args.words.now (replicate most none) c.loop-i.range-items c.loop-i.i (omega arith) c.loop-i.invariant

pub returns : goal.returns
returns c =
    let words = c.args.words.now in
    let done : c.loop-i.i ≡ most = omega arith in
    let all : c.loop-i.range-items ≡ ranges_in words most =
    read_ends words (replicate most none) c.loop-i.range-items most refl (c.loop-i.invariant ∙ ap (read_in words (replicate most none)) done) in
    held words c.loop-i.range-items c.end_of.result all c.end_of.ensures
