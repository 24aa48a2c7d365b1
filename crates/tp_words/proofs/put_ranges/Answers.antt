-- `tp_words::put_ranges` meets its contract. In the loop the first i ranges stand in the words. Assumes nothing.
use mathlib.Core.Path.{◌≡◌, refl}
use native.Mathlib.Omega.{arith}
use borrow.Author.Rules.{rules}
use lib.ListN.{length}
use Rattle.tp_machine.specs.Machine.{most}
use Rattle.tp_words.specs.Words.{size, flat}
use Rattle.tp_words.proofs.WordLaws.{laid_starts, laid_more}
use Rattle.tp_words.proofs.put_ranges.Goals as goal

pub loop-i-init : goal.loop-i-init
loop-i-init c = laid_starts c.args.words.now c.args.ranges.now

-- as many ranges and words as the array's type says
pub loop-i-preserved : goal.loop-i-preserved
unfolding flat
loop-i-preserved c =
    let many : length c.args.ranges.now ≡ most = search rules in
    let long : length c.args.words.now ≡ size = search rules in
    laid_more c.args.words.now c.args.ranges.now (omega arith) c.loop-i.i _ _ _ (omega arith) refl c.loop-i.words c.loop-i.invariant
