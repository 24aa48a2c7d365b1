-- `tp_range::greatest_end` meets its contract: the greatest of 0 and the ends is the greatest end. Assumes nothing.
use Prim.Native.Nat.{max}
use mathlib.Core.Path.{◌∙◌}
use borrow.Author.Rules.{rules}
use native.Mathlib.Omega.{arith}
use Rattle.std.proofs.Common.{tests}
use Rattle.std.proofs.lemmas.Iterator.{YieldsList-from_slice}
use Rattle.std.proofs.lemmas.Iterator.Consumers.{fold_from_yields_List}
use Rattle.tp_range.proofs.FoldLaws.{greatest_is}
use Rattle.tp_range.proofs.greatest_end.Goals as goal

pub returns : goal.returns
returns c =
    fold_from_yields_List _ (λ a r. max a r.end) _ _ c.fold.ensures.ran (YieldsList-from_slice c.args.held.now cc) (λ a x b q k. search (rules, tests))
    ∙ omega (arith, greatest_is 0 c.args.held.now)
