-- `tp_lent::clear` meets its contract. Assumes nothing.
use mathlib.Core.Path.{refl, sym, ◌∙◌}
use Rattle.tp_words.proofs.FirstLaws.{first_unfit}
use Rattle.tp_lent.proofs.CallLaws.{cleared_not, cleared_in_place}
use Rattle.tp_lent.proofs.clear.Goals as goal

pub returns-then-unfit : goal.returns-then-unfit
returns-then-unfit c = cleared_not _ (sym c.unfit.ensures ∙ c.if-unfit.true) _ refl

pub returns-in-Some : goal.returns-in-Some
returns-in-Some c =
    let first = c.in-Some.ensures.cases in
    cleared_in_place c.args.words.now _ first (first_unfit _ _ first ∙ sym c.unfit.ensures ∙ c.if-unfit.false) _ c.put_front.ensures
