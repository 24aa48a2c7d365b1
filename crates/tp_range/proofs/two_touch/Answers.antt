-- `tp_range::two_touch` meets its contract: those passed touch none behind them, so the answer for all is the answer for what is left. Assumes nothing.
use mathlib.Core.Path.{◌≡◌, sym, ◌∙◌}
use mathlib.Core.Bool.{Bool, true, false, ◌||◌}
use mathlib.Core.List.{List, ◌∷◌}
use borrow.Author.Rules.{rules}
use Rattle.std.proofs.Common.{tests}
use Rattle.std.proofs.lemmas.Iterator.{YieldsList-from_slice}
use Rattle.std.proofs.lemmas.Iterator.Search.{any_from_yields_List}
use Rattle.tp_machine.specs.declared.TpRange.{TpRange}
use Rattle.tp_machine.specs.Ranges.{any, touch, some_touch}
use Rattle.tp_range.proofs.FoldLaws.{any_is}
use Rattle.tp_range.proofs.two_touch.Goals as goal

-- the first of those that are left, and whether it touches one behind it
first : (left behind : List TpRange) (r : TpRange) (hit : Bool) → left ≡ r ∷ behind → hit ≡ any (touch r) behind → some_touch left ≡ (hit || some_touch behind)
unfolding some_touch
first left behind r hit is e = rw (is, e)

pub returns-then-any : goal.returns-then-any
returns-then-any c =
    let e = any_from_yields_List (touch c.in-Some.r.now) _ _ _ c.any.ensures.ran (YieldsList-from_slice c.in-Some.behind.now cc) (λ x b q k. search (rules, tests)) in
    sym (c.loop-r.invariant ∙ first c.loop-r.left.now c.in-Some.behind.now c.in-Some.r.now true c.in-Some.ensures.cases.0 (sym c.if-any.true ∙ e ∙ sym (any_is _ _)))

pub loop-r-preserved : goal.loop-r-preserved
loop-r-preserved c =
    let e = any_from_yields_List (touch c.in-Some.r.now) _ _ _ c.any.ensures.ran (YieldsList-from_slice c.in-Some.behind.now cc) (λ x b q k. search (rules, tests)) in
    c.loop-r.invariant ∙ first c.loop-r.left.now c.in-Some.behind.now c.in-Some.r.now false c.in-Some.ensures.cases.0 (sym c.if-any.false ∙ e ∙ sym (any_is _ _))
