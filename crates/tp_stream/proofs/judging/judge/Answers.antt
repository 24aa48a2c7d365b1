-- `tp_stream::judging::judge` meets its contract: what reading and the header's tests say of each case. Assumes nothing.
use Rattle.std.proofs.lemmas.Result.{err_from_is_err_and}
use mathlib.Core.Path.{ap, ◌∙◌}
use mathlib.Core.Bool.{cond}
use mathlib.Core.List.{List}
use Rattle.tp_machine.specs.declared.TpRange.{TpRange}
use Rattle.tp_machine.specs.Ranges.{greatest_end}
use Rattle.tp_stream.specs.Stream.{view}
use Rattle.tp_stream.proofs.MalformedLaws.{few_counted}
use Rattle.tp_stream.proofs.JudgingLaws.{judged_passed, judged_header}
use Rattle.tp_stream.proofs.judging.judge.Goals as goal

pub returns-in_err-judge_header : goal.returns-in_err-judge_header
returns-in_err-judge_header c =
    let s = c.args.s.now in
    let good = c.in_ok-well_formed.ensures in
    let p = err_from_is_err_and c.from_residual-in_err-judge_header.result c.from_residual-in_err-judge_header.ensures.1 in
    rw (p.1, p.2)
    (judged_header (view s) _ _ good c.in_ok-header.header c.in_ok-header.ensures _
    (c.least_end-least.ensures ∙ ap (λ (l : List TpRange). cond c.in_ok-header.header.more 0 (greatest_end l)) (c.held.ensures (few_counted s good)))
    _ c.in_err-judge_header.ensures)

pub returns : goal.returns
returns c =
    let s = c.args.s.now in
    let good = c.in_ok-well_formed.ensures in
    judged_passed (view s) _ _ good c.in_ok-header.header c.in_ok-header.ensures _
    (c.least_end-least.ensures ∙ ap (λ (l : List TpRange). cond c.in_ok-header.header.more 0 (greatest_end l)) (c.held.ensures (few_counted s good)))
    c.in_ok-judge_header.ensures
