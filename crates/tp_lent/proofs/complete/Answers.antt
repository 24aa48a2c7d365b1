-- `tp_lent::complete` meets its contract. Assumes nothing.
use mathlib.Core.Path.{ap, ◌∙◌}
use Rattle.tp_machine.specs.Taking.{complete}
use Rattle.tp_stream.specs.declared.TpStream.{TpStream}
use Rattle.tp_stream.specs.Stream.{view}
use Rattle.tp_lent.proofs.CallLaws.{completes}
use Rattle.tp_lent.proofs.OrderMeans.{incomplete}
use Rattle.tp_lent.proofs.complete.Goals as goal

pub returns-in_default : goal.returns-in_default
returns-in_default c = incomplete c.args.words.now c.in_default.ensures

pub returns : goal.returns
returns c =
    c.whole.ensures
    ∙ completes c.in-Some.stream.words.now c.in-Some.ensures.0 _ _ _ c.end.ensures c.count.ensures c.range_at.ensures
    ∙ ap (λ (s : TpStream). complete (view s)) c.in-Some.ensures.1
