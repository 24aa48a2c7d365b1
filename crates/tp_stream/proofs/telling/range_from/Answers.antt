-- `tp_stream::telling::range_from` meets its contract. Assumes nothing.
use mathlib.Core.Path.{ap, ◌∙◌}
use Rattle.tp_machine.specs.Telling.{first_from}
use Rattle.tp_stream.specs.Telling.{range_said}
use Rattle.tp_stream.proofs.MalformedLaws.{few_counted}
use Rattle.tp_stream.proofs.TellingLaws.{range_good, range_or_nothing}
use Rattle.tp_stream.proofs.telling.range_from.Goals as goal

pub returns : goal.returns
returns c =
    let good = c.in_ok-well_formed.ensures in
    ap range_said c.ok_or.ensures.value
    ∙ range_or_nothing _
    ∙ c.first_from.ensures
    ∙ ap (first_from c.args.from) (c.held.ensures (few_counted c.args.s good))
    ∙ range_good _ good _
