-- `tp_stream::begin` meets its contract. Assumes nothing.
use Rattle.tp_stream.proofs.StreamLaws.{began_not, began_well}
use Rattle.tp_stream.proofs.begin.Goals as goal

pub returns-then-limit-gt-MAX_LIMIT : goal.returns-then-limit-gt-MAX_LIMIT
returns-then-limit-gt-MAX_LIMIT c = began_not _ _ c.if-limit-gt-MAX_LIMIT.true c.fresh.ensures

pub returns : goal.returns
returns c = began_well _ _ c.if-limit-gt-MAX_LIMIT.false c.fresh-2.ensures
