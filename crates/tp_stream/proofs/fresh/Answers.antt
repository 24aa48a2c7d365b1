-- `tp_stream::fresh` meets its contract. Assumes nothing.
use Rattle.tp_stream.proofs.StreamLaws.{fresh_stored}
use Rattle.tp_stream.proofs.fresh.Goals as goal

pub returns : goal.returns
returns c = fresh_stored _
