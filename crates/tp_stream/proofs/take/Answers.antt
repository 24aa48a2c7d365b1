-- `tp_stream::take` meets its contract. Assumes nothing.
use Rattle.tp_stream.proofs.TakingLaws.{took_end}
use Rattle.tp_stream.proofs.take.Goals as goal

pub returns : goal.returns
returns c = took_end c.args.s c.args.buf.now _ _ c.in_ok-end.ensures c.put_length.ensures
