-- `tp_words::outside` meets its contract. Assumes nothing.
use Rattle.tp_words.proofs.PutLaws.{outside_made}
use Rattle.tp_words.proofs.outside.Goals as goal

pub returns : goal.returns
returns c = outside_made
