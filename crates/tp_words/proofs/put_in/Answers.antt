-- `tp_words::put_in` meets its contract. Assumes nothing.
use mathlib.Core.Path.{refl}
use Rattle.tp_words.specs.Words.{words_of}
use Rattle.tp_words.proofs.PutLaws.{words_both}
use Rattle.tp_words.proofs.put_in.Goals as goal

pub returns : goal.returns
unfolding words_of
returns c =
    words_both c.args.words.now c.args.stream _ _ _ _ _ _ _ refl c.known_of.ensures c.unwrap_or.ensures c.copy_from_slice.ensures.after c.put_ranges.ensures
