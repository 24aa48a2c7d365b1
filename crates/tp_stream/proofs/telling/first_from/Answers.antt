-- `tp_stream::telling::first_from` meets its contract. Assumes nothing.
use Rattle.std.specs.Prelude.{None}
use Rattle.std.proofs.Common.{rules, tests, ap, ◌∙◌}
use Rattle.std.proofs.lemmas.Iterator.Adapters.{YieldsList-from_rev_slice}
use Rattle.std.proofs.lemmas.Iterator.Consumers.{fold_from_yields_List}
use Rattle.tp_stream.specs.Telling.{in_hand, nearest}
use Rattle.tp_stream.proofs.TellingLaws.{first_found}
use Rattle.tp_stream.proofs.telling.first_from.Goals as goal

pub returns : goal.returns
returns c =
    ap in_hand (fold_from_yields_List _ (nearest c.args.from) None _ c.fold.ensures.ran (YieldsList-from_rev_slice c.args.held.now cc) (λ a x b q k. search (rules, tests)))
    ∙ first_found c.args.from c.args.held.now
