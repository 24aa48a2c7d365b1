-- `reading::read_payload` meets its contract: the reading of its parts, into a table. Assumes nothing.
use mathlib.Core.Path.{sym, ap, ◌∙◌}
use borrow.Author.Rules.{of_calls}
use Rattle.sd_payload.specs.Reads.{settled}
use Rattle.sd_payload.proofs.ReadLaws.{into_table}
use Rattle.sd_payload.proofs.reading.read_payload.Goals as goal

pub returns : goal.returns
returns c =
    into_table _ _ _ _ c.into_table.ensures.few
    (λ long. let (left, ran, is) = c.into_table.ensures.enough long in (ran.shown.now, ran.left.now, ran.shows, search (of_calls, ran.met), is ∙ ap (settled c.into_table.result) (sym ran.leaves)))
