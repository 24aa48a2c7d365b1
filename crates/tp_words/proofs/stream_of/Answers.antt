-- `tp_words::stream_of` meets its contract. Assumes nothing.
use mathlib.Core.Path.{sym, ◌∙◌}
use Rattle.tp_words.proofs.PutLaws.{too_few, not_told, told}
use Rattle.tp_words.proofs.FirstLaws.{first_unfit, first_stream}
use Rattle.tp_words.proofs.stream_of.Goals as goal
use Rattle.tp_words.proofs.stream_of.Goals.{in_default-via-in-Some+else-not-unfit, in_default-via-in_default}

pub returns-in-Some : goal.returns-in-Some
returns-in-Some c = c.held_in.ensures ∙ told _ (sym c.if-not-unfit.ensures) ∙ first_stream _ _ c.in-Some.ensures.cases

pub returns-in_default : goal.returns-in_default
returns-in_default c =
    let ws = c.args.words.now in
    elim c.in_default.branch [
      | in_default-via-in-Some+else-not-unfit w ↦ c.outside.ensures ∙ not_told ws (sym (first_unfit _ _ w.in-Some.ensures.cases) ∙ sym w.if-not-unfit.ensures)
      | in_default-via-in_default w ↦ c.outside.ensures ∙ not_told ws (too_few ws w.in_default.ensures.cases)
    ]
