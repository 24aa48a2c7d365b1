-- `reading::read_index` meets its contract: reading with the discard setting on is the index alone. Assumes nothing.
use mathlib.Core.Path.{subst}
use mathlib.Core.List.{List}
use Rattle.numbers.specs.Answers.{Answer}
use Rattle.sd_format.specs.Frames.{Frame}
use Rattle.sd_option.specs.Settings.{settings_said}
use Rattle.sd_index.specs.Indexed.{Indexed}
use Rattle.sd_index.proofs.IndexLaws.{indexed_alone}
use Rattle.sd_index.proofs.reading.read_index.Goals as goal

pub returns : goal.returns
returns c =
    subst (λ (x : Answer (List Frame)). Indexed x c.args.table.now c.read_options.new.table c.read_options.result) (indexed_alone (settings_said c.args.settings) c.args.options.now) c.read_options.ensures
