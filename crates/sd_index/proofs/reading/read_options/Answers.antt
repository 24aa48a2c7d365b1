-- `reading::read_options` meets its contract: the slots are the first part of the lent table, if there are as many. Assumes nothing.
use Rattle.sd_option.specs.Settings.{settings_said}
use Rattle.sd_index.specs.Indexed.{indexed}
use Rattle.sd_index.proofs.IndexLaws.{index_few_slots, index_lent}
use Rattle.sd_index.proofs.reading.read_options.Goals as goal

pub returns-in-Some : goal.returns-in-Some
returns-in-Some c =
    index_lent (indexed (settings_said c.args.settings) c.args.options.now) c.args.table.now _ _ c.in-Some.ensures.cases.enough c.read_into.ensures.told c.read_into.ensures.left

pub returns-in-None : goal.returns-in-None
returns-in-None c = index_few_slots _ _ c.in-None.ensures.cases
