-- `options::viaductle_index` meets its contract. Assumes nothing.
use Rattle.std.proofs.Common.{rules}
use Rattle.hub.proofs.ToldLaws.{indexes_as}
use Rattle.hub.proofs.options.viaductle_index.Goals as goal

pub returns : goal.returns
returns c = indexes_as c.settings_of.ensures c.args.options.now c.args.table.now _ _ _ c.read_index.ensures (search rules)
