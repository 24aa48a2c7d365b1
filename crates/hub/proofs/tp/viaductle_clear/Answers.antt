-- `tp::viaductle_clear` meets its contract. Assumes nothing.
use Rattle.std.proofs.Common.{rules}
use Rattle.hub.proofs.TpLaws.{clears}
use Rattle.hub.proofs.tp.viaductle_clear.Goals as goal

pub returns : goal.returns
returns c = clears c.args.words.now _ _ c.clear.ensures _ (search rules)
