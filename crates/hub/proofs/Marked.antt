-- The rules' marked cases hold of the definitions. Assumes nothing.
use mathlib.Core.List.{List, [], ◌∷◌, ◌++◌, map}
use Rattle.numbers.specs.Answers.{All}
use Rattle.sd_format.specs.Cases as discovery
use Rattle.sd_format.proofs.Cases as discovered
use Rattle.tp_machine.specs.Cases as joining
use Rattle.tp_machine.proofs.Cases as run
use Rattle.hub.specs.Marked.{read, joined, Holds, MarkedCases}

streams : (cs : List joining.Case) → joining.Hold cs → All Holds (map joined cs)
streams [] h = tt
streams (c ∷ cs) h = (h.0, streams cs h.1)

both : (cs : List discovery.Case) (ds : List joining.Case) → All discovery.Holds cs → joining.Hold ds → All Holds (map read cs ++ map joined ds)
both [] ds h k = streams ds k
both (c ∷ cs) ds h k = (h.0, both cs ds h.1 k)

pub marked_cases : MarkedCases
marked_cases = both discovery.table joining.table discovered.cases run.cases
