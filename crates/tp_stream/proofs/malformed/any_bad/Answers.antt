-- `tp_stream::malformed::any_bad` meets its contract. Assumes nothing.
use Rattle.std.proofs.Common.{rules, tests, ◌∙◌}
use Rattle.std.proofs.lemmas.Iterator.{YieldsList-from_slice}
use Rattle.std.proofs.lemmas.Iterator.Search.{any_from_yields_List}
use Rattle.tp_machine.specs.Machine.{bad_range}
use Rattle.tp_stream.proofs.MalformedLaws.{any_listed}
use Rattle.tp_stream.proofs.malformed.any_bad.Goals as goal

pub returns : goal.returns
returns c =
    λ p reach e.
    any_from_yields_List (bad_range p) _ _ _ c.any.ensures.ran (YieldsList-from_slice c.args.held.now cc) (λ x b q k. search (rules, tests))
    ∙ any_listed (bad_range p) c.args.held.now
