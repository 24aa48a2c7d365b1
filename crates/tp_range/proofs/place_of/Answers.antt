-- `tp_range::place_of` meets its contract. Assumes nothing.
use mathlib.Core.Path.{◌≡◌, ap, ◌∙◌}
use borrow.Author.Rules.{rules}
use lib.Dec.{ltb}
use lib.ListN.{length}
use Rattle.std.proofs.Common.{tests, Option, ℕ}
use Rattle.std.specs.Option.{unwrap_or}
use Rattle.std.specs.List.{position}
use Rattle.std.proofs.lemmas.Iterator.{YieldsList-from_slice}
use Rattle.std.proofs.lemmas.Iterator.Search.{position_from_yields_List}
use Rattle.tp_range.proofs.FoldLaws.{first_or_all}
use Rattle.tp_range.proofs.place_of.Goals as goal

pub returns-clause-first : goal.returns-clause-first
returns-clause-first c =
    let found : c.position.result ≡ position (λ r. ltb c.args.start r.start) c.args.held.now = position_from_yields_List _ _ _ _ c.position.ensures.ran (YieldsList-from_slice c.args.held.now cc) (λ x b q k. search (rules, tests)) in
    c.unwrap_or.ensures ∙ ap (λ (o : Option ℕ). unwrap_or o (length c.args.held.now)) found ∙ first_or_all (λ r. ltb c.args.start r.start) c.args.held.now
