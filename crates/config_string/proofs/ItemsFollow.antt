-- The cursor over the items of a string is refused exactly as its rules say. Assumes nothing.
use Prim.Native.Nat.{ℕ, ◌+◌}
use mathlib.Core.List.{List}
use lib.ListN.{length, get_or, drop}
use Rattle.numbers.specs.Rules.{accept}
use Rattle.numbers.proofs.TestLaws.{at_most, equal}
use Rattle.numbers.proofs.RuleLaws.{follows_accepted, follows_if, follows_then}
use Rattle.sd_format.specs.Strings.{judge_item}
use Rattle.sd_format.specs.Rules.{item_rules}
use Rattle.sd_format.proofs.StringRules.{item_follows}
use Rattle.config_string.specs.Items.{next_item, ItemsFollow}

pub items_follow : ItemsFollow
unfolding next_item
items_follow s at =
    let n : ℕ = get_or s at 0 in
    let rest : List ℕ = drop (at + 1) s in
    follows_if _ _ (at_most (length s) at)
    (follows_if _ _ (equal n 0)
    (follows_then (judge_item at n rest) _ (item_rules at n rest) accept (item_follows at n rest) (follows_accepted _)))
