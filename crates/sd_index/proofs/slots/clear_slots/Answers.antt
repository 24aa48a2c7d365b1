-- `slots::clear_slots` meets its contract: zeros in the first 347 slots, or nothing written where there are fewer. Assumes nothing.
use Rattle.sd_index.proofs.SlotLaws.{cleared_short, cleared_long}
use Rattle.sd_index.proofs.slots.clear_slots.Goals as goal

pub returns-in-Some : goal.returns-in-Some
returns-in-Some c = cleared_long c.in-Some.ensures.cases (c.fill.ensures.after (λ y e. e))

pub returns-in_default : goal.returns-in_default
returns-in_default c = cleared_short _ c.in_default.ensures.cases
