-- What a caller of the cursor learns by its contract is what the theorem about it (sd_payload, OfTheCode) asks. Assumes nothing.
use mathlib.Core.Path.{◌≡◌}
use Rattle.sd_entry.specs.Steps.{Stepped}
use Rattle.sd_entry.proofs.cursor.EntryCursor.new.Reads as new_of
use Rattle.sd_entry.proofs.cursor.EntryCursor.next.Reads as next_of

pub starts : (κs : _) (a : _) (r : _) (e : _) → new_of.Learnt κs a r e → r.at ≡ 0
starts κs a r e learnt = learnt

pub steps : (κs : _) (a : _) (r : _) (e : _) → next_of.Learnt κs a r e → Stepped a.1.0.now a.0.at r
steps κs a r e learnt = learnt
