-- What a caller of lookup and of the cursors learns by their contracts is what the theorem about them (sd_payload, OfTheCode) asks.
-- Assumes nothing.
use mathlib.Core.Path.{◌≡◌}
use Rattle.sd_option.specs.Settings.{settings_said}
use Rattle.sd_index.specs.Found.{found_said, look_up_told}
use Rattle.sd_index.specs.Steps.{OptionStepped, run_of, run_said, RunStepped}
use Rattle.sd_index.proofs.lookup.look_up.Reads as look_up_of
use Rattle.sd_index.proofs.cursor.OptionCursor.new.Reads as new_of
use Rattle.sd_index.proofs.cursor.OptionCursor.next.Reads as next_of
use Rattle.sd_index.proofs.cursor.RunCursor.new.Reads as run_new_of
use Rattle.sd_index.proofs.cursor.RunCursor.next.Reads as run_next_of

pub looks_up : (κs : _) (a : _) (r : _) (e : _) → look_up_of.Learnt κs a r e
    → found_said r ≡ look_up_told a.0.now a.1.0.now a.1.1.0 a.1.1.1.0.0
looks_up κs a r e learnt = learnt

pub starts : (κs : _) (a : _) (r : _) (e : _) → new_of.Learnt κs a r e → r.at.0 ≡ 0
starts κs a r e learnt = learnt

pub steps : (κs : _) (a : _) (r : _) (e : _) → next_of.Learnt κs a r e → OptionStepped (settings_said a.1.0) a.1.1.0.now a.0.at.0 r
steps κs a r e learnt = learnt

pub run_starts : (κs : _) (a : _) (r : _) (e : _) → run_new_of.Learnt κs a r e → run_said r ≡ run_of a.0 a.1.0
run_starts κs a r e learnt = learnt

pub run_steps : (κs : _) (a : _) (r : _) (e : _) → run_next_of.Learnt κs a r e → RunStepped a.1.0.now a.1.1.0.now a.1.1.1.0 (run_said a.0) r
run_steps κs a r e learnt = learnt
