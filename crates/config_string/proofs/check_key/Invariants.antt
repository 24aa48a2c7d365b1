use mathlib.Core.Path.{◌≡◌}
use lib.Dec.{eqb}
use Rattle.sd_format.specs.Strings.{key_of, judge_key}
use Rattle.config_string.specs.Classes.{space}
use Rattle.config_string.proofs.ClassLaws.{OfKey}
use Rattle.config_string.proofs.KeyLaws.{key_left}
use Rattle.config_string.proofs.check_key.Given as goal

abbrev pub invariant-loop-i : goal.invariant-loop-i
invariant-loop-i l = record { left : judge_key l.at (key_of l.item) ≡ key_left l.at l.item l.i (eqb l.seen space); of_key : OfKey l.seen }
