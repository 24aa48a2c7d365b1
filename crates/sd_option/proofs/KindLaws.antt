-- The kinds: what is said of kinds keeps them apart; lengths and protocols out of the code's form. Assumes nothing.
use mathlib.Core.Path.{◌≡◌}
use Prim.Native.Nat.{ℕ}
use native.Mathlib.Omega.{arith}
use Rattle.sd_format.specs.Options.{Family, Role}
use Rattle.sd_format.specs.Kinds.{Length, may_carry}
use Rattle.sd_format.specs.Layout.{lay_type}
use Rattle.sd_option.specs.declared.kinds.OptionKind.{OptionKind}
use Rattle.sd_option.specs.Kinds.{kind_said, length_encoded, length_said, taken}

-- ---- the kinds are kept apart

pub kind_one_to_one : (x y : OptionKind) → kind_said x ≡ kind_said y → x ≡ y
kind_one_to_one x y same = grind arith

-- ---- out of the code's form: the length that a row asks, and the protocols

pub length_back : (l : Length) → length_said (length_encoded l) ≡ l
length_back l = grind arith

pub taken_carried : (family : Family) (role : Role) (p : ℕ) → taken (lay_type family role) p ≡ may_carry role p
unfolding may_carry
taken_carried family role p = grind arith
