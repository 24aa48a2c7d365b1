-- `settings::settings_of` meets its contract: each bit by its mask. Assumes nothing.
use Rattle.std.proofs.Common.{◌≡◌, ℕ, ◌/◌, ◌%◌}
use native.Mathlib.Omega.{arith}
use Rattle.std.proofs.lemmas.Nat.Bits.{and_pow}
use mathlib.Core.Bool.{not}
use lib.Dec.{eqb}
use lib.Bits.{bit_and}
use Rattle.hub.proofs.settings.settings_of.Goals as goal

lowest : (n : ℕ) → not (eqb (bit_and n 1) 0) ≡ eqb (n / 1 % 2) 1
lowest n = grind (arith, and_pow n 0)

next : (n : ℕ) → not (eqb (bit_and n 2) 0) ≡ eqb (n / 2 % 2) 1
next n = grind (arith, and_pow n 1)

pub returns : goal.returns
returns c = λ i. record { discard = lowest c.args.word i; strict = next c.args.word i }
