-- The flags lie where their names belong, and every byte's three high bits come back. Assumes nothing.
use Prim.Native.Nat.{ℕ, zero, suc, ◌+◌, ◌*◌, ◌/◌, ◌%◌, ◌^◌, ◌<◌}
use mathlib.Core.Path.{◌≡◌, refl, sym, ap, ◌∙◌}
use mathlib.Core.Bool.{cond, not}
use native.Mathlib.Nat.{zero-mul, one-mul}
use native.Mathlib.Omega.{arith}
use lib.Dec.{eqb}
use lib.Bits.{bit_and}
use Rattle.std.proofs.lemmas.Nat.Bits.{and_pow}
use Rattle.std.proofs.lemmas.Nat.{pow_pos}
use borrow.Author.Tests.{ne_eqb}
use Rattle.sd_format.specs.Layout.{lay_opening}
use Rattle.sd_format.specs.Payload.{flags}
use Rattle.sd_payload.specs.Reads.{flags_laid}
use Rattle.sd_payload.specs.FlagsByName.{flags_by_name, FlagsByName}

-- a bit by its mask, and by division
bit_by_mask : (n k : ℕ) → not (eqb (bit_and n (2 ^ k)) 0) ≡ eqb (n / 2 ^ k % 2) 1
bit_by_mask n k = let h : n / 2 ^ k % 2 < 2 = omega arith in ap (λ (x : ℕ). not (eqb x 0)) (and_pow n k) ∙ worth (n / 2 ^ k % 2) h
  where
    worth : (b : ℕ) → b < 2 → not (eqb (b * 2 ^ k) 0) ≡ eqb b 1
    worth zero h = ap (λ (x : ℕ). not (eqb x 0)) (zero-mul (2 ^ k))
    worth (suc zero) h = ap not (ne_eqb (1 * 2 ^ k) 0 (λ e. let some : 0 < 2 ^ k = pow_pos k in omega arith))
    worth (suc (suc b)) h = absurd (omega arith)

pub flags_by_mask : (b : ℕ)
    → record { reboot = not (eqb (bit_and b 128) 0); unicast = not (eqb (bit_and b 64) 0); explicit_initial_data_control = not (eqb (bit_and b 32) 0) } ≡ flags_laid (flags b)
flags_by_mask b = λ i. record { reboot = bit_by_mask b 7 i; unicast = bit_by_mask b 6 i; explicit_initial_data_control = bit_by_mask b 5 i }

-- a flag's bit
bit_worth : (x v : ℕ) → x < 2 → cond (eqb x 1) v 0 ≡ x * v
bit_worth zero v h = sym (zero-mul v)
bit_worth (suc zero) v h = sym (one-mul v)
bit_worth (suc (suc x)) v h = absurd (omega arith)

-- the three flags are the three high bits of byte 0
flags_as_sent : (b : ℕ) → b < 256 → flags_by_name (flags_laid (flags b)) ≡ b / 32 * 32
flags_as_sent b small =
    let top : b / 128 % 2 ≡ b / 128 = omega arith in
    let middle : b / 64 ≡ 2 * (b / 128) + b / 64 % 2 = omega arith in
    let low : b / 32 ≡ 2 * (b / 64) + b / 32 % 2 = omega arith in
    (λ i. bit_worth (b / 128 % 2) 128 (omega arith) i + bit_worth (b / 64 % 2) 64 (omega arith) i + bit_worth (b / 32 % 2) 32 (omega arith) i) ∙ omega arith

pub flags_by_name_laid : FlagsByName
unfolding lay_opening
flags_by_name_laid = record { laid = λ f spare reserved. refl; as_sent = flags_as_sent }
