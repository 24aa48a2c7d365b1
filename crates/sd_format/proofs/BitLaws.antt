-- Bits of a byte: laid out and read back. Assumes nothing.
use mathlib.Core.Path.{◌≡◌, refl, sym}
use mathlib.Core.Bool.{Bool, true, false}
use Prim.Native.Nat.{ℕ, ◌+◌, ◌*◌, ◌/◌, ◌%◌, ◌≤◌, ◌<◌}
use native.Mathlib.Nat.{mul-zero, mul-one}
use native.Mathlib.Omega.{arith}
use lib.Dec.{eqb}
use borrow.Author.Tests.{eq-eqb, ne_eqb, eqb-true, eqb-false}
use Rattle.sd_format.specs.Options.{First, has}
use Rattle.sd_format.specs.Layout.{bit, lay_first}

abbrev pub num : Bool → ℕ
num true = 1
num false = 0

pub num_small : (b : Bool) → num b ≤ 1
num_small true = omega arith
num_small false = omega arith

pub bit_num : (v : ℕ) (b : Bool) → bit v b ≡ v * num b
bit_num v true = sym (mul-one v)
bit_num v false = sym (mul-zero v)

-- a bit that is read is 1 or 0
pub num_has : (y : ℕ) → num (eqb (y % 2) 1) ≡ y % 2
num_has y = go (eqb (y % 2) 1) refl
  where
    go : (t : Bool) → eqb (y % 2) 1 ≡ t → num t ≡ y % 2
    go true e = sym (eqb-true _ _ e)
    go false e = omega (arith, eqb-false (y % 2) 1 e)

pub has_num : (x v : ℕ) (b : Bool) → x / v % 2 ≡ num b → has x v ≡ b
has_num x v true e = eq-eqb _ _ e
has_num x v false e = let n : x / v % 2 ≡ 1 → ⊥ = λ h. omega arith in ne_eqb _ _ n

-- ---- the byte after an option's type

pub first_again : (x : ℕ) → x < 256 → bit 0x80 (has x 0x80) + x % 128 ≡ x
first_again x h = rw (bit_num 0x80 (has x 0x80), num_has (x / 128)) (omega arith)

pub first_back : (b : First) → b.others < 128 → record { discardable = has (lay_first b) 0x80; others = lay_first b % 128 } ≡ b
first_back b h =
    let n = num_small b.discardable in
    let d : has (lay_first b) 0x80 ≡ b.discardable = has_num (lay_first b) 0x80 b.discardable (omega (arith, bit_num 0x80 b.discardable)) in
    let o : lay_first b % 128 ≡ b.others = omega (arith, bit_num 0x80 b.discardable) in
    λ i. record { discardable = d i; others = o i }
