-- The table of byte classes: one test, computed over all of its places, gives the class of every byte; and what a class tells of its byte.
-- Assumes nothing.
use Prim.Native.Nat.{ℕ, zero, suc, ◌+◌, ◌≤◌, ◌<◌}
use native.Mathlib.Nat.{zero-add, add-zero, add-suc, suc-add, le_of_suc-le-suc, not-suc-le-zero}
use native.Mathlib.Omega.{arith}
use mathlib.Core.Path.{◌≡◌, refl, sym, ap, ◌∙◌}
use mathlib.Core.Bool.{Bool, true, false, ◌&&◌}
use mathlib.Core.Logic.{◌⊎◌, inl, inr}
use mathlib.Core.List.{List, [], ◌∷◌}
use lib.Dec.{eqb}
use lib.Bits.{bit_or}
use lib.ListN.{length, get_or}
use borrow.Author.Tests.{eqb-true}
use Rattle.numbers.proofs.TestLaws.{and_inv}
use Rattle.config_string.specs.Classes.{outside, space, other_printable, key_byte, class_of, Classified}

-- ---- the law over the table

-- each place has the class of its byte, the first that of `b`
abbrev right_from : (b : ℕ) → List ℕ → Bool
right_from b [] = true
right_from b (class ∷ later) = eqb class (class_of b) && right_from (suc b) later

right_at : (table : List ℕ) (b : ℕ) → right_from b table ≡ true → (k : ℕ) → k < length table → get_or table k 0 ≡ class_of (b + k)
right_at [] b all k inside = absurd (not-suc-le-zero inside)
right_at (class ∷ later) b all zero inside = eqb-true _ _ (and_inv (eqb class (class_of b)) (right_from (suc b) later) all).0 ∙ ap class_of (sym (add-zero b))
right_at (class ∷ later) b all (suc k) inside =
    right_at later (suc b) (and_inv (eqb class (class_of b)) (right_from (suc b) later) all).1 k (le_of_suc-le-suc inside)
    ∙ ap class_of (suc-add b k ∙ sym (add-suc b k))

pub classified : (table : List ℕ) → length table ≡ 256 → right_from 0 table ≡ true → Classified table
classified table all-bytes all =
    record { at = λ b inside. right_at table 0 all b (omega (arith, inside, all-bytes)) ∙ ap class_of (zero-add b) }

-- ---- what a class tells of its byte

-- the class of a key with no bad byte: the space if all of its bytes are spaces
abbrev pub OfKey : ℕ → Type 0
OfKey class = (class ≡ space) ⊎ (class ≡ other_printable)

module _ (b class : ℕ) (is : class ≡ class_of b) where
  pub bad : class ≡ outside → key_byte b ≡ false
  unfolding class_of
  bad h = grind arith

  pub equals : class < space → (class ≡ outside → ⊥) → b ≡ 0x3d
  unfolding class_of
  equals low inside = grind arith

  pub key : space ≤ class → key_byte b ≡ true
  unfolding class_of
  key high = grind arith

  pub other : space ≤ class → b ≡ 0x3d → ⊥
  unfolding class_of
  other high = grind arith

  pub of_key : space ≤ class → OfKey class
  unfolding class_of
  of_key high = grind arith

  pub blank : space ≤ class → eqb class space ≡ eqb b 0x20
  unfolding class_of
  blank high = grind arith

-- the class of a key, and that of its next byte, joined bit by bit
pub joined : (seen class : ℕ) → OfKey seen → OfKey class → OfKey (bit_or seen class) × (eqb (bit_or seen class) space ≡ (eqb seen space && eqb class space))
joined seen class (inl s) (inl c) = rw (s, c) (inl refl, refl)
joined seen class (inl s) (inr c) = rw (s, c) (inr refl, refl)
joined seen class (inr s) (inl c) = rw (s, c) (inr refl, refl)
joined seen class (inr s) (inr c) = rw (s, c) (inr refl, refl)
