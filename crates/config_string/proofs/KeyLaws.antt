-- An item's key, judged byte by byte: what is left to judge after some bytes of it, and how one more byte changes that. Assumes nothing.
use Prim.Native.Nat.{ℕ, suc, ◌+◌, ◌≤◌, ◌<◌}
use native.Mathlib.Nat.{zero-add, add-zero}
use native.Mathlib.Numerals.{add-one}
use native.Mathlib.Omega.{arith}
use mathlib.Core.Path.{◌≡◌, refl, sym, ap, ◌∙◌}
use mathlib.Core.Bool.{Bool, true, false, ◌&&◌, false≢true}
use mathlib.Core.List.{List, [], ◌∷◌}
use lib.Dec.{eqb}
use lib.Bits.{bit_or}
use lib.ListN.{length, get_or, drop, drop_of_length-le}
use lib.Seq.{drop-cons}
use borrow.Author.Tests.{ne_eqb}
use Rattle.numbers.specs.Refusals.{empty_key, invalid_key_byte, only_whitespace}
use Rattle.numbers.specs.Answers.{Verdict, pass, refused, ◌>>◌, refuse◌when◌else◌}
use Rattle.sd_format.specs.Strings.{key_of, judge_bytes, all_spaces, judge_key}
use Rattle.config_string.specs.Classes.{outside, space, key_byte, class_of}
use Rattle.config_string.proofs.ClassLaws.{OfKey, bad, equals, key, other, of_key, blank, joined}
use Rattle.config_string.specs.Keys.{judge_end}

-- the rest of a key, after `i` bytes of it that are no bad ones; `blank`: they are all spaces
judge_rest : (item i : ℕ) → Bool → List ℕ → Verdict
judge_rest item i blank key =
    refuse empty_key item when eqb (i + length key) 0 else
    (judge_bytes item i key >>
    (refuse only_whitespace item when blank && all_spaces key else
    pass))

-- the rest of the item's key, at place `i` of the item
pub key_left : (item : ℕ) → List ℕ → (i : ℕ) → Bool → Verdict
key_left item s i blank = judge_rest item i blank (key_of (drop i s))

pub left_whole : (item : ℕ) (s : List ℕ) → judge_key item (key_of s) ≡ key_left item s 0 true
unfolding key_left judge_rest judge_key
left_whole item s = simp zero-add refl

rest_end : (item i : ℕ) (blank : Bool) → judge_rest item i blank [] ≡ judge_end item i blank
unfolding judge_rest judge_end judge_bytes all_spaces ◌>>◌
rest_end item i true = rw add-zero refl
rest_end item i false = rw add-zero refl

rest_bad : (item i : ℕ) (blank : Bool) (b : ℕ) (key : List ℕ) → key_byte b ≡ false → judge_rest item i blank (b ∷ key) ≡ refused (invalid_key_byte item i b)
unfolding judge_rest judge_bytes ◌>>◌ refuse◌when◌else◌
rest_bad item i blank b key bad = simp (ne_eqb (i + suc (length key)) 0 (λ e. absurd (omega arith)), bad)

rest_good : (item i : ℕ) (blank : Bool) (b : ℕ) (key : List ℕ) → key_byte b ≡ true
    → judge_rest item i blank (b ∷ key) ≡ judge_rest item (i + 1) (blank && eqb b 0x20) key
unfolding judge_rest judge_bytes all_spaces refuse◌when◌else◌
rest_good item i true b key good =
    simp (ne_eqb (i + suc (length key)) 0 (λ e. absurd (omega arith)), ne_eqb (i + 1 + length key) 0 (λ e. absurd (omega arith)), good)
rest_good item i false b key good =
    simp (ne_eqb (i + suc (length key)) 0 (λ e. absurd (omega arith)), ne_eqb (i + 1 + length key) 0 (λ e. absurd (omega arith)), good)

-- at the end of the item the key ends
pub left_end : (item : ℕ) (s : List ℕ) (i : ℕ) (blank : Bool) → length s ≤ i → key_left item s i blank ≡ judge_end item i blank
unfolding key_left key_of
left_end item s i blank h = rw (drop_of_length-le s h) (rest_end item i blank)

-- the byte at `i`, by its class
module _ (item : ℕ) (s : List ℕ) (i class : ℕ) (inside : i < length s) (is : class ≡ class_of (get_or s i 0)) where
  from_byte : drop i s ≡ get_or s i 0 ∷ drop (i + 1) s
  from_byte = rw (add-one, drop-cons s i 0)

  -- an `=` ends the key
  pub left_equals : (blank : Bool) → class < space → (class ≡ outside → ⊥) → key_left item s i blank ≡ judge_end item i blank
  unfolding key_left key_of
  left_equals blank low in_range = rw (from_byte, equals _ _ is low in_range) (rest_end item i blank)

  key_goes_on : (get_or s i 0 ≡ 0x3d → ⊥) → key_of (drop i s) ≡ get_or s i 0 ∷ key_of (drop (i + 1) s)
  unfolding key_of
  key_goes_on other = rw (from_byte, ne_eqb _ _ other) refl

  -- any other byte belongs to it: a bad one is refused
  pub left_bad : (blank : Bool) → class ≡ outside → key_left item s i blank ≡ refused (invalid_key_byte item i (get_or s i 0))
  unfolding key_left
  left_bad blank out =
      ap (judge_rest item i blank) (key_goes_on (λ equals. false≢true (sym (bad _ _ is out) ∙ ap key_byte equals)))
      ∙ rest_bad item i blank (get_or s i 0) (key_of (drop (i + 1) s)) (bad _ _ is out)

  -- and a good one is passed, its class joined to those before it
  pub left_good : (seen : ℕ) → OfKey seen → space ≤ class → key_left item s i (eqb seen space) ≡ key_left item s (i + 1) (eqb (bit_or seen class) space)
  unfolding key_left
  left_good seen of high =
      ap (judge_rest item i (eqb seen space)) (key_goes_on (other _ _ is high))
      ∙ rest_good item i (eqb seen space) (get_or s i 0) (key_of (drop (i + 1) s)) (key _ _ is high)
      ∙ ap (λ (blank : Bool). judge_rest item (i + 1) blank (key_of (drop (i + 1) s)))
      (ap (eqb seen space &&◌) (sym (blank _ _ is high)) ∙ sym (joined seen class of (of_key _ _ is high)).1)

  pub joined_of_key : (seen : ℕ) → OfKey seen → space ≤ class → OfKey (bit_or seen class)
  joined_of_key seen of high = (joined seen class of (of_key _ _ is high)).0

-- what the check of a key needs
pub ruleset judging = (left_whole, left_end, left_equals, left_bad, left_good, joined_of_key)
