-- The lent table after a call: slots that hold offsets, slots that hold 0, slots that are not touched. Assumes nothing.
use mathlib.Core.Path.{◌≡◌, refl, ap, ◌∙◌}
use mathlib.Core.List.{List, ◌++◌}
use Prim.Native.Nat.{ℕ, ◌+◌, ◌-◌, ◌≤◌, ◌<◌}
use native.Mathlib.Omega.{arith}
use lib.ListN.{length, drop, get_or, length-append, length-drop, length-replicate, get_or-replicate, get_or-append}
use lib.Seq.{get_or-append-add, drop_at}
use borrow.Author.Tests.{lt-ltb, le-ltb}
use Rattle.numbers.specs.Refusals.{Refusal}
use Rattle.numbers.specs.Answers.{Answer, accepted, refused}
use Rattle.sd_format.specs.Sequences.{starts}
use Rattle.sd_format.specs.Frames.{Frame, size, slots, zeros, filled, table_after}
use Rattle.sd_format.specs.Theorems.{TableAfter}
use Rattle.sd_format.proofs.SequenceLaws.{length_starts}

pub length_zeros : (n : ℕ) → length (zeros n) ≡ n
unfolding zeros
length_zeros n = length-replicate n 0

pub getD_zeros : (n k : ℕ) → k < n → get_or (zeros n) k 0 ≡ 0
unfolding zeros
getD_zeros n k h = get_or-replicate n k 0 0 h

-- as many slots as there are, or fewer
abbrev pub Few : Answer (List Frame) → Type 0
Few a = (fs : List Frame) → a ≡ accepted fs → length fs ≤ 347

pub length_filled : (a : Answer (List Frame)) → Few a → length (filled a) ≡ 347
unfolding filled slots
length_filled (accepted fs) few = simp (length-append, length_starts, length_zeros) (omega (arith, few fs refl))
length_filled (refused r) few = length_zeros 347

module _ (tab : List ℕ) (long : 347 ≤ length tab) (a : Answer (List Frame)) (few : Few a) where
  pub after_is : table_after tab a ≡ filled a ++ drop 347 tab
  unfolding table_after slots
  after_is = rw (le-ltb (length tab) 347 long)

  pub after_long : length (table_after tab a) ≡ length tab
  after_long = rw after_is (simp (length-append, length-drop, length_filled a few) (omega arith))

  -- what stands in the 347 slots
  pub slot : (k : ℕ) → k < 347 → get_or (table_after tab a) k 0 ≡ get_or (filled a) k 0
  slot k h = rw after_is (get_or-append (filled a) (drop 347 tab) 0 k (rw (length_filled a few) h))

pub offset_slot : (fs : List Frame) (k : ℕ) → k < length fs → get_or (filled (accepted fs)) k 0 ≡ get_or (starts size 0 fs) k 0
unfolding filled
offset_slot fs k h = get_or-append (starts size 0 fs) (zeros (slots - length fs)) 0 k (rw length_starts h)

zero_slot : (fs : List Frame) (k : ℕ) → length fs ≤ k → k < 347 → get_or (filled (accepted fs)) k 0 ≡ 0
unfolding filled slots
zero_slot fs k h less =
    let past : k ≡ length (starts size 0 fs) + (k - length fs) = rw length_starts (omega arith) in
    ap (λ (n : ℕ). get_or (starts size 0 fs ++ zeros (347 - length fs)) n 0) past
    ∙ get_or-append-add (starts size 0 fs) (zeros (347 - length fs)) (k - length fs) 0
    ∙ getD_zeros (347 - length fs) (k - length fs) (omega arith)

zero_refused : (r : Refusal) (k : ℕ) → k < 347 → get_or (filled (refused r)) k 0 ≡ 0
unfolding filled slots
zero_refused r k h = getD_zeros 347 k h

pub table_law : (tab : List ℕ) (a : Answer (List Frame)) → Few a → TableAfter tab a
unfolding table_after slots
table_law tab a few =
    record {
      short = λ h. rw (lt-ltb (length tab) 347 h);
      as_long = λ long. after_long tab long a few;
      offsets = λ long fs e k h. slot tab long a few k (omega (arith, few fs e)) ∙ rw e (offset_slot fs k h);
      rest = λ long fs e k h less. slot tab long a few k less ∙ rw e (zero_slot fs k h less);
      refused_zeros = λ long r e k less. slot tab long a few k less ∙ rw e (zero_refused r k less);
      untouched = λ long. rw (after_is tab long a few) (drop_at (filled a) (drop 347 tab) 347 (length_filled a few));
    }
