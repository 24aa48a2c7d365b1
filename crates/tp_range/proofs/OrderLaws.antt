-- Laws of ranges in order: one more of them, what the first of them has, and that no two touch. Assumes nothing.
use Prim.Native.Nat.{ℕ, ◌+◌, ◌≤◌, ◌<◌}
use mathlib.Core.Path.{◌≡◌, refl, sym, ap, ◌∙◌}
use mathlib.Core.Bool.{Bool, true, false, ◌&&◌, not, false≢true}
use mathlib.Core.List.{List, [], ◌∷◌}
use native.Mathlib.Omega.{arith}
use borrow.Author.Tests.{lt-ltb, le-ltb, ltb-false, lt-leb}
use lib.Dec.{ltb, leb}
use lib.ListN.{length, take, drop, get_or}
use Rattle.tp_machine.specs.declared.TpRange.{TpRange}
use Rattle.tp_machine.specs.Ranges.{any, touch, some_touch}
use Rattle.tp_range.specs.Joining.{none}
use Rattle.tp_range.specs.Ordered.{rising, backward}
use Rattle.tp_range.proofs.Laws.{front, past_end}

both : (a b : Bool) → (not a && b) ≡ true → (a ≡ false) × (b ≡ true)
both true b e = absurd (false≢true e)
both false b e = (refl, e)

-- ---- what is left of the first n from i on: the range r at i, and the others
module _ (array : List TpRange) (i n : ℕ) (h : i < n) (k : n ≤ length array) (r : TpRange) (is : r ≡ get_or array i none) where
  pub left : drop i (take n array) ≡ r ∷ drop (i + 1) (take n array)
  left = front array i n none h k ∙ ap (λ (x : TpRange). x ∷ drop (i + 1) (take n array)) (sym is)

-- ---- whatever is bad
module _ (bad : TpRange → Bool) where
  module _ (array : List TpRange) (i n : ℕ) (h : i < n) (k : n ≤ length array) (r : TpRange) (is : r ≡ get_or array i none) (low : ℕ) where
    pub rising_low : r.start < low → rising bad low (drop i (take n array)) ≡ false
    unfolding rising
    rising_low l = rw (left array i n h k r is, lt-ltb r.start low l)

    module _ (l : low ≤ r.start) where
      pub rising_bad : bad r ≡ true → rising bad low (drop i (take n array)) ≡ false
      unfolding rising
      rising_bad b = rw (left array i n h k r is, le-ltb r.start low l, b)

      pub rising_next : bad r ≡ false → rising bad low (drop i (take n array)) ≡ rising bad (r.end + 1) (drop (i + 1) (take n array))
      unfolding rising
      rising_next b = rw (left array i n h k r is, le-ltb r.start low l, b)

  pub rising_done : (low : ℕ) (array : List TpRange) (i n : ℕ) → n ≤ i → rising bad low (drop i (take n array)) ≡ true
  unfolding rising
  rising_done low array i n h = rw (past_end array i n h)

  -- where all are in order, the first of them and the others
  pub first_rises : (low : ℕ) (r : TpRange) (rs : List TpRange) → rising bad low (r ∷ rs) ≡ true → (low ≤ r.start) × (bad r ≡ false) × (rising bad (r.end + 1) rs ≡ true)
  unfolding rising
  first_rises low r rs e =
      let a = both (ltb r.start low) _ e in
      let b = both (bad r) (rising bad (r.end + 1) rs) a.1 in
      (ltb-false r.start low a.0, b.0, b.1)

-- ---- none ends before it begins: no two touch

-- one that ends before `low` touches none
none_touched : (r : TpRange) (low : ℕ) (rs : List TpRange) → r.end < low → rising backward low rs ≡ true → any (touch r) rs ≡ false
unfolding any touch
none_touched r low [] h e = refl
none_touched r low (x ∷ rs) h e =
    let f = first_rises backward low x rs e in
    let apart : leb x.start r.end ≡ false = lt-leb x.start r.end (omega (arith, f.0)) in
    rw (apart, and-false (leb r.start x.end)) (none_touched r (x.end + 1) rs (omega (arith, f.0, ltb-false x.end x.start f.1)) f.2)
  where
    and-false : (b : Bool) → (b && false) ≡ false
    and-false true = refl
    and-false false = refl

pub rising_apart : (low : ℕ) (rs : List TpRange) → rising backward low rs ≡ true → some_touch rs ≡ false
unfolding some_touch
rising_apart low [] e = refl
rising_apart low (r ∷ rs) e =
    let f = first_rises backward low r rs e in
    rw (none_touched r (r.end + 1) rs (omega arith) f.2) (rising_apart (r.end + 1) rs f.2)
