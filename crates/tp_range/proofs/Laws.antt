-- Laws of ranges for the loops over an array of them: one range more, and what is left. Assumes nothing.
use Prim.Native.Nat.{ℕ, suc, ◌+◌, ◌-◌, ◌≤◌, ◌<◌}
use mathlib.Core.Path.{◌≡◌, refl, sym, ap, ◌∙◌}
use Rattle.std.specs.Prelude.{Some, None}
use mathlib.Core.Bool.{Bool, true, false, not, cond}
use mathlib.Core.List.{List, [], ◌∷◌, ◌++◌, append-nil, append_assoc}
use native.Mathlib.Numerals.{add-one, one-add}
use native.Mathlib.Omega.{arith}
use borrow.Author.Tests.{lt-ltb, le-ltb}
use lib.ListN.{length, take, drop, get_or, set, length-append, length-take, length-drop, drop_of_length-le, take-append-drop}
use lib.Dec.{ltb}
use lib.Seq.{take-suc, drop-cons, slice_empty, slice-cons, take_all, take-take, drop-drop, length-take-le, take-append_seam, drop-append-add, append_snoc, set-append_seam, set_at}
use Rattle.std.specs.List.{position_or_len, copy_within}
use Rattle.std.proofs.lemmas.List.{drop-take}
use Rattle.std.proofs.lemmas.List.Sums.{prefix_len-le-length}
use Rattle.tp_machine.specs.declared.TpRange.{TpRange}
use Rattle.tp_machine.specs.Ranges.{touch, hull_of, unless, keep, grow_if, grow, inserted, joined}
use Rattle.tp_machine.specs.Machine.{most}
use Rattle.tp_machine.proofs.Lists.{length_moved}
use Rattle.tp_machine.proofs.Joining.{inserted_moved, keep_append, grow_append}
use Rattle.tp_range.specs.Joining.{none, placed, fitted, joined_in}

-- ---- one range more at the end
keep_snoc : (n : TpRange) (xs : List TpRange) (r : TpRange) → keep n (xs ++ (r ∷ [])) ≡ keep n xs ++ unless (touch n r) r []
unfolding keep
keep_snoc n xs r = keep_append n xs (r ∷ [])

grow_snoc : (n g : TpRange) (xs : List TpRange) (r : TpRange) → grow n g (xs ++ (r ∷ [])) ≡ grow_if (touch n r) (grow n g xs) r
unfolding grow
grow_snoc n g xs r = grow_append n g xs (r ∷ [])

-- the range that follows the first i of rs, and what it adds
module _ (n : TpRange) (rs : List TpRange) (i : ℕ) (d : TpRange) (h : i < length rs) where
  one_more : take (i + 1) rs ≡ take i rs ++ (get_or rs i d ∷ [])
  one_more = rw add-one (take-suc rs i d h)

  pub keep_touched : touch n (get_or rs i d) ≡ true → keep n (take (i + 1) rs) ≡ keep n (take i rs)
  keep_touched e = rw (one_more, keep_snoc, e) (append-nil _)

  pub keep_apart : touch n (get_or rs i d) ≡ false → keep n (take (i + 1) rs) ≡ keep n (take i rs) ++ (get_or rs i d ∷ [])
  keep_apart e = rw (one_more, keep_snoc, e)

  pub grow_touched : (g : TpRange) → touch n (get_or rs i d) ≡ true → grow n g (take (i + 1) rs) ≡ hull_of (grow n g (take i rs)) (get_or rs i d)
  grow_touched g e = rw (one_more, grow_snoc, e)

  pub grow_apart : (g : TpRange) → touch n (get_or rs i d) ≡ false → grow n g (take (i + 1) rs) ≡ grow n g (take i rs)
  grow_apart g e = rw (one_more, grow_snoc, e)

-- ---- an array with ranges laid over its first places
abbrev pub over : List TpRange → List TpRange → List TpRange
over rs array = rs ++ drop (length rs) array

-- a store right behind them lays one more
pub over_snoc : (rs array : List TpRange) (a : TpRange) → length rs < length array → set (over rs array) (length rs) a ≡ over (rs ++ (a ∷ [])) array
over_snoc rs array a h =
    ap (λ (l : List TpRange). set (rs ++ l) (length rs) a) (drop-cons array (length rs) none h)
    ∙ set-append_seam rs (get_or array (length rs) none) (drop (suc (length rs)) array) a
    ∙ sym (append_assoc rs (a ∷ []) (drop (length (rs ++ (a ∷ []))) array)
    ∙ ap (λ (n : ℕ). rs ++ (a ∷ drop n array)) (length-append rs (a ∷ []) ∙ add-one (length rs)))

pub over_length : (rs array : List TpRange) → length rs ≤ length array → length (over rs array) ≡ length array
over_length rs array h = length-append rs (drop (length rs) array) ∙ omega (arith, length-drop (length rs) array)

-- behind one more than they are the array is as it was
over_behind : (rs array all : List TpRange) → length all ≡ length rs + 1 → drop (length all) (over rs array) ≡ drop (length all) array
over_behind rs array all e =
    ap (λ (n : ℕ). drop n (over rs array)) e ∙ drop-append-add rs (drop (length rs) array) 1 ∙ drop-drop 1 (length rs) array ∙ ap (λ (n : ℕ). drop n array) (sym e)

pub placed_over : (array rs : List TpRange) → length rs ≤ length array → placed array rs ≡ over rs array
unfolding placed
placed_over array rs h = take_all (length array) (over rs array) (omega (arith, over_length rs array h))

-- ---- what is left of the first n from i on
module _ (rs : List TpRange) (i n : ℕ) (d : TpRange) (h : i < n) (k : n ≤ length rs) where
  pub front : drop i (take n rs) ≡ get_or rs i d ∷ drop (i + 1) (take n rs)
  front = rw add-one (slice-cons i n rs d h k)

pub past_end : (rs : List TpRange) (i n : ℕ) → n ≤ i → drop i (take n rs) ≡ []
past_end rs i n h =
    let k : length (take n rs) ≤ i = simp length-take (omega arith) in
    drop_of_length-le (take n rs) k

-- ---- where a range is put among others: how many stand before the first that begins behind x
abbrev pub place : ℕ → List TpRange → ℕ
place x rs = position_or_len (λ r. ltb x r.start) rs

inserted_place : (g : TpRange) (rs : List TpRange) → inserted g rs ≡ take (place g.start rs) rs ++ (g ∷ drop (place g.start rs) rs)
unfolding inserted
inserted_place g [] = refl
inserted_place g (r ∷ rs) = go (ltb g.start r.start) (inserted_place g rs)
  where
    go : (t : Bool) → inserted g rs ≡ take (place g.start rs) rs ++ (g ∷ drop (place g.start rs) rs)
        → cond t (g ∷ r ∷ rs) (r ∷ inserted g rs) ≡ take (cond (not t) (1 + place g.start rs) 0) (r ∷ rs) ++ (g ∷ drop (cond (not t) (1 + place g.start rs) 0) (r ∷ rs))
    go true later = refl
    go false later = rw one-add (ap (λ (l : List TpRange). r ∷ l) later)

inserted_length : (g : TpRange) (rs : List TpRange) → length (inserted g rs) ≡ length rs + 1
inserted_length g rs = sym (length_moved (inserted_moved g rs)) ∙ sym (add-one (length rs))

-- the array whose first `count` are moved one place further from the i-th on, which still stands there too
abbrev pub moved : (array : List TpRange) (count i : ℕ) → List TpRange
moved array count i = take (i + 1) array ++ (drop i (take count array) ++ drop (count + 1) array)

-- none of them moved yet
pub moved_none : (array : List TpRange) (count : ℕ) → array ≡ moved array count count
moved_none array count = sym (take-append-drop (count + 1) array) ∙ ap (λ (l : List TpRange). take (count + 1) array ++ (l ++ drop (count + 1) array)) (sym (slice_empty count array))

module _ (array : List TpRange) (count : ℕ) (few : count < length array) where
  pub copied : (i : ℕ) → i ≤ count → copy_within array i count (i + 1) ≡ moved array count i
  copied i h =
      let up : i + (count - i) ≡ count = omega arith in
      let behind : i + 1 + (count - i) ≡ count + 1 = omega arith in
      append_assoc (take (i + 1) array) (take (count - i) (drop i array)) (drop (i + 1 + (count - i)) array)
      ∙ (λ j. take (i + 1) array ++ (sym (drop-take i (count - i) array) j ++ drop (behind j) array))
      ∙ ap (λ (n : ℕ). take (i + 1) array ++ (drop i (take n array) ++ drop (count + 1) array)) up

  -- a store at the i-th
  stored : (i : ℕ) (a : TpRange) (rest : List TpRange) → i < length array → set (take (i + 1) array ++ rest) i a ≡ take i array ++ (a ∷ rest)
  stored i a rest h =
      ap (λ (l : List TpRange). set (l ++ rest) i a) (ap (λ (k : ℕ). take k array) (add-one i) ∙ take-suc array i none h)
      ∙ ap (λ (l : List TpRange). set l i a) (append_snoc (take i array) (get_or array i none) rest)
      ∙ set_at (take i array) (get_or array i none) rest a i (length-take-le i array (omega arith))

  -- one more moved
  pub moved_one : (i : ℕ) → i < count → set (moved array count (i + 1)) (i + 1) (get_or array i none) ≡ moved array count i
  moved_one i h =
      stored (i + 1) (get_or array i none) (drop (i + 1) (take count array) ++ drop (count + 1) array) (omega arith)
      ∙ ap (λ (l : List TpRange). take (i + 1) array ++ (l ++ drop (count + 1) array)) (sym (front array i count none h (omega arith)))

  -- and a range in its place
  pub moved_in : (g : TpRange) (i : ℕ) → i ≡ place g.start (take count array) → set (moved array count i) i g ≡ placed array (inserted g (take count array))
  moved_in g i is =
      let all : length (take count array) ≡ count = length-take-le count array (omega arith) in
      let low : i ≤ count = omega (arith, is, all, prefix_len-le-length (λ r. not (ltb g.start r.start)) (take count array)) in
      let long : length (inserted g (take count array)) ≡ count + 1 = inserted_length g (take count array) ∙ ap (λ (k : ℕ). k + 1) all in
      let parts : inserted g (take count array) ≡ take i array ++ (g ∷ drop i (take count array)) =
      inserted_place g (take count array) ∙ ap (λ (k : ℕ). take k (take count array) ++ (g ∷ drop k (take count array))) (sym is) ∙ ap (λ (l : List TpRange). l ++ (g ∷ drop i (take count array))) (take-take i count array low) in
      stored i g (drop i (take count array) ++ drop (count + 1) array) (omega arith)
      ∙ sym (append_assoc (take i array) (g ∷ drop i (take count array)) (drop (count + 1) array))
      ∙ sym (placed_over array (inserted g (take count array)) (omega (arith, long)) ∙ ap (λ (k : ℕ). inserted g (take count array) ++ drop k array) long ∙ ap (λ (l : List TpRange). l ++ drop (count + 1) array) parts)

-- what joining gives, by whether there is a place
pub fitted_none : (array rs : List TpRange) → ltb most (length rs) ≡ true → fitted array rs ≡ None
fitted_none array rs e = rw e

pub fitted_placed : (array rs : List TpRange) → ltb most (length rs) ≡ false → fitted array rs ≡ Some (record { ranges = placed array rs; count = length rs })
fitted_placed array rs e = rw e

-- ---- the end of joining: the grown range goes among those that are kept, where there is a place
module _ (array : List TpRange) (count : ℕ) (long : length array ≡ most) (new : TpRange) where
  abbrev pub keeps : List TpRange
  keeps = keep new (take count array)

  abbrev pub grows : TpRange
  grows = grow new new (take count array)

  abbrev all : List TpRange
  all = inserted grows keeps

  all_count : length all ≡ length keeps + 1
  all_count = inserted_length grows keeps

  -- put into the array over which those that are kept are laid
  put_in : length keeps < most → placed (over keeps array) (inserted grows (take (length keeps) (over keeps array))) ≡ placed array all
  put_in h =
      ap (λ (l : List TpRange). placed (over keeps array) (inserted grows l)) (take-append_seam keeps (drop (length keeps) array))
      ∙ placed_over (over keeps array) all (omega (arith, all_count, over_length keeps array (omega arith)))
      ∙ ap (λ (l : List TpRange). all ++ l) (over_behind keeps array all all_count)
      ∙ sym (placed_over array all (omega (arith, all_count)))

  pub joined_room : length keeps < most
      → Some (record { ranges = placed (over keeps array) (inserted grows (take (length keeps) (over keeps array))); count = length keeps + 1 }) ≡ joined_in array count new
  unfolding joined_in joined
  joined_room h = (λ i. Some (record { ranges = put_in h i; count = sym all_count i })) ∙ sym (fitted_placed array all (le-ltb most (length all) (omega (arith, all_count))))

  pub joined_full : most ≤ length keeps → None ≡ joined_in array count new
  unfolding joined_in joined
  joined_full h = sym (fitted_none array all (lt-ltb most (length all) (omega (arith, all_count))))
