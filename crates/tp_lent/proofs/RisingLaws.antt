-- Laws of ranges that stand in order: one more of them, and what follows where all are looked at. Assumes nothing.
use Rattle.std.specs.Prelude.{None}
use Prim.Native.Nat.{ℕ, suc, ◌+◌, ◌≤◌, ◌<◌}
use mathlib.Core.Path.{◌≡◌, refl, sym, ap, ◌∙◌}
use mathlib.Core.Bool.{Bool, true, false, not, cond, false≢true}
use mathlib.Core.List.{List, [], ◌∷◌}
use mathlib.Core.Logic.{inl}
use native.Mathlib.Nat.{le_refl}
use native.Mathlib.Omega.{arith}
use borrow.Author.Tests.{ltb-true, ltb-false}
use lib.Dec.{ltb, eqb}
use lib.ListN.{length, take, drop, get_or}
use Rattle.numbers.specs.Answers.{All}
use Rattle.numbers.proofs.AnswerLaws.{all_map}
use Rattle.numbers.proofs.TestLaws.{or_inv}
use Rattle.tp_machine.specs.declared.TpRange.{TpRange}
use Rattle.tp_machine.specs.Lists.{Pairwise, counted}
use Rattle.tp_machine.specs.Ranges.{any, some_touch, greatest_end}
use Rattle.tp_machine.specs.Machine.{State, end_before, never_given, bad_range}
use Rattle.tp_machine.specs.Meaning.{Apart, Before, InOrder}
use Rattle.tp_machine.proofs.Lists.{all_any}
use Rattle.tp_machine.proofs.Joining.{all_apart}
use Rattle.tp_range.specs.Joining.{none}
use Rattle.tp_range.specs.Ordered.{rising}
use Rattle.tp_range.proofs.Laws.{past_end}
use Rattle.tp_range.proofs.OrderLaws.{left, first_rises}
use Rattle.tp_rules.specs.Malformed.{Reach}
use Rattle.tp_rules.proofs.MalformedLaws.{reach_limit, bad_early, bad_late, bad_number}

-- ---- what a range has that is not bad
pub not_bad : (p : State) (r : TpRange) → bad_range p r ≡ false → (r.start ≤ r.end) × (r.end ≤ p.limit) × (r.number ≤ p.count)
unfolding bad_range
not_bad p r e =
    let a = or_inv (ltb r.end r.start) _ e in
    let b = or_inv (ltb p.limit r.end) _ a.1 in
    let d = or_inv (end_before p.end r.end) _ b.1 in
    let f = or_inv (eqb r.number 0) (ltb p.count r.number) d.1 in
    (ltb-false r.end r.start a.0, ltb-false p.limit r.end b.0, ltb-false p.count r.number f.1)

-- ---- a range that may reach as far as it does: it is bad in any state if it is, and not where that state's ranges may reach so far
abbrev free : (r : TpRange) (accepted : ℕ) → State
free r accepted = record { limit = r.end; ranges = []; end = None; count = accepted }

module _ (r : TpRange) (accepted : ℕ) (b : Bool) (told : (q : State) → Reach q r.end → q.count ≡ accepted → b ≡ bad_range q r) where
  alone : b ≡ bad_range (free r accepted) r
  alone = told (free r accepted) (reach_limit (free r accepted) r.end refl refl) refl

  given : r.start ≤ r.end → never_given accepted r.number ≡ b
  given forth =
      bad_number (free r accepted) r r.end accepted (reach_limit (free r accepted) r.end refl refl) refl forth (le_refl r.end) (never_given accepted r.number) refl
      ∙ sym alone

  pub free_forth : b ≡ false → r.start ≤ r.end
  free_forth e = (not_bad (free r accepted) r (sym alone ∙ e)).0

  module _ (p : State) (top : ℕ) (reach : Reach p top) (counts : p.count ≡ accepted) where
    pub bad_anyway : b ≡ true → bad_range p r ≡ true
    bad_anyway e = early (ltb r.end r.start) refl
      where
        late : r.start ≤ r.end → (t : Bool) → ltb top r.end ≡ t → bad_range p r ≡ true
        late forth true l = sym (bad_late p r top accepted reach counts forth (ltb-true top r.end l))
        late forth false l = sym (bad_number p r top accepted reach counts forth (ltb-false top r.end l) (never_given accepted r.number) refl) ∙ given forth ∙ e

        early : (t : Bool) → ltb r.end r.start ≡ t → bad_range p r ≡ true
        early true s = sym (bad_early p r (ltb-true r.end r.start s))
        early false s = late (ltb-false r.end r.start s) (ltb top r.end) refl

    pub bad_past : b ≡ false → top < r.end → bad_range p r ≡ true
    bad_past e l = sym (bad_late p r top accepted reach counts (free_forth e) l)

    pub fine_within : b ≡ false → r.end ≤ top → bad_range p r ≡ false
    fine_within e l =
        let forth = free_forth e in
        sym (bad_number p r top accepted reach counts forth l (never_given accepted r.number) refl) ∙ given forth ∙ e

-- ---- one range more: what is left of the first n from i on, and the range r at i
module _ (array : List TpRange) (i n : ℕ) (h : i < n) (k : n ≤ length array) (r : TpRange) (is : r ≡ get_or array i none) where
  pub counted_next : (f : TpRange → Bool) (x y : ℕ) → y ≡ x + cond (f r) 1 0 → y + counted f (drop (i + 1) (take n array)) ≡ x + counted f (drop i (take n array))
  unfolding counted
  counted_next f x y e = rw (left array i n h k r is) (go (f r) e)
    where
      others : ℕ
      others = counted f (drop (i + 1) (take n array))

      go : (b : Bool) → y ≡ x + cond b 1 0 → y + others ≡ x + cond b (suc others) others
      go true q = omega arith
      go false q = omega arith

pub counted_done : (f : TpRange → Bool) (x : ℕ) (array : List TpRange) (i n : ℕ) → n ≤ i → x + counted f (drop i (take n array)) ≡ x
unfolding counted
counted_done f x array i n h = rw (past_end array i n h) (omega arith)

-- ---- where all are in order
pub not-true : (b : Bool) → not b ≡ true → b ≡ false
not-true true e = absurd (false≢true e)
not-true false e = refl

module _ (p : State) where
  pub rising_each : (low : ℕ) (rs : List TpRange) → rising (bad_range p) low rs ≡ true → All (λ r. bad_range p r ≡ false) rs
  rising_each low [] e = tt
  rising_each low (r ∷ rs) e = let f = first_rises (bad_range p) low r rs e in (f.1, rising_each (r.end + 1) rs f.2)

  pub rising_forth : (low : ℕ) (rs : List TpRange) → rising (bad_range p) low rs ≡ true → All (λ r. r.start ≤ r.end) rs
  rising_forth low rs e = all_map (λ r. bad_range p r ≡ false) (λ r. r.start ≤ r.end) (λ r b. (not_bad p r b).0) rs (rising_each low rs e)

  pub rising_numbers : (low : ℕ) (rs : List TpRange) → rising (bad_range p) low rs ≡ true → All (λ r. r.number ≤ p.count) rs
  rising_numbers low rs e = all_map (λ r. bad_range p r ≡ false) (λ r. r.number ≤ p.count) (λ r b. (not_bad p r b).2) rs (rising_each low rs e)

  -- each begins at m or behind it
  rising_from : (m low : ℕ) (rs : List TpRange) → m ≤ low → rising (bad_range p) low rs ≡ true → All (λ r. m ≤ r.start) rs
  rising_from m low [] h e = tt
  rising_from m low (r ∷ rs) h e =
      let f = first_rises (bad_range p) low r rs e in
      (omega (arith, f.0), rising_from m (r.end + 1) rs (omega (arith, f.0, (not_bad p r f.1).0)) f.2)

  pub rising_order : (low : ℕ) (rs : List TpRange) → rising (bad_range p) low rs ≡ true → InOrder rs
  rising_order low [] e = tt
  rising_order low (r ∷ rs) e = let f = first_rises (bad_range p) low r rs e in (all_map (λ x. r.end + 1 ≤ x.start) (Before r) (λ x h. omega arith) rs (rising_from (r.end + 1) (r.end + 1) rs (le_refl (r.end + 1)) f.2), rising_order (r.end + 1) rs f.2)

  pub none_bad : (low : ℕ) (rs : List TpRange) → rising (bad_range p) low rs ≡ true → any (bad_range p) rs ≡ false
  none_bad low rs e = all_any (bad_range p) rs (rising_each low rs e)

  pub none_touch : (low : ℕ) (rs : List TpRange) → rising (bad_range p) low rs ≡ true → some_touch rs ≡ false
  none_touch low rs e = (all_apart rs).1 (apart rs (rising_order low rs e))
    where
      apart : (xs : List TpRange) → InOrder xs → Pairwise Apart xs
      apart [] o = tt
      apart (x ∷ xs) o = (all_map (Before x) (Apart x) (λ y h. inl h) xs o.0, apart xs o.1)

  -- the last of them ends last
  last_ends : (low : ℕ) (r : TpRange) (rs : List TpRange) → rising (bad_range p) low (r ∷ rs) ≡ true → (get_or (r ∷ rs) (length rs) none).end ≡ greatest_end (r ∷ rs)
  unfolding greatest_end
  last_ends low r [] e = omega arith
  last_ends low r (s ∷ rs) e =
      let f = first_rises (bad_range p) low r (s ∷ rs) e in
      let g = first_rises (bad_range p) (r.end + 1) s rs f.2 in
      omega (arith, last_ends (r.end + 1) s rs f.2, g.0, (not_bad p s g.1).0)

  pub greatest_last : (low : ℕ) (rs : List TpRange) → rising (bad_range p) low rs ≡ true → (n : ℕ) → length rs ≡ n + 1 → (get_or rs n none).end ≡ greatest_end rs
  greatest_last low [] e n h = absurd (omega arith)
  greatest_last low (r ∷ rs) e n h = let at : n ≡ length rs = omega arith in ap (λ (m : ℕ). (get_or (r ∷ rs) m none).end) at ∙ last_ends low r rs e
