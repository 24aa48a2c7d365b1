-- Ranges in order: joining takes out those that the new range touches, which stand together, and puts the grown one in their place. So they stay
-- in order. Assumes nothing.
use Prim.Native.Nat.{ℕ, suc, ◌+◌, ◌-◌, ◌≤◌, ◌<◌, min, max}
use mathlib.Core.Path.{◌≡◌, refl, sym, ap, subst, ◌∙◌}
use mathlib.Core.Bool.{Bool, true, false}
use mathlib.Core.List.{List, [], ◌∷◌, ◌++◌}
use mathlib.Core.Logic.{inl, inr}
use native.Mathlib.Omega.{arith}
use borrow.Author.Tests.{ltb-true, ltb-false, lt-ltb, le-ltb, leb-true, leb-false, le-leb, lt-leb}
use lib.ListN.{length, take, drop, get_or, take-append-drop}
use lib.Seq.{length-take-le, drop-append-le, slice_empty, slice-cons, length-slice, get_or-take, get_or-drop}
use Rattle.numbers.specs.Answers.{accepted, refused, Verdict, All}
use Rattle.numbers.proofs.AnswerLaws.{all_map, all_both}
use Rattle.tp_machine.specs.declared.TpRange.{TpRange}
use Rattle.tp_machine.specs.Lists.{counted}
use Rattle.tp_machine.specs.Ranges.{touch, hull_of, keep, grow_if, grow, inserted, joined, ends_before, begins_by}
use Rattle.tp_machine.specs.Machine.{State, judged, after, step, begin, clear}
use Rattle.tp_machine.specs.Meaning.{range_of, Before, InOrder, Fine, Good}
use Rattle.tp_machine.specs.Runs.{Reached, begins, comes, clears}
use Rattle.tp_machine.specs.Theorems.{KeptInOrder}
use Rattle.tp_machine.proofs.Lists.{all_parts, all_at, pairwise_append, pairwise_parts, pairwise_map, counted_upto, counted_parts, counted_more}
use Rattle.tp_machine.proofs.Joining.{all_grow, touching, untouched, keep_append, grow_append, keep_none, keep_each, grow_untouched, grow_around}
use Rattle.tp_machine.proofs.Steps.{never_malformed}

-- ---- in any order

-- where all numbers are at most n's, that is the number of the range that n has grown to
pub grow_number : (n : TpRange) (rs : List TpRange) → All (λ r. r.number ≤ n.number) rs → (grow n n rs).number ≡ n.number
unfolding hull_of
grow_number n rs low = all_grow (λ g. g.number ≡ n.number) (λ r. r.number ≤ n.number) n (λ g r _ e l. omega (arith, e, l)) n rs refl low

-- g stands between those that begin no later and those that begin behind it
inserted_between : (g : TpRange) (xs ys : List TpRange) → All (λ x. x.start ≤ g.start) xs → All (λ y. g.start < y.start) ys → inserted g (xs ++ ys) ≡ xs ++ (g ∷ ys)
unfolding inserted
inserted_between g [] [] p q = refl
inserted_between g [] (y ∷ ys) p q = rw (lt-ltb g.start y.start q.0)
inserted_between g (x ∷ xs) ys p q = rw (le-ltb g.start x.start p.0) (ap (λ (l : List TpRange). x ∷ l) (inserted_between g xs ys p.1 q))

-- ---- ranges in order that n touches: the first and the last tell how far it grows
module _ (n : TpRange) where
  grow_one : (g m : TpRange) (ms : List TpRange) → touch n m ≡ true → grow n g (m ∷ ms) ≡ grow n (hull_of g m) ms
  unfolding grow
  grow_one g m ms t = ap (λ (b : Bool). grow n (grow_if b g m) ms) t

  first_tells : (g m : TpRange) (ms : List TpRange) → touch n m ≡ true → m.start ≤ m.end → All (Before m) ms → (grow n g (m ∷ ms)).start ≡ min m.start g.start
  unfolding hull_of
  first_tells g m ms t forth later =
      ap (λ (r : TpRange). r.start) (grow_one g m ms t)
      ∙ all_grow (λ h. h.start ≡ min m.start g.start) (Before m) n (λ h r _ e l. omega (arith, e, l, forth)) (hull_of g m) ms (omega arith) later

  last_tells : (d g m : TpRange) (ms : List TpRange) → All (λ r. touch n r ≡ true) (m ∷ ms) → All (λ r. r.start ≤ r.end) (m ∷ ms) → InOrder (m ∷ ms)
      → (grow n g (m ∷ ms)).end ≡ max (get_or (m ∷ ms) (length ms) d).end g.end
  unfolding grow hull_of
  last_tells d g m [] t forth order = ap (λ (r : TpRange). r.end) (grow_one g m [] t.0) ∙ omega arith
  last_tells d g m (r ∷ rs) t forth order =
      let last = all_at (λ x. (m.end < x.start) × (x.start ≤ x.end)) (r ∷ rs) (length rs) d (omega arith) (all_both (Before m) (λ x. x.start ≤ x.end) (r ∷ rs) order.0 forth.1) in
      ap (λ (r : TpRange). r.end) (grow_one g m (r ∷ rs) t.0) ∙ last_tells d (hull_of g m) r rs t.1 forth.1 order.1 ∙ omega (arith, last.0, last.1)

-- ---- ranges in order: those that end before n, those that it touches, those that begin behind it
module _ (n : TpRange) (rs : List TpRange) (forth : n.start ≤ n.end) (each : All (λ r. r.start ≤ r.end) rs) (order : InOrder rs) where
  abbrev before : ℕ
  before = counted (ends_before n.start) rs

  abbrev upto : ℕ
  upto = counted (begins_by n.end) rs

  abbrev touched : List TpRange
  touched = drop before (take upto rs)

  pub counted_less : before ≤ upto
  counted_less =
      counted_more (ends_before n.start) (begins_by n.end) rs
      (all_map (λ r. r.start ≤ r.end) (λ r. ends_before n.start r ≡ true → begins_by n.end r ≡ true)
      (λ r h e. le-leb r.start n.end (omega (arith, ltb-true r.end n.start e))) rs each)

  pub counted_most : upto ≤ length rs
  counted_most = counted_upto (begins_by n.end) rs

  by_end : All (λ r. ends_before n.start r ≡ true) (take before rs) × All (λ r. ends_before n.start r ≡ false) (drop before rs)
  by_end =
      counted_parts (ends_before n.start) rs
      (pairwise_map Before (λ a b. ends_before n.start a ≡ false → ends_before n.start b ≡ false) (λ r. r.start ≤ r.end)
      (λ a b p q h e. le-ltb b.end n.start (omega (arith, h, ltb-false a.end n.start e))) rs each order)

  by_start : All (λ r. begins_by n.end r ≡ true) (take upto rs) × All (λ r. begins_by n.end r ≡ false) (drop upto rs)
  by_start =
      counted_parts (begins_by n.end) rs
      (pairwise_map Before (λ a b. begins_by n.end a ≡ false → begins_by n.end b ≡ false) (λ r. r.start ≤ r.end)
      (λ a b p q h e. lt-leb b.start n.end (omega (arith, h, leb-false a.start n.end e))) rs each order)

  later : drop before rs ≡ touched ++ drop upto rs
  later = ap (drop before) (sym (take-append-drop upto rs)) ∙ drop-append-le before (take upto rs) (drop upto rs) (omega (arith, counted_less, length-take-le upto rs counted_most))

  whole : rs ≡ take before rs ++ (touched ++ drop upto rs)
  whole = sym (take-append-drop before rs) ∙ ap (λ (l : List TpRange). take before rs ++ l) later

  -- each of the three parts, and how they stand to each other
  front : All (λ r. r.end < n.start) (take before rs)
  front = all_map (λ r. ends_before n.start r ≡ true) (λ r. r.end < n.start) (λ r e. ltb-true r.end n.start e) (take before rs) by_end.0

  behind : All (λ r. n.end < r.start) (drop upto rs)
  behind = all_map (λ r. begins_by n.end r ≡ false) (λ r. n.end < r.start) (λ r e. leb-false r.start n.end e) (drop upto rs) by_start.1

  middle : All (λ r. touch n r ≡ true) touched
  middle =
      all_map (λ r. (ends_before n.start r ≡ false) × (begins_by n.end r ≡ true)) (λ r. touch n r ≡ true)
      (λ r e. touching n r (ltb-false r.end n.start e.0) (leb-true r.start n.end e.1)) touched
      (all_both (λ r. ends_before n.start r ≡ false) (λ r. begins_by n.end r ≡ true) touched
      (all_parts (λ r. ends_before n.start r ≡ false) touched (drop upto rs) (subst (All (λ r. ends_before n.start r ≡ false)) later by_end.1)).0
      (all_parts (λ r. begins_by n.end r ≡ true) (take before (take upto rs)) touched
      (subst (All (λ r. begins_by n.end r ≡ true)) (sym (take-append-drop before (take upto rs))) by_start.0)).1)

  forths : All (λ r. r.start ≤ r.end) (take before rs) × All (λ r. r.start ≤ r.end) touched
  forths =
      let first = all_parts (λ r. r.start ≤ r.end) (take before rs) (touched ++ drop upto rs) (subst (All (λ r. r.start ≤ r.end)) whole each) in
      (first.0, (all_parts (λ r. r.start ≤ r.end) touched (drop upto rs) first.1).0)

  front_in_order : InOrder (take before rs) × All (λ x. All (Before x) (touched ++ drop upto rs)) (take before rs) × InOrder (touched ++ drop upto rs)
  front_in_order = pairwise_parts Before (take before rs) (touched ++ drop upto rs) (subst InOrder whole order)

  later_in_order : InOrder touched × All (λ x. All (Before x) (drop upto rs)) touched × InOrder (drop upto rs)
  later_in_order = pairwise_parts Before touched (drop upto rs) front_in_order.2

  -- n grows by those that it touches
  front_apart : All (λ r. touch n r ≡ false) (take before rs)
  front_apart = all_map (λ r. r.end < n.start) (λ r. touch n r ≡ false) (λ r h. untouched n r (inr h)) (take before rs) front

  behind_apart : All (λ r. touch n r ≡ false) (drop upto rs)
  behind_apart = all_map (λ r. n.end < r.start) (λ r. touch n r ≡ false) (λ r h. untouched n r (inl h)) (drop upto rs) behind

  kept : keep n rs ≡ take before rs ++ drop upto rs
  kept =
      ap (keep n) whole ∙ keep_append n (take before rs) (touched ++ drop upto rs)
      ∙ rw (keep_append n touched (drop upto rs), keep_none n (take before rs) front_apart, keep_each n touched middle, keep_none n (drop upto rs) behind_apart)

  grown : grow n n rs ≡ grow n n touched
  grown =
      ap (grow n n) whole ∙ grow_append n n (take before rs) (touched ++ drop upto rs)
      ∙ ap (λ (g : TpRange). grow n g (touched ++ drop upto rs)) (grow_untouched n n (take before rs) front_apart)
      ∙ grow_append n n touched (drop upto rs) ∙ grow_untouched n (grow n n touched) (drop upto rs) behind_apart

  -- and stays between the others
  grown_behind : All (λ x. x.end < (grow n n rs).start) (take before rs)
  unfolding hull_of
  grown_behind =
      rw grown
      (all_map (λ x. (x.end < n.start) × All (Before x) (touched ++ drop upto rs)) (λ x. x.end < (grow n n touched).start)
      (λ x h. all_grow (λ g. x.end < g.start) (Before x) n (λ g r _ p q. omega (arith, p, q)) n touched h.0 (all_parts (Before x) touched (drop upto rs) h.1).0) (take before rs)
      (all_both (λ x. x.end < n.start) (λ x. All (Before x) (touched ++ drop upto rs)) (take before rs) front front_in_order.1))

  grown_before : All (Before (grow n n rs)) (drop upto rs)
  unfolding hull_of
  grown_before =
      rw grown
      (all_grow (λ g. All (Before g) (drop upto rs)) (λ r. All (Before r) (drop upto rs)) n
      (λ g r _ p q. all_map (λ y. Before g y × Before r y) (Before (hull_of g r)) (λ y h. omega (arith, h.0, h.1)) (drop upto rs) (all_both (Before g) (Before r) (drop upto rs) p q)) n touched behind
      later_in_order.1)

  -- those before n, n grown, those behind it
  pub joined_split : joined n rs ≡ take before rs ++ (grow n n rs ∷ drop upto rs)
  unfolding joined
  joined_split =
      ap (inserted (grow n n rs)) kept
      ∙ inserted_between (grow n n rs) (take before rs) (drop upto rs)
      (all_map (λ x. (x.end < (grow n n rs).start) × (x.start ≤ x.end)) (λ x. x.start ≤ (grow n n rs).start) (λ x h. omega (arith, h.0, h.1)) (take before rs)
      (all_both (λ x. x.end < (grow n n rs).start) (λ x. x.start ≤ x.end) (take before rs) grown_behind forths.0))
      (all_map (λ y. n.end < y.start) (λ y. (grow n n rs).start < y.start) (λ y h. omega (arith, h, forth, (grow_around n rs).0)) (drop upto rs) behind)

  joined_in_order : InOrder (joined n rs)
  joined_in_order =
      subst InOrder (sym joined_split)
      (pairwise_append Before (take before rs) (grow n n rs ∷ drop upto rs) front_in_order.0
      (all_map (λ x. (x.end < (grow n n rs).start) × All (Before x) (touched ++ drop upto rs)) (λ x. All (Before x) (grow n n rs ∷ drop upto rs))
      (λ x h. (h.0, (all_parts (Before x) touched (drop upto rs) h.1).1)) (take before rs)
      (all_both (λ x. x.end < (grow n n rs).start) (λ x. All (Before x) (touched ++ drop upto rs)) (take before rs) grown_behind front_in_order.1))
      (grown_before, later_in_order.2))

  -- nothing touches n: it has not grown
  pub grow_none : before ≡ upto → grow n n rs ≡ n
  unfolding grow
  grow_none same = grown ∙ ap (grow n n) (ap (λ (k : ℕ). drop k (take upto rs)) same ∙ slice_empty upto rs)

  -- else the first and the last that it touches tell how far it has grown
  module _ (d : TpRange) (some : before < upto) where
    abbrev others : List TpRange
    others = drop (suc before) (take upto rs)

    one_first : touched ≡ get_or rs before d ∷ others
    one_first = slice-cons before upto rs d some counted_most

    pub grow_start : (grow n n rs).start ≡ min (get_or rs before d).start n.start
    grow_start =
        ap (λ (g : TpRange). g.start) (grown ∙ ap (grow n n) one_first)
        ∙ first_tells n n (get_or rs before d) others (subst (All (λ r. touch n r ≡ true)) one_first middle).0 (subst (All (λ r. r.start ≤ r.end)) one_first forths.1).0
        (subst InOrder one_first later_in_order.0).0

    last_place : before + length others ≡ upto - 1
    last_place = omega (arith, some, length-slice (suc before) upto rs counted_most)

    last_one : get_or (get_or rs before d ∷ others) (length others) d ≡ get_or rs (upto - 1) d
    last_one =
        ap (λ (l : List TpRange). get_or l (length others) d) (sym one_first) ∙ get_or-drop before (take upto rs) (length others) d
        ∙ ap (λ (k : ℕ). get_or (take upto rs) k d) last_place ∙ get_or-take upto rs (upto - 1) d (omega (arith, some))

    pub grow_end : (grow n n rs).end ≡ max (get_or rs (upto - 1) d).end n.end
    grow_end =
        ap (λ (g : TpRange). g.end) (grown ∙ ap (grow n n) one_first)
        ∙ last_tells n d n (get_or rs before d) others (subst (All (λ r. touch n r ≡ true)) one_first middle) (subst (All (λ r. r.start ≤ r.end)) one_first forths.1)
        (subst InOrder one_first later_in_order.0)
        ∙ ap (λ (r : TpRange). max r.end n.end) last_one

-- ---- every state that a run comes to
step_in_order : (p : State) (seg buf : List ℕ) → Good p → InOrder p.ranges → InOrder (step p seg buf).state.ranges
unfolding step after
step_in_order p seg buf g k = go (judged p seg (length buf))
  where
    go : (v : Verdict) → InOrder (after v p seg buf).state.ranges
    go (accepted u) = joined_in_order (range_of (p.count + 1) seg) p.ranges (omega arith) (all_map (Fine p) (λ r. r.start ≤ r.end) (λ r f. f.forth) p.ranges g.each) k
    go (refused r) = k

reached_in_order : (p : State) → Reached p → InOrder p.ranges
unfolding begin clear
reached_in_order p (begins limit) = tt
reached_in_order q (comes {p} r seg buf) = step_in_order p seg buf (never_malformed p r) (reached_in_order p r)
reached_in_order q (clears r) = tt

pub kept_in_order : KeptInOrder
kept_in_order = record { joins = joined_in_order; reached = reached_in_order }
