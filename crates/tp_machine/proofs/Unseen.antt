-- The order of the ranges is not seen: states with the same ranges answer alike, and come to states with the same ranges. Assumes nothing.
use Rattle.std.specs.Prelude.{Option, ℕ}
use Prim.Native.Nat.{ℕ, ◌+◌, ◌≤◌}
use mathlib.Core.Path.{◌≡◌, refl, sym, ap, subst, ◌∙◌}
use mathlib.Core.Bool.{Bool, true, false, not, and-false}
use mathlib.Core.List.{List, [], ◌∷◌}
use mathlib.Core.Logic.{⊎_elim, ◌≢◌}
use native.Mathlib.Omega.{arith}
use lib.ListN.{length}
use Rattle.numbers.specs.Refusals.{malformed_state, not_complete}
use Rattle.numbers.specs.Answers.{accepted, refused, Verdict, refuse◌when◌else◌, All}
use Rattle.numbers.proofs.AnswerLaws.{all_map}
use Rattle.tp_machine.specs.declared.TpRange.{TpRange}
use Rattle.tp_machine.specs.Lists.{Pairwise, Rearranged}
use Rattle.tp_machine.specs.Machine.{State, bad_range, bad_state, taken, judged, after, step, fed, clear}
use Rattle.tp_machine.specs.Taking.{is_known, whole, complete, ready, taking}
use Rattle.tp_machine.specs.Telling.{first_from, range_told, count_told}
use Rattle.tp_machine.specs.Meaning.{range, range_of, Apart, Fine, Good}
use Rattle.tp_machine.specs.Runs.{Same, Alike}
use Rattle.tp_machine.specs.Theorems.{SetIsOrder, Unseen, OrderUnseen, RunsAlike}
use Rattle.numbers.proofs.TestLaws.{same_test}
use Rattle.tp_machine.proofs.Lists.{same_elements, any_moved, moved_back, length_moved, one_moved}
use Rattle.tp_machine.proofs.Joining.{joining_order_unseen, touch_moved}
use Rattle.tp_machine.proofs.Greatest.{greatest_moved}
use Rattle.tp_machine.proofs.Tests.{good_means, whole_means}
use Rattle.tp_machine.proofs.Telling.{first_alike}

-- ---- the set
distinct : (rs : List TpRange) → All (λ r. r.start ≤ r.end) rs → Pairwise Apart rs → Pairwise ◌≢◌ rs
distinct [] f a = tt
distinct (r ∷ rs) f a = (all_map (Apart r) (◌≢◌ r) (λ x h e. ⊎_elim (λ l. absurd (omega (arith, ap (λ (t : TpRange). t.start) e))) (λ l. absurd (omega (arith, ap (λ (t : TpRange). t.end) e))) h) rs a.0, distinct rs f.1 a.1)

pub set_is_order : SetIsOrder
set_is_order p q g h s = same_elements p.ranges q.ranges (well p g) (well q h) s.there s.back
  where
    well : (x : State) → Good x → Pairwise ◌≢◌ x.ranges
    well x k = distinct x.ranges (all_map (Fine x) (λ r. r.start ≤ r.end) (λ r f. f.forth) x.ranges k.each) k.apart

-- ---- the order

-- a list that is whole has no other order
whole_one : {rs qs : List TpRange} → Rearranged rs qs → whole rs ≡ true → rs ≡ qs
whole_one {rs} {qs} r e = let w = whole_means rs e in w.2 ∙ sym (one_moved r (range 0 w.0 w.1) w.2)

whole_moved : {rs qs : List TpRange} → Rearranged rs qs → whole rs ≡ whole qs
whole_moved {rs} {qs} r = same_test (whole rs) (whole qs) (λ e. sym (ap whole (whole_one r e)) ∙ e) (λ e. sym (ap whole (whole_one (moved_back r) e)) ∙ e)

-- 38 or 37 where a state is not complete
ready_none : (p : State) (room : ℕ) → complete p ≡ false → ready p room ≡ (refuse malformed_state when bad_state p else refused not_complete)
unfolding ready refuse◌when◌else◌
ready_none p room e = rw e

abbrev state : ℕ → Option ℕ → ℕ → List TpRange → State
state limit end count rs = record { limit = limit; ranges = rs; end = end; count = count }

module _ (limit : ℕ) (end : Option ℕ) (count : ℕ) (rs qs : List TpRange) (r : Rearranged rs qs) where
  p : State
  p = state limit end count rs

  q : State
  q = state limit end count qs

  bad_moved : bad_state p ≡ bad_state q
  unfolding p q bad_state bad_range
  bad_moved = rw (length_moved r, any_moved (bad_range p) r, touch_moved r)

  same_after : (seg : List ℕ) → Same (taken p seg) (taken q seg)
  unfolding p q
  same_after seg = record { limit = refl; ranges = joining_order_unseen (range_of (count + 1) seg) rs qs r; end = refl; count = refl }

  judged_moved : (seg : List ℕ) (room : ℕ) → judged p seg room ≡ judged q seg room
  unfolding p q judged
  judged_moved seg room = rw (bad_moved, greatest_moved r, length_moved (joining_order_unseen (range_of (count + 1) seg) rs qs r))

  step_moved : (seg buf : List ℕ) → Alike Same (step p seg buf) (step q seg buf)
  unfolding p q step after
  step_moved seg buf = rw (judged_moved seg (length buf)) (go (judged q seg (length buf)))
    where
      go : (v : Verdict) → Alike Same (after v p seg buf) (after v q seg buf)
      go (accepted u) = record { answer = refl; state = same_after seg; buffer = refl }
      go (refused x) = record { answer = refl; state = record { limit = refl; ranges = r; end = refl; count = refl }; buffer = refl }

  complete_moved : complete p ≡ complete q
  unfolding p q complete
  complete_moved = rw (bad_moved, whole_moved r)

  not_whole : whole rs ≡ false → complete p ≡ false
  unfolding p complete
  not_whole e = rw (e, and-false (is_known end)) (and-false (not (bad_state p)))

  ready_moved : (room : ℕ) → ready p room ≡ ready q room
  unfolding p q
  ready_moved room = go (whole rs) refl
    where
      go : (t : Bool) → whole rs ≡ t → ready p room ≡ ready q room
      go true e = ap (λ (l : List TpRange). ready (state limit end count l) room) (whole_one r e)
      go false e = ready_none p room (not_whole e) ∙ ap (λ (b : Bool). refuse malformed_state when b else refused not_complete) bad_moved ∙ sym (ready_none q room (sym complete_moved ∙ not_whole e))

  taking_moved : (buf : List ℕ) → taking p buf ≡ taking q buf
  unfolding taking
  taking_moved buf = rw (ready_moved (length buf))

  -- where neither is malformed
  first_same : (x : ℕ) (t : Bool) → bad_state p ≡ t → (refuse malformed_state when t else first_from x rs) ≡ (refuse malformed_state when t else first_from x qs)
  unfolding p q refuse◌when◌else◌
  first_same x true e = refl
  first_same x false e = first_alike p q ((good_means p).0 e) ((good_means q).0 (sym bad_moved ∙ e)) r x

  range_moved : (x : ℕ) → range_told p x ≡ range_told q x
  unfolding p q range_told
  range_moved x = rw (← bad_moved) (first_same x (bad_state p) refl)

  count_moved : count_told p ≡ count_told q
  unfolding p q count_told
  count_moved = rw bad_moved

  unseen : Unseen p q
  unfolding p q clear
  unseen = record {
    malformed = bad_moved;
    step_alike = step_moved;
    complete_alike = complete_moved;
    taking_alike = taking_moved;
    clear_alike = refl;
    range_alike = range_moved;
    count_alike = count_moved;
  }

pub order_unseen : OrderUnseen
unfolding p q
order_unseen p q s = subst (Unseen p) (rw (s.limit, s.end, s.count)) (unseen p.limit p.end p.count p.ranges q.ranges s.ranges)

pub runs_alike : RunsAlike
unfolding fed
runs_alike x y a [] = a
runs_alike x y a (s ∷ ss) =
    runs_alike (step x.state s x.buffer) (step y.state s y.buffer) (rw a.buffer ((order_unseen x.state y.state a.state).step_alike s y.buffer)) ss
