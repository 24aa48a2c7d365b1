-- Whether a report can be taken, by the end, the number of ranges and the first of them. Assumes nothing.
use Prim.Native.Nat.{ℕ, ◌+◌, ◌≤◌, ◌<◌}
use mathlib.Core.Path.{◌≡◌, refl, sym, ◌∙◌}
use mathlib.Core.Bool.{Bool, true, false, ◌&&◌, not}
use mathlib.Core.List.{List, [], ◌∷◌}
use native.Mathlib.Omega.{arith}
use borrow.Author.Tests.{eqb-true, eqb-false}
use lib.Dec.{ltb, eqb}
use lib.ListN.{length, take, get_or}
use lib.Seq.{length-take-le}
use Rattle.numbers.specs.Refusals.{buffer_too_short, not_complete, malformed_state}
use Rattle.numbers.specs.Answers.{accepted, refuse◌when◌else◌}
use Rattle.numbers.proofs.AnswerLaws.{when_pass}
use Rattle.tp_range.specs.Joining.{none}
use Rattle.tp_machine.specs.declared.TpRange.{TpRange}
use Rattle.tp_machine.specs.Machine.{State, bad_state}
use Rattle.tp_machine.specs.Taking.{is_known, whole, complete, end_held, ready}
use Rattle.tp_machine.proofs.Lists.{and_inv}
use Rattle.tp_rules.specs.Taking.{one_whole, one_ready}

not_one : (rs : List TpRange) → (length rs ≡ 1 → ⊥) → whole rs ≡ false
not_one [] h = refl
not_one (r ∷ []) h = absurd (h refl)
not_one (r ∷ x ∷ rs) h = refl

front : (rs : List TpRange) → 0 < length rs → take 1 rs ≡ get_or rs 0 none ∷ []
front [] h = absurd (omega arith)
front (r ∷ rs) h = refl

-- the first n of an array are one range from 0 where n is 1 and the first of them is that
whole_taken : (n : ℕ) (array : List TpRange) → n ≤ length array → 1 ≤ length array → whole (take n array) ≡ (eqb n 1 && eqb (get_or array 0 none).start 0)
whole_taken n array few some = go (eqb n 1) refl
  where
    go : (b : Bool) → eqb n 1 ≡ b → whole (take n array) ≡ (b && eqb (get_or array 0 none).start 0)
    go true e = rw (eqb-true n 1 e, front array some)
    go false e = not_one (take n array) (λ q. eqb-false n 1 e (sym (length-take-le n array few) ∙ q))

-- ---- a state whose ranges are the first n of an array
module _
    (p : State) (n : ℕ) (array : List TpRange) (m : bad_state p ≡ false)
    (ranges : p.ranges ≡ take n array) (few : n ≤ length array) (some : 1 ≤ length array) where
  pub complete_one : complete p ≡ one_whole p.end n (get_or array 0 none)
  unfolding complete
  complete_one = rw (m, ranges, whole_taken n array few some)

  -- where the one range ends
  end_one : one_whole p.end n (get_or array 0 none) ≡ true → end_held p.ranges ≡ (get_or array 0 none).end
  end_one w =
      let one : n ≡ 1 = eqb-true n 1 (and_inv (eqb n 1) _ (and_inv (is_known p.end) _ w).1).0 in
      rw (ranges, one, front array some)

  pub ready_one : (room : ℕ) → ready p room ≡ one_ready p.end n (get_or array 0 none) room
  unfolding ready one_ready refuse◌when◌else◌
  ready_one room = when_pass malformed_state (bad_state p) _ m ∙ go (one_whole p.end n (get_or array 0 none)) refl
    where
      go : (b : Bool) → one_whole p.end n (get_or array 0 none) ≡ b
          → (refuse not_complete when not (complete p) else refuse buffer_too_short (16 + end_held p.ranges) when ltb room (16 + end_held p.ranges) else accepted (end_held p.ranges))
          ≡ one_ready p.end n (get_or array 0 none) room
      go true w = rw (complete_one, end_one w)
      go false w = rw (complete_one, w)
