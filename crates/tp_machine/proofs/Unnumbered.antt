-- Numbers are not seen: well-formed states that differ only in them answer alike, and come to states that differ only in them, as long as a number is
-- left. Assumes nothing.
use Prim.Native.Nat.{ℕ, ◌+◌, ◌≤◌, ◌<◌, max}
use mathlib.Core.Path.{◌≡◌, refl, sym, ap, ◌∙◌}
use mathlib.Core.Bool.{false}
use mathlib.Core.List.{List, [], ◌∷◌, map}
use native.Mathlib.Omega.{arith}
use borrow.Author.Tests.{lt-leb}
use lib.ListN.{length, length-map}
use Rattle.numbers.specs.Answers.{accepted, refused, Verdict}
use Rattle.tp_machine.specs.declared.TpRange.{TpRange}
use Rattle.tp_machine.specs.Ranges.{joined, greatest_end}
use Rattle.tp_machine.specs.Machine.{last_number, State, bad_state, taken, judged, Out, after, step, fed, clear}
use Rattle.tp_machine.specs.Taking.{whole, complete, end_held, ready, taking}
use Rattle.tp_machine.specs.Meaning.{range_of, Good}
use Rattle.tp_machine.specs.Runs.{unnumbered, SamePlaces, Alike}
use Rattle.tp_machine.specs.Theorems.{NumbersHidden, NumbersUnseen, Ample, RunsHideNumbers}
use Rattle.tp_machine.proofs.Joining.{joined_unnumbered}
use Rattle.tp_machine.proofs.Tests.{good_means}
use Rattle.tp_machine.proofs.Steps.{step_good}

-- ---- what is told of ranges without looking at their numbers
greatest_unnumbered : (rs : List TpRange) → greatest_end (map unnumbered rs) ≡ greatest_end rs
unfolding greatest_end
greatest_unnumbered [] = refl
greatest_unnumbered (r ∷ rs) = ap (max r.end) (greatest_unnumbered rs)

whole_unnumbered : (rs : List TpRange) → whole (map unnumbered rs) ≡ whole rs
whole_unnumbered [] = refl
whole_unnumbered (r ∷ []) = refl
whole_unnumbered (r ∷ x ∷ rs) = refl

held_unnumbered : (rs : List TpRange) → end_held (map unnumbered rs) ≡ end_held rs
held_unnumbered [] = refl
held_unnumbered (r ∷ rs) = refl

-- is the same of ranges that differ only in them
module _ {B : Type 0} (f : List TpRange → B) (blind : (rs : List TpRange) → f (map unnumbered rs) ≡ f rs) where
  told : (ps qs : List TpRange) → map unnumbered ps ≡ map unnumbered qs → f ps ≡ f qs
  told ps qs same = sym (blind ps) ∙ ap f same ∙ blind qs

-- ---- one call
module _ (p q : State) (same : SamePlaces p q) (good-p : Good p) (good-q : Good q) where
  fine_p : bad_state p ≡ false
  fine_p = (good_means p).1 good-p

  fine_q : bad_state q ≡ false
  fine_q = (good_means q).1 good-q

  joined_alike : (seg : List ℕ) → map unnumbered (taken p seg).ranges ≡ map unnumbered (taken q seg).ranges
  joined_alike seg =
      joined_unnumbered (range_of (p.count + 1) seg) p.ranges ∙ ap (joined (range_of 0 seg)) same.ranges ∙ sym (joined_unnumbered (range_of (q.count + 1) seg) q.ranges)

  judged_alike : p.count < last_number → q.count < last_number → (seg : List ℕ) (room : ℕ) → judged p seg room ≡ judged q seg room
  unfolding judged
  judged_alike left-p left-q seg room =
      let reach : greatest_end p.ranges ≡ greatest_end q.ranges = told greatest_end greatest_unnumbered p.ranges q.ranges same.ranges in
      let many : length (taken p seg).ranges ≡ length (taken q seg).ranges = told length (λ rs. length-map rs unnumbered) (taken p seg).ranges (taken q seg).ranges (joined_alike seg) in
      rw (fine_p, fine_q, many, reach, same.limit, same.end, lt-leb last_number p.count left-p, lt-leb last_number q.count left-q)

  step_alike : p.count < last_number → q.count < last_number → (seg buf : List ℕ) → Alike SamePlaces (step p seg buf) (step q seg buf)
  unfolding step after
  step_alike left-p left-q seg buf = rw (judged_alike left-p left-q seg (length buf)) (go (judged q seg (length buf)))
    where
      go : (v : Verdict) → Alike SamePlaces (after v p seg buf) (after v q seg buf)
      go (accepted u) = record { answer = refl; state = record { limit = same.limit; ranges = joined_alike seg; end = rw same.end }; buffer = refl }
      go (refused x) = record { answer = refl; state = same; buffer = refl }

  complete_alike : complete p ≡ complete q
  unfolding complete
  complete_alike = rw (fine_p, fine_q, same.end, told whole whole_unnumbered p.ranges q.ranges same.ranges)

  ready_alike : (room : ℕ) → ready p room ≡ ready q room
  unfolding ready
  ready_alike room = rw (fine_p, fine_q, complete_alike, told end_held held_unnumbered p.ranges q.ranges same.ranges)

  hidden : NumbersHidden p q
  unfolding taking clear
  hidden = record { step_alike = step_alike; complete_alike = complete_alike; taking_alike = λ buf. rw (ready_alike (length buf)); clear_alike = rw same.limit }

pub numbers_unseen : NumbersUnseen
numbers_unseen = hidden

-- ---- segments one after the other

-- a segment takes at most one number
one_at_most : (p : State) (seg buf : List ℕ) → (step p seg buf).state.count ≤ p.count + 1
unfolding step after
one_at_most p seg buf = go (judged p seg (length buf))
  where
    go : (v : Verdict) → (after v p seg buf).state.count ≤ p.count + 1
    go (accepted u) = omega arith
    go (refused r) = omega arith

ample_later : (o : Out) (s : List ℕ) (ss : List (List ℕ)) → Ample o (s ∷ ss) → Ample (step o.state s o.buffer) ss
ample_later o s ss a = record { good = step_good o.state s o.buffer a.good; left = omega (arith, a.left, one_at_most o.state s o.buffer) }

pub runs_hide_numbers : RunsHideNumbers
unfolding fed
runs_hide_numbers x y [] a b alike = alike
runs_hide_numbers x y (s ∷ ss) a b alike =
    runs_hide_numbers (step x.state s x.buffer) (step y.state s y.buffer) ss (ample_later x s ss a) (ample_later y s ss b)
    (rw alike.buffer ((numbers_unseen x.state y.state alike.state a.good b.good).step_alike (omega (arith, a.left)) (omega (arith, b.left)) s y.buffer))
