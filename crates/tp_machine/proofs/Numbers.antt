-- Numbers of arrival: what an accepted segment makes of them, and what every state that a run comes to keeps of them. Assumes nothing.
use Prim.Native.Nat.{ℕ, ◌+◌, ◌≤◌}
use mathlib.Core.Path.{◌≡◌, refl, sym, ap, subst, ◌∙◌}
use mathlib.Core.Bool.{Bool, true, false, true≢false}
use mathlib.Core.List.{List, [], ◌∷◌, ◌++◌}
use mathlib.Core.Logic.{◌≢◌, ⊎_elim}
use native.Mathlib.Omega.{arith}
use lib.ListN.{length}
use Rattle.numbers.specs.Answers.{accepted, refused, Verdict, All}
use Rattle.numbers.proofs.AnswerLaws.{all_map}
use Rattle.tp_machine.specs.declared.TpRange.{TpRange}
use Rattle.tp_machine.specs.Lists.{OneOf}
use Rattle.tp_machine.specs.Ranges.{touch, grow}
use Rattle.tp_machine.specs.Machine.{State, taken, judged, after, step, begin, clear}
use Rattle.tp_machine.specs.Meaning.{range, range_of, Fine, Good, Accepted}
use Rattle.tp_machine.specs.Runs.{begins, comes, clears, around, Numbered, Numbers}
use Rattle.tp_machine.specs.Theorems.{EveryNumber}
use Rattle.tp_machine.proofs.Lists.{latest_still, latest_new}
use Rattle.tp_machine.proofs.Joining.{each_joined, pairwise_joined, grown_joined, touching, grow_around, lies_around, is_around}
use Rattle.tp_machine.proofs.InOrder.{grow_number}
use Rattle.tp_machine.proofs.Tests.{accepted_means}
use Rattle.tp_machine.proofs.Steps.{never_malformed}

-- ---- an accepted segment

-- the numbers held are at most the count
held_low : (p : State) → Good p → All (λ r. r.number ≤ p.count) p.ranges
held_low p g = all_map (Fine p) (λ r. r.number ≤ p.count) (λ r f. f.counted) p.ranges g.each

module _ (p : State) (seg : List ℕ) (good : Good p) where
  new : TpRange
  new = range_of (p.count + 1) seg

  -- so the range that the new one has grown to has the new number
  new_number : (grow new new p.ranges).number ≡ p.count + 1
  unfolding new
  new_number = grow_number new p.ranges (all_map (λ r. r.number ≤ p.count) (λ r. r.number ≤ p.count + 1) (λ r h. omega arith) p.ranges (held_low p good))

  -- a segment lies in no range that its own does not touch, and in the one that its own has grown to
  not_within : (r : TpRange) → touch new r ≡ false → around seg r ≡ false
  unfolding new
  not_within r m = go (around seg r) refl
    where
      go : (t : Bool) → around seg r ≡ t → around seg r ≡ false
      go true e = let a = lies_around seg r e in absurd (true≢false (sym (touching new r (omega arith) (omega arith)) ∙ m))
      go false e = e

  within : around seg (grow new new p.ranges) ≡ true
  unfolding new
  within = is_around seg (grow new new p.ranges) (grow_around new p.ranges)

  -- it comes behind others that were accepted: each range has the place of the latest that lies in it
  pub taken_numbered : (before : List (List ℕ)) → p.count ≡ length before → All (Numbered before) p.ranges → All (Numbered (before ++ (seg ∷ []))) (taken p seg).ranges
  unfolding new latest_still latest_new
  taken_numbered before counted numbered =
      each_joined (Numbered (before ++ (seg ∷ []))) (Numbered before) new
      (λ r m k. record { segment = k.segment; latest = latest_still (λ s. around s r) before seg k.segment k.latest (not_within r m); its_place = k.its_place }) p.ranges numbered
      (record { segment = seg; latest = latest_new (λ s. around s (grow new new p.ranges)) before seg within; its_place = new_number ∙ ap (λ (x : ℕ). x + 1) counted })

  -- no number is there twice, and the new one is there
  pub taken_numbers : (room : ℕ) → Accepted p seg room → Numbers p → Numbers (taken p seg)
  unfolding new
  taken_numbers room t k = record {
    fits = omega (arith, t.number_left);
    apart = pairwise_joined (λ a b. a.number ≢ b.number) new (λ a b n e. n (sym e)) p.ranges k.apart
        (all_map (λ r. r.number ≤ p.count) (λ r. (grow new new p.ranges).number ≢ r.number) (λ r h e. absurd (omega (arith, new_number))) p.ranges (held_low p good));
    latest = λ _. (grow new new p.ranges, grown_joined new p.ranges, new_number);
  }

-- ---- every state that a run comes to
step_numbers : (p : State) (seg buf : List ℕ) → Good p → Numbers p → Numbers (step p seg buf).state
unfolding step after
step_numbers p seg buf g k = go (judged p seg (length buf)) refl
  where
    go : (v : Verdict) → judged p seg (length buf) ≡ v → Numbers (after v p seg buf).state
    go (accepted u) e = taken_numbers p seg g (length buf) ((accepted_means p seg (length buf)).0 e) k
    go (refused r) e = k

pub every_number : EveryNumber
unfolding begin clear
every_number p (begins limit) = record { fits = omega arith; apart = tt; latest = λ n. absurd (n refl) }
every_number q (comes {p} r seg buf) = step_numbers p seg buf (never_malformed p r) (every_number p r)
every_number q (clears {p} r) = record { fits = omega arith; apart = tt; latest = λ n. absurd (n refl) }

-- where one range is held, its number is the count
pub one_number : (p : State) → Good p → Numbers p → (start end number : ℕ) → p.ranges ≡ range start end number ∷ [] → number ≡ p.count
one_number p g k start end number one =
    let fine : All (Fine p) (range start end number ∷ []) = subst (All (Fine p)) one g.each in
    let (r, among, has) = k.latest (λ e. absurd (omega (arith, e, fine.0.given, fine.0.counted))) in
    ⊎_elim (λ same. sym (ap (λ (x : TpRange). x.number) same) ∙ has) (λ none. absurd none) (subst (OneOf r) one among)
