-- The machine follows the rules: line by line, as both are written. Assumes nothing.
use Rattle.std.specs.Prelude.{Option, Some, None, ℕ}
use Prim.Native.Nat.{ℕ, ◌+◌, ◌%◌, ◌<◌}
use mathlib.Core.Path.{◌≡◌, refl, ap}
use mathlib.Core.Bool.{Bool, true, false, not, or-true, false≢true}
use mathlib.Core.List.{List}
use mathlib.Core.Logic.{◌↔◌, ◌⊎◌, inl, inr, ⊎_elim, ◌≢◌}
use native.Mathlib.Omega.{arith}
use borrow.Author.Tests.{ne_eqb, not-true, ltb-true, lt-ltb}
use lib.Dec.{ltb}
use lib.ListN.{length}
use Rattle.numbers.specs.Refusals.{Refusal, conflicting_end}
use Rattle.numbers.specs.Rules.{Follows}
use Rattle.numbers.proofs.TestLaws.{below, at_most, unequal, fails, lacks}
use Rattle.numbers.proofs.RuleLaws.{follows_accepted, follows_if, follows_when}
use Rattle.tp_machine.specs.declared.TpRange.{TpRange}
use Rattle.tp_machine.specs.Segments.{is_segment, more, size, end_of}
use Rattle.tp_machine.specs.Ranges.{greatest_end}
use Rattle.tp_machine.specs.Machine.{most, last_number, State, bad_state, not_aligned, conflicts, previous, data_past, taken, judged, begun}
use Rattle.tp_machine.specs.Taking.{complete, end_held, ready}
use Rattle.tp_machine.specs.Rules.{begin_rules, Conflict, Behind, segment_rules, taking_rules}
use Rattle.tp_machine.specs.Theorems.{RulesFollowed}
use Rattle.numbers.proofs.TestLaws.{and_inv, or_cases}
use Rattle.tp_machine.proofs.Greatest.{greatest_told, greatest_past}
use Rattle.tp_machine.proofs.Tests.{segment_means, good_means, complete_means}
use Rattle.tp_machine.proofs.Telling.{range_follows, count_follows}

begin_follows : (limit : ℕ) → Follows (begun limit) (begin_rules limit)
unfolding begun
begin_follows limit = follows_if _ _ (below 65520 limit) (follows_accepted tt)

-- ---- a segment

unaligned_means : (seg : List ℕ) → (not_aligned seg ≡ true) ↔ ((more seg ≡ true) × (size seg % 16 ≢ 0))
unaligned_means seg = (
  (λ e. let w = and_inv (more seg) _ e in (w.0, (unequal (size seg % 16) 0).0 w.1)),
  (λ w. rw w.0 ((unequal (size seg % 16) 0).1 w.1)),
)

-- the test of a known end
other_end : (e : ℕ) (m : Bool) (x : ℕ) → (conflicts (Some e) m x ≡ true) ↔ ((e < x) ⊎ ((m ≡ false) × (x ≢ e)))
other_end e m x = (
  (λ t. ⊎_elim (λ p. inl (ltb-true e x p)) (λ p. let w = and_inv (not m) _ p in inr (not-true m w.0, (unequal x e).0 w.1)) (or_cases (ltb e x) _ t)),
  (λ w. ⊎_elim (λ p. rw (lt-ltb e x p)) (λ p. rw (p.0, ne_eqb x e p.1) (or-true (ltb e x))) w),
)

conflict_means : (end : Option ℕ) (m : Bool) (x : ℕ) (r : Refusal) → Conflict end m x r ↔ ((conflicts end m x ≡ true) × (conflicting_end (previous end) x ≡ r))
conflict_means None m x r = ((λ w. let z : ◌≡◌ {A = ℕ} 0 1 = cc in absurd (omega arith)), (λ w. absurd (false≢true w.0)))
conflict_means (Some e) m x r = (
  (λ w. let same : e ≡ w.previous = ap previous w.known in ((other_end e m x).1 (rw same w.other), rw same w.says)),
  (λ w. record { previous = e; known = refl; other = (other_end e m x).0 w.0; says = w.1 }),
)

-- a final segment that ends below the greatest end held
behind_means : (rs : List TpRange) (m : Bool) (x : ℕ) (r : Refusal) → Behind rs m x r ↔ ((data_past rs m x ≡ true) × (conflicting_end (greatest_end rs) x ≡ r))
behind_means rs m x r = (
  (λ w. let same : greatest_end rs ≡ w.previous = greatest_told rs w.previous w.greatest in (rw (w.final, same) (lt-ltb x w.previous w.below), rw same w.says)),
  (λ w.
      let a = and_inv (not m) (ltb x (greatest_end rs)) w.0 in
      let below = ltb-true x (greatest_end rs) a.1 in
      record { final = not-true m a.0; previous = greatest_end rs; greatest = greatest_past rs x below; below = below; says = w.1 }),
)

segment_follows : (p : State) (seg : List ℕ) (room : ℕ) → Follows (judged p seg room) (segment_rules p seg room)
unfolding judged
segment_follows p seg room =
    follows_if _ _ (fails (bad_state p) (good_means p))
    (follows_if _ _ (lacks (is_segment seg) (segment_means seg))
    (follows_if _ _ (below p.limit (end_of seg))
    (follows_if _ _ (unaligned_means seg)
    (follows_when _ _ _ (conflict_means p.end (more seg) (end_of seg))
    (follows_when _ _ _ (behind_means p.ranges (more seg) (end_of seg))
    (follows_if _ _ (below room (16 + end_of seg))
    (follows_if _ _ (below most (length (taken p seg).ranges))
    (follows_if _ _ (at_most last_number p.count)
    (follows_accepted tt)))))))))

taking_follows : (p : State) (room : ℕ) → Follows (ready p room) (taking_rules p room)
unfolding ready
taking_follows p room =
    follows_if _ _ (fails (bad_state p) (good_means p))
    (follows_if _ _ (lacks (complete p) (complete_means p))
    (follows_if _ _ (below room (16 + end_held p.ranges))
    (follows_accepted _)))

pub rules_followed : RulesFollowed
rules_followed = record { begins = begin_follows; segment = segment_follows; taken = taking_follows; range = range_follows; count = count_follows }
