-- The instances of 'order doesn't matter', by computation. Assumes nothing.
use Prim.Native.Nat.{ℕ, ◌≤◌, ◌<◌}
use mathlib.Core.Path.{◌≡◌, refl, sym, ap, ◌∙◌}
use mathlib.Core.Bool.{true, false, false≢true}
use mathlib.Core.List.{List, [], ◌∷◌}
use mathlib.Core.Logic.{inl, ◌≢◌}
use native.Mathlib.Omega.{arith}
use borrow.Author.Tests.{leb-true, ltb-true}
use lib.Dec.{leb, ltb}
use lib.ListN.{get_or}
use Rattle.numbers.specs.Bytes.{be16, be32, at16, at32}
use Rattle.numbers.specs.Answers.{refuse◌when◌else◌, given}
use Rattle.tp_machine.specs.Lists.{counted, Rearranged, first, swap, next}
use Rattle.tp_machine.specs.Segments.{tp_type, is_segment, offset, more, payload, size, end_of, without_tp, header, pasted, written}
use Rattle.tp_machine.specs.Ranges.{any, touch, hull_of, keep, grow, inserted, joined, some_touch, greatest_end}
use Rattle.tp_machine.specs.Machine.{bad_range, bad_state, judged, after, step, begun, begin, fed}
use Rattle.tp_machine.specs.Taking.{complete, ready, taking}
use Rattle.tp_machine.specs.Cases.{◌more_at◌, ◌final_at◌}
use Rattle.tp_machine.specs.Runs.{final}
use Rattle.tp_machine.specs.AnyOrder.{Overlap, Suited, Feed, outcome, Agree}
use Rattle.tp_machine.specs.AnyOrderCases.{over_zeros, over_nines, front, middle, back, Besides, Differ, Needed, empty_one, NoneEmptyNeeded, of_ones, of_twos, NoTwoOverlapNeeded, AnyOrderCases}
use Rattle.tp_machine.proofs.Lists.{and_inv}
use Rattle.tp_machine.proofs.Tests.{segment_means}

-- one ends before the other begins
behind : (s t : List ℕ) → end_of s ≤ offset t → ¬ Overlap s t
behind s t h (x, p, q) =
    let a = and_inv (leb (offset s) x) (ltb x (end_of s)) p in
    let b = and_inv (leb (offset t) x) (ltb x (end_of t)) q in
    omega (arith, ltb-true x (end_of s) a.1, leb-true (offset t) x b.0)

-- three segments, one behind the other, the last of them final
in_a_row : (s t u : List ℕ) → is_segment s ≡ true → is_segment t ≡ true → is_segment u ≡ true → 0 < size s → 0 < size t → 0 < size u → offset s ≡ 0 → end_of s ≤ offset t → end_of t ≤ offset u → final s ≡ false → final t ≡ false → final u ≡ true → Suited (s ∷ t ∷ u ∷ [])
unfolding counted
in_a_row s t u ss st su m n o at before behind-it fs ft fu = record {
  segments = ((segment_means s).0 ss, ((segment_means t).0 st, ((segment_means u).0 su, tt)));
  none_empty = ((λ e. omega arith), ((λ e. omega arith), ((λ e. omega arith), tt)));
  no_two_overlap = ((behind s t before, (behind s u (omega arith), tt)), ((behind t u behind-it, tt), (tt, tt)));
  one_final = rw (fs, ft, fu);
  its_end_greatest = ((λ e. absurd (false≢true (sym fs ∙ e))), ((λ e. absurd (false≢true (sym ft ∙ e))), ((λ _. (omega arith, (omega arith, (omega arith, tt)))), tt)));
  one_at_zero = record { segment = s; among = inl refl; there = at };
}

-- of three, the last comes first
last_came_first : {A : Type 0} {s t u : A} → Rearranged (s ∷ t ∷ u ∷ []) (u ∷ s ∷ t ∷ [])
last_came_first = next (first swap) swap

-- an empty segment spans no place
empty : (s t : List ℕ) → size s ≡ 0 → ¬ Overlap s t
empty s t none (x, p, q) = let a = and_inv (leb (offset s) x) (ltb x (end_of s)) p in omega (arith, leb-true (offset s) x a.0, ltb-true x (end_of s) a.1)

-- streams whose reports differ do not agree
disagree : (f g : Feed) (place one other : ℕ) → one ≢ other → Differ f g place one other → ¬ Agree (outcome f) (outcome g)
disagree f g place one other n d a = n (sym d.byte_one ∙ ap (λ (l : List ℕ). get_or l place 0) (a.reports_equal d.complete_one).equal ∙ d.byte_other)

-- two segments at offset 0, the second final and not shorter
both_at_zero : (s t : List ℕ) → is_segment s ≡ true → is_segment t ≡ true → offset s ≡ 0 → end_of s ≤ end_of t → final s ≡ false → final t ≡ true → Besides (s ∷ t ∷ [])
unfolding counted
both_at_zero s t ss st at within fs ft = record {
  segments = ((segment_means s).0 ss, ((segment_means t).0 st, tt));
  one_final = rw (fs, ft);
  its_end_greatest = ((λ e. absurd (false≢true (sym fs ∙ e))), ((λ _. (within, (omega arith, tt))), tt));
  one_at_zero = record { segment = s; among = inl refl; there = at };
}

-- two segments that break one of the conditions alone
two_break : {Broken Kept : List (List ℕ) → Type 0} {s t : List ℕ} {place one other : ℕ} → one ≢ other → Besides (s ∷ t ∷ []) → Kept (s ∷ t ∷ []) → ¬ Broken (s ∷ t ∷ [])
    → Differ (over_zeros (s ∷ t ∷ [])) (over_nines (t ∷ s ∷ [])) place one other → Needed Broken Kept (s ∷ t ∷ []) (t ∷ s ∷ []) place one other
two_break {place} {one} {other} n besides kept broken d = record { besides = besides; kept = kept; broken = broken; differ = d; false_without = λ claim. disagree _ _ place one other n d (claim _ _ besides kept d.each_fed) }

both_needed : NoneEmptyNeeded × NoTwoOverlapNeeded
unfolding be16 be32 at16 at32 refuse◌when◌else◌ given tp_type is_segment offset more payload without_tp header pasted written any touch hull_of keep grow inserted joined some_touch greatest_end bad_range bad_state judged after step begun begin fed complete ready taking counted
both_needed = (
  two_break (λ e. omega (arith, e)) (both_at_zero empty_one (16 final_at 0) refl refl refl (omega arith) refl refl) ((empty empty_one (16 final_at 0) refl, tt), (tt, tt)) (λ full. full.0 refl) (record { each_fed = record { rearranged = swap; limits = refl; buffer_lengths = refl; none_refused = (refl, (refl, tt)); none_refused_either = (refl, (refl, tt)) }; complete_one = refl; complete_other = refl; byte_one = refl; byte_other = refl }),
  two_break (λ e. omega (arith, e)) (both_at_zero of_ones of_twos refl refl refl (omega arith) refl refl) ((λ e. omega (arith, e)), ((λ e. omega (arith, e)), tt)) (λ apart. apart.0.0 (0, refl, refl)) (record { each_fed = record { rearranged = swap; limits = refl; buffer_lengths = refl; none_refused = (refl, (refl, tt)); none_refused_either = (refl, (refl, tt)) }; complete_one = refl; complete_other = refl; byte_one = refl; byte_other = refl }),
)

pub any_order_cases : AnyOrderCases
unfolding be16 be32 at16 at32 refuse◌when◌else◌ given tp_type is_segment offset more payload without_tp header pasted written any touch hull_of keep grow inserted joined some_touch greatest_end bad_range bad_state judged after step begun begin fed complete ready taking counted
any_order_cases = record {
  three = record {
    suited = in_a_row front middle back refl refl refl (omega arith) (omega arith) (omega arith) refl (omega arith) (omega arith) refl refl refl;
    each_fed = record { rearranged = last_came_first; limits = refl; buffer_lengths = refl; none_refused = (refl, (refl, (refl, tt))); none_refused_either = (refl, (refl, (refl, tt))) };
    complete_one = refl;
    complete_other = refl;
    same_report = record { end = 36; given = refl; given_too = refl; equal = refl };
    report_is = refl;
  };
  gap = record {
    suited = in_a_row (16 more_at 0) (16 more_at 32) (4 final_at 48) refl refl refl (omega arith) (omega arith) (omega arith) refl (omega arith) (omega arith) refl refl refl;
    each_fed = record { rearranged = last_came_first; limits = refl; buffer_lengths = refl; none_refused = (refl, (refl, (refl, tt))); none_refused_either = (refl, (refl, (refl, tt))) };
    incomplete_one = refl;
    incomplete_other = refl;
  };
  not_said = record { byte_one = refl; byte_other = refl; numbers_one = refl; numbers_other = refl };
  none_empty_needed = both_needed.0;
  no_two_overlap_needed = both_needed.1;
}
