-- The end of a stream: where it is known it is the greatest end held, and a complete stream's report ends there. Assumes nothing.
use Rattle.std.specs.Prelude.{Option, Some, ℕ}
use Prim.Native.Nat.{ℕ, ◌+◌, ◌≤◌, max}
use mathlib.Core.Path.{◌≡◌, refl, sym, ap, ap₂, subst, ◌∙◌}
use mathlib.Core.Bool.{Bool, true, false, cond, or-false, false≢true}
use mathlib.Core.List.{List, [], ◌∷◌}
use native.Mathlib.Omega.{arith}
use lib.ListN.{length}
use Rattle.numbers.specs.Answers.{accepted, refused, Verdict, All}
use Rattle.numbers.proofs.AnswerLaws.{all_map}
use Rattle.tp_machine.specs.declared.TpRange.{TpRange}
use Rattle.tp_machine.specs.Lists.{OneOf}
use Rattle.tp_machine.specs.Segments.{more, end_of}
use Rattle.tp_machine.specs.Ranges.{any, greatest_end}
use Rattle.tp_machine.specs.Machine.{State, taken, judged, after, step, begin, opened, fed, clear, previous}
use Rattle.tp_machine.specs.Taking.{is_known, end_held}
use Rattle.tp_machine.specs.Meaning.{range, range_of, Agrees, Greatest, Accepted}
use Rattle.tp_machine.specs.Runs.{begins, comes, clears, admitted, final, around, Lies, Ended}
use Rattle.tp_machine.specs.Theorems.{EndIsGreatest, CompleteEnds, EveryEnd}
use Rattle.tp_machine.proofs.Lists.{each_one, latest_of, all_latest}
use Rattle.tp_machine.proofs.Joining.{lies_around}
use Rattle.tp_machine.proofs.Greatest.{none_past_means, greatest_told, joining_reaches, joined_greatest}
use Rattle.tp_machine.proofs.Tests.{accepted_means, complete_means}
use Rattle.tp_machine.proofs.Steps.{part_length, fed_reached}
use Rattle.tp_machine.proofs.Numbers.{every_number, one_number}
use Rattle.tp_machine.proofs.Runs.{every_run}
use Rattle.tp_machine.proofs.Report.{every_report}

-- ---- the greatest end held

-- an accepted segment that ends at x, the greatest end before it being g: the end that is known then is the greatest
reaches_end : (m : Bool) (d : Option ℕ) (x g e : ℕ) → Agrees d m x → (m ≡ false → g ≤ x) → ((f : ℕ) → d ≡ Some f → g ≡ f) → cond m d (Some x) ≡ Some e → max x g ≡ e
reaches_end true d x g e a c before q = let b : Agrees (Some e) true x = subst (λ (t : Option ℕ). Agrees t true x) q a in omega (arith, b.0, before e q)
reaches_end false d x g e a c before q = let same : x ≡ e = ap previous q in omega (arith, c refl)

-- a state whose end, if it is known, is the greatest end held
abbrev Kept : State → Type 0
Kept p = (e : ℕ) → p.end ≡ Some e → Greatest p.ranges e

taken_kept : (p : State) (seg : List ℕ) (room : ℕ) → Accepted p seg room → Kept p → Kept (taken p seg)
taken_kept p seg room t before e q =
    joined_greatest (range_of (p.count + 1) seg) p.ranges e
    (joining_reaches (range_of (p.count + 1) seg) p.ranges
    ∙ reaches_end (more seg) p.end (end_of seg) (greatest_end p.ranges) e t.agrees (λ h. (none_past_means p.ranges (end_of seg)).1 (t.closes h)) (λ f d. greatest_told p.ranges f (before f d)) q)

step_kept : (p : State) (seg buf : List ℕ) → Kept p → Kept (step p seg buf).state
unfolding step after
step_kept p seg buf before = go (judged p seg (length buf)) refl
  where
    go : (v : Verdict) → judged p seg (length buf) ≡ v → Kept (after v p seg buf).state
    go (accepted u) h = taken_kept p seg (length buf) ((accepted_means p seg (length buf)).0 h) before
    go (refused r) h = before

pub end_is_greatest : EndIsGreatest
unfolding begin clear
end_is_greatest p (begins limit) = λ e q. absurd (false≢true (ap is_known q))
end_is_greatest q (comes {p} r seg buf) = step_kept p seg buf (end_is_greatest p r)
end_is_greatest q (clears {p} r) = λ e k. absurd (false≢true (ap is_known k))

pub complete_ends : CompleteEnds
unfolding greatest_end
complete_ends p r c =
    let w = (complete_means p).0 c in
    let reach : greatest_end p.ranges ≡ w.end = greatest_told p.ranges w.end (end_is_greatest p r w.end w.known) in
    let held : greatest_end p.ranges ≡ w.held = ap greatest_end w.one_range ∙ omega arith in
    let number : w.number ≡ p.count = one_number p w.good (every_number p r) 0 w.held w.number w.one_range in
    (w.end, w.known, w.one_range ∙ ap₂ (λ (x y : ℕ). range 0 x y ∷ []) (sym held ∙ reach) number)

-- ---- a complete stream

-- an end that is known is that of a final one of the segments
told_by : (segs : List (List ℕ)) (d : Option ℕ) (e : ℕ) → Ended segs d → d ≡ Some e → (s : List ℕ) × OneOf s segs × (final s ≡ true) × (end_of s ≡ e)
told_by segs d e ended k = go (any final segs) refl
  where
    go : (t : Bool) → any final segs ≡ t → (s : List ℕ) × OneOf s segs × (final s ≡ true) × (end_of s ≡ e)
    go true h =
        let w = latest_of final segs h in
        (w.0, all_latest final (λ s. OneOf s segs) segs w.0 w.1 (each_one segs), w.1.passes, ap previous (sym (ended.by w.0 w.1) ∙ k))
    go false h = absurd (false≢true (ap is_known (sym (ended.by_none h) ∙ k)))

-- a segment that lies in the one range does not end past it
lies_within : (e number : ℕ) (s : List ℕ) → Lies (range 0 e number ∷ []) s → end_of s ≤ e
unfolding any
lies_within e number s h = (lies_around s (range 0 e number) (sym (or-false (around s (range 0 e number))) ∙ h)).1

pub every_end : EveryEnd
every_end limit buf ss c =
    let p : State = (fed (opened limit buf) ss).state in
    let segs : List (List ℕ) = admitted (opened limit buf) ss in
    let run = every_run limit buf ss in
    let given = every_report limit buf ss c in
    let (e, known, one) = complete_ends p (fed_reached (opened limit buf) ss (begins limit)) c in
    let same : given.size ≡ e = ap end_held (sym given.one_range ∙ one) in
    let last = told_by segs p.end e run.ended known in
    record {
      end = e;
      known = known;
      one_range = one;
      whole = record {
        last = last.0;
        among = last.1;
        is_final = last.2;
        there = last.3;
        none_past = all_map (Lies (range 0 e p.count ∷ [])) (λ s. end_of s ≤ e) (lies_within e p.count) segs (subst (λ (rs : List TpRange). All (Lies rs) segs) one run.lie);
      };
      report_length = part_length p (fed (opened limit buf) ss).buffer given.size given.answer ∙ ap (λ (x : ℕ). 16 + x) same;
    }
