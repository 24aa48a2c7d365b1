-- A complete stream's report is its header with the length field, and the newest bytes. Assumes nothing.
use Prim.Native.Nat.{ℕ, ◌+◌, ◌≤◌, ◌<◌}
use mathlib.Core.Path.{◌≡◌, refl, sym, ap, subst, ◌∙◌}
use mathlib.Core.Bool.{Bool, true, false, ◌||◌, not, or-false}
use mathlib.Core.List.{List, [], ◌∷◌, ◌++◌}
use native.Mathlib.Omega.{arith}
use borrow.Author.Tests.{le-ltb}
use lib.Dec.{ltb}
use lib.ListN.{length, take, drop, length-drop}
use lib.Seq.{length-take-le, get_or-take, get_or-drop, ext_get_or}
use Rattle.numbers.specs.Bytes.{be16, be32}
use Rattle.numbers.specs.Refusals.{buffer_too_short, not_complete, malformed_state}
use Rattle.numbers.specs.Answers.{accepted, given, All}
use Rattle.numbers.proofs.AnswerLaws.{when_pass, all_map}
use Rattle.tp_machine.specs.declared.TpRange.{TpRange}
use Rattle.tp_machine.specs.Lists.{Latest}
use Rattle.tp_machine.specs.Segments.{end_of, header, pasted}
use Rattle.tp_machine.specs.Ranges.{any, hull_of}
use Rattle.tp_machine.specs.Machine.{State, bad_state, Out, begin, opened, fed}
use Rattle.tp_machine.specs.Taking.{complete, end_held, ready, finished, report, taking}
use Rattle.tp_machine.specs.Meaning.{range, Complete}
use Rattle.tp_machine.specs.Runs.{begins, admitted, covered, spans, heads, Filled, Reported}
use Rattle.tp_machine.specs.Theorems.{Given, EveryReport}
use Rattle.tp_machine.proofs.Lists.{latest_of, all_latest}
use Rattle.tp_machine.proofs.Joining.{at_zero, is_held}
use Rattle.tp_machine.proofs.Tests.{good_means, complete_means}
use Rattle.tp_machine.proofs.Writing.{take_more_pasted, header_length}
use Rattle.tp_machine.proofs.Steps.{fed_reached}
use Rattle.tp_machine.proofs.Numbers.{every_number, one_number}
use Rattle.tp_machine.proofs.Runs.{ran, all_heads, all_each, Fits, chain_fits, every_run}

-- ---- taking from a complete state, with room
pub ready_given : (p : State) (buf : List ℕ) (c : Complete p) → 16 + c.held ≤ length buf → ready p (length buf) ≡ accepted c.held
unfolding ready
ready_given p buf c h =
    let e : end_held p.ranges ≡ c.held = ap end_held c.one_range in
    when_pass malformed_state (bad_state p) _ ((good_means p).1 c.good) ∙ when_pass not_complete (not (complete p)) _ (ap not ((complete_means p).1 c))
    ∙ rw e (when_pass (buffer_too_short (16 + c.held)) (ltb (length buf) (16 + c.held)) _ (le-ltb (length buf) (16 + c.held) h))

field_length : (n : ℕ) → length (be32 n) ≡ 4
unfolding be32 be16
field_length n = refl

-- the part, by what the buffer holds
pub report_part : (buf : List ℕ) (e : ℕ) → 16 + e ≤ length buf → report (accepted e) (finished (accepted e) buf) ≡ pasted (take 16 buf) 4 (be32 (e + 8)) ++ take e (drop 16 buf)
unfolding given
report_part buf e h = take_more_pasted buf 4 (be32 (e + 8)) 16 (omega (arith, field_length (e + 8))) (omega arith) e

-- ---- the bytes of a filled buffer
module _ (b : List ℕ) (segs : List (List ℕ)) (c : List ℕ) (f : Filled b segs c) (e : ℕ) (room : 16 + e ≤ length c) where
  -- the first 16 are the header of the latest segment that brought one
  headed : (s : List ℕ) → 20 ≤ length s → Latest heads segs s → take 16 c ≡ header s
  headed s long l =
      let n : length (take 16 c) ≡ 16 = length-take-le 16 c (omega arith) in
      ext_get_or 0 (take 16 c) (header s) (n ∙ sym (header_length s long)) (λ i h. get_or-take 16 c i 0 (omega arith) ∙ f.headed i (omega arith) s l)

  pub reported : All (Fits (length b)) segs → any heads segs ≡ true → ((x : ℕ) → x < e → any (spans x) segs ≡ true) → Reported segs e (report (accepted e) (finished (accepted e) c))
  reported fits some covers =
      let w = latest_of heads segs some in
      record {
        from = w.0;
        latest = w.1;
        bytes = take e (drop 16 c);
        whole = report_part c e room ∙ ap (λ (h : List ℕ). pasted h 4 (be32 (e + 8)) ++ take e (drop 16 c)) (headed w.0 (all_latest heads (Fits (length b)) segs w.0 w.1 fits).0 w.1);
        size = length-take-le e (drop 16 c) (omega (arith, length-drop 16 c));
        all = covers;
        newest = λ x h s l. get_or-take e (drop 16 c) x 0 h ∙ get_or-drop 16 c x 0 ∙ f.covers x s l;
      }

-- ---- the one range of a run that is complete
fit_hull : (n : ℕ) (g r : TpRange) → 16 + g.end ≤ n → 16 + r.end ≤ n → 16 + (hull_of g r).end ≤ n
unfolding hull_of
fit_hull n g r p q = omega arith

module _ (limit : ℕ) (buf : List ℕ) (ss : List (List ℕ)) where
  out : Out
  out = fed (opened limit buf) ss

  segs : List (List ℕ)
  segs = admitted (opened limit buf) ss

  all_fit : All (Fits (length buf)) segs
  unfolding segs
  all_fit = chain_fits (begin limit) (length buf) segs (ran (opened limit buf) ss).chain

  ranges_fit : All (λ r. 16 + r.end ≤ length buf) out.state.ranges
  unfolding out segs begin
  ranges_fit =
      rw (ran (opened limit buf) ss).state
      (all_each (λ r. 16 + r.end ≤ length buf) (fit_hull (length buf)) (begin limit) segs (all_map (Fits (length buf)) (λ s. (number : ℕ) → 16 + end_of s ≤ length buf) (λ s f _. f.1) segs all_fit) tt)

  -- a range that begins at 0 has come with a header
  has_header : (e number : ℕ) → out.state.ranges ≡ range 0 e number ∷ [] → any heads segs ≡ true
  unfolding out segs begin any
  has_header e number q = sym (or-false (any heads segs)) ∙ sym (all_heads (begin limit) segs) ∙ sym (ap (λ (p : State). any at_zero p.ranges) (ran (opened limit buf) ss).state) ∙ ap (any at_zero) q

  covers : (e number x : ℕ) → out.state.ranges ≡ range 0 e number ∷ [] → x < e → any (spans x) segs ≡ true
  unfolding out segs any
  covers e number x q h = sym ((every_run limit buf ss).covers x) ∙ ap (λ (rs : List TpRange). covered rs x) q ∙ ap (λ (t : Bool). t || false) (is_held x (range 0 e number) (omega arith) h)

  complete_given : Complete out.state → Given out segs
  unfolding out segs taking
  complete_given c =
      let e : ℕ = c.held in
      let run = every_run limit buf ss in
      let same : c.number ≡ out.state.count = one_number out.state c.good (every_number out.state (fed_reached (opened limit buf) ss (begins limit))) 0 e c.number c.one_range in
      let h : 16 + e ≤ length buf = (subst (All (λ r. 16 + r.end ≤ length buf)) c.one_range ranges_fit).0 in
      let l : 16 + e ≤ length out.buffer = omega (arith, run.filled.size) in
      let g : ready out.state (length out.buffer) ≡ accepted e = ready_given out.state out.buffer c l in
      record {
        size = e;
        one_range = c.one_range ∙ ap (λ (x : ℕ). range 0 e x ∷ []) same;
        answer = g;
        buffer = rw g;
        reported = rw g (reported buf segs out.buffer run.filled e l all_fit (has_header e c.number c.one_range) (λ x. covers e c.number x c.one_range));
      }

pub every_report : EveryReport
unfolding out segs
every_report limit buf ss c = complete_given limit buf ss ((complete_means (fed (opened limit buf) ss).state).0 c)
