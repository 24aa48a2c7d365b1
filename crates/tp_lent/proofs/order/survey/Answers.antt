-- `tp_lent::order::survey` meets its contract: what is told of all ranges is told of those that are left. Assumes nothing.
use Prim.Native.Nat.{ℕ, ◌+◌, ◌≤◌, ◌<◌}
use mathlib.Core.Path.{◌≡◌, refl, sym, ap, ◌∙◌}
use mathlib.Core.Bool.{Bool, true, false, cond}
use lib.Dec.{ltb, leb}
use mathlib.Core.List.{List}
use native.Mathlib.Omega.{arith}
use lib.ListN.{length, drop, get_or}
use Rattle.std.specs.Int.{from_bool}
use Rattle.tp_machine.specs.declared.TpRange.{TpRange}
use Rattle.tp_machine.specs.Ranges.{ends_before, begins_by}
use Rattle.tp_machine.specs.Machine.{most, State, bad_range}
use Rattle.tp_rules.specs.Malformed.{Reach}
use Rattle.tp_range.specs.Joining.{none}
use Rattle.tp_range.specs.Ordered.{rising}
use Rattle.tp_range.proofs.OrderLaws.{rising_low, rising_bad, rising_next, rising_done}
use Rattle.tp_words.specs.Words.{range_at, ranges_in, state_of}
use Rattle.tp_words.proofs.WordLaws.{in_length}
use borrow.Author.Tests.{ltb-true, ltb-false}
use Rattle.tp_lent.specs.Lent.{held, top_of, unready}
use Rattle.tp_lent.proofs.PlaceLaws.{ranges_at}
use Rattle.tp_lent.proofs.ReadyLaws.{few, reach, count_is}
use Rattle.tp_lent.proofs.RisingLaws.{free_forth, bad_anyway, bad_past, fine_within, counted_next, counted_done}
use Rattle.tp_lent.proofs.order.survey.Invariants.{Sofar}
use Rattle.tp_lent.proofs.order.survey.Goals as goal
use Rattle.tp_lent.proofs.order.survey.Goals.{then-r-low-via-then-r-low, then-r-low-via-else-r-low+then-bad_range}

as_cond : (b : Bool) → from_bool b ≡ cond b 1 0
as_cond true = refl
as_cond false = refl

-- a count grows by at most one
at_most : (b : Bool) → cond b 1 0 ≤ 1
at_most true = omega arith
at_most false = omega arith

-- one range more, of words that are not unready
module _
    (ws : List ℕ) (ready : unready ws ≡ false) (new : TpRange) (low before behind i : ℕ) (so : Sofar ws new low before behind i) (less : i < get_or ws 1 0)
    (r : TpRange) (here : r ≡ range_at ws i) where
  abbrev array : List TpRange
  array = ranges_in ws most

  abbrev p : State
  p = state_of ws

  long : get_or ws 1 0 ≤ length array
  long = omega (arith, in_length ws most, few ws ready)

  is : r ≡ get_or array i none
  is = here ∙ sym (ranges_at ws most i (omega (arith, less, few ws ready)))

  -- all of them are not in order where those that are left are not
  not_all : rising (bad_range p) low (drop i (held ws)) ≡ false → rising (bad_range p) 0 (held ws) ≡ false
  not_all e = go (ltb (top_of ws + 1) low) refl
    where
      go : (t : Bool) → ltb (top_of ws + 1) low ≡ t → rising (bad_range p) 0 (held ws) ≡ false
      go true l = so.past (ltb-true (top_of ws + 1) low l)
      go false l = so.rises (ltb-false (top_of ws + 1) low l) ∙ e

  out_of_order : r.start < low → rising (bad_range p) 0 (held ws) ≡ false
  out_of_order h = not_all (rising_low (bad_range p) array i (get_or ws 1 0) less long r is low h)

  module _ (b : Bool) (told : (q : State) → Reach q r.end → q.count ≡ get_or ws 4 0 → b ≡ bad_range q r) (behind_low : low ≤ r.start) where
    one_bad : b ≡ true → rising (bad_range p) 0 (held ws) ≡ false
    one_bad e =
        not_all (rising_bad (bad_range p) array i (get_or ws 1 0) less long r is low behind_low
        (bad_anyway r (get_or ws 4 0) b told p (top_of ws) (reach ws ready) (count_is ws ready) e))

    next : b ≡ false → (x y : ℕ) → x ≡ before + cond (ltb r.end new.start) 1 0 → y ≡ behind + cond (leb r.start new.end) 1 0 → Sofar ws new (r.end + 1) x y (i + 1)
    next e x y f g =
        let forth : r.start ≤ r.end = free_forth r (get_or ws 4 0) b told e in
        record {
          few = omega (arith, f, at_most (ltb r.end new.start), so.few);
          fewer = omega (arith, g, at_most (leb r.start new.end), so.fewer);
          rises = λ h.
              so.rises (omega (arith, h, behind_low, forth))
              ∙ rising_next (bad_range p) array i (get_or ws 1 0) less long r is low behind_low
              (fine_within r (get_or ws 4 0) b told p (top_of ws) (reach ws ready) (count_is ws ready) e (omega (arith, h)));
          past = λ h.
              not_all
              (rising_bad (bad_range p) array i (get_or ws 1 0) less long r is low behind_low
              (bad_past r (get_or ws 4 0) b told p (top_of ws) (reach ws ready) (count_is ws ready) e (omega (arith, h))));
          befores = counted_next array i (get_or ws 1 0) less long r is (ends_before new.start) before x f ∙ so.befores;
          behinds = counted_next array i (get_or ws 1 0) less long r is (begins_by new.end) behind y g ∙ so.behinds;
        }

pub returns-then-r-low : goal.returns-then-r-low
returns-then-r-low c =
    let s = c.args.stream in
    let so = c.loop-i.invariant in
    let less : c.loop-i.i < get_or s.words.now 1 0 = omega (arith, c.count-i-end.ensures, c.loop-i-test.true) in
    let goes : Type 0 = rising (bad_range (state_of s.words.now)) 0 (held s.words.now) ≡ false in
    elim c.then-r-low.branch as (λ _. goes) [
      | then-r-low-via-then-r-low w ↦ out_of_order s.words.now s.ready _ _ _ _ _ so less _ c.range_at-r.ensures w.if-r-low.true
      | then-r-low-via-else-r-low+then-bad_range w ↦
          one_bad s.words.now s.ready _ _ _ _ _ so less _ c.range_at-r.ensures _ (λ q f e. w.bad_range.ensures q f (e ∙ sym c.accepted-accepted.ensures)) w.if-r-low.false w.if-bad_range.true
    ]

pub loop-i-preserved : goal.loop-i-preserved
loop-i-preserved c =
    let s = c.args.stream in
    let less : c.loop-i.i < get_or s.words.now 1 0 = omega (arith, c.count-i-end.ensures, c.loop-i-test.true) in
    next s.words.now s.ready _ _ _ _ _ c.loop-i.invariant less _ c.range_at-r.ensures _ (λ q f e. c.bad_range.ensures q f (e ∙ sym c.accepted-accepted.ensures)) c.if-r-low.false c.if-bad_range.false
    _ _ (ap (◌+◌ c.loop-i.before) (c.from-before.ensures ∙ as_cond _)) (ap (◌+◌ c.loop-i.behind) (c.from-behind.ensures ∙ as_cond _))

pub returns : goal.returns
returns c =
    let ws = c.args.stream.words.now in
    let so = c.loop-i.invariant in
    let done : get_or ws 1 0 ≤ c.loop-i.i = omega (arith, c.count-i-end.ensures, c.loop-i-test.false) in
    record {
      order = so.rises (omega (arith, c.top.ensures, c.if-top-low.false)) ∙ rising_done (bad_range (state_of ws)) c.loop-i.low (ranges_in ws most) c.loop-i.i (get_or ws 1 0) done;
      before = sym (counted_done (ends_before c.args.new.start) c.loop-i.before (ranges_in ws most) c.loop-i.i (get_or ws 1 0) done) ∙ so.befores;
      behind = sym (counted_done (begins_by c.args.new.end) c.loop-i.behind (ranges_in ws most) c.loop-i.i (get_or ws 1 0) done) ∙ so.behinds;
    }
