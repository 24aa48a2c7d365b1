-- The tests of a segment's header, one by one and in their order, and what they say of the machine's. Assumes nothing.
use Rattle.std.specs.Prelude.{Option}
use Prim.Native.Nat.{ℕ, ◌+◌, ◌-◌, ◌%◌, ◌≤◌, ◌<◌}
use mathlib.Core.Path.{◌≡◌, refl, sym, ap, ◌∙◌}
use mathlib.Core.Bool.{Bool, true, false, ◌&&◌, not, cond}
use mathlib.Core.List.{List}
use native.Mathlib.Omega.{arith}
use borrow.Author.Tests.{lt-ltb, le-ltb, ltb-true, ltb-false}
use lib.Dec.{ltb, eqb}
use Rattle.numbers.specs.Refusals as paper
use Rattle.numbers.specs.Refusals.{not_a_segment, segment_too_big, unaligned, conflicting_end, buffer_too_short, ranges_full, malformed_state, count_full}
use Rattle.numbers.specs.Answers.{refused, Verdict, pass, ◌>>◌, refuse◌when◌else◌}
use Rattle.numbers.proofs.AnswerLaws.{when_pass, when_accepted, then_pass}
use Rattle.tp_machine.specs.declared.TpRange.{TpRange}
use Rattle.tp_machine.specs.Segments.{is_segment, more, end_of}
use Rattle.tp_machine.specs.Ranges.{greatest_end}
use Rattle.tp_machine.specs.Machine.{State, bad_state, conflicts, previous, data_past, too_many, counted_out, judged}
use Rattle.tp_machine.specs.Meaning.{Good}
use Rattle.tp_segment.specs.declared.TpHeader.{TpHeader}
use Rattle.tp_segment.specs.Reading.{header_of}
use Rattle.tp_machine.proofs.Tests.{segment_means, good_means}
use Rattle.tp_rules.specs.Judging.{header_judged, Passed}

-- 31: an offset past the limit, or a length past what is left
pub past_limit : (limit offset size : ℕ) → limit < offset → true ≡ ltb limit (offset + size)
past_limit limit offset size h = sym (lt-ltb limit (offset + size) (omega arith))

pub left_over : (limit offset size : ℕ) → offset ≤ limit → ltb (limit - offset) size ≡ ltb limit (offset + size)
left_over limit offset size h = go (ltb (limit - offset) size) refl
  where
    go : (b : Bool) → ltb (limit - offset) size ≡ b → b ≡ ltb limit (offset + size)
    go true e = sym (lt-ltb limit (offset + size) (omega (arith, ltb-true (limit - offset) size e)))
    go false e = sym (le-ltb limit (offset + size) (omega (arith, ltb-false (limit - offset) size e)))

-- 33: to reach less far than it has to is the machine's test of the data
reach_test : (rs : List TpRange) (more : Bool) (x : ℕ) (t : Verdict)
    → (refuse conflicting_end (greatest_end rs) x when data_past rs more x else t) ≡ (refuse conflicting_end (cond more 0 (greatest_end rs)) x when ltb x (cond more 0 (greatest_end rs)) else t)
unfolding refuse◌when◌else◌
reach_test rs true x t = rw (le-ltb x 0 (omega arith))
reach_test rs false x t = refl

-- ---- the tests of a header in their order
module _ (limit : ℕ) (end : Option ℕ) (least : ℕ) (h : TpHeader) (room : ℕ) where
  pub header_past : ltb limit (h.offset + h.size) ≡ true → refused (segment_too_big h.offset h.size limit) ≡ header_judged limit end least h room
  unfolding header_judged refuse◌when◌else◌
  header_past a = rw a

  module _ (within : ltb limit (h.offset + h.size) ≡ false) where
    pub header_uneven : (h.more && not (eqb (h.size % 16) 0)) ≡ true → refused (unaligned h.offset h.size) ≡ header_judged limit end least h room
    unfolding header_judged refuse◌when◌else◌
    header_uneven a = rw (within, a)

    module _ (even : (h.more && not (eqb (h.size % 16) 0)) ≡ false) where
      pub header_clash : conflicts end h.more (h.offset + h.size) ≡ true → refused (conflicting_end (previous end) (h.offset + h.size)) ≡ header_judged limit end least h room
      unfolding header_judged refuse◌when◌else◌
      header_clash a = rw (within, even, a)

      module _ (agrees : conflicts end h.more (h.offset + h.size) ≡ false) where
        pub header_behind : h.offset + h.size < least → refused (conflicting_end least (h.offset + h.size)) ≡ header_judged limit end least h room
        unfolding header_judged refuse◌when◌else◌
        header_behind a = rw (within, even, agrees, lt-ltb (h.offset + h.size) least a)

        module _ (reaches : least ≤ h.offset + h.size) where
          pub header_short : room < 16 + (h.offset + h.size) → refused (buffer_too_short (16 + (h.offset + h.size))) ≡ header_judged limit end least h room
          unfolding header_judged refuse◌when◌else◌
          header_short a = rw (within, even, agrees, le-ltb (h.offset + h.size) least reaches, lt-ltb room (16 + (h.offset + h.size)) a)

          pub header_fits : 16 + (h.offset + h.size) ≤ room → pass ≡ header_judged limit end least h room
          unfolding header_judged refuse◌when◌else◌
          header_fits a = rw (within, even, agrees, le-ltb (h.offset + h.size) least reaches, le-ltb room (16 + (h.offset + h.size)) a)

-- ---- they are the machine's, and behind them it has those after joining
when_then : (r : paper.Refusal) (b : Bool) (v t : Verdict) → ((refuse r when b else v) >> t) ≡ (refuse r when b else (v >> t))
unfolding refuse◌when◌else◌ ◌>>◌
when_then r true v t = refl
when_then r false v t = refl

module _ (p : State) (seg : List ℕ) (room : ℕ) where
  abbrev pub by_header : Verdict
  by_header = header_judged p.limit p.end (cond (more seg) 0 (greatest_end p.ranges)) (header_of seg) room

  abbrev after_joining : Verdict
  after_joining = refuse ranges_full when too_many p seg else refuse count_full when counted_out p else pass

  module _ (good : Good p) (g : is_segment seg ≡ true) where
    pub first_header : judged p seg room ≡ (by_header >> after_joining)
    unfolding judged header_judged
    first_header =
        when_pass malformed_state (bad_state p) _ ((good_means p).1 good)
        ∙ when_pass not_a_segment (not (is_segment seg)) _ (ap not g)
        ∙ sym (simp (when_then, then_pass, ← reach_test))

    pub header_passed : by_header ≡ pass → Passed p seg room (header_of seg)
    unfolding header_judged
    header_passed e =
        let a = when_accepted _ _ _ tt e in
        let b = when_accepted _ _ _ tt a.1 in
        let c = when_accepted _ _ _ tt b.1 in
        let d = when_accepted _ _ _ tt c.1 in
        let f = when_accepted _ _ _ tt d.1 in
        record {
          good = good;
          header = refl;
          long = ((segment_means seg).0 g).long;
          low = omega (arith, ltb-false p.limit (end_of seg) a.0, good.low);
          fits = ltb-false room (16 + end_of seg) f.0;
          rest = first_header ∙ then_pass by_header after_joining e;
        }

    pub header_refused : (r : paper.Refusal) → by_header ≡ refused r → judged p seg room ≡ refused r
    unfolding ◌>>◌
    header_refused r e = first_header ∙ ap (λ (v : Verdict). v >> after_joining) e
