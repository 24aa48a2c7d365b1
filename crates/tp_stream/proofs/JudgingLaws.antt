-- The tests of a segment in their order: 38, 30, and those of its header. Assumes nothing.
use Rattle.std.specs.Prelude.{Ok}
use Rattle.tp_segment.specs.declared.TpHeader.{TpHeader}
use Prim.Native.Nat.{ℕ}
use mathlib.Core.Path.{◌≡◌, sym, ap, subst, ◌∙◌}
use mathlib.Core.Bool.{true, false, cond}
use mathlib.Core.List.{List}
use Rattle.numbers.specs.Refusals.{not_a_segment, malformed_state}
use Rattle.numbers.specs.Answers.{pass, refused, refuse◌when◌else◌}
use Rattle.refusal.specs.declared.Refusal.{Refusal}
use Rattle.refusal.specs.Said.{said}
use Rattle.tp_machine.specs.Segments.{is_segment, more}
use Rattle.tp_machine.specs.Ranges.{greatest_end}
use Rattle.tp_machine.specs.Machine.{State, bad_state, judged}
use Rattle.tp_machine.proofs.Tests.{good_means}
use Rattle.tp_segment.specs.Reading.{header_of, segment_said, reading}
use Rattle.tp_segment.proofs.Laws.{reading_not, reading_good}
use Rattle.tp_rules.specs.Judging.{header_judged, Passed}
use Rattle.tp_rules.proofs.JudgingLaws.{by_header, header_passed, header_refused}

module _ (p : State) (seg : List ℕ) (room : ℕ) where
  pub judged_malformed : bad_state p ≡ true → judged p seg room ≡ refused malformed_state
  unfolding judged refuse◌when◌else◌
  judged_malformed m = rw m

  module _ (m : bad_state p ≡ false) where
    judged_not : is_segment seg ≡ false → judged p seg room ≡ refused not_a_segment
    unfolding judged refuse◌when◌else◌
    judged_not g = rw (m, g)

    -- what reading refused is handed on
    pub judged_unread : (r : Refusal) → refused (said r) ≡ reading seg → judged p seg room ≡ refused (said r)
    judged_unread r q = let n = reading_not seg (said r) q in judged_not n.0 ∙ ap refused (sym n.1)

    -- a header that was read, which has to reach to `least`, is judged by what it says
    module _ (h : TpHeader) (read : segment_said (Ok h) ≡ reading seg) (least : ℕ) (found : least ≡ cond h.more 0 (greatest_end p.ranges)) where
      is_read : (is_segment seg ≡ true) × (h ≡ header_of seg)
      is_read = reading_good seg h read

      same : header_judged p.limit p.end least h room ≡ by_header p seg room
      same =
          let reaches : least ≡ cond (more seg) 0 (greatest_end p.ranges) = found ∙ ap (λ (k : TpHeader). cond k.more 0 (greatest_end p.ranges)) is_read.1 in
          λ i. header_judged p.limit p.end (reaches i) (is_read.1 i) room

      pub judged_passed : pass ≡ header_judged p.limit p.end least h room → Passed p seg room h
      judged_passed v = subst (Passed p seg room) (sym is_read.1) (header_passed p seg room ((good_means p).0 m) is_read.0 (sym (v ∙ same)))

      pub judged_header : (r : Refusal) → refused (said r) ≡ header_judged p.limit p.end least h room → judged p seg room ≡ refused (said r)
      judged_header r v = header_refused p seg room ((good_means p).0 m) is_read.0 _ (sym (v ∙ same))
