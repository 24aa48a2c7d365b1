-- What a segment's header is judged by, whatever holds the stream. Assumes nothing: these are definitions.
use Rattle.std.specs.Prelude.{ℕ, ◌+◌, ◌%◌, ◌≤◌, ◌≡◌, ◌&&◌, not, List, length, ltb, eqb, Option}
use Rattle.numbers.specs.Refusals.{segment_too_big, unaligned, conflicting_end, buffer_too_short, ranges_full, count_full}
use Rattle.numbers.specs.Answers.{Verdict, pass, refuse◌when◌else◌}
use Rattle.tp_machine.specs.Segments.{end_of}
use Rattle.tp_machine.specs.Machine.{highest, State, conflicts, previous, too_many, counted_out, judged}
use Rattle.tp_machine.specs.Meaning.{Good}
use Rattle.tp_segment.specs.declared.TpHeader.{TpHeader}
use Rattle.tp_segment.specs.Reading.{header_of}

-- 31, 32, 33, 33, 34: the first refusal of a header, for a stream of that limit and end; `least` is how far it has to reach, `room` how long the
-- buffer is
unfoldable pub header_judged : (limit : ℕ) (end : Option ℕ) (least : ℕ) (h : TpHeader) (room : ℕ) → Verdict
header_judged limit end least h room =
    refuse segment_too_big h.offset h.size limit when ltb limit (h.offset + h.size) else
    refuse unaligned h.offset h.size when (h.more && not (eqb (h.size % 16) 0)) else
    refuse conflicting_end (previous end) (h.offset + h.size) when conflicts end h.more (h.offset + h.size) else
    refuse conflicting_end least (h.offset + h.size) when ltb (h.offset + h.size) least else
    refuse buffer_too_short (16 + (h.offset + h.size)) when ltb room (16 + (h.offset + h.size)) else
    pass

-- a segment that passed all tests but those after joining
pub record Passed (p : State) (seg : List ℕ) (room : ℕ) (h : TpHeader) : Type 0 where
  pub good : Good p
  pub header : h ≡ header_of seg
  pub long : 20 ≤ length seg
  pub low : end_of seg ≤ highest
  pub fits : 16 + end_of seg ≤ room
  pub rest : judged p seg room ≡ (refuse ranges_full when too_many p seg else refuse count_full when counted_out p else pass)
