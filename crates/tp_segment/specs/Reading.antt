-- Reading a segment's header, and what the code's answer says. Assumes nothing: these are definitions.
use Rattle.std.specs.Prelude.{ℕ, not, List, Result}
use Rattle.numbers.specs.Refusals.{not_a_segment}
use Rattle.numbers.specs.Answers.{Answer, accepted, refuse◌when◌else◌}
use Rattle.refusal.specs.declared.Refusal.{Refusal}
use Rattle.refusal.specs.Said.{said_by}
use Rattle.tp_machine.specs.Segments.{is_segment, offset, more, size}
use Rattle.tp_segment.specs.declared.TpHeader.{TpHeader}

abbrev pub header_of : List ℕ → TpHeader
header_of s = record { offset = offset s; more = more s; size = size s }

-- 30, or the header
unfoldable pub reading : List ℕ → Answer TpHeader
reading s = refuse not_a_segment when not (is_segment s) else accepted (header_of s)

abbrev pub segment_said : Result TpHeader Refusal → Answer TpHeader
segment_said = said_by (λ h. h)
