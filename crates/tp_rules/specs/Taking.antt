-- Whether a stream's report can be taken, by its end, how many ranges it has and the first of them, whatever holds them. Assumes nothing: these are
-- definitions.
use Rattle.std.specs.Prelude.{ℕ, ◌+◌, Bool, ◌&&◌, not, ltb, eqb, Option}
use Rattle.numbers.specs.Refusals.{buffer_too_short, not_complete}
use Rattle.numbers.specs.Answers.{Answer, accepted, refuse◌when◌else◌}
use Rattle.tp_machine.specs.declared.TpRange.{TpRange}
use Rattle.tp_machine.specs.Taking.{is_known}

-- an end is known, and there is exactly one range, beginning at 0
abbrev pub one_whole : (end : Option ℕ) (count : ℕ) (first : TpRange) → Bool
one_whole end count first = is_known end && (eqb count 1 && eqb first.start 0)

-- 37, 34 for a buffer of `room` bytes, or the range's end
unfoldable pub one_ready : (end : Option ℕ) (count : ℕ) (first : TpRange) (room : ℕ) → Answer ℕ
one_ready end count first room =
    refuse not_complete when not (one_whole end count first) else
    refuse buffer_too_short (16 + first.end) when ltb room (16 + first.end) else
    accepted first.end
