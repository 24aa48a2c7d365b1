-- The plain machine of one stream, over values: its state, the refusals of a segment in their order, and what one call leaves.
-- Assumes nothing: these are definitions.
use Rattle.std.specs.Prelude.{ℕ, ◌+◌, ◌%◌, Bool, false, ◌&&◌, ◌||◌, not, cond, List, [], ◌∷◌, length, leb, ltb, eqb, Option, Some, None}
use Rattle.numbers.specs.Refusals.{not_a_segment, segment_too_big, unaligned, conflicting_end, buffer_too_short, ranges_full, limit_too_large, malformed_state, count_full}
use Rattle.numbers.specs.Answers.{accepted, refused, Verdict, pass, refuse◌when◌else◌}
use Rattle.tp_machine.specs.declared.TpRange.{TpRange}
use Rattle.tp_machine.specs.Segments.{is_segment, offset, more, size, end_of, written}
use Rattle.tp_machine.specs.Ranges.{any, joined, some_touch, greatest_end}

-- how many ranges are held at most, the highest payload limit, and the last number that a segment can have
abbrev pub most : ℕ
most = 64

abbrev pub highest : ℕ
highest = 65520

abbrev pub last_number : ℕ
last_number = 4294967295

-- `count` is that of the segments accepted since the stream was begun or cleared
pub record State : Type 0 where
  pub limit : ℕ
  pub ranges : List TpRange
  pub end : Option ℕ
  pub count : ℕ

-- a state that holds nothing
abbrev pub fresh : ℕ → State
fresh limit = record { limit = limit; ranges = []; end = None; count = 0 }

-- ---- 38: the states that are malformed

-- a known end before x
abbrev pub end_before : Option ℕ → ℕ → Bool
end_before None x = false
end_before (Some e) x = ltb e x

-- a number that no accepted segment has had: they have 1 up to the count
abbrev pub never_given : (count number : ℕ) → Bool
never_given count number = eqb number 0 || ltb count number

-- a range that ends before its start, past the limit or past a known end, or whose number was never given
unfoldable pub bad_range : State → TpRange → Bool
bad_range p r = ltb r.end r.start || (ltb p.limit r.end || (end_before p.end r.end || never_given p.count r.number))

-- a known end past x
abbrev pub end_past : Option ℕ → ℕ → Bool
end_past None x = false
end_past (Some e) x = ltb x e

-- more than `most` ranges, a limit above the highest, an end past the limit, a bad range, or two that touch
unfoldable pub bad_state : State → Bool
bad_state p = ltb most (length p.ranges) || (ltb highest p.limit || (end_past p.end p.limit || (any (bad_range p) p.ranges || some_touch p.ranges)))

-- ---- 31 to 35, and 39: what is wrong with a segment, in a state and a buffer of `room` bytes

abbrev pub too_big : State → List ℕ → Bool
too_big p seg = ltb p.limit (end_of seg)

abbrev pub not_aligned : List ℕ → Bool
not_aligned seg = more seg && not (eqb (size seg % 16) 0)

-- an end is known, and the new end x is past it, or this is a final segment with another end
abbrev pub conflicts : Option ℕ → Bool → ℕ → Bool
conflicts None m x = false
conflicts (Some e) m x = ltb e x || (not m && not (eqb x e))

abbrev pub previous : Option ℕ → ℕ
previous None = 0
previous (Some e) = e

-- this is a final segment, and its end x lies below the greatest end held
abbrev pub data_past : List TpRange → Bool → ℕ → Bool
data_past rs m x = not m && ltb x (greatest_end rs)

abbrev pub too_short : List ℕ → ℕ → Bool
too_short seg room = ltb room (16 + end_of seg)

-- the state after a segment was accepted: its range joined, with the next number, and a final segment sets the end
abbrev pub taken : State → List ℕ → State
taken p seg = record {
  limit = p.limit;
  ranges = joined (record { start = offset seg; end = end_of seg; number = p.count + 1 }) p.ranges;
  end = cond (more seg) p.end (Some (end_of seg));
  count = p.count + 1;
}

-- more ranges than may be held, after joining
abbrev pub too_many : State → List ℕ → Bool
too_many p seg = ltb most (length (taken p seg).ranges)

-- no number is left for a further segment
abbrev pub counted_out : State → Bool
counted_out p = leb last_number p.count

-- the first refusal of a segment
unfoldable pub judged : State → List ℕ → ℕ → Verdict
judged p seg room =
    refuse malformed_state when bad_state p else
    refuse not_a_segment when not (is_segment seg) else
    refuse segment_too_big (offset seg) (size seg) p.limit when too_big p seg else
    refuse unaligned (offset seg) (size seg) when not_aligned seg else
    refuse conflicting_end (previous p.end) (end_of seg) when conflicts p.end (more seg) (end_of seg) else
    refuse conflicting_end (greatest_end p.ranges) (end_of seg) when data_past p.ranges (more seg) (end_of seg) else
    refuse buffer_too_short (16 + end_of seg) when too_short seg room else
    refuse ranges_full when too_many p seg else
    refuse count_full when counted_out p else
    pass

-- ---- the calls

-- what a call leaves: its answer, and the state and the buffer after it
pub record Out : Type 0 where
  pub answer : Verdict
  pub state : State
  pub buffer : List ℕ

-- a refusal leaves state and buffer as they were
unfoldable pub after : Verdict → State → List ℕ → List ℕ → Out
after (accepted u) p seg buf = record { answer = pass; state = taken p seg; buffer = written buf seg }
after (refused r) p seg buf = record { answer = refused r; state = p; buffer = buf }

-- one segment comes
unfoldable pub step : State → List ℕ → List ℕ → Out
step p seg buf = after (judged p seg (length buf)) p seg buf

-- a stream is begun: 36, and the state given back then has limit 0
unfoldable pub begun : ℕ → Verdict
begun limit = refuse limit_too_large limit when ltb highest limit else pass

unfoldable pub begin : ℕ → State
begin limit = fresh (cond (ltb highest limit) 0 limit)

-- a fresh stream over a buffer
abbrev pub opened : ℕ → List ℕ → Out
opened limit buf = record { answer = begun limit; state = begin limit; buffer = buf }

-- segments come one after the other: what the last call leaves
unfoldable pub fed : Out → List (List ℕ) → Out
fed o [] = o
fed o (seg ∷ segs) = fed (step o.state seg o.buffer) segs

-- clearing forgets ranges, end and count, and keeps the limit
unfoldable pub clear : State → State
clear p = fresh p.limit
