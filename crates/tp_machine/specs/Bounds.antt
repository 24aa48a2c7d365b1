-- Computed beside the marked case: the rules' unmarked cases of joining, and both sides of the lines that those cases leave open: what is a
-- segment, another end, how many ranges are held, the numbers of arrival, the highest limit, the buffer's length, each rule of 38, and which bytes a
-- segment writes. The marked case is in specs/Cases.antt. Assumes nothing: these are definitions.
use Rattle.std.specs.Prelude.{ℕ, zero, suc, ◌+◌, ◌*◌, ◌≡◌, Bool, true, false, List, [], ◌∷◌, ◌++◌, length, take, drop, replicate, Option, Some, None}
use Rattle.numbers.specs.Bytes.{be32}
use Rattle.numbers.specs.Refusals.{refusal}
use Rattle.numbers.specs.Answers.{accepted, refused, Verdict, pass, All}
use Rattle.tp_machine.specs.declared.TpRange.{TpRange}
use Rattle.tp_machine.specs.Segments.{is_segment}
use Rattle.tp_machine.specs.Machine.{State, fresh, Out, bad_state, step, begun, begin, opened, fed, clear}
use Rattle.tp_machine.specs.Taking.{complete, taking}
use Rattle.tp_machine.specs.Telling.{range_told, count_told}
use Rattle.tp_machine.specs.Meaning.{range}
use Rattle.tp_machine.specs.Cases.{◌more_at◌, ◌final_at◌, Case, case, seen, Hold}

-- ---- the rules' unmarked cases

abbrev pub unmarked : List Case
unmarked =
    case 64 (15 more_at 0 ∷ []) (refused (refusal 32 (0 ∷ 15 ∷ []))) false 0
    ∷ case 64 (15 final_at 0 ∷ []) pass true 23
    ∷ case 64 (16 final_at 0 ∷ 16 final_at 16 ∷ []) (refused (refusal 33 (16 ∷ 32 ∷ []))) true 24
    ∷ case 64 (16 final_at 0 ∷ 16 more_at 16 ∷ []) (refused (refusal 33 (16 ∷ 32 ∷ []))) true 24
    ∷ case 64 (0 final_at 0 ∷ []) pass true 8
    ∷ case 32 (0 final_at 32 ∷ []) pass false 0
    ∷ case 32 (0 final_at 48 ∷ []) (refused (refusal 31 (48 ∷ 0 ∷ 32 ∷ []))) false 0
    ∷ []

-- ---- 30: both sides of each of its lines

-- 20 bytes with this length field, protocol version and type
abbrev pub twenty : (len version type : ℕ) → List ℕ
twenty len version type = (0x12 ∷ 0x34 ∷ 0x80 ∷ 0x01 ∷ []) ++ (be32 len ++ (0 ∷ 0 ∷ 0 ∷ 1 ∷ version ∷ 1 ∷ type ∷ 0 ∷ 0 ∷ 0 ∷ 0 ∷ 0 ∷ []))

abbrev pub AreSegments : Bool → List (List ℕ) → Type 0
AreSegments t = All (λ s. is_segment s ≡ t)

pub record SegmentLines : Type 0 where
  pub types : AreSegments true (twenty 12 1 0x20 ∷ twenty 12 1 0x21 ∷ twenty 12 1 0x22 ∷ twenty 12 1 0xa0 ∷ twenty 12 1 0xa1 ∷ [])
  pub other_types : AreSegments false (twenty 12 1 0x00 ∷ twenty 12 1 0x1f ∷ twenty 12 1 0x23 ∷ twenty 12 1 0x9f ∷ twenty 12 1 0xa2 ∷ [])
  pub other_lengths : AreSegments false (twenty 11 1 0x22 ∷ twenty 13 1 0x22 ∷ [])
  pub other_versions : AreSegments false (twenty 12 0 0x22 ∷ twenty 12 2 0x22 ∷ [])
  pub nineteen_bytes : AreSegments false (take 19 (twenty 11 1 0x22) ∷ [])

-- ---- 33: an end of 32 is known, and a final segment has another end or the same, or one that is not final lies before it

abbrev pub ends : List Case
ends =
    case 64 (16 final_at 16 ∷ 16 final_at 0 ∷ []) (refused (refusal 33 (32 ∷ 16 ∷ []))) false 0
    ∷ case 64 (16 final_at 16 ∷ 16 final_at 16 ∷ []) pass false 0
    ∷ case 64 (16 final_at 16 ∷ 16 more_at 0 ∷ []) pass true 40
    ∷ case 64 (16 final_at 16 ∷ 16 more_at 16 ∷ []) pass false 0
    ∷ []

-- ---- 33: no end is known, and a final segment ends below the greatest end held, or at it

abbrev pub ends_behind : List Case
ends_behind =
    case 64 (16 more_at 0 ∷ 16 more_at 16 ∷ 16 final_at 0 ∷ []) (refused (refusal 33 (32 ∷ 16 ∷ []))) false 0
    ∷ case 64 (32 more_at 0 ∷ 15 final_at 16 ∷ []) (refused (refusal 33 (32 ∷ 31 ∷ []))) false 0
    ∷ case 64 (16 more_at 0 ∷ 0 final_at 0 ∷ []) (refused (refusal 33 (16 ∷ 0 ∷ []))) false 0
    -- of three ranges neither the first nor the last ends last
    ∷ case 96 (16 more_at 0 ∷ 16 more_at 64 ∷ 16 more_at 32 ∷ 16 final_at 48 ∷ []) (refused (refusal 33 (80 ∷ 64 ∷ []))) false 0
    ∷ case 64 (16 more_at 0 ∷ 16 more_at 16 ∷ 16 final_at 16 ∷ []) pass true 40
    ∷ case 64 (16 more_at 0 ∷ 16 more_at 16 ∷ 0 final_at 32 ∷ []) pass true 40
    ∷ case 64 (0 more_at 0 ∷ 0 final_at 0 ∷ []) pass true 8
    -- refused, the stream is as it was, and its own end is taken
    ∷ case 64 (16 more_at 0 ∷ 16 more_at 16 ∷ 16 final_at 0 ∷ 16 final_at 16 ∷ []) pass true 40
    ∷ []

-- ---- how many ranges are held

-- n segments of 16 bytes, no two of which touch: at `first`, 32 further, 64 further, .., the last one first
abbrev pub apart : (first n : ℕ) → List (List ℕ)
apart first zero = []
apart first (suc n) = 16 more_at (first + n * 32) ∷ apart first n

-- a fresh stream of limit 2,112 over a buffer of nines, after segments
abbrev pub after_all : List (List ℕ) → Out
after_all ss = fed (opened 2112 (replicate 2128 9)) ss

-- what a call answers, and how many ranges are held after it
pub record Told : Type 0 where
  pub answer : Verdict
  pub held : ℕ

abbrev pub told : Out → Told
told o = record { answer = o.answer; held = length o.state.ranges }

-- the same of each segment that comes
abbrev pub told_each : Out → List (List ℕ) → List Told
told_each o [] = []
told_each o (seg ∷ segs) = told (step o.state seg o.buffer) ∷ told_each (step o.state seg o.buffer) segs

-- 64 ranges are held
abbrev pub Fills : Type 0
Fills = told (after_all (apart 0 64)) ≡ record { answer = pass; held = 64 }

-- and no more: a further one is refused; a segment that joins two of them is accepted, and then the further one is
abbrev pub Full : Type 0
Full =
    told_each (after_all (apart 0 64)) (16 more_at 2048 ∷ 16 more_at 16 ∷ 16 more_at 2048 ∷ [])
    ≡ record { answer = refused (refusal 35 []); held = 64 } ∷ record { answer = pass; held = 63 } ∷ record { answer = pass; held = 64 } ∷ []

-- every second of 128 segments, and then the others: the report is complete
abbrev pub OddEven : Type 0
OddEven = seen (after_all (apart 0 64 ++ (16 final_at 2032 ∷ apart 16 63))) ≡ record { answer = pass; complete = true; length_field = 2056 }

-- ---- 38: n ranges of no byte, apart; and states that hold these ranges, all of them of the one segment that was accepted

abbrev pub spread : ℕ → List TpRange
spread zero = []
spread (suc n) = range n n 1 ∷ spread n

abbrev pub holding_these : (limit : ℕ) → List TpRange → Option ℕ → State
holding_these limit rs end = record { limit = limit; ranges = rs; end = end; count = 1 }

-- a state that holds 0 to 16 with that number, after so many accepted segments
abbrev pub numbered : (number count : ℕ) → State
numbered number count = record { limit = 2112; ranges = range 0 16 number ∷ []; end = None; count = count }

pub record Malformed : Type 0 where
  pub sixty_four : bad_state (holding_these 64 (spread 64) None) ≡ false
  pub sixty_five : bad_state (holding_these 64 (spread 65) None) ≡ true
  pub highest_limit : bad_state (fresh 65520) ≡ false
  pub past_highest : bad_state (fresh 65521) ≡ true
  pub end_at_limit : bad_state (holding_these 64 [] (Some 64)) ≡ false
  pub end_past_limit : bad_state (holding_these 64 [] (Some 65)) ≡ true
  pub range_to_limit : bad_state (holding_these 64 (range 64 64 1 ∷ []) None) ≡ false
  pub range_past_limit : bad_state (holding_these 64 (range 64 65 1 ∷ []) None) ≡ true
  pub range_to_end : bad_state (holding_these 64 (range 0 32 1 ∷ []) (Some 32)) ≡ false
  pub range_past_end : bad_state (holding_these 64 (range 0 32 1 ∷ []) (Some 31)) ≡ true
  pub range_backwards : bad_state (holding_these 64 (range 2 1 1 ∷ []) None) ≡ true
  pub ranges_apart : bad_state (holding_these 64 (range 0 1 1 ∷ range 2 3 1 ∷ []) None) ≡ false
  pub ranges_touch : bad_state (holding_these 64 (range 0 1 1 ∷ range 1 2 1 ∷ []) None) ≡ true
  pub number_zero : bad_state (numbered 0 5) ≡ true
  pub number_one : bad_state (numbered 1 5) ≡ false
  pub number_of_count : bad_state (numbered 5 5) ≡ false
  pub number_past_count : bad_state (numbered 6 5) ≡ true

-- a state with a range past its end, which would else be complete: 38, and nothing is written
abbrev pub overrun : State
overrun = holding_these 64 (range 0 32 1 ∷ []) (Some 16)

pub record OverrunRefused : Type 0 where
  pub comes : step overrun (16 final_at 0) (replicate 80 9) ≡ record { answer = refused (refusal 38 []); state = overrun; buffer = replicate 80 9 }
  pub incomplete : complete overrun ≡ false
  pub taken : taking overrun (replicate 80 9) ≡ record { answer = refused (refusal 38 []); buffer = replicate 80 9; part = [] }
  pub cleared : clear overrun ≡ fresh 64

-- ---- numbers of arrival

-- what is seen of them after a call: its answer, the count and the ranges
pub record Numbering : Type 0 where
  pub answer : Verdict
  pub count : ℕ
  pub ranges : List TpRange

abbrev pub numbering : Out → Numbering
numbering o = record { answer = o.answer; count = o.state.count; ranges = o.state.ranges }

-- 64 ranges are held, and no number is left
abbrev pub full_and_counted_out : State
full_and_counted_out = record { limit = 64; ranges = spread 64; end = None; count = 4294967295 }

-- 16 bytes at 16 come to a state
abbrev pub sixteen_to : State → Numbering
sixteen_to p = numbering (step p (16 more_at 16) (replicate 48 9))

pub record Arrivals : Type 0 where
  -- the larger number is kept: of two that touch, and where a third joins them
  pub of_two : numbering (after_all (16 more_at 0 ∷ 16 more_at 16 ∷ [])) ≡ record { answer = pass; count = 2; ranges = range 0 32 2 ∷ [] }
  pub of_three : numbering (after_all (16 more_at 32 ∷ 16 more_at 0 ∷ 16 more_at 16 ∷ [])) ≡ record { answer = pass; count = 3; ranges = range 0 48 3 ∷ [] }
  -- a range that is not touched keeps its own
  pub of_others : numbering (after_all (16 more_at 0 ∷ 16 more_at 64 ∷ 16 more_at 16 ∷ [])) ≡ record { answer = pass; count = 3; ranges = range 0 32 3 ∷ range 64 80 2 ∷ [] }
  -- one that was there already has come again, and one without a byte has come
  pub again : numbering (after_all (16 more_at 0 ∷ 16 more_at 0 ∷ [])) ≡ record { answer = pass; count = 2; ranges = range 0 16 2 ∷ [] }
  pub empty : numbering (after_all (16 more_at 0 ∷ 0 more_at 16 ∷ [])) ≡ record { answer = pass; count = 2; ranges = range 0 16 2 ∷ [] }
  -- a refused one between counts nowhere
  pub refused_between : numbering (after_all (16 more_at 0 ∷ 15 more_at 16 ∷ [])) ≡ record { answer = refused (refusal 32 (16 ∷ 15 ∷ [])); count = 1; ranges = range 0 16 1 ∷ [] }
  pub refused_and_on : numbering (after_all (16 more_at 0 ∷ 15 more_at 16 ∷ 16 more_at 16 ∷ [])) ≡ record { answer = pass; count = 2; ranges = range 0 32 2 ∷ [] }
  -- cleared, they begin at 1
  pub cleared : sixteen_to (clear (numbered 5 5)) ≡ record { answer = pass; count = 1; ranges = range 16 32 1 ∷ [] }
  -- the last number is given; then 39, until the stream is cleared
  pub last_given : sixteen_to (numbered 1 4294967294) ≡ record { answer = pass; count = 4294967295; ranges = range 0 32 4294967295 ∷ [] }
  pub counted_out : sixteen_to (numbered 1 4294967295) ≡ record { answer = refused (refusal 39 []); count = 4294967295; ranges = range 0 16 1 ∷ [] }
  -- 35 before it: where there is no place for the range either
  pub full_first : (step full_and_counted_out (0 more_at 64) (replicate 80 9)).answer ≡ refused (refusal 35 [])
  pub cleared_at_last : sixteen_to (clear (numbered 1 4294967295)) ≡ record { answer = pass; count = 1; ranges = range 16 32 1 ∷ [] }
  -- ranges are told as they begin, each with its number, whichever came first
  pub told_first : range_told (after_all (16 more_at 64 ∷ 16 more_at 0 ∷ [])).state 0 ≡ accepted (range 0 16 2)
  pub told_first_too : range_told (after_all (16 more_at 0 ∷ 16 more_at 64 ∷ [])).state 0 ≡ accepted (range 0 16 1)
  pub told_at_start : range_told (after_all (16 more_at 64 ∷ 16 more_at 0 ∷ [])).state 64 ≡ accepted (range 64 80 1)
  pub told_next : range_told (after_all (16 more_at 64 ∷ 16 more_at 0 ∷ [])).state 1 ≡ accepted (range 64 80 1)
  pub told_none : range_told (after_all (16 more_at 64 ∷ 16 more_at 0 ∷ [])).state 65 ≡ refused (refusal 20 [])
  pub told_count : count_told (after_all (16 more_at 32 ∷ 16 more_at 0 ∷ 16 more_at 16 ∷ [])).state ≡ accepted 3
  -- a report is taken at the last number all the same
  pub taken_at_last : (taking (record { limit = 64; ranges = range 0 16 7 ∷ []; end = Some 16; count = 4294967295 }) (replicate 32 9)).answer ≡ accepted 16

pub record Bounds : Type 0 where
  pub cases : Hold unmarked
  pub segment_lines : SegmentLines
  pub ends_known : Hold ends
  pub ends_below : Hold ends_behind
  -- where both rules of 33 hold, the end that is known is the previous one
  pub known_end_first : (step (holding_these 64 (range 0 32 1 ∷ []) (Some 64)) (16 final_at 0) (replicate 80 9)).answer ≡ refused (refusal 33 (64 ∷ 16 ∷ []))
  pub fills : Fills
  pub full : Full
  pub odd_even : OddEven
  pub malformed : Malformed
  pub overrun_refused : OverrunRefused
  pub arrivals : Arrivals
  -- the highest limit, and one more
  pub highest : (begun 65520 ≡ pass) × (begin 65520 ≡ fresh 65520)
  pub too_high : (begun 65521 ≡ refused (refusal 36 (65521 ∷ []))) × (begin 65521 ≡ fresh 0)
  -- a buffer of 16 plus the new end, and one byte less
  pub room : (step (fresh 64) (16 more_at 16) (replicate 48 9)).answer ≡ pass
  pub no_room : (step (fresh 64) (16 more_at 16) (replicate 47 9)).answer ≡ refused (refusal 34 (48 ∷ []))
  -- taking: with room, one byte less, before the end has come
  pub given : (taking (after_all ((16 final_at 0) ∷ [])).state (replicate 32 9)).answer ≡ accepted 16
  pub not_given : (taking (after_all ((16 final_at 0) ∷ [])).state (replicate 31 9)).answer ≡ refused (refusal 34 (32 ∷ []))
  pub waiting : (taking (after_all ((16 more_at 0) ∷ [])).state (replicate 32 9)).answer ≡ refused (refusal 37 [])
  pub gap : complete (after_all ((16 more_at 0) ∷ (16 final_at 32) ∷ [])).state ≡ false
  -- the newest bytes win: a segment's sevens stand where nines stood, and no byte behind them has changed
  pub newest : drop 16 (after_all ((16 more_at 16) ∷ [])).buffer ≡ replicate 16 9 ++ (replicate 16 7 ++ replicate 2080 9)
  -- the header comes with an offset of 0 only, without 0x20 in its type
  pub no_header : take 16 (after_all ((16 more_at 16) ∷ [])).buffer ≡ replicate 16 9
  pub header : take 16 (after_all ((16 more_at 0) ∷ [])).buffer ≡ 0x12 ∷ 0x34 ∷ 0x80 ∷ 0x01 ∷ 0 ∷ 0 ∷ 0 ∷ 28 ∷ 0 ∷ 0 ∷ 0 ∷ 1 ∷ 1 ∷ 1 ∷ 0x02 ∷ 0 ∷ []
