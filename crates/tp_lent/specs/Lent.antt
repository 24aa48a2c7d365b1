-- What is promised of the calls over lent words, which words are in order, and what stands between the parts of the code. Assumes nothing: these are definitions.
use Rattle.std.specs.Prelude.{ℕ, ◌+◌, ◌*◌, ◌-◌, ◌≤◌, ◌<◌, min, max, ◌≡◌, Bool, true, false, ◌&&◌, ◌||◌, not, cond, Result, List, ◌++◌, ◌⊎◌, ◌↔◌, length, take, drop, get_or, set, ltb, eqb}
use Rattle.numbers.specs.Refusals.{malformed_state}
use Rattle.numbers.specs.Answers.{accepted, refused, Verdict, pass, refuse◌when◌else◌}
use Rattle.refusal.specs.declared.Refusal.{Refusal}
use Rattle.refusal.specs.Said.{verdict_said}
use Rattle.tp_machine.specs.declared.TpRange.{TpRange}
use Rattle.tp_machine.specs.Lists.{counted}
use Rattle.tp_machine.specs.Ranges.{ends_before, begins_by}
use Rattle.tp_machine.specs.Segments.{more, written}
use Rattle.tp_machine.specs.Machine.{most, highest, last_number, State, bad_range, taken, step, clear}
use Rattle.tp_machine.specs.Meaning.{range_of, InOrder, Good}
use Rattle.tp_machine.specs.Runs.{Reached}
use Rattle.tp_range.specs.Ordered.{rising}
use Rattle.tp_segment.specs.Reading.{header_of}
use Rattle.tp_rules.specs.Judging.{Passed}
use Rattle.tp_stream.specs.declared.TpStream.{TpStream}
use Rattle.tp_stream.specs.Stream.{stored}
use Rattle.tp_words.specs.Words.{size, unfit, range_at, ranges_in, stream_of, state_of, flat, put}
use Rattle.tp_lent.specs.declared.order.Found.{Found}
use Rattle.tp_lent.specs.declared.planning.Plan.{Plan}

-- ---- what is promised of the calls

-- an accepted segment's state is put into the words, where the places that hold no range are as they were; a refusal leaves them alone
abbrev pub kept : List ℕ → Verdict → State → List ℕ
kept ws (accepted u) p = put ws (stored (stream_of ws) p)
kept ws (refused r) p = ws

-- one segment: answer, words and buffer are the machine's
pub record Joins (ws seg buf : List ℕ) (v : Result (Unit {0}) Refusal) (ws' buf' : List ℕ) : Type 0 where
  pub answers : verdict_said v ≡ (step (state_of ws) seg buf).answer
  pub words : ws' ≡ kept ws (step (state_of ws) seg buf).answer (step (state_of ws) seg buf).state
  pub buffer : buf' ≡ (step (state_of ws) seg buf).buffer

-- clearing: 38 where the words are unfit, and they are left alone
pub record Cleared (ws : List ℕ) (v : Result (Unit {0}) Refusal) (ws' : List ℕ) : Type 0 where
  pub answers : verdict_said v ≡ (refuse malformed_state when unfit ws else pass)
  pub words : ws' ≡ cond (unfit ws) ws (put ws (stored (stream_of ws) (clear (state_of ws))))

-- ---- words in order

-- the ranges that words tell
abbrev pub held : List ℕ → List TpRange
held ws = take (get_or ws 1 0) (ranges_in ws most)

-- how far ranges may reach, by the words: to the end that is known, else to the limit
abbrev pub top_of : List ℕ → ℕ
top_of ws = cond (eqb (get_or ws 2 0) 0) (get_or ws 0 0) (get_or ws 3 0)

-- words that are unfit, or whose state is malformed before its ranges are looked at
abbrev pub unready : List ℕ → Bool
unready ws = unfit ws || (ltb most (get_or ws 1 0) || (ltb highest (get_or ws 0 0) || ltb (get_or ws 0 0) (top_of ws)))

-- words that hold a stream that is not malformed, its ranges in order
abbrev pub in_order : List ℕ → Bool
in_order ws = not (unready ws) && rising (bad_range (state_of ws)) 0 (held ws)

-- what that means, both ways; and words into which a state is put that a run comes to are in order, so that one pass judges them
pub record OrderMeans : Type 0 where
  pub means : (ws : List ℕ) → (in_order ws ≡ true) ↔ ((unfit ws ≡ false) × Good (state_of ws) × InOrder (state_of ws).ranges)
  pub reached : (ws : List ℕ) (s : TpStream) (p : State) → size ≤ length ws → length s.ranges ≡ most → Reached p → in_order (put ws (stored s p)) ≡ true

-- ---- between the parts of the code

-- words with an array of ranges in the places of theirs
abbrev pub spread : List ℕ → List TpRange → List ℕ
spread ws rs = take 5 ws ++ (flat rs ++ drop size ws)

-- a range stored at place i
abbrev pub put_range : List ℕ → ℕ → TpRange → List ℕ
put_range ws i r = set (set (set ws (5 + 3 * i) r.start) (5 + 3 * i + 1) r.end) (5 + 3 * i + 2) r.number

-- n, and where there are ranges from `before` up to `behind`, as far as the first of them begins and the last ends
abbrev pub spanned : List ℕ → (before behind : ℕ) → TpRange → TpRange
spanned ws before behind n =
    cond (eqb before behind) n (record { start = min (range_at ws before).start n.start; end = max (range_at ws (behind - 1)).end n.end; number = n.number })

-- the end of the last of n ranges; 0 of none
abbrev pub last_end : List ℕ → ℕ → ℕ
last_end ws n = cond (eqb n 0) 0 (range_at ws (n - 1)).end

-- what one pass tells of words whose ranges stand in order: how many end before a new one begins, and how many begin where it ends or before
pub record Surveyed (ws : List ℕ) (new : TpRange) (f : Found) : Type 0 where
  pub order : rising (bad_range (state_of ws)) 0 (held ws) ≡ true
  pub before : f.before ≡ counted (ends_before new.start) (held ws)
  pub behind : f.behind ≡ counted (begins_by new.end) (held ws)

-- a segment that passes all tests: its range, where that belongs among those that are held, and that one of them is joined, or there is a place for
-- one more
pub record Planned (ws seg : List ℕ) (room : ℕ) (r : Plan) : Type 0 where
  pub ready : unready ws ≡ false
  pub passed : Passed (state_of ws) seg room (header_of seg)
  pub number_left : get_or ws 4 0 < last_number
  pub new : r.new ≡ range_of (get_or ws 4 0 + 1) seg
  pub more_follows : r.more ≡ more seg
  pub found : Surveyed ws (range_of (get_or ws 4 0 + 1) seg) r.found
  pub room_left : (r.found.before < r.found.behind) ⊎ (get_or ws 1 0 < most)

-- it is joined and written, as the machine does
pub record CarriedOut (ws seg buf ws' buf' : List ℕ) : Type 0 where
  pub words : ws' ≡ put ws (stored (stream_of ws) (taken (state_of ws) seg))
  pub buffer : buf' ≡ written buf seg
