-- What is promised of a stream's calls over words: answers, words and buffer after them, each an equation, and the state that the next call
-- reads. Then what follows of calls one after the other. Assumes nothing: these are definitions.
use Rattle.std.specs.Prelude.{ℕ, ◌+◌, ◌≤◌, ◌≡◌, true, false, cond, List, [], ◌∷◌, ◌↔◌, length, take, ltb}
use Rattle.numbers.specs.Refusals.{malformed_state}
use Rattle.numbers.specs.Answers.{accepted, Verdict, pass, refuse◌when◌else◌}
use Rattle.tp_machine.specs.Machine.{State, Out, step, begun, begin, opened, fed, clear}
use Rattle.tp_machine.specs.Taking.{complete, taking}
use Rattle.tp_machine.specs.Telling.{range_told, count_told}
use Rattle.tp_machine.specs.Meaning.{range, Complete}
use Rattle.tp_machine.specs.Runs.{admitted, Numbered, WholeEnds, Reported}
use Rattle.tp_stream.specs.Stream.{stored, blank}
use Rattle.tp_words.specs.Words.{size, unfit, stream_of, state_of, put}
use Rattle.tp_lent.specs.Lent.{kept}
use Rattle.hub.specs.declared.answers.Answer.{Answer}
use Rattle.hub.specs.Answers.{row, told, no_values, one_value, report_values, range_values}

-- 38 where the words are too few
abbrev pub in_words : List ℕ → Verdict → Verdict
in_words ws v = refuse malformed_state when ltb (length ws) size else v

-- beginning: the machine's answer and state
pub record Begins (ws : List ℕ) (limit : ℕ) (r : Answer) (ws' : List ℕ) : Type 0 where
  pub answers : r ≡ told no_values (in_words ws (begun limit))
  pub words : ws' ≡ put ws (stored blank (begin limit))
  pub state : size ≤ length ws → state_of ws' ≡ begin limit

-- one segment: answer, state and buffer are the machine's
pub record Consumes (ws seg buf : List ℕ) (r : Answer) (ws' buf' : List ℕ) : Type 0 where
  pub answers : r ≡ told no_values (step (state_of ws) seg buf).answer
  pub words : ws' ≡ kept ws (step (state_of ws) seg buf).answer (step (state_of ws) seg buf).state
  pub buffer : buf' ≡ (step (state_of ws) seg buf).buffer
  pub state : state_of ws' ≡ (step (state_of ws) seg buf).state

-- 1 where the stream is complete
abbrev pub completes : List ℕ → Answer
completes ws = row 0 (one_value (cond (complete (state_of ws)) 1 0))

-- a report that was given: as many bytes as are told, at the front of the buffer b, are the machine's part
pub record InFront (p : State) (buf : List ℕ) (end : ℕ) (b : List ℕ) : Type 0 where
  pub within : 16 + end ≤ length b
  pub told_length : length (taking p buf).part ≡ 16 + end
  pub part : take (16 + end) b ≡ (taking p buf).part

-- taking: answer and buffer are the machine's
pub record Takes (ws buf : List ℕ) (r : Answer) (buf' : List ℕ) : Type 0 where
  pub answers : r ≡ told report_values (taking (state_of ws) buf).answer
  pub buffer : buf' ≡ (taking (state_of ws) buf).buffer
  pub report : (end : ℕ) → (taking (state_of ws) buf).answer ≡ accepted end → InFront (state_of ws) buf end buf'

-- clearing: the limit is kept, ranges, end and count are forgotten, and the places of ranges are as they were; 38 where the words are unfit
pub record Clears (ws : List ℕ) (r : Answer) (ws' : List ℕ) : Type 0 where
  pub answers : r ≡ told no_values (refuse malformed_state when unfit ws else pass)
  pub words : ws' ≡ cond (unfit ws) ws (put ws (stored (stream_of ws) (clear (state_of ws))))
  pub state : unfit ws ≡ false → state_of ws' ≡ clear (state_of ws)

-- how many segments were accepted, and the range that begins first at `from` or behind it
abbrev pub counts : List ℕ → Answer
counts ws = told one_value (count_told (state_of ws))

abbrev pub ranges : List ℕ → (from : ℕ) → Answer
ranges ws from = told range_values (range_told (state_of ws) from)

-- ---- calls one after the other

-- segments come, each to the words and the buffer that the call before left; with the answer of the last call
pub data Comes : (ws buf : List ℕ) (r : Answer) → List (List ℕ) → (ws' buf' : List ℕ) (r' : Answer) → Type 0 where
  none : {ws buf : List ℕ} {r : Answer} → Comes ws buf r [] ws buf r
  next : {ws buf seg : List ℕ} {r q : Answer} {v b : List ℕ} {segs : List (List ℕ)} {ws' buf' : List ℕ} {r' : Answer}
      → Consumes ws seg buf q v b → Comes v b q segs ws' buf' r' → Comes ws buf r (seg ∷ segs) ws' buf' r'

-- a stream is begun in words, enough of them, and segments come to it
pub record Called (limit : ℕ) (buf : List ℕ) (segs : List (List ℕ)) (ws' buf' : List ℕ) (r : Answer) : Type 0 where
  pub lent : List ℕ
  pub enough : size ≤ length lent
  pub first : Answer
  pub words : List ℕ
  pub begins : Begins lent limit first words
  pub comes : Comes words buf first segs ws' buf' r

-- words, buffer and answer are what a run of the machine left
pub record Stands (o : Out) (ws buf : List ℕ) (r : Answer) : Type 0 where
  pub state : state_of ws ≡ o.state
  pub buffer : buf ≡ o.buffer
  pub answer : r ≡ told no_values o.answer

-- the report r, b of a complete stream: its length is told, it ends where an accepted final segment ends and none past it, and in front stands
-- what the rules say of the accepted segments
pub record Reports (segs : List (List ℕ)) (r : Answer) (b : List ℕ) : Type 0 where
  pub end : ℕ
  pub whole : WholeEnds segs end
  pub told_length : r ≡ row 0 ((16 + end) ∷ [])
  pub reported : Reported segs end (take (16 + end) b)

-- words that are unfit: every call but beginning answers 38 and changes nothing, and no stream in them is complete
pub record Shut (ws : List ℕ) : Type 0 where
  pub consuming : (seg buf : List ℕ) (r : Answer) (ws' buf' : List ℕ) → Consumes ws seg buf r ws' buf' → (r ≡ row 38 []) × (ws' ≡ ws) × (buf' ≡ buf)
  pub reporting : (buf : List ℕ) (r : Answer) (buf' : List ℕ) → Takes ws buf r buf' → (r ≡ row 38 []) × (buf' ≡ buf)
  pub clearing : (r : Answer) (ws' : List ℕ) → Clears ws r ws' → (r ≡ row 38 []) × (ws' ≡ ws)
  pub incomplete : completes ws ≡ row 0 (0 ∷ [])
  pub counting : counts ws ≡ row 38 []
  pub ranging : (from : ℕ) → ranges ws from ≡ row 38 []

pub record OverWords : Type 0 where
  -- so what is shown of every run of the machine (tp_machine, Theorems) holds of what C calls
  pub runs : {limit : ℕ} {buf ws' buf' : List ℕ} {segs : List (List ℕ)} {r : Answer} → Called limit buf segs ws' buf' r → Stands (fed (opened limit buf) segs) ws' buf' r
  -- 1 is answered exactly where the rules call the stream complete
  pub complete_means : (ws : List ℕ) → (completes ws ≡ row 0 (1 ∷ [])) ↔ Complete (state_of ws)
  -- and its report is then given, whatever came
  pub reports : {limit : ℕ} {buf ws' buf' b : List ℕ} {segs : List (List ℕ)} {r t : Answer} → Called limit buf segs ws' buf' r → Complete (state_of ws') → Takes ws' buf' t b
      → Reports (admitted (opened limit buf) segs) t b
  -- the count that is told is that of the accepted segments, and a range is told with the place of the latest of them that lies in it
  pub counted : {limit : ℕ} {buf ws' buf' : List ℕ} {segs : List (List ℕ)} {r : Answer} → Called limit buf segs ws' buf' r → counts ws' ≡ row 0 (length (admitted (opened limit buf) segs) ∷ [])
  pub numbered : {limit : ℕ} {buf ws' buf' : List ℕ} {segs : List (List ℕ)} {r : Answer} → Called limit buf segs ws' buf' r → (from start end number : ℕ)
      → ranges ws' from ≡ row 0 (start ∷ end ∷ number ∷ []) → Numbered (admitted (opened limit buf) segs) (range start end number)
  pub unfit_shut : (ws : List ℕ) → unfit ws ≡ true → Shut ws
