-- What is promised of a stream's calls. Assumes nothing: these are definitions.
use Rattle.std.specs.Prelude.{ℕ, ◌≡◌, true, false, List, Result, Ok, Err}
use Rattle.numbers.specs.Answers.{refused}
use Rattle.refusal.specs.declared.Refusal.{Refusal}
use Rattle.refusal.specs.declared.Refusal.TheVariants.{MalformedState}
use Rattle.refusal.specs.declared.answers.Step.{Step}
use Rattle.refusal.specs.Said.{said, verdict_said, count_said}
use Rattle.tp_machine.specs.Machine.{State, Out, bad_state, judged, step, begun, begin}
use Rattle.tp_machine.specs.Taking.{taking}
use Rattle.tp_segment.specs.declared.TpHeader.{TpHeader}
use Rattle.tp_rules.specs.Judging.{Passed}
use Rattle.tp_stream.specs.declared.TpStream.{TpStream}
use Rattle.tp_stream.specs.Stream.{view, stored, blank}

-- beginning: the machine's answer, and its state in a record that was never used
pub record Began (limit : ℕ) (r : Step (Unit {0}) TpStream) : Type 0 where
  pub answers : verdict_said r.answer ≡ begun limit
  pub begins : r.after ≡ stored blank (begin limit)

-- what a call left, as the machine sees it
abbrev pub seen : Step (Unit {0}) TpStream → List ℕ → Out
seen r buffer = record { answer = verdict_said r.answer; state = view r.after; buffer = buffer }

-- one segment: answer, state and buffer are the machine's, and the places of the array that hold no range are as they were
pub record Ran (s : TpStream) (seg buf : List ℕ) (r : Step (Unit {0}) TpStream) (after : List ℕ) : Type 0 where
  pub steps : seen r after ≡ step (view s) seg buf
  pub places : r.after ≡ stored s (view r.after)

-- taking: answer and buffer are the machine's
pub record Took (s : TpStream) (buf : List ℕ) (r : Result ℕ Refusal) (after : List ℕ) : Type 0 where
  pub answers : count_said r ≡ (taking (view s) buf).answer
  pub writes : after ≡ (taking (view s) buf).buffer

-- ---- between the parts of the code

-- 38, exactly where the state is malformed
abbrev pub Formed : State → Result (Unit {0}) Refusal → Type 0
Formed p (Ok u) = bad_state p ≡ false
Formed p (Err r) = (bad_state p ≡ true) × (r ≡ MalformedState)

-- judging: a segment that passed all tests but those after joining, or the machine's refusal
abbrev pub Judges : State → List ℕ → ℕ → Result TpHeader Refusal → Type 0
Judges p seg room (Ok h) = Passed p seg room h
Judges p seg room (Err r) = judged p seg room ≡ refused (said r)

-- what a segment leaves, by the stream that it was joined to, or why it was refused: then all is as it was
abbrev pub stepped : TpStream → Result TpStream Refusal → Step (Unit {0}) TpStream
stepped s (Ok t) = record { answer = Ok tt; after = t }
stepped s (Err r) = record { answer = Err r; after = s }
