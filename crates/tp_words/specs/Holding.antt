-- What is shown of words that hold a stream: a stream that was put is the one that is read, nothing else is written, and words that are unfit
-- hold no stream that a call accepts. Assumes nothing: these are definitions.
use Rattle.std.specs.Prelude.{ℕ, ◌≤◌, ◌<◌, ◌≡◌, true, false, List, [], ◌↔◌, ◌⊎◌, ◌≢◌, length, drop, get_or}
use Rattle.numbers.specs.Refusals.{malformed_state}
use Rattle.numbers.specs.Answers.{refused}
use Rattle.tp_machine.specs.Machine.{most, State, bad_state, step}
use Rattle.tp_machine.specs.Taking.{complete, taking}
use Rattle.tp_machine.specs.Telling.{range_told, count_told}
use Rattle.tp_stream.specs.declared.TpStream.{TpStream}
use Rattle.tp_stream.specs.Stream.{view, stored}
use Rattle.tp_words.specs.Words.{size, unfit, stream_of, state_of, put}

-- a stream that words can tell, as every accepted call gives back: no more ranges than may be held, in an array of as many places
pub record Tellable (s : TpStream) : Type 0 where
  pub few : s.count ≤ most
  pub places : length s.ranges ≡ most

-- what it means that words are unfit: they are too few, or the third is neither 0 nor 1
abbrev pub Unfit : List ℕ → Type 0
Unfit ws = (length ws < size) ⊎ ((get_or ws 2 0 ≢ 0) × (get_or ws 2 0 ≢ 1))

-- every call answers 38 and leaves state and buffer as they were
pub record Refuses (p : State) : Type 0 where
  pub segments : (seg buf : List ℕ) → step p seg buf ≡ record { answer = refused malformed_state; state = p; buffer = buf }
  pub report : (buf : List ℕ) → taking p buf ≡ record { answer = refused malformed_state; buffer = buf; part = [] }
  pub incomplete : complete p ≡ false
  pub ranges : (x : ℕ) → range_told p x ≡ refused malformed_state
  pub count : count_told p ≡ refused malformed_state

pub record WordsHold : Type 0 where
  -- the stream that is read is the one that was put: limit, every place of its array, count, end and how many segments were accepted
  pub read_back : (ws : List ℕ) (s : TpStream) → size ≤ length ws → Tellable s → stream_of (put ws s) ≡ s
  -- so the next call finds the state that was put
  pub state_back : (ws : List ℕ) (s : TpStream) → size ≤ length ws → Tellable s → state_of (put ws s) ≡ view s
  -- a state put into a stream's record, as the calls do: it is found too
  pub stored_back : (ws : List ℕ) (s : TpStream) (p : State) → size ≤ length ws → length s.ranges ≡ most → length p.ranges ≤ most → state_of (put ws (stored s p)) ≡ p
  -- words that are read hold a stream of as many places
  pub read_places : (ws : List ℕ) → length (stream_of ws).ranges ≡ most
  -- there are as many words as there were, and those behind the state's are as they were
  pub as_many : (ws : List ℕ) (s : TpStream) → length s.ranges ≡ most → length (put ws s) ≡ length ws
  pub behind : (ws : List ℕ) (s : TpStream) → length s.ranges ≡ most → drop size (put ws s) ≡ drop size ws
  -- where they are too few, or more ranges are counted than may be held, they are left alone
  pub left_alone : (ws : List ℕ) (s : TpStream) → (length ws < size) ⊎ (most < s.count) → put ws s ≡ ws
  -- unfit words: which they are, and that their state is malformed
  pub unfit_means : (ws : List ℕ) → (unfit ws ≡ true) ↔ Unfit ws
  pub unfit_malformed : (ws : List ℕ) → unfit ws ≡ true → bad_state (state_of ws) ≡ true
  pub unfit_refuses : (ws : List ℕ) → unfit ws ≡ true → Refuses (state_of ws)
  -- and words that count more ranges than may be held, whatever else they tell
  pub many_refuses : (ws : List ℕ) → most < get_or ws 1 0 → Refuses (state_of ws)
