-- What is shown of a stream's record: it holds the machine's state that was put into it, by the names of its fields, and one that counts more ranges
-- than it has places for is malformed. Assumes nothing: these are definitions.
use Rattle.std.specs.Prelude.{ℕ, ◌≤◌, ◌<◌, ◌≡◌, true, List, length, take, drop, Option}
use Rattle.tp_machine.specs.declared.TpRange.{TpRange}
use Rattle.tp_machine.specs.Machine.{most, State, fresh, bad_state}
use Rattle.tp_stream.specs.declared.TpStream.{TpStream}
use Rattle.tp_stream.specs.Stream.{view, stored, blank}

pub record RecordHolds : Type 0 where
  -- its limit, its first `count` places, its end and how many segments were accepted are the state's
  pub by_name : (limit n : ℕ) (array : List TpRange) (end : Option ℕ) (accepted : ℕ) → n ≤ length array
      → view (record { limit = limit; ranges = array; count = n; end = end; accepted = accepted }) ≡ record { limit = limit; ranges = take n array; end = end; count = accepted }
  -- more ranges counted than may be held: 38
  pub too_many : (s : TpStream) → most < s.count → bad_state (view s) ≡ true
  -- a state that is put into it is found; the places behind the ranges are as they were
  pub put_found : (s : TpStream) (p : State) → length p.ranges ≤ length s.ranges → view (stored s p) ≡ p
  pub places_kept : (s : TpStream) (p : State) → length p.ranges ≤ length s.ranges
      → drop (length p.ranges) (stored s p).ranges ≡ drop (length p.ranges) s.ranges
  -- putting what it holds changes nothing
  pub nothing_moves : (s : TpStream) → stored s (view s) ≡ s
  -- a record that was never used holds a fresh state
  pub unused : view blank ≡ fresh 0
