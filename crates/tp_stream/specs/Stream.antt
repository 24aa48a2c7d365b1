-- The machine's state that a stream's record holds, and a record with a state put into it. Assumes nothing: these are definitions.
use Rattle.std.specs.Prelude.{ℕ, ◌-◌, List, ◌++◌, length, take, replicate, None}
use Rattle.tp_machine.specs.declared.TpRange.{TpRange}
use Rattle.tp_machine.specs.Machine.{most, State}
use Rattle.tp_range.specs.Joining.{none, placed}
use Rattle.tp_stream.specs.declared.TpStream.{TpStream}

-- the first n of an array's places; a count past its end is seen by as many ranges more
unfoldable pub held : ℕ → List TpRange → List TpRange
held n array = take n array ++ replicate (n - length array) none

abbrev pub view : TpStream → State
view s = record { limit = s.limit; ranges = held s.count s.ranges; end = s.end; count = s.accepted }

-- the record with that state in it; the places behind its ranges are as they were
abbrev pub stored : TpStream → State → TpStream
stored s p = record { limit = p.limit; ranges = placed s.ranges p.ranges; count = length p.ranges; end = p.end; accepted = p.count }

-- a record that was never used
unfoldable pub blank : TpStream
blank = record { limit = 0; ranges = replicate most none; count = 0; end = None; accepted = 0 }
