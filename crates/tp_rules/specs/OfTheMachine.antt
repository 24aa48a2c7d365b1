-- The rules are the machine's: what each of them says of a state's parts is what the machine says of the state. Assumes nothing: these are definitions.
use Rattle.std.specs.Prelude.{ℕ, ◌+◌, ◌≤◌, ◌≡◌, true, false, cond, List, length, take, get_or, Some, None}
use Rattle.numbers.specs.Bytes.{be32}
use Rattle.numbers.specs.Refusals.{ranges_full, count_full}
use Rattle.numbers.specs.Answers.{pass, ◌>>◌, refuse◌when◌else◌}
use Rattle.tp_range.specs.Joining.{none}
use Rattle.tp_machine.specs.declared.TpRange.{TpRange}
use Rattle.tp_machine.specs.Segments.{is_segment, offset, more, end_of, pasted, written}
use Rattle.tp_machine.specs.Ranges.{greatest_end}
use Rattle.tp_machine.specs.Machine.{highest, State, bad_state, too_many, counted_out, judged}
use Rattle.tp_machine.specs.Taking.{complete, ready}
use Rattle.tp_machine.specs.Meaning.{Good}
use Rattle.tp_segment.specs.Reading.{header_of}
use Rattle.tp_rules.specs.Judging.{header_judged}
use Rattle.tp_rules.specs.Malformed.{Reach}
use Rattle.tp_rules.specs.Writing.{written_at, length_put}
use Rattle.tp_rules.specs.Taking.{one_whole, one_ready}

pub record OfTheMachine : Type 0 where
  -- behind 38 and 30 a segment is judged by its header, a final one having to reach to the greatest end held, and then by what comes after joining
  pub judging : (p : State) (seg : List ℕ) (room : ℕ) → Good p → is_segment seg ≡ true
      → judged p seg room
      ≡ (header_judged p.limit p.end (cond (more seg) 0 (greatest_end p.ranges)) (header_of seg) room >> (refuse ranges_full when too_many p seg else refuse count_full when counted_out p else pass))
  -- ranges reach to the limit, or to a known end within it
  pub unbounded : (p : State) → p.end ≡ None → Reach p p.limit
  pub bounded : (p : State) (e : ℕ) → p.end ≡ Some e → e ≤ p.limit → Reach p e
  -- a segment that fits is written at its own offset, and the length field of a report that may be
  pub writing : (buf seg : List ℕ) → 20 ≤ length seg → 16 + end_of seg ≤ length buf → written_at buf (offset seg) seg ≡ written buf seg
  pub length_field : (buf : List ℕ) (end : ℕ) → 8 ≤ length buf → end ≤ highest → length_put buf end ≡ pasted buf 4 (be32 (end + 8))
  -- a state whose ranges are the first n of an array is complete, and its report is ready, by its end, n and the first of them
  pub completing : (p : State) (n : ℕ) (array : List TpRange) → bad_state p ≡ false → p.ranges ≡ take n array → n ≤ length array → 1 ≤ length array
      → complete p ≡ one_whole p.end n (get_or array 0 none)
  pub taking : (p : State) (n : ℕ) (array : List TpRange) → bad_state p ≡ false → p.ranges ≡ take n array → n ≤ length array → 1 ≤ length array
      → (room : ℕ) → ready p room ≡ one_ready p.end n (get_or array 0 none) room
