-- The unmarked cases of joining and both sides of the other lines hold of the definitions, by computation. Assumes nothing.
use mathlib.Core.Path.{refl}
use Rattle.numbers.specs.Bytes.{be16, be32, at16, at32}
use Rattle.numbers.specs.Answers.{refuse◌when◌else◌, given}
use Rattle.tp_machine.specs.Segments.{tp_type, is_segment, offset, more, payload, without_tp, header, pasted, written}
use Rattle.tp_machine.specs.Ranges.{any, touch, hull_of, keep, grow, inserted, joined, some_touch, greatest_end}
use Rattle.tp_machine.specs.Machine.{bad_range, bad_state, judged, after, step, begun, begin, fed, clear}
use Rattle.tp_machine.specs.Taking.{complete, ready, taking}
use Rattle.tp_machine.specs.Telling.{first_from, range_told, count_told}
use Rattle.tp_machine.specs.Bounds.{Fills, Full, OddEven, Bounds}

-- how many ranges are held; each by itself, since what one declaration may compute has a bound
fills : Fills
unfolding be16 be32 at16 at32 refuse◌when◌else◌ given tp_type is_segment offset more payload without_tp header pasted written any touch hull_of keep grow inserted joined some_touch greatest_end bad_range bad_state judged after step begun begin fed clear complete ready taking
fills = refl

full : Full
unfolding be16 be32 at16 at32 refuse◌when◌else◌ given tp_type is_segment offset more payload without_tp header pasted written any touch hull_of keep grow inserted joined some_touch greatest_end bad_range bad_state judged after step begun begin fed clear complete ready taking
full = refl

odd_even : OddEven
unfolding be16 be32 at16 at32 refuse◌when◌else◌ given tp_type is_segment offset more payload without_tp header pasted written any touch hull_of keep grow inserted joined some_touch greatest_end bad_range bad_state judged after step begun begin fed clear complete ready taking
odd_even = refl

pub bounds : Bounds
unfolding be16 be32 at16 at32 refuse◌when◌else◌ given tp_type is_segment offset more payload without_tp header pasted written any touch hull_of keep grow inserted joined some_touch greatest_end bad_range bad_state judged after step begun begin fed clear complete ready taking first_from range_told count_told
bounds = record {
  cases = (refl, (refl, (refl, (refl, (refl, (refl, (refl, tt)))))));
  segment_lines = record {
    types = (refl, (refl, (refl, (refl, (refl, tt)))));
    other_types = (refl, (refl, (refl, (refl, (refl, tt)))));
    other_lengths = (refl, (refl, tt));
    other_versions = (refl, (refl, tt));
    nineteen_bytes = (refl, tt);
  };
  ends_known = (refl, (refl, (refl, (refl, tt))));
  ends_below = (refl, (refl, (refl, (refl, (refl, (refl, (refl, (refl, tt))))))));
  known_end_first = refl;
  fills = fills;
  full = full;
  odd_even = odd_even;
  malformed = record {
    sixty_four = refl;
    sixty_five = refl;
    highest_limit = refl;
    past_highest = refl;
    end_at_limit = refl;
    end_past_limit = refl;
    range_to_limit = refl;
    range_past_limit = refl;
    range_to_end = refl;
    range_past_end = refl;
    range_backwards = refl;
    ranges_apart = refl;
    ranges_touch = refl;
    number_zero = refl;
    number_one = refl;
    number_of_count = refl;
    number_past_count = refl;
  };
  overrun_refused = record { comes = refl; incomplete = refl; taken = refl; cleared = refl };
  arrivals = record {
    of_two = refl;
    of_three = refl;
    of_others = refl;
    again = refl;
    empty = refl;
    refused_between = refl;
    refused_and_on = refl;
    cleared = refl;
    last_given = refl;
    counted_out = refl;
    full_first = refl;
    cleared_at_last = refl;
    told_first = refl;
    told_first_too = refl;
    told_at_start = refl;
    told_next = refl;
    told_none = refl;
    told_count = refl;
    taken_at_last = refl;
  };
  highest = (refl, refl);
  too_high = (refl, refl);
  room = refl;
  no_room = refl;
  given = refl;
  not_given = refl;
  waiting = refl;
  gap = refl;
  newest = refl;
  no_header = refl;
  header = refl;
}
