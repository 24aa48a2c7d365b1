-- The unmarked cases, both sides of the other lines, the cursors and the lent table hold of the definitions, by computation. Assumes nothing.
use mathlib.Core.Path.{refl}
use Rattle.numbers.specs.Answers.{◌>>=◌, ◌>>◌, refuse◌when◌else◌, further, given}
use Rattle.numbers.specs.Bytes.{be16, be32, at16, at24, at32}
use Rattle.sd_format.specs.Sequences.{all_from, starts, each_from, next_at}
use Rattle.sd_format.specs.Strings.{key_of, judge_bytes, all_spaces, judge_key, judge_item, closed, items_from, read_string}
use Rattle.sd_format.specs.Kinds.{kinds, row_in, row_of, judge_length, may_carry, judge_protocol, judge_content, judge_kind}
use Rattle.sd_format.specs.Frames.{frame, one_option, placed_option, permitted, permit, all_options, read_options, slots, zeros, filled, table_after, read_index, misfit, look_up, lent, next_of_run}
use Rattle.sd_format.specs.Fields.{fields_of, fields}
use Rattle.sd_format.specs.Entries.{head, by_type, read_entry, inside, judge_run, judge_runs, placed_entry, read_entries}
use Rattle.sd_format.specs.Payload.{sizes, entries_length, options_length, entries_part, options_part, read_payload, shown, handed_out}
use Rattle.sd_format.specs.Bounds.{Bounds}

pub bounds : Bounds
unfolding ◌>>=◌ ◌>>◌ refuse◌when◌else◌ further given be16 be32 at16 at24 at32 all_from each_from starts next_at key_of judge_bytes all_spaces judge_key judge_item closed items_from read_string kinds row_in row_of judge_length may_carry judge_protocol judge_content judge_kind frame one_option placed_option permitted permit all_options read_options slots zeros filled table_after read_index misfit look_up lent next_of_run fields_of fields head by_type read_entry inside judge_run judge_runs placed_entry read_entries sizes entries_length options_length entries_part options_part read_payload shown handed_out
bounds = record {
  eleven_bytes = refl;
  no_entry_there = refl;
  too_long = refl;
  zero_count = refl;
  all_slots = refl;
  eleven = refl;
  twelve = refl;
  entries_1388 = refl;
  options_1388 = refl;
  options_1389 = refl;
  payload_1400 = refl;
  payload_1401 = refl;
  run_1 = refl;
  run_2 = refl;
  run_of_15 = refl;
  run_to_the_end = refl;
  run_past_the_end = refl;
  known_permitted = refl;
  trailing = refl;
  spaces = refl;
  bad_byte = refl;
  long_item = refl;
  unterminated = refl;
  slot_346 = refl;
  slot_347 = refl;
  last_of_table = refl;
  past_the_table = refl;
  no_option = refl;
  past_the_bytes = refl;
  option_at_4 = refl;
  option_at_the_end = refl;
  entry_at_16 = refl;
  second_of_run = refl;
  run_leaves_the_list = refl;
  run_goes_on = refl;
  enough_slots = refl;
  table_filled = refl;
  table_cleared = refl;
  table_of_347 = refl;
  table_kept = refl;
  not_scanned = refl;
}
