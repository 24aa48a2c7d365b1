-- The places told hold of the definitions, by computation. Assumes nothing.
use mathlib.Core.Path.{refl}
use Rattle.numbers.specs.Answers.{◌>>=◌, ◌>>◌, refuse◌when◌else◌, further, given}
use Rattle.numbers.specs.Bytes.{be16, be32, at16, at24, at32}
use Rattle.sd_format.specs.Sequences.{all_from, each_from, next_at}
use Rattle.sd_format.specs.Strings.{key_of, judge_bytes, all_spaces, judge_key, judge_item, closed, items_from, read_string}
use Rattle.sd_format.specs.Kinds.{kinds, row_in, row_of, judge_length, may_carry, judge_protocol, judge_content, judge_kind}
use Rattle.sd_format.specs.Frames.{frame, one_option, placed_option, permitted, permit, all_options, read_options, read_index}
use Rattle.sd_format.specs.Entries.{head, group, by_type, read_entry, inside, judge_run, judge_runs, placed_entry, read_entries}
use Rattle.sd_format.specs.Payload.{sizes, entries_length, options_length, entries_part, options_part, read_payload, header, read_message}
use Rattle.sd_format.specs.PlacesTold.{PlacesTold}

pub places_told : PlacesTold
unfolding ◌>>=◌ ◌>>◌ refuse◌when◌else◌ further given be16 be32 at16 at24 at32 all_from each_from kinds row_in row_of judge_length may_carry judge_protocol judge_content judge_kind frame one_option placed_option permitted permit all_options read_options head group by_type read_entry inside judge_run judge_runs placed_entry read_entries sizes entries_length options_length entries_part options_part read_payload key_of judge_bytes all_spaces judge_key judge_item closed items_from read_string read_index next_at header read_message
places_told = record {
  empty_string = (refl, refl);
  missing_terminator = (refl, refl);
  item_too_long = (refl, refl);
  trailing_data = (refl, refl);
  empty_key = (refl, refl);
  invalid_key_byte = (refl, refl);
  only_whitespace = (refl, refl);
  below_three = (refl, refl);
  whole_length = (refl, refl);
  kind_length = (refl, refl);
  zero_length = (refl, refl);
  unknown = (refl, refl);
  first_unknown = (refl, refl);
  later_8 = (refl, refl);
  index = refl;
  cursor = refl;
  alone = refl;
  string = refl;
  in_payload = refl;
  in_message = refl;
}
