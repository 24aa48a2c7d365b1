-- The order of refusals holds of the definitions, by computation. Assumes nothing.
use mathlib.Core.Path.{refl}
use Rattle.numbers.specs.Answers.{◌>>=◌, ◌>>◌, refuse◌when◌else◌, further, given}
use Rattle.numbers.specs.Bytes.{be16, be32, at16, at24, at32}
use Rattle.sd_format.specs.Sequences.{all_from, each_from, next_at}
use Rattle.sd_format.specs.Strings.{key_of, judge_bytes, all_spaces, judge_key, judge_item, closed, items_from, read_string}
use Rattle.sd_format.specs.Kinds.{kinds, row_in, row_of, judge_length, may_carry, judge_protocol, judge_content, judge_kind}
use Rattle.sd_format.specs.Frames.{frame, one_option, placed_option, permitted, permit, all_options, read_options, slots, lent, read_index, look_up, next_of_run}
use Rattle.sd_format.specs.Entries.{head, group, by_type, read_entry, inside, judge_run, judge_runs, placed_entry, read_entries}
use Rattle.sd_format.specs.Payload.{sizes, entries_length, options_length, entries_part, options_part, read_payload, header, read_message}
use Rattle.sd_format.specs.Order.{SizesInOrder, MessageInOrder, OptionInOrder, StringInOrder, OptionsInOrder, EntriesInOrder, IndexInOrder, LookupInOrder, Order}

sizes_in_order : SizesInOrder
unfolding ◌>>=◌ ◌>>◌ refuse◌when◌else◌ be16 be32 at16 at32 slots lent sizes entries_length options_length read_payload
sizes_in_order = record {
  22_before_1 = refl;
  1_before_2 = refl;
  2_before_3 = refl;
  3_before_1 = refl;
  1_before_4 = refl;
  4_before_5 = refl;
  5_before_1 = refl;
  1_before_6 = refl;
  6_before_7 = refl;
}

message_in_order : MessageInOrder
unfolding ◌>>=◌ ◌>>◌ refuse◌when◌else◌ be16 be32 at16 at32 slots lent sizes entries_length options_length read_payload header read_message
message_in_order = record {
  22_before_1 = refl;
  1_before_14 = refl;
  14_before_15 = refl;
  15_before_16 = refl;
  16_before_17 = refl;
  17_before_18 = refl;
  18_before_19 = refl;
  19_before_payload = refl;
  payload_last = refl;
}

string_in_order : StringInOrder
unfolding ◌>>=◌ ◌>>◌ refuse◌when◌else◌ key_of judge_bytes all_spaces judge_key judge_item closed items_from read_string
string_in_order = record {
  2_before_4 = refl;
  2_before_5 = refl;
  2_before_6 = refl;
  4_before_6 = refl;
  first_bad_byte = refl;
  first_item = refl;
  item_before_1 = refl;
  item_before_3 = refl;
  3_before_item = refl;
}

option_in_order : OptionInOrder
unfolding ◌>>=◌ ◌>>◌ refuse◌when◌else◌ further given at16 closed items_from read_string kinds row_in row_of judge_length may_carry judge_protocol judge_content judge_kind frame one_option
option_in_order = record {
  7_before_8 = refl;
  7_before_whole_length = refl;
  8_before_source_1 = refl;
  8_before_9 = refl;
  whole_length_before_source_1 = refl;
  whole_length_before_9 = refl;
  source_1 = refl;
  9_alone = refl;
  8_before_23 = refl;
  whole_length_before_23 = refl;
  source_1_before_23 = refl;
}

options_in_order : OptionsInOrder
unfolding ◌>>=◌ ◌>>◌ refuse◌when◌else◌ further given at16 all_from each_from closed items_from read_string kinds row_in row_of judge_length may_carry judge_protocol judge_content judge_kind frame one_option placed_option permitted permit all_options read_options
options_in_order = record {
  first_option = refl;
  8_before_10 = refl;
  9_before_10 = refl;
  first_unknown = refl;
  23_before_later_7 = refl;
  23_before_later_8 = refl;
  23_before_later_9 = refl;
  7_before_later_23 = refl;
  9_before_later_23 = refl;
  first_protocol = refl;
  23_before_10 = refl;
}

entries_in_order : EntriesInOrder
unfolding ◌>>=◌ ◌>>◌ refuse◌when◌else◌ further given be16 be32 at16 at24 at32 all_from each_from kinds row_in row_of judge_length may_carry judge_protocol judge_content judge_kind frame one_option placed_option permitted permit all_options read_options head group by_type read_entry inside judge_run judge_runs placed_entry read_entries sizes entries_length options_length entries_part options_part read_payload
entries_in_order = record {
  8_before_11 = refl;
  10_before_11 = refl;
  10_before_12 = refl;
  11_before_12 = refl;
  run_1_before_run_2 = refl;
  first_entry = refl;
  6_before_23 = refl;
  23_before_11 = refl;
  23_before_12 = refl;
  1_before_11 = refl;
}

index_in_order : IndexInOrder
unfolding refuse◌when◌else◌ slots lent read_index
index_in_order = record { 22_before_13 = refl; 13_before_8 = refl; 13_before_23 = refl }

lookup_in_order : LookupInOrder
unfolding refuse◌when◌else◌ slots look_up next_of_run next_at
lookup_in_order = record {
  20_before_past_346 = refl;
  20_before_past_the_table = refl;
  20_before_no_option = refl;
  run_20_before_21 = refl;
  option_20_before_7 = refl;
  entry_20_before_1 = refl;
}

pub order : Order
order = record {
  sizes = sizes_in_order;
  message = message_in_order;
  option = option_in_order;
  string = string_in_order;
  options = options_in_order;
  entries = entries_in_order;
  index = index_in_order;
  lookup = lookup_in_order;
}
