-- Each field stands at its place, by computation. Assumes nothing.
use mathlib.Core.Path.{refl}
use Rattle.numbers.specs.Answers.{◌>>=◌, ◌>>◌, refuse◌when◌else◌, further, given}
use Rattle.numbers.specs.Bytes.{at16, at24, at32}
use Rattle.sd_format.specs.Sequences.{all_from, each_from}
use Rattle.sd_format.specs.Strings.{key_of, judge_bytes, all_spaces, judge_key, judge_item, closed, items_from, read_string}
use Rattle.sd_format.specs.Kinds.{kinds, row_in, row_of, judge_length, may_carry, judge_protocol, judge_content, judge_kind}
use Rattle.sd_format.specs.Frames.{frame, one_option, placed_option, all_options, read_options}
use Rattle.sd_format.specs.Fields.{items_of, fields_of, fields}
use Rattle.sd_format.specs.Entries.{head, group, by_type, read_entry, read_entries}
use Rattle.sd_format.specs.Payload.{sizes, entries_length, options_length, entries_part, options_part, read_payload, shown, handed_out}
use Rattle.sd_format.specs.Places.{Places}

pub places : Places
unfolding ◌>>=◌ ◌>>◌ refuse◌when◌else◌ further given at16 at24 at32 all_from each_from key_of judge_bytes all_spaces judge_key judge_item closed items_from read_string kinds row_in row_of judge_length may_carry judge_protocol judge_content judge_kind frame one_option placed_option all_options read_options items_of fields_of fields head group by_type read_entry read_entries sizes entries_length options_length entries_part options_part read_payload shown handed_out
places = record {
  reboot = refl;
  unicast = refl;
  control = refl;
  other_bits = refl;
  code_0x00_finds = refl;
  code_0x01_offers = refl;
  code_0x06_subscribes = refl;
  code_0x07_acknowledges = refl;
  initial_data = refl;
  spare = refl;
  counter = refl;
  code_0x01_configures = refl;
  code_0x02_balances = refl;
  code_0x04_ipv4_endpoint = refl;
  code_0x14_ipv4_multicast = refl;
  code_0x24_ipv4_sd_endpoint = refl;
  code_0x06_ipv6_endpoint = refl;
  code_0x16_ipv6_multicast = refl;
  code_0x26_ipv6_sd_endpoint = refl;
  code_0x77_unknown = refl;
}
