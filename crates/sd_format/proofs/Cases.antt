-- The marked cases hold of the definitions, by computation. Assumes nothing.
use mathlib.Core.Path.{refl}
use Rattle.numbers.specs.Answers.{◌>>=◌, ◌>>◌, refuse◌when◌else◌, further, given}
use Rattle.numbers.specs.Bytes.{at16, at24, at32}
use Rattle.sd_format.specs.Sequences.{all_from, each_from}
use Rattle.sd_format.specs.Strings.{key_of, judge_bytes, all_spaces, judge_key, judge_item, closed, items_from, read_string}
use Rattle.sd_format.specs.Kinds.{kinds, row_in, row_of, judge_length, may_carry, judge_protocol, judge_content, judge_kind}
use Rattle.sd_format.specs.Frames.{frame, one_option, placed_option, permitted, permit, all_options, read_options}
use Rattle.sd_format.specs.Fields.{items_of, fields_of, fields}
use Rattle.sd_format.specs.Entries.{head, group, by_type, read_entry, inside, judge_run, judge_runs, placed_entry, read_entries}
use Rattle.sd_format.specs.Payload.{sizes, entries_length, options_length, entries_part, options_part, read_payload, shown, handed_out}
use Rattle.sd_format.specs.Cases.{Cases}

pub cases : Cases
unfolding ◌>>=◌ ◌>>◌ refuse◌when◌else◌ further given at16 at24 at32 all_from each_from key_of judge_bytes all_spaces judge_key judge_item closed items_from read_string kinds row_in row_of judge_length may_carry judge_protocol judge_content judge_kind frame one_option placed_option permitted permit all_options read_options items_of fields_of fields head group by_type read_entry inside judge_run judge_runs placed_entry read_entries sizes entries_length options_length entries_part options_part read_payload shown handed_out
cases = (refl, (refl, (refl, (refl, (refl, (refl, (refl, (refl, (refl, (refl, (refl, (refl, tt))))))))))))
