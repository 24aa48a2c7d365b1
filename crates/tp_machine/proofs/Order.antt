-- The order of refusals holds of the definitions, by computation. Assumes nothing.
use mathlib.Core.Path.{refl}
use Rattle.numbers.specs.Bytes.{be16, be32, at16, at32}
use Rattle.numbers.specs.Answers.{refuse◌when◌else◌, given}
use Rattle.tp_machine.specs.Segments.{tp_type, is_segment, offset, more, payload, without_tp, header, pasted, written}
use Rattle.tp_machine.specs.Ranges.{any, touch, hull_of, keep, grow, inserted, joined, some_touch, greatest_end}
use Rattle.tp_machine.specs.Machine.{bad_range, bad_state, judged, after, step, begun, begin, fed}
use Rattle.tp_machine.specs.Taking.{complete, ready, taking}
use Rattle.tp_machine.specs.Telling.{first_from, range_told, count_told}
use Rattle.tp_machine.specs.Order.{Order}

pub order : Order
unfolding be16 be32 at16 at32 refuse◌when◌else◌ given tp_type is_segment offset more payload without_tp header pasted written any touch hull_of keep grow inserted joined some_touch greatest_end bad_range bad_state judged after step begun begin fed complete ready taking first_from range_told count_told
order = record {
  segment = record {
    38_before_30 = refl;
    30_before_31 = refl;
    31_before_32 = refl;
    32_before_33 = refl;
    33_before_34 = refl;
    33_before_33 = refl;
    33_of_data_before_34 = refl;
    34_before_35 = refl;
    35_before_39 = refl;
    39_last = refl;
  };
  taken = record { 38_before_37 = refl; 37_before_34 = refl; 34_last = refl };
  range = record { 38_before_20 = refl; 20_last = refl };
  begins = refl;
  count = refl;
}
