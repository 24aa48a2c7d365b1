-- The marked case of joining holds of the definitions, by computation. Assumes nothing.
use mathlib.Core.Path.{refl}
use Rattle.numbers.specs.Bytes.{be16, be32, at16, at32}
use Rattle.numbers.specs.Answers.{refuse◌when◌else◌, given}
use Rattle.tp_machine.specs.Segments.{tp_type, is_segment, offset, more, payload, without_tp, header, pasted, written}
use Rattle.tp_machine.specs.Ranges.{any, touch, hull_of, keep, grow, inserted, joined, some_touch, greatest_end}
use Rattle.tp_machine.specs.Machine.{bad_range, bad_state, judged, after, step, begun, begin, fed}
use Rattle.tp_machine.specs.Taking.{complete, ready, taking}
use Rattle.tp_machine.specs.Cases.{Cases}

pub cases : Cases
unfolding be16 be32 at16 at32 refuse◌when◌else◌ given tp_type is_segment offset more payload without_tp header pasted written any touch hull_of keep grow inserted joined some_touch greatest_end bad_range bad_state judged after step begun begin fed complete ready taking
cases = (refl, tt)
