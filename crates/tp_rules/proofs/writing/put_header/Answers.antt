-- `tp_rules::writing::put_header` meets its contract: the copy, and then byte 14. Assumes nothing.
use mathlib.Core.Path.{◌∙◌}
use native.Mathlib.Omega.{arith}
use lib.ListN.{get_or, set}
use Rattle.tp_machine.specs.Segments.{header, without_tp}
use Rattle.tp_rules.proofs.WritingLaws.{type_pasted}
use Rattle.tp_rules.proofs.writing.put_header.Goals as goal

pub returns : goal.returns
unfolding header
returns c =
    (λ i. set (c.put.ensures i) 14 (c.without_tp.ensures i)) ∙ type_pasted c.args.buf.now c.args.seg.now (without_tp (get_or c.args.seg.now 14 0)) (omega arith)
