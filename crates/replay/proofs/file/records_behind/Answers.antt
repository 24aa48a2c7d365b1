-- `replay::file::records_behind` meets its contract: the name came, and behind it the number. Assumes nothing.
use mathlib.Core.Path.{◌≡◌, sym, ◌∙◌, subst}
use native.Mathlib.Omega.{arith}
use lib.ListN.{take}
use lib.Seq.{take_all}
use Rattle.std.specs.Io.KnownBytes.{Consumes}
use Rattle.std.proofs.KnownBytes.{Consumes-trans}
use Rattle.replay.proofs.Laws.{named}
use Rattle.replay.proofs.file.records_behind.Goals as goal

pub returns : goal.returns
returns g c =
    let name : take c.fill.result c.fill.new.buf ≡ c.args.name = take_all _ _ (omega arith) ∙ named _ _ (sym c.ne.ensures ∙ c.if-ne.false) in
    (take c.fill-came.result c.fill-came.new.buf, Consumes-trans _ _ _ _ _ (subst (Consumes _ _) name c.fill.ensures.bytes) c.fill-came.ensures.bytes, c.number.ensures)
