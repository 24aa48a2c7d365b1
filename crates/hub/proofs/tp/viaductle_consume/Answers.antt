-- `tp::viaductle_consume` meets its contract. Assumes nothing.
use native.Mathlib.Omega.{arith}
use Rattle.std.proofs.lemmas.Grind.{common_steps}
use Rattle.hub.proofs.TpLaws.{consumes}
use Rattle.hub.proofs.tp.viaductle_consume.Goals as goal

pub returns : goal.returns
returns c = consumes c.args.words.now c.args.segment.now c.args.buffer.now _ _ _ c.consume.ensures _ (grind (arith, common_steps))
