-- `tp::viaductle_take` meets its contract. Assumes nothing.
use native.Mathlib.Omega.{arith}
use Rattle.hub.proofs.TpLaws.{taken_low, takes}
use Rattle.hub.proofs.tp.viaductle_take.Goals as goal

pub overflow_add-end : goal.overflow_add-end
overflow_add-end c = omega (arith, taken_low c.args.words.now c.args.buffer.now _ _ c.take.ensures _ c.in-Ok.is)

pub returns-in-Ok : goal.returns-in-Ok
returns-in-Ok c = takes c.args.words.now c.args.buffer.now _ _ c.take.ensures _ (rw c.in-Ok.is c.accepted.ensures)
