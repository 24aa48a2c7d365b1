-- `lookup::look_up` meets its contract: the option at the slot's offset, or none there. Assumes nothing.
use native.Mathlib.Omega.{arith}
use Rattle.sd_index.proofs.FoundLaws.{slot_fits, slot_misfits}
use Rattle.sd_index.proofs.lookup.look_up.Goals as goal

pub returns-in-Ok : goal.returns-in-Ok
returns-in-Ok c =
    let slot = c.in-Some.ensures.lookup in
    slot_fits c.args.options.now c.args.table.now c.args.count c.args.ordinal.0 (omega arith) (omega arith) slot.3.0 (slot.4 (omega arith) 0) c.option_at.ensures c.in-Ok.ensures

pub returns-in-Err : goal.returns-in-Err
returns-in-Err c =
    let slot = c.in-Some.ensures.lookup in
    slot_misfits c.args.options.now c.args.table.now c.args.count c.args.ordinal.0 (omega arith) (omega arith) slot.3.0 (slot.4 (omega arith) 0) c.option_at.ensures c.in-Err.ensures
