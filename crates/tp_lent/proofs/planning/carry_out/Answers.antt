-- `tp_lent::planning::carry_out` meets its contract. Assumes nothing.
use Rattle.std.specs.Prelude.{Option, Some, ℕ}
use mathlib.Core.Path.{ap, ◌∙◌}
use mathlib.Core.Bool.{cond}
use native.Mathlib.Omega.{arith}
use Rattle.tp_lent.proofs.PlanLaws.{places, carried}
use Rattle.tp_lent.proofs.planning.carry_out.Goals as goal

pub grown_by-grown-requires : goal.grown_by-grown-requires
grown_by-grown-requires c =
    let p = places c.args.words.now c.args.seg.now c.args.buf.now c.args.plan c.requires in
    (p.0, omega arith)

pub place-requires : goal.place-requires
place-requires c =
    let p = places c.args.words.now c.args.seg.now c.args.buf.now c.args.plan c.requires in
    (p.0, p.1, p.2, c.requires.room_left)

pub overflow_add-found : goal.overflow_add-found
overflow_add-found c =
    let p = places c.args.words.now c.args.seg.now c.args.buf.now c.args.plan c.requires in
    omega arith

pub overflow_sub-count : goal.overflow_sub-count
overflow_sub-count c = (places c.args.words.now c.args.seg.now c.args.buf.now c.args.plan c.requires).1

pub overflow_add-found-2 : goal.overflow_add-found-2
overflow_add-found-2 c =
    let p = places c.args.words.now c.args.seg.now c.args.buf.now c.args.plan c.requires in
    omega arith

pub overflow_cast-found : goal.overflow_cast-found
overflow_cast-found c =
    let p = places c.args.words.now c.args.seg.now c.args.buf.now c.args.plan c.requires in
    omega arith

pub returns : goal.returns
returns c =
    carried c.args.words.now c.args.seg.now c.args.buf.now c.args.plan c.requires c.grown_by-grown.result c.grown_by-grown.ensures c.end_after-end.result
    (c.end_after-end.ensures ∙ ap (λ (e : (Option ℕ)). cond c.args.plan.more e (Some c.args.plan.new.end)) c.end_of-before.ensures)
    _ _ c.place.ensures c.put_front.ensures _ c.write.ensures
