-- `tp_stream::accept` meets its contract. Assumes nothing.
use Rattle.std.proofs.lemmas.Result.{err_from_is_err_and}
use Prim.Native.Nat.{◌≤◌, ◌<◌}
use mathlib.Core.Path.{◌≡◌, ap, ◌∙◌}
use native.Mathlib.Omega.{arith}
use lib.ListN.{length}
use Rattle.refusal.specs.declared.Refusal.TheVariants.{RangesFull}
use Rattle.tp_machine.specs.Machine.{most, last_number}
use Rattle.tp_segment.specs.declared.TpHeader.{TpHeader}
use Rattle.tp_rules.specs.Writing.{written_at}
use Rattle.tp_rules.proofs.WritingLaws.{written_fits}
use Rattle.tp_stream.proofs.StreamLaws.{length_of_map}
use Rattle.tp_stream.proofs.StepLaws.{ran_refused, ran_full, ran_counted_out, ran_taken}
use borrow.Author.Rules.{rules}
use Rattle.tp_stream.proofs.accept.Goals as goal

pub returns-in_err-header : goal.returns-in_err-header
returns-in_err-header c =
    let p = err_from_is_err_and c.from_residual.result c.from_residual.ensures.1 in
    rw (p.1, p.2) (ran_refused _ _ _ _ c.in_err-header.ensures)

-- the length of the stream's array, and then each test's answer
pub returns-in_err-joined : goal.returns-in_err-joined
returns-in_err-joined c =
    let s = c.args.s in
    let long : length s.ranges ≡ most = search (rules, length_of_map) in
    let told : c.in_err-joined.field-0.0 ≡ RangesFull = grind (arith, c.in_err-joined.ensures.value, c.in_err-joined.ensures.ok_part) in
    let p = err_from_is_err_and c.from_residual-in_err-joined.result c.from_residual-in_err-joined.ensures.1 in
    rw (p.1, p.2, told) (ran_full s _ _ _ c.in_ok-header.ensures long _ c.saturating_add.ensures _ c.join.ensures c.in_err-joined.ensures.ok_part)

pub returns-then-s : goal.returns-then-s
returns-then-s c =
    let s = c.args.s in
    let long : length s.ranges ≡ most = search (rules, length_of_map) in
    ran_counted_out s _ _ _ c.in_ok-header.ensures long _ c.saturating_add.ensures _ c.join.ensures _ c.in_ok-joined.ensures.ok_part c.if-s.true

-- the count is a 32-bit number
pub returns : goal.returns
returns c =
    let s = c.args.s in
    let passed = c.in_ok-header.ensures in
    let long : length s.ranges ≡ most = search (rules, length_of_map) in
    let where-said = ap (λ (h : TpHeader). written_at c.args.buf.now h.offset c.args.seg.now) passed.header in
    let low : s.accepted ≤ last_number = search rules in
    let left : s.accepted < last_number = omega (arith, low, c.if-s.false) in
    ran_taken s _ _ _ passed long _ c.saturating_add.ensures _ c.join.ensures _ c.in_ok-joined.ensures.ok_part left
    _ c.end_after.ensures _ (c.write.ensures ∙ where-said ∙ written_fits c.args.buf.now c.args.seg.now passed.long passed.fits)
