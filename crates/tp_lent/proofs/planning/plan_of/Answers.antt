-- `tp_lent::planning::plan_of` meets its contract. Assumes nothing.
use Rattle.std.specs.Prelude.{Result, Ok, Err, Some}
use Rattle.std.specs.Result.{result_ok}
use Prim.Native.Nat.{ℕ, ◌+◌, ◌≤◌, ◌<◌}
use mathlib.Core.Path.{◌≡◌, sym, ap, subst, ◌∙◌}
use mathlib.Core.Bool.{true}
use mathlib.Core.List.{List}
use mathlib.Core.Logic.{◌⊎◌}
use native.Mathlib.Omega.{arith}
use lib.ListN.{get_or}
use Rattle.refusal.specs.declared.Refusal.{Refusal}
use Rattle.tp_machine.specs.declared.TpRange.{TpRange}
use Rattle.tp_machine.specs.Machine.{most, highest}
use Rattle.tp_machine.specs.Meaning.{range, range_of}
use Rattle.tp_machine.specs.Segments.{is_segment}
use Rattle.tp_segment.specs.declared.TpHeader.{TpHeader}
use Rattle.tp_segment.specs.Reading.{header_of, segment_said}
use Rattle.tp_segment.proofs.Laws.{reading_good}
use Rattle.tp_lent.specs.Lent.{Surveyed, Planned}
use Rattle.tp_lent.proofs.ReadyLaws.{low}
use Rattle.tp_lent.proofs.PlanLaws.{within, passed}
use Rattle.tp_lent.proofs.planning.plan_of.Goals as goal

-- what gave a header was one
was_ok : (r : Result TpHeader Refusal) (h : TpHeader) → result_ok r ≡ Some h → r ≡ Ok h
was_ok (Ok x) h e = cc
was_ok (Err q) h e = cc

-- a segment that passed ends within the limit
pub overflow_cast-new : goal.overflow_cast-new
overflow_cast-new c =
    let h = c.in_ok-header.header in
    let ends : h.offset + h.size ≤ get_or c.in_ok-stream.stream.words.now 0 0 = within _ _ _ h _ (c.passes.ensures c.if-not-passes.false) in
    let least : get_or c.in_ok-stream.stream.words.now 0 0 ≤ highest = low c.in_ok-stream.stream.words.now c.in_ok-stream.stream.ready in
    omega arith

pub overflow_add-new : goal.overflow_add-new
overflow_add-new c =
    let h = c.in_ok-header.header in
    let ends : h.offset + h.size ≤ get_or c.in_ok-stream.stream.words.now 0 0 = within _ _ _ h _ (c.passes.ensures c.if-not-passes.false) in
    let least : get_or c.in_ok-stream.stream.words.now 0 0 ≤ highest = low c.in_ok-stream.stream.words.now c.in_ok-stream.stream.ready in
    omega arith

pub returns : goal.returns
returns c =
    let s = c.in_ok-stream.stream.words.now in
    let h = c.in_ok-header.header in
    let read : c.read.result ≡ Ok h = was_ok c.read.result h (sym c.ok.ensures.value ∙ c.in_ok-header.was) in
    let i : (is_segment c.args.seg.now ≡ true) × (h ≡ header_of c.args.seg.now) = reading_good c.args.seg.now h (ap segment_said (sym read) ∙ c.read.ensures) in
    let number : c.in_ok-checked_add.field-0 ≡ get_or s 4 0 + 1 = c.in_ok-checked_add.ensures.1 ∙ ap (λ (n : ℕ). n + 1) c.accepted.ensures in
    let new : range h.offset (h.offset + h.size) c.in_ok-checked_add.field-0 ≡ range_of (get_or s 4 0 + 1) c.args.seg.now =
    ap (range h.offset (h.offset + h.size)) number ∙ ap (λ (x : TpHeader). range x.offset (x.offset + x.size) (get_or s 4 0 + 1)) i.1 in
    let found : Surveyed s (range_of (get_or s 4 0 + 1) c.args.seg.now) c.in_ok-found.found = subst (λ (r : TpRange). Surveyed s r c.in_ok-found.found) new c.in_ok-found.ensures in
    subst (λ (ws : List ℕ). Planned ws c.args.seg.now c.args.room (record { new = range h.offset (h.offset + h.size) c.in_ok-checked_add.field-0; more = h.more; found = c.in_ok-found.found })) c.in_ok-stream.ensures
    (record {
      ready = c.in_ok-stream.stream.ready;
      passed = passed s c.args.seg.now c.args.room c.in_ok-stream.stream.ready i.0 found.order h i.1 (c.passes.ensures c.if-not-passes.false);
      number_left = omega (arith, c.in_ok-checked_add.ensures.0, c.accepted.ensures);
      new = new;
      more_follows = ap (λ (x : TpHeader). x.more) i.1;
      found = found;
      room_left = subst (λ (n : ℕ). (c.in_ok-found.found.before < c.in_ok-found.found.behind) ⊎ (n < most)) c.count.ensures (c.room_left.ensures c.if-not-room_left.false);
    })
