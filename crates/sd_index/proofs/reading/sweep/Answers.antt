-- `reading::sweep` meets its contract. The invariant: the options read so far stand before those that are read later, and their offsets in front of
-- the slots. The measure is what is left of the bytes. Assumes nothing.
use mathlib.Core.Path.{refl, sym, ap, ◌∙◌}
use native.Mathlib.Omega.{arith}
use lib.ListN.{drop}
use Rattle.std.proofs.Common.{rules}
use Rattle.std.proofs.lemmas.Result.{MatchResult-weaker}
use Rattle.refusal.specs.Said.{verdict_said}
use Rattle.sd_format.specs.Kinds.{judge_content}
use Rattle.sd_option.specs.Settings.{settings_said}
use Rattle.sd_option.proofs.ReadingLaws.{Found}
use Rattle.sd_index.proofs.Turns.{turn_starts, head_read, whole_read, first_stops, string_stops, bad_stays, good_asks, good_stays, turn_goes, turn_within, turn_refuses, turn_ends}
use Rattle.sd_index.proofs.reading.sweep.Goals.{then-is_ok+in-Err, then-is_ok+in_default, else-is_ok}
use Rattle.sd_index.proofs.reading.sweep.Goals as goal

pub loop-at-init : goal.loop-at-init
loop-at-init c = turn_starts _ _ _

pub returns-in_err-head : goal.returns-in_err-head
returns-in_err-head c =
    let h =
    first_stops c.loop-at.invariant c.loop-at-test.true c.option_at-rest.ensures c.read_option_unscanned.result c.in_err-head.field-0.0 (omega arith) c.read_option_unscanned.ensures
    (MatchResult-weaker c.read_option_unscanned.result c.in_err-head.ensures.cases (λ u never. never) (λ refusal made. search rules)) in
    search rules

pub returns-in_err-map_err : goal.returns-in_err-map_err
returns-in_err-map_err c =
    let h =
    string_stops c.loop-at.invariant c.loop-at-test.true c.option_at-rest.ensures c.in_ok-head.head c.scan.result c.in_err-map_err.field-0.0 (omega arith)
    (head_read (settings_said c.args.settings) c.option_at-rest.ensures c.read_option_unscanned.result c.in_ok-head.head c.read_option_unscanned.ensures c.in_ok-head.ensures.cases) c.scan.ensures
    (MatchResult-weaker c.scan.result c.in_err-map_err.ensures.cases (λ u never. never) (λ refusal made. search rules)) in
    search rules

pub overflow_add-at : goal.overflow_add-at
overflow_add-at c =
    let t : Found (judge_content (settings_said c.args.settings)) (drop c.loop-at.at.0 c.args.options.now) c.in_ok-head.head =
    whole_read _ c.option_at-rest.ensures c.read_option_unscanned.result _ c.scan.result c.read_option_unscanned.ensures c.in_ok-head.ensures.cases c.scan.ensures c.in_ok-map_err.ensures.cases in
    omega (arith, turn_within c.loop-at.invariant c.loop-at-test.true _ t)

pub loop-at-smaller : goal.loop-at-smaller
loop-at-smaller c =
    let t : Found (judge_content (settings_said c.args.settings)) (drop c.loop-at.at.0 c.args.options.now) c.in_ok-head.head =
    whole_read _ c.option_at-rest.ensures c.read_option_unscanned.result _ c.scan.result c.read_option_unscanned.ensures c.in_ok-head.ensures.cases c.scan.ensures c.in_ok-map_err.ensures.cases in
    omega arith

-- one that may not stand, one that may, and one behind another that may not
pub loop-at-preserved : goal.loop-at-preserved
loop-at-preserved c =
    let t : Found (judge_content (settings_said c.args.settings)) (drop c.loop-at.at.0 c.args.options.now) c.in_ok-head.head =
    whole_read _ c.option_at-rest.ensures c.read_option_unscanned.result _ c.scan.result c.read_option_unscanned.ensures c.in_ok-head.ensures.cases c.scan.ensures c.in_ok-map_err.ensures.cases in
    let goes = turn_goes c.loop-at.invariant c.loop-at-test.true _ t (omega arith) _ refl (verdict_said c.if-is_ok.permission) in
    elim c.if-is_ok.branch [
      | then-is_ok+in-Err w ↦ goes (rw w.permission-is (good_asks c.loop-at.permission _ _ (sym c.is_ok.ensures.value ∙ w.if-is_ok.true) w.in-Err.ensures))
      | then-is_ok+in_default w ↦ goes (rw w.permission-is (good_stays c.loop-at.permission _ (sym c.is_ok.ensures.value ∙ w.if-is_ok.true) w.in_default.ensures))
      | else-is_ok w ↦ goes (rw w.permission-is (bad_stays c.loop-at.permission _ (sym c.is_ok.ensures.value ∙ w.if-is_ok.false)))
    ]

pub returns-in_err-permission : goal.returns-in_err-permission
returns-in_err-permission c =
    let h = turn_refuses c.loop-at.invariant c.loop-at-test.false _ (ap verdict_said c.in_err-permission.was) in
    search rules

pub returns : goal.returns
returns c = turn_ends c.loop-at.invariant c.loop-at-test.false (ap verdict_said c.in_ok-permission.was)
