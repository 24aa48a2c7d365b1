-- `reading::read_into` meets its contract: zeros after a refusal, and otherwise what the pass leaves over zeros. Assumes nothing.
use mathlib.Core.Path.{sym, ◌∙◌}
use native.Mathlib.Omega.{arith}
use Rattle.sd_option.specs.Settings.{settings_said}
use Rattle.sd_index.proofs.SlotLaws.{cleared_whole}
use Rattle.sd_index.proofs.IndexLaws.{long_told, long_left, swept_told, swept_left, swept_cleared}
use Rattle.sd_index.proofs.reading.read_into.Goals as goal

pub returns-then-options-gt-MAX_OPTIONS_LEN : goal.returns-then-options-gt-MAX_OPTIONS_LEN
returns-then-options-gt-MAX_OPTIONS_LEN c =
    let long = c.if-options-gt-MAX_OPTIONS_LEN.true in
    record {
      told = long_told (settings_said c.args.settings) c.args.options.now long;
      left = long_left (settings_said c.args.settings) c.args.options.now long _ (cleared_whole _ _ c.clear_slots.ensures (omega arith));
    }

pub returns-then-is_err : goal.returns-then-is_err
returns-then-is_err c =
    let short = c.if-options-gt-MAX_OPTIONS_LEN.false in
    let zero = cleared_whole _ _ c.clear_slots.ensures (omega arith) in
    record {
      told = swept_told (settings_said c.args.settings) _ _ _ short zero _ c.sweep-answer.ensures;
      left =
          swept_cleared (settings_said c.args.settings) _ _ _ short zero _ (sym c.is_err.ensures.value ∙ c.if-is_err.true) c.sweep-answer.ensures
          _ (cleared_whole _ _ c.clear_slots-then-is_err.ensures (omega arith));
    }

pub returns-else-is_err : goal.returns-else-is_err
returns-else-is_err c =
    let short = c.if-options-gt-MAX_OPTIONS_LEN.false in
    let zero = cleared_whole _ _ c.clear_slots.ensures (omega arith) in
    record {
      told = swept_told (settings_said c.args.settings) _ _ _ short zero _ c.sweep-answer.ensures;
      left = swept_left (settings_said c.args.settings) _ _ _ short zero _ (sym c.is_err.ensures.value ∙ c.if-is_err.false) c.sweep-answer.ensures;
    }
