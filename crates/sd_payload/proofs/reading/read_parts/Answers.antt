-- `reading::read_parts` meets its contract: the sizes, the options or the entries are refused, or all is read. Assumes nothing.
use mathlib.Core.Path.{sym}
use Rattle.sd_option.specs.Settings.{settings_said}
use Rattle.sd_payload.proofs.SizeLaws.{parts}
use Rattle.sd_payload.proofs.ReadLaws.{taken, sizes_refused, options_refused, entries_refused, entries_passed}
use Rattle.sd_payload.proofs.reading.read_parts.Goals as goal

pub returns-in_default : goal.returns-in_default
returns-in_default c =
    sizes_refused (settings_said c.args.settings) c.args.payload.now c.args.table.now c.requires c.refusal_of.result c.judge_sizes-sizes.ensures (taken c.in_default.is c.refusal_of.ensures)

pub returns-in_default-index : goal.returns-in_default-index
returns-in_default-index c =
    options_refused (settings_said c.args.settings) c.args.payload.now c.args.table.now c.requires _ (parts c.args.payload.now _ (sym c.in-Ok.ensures))
    _ _ c.read_options-index.ensures c.refusal_of-in_default-index.result (taken c.in_default-index.is c.refusal_of-in_default-index.ensures)

pub returns-in_default-verdict : goal.returns-in_default-verdict
returns-in_default-verdict c =
    entries_refused (settings_said c.args.settings) c.args.payload.now c.args.table.now c.requires _ (parts c.args.payload.now _ (sym c.in-Ok.ensures))
    _ _ c.read_options-index.ensures _ c.in-Ok-index.is _ c.judge_entries-verdict.ensures
    c.refusal_of-in_default-verdict.result (taken c.in_default-verdict.is c.refusal_of-in_default-verdict.ensures)

pub returns : goal.returns
returns c =
    entries_passed (settings_said c.args.settings) c.args.payload.now c.args.table.now c.requires _ (parts c.args.payload.now _ (sym c.in-Ok.ensures))
    _ _ c.read_options-index.ensures _ c.in-Ok-index.is _ c.judge_entries-verdict.ensures c.in-Ok-verdict.is _ c.flags_of.ensures
