-- `reading::read_option_unscanned` meets its contract: the frame's refusal, the length's, the protocol's, or the head of what stands in front.
-- Assumes nothing.
use Rattle.std.proofs.Common.{rules}
use Rattle.sd_option.specs.Settings.{settings_said}
use Rattle.sd_option.proofs.ReadingLaws.{frame_first, length_first, protocol_refused, head_told}
use Rattle.sd_option.proofs.reading.read_option_unscanned.Goals as goal

pub returns-in_err-length : goal.returns-in_err-length
returns-in_err-length c = let h = frame_first (settings_said c.args.settings) c.args.s.now c.in_err-length.ensures.said in search rules

pub returns-in_err-judged_length : goal.returns-in_err-judged_length
returns-in_err-judged_length c =
    let h = length_first (settings_said c.args.settings) c.args.s.now c.in_ok-length.ensures.said c.row_of-row.ensures c.in_err-judged_length.ensures in
    search rules

pub returns-in_err-judged_protocol : goal.returns-in_err-judged_protocol
returns-in_err-judged_protocol c =
    let h =
    protocol_refused (settings_said c.args.settings) c.args.s.now c.in_ok-length.ensures.said c.row_of-row.ensures c.in_ok-judged_length.ensures
    c.in_err-judged_protocol.ensures in
    search rules

pub returns : goal.returns
returns c =
    head_told (settings_said c.args.settings) c.args.s.now c.in_ok-length.ensures.said c.row_of-row.ensures c.in_ok-judged_length.ensures
    c.in_ok-judged_protocol.ensures c.is_discardable.ensures
