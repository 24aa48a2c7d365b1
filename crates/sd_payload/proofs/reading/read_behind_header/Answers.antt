-- `reading::read_behind_header` meets its contract: a refused header, or the payload behind it. Assumes nothing.
use mathlib.Core.Path.{refl, sym, ap, ◌∙◌, subst}
use Rattle.numbers.specs.Answers.{Answer}
use Rattle.numbers.proofs.ByteLaws.{take_rest}
use Rattle.sd_format.specs.Payload.{Reading, read_payload}
use Rattle.refusal.specs.Said.{verdict_said}
use Rattle.sd_option.specs.Settings.{settings_said}
use Rattle.sd_payload.specs.Reads.{settled, PayloadRead}
use Rattle.sd_payload.proofs.HeaderLaws.{header_refuses, header_passes}
use Rattle.sd_payload.proofs.ReadLaws.{taken, read_refused}
use Rattle.sd_payload.proofs.reading.read_behind_header.Goals as goal

pub returns-in_default : goal.returns-in_default
returns-in_default c =
    let refuses = sym c.judge_header-verdict.ensures ∙ ap verdict_said (taken c.in_default.is c.refusal_of.ensures) in
    read_refused _ c.args.table.now c.requires c.refusal_of.result c.args.table.now (header_refuses (settings_said c.args.settings) c.args.message.now _ refuses) refl

pub returns : goal.returns
returns c =
    subst (λ (a : Answer Reading). PayloadRead a c.args.table.now (settled c.read_parts.result c.read_parts.new.table) c.read_parts.result)
    (ap (read_payload (settings_said c.args.settings)) (take_rest c.args.message.now 16) ∙ sym (header_passes (settings_said c.args.settings) c.args.message.now (sym c.in-Ok.ensures)))
    c.read_parts.ensures
