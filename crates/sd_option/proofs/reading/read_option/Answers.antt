-- `reading::read_option` meets its contract: the reading without the string, and then the string. Assumes nothing.
use native.Mathlib.Omega.{arith}
use Rattle.std.proofs.Common.{rules}
use Rattle.std.proofs.lemmas.Result.{MatchResult-weaker}
use Rattle.sd_option.specs.Settings.{settings_said}
use Rattle.sd_option.proofs.ReadingLaws.{string_moved, string_clean}
use Rattle.sd_option.proofs.reading.read_option.Goals as goal

pub returns-in_err-map_err : goal.returns-in_err-map_err
returns-in_err-map_err c =
    let h =
    string_moved (settings_said c.args.settings) c.args.s.now c.in_ok-head.ensures (omega (arith, c)) c.scan.result c.in_err-map_err.field-0.0 c.scan.ensures
    (MatchResult-weaker c.scan.result c.in_err-map_err.ensures.cases (λ u never. never) (λ refusal made. search rules)) in
    search rules

pub returns : goal.returns
returns c = string_clean (settings_said c.args.settings) c.args.s.now c.in_ok-head.ensures (omega (arith, c)) c.scan.result c.scan.ensures c.in_ok-map_err.ensures.cases
