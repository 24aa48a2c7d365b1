-- Whether an option may stand, by what the reading of one tells of it. Assumes nothing: these are definitions.
use Rattle.std.specs.Prelude.{Bool, true, not, ◌||◌}
use Rattle.numbers.specs.Refusals.{unknown_option}
use Rattle.numbers.specs.Answers.{Verdict, pass, refuse◌when◌else◌}
use Rattle.sd_format.specs.Settings.{Settings}
use Rattle.sd_format.specs.Kinds.{Kind, configuration, load_balancing, address, unknown, kind_of}
use Rattle.sd_option.specs.declared.reading.OptionHead.{OptionHead}

abbrev pub may : Settings → Kind → Bool → Bool
may g unknown discardable = g.discard || discardable
may g configuration discardable = true
may g load_balancing discardable = true
may g (address family role) discardable = true

unfoldable pub permit_told : Settings → OptionHead → Verdict
permit_told g h = refuse unknown_option h.code when not (may g (kind_of h.code) h.discardable) else pass
