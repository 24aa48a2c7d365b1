-- The code's settings in the words of the definitions. Assumes nothing: these are definitions.
use Rattle.sd_format.specs.Settings as format
use Rattle.sd_option.specs.declared.Settings.{Settings}

abbrev pub settings_said : Settings → format.Settings
settings_said g = record { discard = g.discard_unknown_option; strict = g.strict }
