-- `permission::permission_of` meets its contract: a known kind may stand. Assumes nothing.
use Rattle.sd_option.specs.Settings.{settings_said}
use Rattle.sd_index.proofs.PermissionLaws.{known_may}
use Rattle.sd_index.proofs.permission.permission_of.Goals as goal

pub returns-in_default : goal.returns-in_default
returns-in_default c = known_may (settings_said c.args.settings) _ _ _ c.from.ensures c.in_default.not-Unknown
