-- `payload::viaductle_read_message` meets its contract. Assumes nothing.
use mathlib.Core.Path.{ap}
use native.Mathlib.Omega.{arith}
use Rattle.std.proofs.lemmas.Grind.{common_steps}
use Rattle.sd_format.specs.Settings.{Settings}
use Rattle.sd_format.specs.Payload.{read_message}
use Rattle.hub.proofs.ToldLaws.{reads_as}
use Rattle.hub.proofs.payload.viaductle_read_message.Goals as goal

pub returns : goal.returns
returns c =
    reads_as (ap (λ (g : Settings). read_message g c.args.message.now) c.settings_of.ensures) _ _ _ _ c.read_message.ensures (grind (arith, common_steps))
