-- `payload::viaductle_read` meets its contract. Assumes nothing.
use mathlib.Core.Path.{ap}
use native.Mathlib.Omega.{arith}
use Rattle.std.proofs.lemmas.Grind.{common_steps}
use Rattle.sd_format.specs.Settings.{Settings}
use Rattle.sd_format.specs.Payload.{read_payload}
use Rattle.hub.proofs.ToldLaws.{reads_as}
use Rattle.hub.proofs.payload.viaductle_read.Goals as goal

pub returns : goal.returns
returns c =
    reads_as (ap (λ (g : Settings). read_payload g c.args.payload.now) c.settings_of.ensures) _ _ _ _ c.read_payload.ensures (grind (arith, common_steps))
