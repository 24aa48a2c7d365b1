-- `payload::viaductle_parts` meets its contract. Assumes nothing.
use mathlib.Core.Path.{sym, ap, ◌∙◌}
use native.Mathlib.Omega.{arith}
use Rattle.refusal.specs.Said.{count_said}
use Rattle.sd_payload.proofs.SizeLaws.{parts}
use Rattle.hub.proofs.payload.viaductle_parts.Goals as goal

pub overflow_add-from : goal.overflow_add-from
overflow_add-from c = omega (arith, parts _ _ (sym c.judge_sizes.ensures ∙ ap count_said c.in-Ok.is))

pub overflow_sub-result : goal.overflow_sub-result
overflow_sub-result c = omega (arith, parts _ _ (sym c.judge_sizes.ensures ∙ ap count_said c.in-Ok.is))
