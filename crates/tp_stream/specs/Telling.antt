-- The answer that is a range, and the range in hand while they are looked through. Assumes nothing: these are definitions.
use Rattle.std.specs.Prelude.{ℕ, cond, Option, Some, None, Result}
use Rattle.refusal.specs.declared.Refusal.{Refusal}
use Rattle.numbers.specs.Refusals.{nothing_there}
use Rattle.numbers.specs.Answers.{Answer, accepted, refused}
use Rattle.refusal.specs.Said.{said_by}
use Rattle.tp_machine.specs.declared.TpRange.{TpRange}
use Rattle.tp_machine.specs.Telling.{nearer}

abbrev pub range_said : Result TpRange Refusal → Answer TpRange
range_said = said_by (λ r. r)

-- one was found, or none yet
abbrev pub in_hand : Option TpRange → Answer TpRange
in_hand (Some r) = accepted r
in_hand None = refused nothing_there

-- the range in hand once r was looked at too
abbrev pub nearest : ℕ → Option TpRange → TpRange → Option TpRange
nearest x first r = cond (nearer x r (in_hand first)) (Some r) first
