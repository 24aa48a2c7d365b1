-- The parts of a payload that was read: a refusal hands back an empty part, and so do bytes whose sizes are refused.
-- Assumes nothing: these are definitions.
use Rattle.refusal.specs.declared.Refusal.{Refusal}
use Rattle.sd_payload.specs.declared.reading.SdPayload.{SdPayload}
use Rattle.std.specs.Prelude.{ℕ, List, Result, Ok, Err}
use Rattle.numbers.specs.Answers.{Answer, refused, given, part}
use Rattle.refusal.specs.Said.{said}
use Rattle.sd_payload.specs.Sized.{sized}

-- the sizes, after an answer of the reading
abbrev pub settled : Result SdPayload Refusal → List ℕ → Answer ℕ
settled (Ok p) s = sized s
settled (Err r) s = refused (said r)

-- these bytes, where the sizes stand
abbrev pub handed : Result SdPayload Refusal → List ℕ → List ℕ → List ℕ
handed answer s bytes = part (given (λ n. bytes) (settled answer s))
