-- What the answers of the reading of one option say, in the words of the definitions. Assumes nothing: these are definitions.
use Rattle.std.specs.Prelude.{ℕ, ◌-◌, ◌≡◌, Bool, false, not, ◌&&◌, cond, List, [], length, take, drop, ltb, Result}
use Rattle.numbers.specs.Refusals.{wrong_protocol}
use Rattle.numbers.specs.Answers.{Answer, Verdict, pass, ◌>>◌, refuse◌when◌else◌, further}
use Rattle.sd_format.specs.Settings.{Settings}
use Rattle.sd_format.specs.Kinds.{Kind, configuration, load_balancing, address, unknown, string_alone, judge_protocol, judge_content, unscanned}
use Rattle.sd_format.specs.Frames.{Frame, size}
use Rattle.sd_format.specs.Fields.{discardable}
use Rattle.refusal.specs.Said.{said_by}
use Rattle.refusal.specs.declared.Refusal.{Refusal}
use Rattle.sd_option.specs.declared.reading.OptionHead.{OptionHead}
use Rattle.sd_option.specs.Kinds.{taken}

-- what is told of an option: its type, the discardable bit, the bytes that it takes
abbrev pub head_of : Frame → OptionHead
head_of f = record { code = f.type; discardable = discardable f.body; size = size f }

abbrev pub option_said : Result OptionHead Refusal → Answer OptionHead
option_said = said_by (λ h. h)

-- the bytes after the type, and how many they are
abbrev pub body_of : Frame → List ℕ
body_of f = f.body

abbrev pub body_length : Frame → ℕ
body_length f = length f.body

-- the bytes after the type of an option that takes `n` bytes; none where they are not all there
abbrev pub behind_type : List ℕ → ℕ → List ℕ
behind_type s n = cond (ltb (length s) n) [] (take (n - 3) (drop 3 s))

-- ---- what a kind holds, judged in two halves

-- the protocol at a place, of an option of this type, where it has one
abbrev pub carried : Settings → (present : Bool) → (code protocol place : ℕ) → Verdict
carried g present code protocol place = refuse wrong_protocol protocol place when present && (g.strict && not (taken code protocol)) else pass

-- with the kind's length, the protocol beside an address
abbrev pub protocol_verdict : Settings → Kind → List ℕ → Verdict
protocol_verdict g configuration body = pass
protocol_verdict g load_balancing body = pass
protocol_verdict g (address family role) body = judge_protocol g.strict family role body
protocol_verdict g unknown body = pass

-- and then a configuration option's string, as it is alone
abbrev pub string_verdict : Kind → List ℕ → Verdict
string_verdict configuration body = string_alone (drop 1 body)
string_verdict load_balancing body = pass
string_verdict (address family role) body = pass
string_verdict unknown body = pass

-- together they are what the reading judges, the string's first byte being the option's fifth; and the first half with the setting off is what
-- lookup judges. proofs/ReadingLaws.antt proves it.
pub record Halves (g : Settings) (k : Kind) (body : List ℕ) : Type 0 where
  pub both : judge_content g k body ≡ (protocol_verdict g k body >> further 4 (string_verdict k body))
  pub first : g.strict ≡ false → protocol_verdict g k body ≡ unscanned k body
