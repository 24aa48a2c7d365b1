-- What is promised of reading a payload into a lent table. Assumes nothing: these are definitions.
use Rattle.refusal.specs.declared.Refusal.{Refusal}
use Rattle.std.specs.Prelude.{ℕ, ◌≡◌, List, length, get_or, Result, Ok, Err}
use Rattle.numbers.specs.Answers.{Answer, given}
use Rattle.sd_format.specs.Frames.{lent, table_after}
use Rattle.sd_format.specs.Layout.{Flags}
use Rattle.sd_format.specs.Payload.{Reading, frames_of, flags}
use Rattle.refusal.specs.Said.{said_by}
use Rattle.sd_index.specs.Indexed.{cleared}
use Rattle.sd_payload.specs.declared.reading.SdHeaderFlags.{SdHeaderFlags}
use Rattle.sd_payload.specs.declared.reading.SdPayload.{SdPayload}

-- the flags in the code's form
abbrev pub flags_laid : Flags → SdHeaderFlags
flags_laid f = record { reboot = f.reboot; unicast = f.unicast; explicit_initial_data_control = f.initial_data_control }

-- what is told of a reading: its flags, and how many entries and options
abbrev pub summed : Reading → SdPayload
summed r = record { flags = flags_laid (flags (get_or r.opening 0 0)); entries = length r.entries; options = length r.frames }

abbrev pub payload_said : Result SdPayload Refusal → Answer SdPayload
payload_said = said_by (λ p. p)

-- a table that a reading left so, once it is cleared where the reading was refused
abbrev pub settled : Result SdPayload Refusal → List ℕ → List ℕ
settled (Ok p) left = left
settled (Err r) left = cleared left

-- what was read of the payload, and the lent table before and after
pub record PayloadRead (a : Answer Reading) (tab tab' : List ℕ) (r : Result SdPayload Refusal) : Type 0 where
  pub told : payload_said r ≡ given summed (lent tab a)
  pub slots : tab' ≡ table_after tab (frames_of a)
