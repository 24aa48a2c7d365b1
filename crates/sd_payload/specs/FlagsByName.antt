-- The flags by the names that the code has for them, at the bits that the rules give them in byte 0, and the statements that a payload's
-- flags lie there and that every byte's three high bits come back. Written beside `flags_laid` and not by it: names that are swapped in
-- `flags_laid` and in the code together are refused here. proofs/FlagsByName.antt proves them. Assumes nothing: these are definitions.
use Rattle.std.specs.Prelude.{ℕ, ◌+◌, ◌*◌, ◌/◌, ◌<◌, ◌≡◌, cond, ◌∷◌}
use Rattle.numbers.specs.Bytes.{be24}
use Rattle.sd_format.specs.Layout.{Flags, lay_opening}
use Rattle.sd_format.specs.Payload.{flags}
use Rattle.sd_payload.specs.declared.reading.SdHeaderFlags.{SdHeaderFlags}
use Rattle.sd_payload.specs.Reads.{flags_laid}

-- reboot 0x80, unicast 0x40, explicit initial data control 0x20
abbrev pub flags_by_name : SdHeaderFlags → ℕ
flags_by_name f = cond f.reboot 0x80 0 + cond f.unicast 0x40 0 + cond f.explicit_initial_data_control 0x20 0

pub record FlagsByName : Type 0 where
  -- with the five other bits of byte 0 and the three bytes behind it they are the opening of the payload
  pub laid : (f : Flags) (spare reserved : ℕ) → (flags_by_name (flags_laid f) + spare) ∷ be24 reserved ≡ lay_opening f spare reserved
  -- as byte 0 has them
  pub as_sent : (b : ℕ) → b < 256 → flags_by_name (flags_laid (flags b)) ≡ b / 32 * 32
