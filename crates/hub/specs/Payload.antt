-- What is promised of a whole payload, and of its parts. Assumes nothing: these are definitions.
use Rattle.std.specs.Prelude.{ℕ, ◌+◌, ◌≡◌, cond, List, [], ◌∷◌, length, eqb}
use Rattle.numbers.specs.Answers.{given}
use Rattle.numbers.specs.Answers as paper
use Rattle.sd_format.specs.Frames.{lent, table_after}
use Rattle.sd_format.specs.Payload.{Reading, frames_of, entries_length, entries_part, options_part}
use Rattle.sd_payload.specs.declared.reading.SdHeaderFlags.{SdHeaderFlags}
use Rattle.sd_payload.specs.declared.reading.SdPayload.{SdPayload}
use Rattle.sd_payload.specs.Sized.{sized}
use Rattle.sd_payload.specs.Reads.{summed}
use Rattle.hub.specs.declared.answers.Answer.{Answer}
use Rattle.hub.specs.declared.payload.Places.{Places}
use Rattle.hub.specs.Answers.{told}

-- the three flags where byte 0 has them
abbrev pub flag_bits : SdHeaderFlags → ℕ
flag_bits f = cond f.reboot 0x80 0 + cond f.unicast 0x40 0 + cond f.explicit_initial_data_control 0x20 0

-- the flags, how many entries, and how many options
abbrev pub summary_values : SdPayload → List ℕ
summary_values p = flag_bits p.flags ∷ p.entries ∷ p.options ∷ []

-- what was read, and the lent table before and after
pub record Reads (a : paper.Answer Reading) (tab : List ℕ) (r : Answer) (tab' : List ℕ) : Type 0 where
  pub answers : r ≡ told summary_values (given summed (lent tab a))
  pub slots : tab' ≡ table_after tab (frames_of a)
  -- 0 is answered for what is accepted alone
  pub zero : r.number ≡ 0 → (rd : Reading) × (lent tab a ≡ paper.accepted rd)

-- ---- the parts

abbrev pub nowhere : Places
nowhere = record { entries_at = 0; entries_len = 0; options_at = 0; options_len = 0 }

-- where the entries part and the options part of the payload `s` start, and how long they are
abbrev pub places_of : List ℕ → Places
places_of s =
    record {
      entries_at = 8;
      entries_len = length (entries_part s);
      options_at = 12 + entries_length s;
      options_len = length (options_part s);
    }

-- the same once the sizes pass; nowhere where they are refused
abbrev pub placed : List ℕ → paper.Answer ℕ → Places
placed s (paper.accepted n) = places_of s
placed s (paper.refused r) = nowhere

-- the parts of `s` after an answer of this number: a refusal hands back empty parts
abbrev pub places_told : (number : ℕ) → List ℕ → Places
places_told number s = cond (eqb number 0) (placed s (sized s)) nowhere
