-- The settings that a word's bits tell. Assumes nothing: these are definitions.
use Rattle.std.specs.Prelude.{ℕ, ◌/◌, ◌%◌, ◌≡◌, true, ◌↔◌}
use Rattle.sd_format.specs.Settings.{Settings}
use Rattle.sd_format.specs.Options.{has}

-- 0x1 to discard, 0x2 to be strict
abbrev pub settings_of : ℕ → Settings
settings_of word = record { discard = has word 0x1; strict = has word 0x2 }

-- each is on exactly where its bit is set: the lowest, and the one above it
pub record ByBits (word : ℕ) : Type 0 where
  pub discards : ((settings_of word).discard ≡ true) ↔ (word % 2 ≡ 1)
  pub is_strict : ((settings_of word).strict ≡ true) ↔ (word / 2 % 2 ≡ 1)
