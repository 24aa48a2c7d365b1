-- The places that refusals tell, by computation, in literal numbers: each error of a string, each cause of 7, 8 and 10, at the first option and
-- behind another one; and what each call counts from. Assumes nothing: these are definitions.
use Rattle.std.specs.Prelude.{ℕ, List, [], ◌∷◌, ◌++◌}
use Rattle.numbers.specs.Answers.{◌gives◌with◌}
use Rattle.sd_format.specs.Strings.{read_string}
use Rattle.sd_format.specs.Frames.{read_option, read_options, read_index, next_option}
use Rattle.sd_format.specs.Order.{plain, payload, message, header, kept, no_length, entry, entries_and_options}

-- an unknown option of four bytes that may stand
abbrev pub before : List ℕ → List ℕ
before s = 0x00 ∷ 0x01 ∷ 0x77 ∷ 0x80 ∷ s

-- options that are refused by this number with these values: at this place, and behind four bytes at the later one
abbrev pub RefusedAt : List ℕ → ℕ → List ℕ → (first later : ℕ) → Type 0
RefusedAt s n vs first later = (read_options plain s gives n with (vs ++ (first ∷ []))) × (read_options plain (before s) gives n with (vs ++ (later ∷ [])))

-- a configuration option with bytes behind its terminator
abbrev pub trailing : List ℕ
trailing = 0x00 ∷ 0x05 ∷ 0x01 ∷ 0x00 ∷ 0x01 ∷ 0x41 ∷ 0x00 ∷ 0x00 ∷ []

pub record PlacesTold : Type 0 where
  -- 9: the string's end, where there is no terminator; the item's length byte; the terminator
  pub empty_string : RefusedAt (0x00 ∷ 0x01 ∷ 0x01 ∷ 0x00 ∷ []) 9 (1 ∷ []) 4 8
  pub missing_terminator : RefusedAt (0x00 ∷ 0x03 ∷ 0x01 ∷ 0x00 ∷ 0x01 ∷ 0x41 ∷ []) 9 (1 ∷ []) 6 10
  pub item_too_long : RefusedAt (0x00 ∷ 0x06 ∷ 0x01 ∷ 0x00 ∷ 0x01 ∷ 0x41 ∷ 0x05 ∷ 0x42 ∷ 0x00 ∷ []) 9 (2 ∷ 2 ∷ 5 ∷ 2 ∷ []) 6 10
  pub trailing_data : RefusedAt trailing 9 (3 ∷ 2 ∷ []) 6 10
  pub empty_key : RefusedAt (0x00 ∷ 0x06 ∷ 0x01 ∷ 0x00 ∷ 0x01 ∷ 0x41 ∷ 0x01 ∷ 0x3d ∷ 0x00 ∷ []) 9 (4 ∷ 2 ∷ []) 6 10
  pub invalid_key_byte : RefusedAt (0x00 ∷ 0x07 ∷ 0x01 ∷ 0x00 ∷ 0x01 ∷ 0x41 ∷ 0x02 ∷ 0x41 ∷ 0xff ∷ 0x00 ∷ []) 9 (5 ∷ 2 ∷ 1 ∷ 255 ∷ []) 6 10
  pub only_whitespace : RefusedAt (0x00 ∷ 0x06 ∷ 0x01 ∷ 0x00 ∷ 0x01 ∷ 0x41 ∷ 0x01 ∷ 0x20 ∷ 0x00 ∷ []) 9 (6 ∷ 2 ∷ []) 6 10
  -- 7 and 8: the option's first byte
  pub below_three : RefusedAt (0x00 ∷ 0x01 ∷ []) 7 (3 ∷ 2 ∷ 0 ∷ []) 0 4
  pub whole_length : RefusedAt (0x00 ∷ 0x05 ∷ 0x77 ∷ 0x00 ∷ []) 7 (8 ∷ 4 ∷ 0 ∷ []) 0 4
  pub kind_length : RefusedAt (0x00 ∷ 0x01 ∷ 0x04 ∷ 0x00 ∷ []) 7 (9 ∷ 1 ∷ 1 ∷ []) 0 4
  pub zero_length : RefusedAt no_length 8 [] 0 4
  -- 10: the byte with the discardable bit, of the first that may not stand; a later 8 comes before it
  pub unknown : RefusedAt (kept 0x78) 10 (0x78 ∷ []) 3 7
  pub first_unknown : RefusedAt (before (kept 0x78 ++ kept 0x79)) 10 (0x78 ∷ []) 7 11
  pub later_8 : RefusedAt (kept 0x78 ++ no_length) 8 [] 4 8
  -- among all options and in the index counted from the first of them, alone from its own first byte; in the string alone from the string's
  pub index : read_index plain (before trailing) gives 9 with (3 ∷ 2 ∷ 10 ∷ [])
  pub cursor : next_option plain (before trailing) 4 gives 9 with (3 ∷ 2 ∷ 6 ∷ [])
  pub alone : read_option plain trailing gives 9 with (3 ∷ 2 ∷ 6 ∷ [])
  pub string : read_string (0x01 ∷ 0x41 ∷ 0x00 ∷ 0x00 ∷ []) gives 9 with (3 ∷ 2 ∷ 2 ∷ [])
  -- neither the entries nor the header in front of the options are counted
  pub in_payload : payload (entries_and_options 16 (entry 0x00 0x00) 12 (before trailing)) gives 9 with (3 ∷ 2 ∷ 10 ∷ [])
  pub in_message : message (header 0xffff8100 0 1 1 0x02 0 ++ entries_and_options 16 (entry 0x00 0x00) 8 (before (kept 0x78))) gives 10 with (0x78 ∷ 7 ∷ [])
