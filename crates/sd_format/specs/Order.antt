-- The order of refusals, by computation: for each two that stand next to each other in a chain the smallest input that breaks both rules, and the
-- answer that is due, by its number and values. Where no input can break two neighbours, the comment says so, and the next that can be broken
-- together stands for them. Assumes nothing: these are definitions.
use Rattle.std.specs.Prelude.{ℕ, true, false, List, [], ◌∷◌, ◌++◌, take, replicate}
use Rattle.numbers.specs.Bytes.{be16, be32}
use Rattle.numbers.specs.Answers.{Answer, ◌gives◌with◌}
use Rattle.sd_format.specs.Settings.{Settings}
use Rattle.sd_format.specs.Strings.{read_string}
use Rattle.sd_format.specs.Frames.{read_option, read_options, lent, read_index, look_up, next_option, next_of_run}
use Rattle.sd_format.specs.Entries.{read_entry, next_entry}
use Rattle.sd_format.specs.Payload.{Reading, read_payload, read_message}

-- no setting is on, and the strict one alone is
abbrev pub plain : Settings
plain = record { discard = false; strict = false }

abbrev pub strictly : Settings
strictly = record { discard = false; strict = true }

abbrev pub payload : List ℕ → Answer Reading
payload = read_payload plain

abbrev pub message : List ℕ → Answer Reading
message = read_message plain

-- a lent table with one slot too few
abbrev pub short_table : List ℕ
short_table = replicate 346 0

-- ---- the sizes of a payload: 22, 1 below 12 bytes, 2, 3, 1 below 12 plus the entries length, 4, 5, 1, 6, then the options

-- the opening bytes and an entries length; and with no entries an options length
abbrev pub opened : (entries : ℕ) → List ℕ
opened entries = 0 ∷ 0 ∷ 0 ∷ 0 ∷ be32 entries

abbrev pub no_entries : (options : ℕ) → List ℕ
no_entries options = opened 0 ++ be32 options

pub record SizesInOrder : Type 0 where
  pub 22_before_1 : lent short_table (payload []) gives 22 with (346 ∷ [])
  pub 1_before_2 : payload (opened 1389) gives 1 with (12 ∷ [])
  pub 2_before_3 : payload (opened 1389 ++ be32 0) gives 2 with (1389 ∷ [])
  pub 3_before_1 : payload (opened 17 ++ be32 0) gives 3 with (17 ∷ [])
  -- 27 bytes, the last three of which begin an options length of 65,536
  pub 1_before_4 : payload (opened 16 ++ (replicate 16 0 ++ (0 ∷ 1 ∷ 0 ∷ []))) gives 1 with (28 ∷ [])
  pub 4_before_5 : payload (no_entries 1389) gives 4 with (1389 ∷ [])
  pub 5_before_1 : payload (opened 16 ++ (replicate 16 0 ++ be32 1373)) gives 5 with (1401 ∷ [])
  pub 1_before_6 : payload (no_entries 1) gives 1 with (13 ∷ [])
  -- one byte too many, which is no option
  pub 6_before_7 : payload (no_entries 0 ++ (0 ∷ [])) gives 6 with (12 ∷ 13 ∷ [])

-- ---- a message: 22, 1 with 16, 14, 15, 16, 17, 18, 19, then the payload

-- 16 header bytes: message id, length, client, session, protocol version, interface version, type, return code
abbrev pub header : (id client session interface type code : ℕ) → List ℕ
header id client session interface type code = be32 id ++ (be32 8 ++ (be16 client ++ (be16 session ++ (1 ∷ interface ∷ type ∷ code ∷ []))))

pub record MessageInOrder : Type 0 where
  pub 22_before_1 : lent short_table (message []) gives 22 with (346 ∷ [])
  pub 1_before_14 : message [] gives 1 with (16 ∷ [])
  pub 14_before_15 : message (header 0xffff8101 1 1 1 0x02 0) gives 14 with (0xffff8101 ∷ [])
  pub 15_before_16 : message (header 0xffff8100 1 0 1 0x02 0) gives 15 with (1 ∷ [])
  pub 16_before_17 : message (header 0xffff8100 0 0 2 0x02 0) gives 16 with []
  pub 17_before_18 : message (header 0xffff8100 0 1 2 0x03 0) gives 17 with (2 ∷ [])
  pub 18_before_19 : message (header 0xffff8100 0 1 1 0x03 1) gives 18 with (3 ∷ [])
  pub 19_before_payload : message (header 0xffff8100 0 1 1 0x02 1) gives 19 with (1 ∷ [])
  -- the payload's refusals count from its own start
  pub payload_last : message (header 0xffff8100 0 1 1 0x02 0) gives 1 with (12 ∷ [])

-- ---- one option: 7 below 3 bytes, 8, 7 for its whole length, then its kind: 7 with source 1, 9 or 23
-- A length of zero is never past the bytes, so 8 and the whole length break together only below 3 bytes; no kind has both 7 with source 1
-- and 9, and none both 9 and 23. The whole length comes before any of them.

-- an IPv4 option of this type with the protocol, and one that says a length of ten and has a byte more
abbrev pub ipv4_carrying : (type protocol : ℕ) → List ℕ
ipv4_carrying type protocol = 0x00 ∷ 0x09 ∷ type ∷ 0x00 ∷ 192 ∷ 168 ∷ 1 ∷ 1 ∷ 0x07 ∷ protocol ∷ 0x1f ∷ 0x90 ∷ []

abbrev pub of_ten : (type protocol : ℕ) → List ℕ
of_ten type protocol = 0x00 ∷ 0x0a ∷ type ∷ 0x00 ∷ 192 ∷ 168 ∷ 1 ∷ 1 ∷ 0x07 ∷ protocol ∷ 0x1f ∷ 0x90 ∷ 0x00 ∷ []

pub record OptionInOrder : Type 0 where
  pub 7_before_8 : read_option plain (0x00 ∷ 0x00 ∷ []) gives 7 with (3 ∷ 2 ∷ 0 ∷ 0 ∷ [])
  pub 7_before_whole_length : read_option plain (0x00 ∷ 0x01 ∷ []) gives 7 with (3 ∷ 2 ∷ 0 ∷ 0 ∷ [])
  pub 8_before_source_1 : read_option plain (0x00 ∷ 0x00 ∷ 0x02 ∷ []) gives 8 with (0 ∷ [])
  pub 8_before_9 : read_option plain (0x00 ∷ 0x00 ∷ 0x01 ∷ []) gives 8 with (0 ∷ [])
  pub whole_length_before_source_1 : read_option plain (0x00 ∷ 0x01 ∷ 0x02 ∷ []) gives 7 with (4 ∷ 3 ∷ 0 ∷ 0 ∷ [])
  pub whole_length_before_9 : read_option plain (0x00 ∷ 0x01 ∷ 0x01 ∷ []) gives 7 with (4 ∷ 3 ∷ 0 ∷ 0 ∷ [])
  -- each of the two alone
  pub source_1 : read_option plain (0x00 ∷ 0x01 ∷ 0x02 ∷ 0x00 ∷ []) gives 7 with (5 ∷ 1 ∷ 1 ∷ 0 ∷ [])
  pub 9_alone : read_option plain (0x00 ∷ 0x01 ∷ 0x01 ∷ 0x00 ∷ []) gives 9 with (1 ∷ 4 ∷ [])
  -- under the strict setting
  pub 8_before_23 : read_option strictly (0x00 ∷ 0x00 ∷ 0x04 ∷ []) gives 8 with (0 ∷ [])
  pub whole_length_before_23 : read_option strictly (take 11 (ipv4_carrying 0x04 0x99)) gives 7 with (12 ∷ 11 ∷ 0 ∷ 0 ∷ [])
  pub source_1_before_23 : read_option strictly (of_ten 0x04 0x99) gives 7 with (9 ∷ 10 ∷ 1 ∷ 0 ∷ [])

-- ---- one item of a configuration string: length (2), empty key (4), first bad key byte (5), all spaces (6); and its end: 1, 3
-- An empty key has no bad byte, and one of spaces has none; but an empty key has nothing but spaces.

pub record StringInOrder : Type 0 where
  pub 2_before_4 : read_string (0x02 ∷ 0x3d ∷ []) gives 9 with (2 ∷ 0 ∷ 2 ∷ 1 ∷ 0 ∷ [])
  pub 2_before_5 : read_string (0x02 ∷ 0xff ∷ []) gives 9 with (2 ∷ 0 ∷ 2 ∷ 1 ∷ 0 ∷ [])
  pub 2_before_6 : read_string (0x02 ∷ 0x20 ∷ []) gives 9 with (2 ∷ 0 ∷ 2 ∷ 1 ∷ 0 ∷ [])
  pub 4_before_6 : read_string (0x01 ∷ 0x3d ∷ 0x00 ∷ []) gives 9 with (4 ∷ 0 ∷ 0 ∷ [])
  -- the first of two bad bytes
  pub first_bad_byte : read_string (0x02 ∷ 0x1f ∷ 0x7f ∷ 0x00 ∷ []) gives 9 with (5 ∷ 0 ∷ 0 ∷ 0x1f ∷ 0 ∷ [])
  -- the first of two bad items, and a bad item before the string's end is looked at
  pub first_item : read_string (0x01 ∷ 0x3d ∷ 0x01 ∷ 0x20 ∷ 0x00 ∷ []) gives 9 with (4 ∷ 0 ∷ 0 ∷ [])
  pub item_before_1 : read_string (0x01 ∷ 0x3d ∷ []) gives 9 with (4 ∷ 0 ∷ 0 ∷ [])
  pub item_before_3 : read_string (0x01 ∷ 0x3d ∷ 0x00 ∷ 0x00 ∷ []) gives 9 with (4 ∷ 0 ∷ 0 ∷ [])
  -- what stands behind the terminator is not looked at
  pub 3_before_item : read_string (0x00 ∷ 0x01 ∷ 0x3d ∷ []) gives 9 with (3 ∷ 0 ∷ 0 ∷ [])

-- ---- all options, each before the next, and then 10

-- an unknown option that may not be discarded; a length of zero; a configuration string that has no terminator
abbrev pub kept : (type : ℕ) → List ℕ
kept type = 0x00 ∷ 0x01 ∷ type ∷ 0x00 ∷ []

abbrev pub no_length : List ℕ
no_length = 0x00 ∷ 0x00 ∷ 0x00 ∷ []

abbrev pub no_terminator : List ℕ
no_terminator = 0x00 ∷ 0x01 ∷ 0x01 ∷ 0x00 ∷ []

pub record OptionsInOrder : Type 0 where
  pub first_option : read_options plain (no_terminator ++ no_length) gives 9 with (1 ∷ 4 ∷ [])
  pub 8_before_10 : read_options plain (kept 0x77 ++ no_length) gives 8 with (4 ∷ [])
  pub 9_before_10 : read_options plain (kept 0x77 ++ no_terminator) gives 9 with (1 ∷ 8 ∷ [])
  pub first_unknown : read_options plain (kept 0x77 ++ kept 0x78) gives 10 with (0x77 ∷ 3 ∷ [])
  -- under the strict setting: before a later option's 7, 8 or 9, behind an earlier one's, and before 10
  pub 23_before_later_7 : read_options strictly (ipv4_carrying 0x04 0x99 ++ of_ten 0x04 0x06) gives 23 with (0x99 ∷ 9 ∷ [])
  pub 23_before_later_8 : read_options strictly (ipv4_carrying 0x04 0x99 ++ no_length) gives 23 with (0x99 ∷ 9 ∷ [])
  pub 23_before_later_9 : read_options strictly (ipv4_carrying 0x04 0x99 ++ no_terminator) gives 23 with (0x99 ∷ 9 ∷ [])
  pub 7_before_later_23 : read_options strictly (of_ten 0x04 0x06 ++ ipv4_carrying 0x04 0x99) gives 7 with (9 ∷ 10 ∷ 1 ∷ 0 ∷ [])
  pub 9_before_later_23 : read_options strictly (no_terminator ++ ipv4_carrying 0x04 0x99) gives 9 with (1 ∷ 4 ∷ [])
  pub first_protocol : read_options strictly (ipv4_carrying 0x14 0x06 ++ ipv4_carrying 0x04 0x99) gives 23 with (0x06 ∷ 9 ∷ [])
  pub 23_before_10 : read_options strictly (kept 0x77 ++ ipv4_carrying 0x04 0x99) gives 23 with (0x99 ∷ 13 ∷ [])

-- ---- the entries: options before them; 11, 12 for run 1, 12 for run 2; each entry before the next

-- an entry of this type with its count byte
abbrev pub entry : (type counts : ℕ) → List ℕ
entry type counts = type ∷ 0 ∷ 0 ∷ counts ∷ replicate 12 0

-- a payload of these entries and options, in bytes
abbrev pub entries_and_options : (n : ℕ) (entries : List ℕ) (m : ℕ) (options : List ℕ) → List ℕ
entries_and_options n entries m options = opened n ++ (entries ++ (be32 m ++ options))

pub record EntriesInOrder : Type 0 where
  pub 8_before_11 : payload (entries_and_options 16 (entry 0x02 0x00) 3 no_length) gives 8 with (0 ∷ [])
  pub 10_before_11 : payload (entries_and_options 16 (entry 0x02 0x00) 4 (kept 0x77)) gives 10 with (0x77 ∷ 3 ∷ [])
  pub 10_before_12 : payload (entries_and_options 16 (entry 0x00 0x20) 4 (kept 0x77)) gives 10 with (0x77 ∷ 3 ∷ [])
  pub 11_before_12 : payload (entries_and_options 16 (entry 0x02 0x10) 0 []) gives 11 with (0x02 ∷ [])
  pub run_1_before_run_2 : payload (entries_and_options 16 (entry 0x00 0x11) 0 []) gives 12 with (1 ∷ 0 ∷ 1 ∷ 0 ∷ [])
  pub first_entry : payload (entries_and_options 32 (entry 0x00 0x01 ++ entry 0x02 0x00) 0 []) gives 12 with (2 ∷ 0 ∷ 1 ∷ 0 ∷ [])
  -- under the strict setting
  pub 6_before_23 : read_payload strictly (no_entries 12 ++ (ipv4_carrying 0x04 0x99 ++ (0 ∷ []))) gives 6 with (24 ∷ 25 ∷ [])
  pub 23_before_11 : read_payload strictly (entries_and_options 16 (entry 0x02 0x00) 12 (ipv4_carrying 0x04 0x99)) gives 23 with (0x99 ∷ 9 ∷ [])
  pub 23_before_12 : read_payload strictly (entries_and_options 16 (entry 0x00 0x20) 12 (ipv4_carrying 0x04 0x99)) gives 23 with (0x99 ∷ 9 ∷ [])
  -- one entry alone
  pub 1_before_11 : read_entry (0x02 ∷ []) gives 1 with (16 ∷ [])

-- ---- the index alone: 22, 13, then the options

pub record IndexInOrder : Type 0 where
  pub 22_before_13 : lent short_table (read_index plain (replicate 1389 0)) gives 22 with (346 ∷ [])
  pub 13_before_8 : read_index plain (replicate 1389 0) gives 13 with (1389 ∷ [])
  pub 13_before_23 : read_index strictly (ipv4_carrying 0x04 0x99 ++ replicate 1377 0) gives 13 with (1389 ∷ [])

-- ---- lookup: 20, then 21 (past slot 346, past the table, no option there: one number, so that their order is not seen); the cursors: 20 first

pub record LookupInOrder : Type 0 where
  pub 20_before_past_346 : look_up (kept 0x77) (replicate 348 0) 347 347 gives 20 with []
  pub 20_before_past_the_table : look_up (kept 0x77) [] 0 0 gives 20 with []
  pub 20_before_no_option : look_up [] (0 ∷ []) 0 0 gives 20 with []
  pub run_20_before_21 : next_of_run [] [] 1 (record { next = 0; left = 0 }) gives 20 with []
  pub option_20_before_7 : next_option plain [] 0 gives 20 with []
  pub entry_20_before_1 : next_entry [] 0 gives 20 with []

-- ---- all of them
pub record Order : Type 0 where
  pub sizes : SizesInOrder
  pub message : MessageInOrder
  pub option : OptionInOrder
  pub string : StringInOrder
  pub options : OptionsInOrder
  pub entries : EntriesInOrder
  pub index : IndexInOrder
  pub lookup : LookupInOrder
