-- The rules' table of refusals: each refusal by its number, with the values that it gives, in that order.
-- Assumes nothing: these are definitions.
use Rattle.std.specs.Prelude.{ℕ, ◌+◌, List, [], ◌∷◌, ◌++◌}

-- the byte at which a reading was refused, where the refusal tells it: 7 to 10 and 23 do
pub data Place : Type 0 where
  untold : Place
  told : ℕ → Place

pub record Refusal : Type 0 where
  pub number : ℕ
  pub values : List ℕ
  pub place : Place

abbrev pub refusal : ℕ → List ℕ → Refusal
refusal n vs = record { number = n; values = vs; place = untold }

infixl 2 ◌at_byte◌
abbrev pub ◌at_byte◌ : Refusal → ℕ → Refusal
◌at_byte◌ r p = record { number = r.number; values = r.values; place = told p }

-- the values that the table gives: the place is the last
abbrev pub place_values : Place → List ℕ
place_values untold = []
place_values (told p) = p ∷ []

abbrev pub gives : Refusal → List ℕ
gives r = r.values ++ place_values r.place

-- the same byte, counted from `n` bytes further to the front
abbrev pub moved_place : ℕ → Place → Place
moved_place n untold = untold
moved_place n (told p) = told (n + p)

abbrev pub moved : ℕ → Refusal → Refusal
moved n r = record { number = r.number; values = r.values; place = moved_place n r.place }

-- ---- the sizes of a payload

abbrev pub unexpected_end : (needed : ℕ) → Refusal
unexpected_end needed = refusal 1 (needed ∷ [])

abbrev pub entries_too_large : (len : ℕ) → Refusal
entries_too_large len = refusal 2 (len ∷ [])

abbrev pub entries_uneven : (len : ℕ) → Refusal
entries_uneven len = refusal 3 (len ∷ [])

abbrev pub options_too_large : (len : ℕ) → Refusal
options_too_large len = refusal 4 (len ∷ [])

abbrev pub payload_too_large : (len : ℕ) → Refusal
payload_too_large len = refusal 5 (len ∷ [])

abbrev pub length_mismatch : (expected actual : ℕ) → Refusal
length_mismatch expected actual = refusal 6 (expected ∷ actual ∷ [])

-- ---- one option; `source` is 0 for the slice, 1 for the option's length. A place is counted from the option's first byte.

abbrev pub option_length : (needed had source : ℕ) → Refusal
option_length needed had source = refusal 7 (needed ∷ had ∷ source ∷ []) at_byte 0

abbrev pub option_length_zero : Refusal
option_length_zero = refusal 8 [] at_byte 0

-- 9, the configuration string: which of the six errors, and its numbers. `item` is where the item's length byte stands in the string, `byte`
-- the place of a byte among the item's own. The place is counted from the string's first byte: the item, the terminator, or the string's end.

abbrev pub missing_terminator : (end : ℕ) → Refusal
missing_terminator end = refusal 9 (1 ∷ []) at_byte end

abbrev pub item_too_long : (item len remaining : ℕ) → Refusal
item_too_long item len remaining = refusal 9 (2 ∷ item ∷ len ∷ remaining ∷ []) at_byte item

abbrev pub trailing_data : (terminator : ℕ) → Refusal
trailing_data terminator = refusal 9 (3 ∷ terminator ∷ []) at_byte terminator

abbrev pub empty_key : (item : ℕ) → Refusal
empty_key item = refusal 9 (4 ∷ item ∷ []) at_byte item

abbrev pub invalid_key_byte : (item byte value : ℕ) → Refusal
invalid_key_byte item byte value = refusal 9 (5 ∷ item ∷ byte ∷ value ∷ []) at_byte item

abbrev pub only_whitespace : (item : ℕ) → Refusal
only_whitespace item = refusal 9 (6 ∷ item ∷ []) at_byte item

-- the byte with the discardable bit is the option's fourth
abbrev pub unknown_option : (type : ℕ) → Refusal
unknown_option type = refusal 10 (type ∷ []) at_byte 3

-- the protocol stands behind the option's address, so that its byte hangs on how wide that is
abbrev pub wrong_protocol : (protocol byte : ℕ) → Refusal
wrong_protocol protocol byte = refusal 23 (protocol ∷ []) at_byte byte

-- ---- one entry

abbrev pub unknown_entry : (type : ℕ) → Refusal
unknown_entry type = refusal 11 (type ∷ [])

abbrev pub run_out_of_bounds : (run start count options : ℕ) → Refusal
run_out_of_bounds run start count options = refusal 12 (run ∷ start ∷ count ∷ options ∷ [])

-- ---- the index and the SD header

abbrev pub index_too_large : (len : ℕ) → Refusal
index_too_large len = refusal 13 (len ∷ [])

abbrev pub wrong_message_id : (id : ℕ) → Refusal
wrong_message_id id = refusal 14 (id ∷ [])

abbrev pub wrong_client : (client : ℕ) → Refusal
wrong_client client = refusal 15 (client ∷ [])

abbrev pub session_zero : Refusal
session_zero = refusal 16 []

abbrev pub wrong_interface_version : (version : ℕ) → Refusal
wrong_interface_version version = refusal 17 (version ∷ [])

abbrev pub wrong_message_type : (type : ℕ) → Refusal
wrong_message_type type = refusal 18 (type ∷ [])

abbrev pub wrong_return_code : (code : ℕ) → Refusal
wrong_return_code code = refusal 19 (code ∷ [])

-- ---- lookup, cursors and the lent table

abbrev pub nothing_there : Refusal
nothing_there = refusal 20 []

abbrev pub table_misfit : Refusal
table_misfit = refusal 21 []

abbrev pub few_slots : (slots : ℕ) → Refusal
few_slots slots = refusal 22 (slots ∷ [])

-- ---- joining segments

abbrev pub not_a_segment : Refusal
not_a_segment = refusal 30 []

abbrev pub segment_too_big : (offset len max : ℕ) → Refusal
segment_too_big offset len max = refusal 31 (offset ∷ len ∷ max ∷ [])

abbrev pub unaligned : (offset len : ℕ) → Refusal
unaligned offset len = refusal 32 (offset ∷ len ∷ [])

abbrev pub conflicting_end : (previous new : ℕ) → Refusal
conflicting_end previous new = refusal 33 (previous ∷ new ∷ [])

abbrev pub buffer_too_short : (needed : ℕ) → Refusal
buffer_too_short needed = refusal 34 (needed ∷ [])

abbrev pub ranges_full : Refusal
ranges_full = refusal 35 []

abbrev pub limit_too_large : (limit : ℕ) → Refusal
limit_too_large limit = refusal 36 (limit ∷ [])

abbrev pub not_complete : Refusal
not_complete = refusal 37 []

abbrev pub malformed_state : Refusal
malformed_state = refusal 38 []

abbrev pub count_full : Refusal
count_full = refusal 39 []
