-- The rules' number and values for everything that the code refuses, and what the answers say that all layers share. Assumes nothing:
-- these are definitions.
use Rattle.std.specs.Prelude.{ℕ, zero, suc, cond, List, [], ◌∷◌, length, ltb, Result, Ok, Err}
use Rattle.numbers.specs.Refusals as paper
use Rattle.numbers.specs.Refusals.{◌at_byte◌, Place, untold, told}
use Rattle.numbers.specs.Answers as answers
use Rattle.refusal.specs.declared.LengthSource.{LengthSource}
use Rattle.refusal.specs.declared.LengthSource.TheVariants.{Slice, OptionLength}
use Rattle.refusal.specs.declared.StringError.{StringError}
use Rattle.refusal.specs.declared.StringError.TheVariants as string
use Rattle.refusal.specs.declared.Refusal.{Refusal}
use Rattle.refusal.specs.declared.Refusal.TheVariants as code
use Rattle.refusal.specs.declared.values.Numbers.{Numbers}

-- 0 for the slice, 1 for the option's length
abbrev pub source_number : LengthSource → ℕ
source_number Slice = 0
source_number OptionLength = 1

-- an error of a string, told at a place
abbrev pub string_said : StringError → (place : ℕ) → paper.Refusal
string_said string.MissingTerminator place = paper.missing_terminator place
string_said (string.ItemLengthExceedsRemaining item len remaining) place = paper.item_too_long item len remaining at_byte place
string_said (string.TrailingDataAfterTerminator terminator) place = paper.trailing_data terminator at_byte place
string_said (string.EmptyKey item) place = paper.empty_key item at_byte place
string_said (string.InvalidKeyByte item byte value) place = paper.invalid_key_byte item byte value at_byte place
string_said (string.KeyContainsOnlyWhitespace item) place = paper.only_whitespace item at_byte place

abbrev pub said : Refusal → paper.Refusal
said (code.UnexpectedEndOfSlice needed) = paper.unexpected_end needed
said (code.EntriesLengthTooLarge len) = paper.entries_too_large len
said (code.EntriesLengthUneven len) = paper.entries_uneven len
said (code.OptionsLengthTooLarge len) = paper.options_too_large len
said (code.PayloadTooLarge len) = paper.payload_too_large len
said (code.PayloadLengthMismatch expected actual) = paper.length_mismatch expected actual
said (code.OptionLength needed had source place) = paper.option_length needed had (source_number source) at_byte place
said (code.OptionLengthZero place) = paper.option_length_zero at_byte place
said (code.ConfigurationString error place) = string_said error place
said (code.UnknownOption type place) = paper.unknown_option type at_byte place
said (code.UnknownEntry type) = paper.unknown_entry type
said (code.RunOutOfBounds run start count options) = paper.run_out_of_bounds run start count options
said (code.IndexTooLarge len) = paper.index_too_large len
said (code.MessageId id) = paper.wrong_message_id id
said (code.ClientId client) = paper.wrong_client client
said code.SessionZero = paper.session_zero
said (code.InterfaceVersion version) = paper.wrong_interface_version version
said (code.MessageType type) = paper.wrong_message_type type
said (code.ReturnCode value) = paper.wrong_return_code value
said code.NothingThere = paper.nothing_there
said code.TableMisfit = paper.table_misfit
said (code.FewSlots slots) = paper.few_slots slots
said (code.WrongProtocol protocol place) = paper.wrong_protocol protocol place
said code.NotASegment = paper.not_a_segment
said (code.SegmentTooBig offset len max) = paper.segment_too_big offset len max
said (code.UnalignedTpPayloadLen offset len) = paper.unaligned offset len
said (code.ConflictingEnd previous new) = paper.conflicting_end previous new
said (code.BufferTooShort needed) = paper.buffer_too_short needed
said code.RangesFull = paper.ranges_full
said (code.LimitTooLarge limit) = paper.limit_too_large limit
said code.NotComplete = paper.not_complete
said code.MalformedState = paper.malformed_state
said code.CountFull = paper.count_full

-- ---- answers

-- what an answer of the code says: what was accepted, in the words of `f`, or the refusal
abbrev pub said_by : {A B : Type 0} → (A → B) → Result A Refusal → answers.Answer B
said_by f (Ok a) = answers.accepted (f a)
said_by f (Err r) = answers.refused (said r)

-- of which only pass or refusal counts
abbrev pub verdict_said : Result (Unit {0}) Refusal → answers.Verdict
verdict_said = said_by (λ u. tt)

-- that is a count: of options, of bytes, up to where
abbrev pub count_said : Result ℕ Refusal → answers.Answer ℕ
count_said = said_by (λ n. n)

-- the refusal in an answer; where there is none it is never asked for
abbrev pub refusal_in : {A : Type 0} → Result A Refusal → Refusal
refusal_in (Ok a) = code.NothingThere
refusal_in (Err r) = r

-- ---- as data

-- as many values as a refusal has at most
abbrev pub places : ℕ
places = 5

-- the first n values, and 0 in the places that are left
abbrev pub padded : ℕ → List ℕ → List ℕ
padded zero vs = []
padded (suc n) [] = 0 ∷ padded n []
padded (suc n) (v ∷ vs) = v ∷ padded n vs

-- a refusal in its places: its number, how many values, and the values
abbrev pub laid : paper.Refusal → Numbers
laid r = record { number = r.number; count = length (paper.gives r); values = padded places (paper.gives r) }

-- ---- a place counted from further to the front, as far as a `usize` goes

abbrev pub most : ℕ
most = 0xffffffffffffffff

abbrev pub capped : ℕ → ℕ
capped p = cond (ltb most p) most p

abbrev pub place_capped : Place → Place
place_capped untold = untold
place_capped (told p) = told (capped p)

abbrev pub moved_capped : ℕ → paper.Refusal → paper.Refusal
moved_capped n r = record { number = r.number; values = r.values; place = place_capped (paper.moved_place n r.place) }
