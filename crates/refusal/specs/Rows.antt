-- The rules' table of numbers, row by row in literal numbers, for each case of the code: what `said` is shown to give. No name of a refusal's
-- definition is used here. Assumes nothing: these are definitions.
use Rattle.std.specs.Prelude.{ℕ, ◌+◌, ◌<◌, ◌≤◌, ◌≡◌, [], ◌∷◌, length, take, get_or, Ok, Err}
use Rattle.numbers.specs.Refusals as paper
use Rattle.numbers.specs.Refusals.{refusal, ◌at_byte◌, untold, told, gives}
use Rattle.numbers.specs.Answers.{accepted, refused}
use Rattle.refusal.specs.declared.LengthSource.TheVariants.{Slice, OptionLength}
use Rattle.refusal.specs.declared.StringError.TheVariants as string
use Rattle.refusal.specs.declared.Refusal.{Refusal}
use Rattle.refusal.specs.declared.Refusal.TheVariants as code
use Rattle.refusal.specs.declared.values.Numbers.{Numbers}
use Rattle.refusal.specs.Said.{said, verdict_said, count_said, places, laid, capped, moved_capped}

-- a refusal's number and values, and where it tells a place, that
abbrev pub row : Refusal → paper.Refusal
row (code.UnexpectedEndOfSlice needed) = refusal 1 (needed ∷ [])
row (code.EntriesLengthTooLarge len) = refusal 2 (len ∷ [])
row (code.EntriesLengthUneven len) = refusal 3 (len ∷ [])
row (code.OptionsLengthTooLarge len) = refusal 4 (len ∷ [])
row (code.PayloadTooLarge len) = refusal 5 (len ∷ [])
row (code.PayloadLengthMismatch expected actual) = refusal 6 (expected ∷ actual ∷ [])
row (code.OptionLength needed had Slice place) = refusal 7 (needed ∷ had ∷ 0 ∷ []) at_byte place
row (code.OptionLength needed had OptionLength place) = refusal 7 (needed ∷ had ∷ 1 ∷ []) at_byte place
row (code.OptionLengthZero place) = refusal 8 [] at_byte place
row (code.ConfigurationString string.MissingTerminator place) = refusal 9 (1 ∷ []) at_byte place
row (code.ConfigurationString (string.ItemLengthExceedsRemaining item len remaining) place) = refusal 9 (2 ∷ item ∷ len ∷ remaining ∷ []) at_byte place
row (code.ConfigurationString (string.TrailingDataAfterTerminator terminator) place) = refusal 9 (3 ∷ terminator ∷ []) at_byte place
row (code.ConfigurationString (string.EmptyKey item) place) = refusal 9 (4 ∷ item ∷ []) at_byte place
row (code.ConfigurationString (string.InvalidKeyByte item byte value) place) = refusal 9 (5 ∷ item ∷ byte ∷ value ∷ []) at_byte place
row (code.ConfigurationString (string.KeyContainsOnlyWhitespace item) place) = refusal 9 (6 ∷ item ∷ []) at_byte place
row (code.UnknownOption type place) = refusal 10 (type ∷ []) at_byte place
row (code.UnknownEntry type) = refusal 11 (type ∷ [])
row (code.RunOutOfBounds run start count options) = refusal 12 (run ∷ start ∷ count ∷ options ∷ [])
row (code.IndexTooLarge len) = refusal 13 (len ∷ [])
row (code.MessageId id) = refusal 14 (id ∷ [])
row (code.ClientId client) = refusal 15 (client ∷ [])
row code.SessionZero = refusal 16 []
row (code.InterfaceVersion version) = refusal 17 (version ∷ [])
row (code.MessageType type) = refusal 18 (type ∷ [])
row (code.ReturnCode value) = refusal 19 (value ∷ [])
row code.NothingThere = refusal 20 []
row code.TableMisfit = refusal 21 []
row (code.FewSlots slots) = refusal 22 (slots ∷ [])
row (code.WrongProtocol protocol place) = refusal 23 (protocol ∷ []) at_byte place
row code.NotASegment = refusal 30 []
row (code.SegmentTooBig offset len max) = refusal 31 (offset ∷ len ∷ max ∷ [])
row (code.UnalignedTpPayloadLen offset len) = refusal 32 (offset ∷ len ∷ [])
row (code.ConflictingEnd previous new) = refusal 33 (previous ∷ new ∷ [])
row (code.BufferTooShort needed) = refusal 34 (needed ∷ [])
row code.RangesFull = refusal 35 []
row (code.LimitTooLarge limit) = refusal 36 (limit ∷ [])
row code.NotComplete = refusal 37 []
row code.MalformedState = refusal 38 []
row code.CountFull = refusal 39 []

-- the numbers as data: the number, how many values, and the values in front, with nothing but zeros behind them
pub record Data (r : paper.Refusal) (n : Numbers) : Type 0 where
  pub number : n.number ≡ r.number
  pub count : n.count ≡ length (gives r)
  pub values : take (length (gives r)) n.values ≡ gives r
  pub zeros_behind : (i : ℕ) → length (gives r) ≤ i → get_or n.values i 0 ≡ 0

-- a place `p` among the numbers as data: the last, behind all the other values
pub record Last (r : paper.Refusal) (n : Numbers) (p : ℕ) : Type 0 where
  pub one_more : n.count ≡ length r.values + 1
  pub others_in_front : take (length r.values) n.values ≡ r.values
  pub there : get_or n.values (length r.values) 0 ≡ p

pub record Rows : Type 0 where
  -- each refusal says its row, and no row has the number of an acceptance
  pub rows : (r : Refusal) → said r ≡ row r
  pub never_zero : (r : Refusal) → 0 < (said r).number
  -- the answers that all layers share
  pub passed : verdict_said (Ok tt) ≡ accepted tt
  pub verdict_refused : (r : Refusal) → verdict_said (Err r) ≡ refused (row r)
  pub counted : (n : ℕ) → count_said (Ok n) ≡ accepted n
  pub count_refused : (r : Refusal) → count_said (Err r) ≡ refused (row r)
  -- as data: there are places for all values
  pub few : (r : Refusal) → length (gives (row r)) ≤ places
  pub data_of : (r : Refusal) → Data (row r) (laid (said r))
  pub place_last : (r : Refusal) (p : ℕ) → (row r).place ≡ told p → Last (row r) (laid (said r)) p

-- a place counted from further to the front is as it is where a `usize` holds it, and else the largest `usize`
pub record Capped : Type 0 where
  pub held : (p : ℕ) → p ≤ 18446744073709551615 → capped p ≡ p
  pub not_held : (p : ℕ) → 18446744073709551615 < p → capped p ≡ 18446744073709551615
  -- so a refusal's place is moved, and nothing else of it
  pub moved : (n p : ℕ) (r : paper.Refusal) → r.place ≡ told p → moved_capped n r ≡ (r at_byte capped (n + p))
  pub not_moved : (n : ℕ) (r : paper.Refusal) → r.place ≡ untold → moved_capped n r ≡ r
