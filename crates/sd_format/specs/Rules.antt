-- The rules of service discovery in plain words and in their order, each refusal with its number and its values. The readings follow
-- them (specs/Theorems.antt): each is refused exactly by the first rule whose condition holds. Assumes nothing: these are definitions.
use Rattle.std.specs.Prelude.{ℕ, ◌+◌, ◌/◌, ◌%◌, ◌≤◌, ◌<◌, ◌≡◌, true, false, ◌≢◌, ◌⊎◌, List, [], ◌∷◌, ◌++◌, length, take, drop, get_or}
use Rattle.numbers.specs.Refusals.{Refusal, refusal, ◌at_byte◌, moved}
use Rattle.numbers.specs.Answers.{accepted, All}
use Rattle.numbers.specs.Bytes.{at16, at32}
use Rattle.numbers.specs.Rules.{Rules, accept, ◌if◌else◌, part◌else◌, ◌then◌, Refuses, Accepts}
use Rattle.sd_format.specs.Settings.{Settings}
use Rattle.sd_format.specs.Sequences.{Stops, FirstRefused}
use Rattle.sd_format.specs.Options.{Family, Role}
use Rattle.sd_format.specs.Strings.{key_of}
use Rattle.sd_format.specs.Frames.{Frame, size, placed_option, permit, all_options, Run}
use Rattle.sd_format.specs.Entries.{sixteen, placed_entry}
use Rattle.sd_format.specs.Layout.{lay_type, address_length, Unknown, ProtocolFits, RunFits}
use Rattle.sd_format.specs.Payload.{entries_length, options_length, entries_part, options_part}

-- ---- configuration strings: 9 with which of the six errors, at the item, at the terminator, or at the string's end

-- the first key byte outside 0x20 to 0x7e
pub record BadByte (item : ℕ) (key : List ℕ) (r : Refusal) : Type 0 where
  pub before : List ℕ
  pub byte : ℕ
  pub behind : List ℕ
  pub among : key ≡ before ++ (byte ∷ behind)
  pub good : All (λ b. (0x20 ≤ b) × (b ≤ 0x7e)) before
  pub bad : (byte < 0x20) ⊎ (0x7e < byte)
  pub says : (refusal 9 (5 ∷ item ∷ length before ∷ byte ∷ []) at_byte item) ≡ r

-- an item's key: empty, first bad byte, all spaces
abbrev pub key_rules : (item : ℕ) (key : List ℕ) → Rules
key_rules item key =
    refusal 9 (4 ∷ item ∷ []) at_byte item if key ≡ [] else
    part (BadByte item key) else
    refusal 9 (6 ∷ item ∷ []) at_byte item if All (λ b. b ≡ 0x20) key else
    accept

-- the item whose length byte `n` stands at place `item`, with the bytes behind that byte: its length, then its key
abbrev pub item_rules : (item n : ℕ) (rest : List ℕ) → Rules
item_rules item n rest =
    refusal 9 (2 ∷ item ∷ n ∷ length rest ∷ []) at_byte item if length rest < n else
    key_rules item (key_of (take n rest))

-- the string from place `at` on: no terminator, bytes behind it, or the first item that is refused
pub data StringRefused : (at : ℕ) → List ℕ → Refusal → Type 0 where
  unterminated : {at : ℕ} → StringRefused at [] (refusal 9 (1 ∷ []) at_byte at)
  trailing : {at : ℕ} {rest : List ℕ} → rest ≢ [] → StringRefused at (0 ∷ rest) (refusal 9 (3 ∷ at ∷ []) at_byte at)
  this_item : {at n : ℕ} {rest : List ℕ} {r : Refusal} → n ≢ 0 → Refuses (item_rules at n rest) r → StringRefused at (n ∷ rest) r
  later_item : {at n : ℕ} {rest : List ℕ} {r : Refusal} → n ≢ 0 → Accepts (item_rules at n rest) → StringRefused (at + 1 + n) (drop n rest) r
      → StringRefused at (n ∷ rest) r

abbrev pub string_rules : List ℕ → Rules
string_rules s =
    part (StringRefused 0 s) else
    accept

-- ---- one option

-- the kinds that have one length, by their type codes
pub data Fixed : (type len : ℕ) → Type 0 where
  load_balancing : Fixed 0x02 5
  ipv4_endpoint : Fixed 0x04 9
  ipv4_multicast : Fixed 0x14 9
  ipv4_sd_endpoint : Fixed 0x24 9
  ipv6_endpoint : Fixed 0x06 21
  ipv6_multicast : Fixed 0x16 21
  ipv6_sd_endpoint : Fixed 0x26 21

-- another length for a fixed kind: 7, source 1, needed from the table, had from the option
pub record OtherLength (type had : ℕ) (r : Refusal) : Type 0 where
  pub needed : ℕ
  pub fixed : Fixed type needed
  pub other : had ≢ needed
  pub says : (refusal 7 (needed ∷ had ∷ 1 ∷ []) at_byte 0) ≡ r

-- under the strict setting a kind with an address whose protocol does not fit: 23, the protocol and its byte
pub record WrongProtocol (g : Settings) (s : List ℕ) (r : Refusal) : Type 0 where
  pub strict : g.strict ≡ true
  pub family : Family
  pub role : Role
  pub type : get_or s 2 0 ≡ lay_type family role
  pub misfit : ¬ ProtocolFits role (get_or s (5 + address_length family) 0)
  pub says : (refusal 23 (get_or s (5 + address_length family) 0 ∷ []) at_byte 5 + address_length family) ≡ r

-- a string in its option, whose first byte is the option's fifth
abbrev pub Scanned : List ℕ → Refusal → Type 0
Scanned s r = (q : Refusal) × StringRefused 0 s q × (moved 4 q ≡ r)

-- what the reading refuses of what a kind holds: a configuration option's string, which is all bytes after the fourth, or a protocol; lookup
-- neither
abbrev pub WrongContent : Settings → List ℕ → Refusal → Type 0
WrongContent g s r = ((get_or s 2 0 ≡ 0x01) × Scanned (drop 1 (take (at16 s 0) (drop 3 s))) r) ⊎ WrongProtocol g s r

abbrev pub Unscanned : List ℕ → Refusal → Type 0
Unscanned s r = ⊥

-- its length stands in bytes 0 and 1, its type in byte 2; `Content` says what is refused of what its kind holds
abbrev pub option_rules : (Content : List ℕ → Refusal → Type 0) (s : List ℕ) → Rules
option_rules Content s =
    refusal 7 (3 ∷ length s ∷ 0 ∷ []) at_byte 0 if length s < 3 else
    refusal 8 [] at_byte 0 if at16 s 0 ≡ 0 else
    refusal 7 ((3 + at16 s 0) ∷ length s ∷ 0 ∷ []) at_byte 0 if length s < 3 + at16 s 0 else
    part (OtherLength (get_or s 2 0) (at16 s 0)) else
    part (Content s) else
    accept

-- ---- all options

-- an unknown type without the discardable bit, where the discard setting is off
abbrev pub permit_rules : Settings → Frame → Rules
permit_rules g f =
    refusal 10 (f.type ∷ []) at_byte 3 if Unknown f.type × (get_or f.body 0 0 / 0x80 % 2 ≡ 0) × (g.discard ≡ false) else
    accept

-- each option from the front, its place counted from the first byte of all; after all decode, 10 for the first bad unknown
abbrev pub options_rules : Settings → List ℕ → Rules
options_rules g s =
    part (Stops (placed_option g (length s)) size s) else
    part (λ r. (fs : List Frame) × (all_options g s ≡ accepted fs) × FirstRefused size (permit g) 0 fs r) else
    accept

-- the index alone
abbrev pub index_rules : Settings → List ℕ → Rules
index_rules g s =
    refusal 13 (length s ∷ []) if 1388 < length s else
    part (Stops (placed_option g (length s)) size s) else
    accept

-- ---- one entry

abbrev pub EntryType : ℕ → Type 0
EntryType type = (type ≡ 0x00) ⊎ (type ≡ 0x01) ⊎ (type ≡ 0x06) ⊎ (type ≡ 0x07)

abbrev pub entry_rules : List ℕ → Rules
entry_rules s =
    refusal 1 (16 ∷ []) if length s < 16 else
    refusal 11 (get_or s 0 0 ∷ []) if ¬ EntryType (get_or s 0 0) else
    accept

-- the same beside `n` options: 12 for run 1, 12 for run 2. The runs' starts stand in bytes 1 and 2, their counts in byte 3.
abbrev pub placed_rules : (n : ℕ) → List ℕ → Rules
placed_rules n s =
    entry_rules s then
    refusal 12 (1 ∷ get_or s 1 0 ∷ get_or s 3 0 / 16 ∷ n ∷ []) if ¬ RunFits n (get_or s 1 0) (get_or s 3 0 / 16) else
    refusal 12 (2 ∷ get_or s 2 0 ∷ get_or s 3 0 % 16 ∷ n ∷ []) if ¬ RunFits n (get_or s 2 0) (get_or s 3 0 % 16) else
    accept

-- ---- the payload and the message

-- `n` bytes, the entries length and the options length
abbrev pub size_rules : (n entries options : ℕ) → Rules
size_rules n entries options =
    refusal 1 (12 ∷ []) if n < 12 else
    refusal 2 (entries ∷ []) if 1388 < entries else
    refusal 3 (entries ∷ []) if entries % 16 ≢ 0 else
    refusal 1 ((12 + entries) ∷ []) if n < 12 + entries else
    refusal 4 (options ∷ []) if 1388 < options else
    refusal 5 ((12 + entries + options) ∷ []) if 1400 < 12 + entries + options else
    refusal 1 ((12 + entries + options) ∷ []) if n < 12 + entries + options else
    refusal 6 ((12 + entries + options) ∷ n ∷ []) if n ≢ 12 + entries + options else
    accept

-- the sizes, the options, the entries
abbrev pub payload_rules : Settings → List ℕ → Rules
payload_rules g s =
    size_rules (length s) (entries_length s) (options_length s) then
    options_rules g (options_part s) then
    part (λ r. (fs : List Frame) × (all_options g (options_part s) ≡ accepted fs) × Stops (placed_entry (length fs)) sixteen (entries_part s) r) else
    accept

-- the message id stands in bytes 0 to 3, client and session in 8 to 11, interface version, type and return code in 13 to 15
abbrev pub header_rules : List ℕ → Rules
header_rules s =
    refusal 1 (16 ∷ []) if length s < 16 else
    refusal 14 (at32 s 0 ∷ []) if at32 s 0 ≢ 0xffff8100 else
    refusal 15 (at16 s 8 ∷ []) if at16 s 8 ≢ 0 else
    refusal 16 [] if at16 s 10 ≡ 0 else
    refusal 17 (get_or s 13 0 ∷ []) if get_or s 13 0 ≢ 1 else
    refusal 18 (get_or s 14 0 ∷ []) if get_or s 14 0 ≢ 0x02 else
    refusal 19 (get_or s 15 0 ∷ []) if get_or s 15 0 ≢ 0 else
    accept

abbrev pub message_rules : Settings → List ℕ → Rules
message_rules g s = header_rules s then payload_rules g (drop 16 s)

-- ---- the lent table, lookup and the cursors

-- 22 comes before all else
abbrev pub lent_rules : (tab : List ℕ) → Rules → Rules
lent_rules tab rules = refusal 22 (length tab ∷ []) if length tab < 347 else rules

-- 20 at or past the count; 21 past slot 346, past the lent table, or where no option decodes
abbrev pub look_up_rules : (s tab : List ℕ) (count k : ℕ) → Rules
look_up_rules s tab count k =
    refusal 20 [] if count ≤ k else
    refusal 21 [] if 346 < k else
    refusal 21 [] if length tab ≤ k else
    refusal 21 [] if ¬ Accepts (option_rules Unscanned (drop (get_or tab k 0) s)) else
    accept

-- a cursor at a place: 20 with no bytes left, otherwise as the reading of one there
abbrev pub cursor_rules : (List ℕ → Rules) → List ℕ → (at : ℕ) → Rules
cursor_rules rules s at = refusal 20 [] if length s ≤ at else rules (drop at s)

-- the run cursor: 20 at its end, otherwise as lookup
abbrev pub run_rules : (s tab : List ℕ) (count : ℕ) → Run → Rules
run_rules s tab count r = refusal 20 [] if r.left ≡ 0 else look_up_rules s tab count r.next
