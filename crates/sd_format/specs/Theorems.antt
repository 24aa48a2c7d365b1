-- What is shown of service discovery: each a statement, and all of them together at the end. Assumes nothing: these are definitions.
use Rattle.std.specs.Prelude.{ℕ, ◌≤◌, ◌<◌, ◌≡◌, false, List, length, drop, get_or}
use Rattle.numbers.specs.Refusals.{Refusal}
use Rattle.numbers.specs.Answers.{Answer, accepted, refused}
use Rattle.numbers.specs.Bytes.{Bytes}
use Rattle.numbers.specs.Rules.{Follows}
use Rattle.sd_format.specs.Settings.{Settings}
use Rattle.sd_format.specs.Sequences.{starts}
use Rattle.sd_format.specs.Strings.{read_string}
use Rattle.sd_format.specs.Kinds.{unscanned}
use Rattle.sd_format.specs.Frames.{Frame, size, one_option, read_option, permit, read_options, lent, table_after, read_index, look_up, next_option, Run, next_of_run}
use Rattle.sd_format.specs.Entries.{read_entry, next_entry, placed_entry}
use Rattle.sd_format.specs.Layout.{Payload}
use Rattle.sd_format.specs.Payload.{read_payload, frames_of, handed_out, read_message}
use Rattle.sd_format.specs.Rules.{string_rules, WrongContent, Unscanned, option_rules, permit_rules, options_rules, index_rules, entry_rules, placed_rules, payload_rules, message_rules, lent_rules, look_up_rules, cursor_rules, run_rules}
use Rattle.sd_format.specs.Demand3.{Demand3, CursorsAgree, LentExactly, IndexExact, MessageExact, StringsExact}
use Rattle.sd_format.specs.Faults.{PlaceIsThePlace}
use Rattle.sd_format.specs.Cases.{Cases}
use Rattle.sd_format.specs.Order.{Order}
use Rattle.sd_format.specs.Places.{Places}
use Rattle.sd_format.specs.PlacesTold.{PlacesTold}
use Rattle.sd_format.specs.Protocols.{Protocols}
use Rattle.sd_format.specs.Before.{AsBefore, OnlyRefusesMore}
use Rattle.sd_format.specs.Bounds.{Bounds}

-- ---- when which refusal comes, with which values: each reading is refused exactly as its rules say, and accepted exactly where they accept
pub record RulesFollowed : Type 0 where
  -- a string; one option, and one whose string is not scanned; which unknown options are permitted; all options
  pub string : (s : List ℕ) → Follows (read_string s) (string_rules s)
  pub option : (g : Settings) (s : List ℕ) → Follows (read_option g s) (option_rules (WrongContent g) s)
  pub unscanned_option : (s : List ℕ) → Follows (one_option unscanned s) (option_rules Unscanned s)
  pub permitted : (g : Settings) (f : Frame) → Follows (permit g f) (permit_rules g f)
  pub options : (g : Settings) (s : List ℕ) → Follows (read_options g s) (options_rules g s)
  -- one entry alone, and beside `n` options
  pub entry : (s : List ℕ) → Follows (read_entry s) (entry_rules s)
  pub placed : (n : ℕ) (s : List ℕ) → Follows (placed_entry n s) (placed_rules n s)
  -- the calls that are lent a table
  pub payload : (g : Settings) (s tab : List ℕ) → Follows (lent tab (read_payload g s)) (lent_rules tab (payload_rules g s))
  pub message : (g : Settings) (s tab : List ℕ) → Follows (lent tab (read_message g s)) (lent_rules tab (message_rules g s))
  pub index : (g : Settings) (s tab : List ℕ) → Follows (lent tab (read_index g s)) (lent_rules tab (index_rules g s))
  -- lookup and the cursors
  pub looked_up : (s tab : List ℕ) (count k : ℕ) → Follows (look_up s tab count k) (look_up_rules s tab count k)
  pub option_cursor : (g : Settings) (s : List ℕ) (at : ℕ) → Follows (next_option g s at) (cursor_rules (option_rules (WrongContent g)) s at)
  pub entry_cursor : (s : List ℕ) (at : ℕ) → Follows (next_entry s at) (cursor_rules entry_rules s at)
  pub run_cursor : (s tab : List ℕ) (count : ℕ) (r : Run) → Follows (next_of_run s tab count r) (run_rules s tab count r)

-- ---- the lent table after a call that read these options
pub record TableAfter (tab : List ℕ) (a : Answer (List Frame)) : Type 0 where
  -- after 22 nothing has changed
  pub short : length tab < 347 → table_after tab a ≡ tab
  -- slots 0 to n-1 hold the offsets and the rest of the 347 hold 0
  pub offsets : 347 ≤ length tab → (fs : List Frame) → a ≡ accepted fs → (k : ℕ) → k < length fs → get_or (table_after tab a) k 0 ≡ get_or (starts size 0 fs) k 0
  pub rest : 347 ≤ length tab → (fs : List Frame) → a ≡ accepted fs → (k : ℕ) → length fs ≤ k → k < 347 → get_or (table_after tab a) k 0 ≡ 0
  -- after any other refusal all 347 hold 0
  pub refused_zeros : 347 ≤ length tab → (r : Refusal) → a ≡ refused r → (k : ℕ) → k < 347 → get_or (table_after tab a) k 0 ≡ 0
  -- slots past 347 are never touched
  pub untouched : 347 ≤ length tab → drop 347 (table_after tab a) ≡ drop 347 tab
  pub as_long : 347 ≤ length tab → length (table_after tab a) ≡ length tab

-- the calls that fill it
pub record TablesLeft : Type 0 where
  pub payload : (g : Settings) (s tab : List ℕ) → TableAfter tab (frames_of (read_payload g s))
  pub message : (g : Settings) (s tab : List ℕ) → TableAfter tab (frames_of (read_message g s))
  pub index : (g : Settings) (s tab : List ℕ) → TableAfter tab (read_index g s)

-- ---- all of them
pub record Theorems : Type 1 where
  -- what is accepted, and what is handed out and looked up
  pub demand3 : (g : Settings) (s : List ℕ) → Bytes s → Demand3 g s
  pub cursors_agree : (g : Settings) (s : List ℕ) → Bytes s → (p : Payload) → handed_out g s ≡ accepted p → CursorsAgree g s p
  pub message_exact : (g : Settings) (s : List ℕ) → Bytes s → MessageExact g s
  pub index_exact : (g : Settings) (s : List ℕ) → Bytes s → IndexExact g s
  pub strings_exact : (s : List ℕ) → StringsExact s
  pub lent_exactly : {A : Type 0} (tab : List ℕ) (a : Answer A) → LentExactly tab a
  -- what is refused, and in which order
  pub rules_followed : RulesFollowed
  pub order : Order
  -- and where: the place that a refusal tells is the place
  pub place_is_the_place : (g : Settings) (s : List ℕ) → Bytes s → PlaceIsThePlace g s
  pub places_told : PlacesTold
  -- the strict setting: off, every reading is as it was before there was one; on, it refuses more and changes nothing else
  pub strict_off : (g : Settings) → g.strict ≡ false → (s : List ℕ) → AsBefore g s
  pub strict_on : (g : Settings) (s : List ℕ) → Bytes s → OnlyRefusesMore g s
  pub protocols : Protocols
  -- what the lent table holds
  pub tables_left : TablesLeft
  -- the rules' marked cases; and what else is computed: each field at its place, the unmarked cases and the lines of lookup
  pub cases : Cases
  pub places : Places
  pub bounds : Bounds
