-- Demand 3 and what belongs to it, as statements; proofs/Demand3.antt proves them. Assumes nothing: these are definitions.
use Rattle.std.specs.Prelude.{ℕ, ◌<◌, ◌≤◌, ◌≡◌, true, ◌↔◌, List, [], ◌∷◌, ◌++◌, map, length, take, drop}
use Rattle.numbers.specs.Refusals.{refusal}
use Rattle.numbers.specs.Answers.{Answer, accepted, refused, given, All}
use Rattle.sd_format.specs.Settings.{Settings}
use Rattle.sd_format.specs.Sequences.{HandsOut, behind, counted}
use Rattle.sd_format.specs.Options.{Opt}
use Rattle.sd_format.specs.Strings.{read_string}
use Rattle.sd_format.specs.Frames.{size, slots, lent, table_after, read_index, look_up, next_option, next_of_run, along}
use Rattle.sd_format.specs.Fields.{fields}
use Rattle.sd_format.specs.Entries.{sixteen, next_entry}
use Rattle.sd_format.specs.Layout.{GoodItem, lay_items, OptionFits, lay_options, wire, Payload, lay, Fits, Header, lay_header}
use Rattle.sd_format.specs.Payload.{entries_part, options_part, read_payload, frames_of, shown, handed_out, read_message}

-- `p` fits the conditions, and its layout is `s`
abbrev pub LaidOut : Settings → List ℕ → Payload → Type 0
LaidOut g s p = Fits g p × (lay p ≡ s)

-- the lent table `tab` after the payload `s` was read
abbrev pub table_left : Settings → List ℕ → List ℕ → List ℕ
table_left g s tab = table_after tab (frames_of (read_payload g s))

pub record Demand3 (g : Settings) (s : List ℕ) : Type 0 where
  -- a payload is accepted exactly when some list of entries and list of options, laid out by the rules, gives those very bytes
  pub exactly : ((p : Payload) × (handed_out g s ≡ accepted p)) ↔ ((p : Payload) × LaidOut g s p)
  -- no second such pair exists
  pub only_one : (p q : Payload) → LaidOut g s p → LaidOut g s q → p ≡ q
  -- what is handed out is that pair
  pub handed : (p : Payload) → (handed_out g s ≡ accepted p) ↔ LaidOut g s p
  -- looking up any number in the table gives what counting from the front gives
  pub looked_up : (p : Payload) → handed_out g s ≡ accepted p → (tab : List ℕ) → slots ≤ length tab → (k : ℕ)
      → look_up (options_part s) (table_left g s tab) (length p.options) k ≡ given wire (counted p.options k)

-- the settings `h` ask no more of one option than `g` do
abbrev pub NoStricter : (h g : Settings) → Type 0
NoStricter h g = h.strict ≡ true → g.strict ≡ true

-- the cursors, over a payload that was accepted
pub record CursorsAgree (g : Settings) (s : List ℕ) (p : Payload) : Type 0 where
  -- the entries and the options that the cursors hand out from the front, one after the other until 20, are that pair; the option cursor under
  -- the same settings, or under others that ask no more
  pub entries : HandsOut (next_entry (entries_part s)) (behind sixteen) 0 p.entries
  pub options : (h : Settings) → NoStricter h g → HandsOut (next_option h (options_part s)) (behind size) 0 (map wire p.options)
  -- the run cursor hands out the counted options of its run, as far as the list goes
  pub runs : (tab : List ℕ) → slots ≤ length tab → (start count : ℕ)
      → HandsOut (next_of_run (options_part s) (table_left g s tab) (length p.options)) along (record { next = start; left = count })
      (take count (drop start (map wire p.options)))

-- 22 exactly when the lent table has under 347 slots
pub record LentExactly {A : Type 0} (tab : List ℕ) (a : Answer A) : Type 0 where
  pub short : length tab < 347 → lent tab a ≡ refused (refusal 22 (length tab ∷ []))
  pub enough : 347 ≤ length tab → lent tab a ≡ a

-- the same settings, but for unknown options, which are accepted whether they may be discarded or not
abbrev pub undecided : Settings → Settings
undecided g = record { discard = true; strict = g.strict }

-- at most 1,388 bytes that are options laid out
abbrev pub IndexLaidOut : Settings → List ℕ → List Opt → Type 0
IndexLaidOut g s os = (length s ≤ 1388) × All (OptionFits (undecided g)) os × (lay_options os ≡ s)

-- the index alone: exactly those bytes, and looking up any number in its table gives what counting from the front gives
pub record IndexExact (g : Settings) (s : List ℕ) : Type 0 where
  pub handed : (os : List Opt) → (given (map fields) (read_index g s) ≡ accepted os) ↔ IndexLaidOut g s os
  pub looked_up : (os : List Opt) → IndexLaidOut g s os → (tab : List ℕ) → slots ≤ length tab → (k : ℕ)
      → look_up s (table_after tab (read_index g s)) (length os) k ≡ given wire (counted os k)

-- a header with a session that is not 0, and `p`, which fits the conditions: their layout is `m`
abbrev pub MessageLaidOut : Settings → List ℕ → Payload → Type 0
MessageLaidOut g m p = (h : Header) × (h.session ≡ 0 → ⊥) × Fits g p × (lay_header h ++ lay p ≡ m)

-- the message: exactly those bytes
pub record MessageExact (g : Settings) (m : List ℕ) : Type 0 where
  pub handed : (p : Payload) → (given shown (read_message g m) ≡ accepted p) ↔ MessageLaidOut g m p

-- a configuration string is accepted exactly when some list of items with good keys, laid out and closed, gives those bytes
pub record StringsExact (s : List ℕ) : Type 0 where
  pub handed : (items : List (List ℕ)) → (read_string s ≡ accepted items) ↔ (All GoodItem items × (lay_items items ≡ s))
  pub only_one : (items others : List (List ℕ)) → All GoodItem items × (lay_items items ≡ s) → All GoodItem others × (lay_items others ≡ s) → items ≡ others
