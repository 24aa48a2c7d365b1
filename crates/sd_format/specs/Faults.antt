-- The place that a refusal of the options tells is the place: what stands before it, and what stands there. proofs/FaultLaws.antt proves it.
-- Assumes nothing: these are definitions.
use Rattle.std.specs.Prelude.{ℕ, ◌+◌, ◌-◌, ◌≤◌, ◌<◌, ◌≡◌, true, false, ◌↔◌, ◌≢◌, ◌⊎◌, List, [], ◌∷◌, ◌++◌, length, take, drop, get_or}
use Rattle.numbers.specs.Refusals.{Refusal, refusal, ◌at_byte◌, untold, told, moved}
use Rattle.numbers.specs.Answers.{refused, All}
use Rattle.numbers.specs.Rules.{Refuses}
use Rattle.numbers.specs.Bytes.{at16}
use Rattle.sd_format.specs.Settings.{Settings}
use Rattle.sd_format.specs.Options.{Family, Role, First, Opt, unrecognised}
use Rattle.sd_format.specs.Strings.{read_string}
use Rattle.sd_format.specs.Frames.{read_option, read_options, read_index}
use Rattle.sd_format.specs.Layout.{GoodItem, lay_items, lay_first, lay_type, address_length, lay_options, ProtocolFits, OptionFits}
use Rattle.sd_format.specs.Payload.{options_part, read_payload, read_message}
use Rattle.sd_format.specs.Rules.{item_rules}
use Rattle.sd_format.specs.Demand3.{undecided}

-- ---- in a configuration string

-- what is wrong where these bytes are left of a string, from `place` on: there are none, a terminator is not the last, or an item is refused
pub data StringFault (place : ℕ) : List ℕ → Refusal → Type 0 where
  unterminated : StringFault place [] (refusal 9 (1 ∷ []) at_byte place)
  trailing : (b : ℕ) (rest : List ℕ) → StringFault place (0 ∷ b ∷ rest) (refusal 9 (3 ∷ place ∷ []) at_byte place)
  item : (n : ℕ) (rest : List ℕ) (r : Refusal) → n ≢ 0 → Refuses (item_rules place n rest) r → StringFault place (n ∷ rest) r

-- The items before the place are good: with a terminator behind them they are the bytes before it and that terminator.
pub record StringStopped (s : List ℕ) (r : Refusal) : Type 0 where
  pub before : List (List ℕ)
  pub place : ℕ
  pub good : All GoodItem before
  pub laid : lay_items before ≡ take place s ++ (0 ∷ [])
  pub within : place ≤ length s
  pub fault : StringFault place (drop place s) r
  pub told_there : r.place ≡ told place

-- ---- in one option

-- what one option is refused by, and at which of its bytes: at its first; where its string stopped, whose first byte is the option's fifth; or,
-- under the strict setting, at the protocol, which is the byte that is told
pub data OneRefused (g : Settings) (s : List ℕ) : Refusal → ℕ → Type 0 where
  by_length : (needed had source : ℕ) → OneRefused g s (refusal 7 (needed ∷ had ∷ source ∷ []) at_byte 0) 0
  by_zero : OneRefused g s (refusal 8 [] at_byte 0) 0
  by_string : (r : Refusal) → get_or s 2 0 ≡ 0x01 → (w : StringStopped (drop 1 (take (at16 s 0) (drop 3 s))) r) → OneRefused g s (moved 4 r) (4 + w.place)
  by_protocol : (family : Family) (role : Role) (byte : ℕ) → g.strict ≡ true → get_or s 2 0 ≡ lay_type family role → byte ≡ 5 + address_length family
      → ¬ ProtocolFits role (get_or s byte 0) → OneRefused g s (refusal 23 (get_or s byte 0 ∷ []) at_byte byte) byte

-- ---- among all options

-- 7, 8, 9 or 23: the options `before` fit, unknown ones whether they may be discarded or not, since that is asked when all are read; and laid out
-- they are the bytes before `start`. The reading of one from there on is refused alike at its byte `place`, and what is told is that byte counted
-- from the first of all.
pub record Stopped (g : Settings) (s : List ℕ) (r : Refusal) : Type 0 where
  pub before : List Opt
  pub start : ℕ
  pub alone : Refusal
  pub place : ℕ
  pub fit : All (OptionFits (undecided g)) before
  pub laid : lay_options before ≡ take start s
  pub more : start < length s
  pub reads : read_option g (drop start s) ≡ refused alone
  pub which : OneRefused g (drop start s) alone place
  pub within : place ≤ length s - start
  pub there : r ≡ (alone at_byte start + place)

-- 10: all options decode, and the one behind `before` is the first that may not stand. The place is that of the byte with its discardable bit.
pub record NotPermitted (g : Settings) (s : List ℕ) (r : Refusal) : Type 0 where
  pub before : List Opt
  pub type : ℕ
  pub first : First
  pub rest : List ℕ
  pub behind : List Opt
  pub fit : All (OptionFits g) before
  pub decode : All (OptionFits (undecided g)) (unrecognised type first rest ∷ behind)
  pub laid : lay_options (before ++ (unrecognised type first rest ∷ behind)) ≡ s
  pub bit_clear : first.discardable ≡ false
  pub setting_off : g.discard ≡ false
  pub byte_there : get_or s (length (lay_options before) + 3) 0 ≡ lay_first first
  pub there : r ≡ (refusal 10 (type ∷ []) at_byte length (lay_options before) + 3)

-- ---- the readings are refused exactly so

pub record PlaceIsThePlace (g : Settings) (s : List ℕ) : Type 0 where
  -- a string
  pub string : (r : Refusal) → read_string s ≡ refused r → StringStopped s r
  -- one option: at one of its bytes, or at their end
  pub option : (r : Refusal) → read_option g s ≡ refused r → (p : ℕ) × OneRefused g s r p × (r.place ≡ told p) × (p ≤ length s)
  -- all options, and the index alone, which gives 10 never
  pub options : (r : Refusal) → (read_options g s ≡ refused r) ↔ (Stopped g s r ⊎ NotPermitted g s r)
  pub index : (r : Refusal) → length s ≤ 1388 → (read_index g s ≡ refused r) ↔ Stopped g s r
  -- a payload and a message tell a place where their options part is refused, that one, and nowhere else
  pub payload : (r : Refusal) → read_payload g s ≡ refused r → (r.place ≡ untold) ⊎ (read_options g (options_part s) ≡ refused r)
  pub message : (r : Refusal) → read_message g s ≡ refused r → (r.place ≡ untold) ⊎ (read_options g (options_part (drop 16 s)) ≡ refused r)
