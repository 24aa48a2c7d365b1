-- The rules' conditions of joining in plain words: what the machine's tests are shown to mean.
-- Assumes nothing: these are definitions.
use Rattle.std.specs.Prelude.{ℕ, ◌+◌, ◌*◌, ◌/◌, ◌%◌, ◌≤◌, ◌<◌, ◌≡◌, Bool, true, false, List, [], ◌∷◌, ◌⊎◌, ◌≢◌, length, get_or, Option, Some, None}
use Rattle.numbers.specs.Bytes.{at32}
use Rattle.numbers.specs.Answers.{All}
use Rattle.tp_machine.specs.declared.TpRange.{TpRange}
use Rattle.tp_machine.specs.Lists.{OneOf, Pairwise}
use Rattle.tp_machine.specs.Segments.{offset, more, size}
use Rattle.tp_machine.specs.Ranges.{joined}
use Rattle.tp_machine.specs.Machine.{most, highest, last_number, State}

-- ---- not 30

-- the types with the TP bit
abbrev pub types : List ℕ
types = 0x20 ∷ 0x21 ∷ 0x22 ∷ 0xa0 ∷ 0xa1 ∷ []

pub record Segment (s : List ℕ) : Type 0 where
  pub long : 20 ≤ length s
  pub counted : at32 s 4 + 8 ≡ length s
  pub version : get_or s 12 0 ≡ 1
  pub type : OneOf (get_or s 14 0) types

-- u is t with 0x20 cleared: u, and that bit of t where it is set, make t
abbrev pub Cleared : (t u : ℕ) → Type 0
Cleared t u = u + 0x20 * (t / 0x20 % 2) ≡ t

-- the header h that a segment brings: its 16 header bytes, with 0x20 cleared in byte 14
pub record HeaderOf (s h : List ℕ) : Type 0 where
  pub size : length h ≡ 16
  pub type : Cleared (get_or s 14 0) (get_or h 14 0)
  pub others : (i : ℕ) → i < 16 → i ≢ 14 → get_or h i 0 ≡ get_or s i 0

-- a range, and the one that a segment of that number spans
abbrev pub range : (start end number : ℕ) → TpRange
range start end number = record { start = start; end = end; number = number }

abbrev pub range_of : (number : ℕ) → List ℕ → TpRange
range_of number s = range (offset s) (offset s + size s) number

-- ---- not 38

-- one of two ranges ends before the other begins
abbrev pub Apart : TpRange → TpRange → Type 0
Apart a b = (a.end < b.start) ⊎ (b.end < a.start)

-- a ends before b begins
abbrev pub Before : TpRange → TpRange → Type 0
Before a b = a.end < b.start

-- each ends before those behind it begin
abbrev pub InOrder : List TpRange → Type 0
InOrder rs = Pairwise Before rs

-- an end, if known, is at least x
abbrev pub NotBefore : Option ℕ → ℕ → Type 0
NotBefore None x = Unit {0}
NotBefore (Some e) x = x ≤ e

-- a range as a state may hold it: its number is one that an accepted segment has had
pub record Fine (p : State) (r : TpRange) : Type 0 where
  pub forth : r.start ≤ r.end
  pub within : r.end ≤ p.limit
  pub not_past : NotBefore p.end r.end
  pub given : 1 ≤ r.number
  pub counted : r.number ≤ p.count

-- an end, if known, is at most x
abbrev pub Within : Option ℕ → ℕ → Type 0
Within None x = Unit {0}
Within (Some e) x = e ≤ x

pub record Good (p : State) : Type 0 where
  pub few : length p.ranges ≤ most
  pub low : p.limit ≤ highest
  pub end_within : Within p.end p.limit
  pub each : All (Fine p) p.ranges
  pub apart : Pairwise Apart p.ranges

-- ---- not 31 to 35, nor 39

-- not 33, twice: where an end is known, the new end x isn't past it, and a final segment has that end
abbrev pub Agrees : Option ℕ → (more : Bool) (x : ℕ) → Type 0
Agrees None more x = Unit {0}
Agrees (Some e) more x = (x ≤ e) × (more ≡ false → x ≡ e)

-- and no range ends past a final segment
abbrev pub Closes : List TpRange → (more : Bool) (x : ℕ) → Type 0
Closes rs more x = more ≡ false → All (λ r. r.end ≤ x) rs

-- the greatest end of ranges: one of them ends there, and none past it
pub record Greatest (rs : List TpRange) (x : ℕ) : Type 0 where
  pub one : TpRange
  pub held : OneOf one rs
  pub there : one.end ≡ x
  pub none_past : All (λ r. r.end ≤ x) rs

-- a segment is accepted in state p, with a buffer of `room` bytes
pub record Accepted (p : State) (seg : List ℕ) (room : ℕ) : Type 0 where
  pub good : Good p
  pub segment : Segment seg
  pub within : offset seg + size seg ≤ p.limit
  pub aligned : more seg ≡ true → size seg % 16 ≡ 0
  pub agrees : Agrees p.end (more seg) (offset seg + size seg)
  pub closes : Closes p.ranges (more seg) (offset seg + size seg)
  pub fits : 16 + (offset seg + size seg) ≤ room
  pub few : length (joined (range_of (p.count + 1) seg) p.ranges) ≤ most
  pub number_left : p.count < last_number

-- ---- not 37
pub record Complete (p : State) : Type 0 where
  pub good : Good p
  pub end : ℕ
  pub known : p.end ≡ Some end
  pub held : ℕ
  pub number : ℕ
  pub one_range : p.ranges ≡ range 0 held number ∷ []

-- ---- not 20: of the ranges that begin at x or behind it r begins first
pub record FirstFrom (rs : List TpRange) (x : ℕ) (r : TpRange) : Type 0 where
  pub held : OneOf r rs
  pub from : x ≤ r.start
  pub first : All (λ q. x ≤ q.start → r.start ≤ q.start) rs
