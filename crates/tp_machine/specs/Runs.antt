-- Runs of the machine: which segments were accepted, what the ranges cover, what their numbers are, what the buffer holds, what the report is;
-- and states that differ only in the order of their ranges, or only in numbers. Assumes nothing: these are definitions.
use Rattle.std.specs.Prelude.{ℕ, ◌+◌, ◌-◌, ◌≤◌, ◌<◌, ◌≡◌, Bool, true, false, ◌&&◌, not, List, [], ◌∷◌, ◌++◌, map, ◌≢◌, length, get_or, leb, ltb, eqb, Option, Some, None}
use Rattle.numbers.specs.Bytes.{be32}
use Rattle.numbers.specs.Answers.{accepted, refused, Verdict, All}
use Rattle.tp_machine.specs.declared.TpRange.{TpRange}
use Rattle.tp_machine.specs.Lists.{OneOf, Pairwise, Rearranged, Latest}
use Rattle.tp_machine.specs.Segments.{offset, more, end_of, payload, header, pasted}
use Rattle.tp_machine.specs.Ranges.{any}
use Rattle.tp_machine.specs.Machine.{last_number, State, Out, step, begin, clear}
use Rattle.tp_machine.specs.Meaning.{range}

-- the states that runs come to: a stream is begun, segments come over whatever buffer, it is cleared (taking leaves the state as it was)
pub data Reached : State → Type 0 where
  begins : (limit : ℕ) → Reached (begin limit)
  comes : {p : State} → Reached p → (seg buf : List ℕ) → Reached (step p seg buf).state
  clears : {p : State} → Reached p → Reached (clear p)

-- those of the segments that are accepted, in the order in which they come
abbrev pub if_accepted : Verdict → List ℕ → List (List ℕ) → List (List ℕ)
if_accepted (accepted u) s ss = s ∷ ss
if_accepted (refused r) s ss = ss

unfoldable pub admitted : Out → List (List ℕ) → List (List ℕ)
admitted o [] = []
admitted o (s ∷ ss) = if_accepted (step o.state s o.buffer).answer s (admitted (step o.state s o.buffer) ss)

-- ---- places of the payload

-- the range holds x
unfoldable pub holds : ℕ → TpRange → Bool
holds x r = leb r.start x && ltb x r.end

-- one of the ranges does
abbrev pub covered : List TpRange → ℕ → Bool
covered rs x = any (holds x) rs

-- the segment covers x, and the byte that it brings there
abbrev pub spans : ℕ → List ℕ → Bool
spans x s = leb (offset s) x && ltb x (end_of s)

abbrev pub brought : ℕ → List ℕ → ℕ
brought x s = get_or (payload s) (x - offset s) 0

-- the segment brings a header
abbrev pub heads : List ℕ → Bool
heads s = eqb (offset s) 0

abbrev pub final : List ℕ → Bool
final s = not (more s)

-- ---- what is left of the accepted segments, from a fresh state and a buffer b

-- a range that they made: it begins where one of them begins, and ends where one ends
pub record Has (place : List ℕ → ℕ) (segs : List (List ℕ)) (x : ℕ) : Type 0 where
  pub segment : List ℕ
  pub among : OneOf segment segs
  pub there : place segment ≡ x

pub record Made (segs : List (List ℕ)) (r : TpRange) : Type 0 where
  pub begins_at : Has offset segs r.start
  pub ends_at : Has end_of segs r.end

-- a segment that lies in one of the ranges
unfoldable pub around : List ℕ → TpRange → Bool
around s r = leb r.start (offset s) && leb (end_of s) r.end

abbrev pub Lies : List TpRange → List ℕ → Type 0
Lies rs s = any (around s) rs ≡ true

-- a range that has the place, counted from 1, of the latest of them that lies in it
pub record Numbered (segs : List (List ℕ)) (r : TpRange) : Type 0 where
  pub segment : List ℕ
  pub latest : Latest (λ s. around s r) segs segment
  pub its_place : r.number ≡ length latest.before + 1

-- the end that is known
pub record Ended (segs : List (List ℕ)) (e : Option ℕ) : Type 0 where
  pub by : (s : List ℕ) → Latest final segs s → e ≡ Some (end_of s)
  pub by_none : any final segs ≡ false → e ≡ None

-- the whole ends at e: a final one of them ends there, and none past it
pub record WholeEnds (segs : List (List ℕ)) (e : ℕ) : Type 0 where
  pub last : List ℕ
  pub among : OneOf last segs
  pub is_final : final last ≡ true
  pub there : end_of last ≡ e
  pub none_past : All (λ s. end_of s ≤ e) segs

-- the buffer c: each place of the payload and of the header
pub record Filled (b : List ℕ) (segs : List (List ℕ)) (c : List ℕ) : Type 0 where
  pub size : length c ≡ length b
  pub covers : (x : ℕ) (s : List ℕ) → Latest (spans x) segs s → get_or c (16 + x) 0 ≡ brought x s
  pub others : (x : ℕ) → any (spans x) segs ≡ false → get_or c (16 + x) 0 ≡ get_or b (16 + x) 0
  pub headed : (i : ℕ) → i < 16 → (s : List ℕ) → Latest heads segs s → get_or c i 0 ≡ get_or (header s) i 0
  pub unheaded : (i : ℕ) → i < 16 → any heads segs ≡ false → get_or c i 0 ≡ get_or b i 0

-- the report m of e bytes of payload: a header with the length field, and the newest bytes
pub record Reported (segs : List (List ℕ)) (e : ℕ) (m : List ℕ) : Type 0 where
  pub from : List ℕ
  pub latest : Latest heads segs from
  pub bytes : List ℕ
  pub whole : m ≡ pasted (header from) 4 (be32 (e + 8)) ++ bytes
  pub size : length bytes ≡ e
  pub all : (x : ℕ) → x < e → any (spans x) segs ≡ true
  pub newest : (x : ℕ) → x < e → (s : List ℕ) → Latest (spans x) segs s → get_or bytes x 0 ≡ brought x s

-- ---- the numbers of a state: a count that 32 bits hold, no number twice, and the latest accepted segment's is some range's
pub record Numbers (p : State) : Type 0 where
  pub fits : p.count ≤ last_number
  pub apart : Pairwise (λ a b. a.number ≢ b.number) p.ranges
  pub latest : p.count ≢ 0 → (r : TpRange) × OneOf r p.ranges × (r.number ≡ p.count)

-- ---- what is not seen: the order of the ranges, and numbers

-- two lists of the same ranges, as sets
pub record SameSet (rs qs : List TpRange) : Type 0 where
  pub there : All (λ r. OneOf r qs) rs
  pub back : All (λ r. OneOf r rs) qs

-- two states that hold the same ranges
pub record Same (p q : State) : Type 0 where
  pub limit : p.limit ≡ q.limit
  pub ranges : Rearranged p.ranges q.ranges
  pub end : p.end ≡ q.end
  pub count : p.count ≡ q.count

-- a range without its number
abbrev pub unnumbered : TpRange → TpRange
unnumbered r = range r.start r.end 0

-- two states that differ only in numbers and count
pub record SamePlaces (p q : State) : Type 0 where
  pub limit : p.limit ≡ q.limit
  pub ranges : map unnumbered p.ranges ≡ map unnumbered q.ranges
  pub end : p.end ≡ q.end

-- two calls that answer alike, write the same, and leave states that are so related
pub record Alike (Related : State → State → Type 0) (x y : Out) : Type 0 where
  pub answer : x.answer ≡ y.answer
  pub state : Related x.state y.state
  pub buffer : x.buffer ≡ y.buffer
