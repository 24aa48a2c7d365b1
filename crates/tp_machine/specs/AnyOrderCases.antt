-- Order doesn't matter, by computation: three segments in two orders, complete in both; three with a gap, complete in neither; what is not said; and
-- that 'none empty' and 'no two overlapping' are needed. (The other conditions follow, or nothing is complete without them: specs/AnyOrder.antt.)
-- Assumes nothing: these are definitions.
use Rattle.std.specs.Prelude.{ℕ, ◌≡◌, true, false, List, [], ◌∷◌, ◌++◌, map, take, get_or, set, replicate}
use Rattle.tp_machine.specs.Segments.{size}
use Rattle.tp_machine.specs.Taking.{complete, taking}
use Rattle.tp_machine.specs.Cases.{◌more_at◌, ◌final_at◌}
use Rattle.tp_machine.specs.AnyOrder.{Segments, NoneEmpty, NoTwoOverlap, OneFinal, ItsEndGreatest, OneAtZero, Suited, Feed, outcome, EachFed, SameReport, Agree}

infix 80 ◌of◌
-- a segment with another payload: as many bytes of that value
abbrev pub ◌of◌ : List ℕ → ℕ → List ℕ
◌of◌ s value = take 20 s ++ replicate (size s) value

-- with another message id: 0x12348002
abbrev pub renamed : List ℕ → List ℕ
renamed s = set s 3 2

-- two fresh streams over buffers of 80 bytes, with other bytes in them
abbrev pub over_zeros : List (List ℕ) → Feed
over_zeros ss = record { limit = 64; buffer = replicate 80 0; segments = ss }

abbrev pub over_nines : List (List ℕ) → Feed
over_nines ss = record { limit = 64; buffer = replicate 80 9; segments = ss }

abbrev pub report : Feed → List ℕ
report f = (taking (outcome f).state (outcome f).buffer).part

-- the numbers of the ranges that are held
abbrev pub numbers : Feed → List ℕ
numbers f = map (λ r. r.number) (outcome f).state.ranges

-- ---- complete in both, with the same report; complete in neither

-- 0 to 16, 16 to 32, and 32 to 36, the last
abbrev pub front : List ℕ
front = 16 more_at 0 of 0x61

abbrev pub middle : List ℕ
middle = 16 more_at 16 of 0x62

abbrev pub back : List ℕ
back = 4 final_at 32 of 0x63

pub record BothComplete (f g : Feed) (bytes : List ℕ) : Type 0 where
  pub suited : Suited f.segments
  pub each_fed : EachFed f g
  pub complete_one : complete (outcome f).state ≡ true
  pub complete_other : complete (outcome g).state ≡ true
  pub same_report : SameReport (outcome f) (outcome g)
  pub report_is : report f ≡ bytes

abbrev pub in_order : Feed
in_order = over_zeros (front ∷ middle ∷ back ∷ [])

abbrev pub last_first : Feed
last_first = over_nines (back ∷ front ∷ middle ∷ [])

abbrev pub Three : Type 0
Three =
    BothComplete in_order last_first
    ((0x12 ∷ 0x34 ∷ 0x80 ∷ 0x01 ∷ 0 ∷ 0 ∷ 0 ∷ 44 ∷ 0 ∷ 0 ∷ 0 ∷ 1 ∷ 1 ∷ 1 ∷ 0x02 ∷ 0 ∷ []) ++ (replicate 16 0x61 ++ (replicate 16 0x62 ++ replicate 4 0x63)))

pub record NeitherComplete (f g : Feed) : Type 0 where
  pub suited : Suited f.segments
  pub each_fed : EachFed f g
  pub incomplete_one : complete (outcome f).state ≡ false
  pub incomplete_other : complete (outcome g).state ≡ false

-- nothing comes from 16 to 32
abbrev pub gap_in_order : Feed
gap_in_order = over_zeros (16 more_at 0 ∷ 16 more_at 32 ∷ 4 final_at 48 ∷ [])

abbrev pub gap_last_first : Feed
gap_last_first = over_nines (4 final_at 48 ∷ 16 more_at 0 ∷ 16 more_at 32 ∷ [])

abbrev pub Gap : Type 0
Gap = NeitherComplete gap_in_order gap_last_first

-- ---- what is not said: bytes of the buffer behind the report, and numbers, differ
pub record NotSaid : Type 0 where
  pub byte_one : get_or (outcome in_order).buffer 79 0 ≡ 0
  pub byte_other : get_or (outcome last_first).buffer 79 0 ≡ 9
  pub numbers_one : numbers gap_in_order ≡ 1 ∷ 3 ∷ []
  pub numbers_other : numbers gap_last_first ≡ 2 ∷ 3 ∷ []

-- ---- the two conditions that are needed: 'none empty' and 'no two overlapping'

-- what is asked beside these two
pub record Besides (ss : List (List ℕ)) : Type 0 where
  pub segments : Segments ss
  pub one_final : OneFinal ss
  pub its_end_greatest : ItsEndGreatest ss
  pub one_at_zero : OneAtZero ss

-- the request, with one of the two alone
abbrev pub With : (List (List ℕ) → Type 0) → Type 0
With Kept = (f g : Feed) → Besides f.segments → Kept f.segments → EachFed f g → Agree (outcome f) (outcome g)

-- both streams are complete, and their reports have other bytes at a place
pub record Differ (f g : Feed) (place one other : ℕ) : Type 0 where
  pub each_fed : EachFed f g
  pub complete_one : complete (outcome f).state ≡ true
  pub complete_other : complete (outcome g).state ≡ true
  pub byte_one : get_or (report f) place 0 ≡ one
  pub byte_other : get_or (report g) place 0 ≡ other

-- segments that break this condition alone, in two orders, and that the request is false where the other one is kept alone
pub record Needed (Broken Kept : List (List ℕ) → Type 0) (ss ts : List (List ℕ)) (place one other : ℕ) : Type 0 where
  pub besides : Besides ss
  pub kept : Kept ss
  pub broken : ¬ Broken ss
  pub differ : Differ (over_zeros ss) (over_nines ts) place one other
  pub false_without : ¬ With Kept

-- an empty segment at offset 0 brings its header, so that of the later one is the report's
abbrev pub empty_one : List ℕ
empty_one = renamed (0 more_at 0)

abbrev pub NoneEmptyNeeded : Type 0
NoneEmptyNeeded = Needed NoneEmpty NoTwoOverlap (empty_one ∷ 16 final_at 0 ∷ []) (16 final_at 0 ∷ empty_one ∷ []) 3 1 2

-- the newest bytes win
abbrev pub of_ones : List ℕ
of_ones = 16 more_at 0 of 1

abbrev pub of_twos : List ℕ
of_twos = 32 final_at 0 of 2

abbrev pub NoTwoOverlapNeeded : Type 0
NoTwoOverlapNeeded = Needed NoTwoOverlap NoneEmpty (of_ones ∷ of_twos ∷ []) (of_twos ∷ of_ones ∷ []) 16 2 1

-- ---- all of them
pub record AnyOrderCases : Type 0 where
  pub three : Three
  pub gap : Gap
  pub not_said : NotSaid
  pub none_empty_needed : NoneEmptyNeeded
  pub no_two_overlap_needed : NoTwoOverlapNeeded
