-- Order doesn't matter: a list of segments and a rearrangement of it, each fed to a fresh stream, give the same report. The request's sentences first,
-- then what a rearrangement is, when a stream is complete, and which of the conditions follow. Instances, and that the others are needed, are in
-- specs/AnyOrderCases.antt. Assumes nothing: these are definitions.
use Rattle.std.specs.Prelude.{ℕ, ◌≤◌, ◌<◌, ◌≡◌, Bool, true, false, ◌&&◌, List, [], ◌∷◌, ◌↔◌, ◌≢◌, length, eqb}
use Rattle.numbers.specs.Answers.{accepted, pass, All}
use Rattle.tp_machine.specs.Lists.{counted, Pairwise, Rearranged}
use Rattle.tp_machine.specs.Segments.{offset, size, end_of}
use Rattle.tp_machine.specs.Ranges.{any}
use Rattle.tp_machine.specs.Machine.{Out, step, opened, fed}
use Rattle.tp_machine.specs.Taking.{complete, taking}
use Rattle.tp_machine.specs.Meaning.{Segment}
use Rattle.tp_machine.specs.Runs.{admitted, spans, final, Has, WholeEnds}

-- ---- 'Take a list of segments, none empty, no two overlapping, exactly one final and its end the greatest, one at offset 0.'

abbrev pub Segments : List (List ℕ) → Type 0
Segments ss = All Segment ss

abbrev pub NoneEmpty : List (List ℕ) → Type 0
NoneEmpty ss = All (λ s. size s ≢ 0) ss

-- a place of the payload that both span
abbrev pub Overlap : List ℕ → List ℕ → Type 0
Overlap s t = (x : ℕ) × (spans x s ≡ true) × (spans x t ≡ true)

abbrev pub NoTwoOverlap : List (List ℕ) → Type 0
NoTwoOverlap ss = Pairwise (λ s t. ¬ Overlap s t) ss

abbrev pub OneFinal : List (List ℕ) → Type 0
OneFinal ss = counted final ss ≡ 1

abbrev pub ItsEndGreatest : List (List ℕ) → Type 0
ItsEndGreatest ss = All (λ s. final s ≡ true → All (λ t. end_of t ≤ end_of s) ss) ss

abbrev pub OneAtZero : List (List ℕ) → Type 0
OneAtZero ss = Has offset ss 0

pub record Suited (ss : List (List ℕ)) : Type 0 where
  pub segments : Segments ss
  pub none_empty : NoneEmpty ss
  pub no_two_overlap : NoTwoOverlap ss
  pub one_final : OneFinal ss
  pub its_end_greatest : ItsEndGreatest ss
  pub one_at_zero : OneAtZero ss

-- ---- 'If the list and a rearrangement of it are each fed to a fresh stream, limits and buffer lengths equal, and no segment is refused in either'

-- a fresh stream's limit, the buffer that is lent, and the segments as they come
pub record Feed : Type 0 where
  pub limit : ℕ
  pub buffer : List ℕ
  pub segments : List (List ℕ)

abbrev pub opening : Feed → Out
opening f = opened f.limit f.buffer

abbrev pub outcome : Feed → Out
outcome f = fed (opening f) f.segments

abbrev pub AllPass : Out → List (List ℕ) → Type 0
AllPass o [] = Unit {0}
AllPass o (s ∷ ss) = ((step o.state s o.buffer).answer ≡ pass) × AllPass (step o.state s o.buffer) ss

abbrev pub NoneRefused : Feed → Type 0
NoneRefused f = AllPass (opening f) f.segments

pub record EachFed (f g : Feed) : Type 0 where
  pub rearranged : Rearranged f.segments g.segments
  pub limits : f.limit ≡ g.limit
  pub buffer_lengths : length f.buffer ≡ length g.buffer
  pub none_refused : NoneRefused f
  pub none_refused_either : NoneRefused g

-- ---- 'then both are complete or neither is, and when complete the reports taken are equal byte for byte.'

-- two reports are given, and they are the same bytes
pub record SameReport (x y : Out) : Type 0 where
  pub end : ℕ
  pub given : (taking x.state x.buffer).answer ≡ accepted end
  pub given_too : (taking y.state y.buffer).answer ≡ accepted end
  pub equal : (taking x.state x.buffer).part ≡ (taking y.state y.buffer).part

pub record Agree (x y : Out) : Type 0 where
  pub both_or_neither : complete x.state ≡ complete y.state
  pub reports_equal : complete x.state ≡ true → SameReport x y

-- ---- the request
abbrev pub OrderDoesNotMatter : Type 0
OrderDoesNotMatter = (f g : Feed) → Suited f.segments → EachFed f g → Agree (outcome f) (outcome g)

-- ---- a rearrangement: the same segments, each the same number of times

unfoldable pub same : List ℕ → List ℕ → Bool
same [] [] = true
same [] (y ∷ t) = false
same (x ∷ s) [] = false
same (x ∷ s) (y ∷ t) = eqb x y && same s t

abbrev pub times : List ℕ → List (List ℕ) → ℕ
times s ss = counted (same s) ss

pub record RearrangedMeans : Type 0 where
  pub same_means : (s t : List ℕ) → (same s t ≡ true) ↔ (s ≡ t)
  pub means : (ss ts : List (List ℕ)) → Rearranged ss ts ↔ ((s : List ℕ) → times s ss ≡ times s ts)

-- ---- a stream is complete exactly when the segments that it accepted make a whole, of which no order is told

pub record Whole (segs : List (List ℕ)) : Type 0 where
  pub end : ℕ
  pub ends : WholeEnds segs end
  pub no_gap : (x : ℕ) → x < end → any (spans x) segs ≡ true

abbrev pub CompleteExactly : Type 0
CompleteExactly = (f : Feed) → (complete (outcome f).state ≡ true) ↔ Whole (admitted (opening f) f.segments)

-- ---- conditions that follow: where no segment is refused, all of them are segments, and a final one's end is the greatest; where moreover none is
-- empty and no two overlap, one at most is final
pub record Following (f : Feed) : Type 0 where
  pub segments : Segments f.segments
  pub its_end_greatest : ItsEndGreatest f.segments
  pub one_final : NoneEmpty f.segments → NoTwoOverlap f.segments → counted final f.segments ≤ 1

abbrev pub SomeFollow : Type 0
SomeFollow = (f : Feed) → NoneRefused f → Following f

-- ---- what is enough: that one is final, that one is at offset 0, and that limits and buffer lengths are equal, is not needed; and whether both are
-- complete is told by the segments alone
pub record Enough (f g : Feed) : Type 0 where
  pub both_or_neither : complete (outcome f).state ≡ complete (outcome g).state
  pub agree : NoneEmpty f.segments → NoTwoOverlap f.segments → Agree (outcome f) (outcome g)

abbrev pub RestIsEnough : Type 0
RestIsEnough = (f g : Feed) → Rearranged f.segments g.segments → NoneRefused f → NoneRefused g → Enough f g
