-- What is shown of the machine: each a statement, and all of them together at the end. Assumes nothing: these are definitions.
use Rattle.std.specs.Prelude.{ℕ, ◌+◌, ◌≤◌, ◌<◌, ◌≡◌, Bool, true, false, ◌||◌, List, [], ◌∷◌, map, ◌↔◌, length, take, get_or, Some, None}
use Rattle.numbers.specs.Bytes.{be32}
use Rattle.numbers.specs.Refusals.{Refusal}
use Rattle.numbers.specs.Answers.{accepted, refused, pass, All}
use Rattle.numbers.specs.Rules.{Follows}
use Rattle.tp_machine.specs.declared.TpRange.{TpRange}
use Rattle.tp_machine.specs.Lists.{OneOf, Rearranged, Latest}
use Rattle.tp_machine.specs.Segments.{is_segment, header, pasted, written}
use Rattle.tp_machine.specs.Ranges.{any, joined, greatest_end}
use Rattle.tp_machine.specs.Machine.{highest, last_number, State, Out, bad_state, taken, judged, step, begun, begin, opened, fed, clear}
use Rattle.tp_machine.specs.Taking.{complete, ready, Taken, taking}
use Rattle.tp_machine.specs.Telling.{range_told, count_told}
use Rattle.tp_machine.specs.Meaning.{Segment, HeaderOf, range, InOrder, Good, Greatest, Accepted, Complete, FirstFrom}
use Rattle.tp_machine.specs.Rules.{begin_rules, segment_rules, taking_rules, range_rules, count_rules}
use Rattle.tp_machine.specs.Runs.{Reached, admitted, holds, covered, spans, brought, Made, Lies, Numbered, Ended, WholeEnds, Filled, Reported, Numbers, SameSet, Same, unnumbered, SamePlaces, Alike}
use Rattle.tp_machine.specs.Cases.{Cases}
use Rattle.tp_machine.specs.Bounds.{Bounds}
use Rattle.tp_machine.specs.Order.{Order}
use Rattle.tp_machine.specs.AnyOrder.{OrderDoesNotMatter, RearrangedMeans, CompleteExactly, SomeFollow, RestIsEnough}
use Rattle.tp_machine.specs.AnyOrderCases.{AnyOrderCases}

-- ---- the tests mean what the rules say, both ways
abbrev pub SegmentMeans : Type 0
SegmentMeans = (s : List ℕ) → (is_segment s ≡ true) ↔ Segment s

abbrev pub HeaderMeans : Type 0
HeaderMeans = (s : List ℕ) → 20 ≤ length s → HeaderOf s (header s)

abbrev pub GoodMeans : Type 0
GoodMeans = (p : State) → (bad_state p ≡ false) ↔ Good p

abbrev pub AcceptedMeans : Type 0
AcceptedMeans = (p : State) (seg : List ℕ) (room : ℕ) → (judged p seg room ≡ pass) ↔ Accepted p seg room

-- of one range or more; of none it is 0, below which no end lies
abbrev pub GreatestMeans : Type 0
GreatestMeans = (r : TpRange) (rs : List TpRange) (x : ℕ) → (greatest_end (r ∷ rs) ≡ x) ↔ Greatest (r ∷ rs) x

abbrev pub CompleteMeans : Type 0
CompleteMeans = (p : State) → (complete p ≡ true) ↔ Complete p

-- the range that is told is the first, and it is told with its number
abbrev pub RangeMeans : Type 0
RangeMeans = (p : State) (x : ℕ) (r : TpRange) → (range_told p x ≡ accepted r) ↔ (Good p × FirstFrom p.ranges x r)

abbrev pub CountMeans : Type 0
CountMeans = (p : State) (n : ℕ) → (count_told p ≡ accepted n) ↔ (Good p × (p.count ≡ n))

-- ---- the first refusal, with its values: each call is refused exactly as the rules say, and accepted exactly where they accept
pub record RulesFollowed : Type 0 where
  pub begins : (limit : ℕ) → Follows (begun limit) (begin_rules limit)
  pub segment : (p : State) (seg : List ℕ) (room : ℕ) → Follows (judged p seg room) (segment_rules p seg room)
  pub taken : (p : State) (room : ℕ) → Follows (ready p room) (taking_rules p room)
  pub range : (p : State) (x : ℕ) → Follows (range_told p x) (range_rules p x)
  pub count : (p : State) → Follows (count_told p) (count_rules p)

-- ---- a stream that is begun or cleared holds nothing: with 36 its limit is 0, and clearing keeps the limit
pub record Empty (limit : ℕ) (p : State) : Type 0 where
  pub limit_is : p.limit ≡ limit
  pub no_range : p.ranges ≡ []
  pub no_end : p.end ≡ None
  pub none_counted : p.count ≡ 0

pub record Empties : Type 0 where
  pub begins : (limit : ℕ) → limit ≤ 65520 → Empty limit (begin limit)
  pub refuses : (limit : ℕ) → 65520 < limit → Empty 0 (begin limit)
  pub clears : (p : State) → Empty p.limit (clear p)
  -- so what is shown of a stream that was begun holds of one that was cleared
  pub cleared_is_begun : (p : State) → p.limit ≤ highest → clear p ≡ begin p.limit

-- ---- one call: its answer is the first refusal or none; what an accepted segment leaves, and that a refusal leaves state and buffer as they were
pub record Stepped (p : State) (seg buf : List ℕ) (o : Out) : Type 0 where
  pub answer : o.answer ≡ judged p seg (length buf)
  pub accepts : o.answer ≡ pass → (o.state ≡ taken p seg) × (o.buffer ≡ written buf seg)
  pub refuses : (r : Refusal) → o.answer ≡ refused r → (o.state ≡ p) × (o.buffer ≡ buf)

abbrev pub EveryStep : Type 0
EveryStep = (p : State) (seg buf : List ℕ) → Stepped p seg buf (step p seg buf)

-- the report is taken: bytes 4 to 7 become the end plus 8, and the first 16 plus that end bytes come back; a refusal leaves the buffer as it was
-- and hands back an empty part
pub record TakenFrom (p : State) (buf : List ℕ) (t : Taken) : Type 0 where
  pub answer : t.answer ≡ ready p (length buf)
  pub accepts : (e : ℕ) → t.answer ≡ accepted e → (number : ℕ) × (p.ranges ≡ range 0 e number ∷ []) × (t.buffer ≡ pasted buf 4 (be32 (e + 8))) × (t.part ≡ take (16 + e) t.buffer)
  pub refuses : (r : Refusal) → t.answer ≡ refused r → (t.buffer ≡ buf) × (t.part ≡ [])

abbrev pub EveryTaking : Type 0
EveryTaking = (p : State) (buf : List ℕ) → TakenFrom p buf (taking p buf)

-- the bytes of the buffer are not seen, only how many they are
abbrev pub BytesUnseen : Type 0
BytesUnseen = (p : State) (seg b c : List ℕ) → length b ≡ length c → ((step p seg b).answer ≡ (step p seg c).answer) × ((step p seg b).state ≡ (step p seg c).state)

-- ---- joining: the places covered are those of the new range and of the old ones; the set of ranges depends on the set before
abbrev pub JoiningCovers : Type 0
JoiningCovers = (n : TpRange) (rs : List TpRange) (x : ℕ) → covered (joined n rs) x ≡ (holds x n || covered rs x)

abbrev pub JoiningOrderUnseen : Type 0
JoiningOrderUnseen = (n : TpRange) (rs qs : List TpRange) → Rearranged rs qs → Rearranged (joined n rs) (joined n qs)

-- after an accepted segment that set depends on it and, for the new number, on the count: neither on limit, end and order before, nor on the buffer.
-- What the ranges span does not depend on numbers and count either
pub record RangesDepend : Type 0 where
  pub with_numbers : (p q : State) (seg b c : List ℕ) → (step p seg b).answer ≡ pass → (step q seg c).answer ≡ pass → p.count ≡ q.count → Rearranged p.ranges q.ranges
      → Rearranged (step p seg b).state.ranges (step q seg c).state.ranges
  pub without : (p q : State) (seg b c : List ℕ) → (step p seg b).answer ≡ pass → (step q seg c).answer ≡ pass → Rearranged (map unnumbered p.ranges) (map unnumbered q.ranges)
      → Rearranged (map unnumbered (step p seg b).state.ranges) (map unnumbered (step q seg c).state.ranges)

-- ---- ranges told one after the other: each is told where it begins, and who asks again behind its end misses none
pub record EachTold (p : State) : Type 0 where
  pub own : (r : TpRange) → OneOf r p.ranges → range_told p r.start ≡ accepted r
  pub none_missed : (r q : TpRange) → OneOf r p.ranges → OneOf q p.ranges → r.start < q.start → r.end + 1 ≤ q.start

abbrev pub EveryRange : Type 0
EveryRange = (p : State) → Good p → EachTold p

-- ---- runs: no malformed state is come to, so that ranges stay apart and within the limit
abbrev pub NeverMalformed : Type 0
NeverMalformed = (p : State) → Reached p → Good p

-- where an end is known it is the greatest end held: a range reaches it, and none passes it
abbrev pub EndIsGreatest : Type 0
EndIsGreatest = (p : State) → Reached p → (e : ℕ) → p.end ≡ Some e → Greatest p.ranges e

-- so a complete stream's one range ends at the known end; its number is the count
abbrev pub CompleteEnds : Type 0
CompleteEnds = (p : State) → Reached p → complete p ≡ true → (e : ℕ) × (p.end ≡ Some e) × (p.ranges ≡ range 0 e p.count ∷ [])

-- joining keeps ranges in order, so those of every state that a run comes to are
pub record KeptInOrder : Type 0 where
  pub joins : (n : TpRange) (rs : List TpRange) → n.start ≤ n.end → All (λ r. r.start ≤ r.end) rs → InOrder rs → InOrder (joined n rs)
  pub reached : (p : State) → Reached p → InOrder p.ranges

-- no two ranges have the same number, and where a segment was accepted some range has the latest one's
abbrev pub EveryNumber : Type 0
EveryNumber = (p : State) → Reached p → Numbers p

-- the latest segment that passes a test has one place among them
abbrev pub LatestIsOne : Type 0
LatestIsOne = (test : List ℕ → Bool) (segs : List (List ℕ)) (s t : List ℕ) (l : Latest test segs s) (m : Latest test segs t) → (l.before ≡ m.before) × (s ≡ t) × (l.behind ≡ m.behind)

-- what segments, accepted or refused, leave of a fresh stream over a buffer
pub record Run (limit : ℕ) (buf : List ℕ) (ss : List (List ℕ)) : Type 0 where
  pub good : Good (fed (opened limit buf) ss).state
  pub limit_stays : (fed (opened limit buf) ss).state.limit ≡ (begin limit).limit
  pub covers : (x : ℕ) → covered (fed (opened limit buf) ss).state.ranges x ≡ any (spans x) (admitted (opened limit buf) ss)
  pub made : All (Made (admitted (opened limit buf) ss)) (fed (opened limit buf) ss).state.ranges
  pub lie : All (Lies (fed (opened limit buf) ss).state.ranges) (admitted (opened limit buf) ss)
  -- how many were accepted, and of each range which of them came last
  pub counted : (fed (opened limit buf) ss).state.count ≡ length (admitted (opened limit buf) ss)
  pub numbered : All (Numbered (admitted (opened limit buf) ss)) (fed (opened limit buf) ss).state.ranges
  pub ended : Ended (admitted (opened limit buf) ss) (fed (opened limit buf) ss).state.end
  pub filled : Filled buf (admitted (opened limit buf) ss) (fed (opened limit buf) ss).buffer
  -- under the ranges stands what the latest accepted segment that covers the place brought, elsewhere what was lent
  pub under : (x : ℕ) → covered (fed (opened limit buf) ss).state.ranges x ≡ true
      → (s : List ℕ) × Latest (spans x) (admitted (opened limit buf) ss) s × (get_or (fed (opened limit buf) ss).buffer (16 + x) 0 ≡ brought x s)
  pub elsewhere : (x : ℕ) → covered (fed (opened limit buf) ss).state.ranges x ≡ false → get_or (fed (opened limit buf) ss).buffer (16 + x) 0 ≡ get_or buf (16 + x) 0

abbrev pub EveryRun : Type 0
EveryRun = (limit : ℕ) (buf : List ℕ) (ss : List (List ℕ)) → Run limit buf ss

-- a complete stream's report is given, whatever came: the one range's bytes; of the buffer, bytes 4 to 7 change
pub record Given (o : Out) (segs : List (List ℕ)) : Type 0 where
  pub size : ℕ
  pub one_range : o.state.ranges ≡ range 0 size o.state.count ∷ []
  pub answer : (taking o.state o.buffer).answer ≡ accepted size
  pub buffer : (taking o.state o.buffer).buffer ≡ pasted o.buffer 4 (be32 (size + 8))
  pub reported : Reported segs size (taking o.state o.buffer).part

abbrev pub EveryReport : Type 0
EveryReport = (limit : ℕ) (buf : List ℕ) (ss : List (List ℕ)) → complete (fed (opened limit buf) ss).state ≡ true → Given (fed (opened limit buf) ss) (admitted (opened limit buf) ss)

-- its one range ends at the known end, which is the end of a final segment that was accepted, and none that was ends past it; the report has 16
-- plus that end bytes
pub record Closed (o : Out) (segs : List (List ℕ)) : Type 0 where
  pub end : ℕ
  pub known : o.state.end ≡ Some end
  pub one_range : o.state.ranges ≡ range 0 end o.state.count ∷ []
  pub whole : WholeEnds segs end
  pub report_length : length (taking o.state o.buffer).part ≡ 16 + end

abbrev pub EveryEnd : Type 0
EveryEnd = (limit : ℕ) (buf : List ℕ) (ss : List (List ℕ)) → complete (fed (opened limit buf) ss).state ≡ true → Closed (fed (opened limit buf) ss) (admitted (opened limit buf) ss)

-- ---- the order of the ranges is not seen: well-formed states with the same set of ranges differ only in it
abbrev pub SetIsOrder : Type 0
SetIsOrder = (p q : State) → Good p → Good q → SameSet p.ranges q.ranges → Rearranged p.ranges q.ranges

-- no call sees it, in any state
pub record Unseen (p q : State) : Type 0 where
  pub malformed : bad_state p ≡ bad_state q
  pub step_alike : (seg buf : List ℕ) → Alike Same (step p seg buf) (step q seg buf)
  pub complete_alike : complete p ≡ complete q
  pub taking_alike : (buf : List ℕ) → taking p buf ≡ taking q buf
  pub clear_alike : clear p ≡ clear q
  pub range_alike : (x : ℕ) → range_told p x ≡ range_told q x
  pub count_alike : count_told p ≡ count_told q

abbrev pub OrderUnseen : Type 0
OrderUnseen = (p q : State) → Same p q → Unseen p q

abbrev pub RunsAlike : Type 0
RunsAlike = (x y : Out) → Alike Same x y → (ss : List (List ℕ)) → Alike Same (fed x ss) (fed y ss)

-- ---- nor are numbers: well-formed states that differ only in them answer alike and leave states that differ only in them, but for 39
pub record NumbersHidden (p q : State) : Type 0 where
  pub step_alike : p.count < last_number → q.count < last_number → (seg buf : List ℕ) → Alike SamePlaces (step p seg buf) (step q seg buf)
  pub complete_alike : complete p ≡ complete q
  pub taking_alike : (buf : List ℕ) → taking p buf ≡ taking q buf
  pub clear_alike : clear p ≡ clear q

abbrev pub NumbersUnseen : Type 0
NumbersUnseen = (p q : State) → SamePlaces p q → Good p → Good q → NumbersHidden p q

-- nor by segments one after the other, as long as each has a number left
pub record Ample (o : Out) (ss : List (List ℕ)) : Type 0 where
  pub good : Good o.state
  pub left : o.state.count + length ss ≤ last_number

abbrev pub RunsHideNumbers : Type 0
RunsHideNumbers = (x y : Out) (ss : List (List ℕ)) → Ample x ss → Ample y ss → Alike SamePlaces x y → Alike SamePlaces (fed x ss) (fed y ss)

-- ---- all of them
pub record Theorems : Type 0 where
  pub segment_means : SegmentMeans
  pub header_means : HeaderMeans
  pub good_means : GoodMeans
  pub accepted_means : AcceptedMeans
  pub greatest_means : GreatestMeans
  pub complete_means : CompleteMeans
  pub range_means : RangeMeans
  pub count_means : CountMeans
  -- what is refused, and in which order
  pub rules_followed : RulesFollowed
  pub order : Order
  pub empties : Empties
  pub every_step : EveryStep
  pub every_taking : EveryTaking
  pub bytes_unseen : BytesUnseen
  pub joining_covers : JoiningCovers
  pub joining_order_unseen : JoiningOrderUnseen
  pub ranges_depend : RangesDepend
  pub every_range : EveryRange
  pub never_malformed : NeverMalformed
  pub end_is_greatest : EndIsGreatest
  pub complete_ends : CompleteEnds
  pub kept_in_order : KeptInOrder
  pub every_number : EveryNumber
  pub latest_is_one : LatestIsOne
  pub every_run : EveryRun
  pub every_report : EveryReport
  pub every_end : EveryEnd
  pub set_is_order : SetIsOrder
  pub order_unseen : OrderUnseen
  pub runs_alike : RunsAlike
  pub numbers_unseen : NumbersUnseen
  pub runs_hide_numbers : RunsHideNumbers
  -- the order in which segments come does not matter
  pub order_does_not_matter : OrderDoesNotMatter
  pub rearranged_means : RearrangedMeans
  pub complete_exactly : CompleteExactly
  pub some_follow : SomeFollow
  pub rest_is_enough : RestIsEnough
  pub any_order_cases : AnyOrderCases
  -- the rules' marked case, and what else is computed
  pub cases : Cases
  pub bounds : Bounds
