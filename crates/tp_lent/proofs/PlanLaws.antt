-- A segment that is accepted at once: what its tests tell, and what is then done is what the machine does. Assumes nothing.
use Rattle.std.specs.Prelude.{Option, Some, ℕ}
use Prim.Native.Nat.{ℕ, ◌+◌, ◌-◌, ◌≤◌, ◌<◌, min, max}
use mathlib.Core.Path.{◌≡◌, refl, sym, ap, ap₂, ◌∙◌}
use mathlib.Core.Bool.{Bool, true, false, cond}
use mathlib.Core.List.{List, ◌∷◌, ◌++◌}
use native.Mathlib.Omega.{arith}
use borrow.Author.Tests.{ltb-false, le-ltb, lt-leb, eqb-true, eqb-false}
use lib.Dec.{eqb}
use lib.ListN.{length, take, drop, get_or}
use lib.Seq.{take-take, get_or-take, length-take-le}
use Rattle.numbers.specs.Refusals.{ranges_full, count_full}
use Rattle.numbers.specs.Answers.{pass, All}
use Rattle.numbers.proofs.AnswerLaws.{when_accepted, when_pass, all_map}
use Rattle.tp_machine.specs.declared.TpRange.{TpRange}
use Rattle.tp_machine.specs.Lists.{counted}
use Rattle.tp_machine.specs.Ranges.{grow, joined, ends_before, begins_by}
use Rattle.tp_machine.specs.Segments.{is_segment}
use Rattle.tp_machine.specs.Machine.{most, last_number, State, bad_range, previous, taken, too_many, counted_out, judged}
use Rattle.tp_machine.specs.Meaning.{range_of, InOrder}
use Rattle.tp_machine.proofs.Joining.{same_range}
use Rattle.tp_machine.proofs.InOrder.{joined_split, counted_less, counted_most, grow_none, grow_start, grow_end, grow_number}
use Rattle.tp_range.specs.Joining.{none, placed}
use Rattle.tp_segment.specs.declared.TpHeader.{TpHeader}
use Rattle.tp_segment.specs.Reading.{header_of}
use Rattle.tp_rules.specs.Judging.{header_judged, Passed}
use Rattle.tp_rules.specs.Writing.{written_at}
use Rattle.tp_rules.proofs.JudgingLaws.{header_passed}
use Rattle.tp_rules.proofs.WritingLaws.{written_fits}
use Rattle.tp_stream.specs.declared.TpStream.{TpStream}
use Rattle.tp_stream.specs.Stream.{stored}
use Rattle.tp_words.specs.Words.{size, range_at, ranges_in, end_of, held_in, state_of, flat, known, words_of, put}
use Rattle.tp_words.proofs.WordLaws.{in_length}
use Rattle.tp_words.proofs.PutLaws.{told, put_all}
use Rattle.tp_range.specs.Ordered.{rising}
use Rattle.tp_lent.specs.declared.planning.Plan.{Plan}
use Rattle.tp_lent.specs.Lent.{held, spread, spanned, unready, last_end, Planned, CarriedOut}
use Rattle.tp_lent.proofs.PlaceLaws.{ranges_at, spread_first, spread_behind, all_length, long}
use Rattle.tp_lent.proofs.RisingLaws.{rising_forth, rising_order, rising_numbers}
use Rattle.tp_lent.proofs.ReadyLaws.{fits, enough, few, limit_is, end_is, count_is, ranges_are, good, last_is}

-- a header that is not refused ends within the limit
pub within : (limit : ℕ) (end : (Option ℕ)) (least : ℕ) (h : TpHeader) (room : ℕ) → header_judged limit end least h room ≡ pass → h.offset + h.size ≤ limit
unfolding header_judged
within limit end least h room e = ltb-false limit (h.offset + h.size) (when_accepted _ _ _ tt e).0

module _ (ws seg : List ℕ) (room : ℕ) (ready : unready ws ≡ false) (is : is_segment seg ≡ true) (order : rising (bad_range (state_of ws)) 0 (held ws) ≡ true) where
  pub passed : (h : TpHeader) → h ≡ header_of seg → header_judged (get_or ws 0 0) (end_of (get_or ws 2 0) (get_or ws 3 0)) (cond h.more 0 (last_end ws (get_or ws 1 0))) h room ≡ pass
      → Passed (state_of ws) seg room (header_of seg)
  passed h e q =
      header_passed (state_of ws) seg room (good ws ready order) is
      ((λ i. header_judged (limit_is ws ready i) (end_is ws ready i) (cond (sym e i).more 0 (sym (last_is ws ready order) i)) (sym e i) room) ∙ q)

-- ---- what is done with it
module _ (ws seg buf : List ℕ) (plan : Plan) (is : Planned ws seg (length buf) plan) where
  abbrev array : List TpRange
  array = ranges_in ws most

  abbrev count : ℕ
  count = get_or ws 1 0

  abbrev p : State
  p = state_of ws

  abbrev new : TpRange
  new = range_of (get_or ws 4 0 + 1) seg

  pub room : size ≤ length ws
  room = enough ws is.ready

  many : length (held ws) ≡ count
  many = length-take-le count array (omega (arith, in_length ws most, few ws is.ready))

  forth : new.start ≤ new.end
  forth = omega arith

  each : All (λ r. r.start ≤ r.end) (held ws)
  each = rising_forth p 0 (held ws) is.found.order

  order : InOrder (held ws)
  order = rising_order p 0 (held ws) is.found.order

  pub before_behind : plan.found.before ≤ plan.found.behind
  before_behind = omega (arith, is.found.before, is.found.behind, counted_less new (held ws) forth each order)

  pub behind_count : plan.found.behind ≤ count
  behind_count = omega (arith, is.found.behind, counted_most new (held ws) forth each order, many)

  -- what follows of places and counts
  pub places : (plan.found.before ≤ plan.found.behind) × (plan.found.behind ≤ count) × (count ≤ most) × (plan.found.before + 1 + (count - plan.found.behind) ≤ most)
  places = (before_behind, behind_count, few ws is.ready, long ws room count plan.found.before plan.found.behind new before_behind behind_count (few ws is.ready) is.room_left)

  -- a range that is held is the words' own
  held_at : (i : ℕ) → i < count → get_or (held ws) i none ≡ range_at ws i
  held_at i h = get_or-take count array i none h ∙ ranges_at ws most i (omega (arith, h, few ws is.ready))

  -- the range has grown as the machine's does
  grows : spanned ws plan.found.before plan.found.behind plan.new ≡ grow new new (held ws)
  grows = ap (spanned ws plan.found.before plan.found.behind) is.new ∙ go (eqb plan.found.before plan.found.behind) refl
    where
      none_touched : plan.found.before ≡ plan.found.behind → counted (ends_before new.start) (held ws) ≡ counted (begins_by new.end) (held ws)
      none_touched e = sym is.found.before ∙ e ∙ is.found.behind

      go : (b : Bool) → eqb plan.found.before plan.found.behind ≡ b → spanned ws plan.found.before plan.found.behind new ≡ grow new new (held ws)
      go true e = rw e (sym (grow_none new (held ws) forth each order (none_touched (eqb-true plan.found.before plan.found.behind e))))
      go false e =
          let some : plan.found.before < plan.found.behind = omega (arith, before_behind, eqb-false plan.found.before plan.found.behind e) in
          let more : counted (ends_before new.start) (held ws) < counted (begins_by new.end) (held ws) = omega (arith, some, is.found.before, is.found.behind) in
          let first : get_or (held ws) (counted (ends_before new.start) (held ws)) none ≡ range_at ws plan.found.before = ap (λ (n : ℕ). get_or (held ws) n none) (sym is.found.before) ∙ held_at plan.found.before (omega (arith, some, behind_count)) in
          let last : get_or (held ws) (counted (begins_by new.end) (held ws) - 1) none ≡ range_at ws (plan.found.behind - 1) =
          ap (λ (n : ℕ). get_or (held ws) (n - 1) none) (sym is.found.behind) ∙ held_at (plan.found.behind - 1) (omega (arith, some, behind_count)) in
          rw e (same_range _ (grow new new (held ws))
          (sym (grow_start new (held ws) forth each order none more ∙ ap (λ (r : TpRange). min r.start new.start) first))
          (sym (grow_end new (held ws) forth each order none more ∙ ap (λ (r : TpRange). max r.end new.end) last))
          (sym (grow_number new (held ws) (all_map (λ r. r.number ≤ p.count) (λ r. r.number ≤ get_or ws 4 0 + 1) (λ r h. omega (arith, h, count_is ws is.ready)) (held ws) (rising_numbers p 0 (held ws) is.found.order)))))

  abbrev joined_so : TpRange → List TpRange
  joined_so g = take plan.found.before array ++ (g ∷ drop plan.found.behind (take count array))

  -- so the ranges are the machine's
  same : (g : TpRange) → g ≡ spanned ws plan.found.before plan.found.behind plan.new → joined_so g ≡ (taken p seg).ranges
  same g e =
      ap₂ {C = List TpRange} (λ (l : List TpRange) (x : TpRange). l ++ (x ∷ drop plan.found.behind (held ws))) (sym (take-take plan.found.before count array (omega (arith, before_behind, behind_count)))) (e ∙ grows)
      ∙ ap₂ {C = List TpRange} (λ (b u : ℕ). take b (held ws) ++ (grow new new (held ws) ∷ drop u (held ws))) is.found.before is.found.behind
      ∙ sym (joined_split new (held ws) forth each order)
      ∙ (λ i. joined (range_of (sym (count_is ws is.ready) i + 1) seg) (sym (ranges_are ws is.ready) i))

  module _ (g : TpRange) (grown : g ≡ spanned ws plan.found.before plan.found.behind plan.new) where
    pub joined_length : length (joined_so g) ≡ plan.found.before + 1 + (count - plan.found.behind)
    joined_length = all_length ws room count plan.found.before plan.found.behind g before_behind behind_count (few ws is.ready) is.room_left

    pub carried : (e : (Option ℕ)) → e ≡ cond plan.more (end_of (get_or ws 2 0) (get_or ws 3 0)) (Some plan.new.end) → (mid ws' : List ℕ) → mid ≡ spread ws (placed array (joined_so g))
        → ws' ≡ get_or mid 0 0 ∷ (plan.found.before + 1 + (count - plan.found.behind)) ∷ known e ∷ previous e ∷ plan.new.number ∷ drop 5 mid
        → (buf' : List ℕ) → buf' ≡ written_at buf plan.new.start seg → CarriedOut ws seg buf ws' buf'
    unfolding words_of held_in
    carried e ends mid ws' m w buf' b =
        let t : State = taken p seg in
        let rs : joined_so g ≡ t.ranges = same g grown in
        let end : e ≡ t.end =
        ends ∙ (λ i. cond (is.more_follows i) (sym (end_is ws is.ready) i) (Some (is.new i).end))
        in
        let limit : get_or mid 0 0 ≡ t.limit = ap (λ (l : List ℕ). get_or l 0 0) m ∙ spread_first ws room (placed array (joined_so g)) ∙ sym (limit_is ws is.ready) in
        let number : plan.new.number ≡ t.count = ap (λ (r : TpRange). r.number) is.new ∙ ap (λ (n : ℕ). n + 1) (sym (count_is ws is.ready)) in
        let behind : drop 5 mid ≡ flat (placed array t.ranges) ++ drop size ws = ap (drop 5) m ∙ spread_behind ws room (placed array (joined_so g)) ∙ ap (λ (l : List TpRange). flat (placed array l) ++ drop size ws) rs in
        record {
          words =
              w
              ∙ (λ i. limit i ∷ (sym joined_length ∙ ap length rs) i ∷ known (end i) ∷ previous (end i) ∷ number i ∷ behind i)
              ∙ put_all ws (stored (held_in ws) t) room (omega (arith, sym (ap length rs), joined_length, places))
              ∙ ap (λ (s : TpStream). put ws (stored s t)) (told ws (fits ws is.ready));
          buffer = b ∙ ap (λ (n : ℕ). written_at buf n seg) (ap (λ (r : TpRange). r.start) is.new) ∙ written_fits buf seg is.passed.long is.passed.fits;
        }

  -- the machine accepts the segment
  pub accepts : judged p seg (length buf) ≡ pass
  accepts =
      let g : TpRange = spanned ws plan.found.before plan.found.behind plan.new in
      let fewer : length (taken p seg).ranges ≤ most = omega (arith, sym (ap length (same g refl)), joined_length g refl, places) in
      is.passed.rest
      ∙ when_pass ranges_full (too_many p seg) _ (le-ltb most (length (taken p seg).ranges) fewer)
      ∙ when_pass count_full (counted_out p) pass (lt-leb last_number p.count (omega (arith, is.number_left, count_is ws is.ready)))
