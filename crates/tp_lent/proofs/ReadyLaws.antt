-- Words that are not unready, and what follows where their ranges stand in order: the state is not malformed. Assumes nothing.
use Rattle.std.specs.Prelude.{Some, None}
use Prim.Native.Nat.{ℕ, ◌-◌, ◌≤◌, ◌<◌}
use mathlib.Core.Path.{◌≡◌, refl, sym, ap, subst, ◌∙◌}
use mathlib.Core.Bool.{Bool, true, false, cond}
use mathlib.Core.List.{List}
use native.Mathlib.Omega.{arith}
use borrow.Author.Tests.{ltb-false, le-ltb, eqb-true, eqb-false}
use lib.Dec.{ltb, eqb}
use lib.ListN.{length, take, get_or}
use lib.Seq.{length-take-le, get_or-take}
use Rattle.numbers.proofs.TestLaws.{or_inv}
use Rattle.tp_machine.specs.declared.TpRange.{TpRange}
use Rattle.tp_machine.specs.Ranges.{any, some_touch, greatest_end}
use Rattle.tp_machine.specs.Machine.{most, highest, State, bad_range, end_past, bad_state}
use Rattle.tp_machine.specs.Meaning.{Good}
use Rattle.tp_machine.proofs.Tests as tests
use Rattle.tp_range.specs.Joining.{none}
use Rattle.tp_rules.specs.Malformed.{Reach}
use Rattle.tp_rules.proofs.MalformedLaws.{reach_limit, reach_end}
use Rattle.tp_stream.specs.declared.TpStream.{TpStream}
use Rattle.tp_stream.specs.Stream.{held as all_held, view}
use Rattle.tp_stream.proofs.StreamLaws.{held_take}
use Rattle.tp_stream.proofs.MalformedLaws.{two_touch}
use Rattle.tp_words.specs.Words.{size, ranges_in, end_of, unfit, held_in, stream_of, state_of}
use Rattle.tp_words.proofs.WordLaws.{in_length}
use Rattle.tp_words.proofs.PutLaws.{fit, told}
use Rattle.tp_range.specs.Ordered.{rising}
use Rattle.tp_lent.specs.Lent.{held, top_of, unready, last_end}
use Rattle.tp_lent.proofs.PlaceLaws.{ranges_at}
use Rattle.tp_lent.proofs.RisingLaws.{none_bad, none_touch, greatest_last}

-- how far ranges may reach, by the two words that tell of the end
module _ (known end limit : ℕ) where
  abbrev top : ℕ
  top = cond (eqb known 0) limit end

  not_past : (b : Bool) → eqb known 0 ≡ b → top ≤ limit → end_past (end_of known end) limit ≡ false
  not_past true e h = rw e
  not_past false e h = rw e (le-ltb limit end (subst (λ (t : Bool). cond t limit end ≤ limit) e h))

  reach_top : (b : Bool) → eqb known 0 ≡ b → top ≤ limit → (p : State) → p.limit ≡ limit → p.end ≡ end_of known end → Reach p top
  reach_top true e h p l q = subst (Reach p) (sym (ap (λ (t : Bool). cond t limit end) e)) (reach_limit p limit l (q ∙ ap (λ (t : Bool). cond t None (Some end)) e))
  reach_top false e h p l q =
      subst (Reach p) (sym (ap (λ (t : Bool). cond t limit end) e))
      (reach_end p limit (end_of known end) end (not_past false e h) l q (ap (λ (t : Bool). cond t None (Some end)) e))

-- ---- words that are fit: the state that they hold, by its fields
module _ (ws : List ℕ) (fit-so : unfit ws ≡ false) where
  read : held_in ws ≡ stream_of ws
  read = told ws fit-so

  pub state_limit : (state_of ws).limit ≡ get_or ws 0 0
  unfolding held_in
  state_limit = ap (λ (s : TpStream). s.limit) (sym read)

  pub state_end : (state_of ws).end ≡ end_of (get_or ws 2 0) (get_or ws 3 0)
  unfolding held_in
  state_end = ap (λ (s : TpStream). s.end) (sym read)

  pub state_count : (state_of ws).count ≡ get_or ws 4 0
  unfolding held_in
  state_count = ap (λ (s : TpStream). s.accepted) (sym read)

  pub state_ranges : (state_of ws).ranges ≡ all_held (get_or ws 1 0) (ranges_in ws most)
  unfolding held_in
  state_ranges = ap (λ (s : TpStream). (view s).ranges) (sym read)

module _ (ws : List ℕ) (ready : unready ws ≡ false) where
  abbrev limit : ℕ
  limit = get_or ws 0 0

  abbrev count : ℕ
  count = get_or ws 1 0

  abbrev known : ℕ
  known = get_or ws 2 0

  abbrev p : State
  p = state_of ws

  pub fits : unfit ws ≡ false
  fits = (or_inv (unfit ws) _ ready).0

  pub enough : size ≤ length ws
  enough = fit ws fits

  pub few : count ≤ most
  few = ltb-false most count (or_inv (ltb most count) _ (or_inv (unfit ws) _ ready).1).0

  last_tests : (ltb highest limit ≡ false) × (ltb limit (top_of ws) ≡ false)
  last_tests = or_inv (ltb highest limit) (ltb limit (top_of ws)) (or_inv (ltb most count) _ (or_inv (unfit ws) _ ready).1).1

  pub low : limit ≤ highest
  low = ltb-false highest limit last_tests.0

  reaches : top_of ws ≤ limit
  reaches = ltb-false limit (top_of ws) last_tests.1

  pub limit_is : p.limit ≡ limit
  limit_is = state_limit ws fits

  pub end_is : p.end ≡ end_of known (get_or ws 3 0)
  end_is = state_end ws fits

  pub count_is : p.count ≡ get_or ws 4 0
  count_is = state_count ws fits

  pub ranges_are : p.ranges ≡ held ws
  ranges_are = state_ranges ws fits ∙ held_take count (ranges_in ws most) (omega (arith, in_length ws most, few))

  pub reach : Reach p (top_of ws)
  reach = reach_top known (get_or ws 3 0) limit (eqb known 0) refl reaches p limit_is end_is

  -- ---- where its ranges stand in order
  module _ (order : rising (bad_range p) 0 (held ws) ≡ true) where
    pub not_malformed : bad_state p ≡ false
    unfolding held_in
    not_malformed =
        let same : view (held_in ws) ≡ p = ap view (told ws fits) in
        let rises : rising (bad_range p) 0 p.ranges ≡ true = ap (rising (bad_range p) 0) ranges_are ∙ order in
        ap bad_state (sym same)
        ∙ sym (two_touch (held_in ws) few low (not_past known (get_or ws 3 0) limit (eqb known 0) refl reaches) (ap (λ (x : State). any (bad_range x) x.ranges) same ∙ none_bad p 0 p.ranges rises))
        ∙ ap (λ (x : State). some_touch x.ranges) same ∙ none_touch p 0 p.ranges rises

    pub good : Good p
    good = (tests.good_means p).0 not_malformed

    -- the last range's end is the greatest
    pub last_is : last_end ws count ≡ greatest_end p.ranges
    unfolding greatest_end
    last_is = go (eqb count 0) refl ∙ ap greatest_end (sym ranges_are)
      where
        many : length (held ws) ≡ count
        many = length-take-le count (ranges_in ws most) (omega (arith, in_length ws most, few))

        go : (b : Bool) → eqb count 0 ≡ b → last_end ws count ≡ greatest_end (held ws)
        go true e =
            let nothing : count ≡ 0 = eqb-true count 0 e in
            rw e (ap (λ (n : ℕ). greatest_end (take n (ranges_in ws most))) (sym nothing))
        go false e =
            let some : count - 1 < count = omega (arith, eqb-false count 0 e) in
            rw e
            (ap (λ (r : TpRange). r.end) (sym (get_or-take count (ranges_in ws most) (count - 1) none some ∙ ranges_at ws most (count - 1) (omega (arith, some, few))))
            ∙ greatest_last p 0 (held ws) order (count - 1) (omega (arith, many, some)))
