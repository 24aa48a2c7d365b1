-- What it means that words are in order, and that every run's are. Assumes nothing.
use Rattle.std.specs.Prelude.{Option, Some, None, ℕ}
use Prim.Native.Nat.{ℕ, ◌+◌, ◌≤◌}
use mathlib.Core.Path.{◌≡◌, refl, sym, ap, subst, ◌∙◌}
use mathlib.Core.Bool.{Bool, true, false, cond, false≢true}
use mathlib.Core.List.{List, [], ◌∷◌}
use native.Mathlib.Nat.{le_refl}
use native.Mathlib.Omega.{arith}
use borrow.Author.Tests.{le-ltb}
use lib.Dec.{ltb, eqb}
use lib.ListN.{length, get_or}
use Rattle.numbers.specs.Answers.{All}
use Rattle.numbers.proofs.AnswerLaws.{all_map}
use Rattle.numbers.proofs.TestLaws.{or_inv, neither}
use Rattle.tp_machine.specs.declared.TpRange.{TpRange}
use Rattle.tp_machine.specs.Ranges.{any}
use Rattle.tp_machine.specs.Machine.{most, highest, State, bad_range, end_past, bad_state}
use Rattle.tp_machine.specs.Taking.{complete}
use Rattle.tp_machine.specs.Meaning.{Before, InOrder, Good, Within}
use Rattle.tp_machine.specs.Runs.{Reached}
use Rattle.tp_machine.proofs.Lists.{any_all}
use Rattle.tp_machine.proofs.InOrder.{kept_in_order}
use Rattle.tp_machine.proofs.Steps.{never_malformed}
use Rattle.tp_machine.proofs.Tests as tests
use Rattle.tp_stream.specs.declared.TpStream.{TpStream}
use Rattle.tp_stream.specs.Stream.{stored}
use Rattle.tp_stream.proofs.StreamLaws.{held_length}
use Rattle.tp_words.specs.Words.{size, ranges_in, end_of, unfit, state_of, put}
use Rattle.tp_words.proofs.Holding.{words_hold}
use Rattle.tp_range.specs.Ordered.{rising}
use Rattle.tp_lent.specs.Lent.{held, top_of, unready, in_order, OrderMeans}
use Rattle.tp_lent.proofs.RisingLaws.{rising_order}
use Rattle.tp_lent.proofs.ReadyLaws.{fits, ranges_are, good, state_limit, state_end, state_ranges}
use Rattle.tp_lent.proofs.CallLaws.{both}

-- no range of a state that is not malformed is bad
none_bad : (p : State) → Good p → All (λ r. bad_range p r ≡ false) p.ranges
unfolding bad_state
none_bad p g =
    let a = or_inv (ltb most (length p.ranges)) _ ((tests.good_means p).1 g) in
    let b = or_inv (ltb highest p.limit) _ a.1 in
    let c = or_inv (end_past p.end p.limit) _ b.1 in
    any_all (bad_range p) p.ranges (or_inv (any (bad_range p) p.ranges) _ c.1).0

rises : (p : State) (low : ℕ) (rs : List TpRange) → All (λ r. bad_range p r ≡ false) rs → All (λ r. low ≤ r.start) rs → InOrder rs → rising (bad_range p) low rs ≡ true
unfolding rising
rises p low [] b l o = refl
rises p low (r ∷ rs) b l o =
    rw (le-ltb r.start low l.0, b.0) (rises p (r.end + 1) rs b.1 (all_map (Before r) (λ x. r.end + 1 ≤ x.start) (λ x h. omega arith) rs o.0) o.1)

-- an end that lies within the limit
reaches : (known end limit : ℕ) (b : Bool) → eqb known 0 ≡ b → Within (end_of known end) limit → cond (eqb known 0) limit end ≤ limit
reaches known end limit true e w = subst (λ (t : Bool). cond t limit end ≤ limit) (sym e) (le_refl limit)
reaches known end limit false e w = subst (λ (t : Bool). cond t limit end ≤ limit) (sym e) (subst (λ (t : Bool). Within (cond t None (Some end)) limit) e w)

module _ (ws : List ℕ) where
  there : in_order ws ≡ true → (unfit ws ≡ false) × Good (state_of ws) × InOrder (state_of ws).ranges
  there e = let o = both ws e in (fits ws o.0, good ws o.0 o.1, subst InOrder (sym (ranges_are ws o.0)) (rising_order (state_of ws) 0 (held ws) o.1))

  module _ (f : unfit ws ≡ false) (g : Good (state_of ws)) (o : InOrder (state_of ws).ranges) where
    ready : unready ws ≡ false
    ready =
        let many : length (state_of ws).ranges ≡ get_or ws 1 0 = ap length (state_ranges ws f) ∙ held_length (get_or ws 1 0) (ranges_in ws most) in
        let within : Within (end_of (get_or ws 2 0) (get_or ws 3 0)) (get_or ws 0 0) = subst (λ (e : (Option ℕ)). Within e (get_or ws 0 0)) (state_end ws f) (subst (Within (state_of ws).end) (state_limit ws f) g.end_within) in
        neither _ _ f (neither _ _ (le-ltb most (get_or ws 1 0) (omega (arith, many, g.few)))
        (neither _ _ (le-ltb highest (get_or ws 0 0) (omega (arith, state_limit ws f, g.low)))
        (le-ltb (get_or ws 0 0) (top_of ws) (reaches (get_or ws 2 0) (get_or ws 3 0) (get_or ws 0 0) (eqb (get_or ws 2 0) 0) refl within))))

    back : in_order ws ≡ true
    back =
        let same = ranges_are ws ready in
        rw ready (rises (state_of ws) 0 (held ws) (subst (All (λ r. bad_range (state_of ws) r ≡ false)) same (none_bad (state_of ws) g)) (every (held ws)) (subst InOrder same o))
      where
        every : (rs : List TpRange) → All (λ r. 0 ≤ r.start) rs
        every [] = tt
        every (r ∷ rs) = (omega arith, every rs)

-- words that are unfit hold a malformed state
fit_good : (ws : List ℕ) (b : Bool) → unfit ws ≡ b → Good (state_of ws) → unfit ws ≡ false
fit_good ws true e g = absurd (false≢true (sym ((tests.good_means (state_of ws)).1 g) ∙ words_hold.unfit_malformed ws e))
fit_good ws false e g = e

reached : (ws : List ℕ) (s : TpStream) (p : State) → size ≤ length ws → length s.ranges ≡ most → Reached p → in_order (put ws (stored s p)) ≡ true
reached ws s p h l r =
    let g = never_malformed p r in
    let is : state_of (put ws (stored s p)) ≡ p = words_hold.stored_back ws s p h l g.few in
    let good' : Good (state_of (put ws (stored s p))) = subst Good (sym is) g in
    back (put ws (stored s p)) (fit_good (put ws (stored s p)) (unfit (put ws (stored s p))) refl good') good' (subst (λ (q : State). InOrder q.ranges) (sym is) (kept_in_order.reached p r))

-- a complete stream has one range, so that its words are in order
pub incomplete : (ws : List ℕ) → in_order ws ≡ false → false ≡ complete (state_of ws)
incomplete ws e = go (complete (state_of ws)) refl
  where
    go : (b : Bool) → complete (state_of ws) ≡ b → false ≡ b
    go true q =
        let c = (tests.complete_means (state_of ws)).0 q in
        let one : InOrder (state_of ws).ranges = subst InOrder (sym c.one_range) (tt, tt) in
        absurd (false≢true (sym e ∙ back ws (fit_good ws (unfit ws) refl c.good) c.good one))
    go false q = refl

pub order_means : OrderMeans
order_means = record { means = λ ws. ((λ e. there ws e), (λ w. back ws w.0 w.1 w.2)); reached = reached }
