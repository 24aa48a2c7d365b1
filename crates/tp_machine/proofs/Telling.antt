-- What a stream tells of itself: the range that begins first, and the count. Assumes nothing.
use Prim.Native.Nat.{ℕ, ◌+◌, ◌≤◌, ◌<◌}
use mathlib.Core.Path.{◌≡◌, refl, sym, ap, subst, ◌∙◌}
use mathlib.Core.Bool.{Bool, true, false, ◌&&◌, cond}
use mathlib.Core.List.{List, [], ◌∷◌}
use mathlib.Core.Logic.{◌⊎◌, inl, inr, ⊎_elim}
use native.Mathlib.Nat.{le_refl, le_antisymm}
use native.Mathlib.Omega.{arith}
use borrow.Author.Tests.{leb-true, leb-false, ltb-true, ltb-false}
use lib.Dec.{leb, ltb}
use Rattle.numbers.specs.Refusals.{Refusal, nothing_there, malformed_state}
use Rattle.numbers.specs.Answers.{Answer, accepted, refused, All}
use Rattle.numbers.specs.Rules.{Follows, accept, ◌if◌else◌}
use Rattle.numbers.proofs.AnswerLaws.{all_map, accepted_inj, when_accepted, when_pass}
use Rattle.numbers.proofs.RuleLaws.{follows_accepted, follows_refused, follows_passed, follows_if}
use Rattle.numbers.proofs.TestLaws.{fails}
use Rattle.tp_machine.specs.declared.TpRange.{TpRange}
use Rattle.tp_machine.specs.Lists.{OneOf, Rearranged}
use Rattle.tp_machine.specs.Machine.{State, bad_state}
use Rattle.tp_machine.specs.Telling.{nearer, first_from, range_told, count_told}
use Rattle.tp_machine.specs.Meaning.{Apart, Fine, Good, FirstFrom}
use Rattle.tp_machine.specs.Rules.{range_rules, count_rules}
use Rattle.tp_machine.specs.Theorems.{RangeMeans, CountMeans, EveryRange}
use Rattle.tp_machine.proofs.Lists.{all_moved, one_has, two_of, each_one, one_of_moved, moved_back}
use Rattle.tp_machine.proofs.Tests.{good_means}

-- ---- the first range, or none
abbrev Tells : List TpRange → ℕ → Answer TpRange → Type 0
Tells rs x (accepted f) = FirstFrom rs x f
Tells rs x (refused q) = (nothing_there ≡ q) × All (λ r. r.start < x) rs

-- none that begins behind x begins before r, where none does at all
module _ (x : ℕ) (r : TpRange) (rs : List TpRange) where
  alone : x ≤ r.start → All (λ q. q.start < x) rs → FirstFrom (r ∷ rs) x r
  alone h a = record { held = inl refl; from = h; first = ((λ _. le_refl r.start), all_map (λ q. q.start < x) (λ q. x ≤ q.start → r.start ≤ q.start) (λ q l k. absurd (omega arith)) rs a) }

  -- r begins before the one in hand, or it does not
  before : (f : TpRange) → FirstFrom rs x f → x ≤ r.start → r.start < f.start → FirstFrom (r ∷ rs) x r
  before f t h l = record {
    held = inl refl;
    from = h;
    first = ((λ _. le_refl r.start), all_map (λ q. x ≤ q.start → f.start ≤ q.start) (λ q. x ≤ q.start → r.start ≤ q.start) (λ q g k. let z = g k in omega arith) rs t.first);
  }

  still : (f : TpRange) → FirstFrom rs x f → (x ≤ r.start → f.start ≤ r.start) → FirstFrom (r ∷ rs) x f
  still f t h = record { held = inr t.held; from = t.from; first = (h, t.first) }

  one_more : (a : Answer TpRange) → Tells rs x a → Tells (r ∷ rs) x (cond (nearer x r a) (accepted r) a)
  one_more (accepted f) t = go (leb x r.start) refl (ltb r.start f.start) refl
    where
      go : (s : Bool) → leb x r.start ≡ s → (u : Bool) → ltb r.start f.start ≡ u → Tells (r ∷ rs) x (cond (s && u) (accepted r) (accepted f))
      go true p true q = before f t (leb-true x r.start p) (ltb-true r.start f.start q)
      go true p false q = still f t (λ _. ltb-false r.start f.start q)
      go false p u q = still f t (λ h. absurd (omega (arith, leb-false x r.start p)))
  one_more (refused q) t = go (leb x r.start) refl
    where
      go : (s : Bool) → leb x r.start ≡ s → Tells (r ∷ rs) x (cond s (accepted r) (refused q))
      go true p = alone (leb-true x r.start p) t.1
      go false p = (t.0, (leb-false x r.start p, t.1))

tells : (x : ℕ) (rs : List TpRange) → Tells rs x (first_from x rs)
unfolding first_from
tells x [] = (refl, tt)
tells x (r ∷ rs) = one_more x r rs (first_from x rs) (tells x rs)

-- ---- ranges apart do not begin at the same place, nor does one begin within another
module _ (p : State) (good : Good p) where
  forth : (r : TpRange) → OneOf r p.ranges → r.start ≤ r.end
  forth r o = (one_has (Fine p) p.ranges r good.each o).forth

  module _ (r q : TpRange) (o : OneOf r p.ranges) (k : OneOf q p.ranges) where
    order : (r ≡ q) ⊎ Apart r q
    order = ⊎_elim (λ e. inl e) (λ h. ⊎_elim (λ a. inr a) (λ b. inr (⊎_elim (λ l. inr l) (λ l. inl l) b)) h) (two_of Apart p.ranges r q good.apart o k)

    same_start : r.start ≡ q.start → r ≡ q
    same_start e = ⊎_elim (λ same. same) (λ a. ⊎_elim (λ l. absurd (omega (arith, forth r o))) (λ l. absurd (omega (arith, forth q k))) a) order

    behind_end : r.start < q.start → r.end + 1 ≤ q.start
    behind_end h =
        ⊎_elim (λ same. absurd (omega (arith, ap (λ (x : TpRange). x.start) same))) (λ a. ⊎_elim (λ l. omega arith) (λ l. absurd (omega (arith, forth q k))) a) order

  -- so there is one first
  one_first : (x : ℕ) (r q : TpRange) → FirstFrom p.ranges x r → FirstFrom p.ranges x q → r ≡ q
  one_first x r q a b =
      same_start r q a.held b.held (le_antisymm (one_has _ p.ranges q a.first b.held b.from) (one_has _ p.ranges r b.first a.held a.from))

  first_is : (x : ℕ) (r : TpRange) → FirstFrom p.ranges x r → first_from x p.ranges ≡ accepted r
  first_is x r f = go (first_from x p.ranges) refl (tells x p.ranges)
    where
      go : (a : Answer TpRange) → first_from x p.ranges ≡ a → Tells p.ranges x a → first_from x p.ranges ≡ accepted r
      go (accepted q) e t = e ∙ ap accepted (one_first x q r t f)
      go (refused q) e t = absurd (omega (arith, one_has _ p.ranges r t.1 f.held, f.from))

-- ---- what it means
pub range_means : RangeMeans
unfolding range_told
range_means p x r = (
  (λ e.
      let (fine, told) = when_accepted malformed_state (bad_state p) _ r e in
      let t : Tells p.ranges x (first_from x p.ranges) = tells x p.ranges in
      ((good_means p).0 fine, subst (Tells p.ranges x) told t)),
  (λ w. when_pass malformed_state (bad_state p) _ ((good_means p).1 w.0) ∙ first_is p w.0 x r w.1),
)

pub count_means : CountMeans
unfolding count_told
count_means p n = (
  (λ e. let (fine, told) = when_accepted malformed_state (bad_state p) _ n e in ((good_means p).0 fine, accepted_inj p.count n told)),
  (λ w. when_pass malformed_state (bad_state p) _ ((good_means p).1 w.0) ∙ ap accepted w.1),
)

-- ---- the rules
first_follows : (x : ℕ) (rs : List TpRange) (a : Answer TpRange) → Tells rs x a → Follows a (nothing_there if All (λ r. r.start < x) rs else accept)
first_follows x rs (accepted f) t = follows_passed nothing_there _ (accepted f) accept (λ a. absurd (omega (arith, one_has _ rs f a t.held, t.from))) (follows_accepted f)
first_follows x rs (refused q) t = subst (λ (k : Refusal). Follows {A = TpRange} (refused k) (nothing_there if All (λ r. r.start < x) rs else accept)) t.0 (follows_refused nothing_there accept _ t.1)

pub range_follows : (p : State) (x : ℕ) → Follows (range_told p x) (range_rules p x)
unfolding range_told
range_follows p x = follows_if _ _ (fails (bad_state p) (good_means p)) (first_follows x p.ranges (first_from x p.ranges) (tells x p.ranges))

pub count_follows : (p : State) → Follows (count_told p) (count_rules p)
unfolding count_told
count_follows p = follows_if _ _ (fails (bad_state p) (good_means p)) (follows_accepted p.count)

-- ---- one after the other
pub every_range : EveryRange
every_range p good = record {
  own = λ r o. (range_means p r.start r).1 (good, record { held = o; from = le_refl r.start; first = all_map (λ q. OneOf q p.ranges) (λ q. r.start ≤ q.start → r.start ≤ q.start) (λ q _ h. h) p.ranges (each_one p.ranges) });
  none_missed = behind_end p good;
}

-- ---- the order of the ranges
first_moved : {rs qs : List TpRange} (x : ℕ) (r : TpRange) → Rearranged rs qs → FirstFrom rs x r → FirstFrom qs x r
first_moved x r m f = record { held = one_of_moved r m f.held; from = f.from; first = all_moved (λ q. x ≤ q.start → r.start ≤ q.start) m f.first }

-- two well-formed states with the same ranges tell the same
pub first_alike : (p q : State) → Good p → Good q → Rearranged p.ranges q.ranges → (x : ℕ) → first_from x p.ranges ≡ first_from x q.ranges
first_alike p q good-p good-q m x = go (first_from x p.ranges) (first_from x q.ranges) refl refl (tells x p.ranges) (tells x q.ranges)
  where
    go : (a b : Answer TpRange) → first_from x p.ranges ≡ a → first_from x q.ranges ≡ b → Tells p.ranges x a → Tells q.ranges x b → a ≡ b
    go (accepted f) b e k s t = sym (first_is q good-q x f (first_moved x f m s)) ∙ k
    go (refused f) (accepted g) e k s t = sym e ∙ first_is p good-p x g (first_moved x g (moved_back m) t)
    go (refused f) (refused g) e k s t = ap refused (sym s.0 ∙ t.0)
