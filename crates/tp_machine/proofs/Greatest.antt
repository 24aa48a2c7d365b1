-- The greatest end of ranges: what it means in plain words, that joining reaches as far as the new range and the old ones, and that the order
-- is not seen. Assumes nothing.
use Prim.Native.Nat.{ℕ, ◌≤◌, ◌<◌, max}
use mathlib.Core.Path.{◌≡◌, refl, sym, ap, ◌∙◌}
use mathlib.Core.Bool.{Bool, true, false}
use mathlib.Core.List.{List, [], ◌∷◌}
use mathlib.Core.Logic.{◌↔◌, inl, inr}
use native.Mathlib.Omega.{arith}
use borrow.Author.Tests.{leb-true, leb-false}
use lib.Dec.{leb}
use Rattle.numbers.specs.Answers.{All}
use Rattle.tp_machine.specs.declared.TpRange.{TpRange}
use Rattle.tp_machine.specs.Lists.{OneOf, Rearranged, nothing, first, swap, next}
use Rattle.tp_machine.specs.Ranges.{touch, hull_of, unless, keep, grow_if, grow, joined, greatest_end}
use Rattle.tp_machine.specs.Meaning.{Greatest}
use Rattle.tp_machine.specs.Theorems.{GreatestMeans}
use Rattle.tp_machine.proofs.Lists.{all_moved, one_of_moved}
use Rattle.tp_machine.proofs.Joining.{joined_moved}

-- ---- in plain words

-- it is at most x exactly where no range ends past x
pub none_past_means : (rs : List TpRange) (x : ℕ) → (greatest_end rs ≤ x) ↔ All (λ r. r.end ≤ x) rs
unfolding greatest_end
none_past_means [] x = ((λ h. tt), (λ a. omega arith))
none_past_means (r ∷ rs) x = (
  (λ h. (omega arith, (none_past_means rs x).0 (omega arith))),
  (λ a. let h : greatest_end rs ≤ x = (none_past_means rs x).1 a.1 in omega (arith, a.0)),
)

one_reaches : (rs : List TpRange) (r : TpRange) → OneOf r rs → r.end ≤ greatest_end rs
unfolding greatest_end
one_reaches [] r o = absurd o
one_reaches (q ∷ rs) r (inl e) = omega (arith, ap (λ (t : TpRange). t.end) e)
one_reaches (q ∷ rs) r (inr o) = omega (arith, one_reaches rs r o)

pub greatest_told : (rs : List TpRange) (x : ℕ) → Greatest rs x → greatest_end rs ≡ x
greatest_told rs x g = omega (arith, one_reaches rs g.one g.held, g.there, (none_past_means rs x).1 g.none_past)

-- one of them ends there
one_there : (r : TpRange) (rs : List TpRange) → (q : TpRange) × OneOf q (r ∷ rs) × (q.end ≡ greatest_end (r ∷ rs))
unfolding greatest_end
one_there r [] = (r, inl refl, omega arith)
one_there r (s ∷ rs) = go (one_there s rs) (leb (greatest_end (s ∷ rs)) r.end) refl
  where
    go : (q : TpRange) × OneOf q (s ∷ rs) × (q.end ≡ greatest_end (s ∷ rs)) → (t : Bool) → leb (greatest_end (s ∷ rs)) r.end ≡ t
        → (q : TpRange) × OneOf q (r ∷ s ∷ rs) × (q.end ≡ max r.end (greatest_end (s ∷ rs)))
    go later true h = (r, inl refl, omega (arith, leb-true (greatest_end (s ∷ rs)) r.end h))
    go later false h = (later.0, inr later.1, omega (arith, leb-false (greatest_end (s ∷ rs)) r.end h, later.2))

pub greatest_means : GreatestMeans
greatest_means r rs x = (
  (λ e.
      let w = one_there r rs in
      record { one = w.0; held = w.1; there = w.2 ∙ e; none_past = (none_past_means (r ∷ rs) x).0 (omega (arith, e)) }),
  greatest_told (r ∷ rs) x,
)

-- what has an end past x is not empty
pub greatest_past : (rs : List TpRange) (x : ℕ) → x < greatest_end rs → Greatest rs (greatest_end rs)
unfolding greatest_end
greatest_past [] x h = absurd (omega arith)
greatest_past (r ∷ rs) x h = (greatest_means r rs (greatest_end (r ∷ rs))).0 refl

-- ---- the order of the ranges
pub greatest_moved : {rs qs : List TpRange} → Rearranged rs qs → greatest_end rs ≡ greatest_end qs
unfolding greatest_end
greatest_moved nothing = refl
greatest_moved (first {a} r) = ap (max a.end) (greatest_moved r)
greatest_moved (swap {a} {b} {l}) = omega arith
greatest_moved (next r s) = greatest_moved r ∙ greatest_moved s

-- ---- joining
grow_reaches : (n g : TpRange) (rs : List TpRange) → max (grow n g rs).end (greatest_end (keep n rs)) ≡ max g.end (greatest_end rs)
unfolding keep grow hull_of greatest_end
grow_reaches n g [] = refl
grow_reaches n g (r ∷ rs) = go (λ h. grow_reaches n h rs) (touch n r)
  where
    go : ((h : TpRange) → max (grow n h rs).end (greatest_end (keep n rs)) ≡ max h.end (greatest_end rs)) → (t : Bool)
        → max (grow n (grow_if t g r) rs).end (greatest_end (unless t r (keep n rs))) ≡ max g.end (max r.end (greatest_end rs))
    go later true = later (hull_of g r) ∙ omega arith
    go later false = omega (arith, later g)

pub joining_reaches : (n : TpRange) (rs : List TpRange) → greatest_end (joined n rs) ≡ max n.end (greatest_end rs)
unfolding greatest_end
joining_reaches n rs = sym (greatest_moved (joined_moved n rs)) ∙ grow_reaches n n rs

-- what was joined is not empty
pub joined_greatest : (n : TpRange) (rs : List TpRange) (x : ℕ) → greatest_end (joined n rs) ≡ x → Greatest (joined n rs) x
joined_greatest n rs x e =
    let g = (greatest_means (grow n n rs) (keep n rs) x).0 (greatest_moved (joined_moved n rs) ∙ e) in
    record { one = g.one; held = one_of_moved g.one (joined_moved n rs) g.held; there = g.there; none_past = all_moved (λ r. r.end ≤ x) (joined_moved n rs) g.none_past }
