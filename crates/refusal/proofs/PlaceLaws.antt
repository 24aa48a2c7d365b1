-- Laws of places that are counted from further to the front: where a `usize` holds them, they are the definitions' own. Assumes nothing.
use Prim.Native.Nat.{ℕ, ◌≤◌}
use mathlib.Core.Path.{◌≡◌, refl, sym, ap, ◌∙◌}
use native.Mathlib.Omega.{arith}
use Rattle.numbers.specs.Refusals as paper
use Rattle.numbers.specs.Refusals.{Place, untold, told, moved_place}
use Rattle.refusal.specs.Said.{most, place_capped, moved_capped}
use Rattle.refusal.specs.Rows.{Capped}

pub capped_place : Capped
capped_place =
    record {
      held = λ p h. grind arith;
      not_held = λ p h. grind arith;
      moved = λ n p r e. rw e refl;
      not_moved = λ n r e. λ i. record { number = r.number; values = r.values; place = (ap (λ (x : Place). place_capped (moved_place n x)) e ∙ sym e) i };
    }

-- ---- a place that a `usize` holds

moved_held : (n : ℕ) (place : Place) (p : ℕ) → moved_place n place ≡ told p → p ≤ most → place_capped (moved_place n place) ≡ moved_place n place
moved_held n place p there fits = grind arith

-- a refusal that is then told at `p`
pub uncapped : (n : ℕ) (r : paper.Refusal) (p : ℕ) → moved_place n r.place ≡ told p → p ≤ most → moved_capped n r ≡ paper.moved n r
uncapped n r p there fits = λ i. record { number = r.number; values = r.values; place = moved_held n r.place p there fits i }
