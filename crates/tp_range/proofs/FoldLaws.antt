-- What the library's words say of ranges: whether one passes a test, and the greatest end. Assumes
-- nothing.
use Prim.Native.Nat.{ℕ, ◌+◌, ◌<◌, max}
use mathlib.Core.Path.{◌≡◌, refl, ap}
use mathlib.Core.Bool.{Bool, true, false, not, ◌||◌, cond}
use mathlib.Core.List.{List, [], ◌∷◌}
use native.Mathlib.Omega.{arith}
use lib.ListN.{length, drop, get_or}
use Rattle.std.proofs.lemmas.List.{drop_more}
use Rattle.tp_range.specs.Joining.{none}
use Rattle.std.specs.List.{list_any, fold, position, position_or_len}
use Rattle.std.specs.Option.{unwrap_or}
use Rattle.std.specs.Prelude.{Some, None}
use Rattle.std.proofs.lemmas.List.Sums.{prefix_len-le-length}
use lib.Dec.{ltb}
use borrow.Author.Tests.{ltb-false}
use Rattle.tp_machine.specs.declared.TpRange.{TpRange}
use Rattle.tp_machine.specs.Ranges.{any, greatest_end}

-- what is left of them from the i-th on
pub ahead : (rs : List TpRange) (i : ℕ) → i < length rs → drop i rs ≡ get_or rs i none ∷ drop (i + 1) rs
ahead rs i h = drop_more rs i none h

pub any_is : (f : TpRange → Bool) (rs : List TpRange) → any f rs ≡ list_any f rs
unfolding any
any_is f [] = refl
any_is f (r ∷ rs) = ap (λ (b : Bool). f r || b) (any_is f rs)

pub greatest_is : (x : ℕ) (rs : List TpRange) → fold (λ a r. max a r.end) x rs ≡ max x (greatest_end rs)
unfolding greatest_end
greatest_is x [] = omega arith
greatest_is x (r ∷ rs) = omega (arith, greatest_is (max x r.end) rs)

-- the first that passes a test, or all of them
pub first_or_all : (p : TpRange → Bool) (xs : List TpRange) → unwrap_or (position p xs) (length xs) ≡ position_or_len p xs
first_or_all p xs = go (ltb (position_or_len p xs) (length xs)) refl
  where
    go : (t : Bool) → ltb (position_or_len p xs) (length xs) ≡ t → unwrap_or (cond t (Some (position_or_len p xs)) None) (length xs) ≡ position_or_len p xs
    go true e = refl
    go false e = omega (arith, ltb-false _ _ e, prefix_len-le-length (λ x. not (p x)) xs)
