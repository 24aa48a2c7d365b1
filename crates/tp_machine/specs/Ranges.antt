-- Ranges and their joining. Assumes nothing: these are definitions.
use Rattle.std.specs.Prelude.{ℕ, min, max, Bool, true, false, ◌&&◌, ◌||◌, cond, List, [], ◌∷◌, leb, ltb}
use Rattle.tp_machine.specs.declared.TpRange.{TpRange}

-- whether one element passes the test
unfoldable pub any : {A : Type 0} → (A → Bool) → List A → Bool
any f [] = false
any f (x ∷ xs) = f x || any f xs

-- neither ends before the other begins: they join (touching counts)
unfoldable pub touch : TpRange → TpRange → Bool
touch a b = leb a.start b.end && leb b.start a.end

-- the least range that holds both, with the larger number
unfoldable pub hull_of : TpRange → TpRange → TpRange
hull_of a b = record { start = min a.start b.start; end = max a.end b.end; number = max a.number b.number }

-- r in front of rs where the test fails
abbrev pub unless : Bool → TpRange → List TpRange → List TpRange
unless true r rs = rs
unless false r rs = r ∷ rs

-- those that n does not touch, in their order
unfoldable pub keep : TpRange → List TpRange → List TpRange
keep n [] = []
keep n (r ∷ rs) = unless (touch n r) r (keep n rs)

-- g grown by r where the test passes
abbrev pub grow_if : Bool → TpRange → TpRange → TpRange
grow_if true g r = hull_of g r
grow_if false g r = g

-- g grown by each of those that n touches
unfoldable pub grow : TpRange → TpRange → List TpRange → TpRange
grow n g [] = g
grow n g (r ∷ rs) = grow n (grow_if (touch n r) g r) rs

-- g before the first of them that begins behind it
unfoldable pub inserted : TpRange → List TpRange → List TpRange
inserted g [] = g ∷ []
inserted g (r ∷ rs) = cond (ltb g.start r.start) (g ∷ r ∷ rs) (r ∷ inserted g rs)

-- the ranges after n has come: those that it does not touch, and it with those that it touches as one, before the first that begins behind it
unfoldable pub joined : TpRange → List TpRange → List TpRange
joined n rs = inserted (grow n n rs) (keep n rs)

-- r ends before x
abbrev pub ends_before : ℕ → TpRange → Bool
ends_before x r = ltb r.end x

-- r begins at x or before it
abbrev pub begins_by : ℕ → TpRange → Bool
begins_by x r = leb r.start x

-- two of a list touch
unfoldable pub some_touch : List TpRange → Bool
some_touch [] = false
some_touch (r ∷ rs) = any (touch r) rs || some_touch rs

-- the greatest end of a list; 0 of none, below which no end lies
unfoldable pub greatest_end : List TpRange → ℕ
greatest_end [] = 0
greatest_end (r ∷ rs) = max r.end (greatest_end rs)
