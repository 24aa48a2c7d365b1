-- What a stream tells of itself: how many segments were accepted, and its ranges with their numbers. A range is asked for by where it begins, so
-- that the order in which they are held is not seen. Assumes nothing: these are definitions.
use Rattle.std.specs.Prelude.{ℕ, Bool, ◌&&◌, cond, List, [], ◌∷◌, leb, ltb}
use Rattle.numbers.specs.Refusals.{nothing_there, malformed_state}
use Rattle.numbers.specs.Answers.{Answer, accepted, refused, refuse◌when◌else◌}
use Rattle.tp_machine.specs.declared.TpRange.{TpRange}
use Rattle.tp_machine.specs.Machine.{State, bad_state}

-- r begins at x or behind it, and before the range in hand, if there is one
abbrev pub nearer : ℕ → TpRange → Answer TpRange → Bool
nearer x r (accepted f) = leb x r.start && ltb r.start f.start
nearer x r (refused q) = leb x r.start

-- of the ranges that begin at x or behind it the one that begins first, or 20
unfoldable pub first_from : ℕ → List TpRange → Answer TpRange
first_from x [] = refused nothing_there
first_from x (r ∷ rs) = cond (nearer x r (first_from x rs)) (accepted r) (first_from x rs)

-- 38, or that range
unfoldable pub range_told : State → ℕ → Answer TpRange
range_told p x = refuse malformed_state when bad_state p else first_from x p.ranges

-- 38, or how many segments were accepted since the stream was begun or cleared
unfoldable pub count_told : State → Answer ℕ
count_told p = refuse malformed_state when bad_state p else accepted p.count
