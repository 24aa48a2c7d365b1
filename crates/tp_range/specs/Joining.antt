-- The joining step over an array whose first places are held. Assumes nothing: these are definitions.
use Rattle.std.specs.Prelude.{ℕ, cond, Option, Some, None, List, ◌++◌, length, take, drop, ltb}
use Rattle.tp_machine.specs.declared.TpRange.{TpRange}
use Rattle.tp_machine.specs.Ranges.{joined}
use Rattle.tp_machine.specs.Machine.{most}
use Rattle.tp_range.specs.declared.Joined.{Joined}

-- a range that was never used
abbrev pub none : TpRange
none = record { start = 0; end = 0; number = 0 }

-- the array with rs in its first places, the places behind them as they were
unfoldable pub placed : List TpRange → List TpRange → List TpRange
placed array rs = take (length array) (rs ++ drop (length rs) array)

-- rs placed, where they are not too many
abbrev pub fitted : List TpRange → List TpRange → Option Joined
fitted array rs = cond (ltb most (length rs)) None (Some (record { ranges = placed array rs; count = length rs }))

-- `new` joined to the first `count` of the array
unfoldable pub joined_in : List TpRange → ℕ → TpRange → Option Joined
joined_in array count new = fitted array (joined new (take count array))
