-- Ranges in order. Assumes nothing: these are definitions.
use Rattle.std.specs.Prelude.{ℕ, ◌+◌, Bool, true, ◌&&◌, not, List, [], ◌∷◌, ltb}
use Rattle.tp_machine.specs.declared.TpRange.{TpRange}

-- each begins at `low` or behind it and is not bad, and those behind it begin behind its end
unfoldable pub rising : (bad : TpRange → Bool) (low : ℕ) → List TpRange → Bool
rising bad low [] = true
rising bad low (r ∷ rs) = not (ltb r.start low) && (not (bad r) && rising bad (r.end + 1) rs)

-- r ends before it begins
abbrev pub backward : TpRange → Bool
backward r = ltb r.end r.start
