-- How far ranges may reach. Assumes nothing: these are definitions.
use Rattle.std.specs.Prelude.{ℕ, ◌≡◌, ◌||◌, ltb}
use Rattle.tp_machine.specs.Machine.{State, end_before}

-- how far the ranges of a state may reach: an end is past it exactly where it is past the limit or past the known end
abbrev pub Reach : State → ℕ → Type 0
Reach p top = (x : ℕ) → ltb top x ≡ (ltb p.limit x || end_before p.end x)
