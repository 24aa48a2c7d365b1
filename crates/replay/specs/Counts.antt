-- Counting by number, and the first record that does not agree. Assumes nothing: these are definitions.
use Rattle.std.specs.Prelude.{ℕ, ◌+◌, Bool, true, false, cond, List, [], ◌∷◌, ltb, get_or, set, Option, Some, None}

-- one more, as long as it fits
abbrev pub more : ℕ → ℕ
more n = cond (ltb n 4294967295) (n + 1) n

-- one more at a place; the same counts where there is no such place
abbrev pub counted : List ℕ → ℕ → List ℕ
counted counts place = set counts place (more (get_or counts place 0))

-- the number of the first that does not agree, where the first of them has the number `this`; none where all agree
abbrev pub first_false : (this : ℕ) → List Bool → Option ℕ
first_false this [] = None
first_false this (true ∷ later) = first_false (this + 1) later
first_false this (false ∷ later) = Some this
