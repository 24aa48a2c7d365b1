-- The parts of a record: six bytes in front (kind, setting, number, and how many words of arguments, values and checks there are), the words,
-- the input. Assumes nothing: these are definitions.
use Rattle.std.specs.Prelude.{ℕ, ◌+◌, ◌*◌, ◌≡◌, ◌↔◌, Bool, true, ◌&&◌, cond, List, [], ◌∷◌, eqb, ltb, get_or, drop}
use Rattle.std.specs.Cmp.Lexicographic.{pointwise}
use Rattle.numbers.specs.Bytes.{at32}
use Rattle.refusal.specs.declared.values.Numbers.{Numbers}
use Rattle.refusal.specs.Said.{places, padded}

abbrev pub arguments : List ℕ → ℕ
arguments r = get_or r 3 0

abbrev pub values : List ℕ → ℕ
values r = get_or r 4 0

abbrev pub checks : List ℕ → ℕ
checks r = get_or r 5 0

-- the word of a number, counted from the first argument
abbrev pub word_of : List ℕ → ℕ → ℕ
word_of r n = at32 r (6 + 4 * n)

-- a value of the answer, 0 past the last
abbrev pub value_of : List ℕ → ℕ → ℕ
value_of r n = cond (ltb n (values r)) (word_of r (arguments r + n)) 0

abbrev pub check_of : List ℕ → ℕ → ℕ
check_of r n = word_of r (arguments r + values r + n)

-- the answer: a record has at most five values
abbrev pub answer_of : List ℕ → Numbers
answer_of r = record {
  number = get_or r 2 0;
  count = values r;
  values = padded places (value_of r 0 ∷ value_of r 1 ∷ value_of r 2 ∷ value_of r 3 ∷ value_of r 4 ∷ []);
}

abbrev pub input_of : List ℕ → List ℕ
input_of r = drop (6 + 4 * (arguments r + values r + checks r)) r

-- whether a number with these values is the recorded answer: the number, and the values in all their places
abbrev pub alike : Numbers → (number : ℕ) → List ℕ → Bool
alike recorded number vs = eqb recorded.number number && pointwise eqb recorded.values vs

-- they are alike exactly when they are equal
abbrev pub AlikeExactly : Type 0
AlikeExactly = (recorded : Numbers) (number : ℕ) (vs : List ℕ)
    → (alike recorded number vs ≡ true) ↔ ((recorded.number ≡ number) × (recorded.values ≡ vs))
