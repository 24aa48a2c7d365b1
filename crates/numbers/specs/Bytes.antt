-- Bytes, and big-endian numbers of 2, 3 and 4 bytes. Assumes nothing: these are definitions.
use Rattle.std.specs.Prelude.{ℕ, ◌+◌, ◌*◌, ◌/◌, ◌%◌, ◌<◌, List, [], ◌∷◌, ◌++◌, get_or}

-- every element is a byte (past the end `get_or` gives 0)
abbrev pub Bytes : List ℕ → Type 0
Bytes s = (i : ℕ) → get_or s i 0 < 256

-- ---- a number as its bytes, the high one first
-- No bound is asked: a number that is too large gives a first element that is no byte.

unfoldable pub be16 : ℕ → List ℕ
be16 n = n / 256 ∷ n % 256 ∷ []

unfoldable pub be24 : ℕ → List ℕ
be24 n = n / 65536 ∷ be16 (n % 65536)

unfoldable pub be32 : ℕ → List ℕ
be32 n = be16 (n / 65536) ++ be16 (n % 65536)

-- ---- the number that stands at `i`

unfoldable pub at16 : List ℕ → ℕ → ℕ
at16 s i = get_or s i 0 * 256 + get_or s (i + 1) 0

unfoldable pub at24 : List ℕ → ℕ → ℕ
at24 s i = get_or s i 0 * 65536 + at16 s (i + 1)

unfoldable pub at32 : List ℕ → ℕ → ℕ
at32 s i = at16 s i * 65536 + at16 s (i + 2)
