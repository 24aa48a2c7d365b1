-- The configuration string, read: items of a length byte and that many bytes, closed by a zero length byte, which must be the last byte.
-- Assumes nothing: these are definitions.
use Rattle.std.specs.Prelude.{ℕ, zero, suc, ◌+◌, Bool, true, not, ◌&&◌, cond, List, [], ◌∷◌, length, take, ltb, leb, eqb}
use Rattle.numbers.specs.Refusals.{missing_terminator, item_too_long, trailing_data, empty_key, invalid_key_byte, only_whitespace}
use Rattle.numbers.specs.Answers.{Answer, accepted, refused, Verdict, pass, ◌>>=◌, ◌>>◌, refuse◌when◌else◌}

-- what precedes the first `=`; with no `=` the whole item
unfoldable pub key_of : List ℕ → List ℕ
key_of [] = []
key_of (b ∷ item) = cond (eqb b 0x3d) [] (b ∷ key_of item)

-- the first key byte outside 0x20 to 0x7e refuses; `i` is the place of the first of these bytes in the item
unfoldable pub judge_bytes : (item i : ℕ) → List ℕ → Verdict
judge_bytes item i [] = pass
judge_bytes item i (b ∷ key) =
    refuse invalid_key_byte item i b when not (leb 0x20 b && leb b 0x7e) else
    judge_bytes item (i + 1) key

unfoldable pub all_spaces : List ℕ → Bool
all_spaces [] = true
all_spaces (b ∷ key) = eqb b 0x20 && all_spaces key

-- an item's key: empty, first bad byte, all spaces
unfoldable pub judge_key : (item : ℕ) → List ℕ → Verdict
judge_key item key =
    refuse empty_key item when eqb (length key) 0 else
    (judge_bytes item 0 key >>
    (refuse only_whitespace item when all_spaces key else
    pass))

-- the item at place `item`, whose length byte is `n`, with what follows that byte: its length, then its key
unfoldable pub judge_item : (item n : ℕ) → List ℕ → Verdict
judge_item item n rest =
    refuse item_too_long item n (length rest) when ltb (length rest) n else
    judge_key item (key_of (take n rest))

-- the terminator, which must be the last byte
unfoldable pub closed : (item : ℕ) → List ℕ → Answer (List (List ℕ))
closed item rest =
    refuse trailing_data item when not (eqb (length rest) 0) else
    accepted []

-- The items from place `at` on, but for the first `skip` bytes, which belong to an item that was judged already. (So many are there: at the
-- string's end none are left to skip.)
unfoldable pub items_from : (at skip : ℕ) → List ℕ → Answer (List (List ℕ))
items_from at skip [] = refused (missing_terminator (at + skip))
items_from at (suc skip) (b ∷ rest) = items_from (at + 1) skip rest
items_from at zero (n ∷ rest) =
    cond (eqb n 0) (closed at rest)
    (judge_item at n rest >>
    (items_from (at + 1) n rest >>= λ items.
    accepted (take n rest ∷ items)))

-- a whole string: its items
unfoldable pub read_string : List ℕ → Answer (List (List ℕ))
read_string s = items_from 0 0 s
