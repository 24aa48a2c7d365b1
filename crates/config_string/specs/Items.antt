-- The items of a configuration string, one after the other. Assumes nothing: these are definitions.
use Rattle.std.specs.Prelude.{ℕ, ◌+◌, ◌≤◌, ◌≡◌, List, [], length, get_or, take, drop, leb, eqb}
use Rattle.numbers.specs.Refusals.{refusal, nothing_there}
use Rattle.numbers.specs.Answers.{Answer, accepted, ◌>>◌, refuse◌when◌else◌}
use Rattle.numbers.specs.Rules.{Rules, ◌if◌else◌, Follows}
use Rattle.sd_format.specs.Sequences.{HandsOut}
use Rattle.sd_format.specs.Strings.{judge_item, read_string}
use Rattle.sd_format.specs.Rules.{item_rules}

-- the item whose length byte stands at `at`: 20 with no bytes left and at the terminator, otherwise judged as in the reading of the string
unfoldable pub next_item : List ℕ → (at : ℕ) → Answer (List ℕ)
next_item s at =
    refuse nothing_there when leb (length s) at else
    (refuse nothing_there when eqb (get_or s at 0) 0 else
    (judge_item at (get_or s at 0) (drop (at + 1) s) >>
    accepted (take (get_or s at 0) (drop (at + 1) s))))

-- where the cursor stands after that item
abbrev pub past : (at : ℕ) → List ℕ → ℕ
past at item = at + (1 + length item)

-- the cursor at a place hands out these items, one after the other, and then 20
abbrev pub Handed : List ℕ → (at : ℕ) → List (List ℕ) → Type 0
Handed s = HandsOut (next_item s) (λ item at. past at item)

-- over an accepted string it hands out the string's items; proofs/ItemsHanded.antt proves it
abbrev pub ItemsHanded : Type 0
ItemsHanded = (s : List ℕ) (items : List (List ℕ)) → read_string s ≡ accepted items → Handed s 0 items

-- the cursor at a place, in literal numbers: 20, then as the string's own item at that place, which is counted from the string's first byte
abbrev pub next_rules : List ℕ → (at : ℕ) → Rules
next_rules s at =
    refusal 20 [] if length s ≤ at else
    refusal 20 [] if get_or s at 0 ≡ 0 else
    item_rules at (get_or s at 0) (drop (at + 1) s)

-- over any string it is refused exactly so; proofs/ItemsFollow.antt proves it
abbrev pub ItemsFollow : Type 0
ItemsFollow = (s : List ℕ) (at : ℕ) → Follows (next_item s at) (next_rules s at)
