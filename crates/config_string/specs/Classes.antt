-- The classes of bytes that a key is judged by, and what a table of them holds. Assumes nothing: these are definitions.
use Rattle.std.specs.Prelude.{ℕ, ◌<◌, ◌≡◌, Bool, ◌&&◌, cond, List, get_or, eqb, leb}

-- the four classes, numbered by the digits that the table is written in
abbrev pub outside : ℕ
outside = 0x30

abbrev pub equals_sign : ℕ
equals_sign = 0x31

abbrev pub space : ℕ
space = 0x32

abbrev pub other_printable : ℕ
other_printable = 0x33

-- key bytes lie in 0x20 to 0x7e
abbrev pub key_byte : ℕ → Bool
key_byte b = leb 0x20 b && leb b 0x7e

-- of these 0x20 is the space and 0x3d the equals sign; any other byte is outside
unfoldable pub class_of : ℕ → ℕ
class_of b = cond (key_byte b) (cond (eqb b 0x20) space (cond (eqb b 0x3d) equals_sign other_printable)) outside

-- a table that has the class of every byte at that byte's place
pub record Classified (table : List ℕ) : Type 0 where
  pub at : (b : ℕ) → b < 256 → get_or table b 0 ≡ class_of b
