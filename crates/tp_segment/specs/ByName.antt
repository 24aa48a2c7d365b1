-- A segment's header by the names that the code has for its fields: laid out at the rules' places in the TP word, with the three reserved bits
-- as sent, they are that word. Written beside `header_of` and not by it. proofs/ByName.antt proves it. Assumes nothing: these are definitions.
use Rattle.std.specs.Prelude.{ℕ, ◌+◌, ◌*◌, ◌/◌, ◌%◌, ◌≤◌, ◌≡◌, cond, List, length}
use Rattle.numbers.specs.Bytes.{at32}
use Rattle.tp_segment.specs.Reading.{header_of}

pub record ByName (s : List ℕ) : Type 0 where
  -- the offset is a multiple of 16; below it stand three reserved bits, and lowest whether more follows
  pub word : (header_of s).offset + at32 s 16 % 16 / 2 * 2 + cond (header_of s).more 1 0 ≡ at32 s 16
  pub aligned : (header_of s).offset % 16 ≡ 0
  -- the payload is what stands behind the header and the TP word
  pub payload : 20 ≤ length s → 20 + (header_of s).size ≡ length s
