-- One segment: 16 header bytes, 4 TP bytes, payload. What makes bytes one, its fields, and what it writes into a buffer.
-- Assumes nothing: these are definitions.
use Rattle.std.specs.Prelude.{ℕ, ◌+◌, ◌*◌, ◌-◌, ◌/◌, ◌%◌, Bool, ◌&&◌, ◌||◌, not, cond, List, ◌++◌, length, take, drop, get_or, set, ltb, eqb}
use Rattle.numbers.specs.Bytes.{at32}

-- the message types that have the TP bit
unfoldable pub tp_type : ℕ → Bool
tp_type t = eqb t 0x20 || (eqb t 0x21 || (eqb t 0x22 || (eqb t 0xa0 || eqb t 0xa1)))

-- not 30: at least 20 bytes, the length field is the byte count less 8, protocol version 1, a type with the TP bit
unfoldable pub is_segment : List ℕ → Bool
is_segment s = not (ltb (length s) 20) && (eqb (at32 s 4) (length s - 8) && (eqb (get_or s 12 0) 1 && tp_type (get_or s 14 0)))

-- the TP word without its low four bits
unfoldable pub offset : List ℕ → ℕ
offset s = at32 s 16 - at32 s 16 % 16

-- its lowest bit: more follows
unfoldable pub more : List ℕ → Bool
more s = eqb (at32 s 16 % 2) 1

unfoldable pub payload : List ℕ → List ℕ
payload s = drop 20 s

-- how long the payload is, and where it ends in the whole
abbrev pub size : List ℕ → ℕ
size s = length (payload s)

abbrev pub end_of : List ℕ → ℕ
end_of s = offset s + size s

-- a message type with 0x20 cleared
unfoldable pub without_tp : ℕ → ℕ
without_tp t = t - t / 32 % 2 * 32

-- the 16 header bytes, with 0x20 cleared in byte 14
unfoldable pub header : List ℕ → List ℕ
header s = set (take 16 s) 14 (without_tp (get_or s 14 0))

-- d with the elements from `at` on replaced by those of s
unfoldable pub pasted : List ℕ → ℕ → List ℕ → List ℕ
pasted d at s = take at d ++ (s ++ drop (at + length s) d)

-- the buffer after a segment: its payload behind the header's 16 bytes, and for an offset of 0 its header too (as the Rust: a segment that
-- overlaps or repeats what is held is taken, and the newest bytes win; DIFFERENCES, R5)
unfoldable pub written : List ℕ → List ℕ → List ℕ
written buf s = pasted (cond (eqb (offset s) 0) (pasted buf 0 (header s)) buf) (16 + offset s) (payload s)
