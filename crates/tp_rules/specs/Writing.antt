-- What is written into a buffer where it fits; where it does not the buffer is as it was. Assumes nothing: these are definitions.
use Rattle.std.specs.Prelude.{ℕ, ◌+◌, cond, List, length, ltb, eqb}
use Rattle.numbers.specs.Bytes.{be32}
use Rattle.tp_machine.specs.Segments.{payload, size, header, pasted}
use Rattle.tp_machine.specs.Machine.{highest}

-- a segment at an offset: its payload behind the header's 16 bytes, and for an offset of 0 its header too; not where it has no 20 bytes, and not
-- where its payload ends behind the buffer
unfoldable pub written_at : (buf : List ℕ) (offset : ℕ) (seg : List ℕ) → List ℕ
written_at buf offset seg =
    cond (ltb (length seg) 20) buf
    (cond (ltb (length buf) (16 + (offset + size seg))) buf
    (pasted (cond (eqb offset 0) (pasted buf 0 (header seg)) buf) (16 + offset) (payload seg)))

-- the length field, bytes 4 to 7, of a report whose payload ends at `end`: that end plus 8; not where there are no 8 bytes, and not past the highest
-- limit
unfoldable pub length_put : (buf : List ℕ) (end : ℕ) → List ℕ
length_put buf end = cond (ltb (length buf) 8) buf (cond (ltb highest end) buf (pasted buf 4 (be32 (end + 8))))
