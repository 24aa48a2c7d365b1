-- Laws of what is written into a buffer. Assumes nothing.
use Prim.Native.Nat.{ℕ, ◌+◌, ◌-◌, ◌*◌, ◌/◌, ◌%◌, ◌^◌, ◌≤◌, ◌<◌}
use mathlib.Core.Path.{◌≡◌, refl, sym, ap, ◌∙◌}
use mathlib.Core.Bool.{true, cond}
use mathlib.Core.List.{List, [], ◌∷◌, ◌++◌, append_assoc}
use borrow.Author.Tests.{le-ltb, eqb-true}
use lib.Dec.{eqb}
use lib.ListN.{length, take, drop, set, length-set}
use lib.Seq.{paste, take-length, length-take-le, set-append_left}
use native.Mathlib.Omega.{arith}
use Rattle.numbers.specs.Bytes.{be16, be32}
use Rattle.std.specs.Int.{to_be_bytes}
use Rattle.std.specs.Int.Bits.{bit_and}
use Rattle.std.proofs.Common.{w32}
use Rattle.std.proofs.lemmas.Bool.{agree_below_at}
use Rattle.tp_machine.specs.Segments.{without_tp, offset, payload, size, end_of, header, pasted, written}
use Rattle.tp_machine.specs.Machine.{highest}
use Rattle.tp_rules.specs.Writing.{written_at, length_put}

-- 0x20 is a bit of a message type
pub tp_cleared : (t : ℕ) → t < 256 → bit_and t 223 ≡ without_tp t
unfolding without_tp
tp_cleared t h = eqb-true _ _ (agree_below_at (λ n. eqb (bit_and n 223) (n - n / 32 % 2 * 32)) (λ n. true) 256 t refl h)

-- the bytes of a number
pub four_bytes : (n : ℕ) → n < 2 ^ 32 → to_be_bytes w32 n ≡ be32 n
unfolding be32 be16
four_bytes n h =
    let a : n / 16777216 % 256 ≡ n / 65536 / 256 = omega arith in
    let b : n / 65536 % 256 ≡ n / 65536 % 256 = refl in
    let c : n / 256 % 256 ≡ n % 65536 / 256 = omega arith in
    let d : n % 256 ≡ n % 65536 % 256 = omega arith in
    λ i. a i ∷ b i ∷ c i ∷ d i ∷ []

-- the copy of all of s
pub paste_all : (d : List ℕ) (at : ℕ) (s : List ℕ) → paste d at s (length s) ≡ pasted d at s
unfolding pasted
paste_all d at s = ap (λ (l : List ℕ). take at d ++ l ++ drop (at + length s) d) (take-length s) ∙ append_assoc (take at d) s (drop (at + length s) d)

-- the copy of all of s by way of another list that begins with it
pub paste_by : (d few : List ℕ) (at : ℕ) (s : List ℕ) → take (length s) few ≡ take (length s) s → paste d at few (length s) ≡ pasted d at s
paste_by d few at s e = ap (λ (l : List ℕ). take at d ++ l ++ drop (at + length s) d) e ∙ paste_all d at s

-- a store within what was copied to the front
pub head_pasted : (d s : List ℕ) (i v : ℕ) → i < length s → set (pasted d 0 s) i v ≡ pasted d 0 (set s i v)
unfolding pasted
head_pasted d s i v h = set-append_left s (drop (0 + length s) d) i v h ∙ ap (λ (n : ℕ). set s i v ++ drop (0 + n) d) (sym (length-set s i v))

-- and into byte 14 of a header
pub type_pasted : (d s : List ℕ) (v : ℕ) → 16 ≤ length s → set (pasted d 0 (take 16 s)) 14 v ≡ pasted d 0 (set (take 16 s) 14 v)
type_pasted d s v h = head_pasted d (take 16 s) 14 v (omega (arith, length-take-le 16 s h))

-- a segment at an offset, where it fits
pub written_there : (buf : List ℕ) (at : ℕ) (seg : List ℕ) → 20 ≤ length seg → 16 + (at + size seg) ≤ length buf → pasted (cond (eqb at 0) (pasted buf 0 (header seg)) buf) (16 + at) (payload seg) ≡ written_at buf at seg
unfolding written_at
written_there buf at seg long h = rw (le-ltb (length seg) 20 long, le-ltb (length buf) (16 + (at + size seg)) h)

-- where it fits at its own offset it is what the machine writes
pub written_fits : (buf seg : List ℕ) → 20 ≤ length seg → 16 + end_of seg ≤ length buf → written_at buf (offset seg) seg ≡ written buf seg
unfolding written
written_fits buf seg long fits = sym (written_there buf (offset seg) seg long fits)

-- the length field, where there is a place for it and the end is none past the highest limit
pub length_fits : (buf : List ℕ) (end : ℕ) → 8 ≤ length buf → end ≤ highest → length_put buf end ≡ pasted buf 4 (be32 (end + 8))
unfolding length_put
length_fits buf end long h = rw (le-ltb (length buf) 8 long, le-ltb highest end h)
