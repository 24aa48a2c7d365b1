-- Numbers at their places, as the bytes that they stand for. Assumes nothing.
use Prim.Native.Nat.{ℕ, ◌+◌, ◌≤◌}
use mathlib.Core.Path.{◌≡◌, sym}
use mathlib.Core.List.{List, ◌++◌}
use native.Mathlib.Omega.{arith}
use lib.ListN.{length, take, drop, length-drop}
use lib.Seq.{take-add, drop-drop}
use Rattle.numbers.specs.Bytes.{Bytes, be32, at32}
use Rattle.numbers.proofs.ByteLaws.{bytes_drop, be16_at, be32_at, at32_drop, take_tab}

front : (s : List ℕ) → Bytes s → 4 ≤ length s → be32 (at32 s 0) ≡ take 4 s
front s b h = rw (be32_at s 0 b, be16_at s 0 b, be16_at s 2 b) (sym (take_tab 4 s h))

-- the four bytes at a place are its word's
pub word : (s : List ℕ) (k : ℕ) → Bytes s → k + 4 ≤ length s → be32 (at32 s k) ≡ take 4 (drop k s)
word s k b h = rw (← (at32_drop s k)) (front (drop k s) (bytes_drop s k b) (rw length-drop (omega arith)))

-- a word, and `n` bytes behind it
pub word_then : (s : List ℕ) (k n : ℕ) → Bytes s → k + 4 ≤ length s → be32 (at32 s k) ++ take n (drop (k + 4) s) ≡ take (4 + n) (drop k s)
word_then s k n b h = rw (word s k b h, ← (drop-drop 4 k s)) (sym (take-add 4 n (drop k s)))
