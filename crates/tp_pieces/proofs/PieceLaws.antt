-- A piece's segment, cut out of the frame, is the rules' own. Assumes nothing.
use Prim.Native.Nat.{ℕ, ◌+◌, ◌-◌, ◌*◌, ◌/◌, ◌%◌, ◌<◌, ◌≤◌}
use mathlib.Core.Path.{◌≡◌, sym, ap, ap₂, ◌∙◌}
use mathlib.Core.Bool.{Bool, true, false, cond}
use mathlib.Core.List.{List, [], ◌∷◌, ◌++◌}
use lib.ListN.{take, replicate, replicate-append-replicate, length-replicate}
use lib.Seq.{take-append-add, take_at}
use native.Mathlib.Omega.{arith}
use Rattle.numbers.specs.Bytes.{be16, be32}
use Rattle.tp_machine.specs.Cases.{segment}

-- a number of two bytes, as four
two_bytes : (n high low : ℕ) → n ≡ 256 * high + low → high < 256 → low < 256 → be32 n ≡ 0 ∷ 0 ∷ high ∷ low ∷ []
unfolding be32 be16
two_bytes n high low e h l =
    let above : n / 65536 ≡ 0 = omega (arith, e) in
    let high_is : n % 65536 / 256 ≡ high = omega (arith, e) in
    let low_is : n % 65536 % 256 ≡ low = omega (arith, e) in
    ap (λ (x : ℕ). x / 256 ∷ x % 256 ∷ be16 (n % 65536)) above ∙ ap₂ {C = List ℕ} (λ (x y : ℕ). 0 ∷ 0 ∷ x ∷ y ∷ []) high_is low_is

-- the front of many alike is so many
front : (n m x : ℕ) → n ≤ m → take n (replicate m x) ≡ replicate n x
front n m x h =
    let all : n + (m - n) ≡ m = omega arith in
    ap (λ (k : ℕ). take n (replicate k x)) (sym all) ∙ ap (take n) (sym (replicate-append-replicate n (m - n) x))
    ∙ take_at (replicate n x) (replicate (m - n) x) n (length-replicate n x)

-- header and TP word: the low byte of the length, the two low ones of the offset
abbrev head : (length high low : ℕ) → List ℕ
head length high low = 0x12 ∷ 0x34 ∷ 0x80 ∷ 1 ∷ 0 ∷ 0 ∷ 0 ∷ length ∷ 0 ∷ 0 ∷ 0 ∷ 1 ∷ 1 ∷ 1 ∷ 0x22 ∷ 0 ∷ 0 ∷ 0 ∷ high ∷ low ∷ []

abbrev pub frame : (length high low : ℕ) → List ℕ
frame length high low = head length high low ++ replicate 16 7

pub framed :
    (n : ℕ) (more : Bool) (at : ℕ) → n ≤ 16 → at < 65536
    → take (20 + n) (frame (12 + n) (at / 256) ((at / 16 * 16 + cond more 1 0) % 256)) ≡ segment n more (at / 16 * 16)
framed n more at h few =
    let word : ℕ = at / 16 * 16 + cond more 1 0 in
    let bit : cond more 1 0 < 2 = elim more as (λ m. cond m 1 0 < 2) [ true ↦ omega arith | false ↦ omega arith ] in
    take-append-add (head (12 + n) (at / 256) (word % 256)) (replicate 16 7) n ∙ ap (λ (x : List ℕ). head (12 + n) (at / 256) (word % 256) ++ x) (front n 16 7 h)
    ∙ sym
    (ap₂ {C = List ℕ} (λ (x y : List ℕ). (0x12 ∷ 0x34 ∷ 0x80 ∷ 1 ∷ []) ++ (x ++ ((0 ∷ 0 ∷ 0 ∷ 1 ∷ 1 ∷ 1 ∷ 0x22 ∷ 0 ∷ []) ++ (y ++ replicate n 7))))
    (two_bytes (12 + n) 0 (12 + n) (omega arith) (omega arith) (omega arith)) (two_bytes word (at / 256) (word % 256) (omega (arith, bit)) (omega arith) (omega arith)))
