-- Big-endian numbers out of bytes and back. Assumes nothing.
use mathlib.Core.Path.{◌≡◌, refl, ap}
use mathlib.Core.List.{List, [], ◌∷◌, ◌++◌}
use Prim.Native.Nat.{ℕ, zero, suc, ◌+◌, ◌/◌, ◌%◌, ◌-◌, ◌≤◌, ◌<◌}
use native.Mathlib.Nat.{add_assoc, add-zero, le_of_suc-le-suc, not-suc-le-zero}
use native.Mathlib.Omega.{arith}
use lib.ListN.{length, take, drop, get_or, length-drop, take-append-drop}
use lib.Seq.{get_or-drop, take_all}
use Rattle.numbers.specs.Bytes.{Bytes, be16, be24, be32, at16, at24, at32}

pub bytes_drop : (s : List ℕ) (n : ℕ) → Bytes s → Bytes (drop n s)
bytes_drop s n b i = rw get_or-drop (b (n + i))

-- a part from a place on is what is left there
pub take_rest : (s : List ℕ) (k : ℕ) → take (length s - k) (drop k s) ≡ drop k s
take_rest s k = take_all (length s - k) (drop k s) (rw length-drop (omega arith))

-- the parts of bytes are bytes
pub bytes_left : (a b : List ℕ) → Bytes (a ++ b) → Bytes a
bytes_left [] b h i = omega arith
bytes_left (x ∷ a) b h zero = h 0
bytes_left (x ∷ a) b h (suc i) = bytes_left a b (λ k. h (suc k)) i

pub bytes_right : (a b : List ℕ) → Bytes (a ++ b) → Bytes b
bytes_right [] b h = h
bytes_right (x ∷ a) b h = bytes_right a b (λ k. h (suc k))

pub bytes_take : (s : List ℕ) (n : ℕ) → Bytes s → Bytes (take n s)
bytes_take s n b = bytes_left (take n s) (drop n s) (rw take-append-drop b)

-- a number that stands at `i`, as bytes
pub be16_at : (s : List ℕ) (i : ℕ) → Bytes s → be16 (at16 s i) ≡ get_or s i 0 ∷ get_or s (i + 1) 0 ∷ []
unfolding be16 at16
be16_at s i b =
    let h : at16 s i / 256 ≡ get_or s i 0 = omega (arith, b (i + 1)) in
    let l : at16 s i % 256 ≡ get_or s (i + 1) 0 = omega (arith, b (i + 1)) in
    rw (h, l)

small16 : (s : List ℕ) (i : ℕ) → Bytes s → at16 s i < 65536
unfolding at16
small16 s i b = omega (arith, b i, b (i + 1))

pub be24_at : (s : List ℕ) (i : ℕ) → Bytes s → be24 (at24 s i) ≡ get_or s i 0 ∷ be16 (at16 s (i + 1))
unfolding be24 at24
be24_at s i b =
    let h : at24 s i / 65536 ≡ get_or s i 0 = omega (arith, small16 s (i + 1) b) in
    let l : at24 s i % 65536 ≡ at16 s (i + 1) = omega (arith, small16 s (i + 1) b) in
    rw (h, l)

pub be32_at : (s : List ℕ) (i : ℕ) → Bytes s → be32 (at32 s i) ≡ be16 (at16 s i) ++ be16 (at16 s (i + 2))
unfolding be32 at32
be32_at s i b =
    let h : at32 s i / 65536 ≡ at16 s i = omega (arith, small16 s (i + 2) b) in
    let l : at32 s i % 65536 ≡ at16 s (i + 2) = omega (arith, small16 s (i + 2) b) in
    rw (h, l)

-- the first bytes, one by one
abbrev pub tab : ℕ → (ℕ → ℕ) → List ℕ
tab zero f = []
tab (suc n) f = f 0 ∷ tab n (λ i. f (suc i))

pub take_tab : (n : ℕ) (s : List ℕ) → n ≤ length s → take n s ≡ tab n (λ i. get_or s i 0)
take_tab zero s h = refl
take_tab (suc n) [] h = absurd (not-suc-le-zero h)
take_tab (suc n) (x ∷ s) h = ap (λ (t : List ℕ). x ∷ t) (take_tab n s (le_of_suc-le-suc h))

-- a number read from its bytes
pub at16_be : (n : ℕ) (t : List ℕ) → at16 (be16 n ++ t) 0 ≡ n
unfolding at16 be16
at16_be n t = omega arith

pub at24_be : (n : ℕ) (t : List ℕ) → at24 (be24 n ++ t) 0 ≡ n
unfolding at24 be24 at16 be16
at24_be n t = omega arith

pub at32_be : (n : ℕ) (t : List ℕ) → at32 (be32 n ++ t) 0 ≡ n
unfolding at32 be32 at16 be16
at32_be n t = omega arith

-- where the number stands
pub at16_drop : (s : List ℕ) (n i : ℕ) → at16 (drop n s) i ≡ at16 s (n + i)
unfolding at16
at16_drop s n i = simp (get_or-drop, add_assoc)

pub at32_drop : (s : List ℕ) (n : ℕ) → at32 (drop n s) 0 ≡ at32 s n
unfolding at32
at32_drop s n = simp (at16_drop, add-zero)
