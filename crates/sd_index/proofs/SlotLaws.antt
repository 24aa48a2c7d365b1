-- The slots of the lent table: written one after the other, and cleared. Assumes nothing.
use mathlib.Core.Path.{◌≡◌, sym, ap, ◌∙◌}
use mathlib.Core.List.{List, [], ◌∷◌, ◌++◌, append_assoc}
use Prim.Native.Nat.{ℕ, suc, ◌+◌, ◌-◌, ◌≤◌, ◌<◌}
use native.Mathlib.Numerals.{add-one}
use native.Mathlib.Omega.{arith}
use lib.ListN.{length, drop, get_or, set, replicate, replicate-append-replicate, drop_of_length-le}
use lib.Seq.{drop-cons, set_at, drop_at, length-take-le}
use borrow.Author.Tests.{lt-ltb, le-ltb}
use Rattle.std.specs.Array.{IsFirstChunk}
use Rattle.sd_format.specs.Frames.{slots, zeros}
use Rattle.sd_format.proofs.TableLaws.{length_zeros}
use Rattle.sd_index.specs.Indexed.{cleared}

-- one more slot behind those that were written
pub set_next : (p tab : List ℕ) (n x : ℕ) → length p ≡ n → n < length tab → set (p ++ drop n tab) n x ≡ (p ++ (x ∷ [])) ++ drop (n + 1) tab
set_next p tab n x e h =
    ap (λ (l : List ℕ). set (p ++ l) n x) (drop-cons tab n 0 h)
    ∙ set_at p (get_or tab n 0) (drop (suc n) tab) x n e
    ∙ rw (append_assoc, add-one)

-- ---- a table that was cleared

pub cleared_short : (tab : List ℕ) → length tab < 347 → tab ≡ cleared tab
unfolding cleared slots
cleared_short tab h = rw (lt-ltb (length tab) 347 h)

pub filled_zeros : (old here : List ℕ) → here ≡ replicate (length old) 0 → length old ≡ 347 → here ≡ replicate 347 0
filled_zeros old here filled long = filled ∙ ap (λ (n : ℕ). replicate n 0) long

-- the first 347 slots were filled with zeros
pub cleared_long : {tab first here : List ℕ} → IsFirstChunk tab first 347 → here ≡ replicate (length first) 0 → here ++ drop 347 tab ≡ cleared tab
unfolding cleared slots zeros
cleared_long {tab} {first} {here} chunk filled =
    rw (le-ltb (length tab) 347 chunk.enough)
    (ap (λ (l : List ℕ). l ++ drop 347 tab) (filled_zeros first here filled (ap length chunk.same ∙ length-take-le 347 tab chunk.enough)))

-- ---- what a cleared table holds

zeros_both : (n m : ℕ) → zeros n ++ zeros m ≡ zeros (n + m)
unfolding zeros
zeros_both n m = replicate-append-replicate {A = ℕ} n m 0

cleared_is : (tab : List ℕ) → 347 ≤ length tab → cleared tab ≡ zeros 347 ++ drop 347 tab
unfolding cleared slots
cleared_is tab h = rw (le-ltb (length tab) 347 h)

-- of a table that is no more than the slots all are zeros
pub cleared_whole : (old here : List ℕ) → here ≡ cleared old → length old ≡ 347 → here ≡ replicate 347 0
unfolding zeros
cleared_whole old here is long = is ∙ cleared_is old (omega arith) ∙ rw (drop_of_length-le old {i = 347} (omega arith))

pub past_cleared : (tab : List ℕ) → 347 ≤ length tab → drop slots (cleared tab) ≡ drop slots tab
unfolding slots
past_cleared tab long = ap (drop 347) (cleared_is tab long) ∙ drop_at (zeros 347) (drop 347 tab) 347 (length_zeros 347)

-- behind the first `n` slots
pub behind_cleared : (tab : List ℕ) (n : ℕ) → 347 ≤ length tab → n ≤ 347 → drop n (cleared tab) ≡ zeros (347 - n) ++ drop 347 tab
behind_cleared tab n long few =
    let e : n + (347 - n) ≡ 347 = omega arith in
    ap (drop n) (cleared_is tab long ∙ ap (λ (l : List ℕ). l ++ drop 347 tab) (sym (zeros_both n (347 - n) ∙ ap zeros e)) ∙ append_assoc (zeros n) (zeros (347 - n)) (drop 347 tab))
    ∙ drop_at (zeros n) (zeros (347 - n) ++ drop 347 tab) n (length_zeros n)
