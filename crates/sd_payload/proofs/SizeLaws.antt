-- The sizes: by the numbers that the code has read, and what their acceptance says of the bytes. Assumes nothing.
use mathlib.Core.Path.{◌≡◌, sym, ap, ◌∙◌}
use mathlib.Core.Bool.{not}
use mathlib.Core.List.{List}
use Prim.Native.Nat.{ℕ, ◌+◌, ◌*◌, ◌-◌, ◌%◌, ◌<◌, ◌≤◌}
use native.Mathlib.Omega.{arith}
use lib.Dec.{ltb, eqb}
use lib.ListN.{length, take, drop, get_or, length-drop}
use lib.Seq.{length-take-le}
use borrow.Author.Tests.{lt-ltb, le-ltb, eq-eqb}
use Rattle.numbers.specs.Refusals.{unexpected_end, entries_too_large, entries_uneven, options_too_large}
use Rattle.numbers.specs.Answers.{Verdict, accepted, refused, pass, ◌>>◌, refuse◌when◌else◌}
use Rattle.numbers.specs.Bytes.{at16, at32}
use Rattle.numbers.proofs.AnswerLaws.{when_hit, when_pass, then_accepted, accepted_inj}
use Rattle.numbers.proofs.ByteLaws.{take_rest}
use Rattle.sd_format.specs.Payload.{sizes, entries_length, options_length, entries_part, options_part}
use Rattle.sd_format.proofs.PayloadLaws.{Sizes, sizes_said}
use Rattle.sd_payload.specs.Sized.{sized, whole}
use Rattle.sd_payload.proofs.Tests.{then_after}

-- the number of four bytes at a place
abbrev pub word : List ℕ → ℕ → ℕ
word s i = (get_or s i 0 * 256 + get_or s (i + 1) 0) * 65536 + (get_or s (i + 2) 0 * 256 + get_or s (i + 3) 0)

pub word_at : (s : List ℕ) (i : ℕ) → word s i ≡ at32 s i
unfolding at32 at16
word_at s i = let e : i + 2 + 1 ≡ i + 3 = omega arith in rw e

-- fewer than 12 bytes
pub sized_short : (s : List ℕ) → length s < 12 → sized s ≡ refused (unexpected_end 12)
unfolding sized sizes ◌>>◌
sized_short s h = ap (λ (v : Verdict). v >> accepted (entries_length s)) (when_hit _ _ _ (lt-ltb (length s) 12 h))

-- the last three tests are left
pub sizes_whole : (n el ol : ℕ) → 12 ≤ n → el ≤ 1388 → el % 16 ≡ 0 → 12 + el ≤ n → ol ≤ 1388 → sizes n el ol ≡ whole n el ol
unfolding sizes whole
sizes_whole n el ol twelve short even there few =
    when_pass _ _ _ (le-ltb n 12 twelve)
    ∙ when_pass _ _ _ (le-ltb 1388 el short)
    ∙ when_pass _ _ _ (ap not (eq-eqb (el % 16) 0 even))
    ∙ when_pass _ _ _ (le-ltb n (12 + el) there)
    ∙ when_pass _ _ _ (le-ltb 1388 ol few)

-- ---- once they pass: where the two parts stand in the caller's bytes

pub record Parts (s : List ℕ) (n : ℕ) : Type 0 where
  pub passed : sizes (length s) (entries_length s) (options_length s) ≡ pass
  pub there : 12 + n ≤ length s
  pub short : n ≤ 1388
  pub entries_long : length (entries_part s) ≡ n
  pub options_short : length (options_part s) ≤ 1388
  pub entries_are : take (8 + n - 8) (drop 8 s) ≡ entries_part s
  pub options_are : take (length s - (12 + n)) (drop (12 + n) s) ≡ options_part s

pub parts : (s : List ℕ) (n : ℕ) → sized s ≡ accepted n → Parts s n
unfolding sized entries_part options_part
parts s n e =
    let (passed, same) = then_accepted _ _ _ e in
    let is : entries_length s ≡ n = accepted_inj _ n same in
    let fit : Sizes (length s) (entries_length s) (options_length s) = sizes_said _ _ _ passed in
    let there : 12 + entries_length s ≤ length s = omega (arith, fit.whole) in
    let k : 8 + n - 8 ≡ entries_length s = omega arith in
    record {
      passed = passed;
      there = omega arith;
      short = omega (arith, fit.short_entries);
      entries_long = length-take-le (entries_length s) (drop 8 s) (rw length-drop (omega arith)) ∙ is;
      options_short = rw length-drop (omega (arith, fit.whole, fit.short_options));
      entries_are = ap (λ (m : ℕ). take m (drop 8 s)) k;
      options_are = take_rest s (12 + n) ∙ ap (λ (m : ℕ). drop (12 + m) s) (sym is);
    }

pub there : (s : List ℕ) (n : ℕ) → sized s ≡ accepted n → 12 + n ≤ length s
there s n e = (parts s n e).there

-- the sizes as tests of the numbers that the code reads, one after the other
pub sized_tests : (s : List ℕ) → sized s ≡
    (refuse unexpected_end 12 when ltb (length s) 12 else
    refuse entries_too_large (word s 4) when ltb 1388 (word s 4) else
    refuse entries_uneven (word s 4) when not (eqb (word s 4 % 16) 0) else
    refuse unexpected_end (12 + word s 4) when ltb (length s) (12 + word s 4) else
    refuse options_too_large (word s (8 + word s 4)) when ltb 1388 (word s (8 + word s 4)) else
    (whole (length s) (word s 4) (word s (8 + word s 4)) >> accepted (word s 4)))
unfolding sized sizes whole entries_length options_length
sized_tests s = rw (word_at s 4, word_at s (8 + at32 s 4)) (simp then_after)
