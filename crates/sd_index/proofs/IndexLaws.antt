-- What a reading of the options leaves, by what it came to: the answer, the slots, and the whole lent table. Assumes nothing.
use Rattle.std.specs.Prelude.{Result, Ok, Err}
use Rattle.std.specs.Result.{is_err}
use Prim.Native.Nat.{ℕ, ◌≤◌, ◌<◌}
use mathlib.Core.Path.{◌≡◌, refl, sym, ap, ◌∙◌}
use mathlib.Core.Bool.{true, false}
use mathlib.Core.List.{List, ◌++◌}
use lib.ListN.{length, drop, replicate}
use borrow.Author.Tests.{lt-ltb, le-ltb}
use Rattle.std.proofs.lemmas.List.{drop-replicate}
use Rattle.numbers.specs.Refusals.{index_too_large}
use Rattle.numbers.specs.Answers.{Answer, accepted, refused, given, refuse◌when◌else◌}
use Rattle.sd_format.specs.Settings.{Settings}
use Rattle.sd_format.specs.Sequences.{starts}
use Rattle.sd_format.specs.Frames.{Frame, size, read_options, slots, zeros, lent, filled, table_after, read_index}
use Rattle.sd_format.specs.Demand3.{undecided}
use Rattle.sd_format.proofs.CallLaws.{index_reads}
use Rattle.refusal.specs.declared.Refusal as code
use Rattle.refusal.specs.declared.Refusal.TheVariants.{FewSlots}
use Rattle.refusal.specs.Said.{count_said}
use Rattle.sd_index.specs.Indexed.{Sweeps, Indexed, indexed}

-- ---- the lent table, of which the slots are the first part

pub index_few_slots : (a : Answer (List Frame)) (tab : List ℕ) → length tab < 347 → Indexed a tab tab (Err (FewSlots (length tab)))
unfolding lent slots table_after given refuse◌when◌else◌
index_few_slots a tab h = record { told = rw (lt-ltb (length tab) 347 h); slots = rw (lt-ltb (length tab) 347 h) }

pub index_lent : (a : Answer (List Frame)) (tab : List ℕ) (r : Result ℕ code.Refusal) (here : List ℕ) → 347 ≤ length tab → count_said r ≡ given length a → here ≡ filled a
    → Indexed a tab (here ++ drop 347 tab) r
unfolding lent slots table_after refuse◌when◌else◌
index_lent a tab r here long told left =
    record { told = told ∙ rw (le-ltb (length tab) 347 long) refl; slots = rw (le-ltb (length tab) 347 long) (ap (λ (l : List ℕ). l ++ drop 347 tab) left) }

-- ---- what the options come to

module _ (g : Settings) (s : List ℕ) where
  pub indexed_long : 1388 < length s → indexed g s ≡ refused (index_too_large (length s))
  unfolding indexed refuse◌when◌else◌
  indexed_long h = rw (lt-ltb 1388 (length s) h)

  -- within a payload the length is never too large
  pub indexed_is : length s ≤ 1388 → indexed g s ≡ read_options g s
  unfolding indexed refuse◌when◌else◌
  indexed_is short = rw (le-ltb 1388 (length s) short)

  pub long_told : 1388 < length s → refused (index_too_large (length s)) ≡ given length (indexed g s)
  unfolding given
  long_told h = rw (indexed_long h)

  pub long_left : 1388 < length s → (here : List ℕ) → here ≡ replicate 347 0 → here ≡ filled (indexed g s)
  unfolding filled slots zeros
  long_left h here zero = rw (indexed_long h) zero

-- the index alone permits every unknown option
pub indexed_alone : (g : Settings) (s : List ℕ) → indexed (undecided g) s ≡ read_index g s
unfolding indexed read_index
indexed_alone g s = rw (index_reads g s)

-- ---- what the pass came to, over slots that were cleared

module _ (g : Settings) (s tab here : List ℕ) (short : length s ≤ 1388) (zero : tab ≡ replicate 347 0) where
  pub swept_told : (r : Result ℕ code.Refusal) → Sweeps g s tab here r → count_said r ≡ given length (indexed g s)
  unfolding given
  swept_told (Ok n) (fs, reads, count, left) = rw (indexed_is g s short, reads) (ap accepted (sym count))
  swept_told (Err r) refuses = rw (indexed_is g s short, refuses) refl

  -- a pass that was not refused left the slots as they are to be
  pub swept_left : (r : Result ℕ code.Refusal) → is_err r ≡ false → Sweeps g s tab here r → here ≡ filled (indexed g s)
  unfolding filled slots zeros
  swept_left (Ok n) good (fs, reads, count, left) =
      rw (indexed_is g s short, reads)
      (left ∙ rw (zero, count) (ap (λ (l : List ℕ). starts size 0 fs ++ l) (drop-replicate n 347 0)))
  swept_left (Err r) good refuses = cc

  -- and after one that was they are cleared once more
  pub swept_cleared : (r : Result ℕ code.Refusal) → is_err r ≡ true → Sweeps g s tab here r → (after : List ℕ) → after ≡ replicate 347 0 → after ≡ filled (indexed g s)
  unfolding filled slots zeros
  swept_cleared (Ok n) bad swept after again = cc
  swept_cleared (Err r) bad refuses after again = rw (indexed_is g s short, refuses) again
