-- What is promised of reading an options part into a lent table. Assumes nothing: these are definitions.
use Rattle.refusal.specs.declared.Refusal.{Refusal}
use Rattle.std.specs.Prelude.{ℕ, ◌≡◌, cond, List, ◌++◌, length, drop, ltb, Result, Ok, Err}
use Rattle.numbers.specs.Refusals.{index_too_large}
use Rattle.numbers.specs.Answers.{Answer, accepted, refused, given, refuse◌when◌else◌}
use Rattle.sd_format.specs.Settings.{Settings}
use Rattle.sd_format.specs.Sequences.{starts}
use Rattle.sd_format.specs.Frames.{Frame, size, read_options, slots, zeros, lent, table_after}
use Rattle.refusal.specs.Said.{said, count_said}

-- what was read of the options, and the lent table before and after; the answer is how many options there are
pub record Indexed (a : Answer (List Frame)) (tab tab' : List ℕ) (r : (Result ℕ Refusal)) : Type 0 where
  pub told : count_said r ≡ given length (lent tab a)
  pub slots : tab' ≡ table_after tab a

-- the lent table after a refusal
unfoldable pub cleared : List ℕ → List ℕ
cleared tab = cond (ltb (length tab) slots) tab (zeros slots ++ drop slots tab)

-- the options under the settings, in no more bytes than a payload can have
unfoldable pub indexed : Settings → List ℕ → Answer (List Frame)
indexed g s = refuse index_too_large (length s) when ltb 1388 (length s) else read_options g s

-- What the pass over the options leaves: their number, and the slots with their offsets in front; or the first refusal.
abbrev pub Sweeps : Settings → List ℕ → List ℕ → List ℕ → (Result ℕ Refusal) → Type 0
Sweeps g s tab tab' (Ok n) = (fs : List Frame) × (read_options g s ≡ accepted fs) × (length fs ≡ n) × (tab' ≡ starts size 0 fs ++ drop n tab)
Sweeps g s tab tab' (Err r) = read_options g s ≡ refused (said r)
