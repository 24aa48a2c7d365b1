-- The parts that are handed out after an answer of the reading. Assumes nothing.
use Rattle.std.specs.Prelude.{Result, Ok, Err}
use Rattle.refusal.specs.declared.Refusal.{Refusal}
use Rattle.sd_payload.specs.declared.reading.SdPayload.{SdPayload}
use mathlib.Core.Path.{◌≡◌, sym, ap, ◌∙◌}
use mathlib.Core.List.{List, []}
use Prim.Native.Nat.{ℕ, ◌+◌, ◌-◌, ◌≤◌}
use lib.ListN.{length, take, drop}
use Rattle.numbers.specs.Refusals as paper
use Rattle.numbers.specs.Answers.{Answer, accepted, refused, given, part}
use Rattle.numbers.proofs.AnswerLaws.{not_refused}
use Rattle.refusal.specs.Said.{said}
use Rattle.sd_payload.specs.Parts.{settled, handed}
use Rattle.sd_format.specs.Payload.{entries_part, options_part}
use Rattle.sd_payload.proofs.SizeLaws as sizes
use Rattle.sd_payload.proofs.SizeLaws.{Parts}

pub handed_none : (answer : Result SdPayload Refusal) (s : List ℕ) (r : paper.Refusal) → settled answer s ≡ refused r → (bytes : List ℕ) → [] ≡ handed answer s bytes
unfolding given
handed_none answer s r e bytes = sym (ap (λ (a : Answer ℕ). part (given (λ n. bytes) a)) e)

pub handed_part : (answer : Result SdPayload Refusal) (s : List ℕ) (n : ℕ) → settled answer s ≡ accepted n → (bytes : List ℕ) → bytes ≡ handed answer s bytes
unfolding given
handed_part answer s n e bytes = sym (ap (λ (a : Answer ℕ). part (given (λ n. bytes) a)) e)

-- an accepted answer leaves the sizes to the bytes
pub settled_parts : (answer : Result SdPayload Refusal) (s : List ℕ) (n : ℕ) → settled answer s ≡ accepted n → Parts s n
settled_parts (Ok p) s n e = sizes.parts s n e
settled_parts (Err r) s n e = not_refused (said r) n e

module _ (answer : Result SdPayload Refusal) (s : List ℕ) (n : ℕ) (e : settled answer s ≡ accepted n) where
  stand : Parts s n
  stand = settled_parts answer s n e

  pub there : 12 + n ≤ length s
  there = stand.there

  pub entries_handed : take (8 + n - 8) (drop 8 s) ≡ handed answer s (entries_part s)
  entries_handed = stand.entries_are ∙ handed_part answer s n e (entries_part s)

  pub options_handed : take (length s - (12 + n)) (drop (12 + n) s) ≡ handed answer s (options_part s)
  options_handed = stand.options_are ∙ handed_part answer s n e (options_part s)

pub ruleset parts = (there, entries_handed, options_handed, handed_none)
