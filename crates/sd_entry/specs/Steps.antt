-- What the entry cursor answers, and where it stands then. Assumes nothing: these are definitions.
use Rattle.sd_entry.specs.declared.cursor.EntryCursor.{EntryCursor}
use Rattle.sd_entry.specs.declared.SdEntry.{SdEntry}
use Rattle.refusal.specs.declared.answers.Step.{Step}
use Rattle.std.specs.Prelude.{ℕ, ◌≡◌, List}
use Rattle.sd_format.specs.Sequences.{behind, stands}
use Rattle.sd_format.specs.Entries.{sixteen, next_entry}
use Rattle.sd_entry.specs.Said.{answer_said}

-- a step of the cursor from place `at` among the entries `s`
pub record Stepped (s : List ℕ) (at : ℕ) (step : (Step SdEntry EntryCursor)) : Type 0 where
  pub answer : answer_said step.answer ≡ next_entry s at
  pub cursor : step.after.at ≡ stands (behind sixteen) (next_entry s at) at
