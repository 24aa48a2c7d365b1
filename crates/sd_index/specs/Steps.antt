-- What the cursors answer, and where they stand then. Assumes nothing: these are definitions.
use Rattle.sd_index.specs.declared.lookup.Found.{Found}
use Rattle.sd_index.specs.declared.cursor.OptionCursor.{OptionCursor}
use Rattle.sd_option.specs.declared.reading.OptionHead.{OptionHead}
use Rattle.refusal.specs.declared.answers.Step.{Step}
use Rattle.std.specs.Prelude.{ℕ, ◌≡◌, List}
use Rattle.numbers.specs.Answers.{given}
use Rattle.sd_format.specs.Settings.{Settings}
use Rattle.sd_format.specs.Sequences.{behind, stands}
use Rattle.sd_format.specs.Frames.{size, next_option, Run, next_of_run, along}
use Rattle.sd_option.specs.Reading.{head_of, option_said}
use Rattle.sd_index.specs.Found.{found_said, by_table}
use Rattle.sd_index.specs.declared.cursor.RunCursor.{RunCursor}

-- a step of the option cursor from place `at` among the options `s`
pub record OptionStepped (g : Settings) (s : List ℕ) (at : ℕ) (step : (Step OptionHead OptionCursor)) : Type 0 where
  pub answer : option_said step.answer ≡ given head_of (next_option g s at)
  pub cursor : step.after.at.0 ≡ stands (behind size) (next_option g s at) at

-- a run cursor in the words of the definitions
abbrev pub run_of : (start count : ℕ) → Run
run_of start count = record { next = start; left = count }

abbrev pub run_said : RunCursor → Run
run_said c = run_of c.next.0 c.left

-- a step of the run cursor `r` among the options `s`, of which there are `count`, by the table
pub record RunStepped (s tab : List ℕ) (count : ℕ) (r : Run) (step : (Step Found RunCursor)) : Type 0 where
  pub answer : found_said step.answer ≡ by_table tab r.next (next_of_run s tab count r)
  pub cursor : run_said step.after ≡ stands along (next_of_run s tab count r) r
