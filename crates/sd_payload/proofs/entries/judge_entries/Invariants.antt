use mathlib.Core.Path.{◌≡◌}
use Rattle.numbers.specs.Answers.{verdict}
use Rattle.sd_format.specs.Entries.{read_entries}
use Rattle.sd_payload.proofs.entries.judge_entries.Given as goal

abbrev pub invariant-loop-entry : goal.invariant-loop-entry
invariant-loop-entry l = (l.entry-iterator.size ≡ 16) × (verdict (read_entries l.options l.entries) ≡ verdict (read_entries l.options l.entry-iterator.rest.now))
