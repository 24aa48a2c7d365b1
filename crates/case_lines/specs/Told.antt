-- What a public function said, as numbers. Assumes nothing: these are definitions.
use Rattle.std.specs.Prelude.{ℕ, List, Result, Ok, Err}
use Rattle.numbers.specs.Refusals.{refusal}
use Rattle.refusal.specs.declared.Refusal.{Refusal}
use Rattle.refusal.specs.declared.values.Numbers.{Numbers}
use Rattle.refusal.specs.Said.{said, laid}

-- 0 with the values of what was accepted, or the refusal's number and values
abbrev pub numbers : Result (List ℕ) Refusal → Numbers
numbers (Ok vs) = laid (refusal 0 vs)
numbers (Err r) = laid (said r)
