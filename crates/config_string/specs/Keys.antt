-- The end of a key, for the function inside that judges it. Assumes nothing: these are definitions.
use Rattle.std.specs.Prelude.{ℕ, Bool, eqb}
use Rattle.numbers.specs.Refusals.{empty_key, only_whitespace}
use Rattle.numbers.specs.Answers.{Verdict, pass, refuse◌when◌else◌}

-- a key of `len` bytes, none of them bad: empty, all spaces
unfoldable pub judge_end : (item len : ℕ) (blank : Bool) → Verdict
judge_end item len blank =
    refuse empty_key item when eqb len 0 else
    (refuse only_whitespace item when blank else
    pass)
