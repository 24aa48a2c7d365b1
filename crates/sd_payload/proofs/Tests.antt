-- Tests that stand one after the other: which way each goes, by the numbers that it compares. Assumes nothing.
use mathlib.Core.Path.{◌≡◌, refl}
use mathlib.Core.Bool.{Bool, true, false}
use Rattle.std.proofs.lemmas.Bool.Decides.{nat_tests}
use Rattle.numbers.specs.Refusals.{Refusal}
use Rattle.numbers.specs.Answers.{Answer, refused, Verdict, ◌>>◌, refuse◌when◌else◌}
use Rattle.numbers.proofs.AnswerLaws.{when_hit, when_pass, then_pass}

-- what comes after the tests comes after each
pub then_after : {B : Type 0} (r : Refusal) (b : Bool) (v : Verdict) (a : Answer B) → ((refuse r when b else v) >> a) ≡ (refuse r when b else (v >> a))
unfolding ◌>>◌ refuse◌when◌else◌
then_after r true v a = refl
then_after r false v a = refl

pub then_stop : {B : Type 0} (v : Verdict) (a : Answer B) (r : Refusal) → v ≡ refused r → (v >> a) ≡ refused r
unfolding ◌>>◌
then_stop v a r e = rw e

pub ruleset tests = (nat_tests, when_hit, when_pass, then_pass, then_stop)
