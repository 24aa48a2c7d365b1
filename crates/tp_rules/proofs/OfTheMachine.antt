-- The rules are the machine's. Assumes nothing.
use Rattle.std.specs.Prelude.{Option, Some, ℕ}
use Prim.Native.Nat.{ℕ, ◌≤◌}
use mathlib.Core.Path.{◌≡◌, refl, ap, ◌∙◌}
use mathlib.Core.Bool.{false}
use borrow.Author.Tests.{le-ltb}
use Rattle.tp_machine.specs.Machine.{State, end_past}
use Rattle.tp_rules.specs.Malformed.{Reach}
use Rattle.tp_rules.specs.OfTheMachine.{OfTheMachine}
use Rattle.tp_rules.proofs.JudgingLaws.{first_header}
use Rattle.tp_rules.proofs.MalformedLaws.{reach_limit, reach_end}
use Rattle.tp_rules.proofs.WritingLaws.{written_fits, length_fits}
use Rattle.tp_rules.proofs.TakingLaws.{complete_one, ready_one}

bounded : (p : State) (e : ℕ) → p.end ≡ Some e → e ≤ p.limit → Reach p e
bounded p e k h =
    let low : end_past p.end p.limit ≡ false = ap (λ (d : Option ℕ). end_past d p.limit) k ∙ le-ltb p.limit e h in
    reach_end p p.limit p.end e low refl refl k

pub of_the_machine : OfTheMachine
of_the_machine =
    record {
      judging = first_header;
      unbounded = λ p k. reach_limit p p.limit refl k;
      bounded = bounded;
      writing = written_fits;
      length_field = length_fits;
      completing = complete_one;
      taking = ready_one;
    }
