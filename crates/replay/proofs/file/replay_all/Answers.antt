-- `replay::file::replay_all` meets its contract: one call more, and whether it agreed. Assumes nothing.
use mathlib.Core.Path.{refl, ◌∙◌}
use Prim.Native.Nat.{◌+◌}
use native.Mathlib.Omega.{arith}
use borrow.Author.Rules.{rules}
use Rattle.replay.proofs.Laws.{answered, first_agrees, first_differs}
use Rattle.replay.proofs.file.replay_all.Goals as goal
use Rattle.replay.proofs.file.replay_all.Goals.{then-not-agrees, else-not-agrees}

pub loop-before-preserved : goal.loop-before-preserved
loop-before-preserved g c =
    let one_more = answered _ _ _ _ _ _ c.if-not-agrees.first c.agrees.result c.loop-before.invariant.first (_, c.agrees.ensures) in
    record {
      within = search rules;
      first =
          elim c.if-not-agrees.branch [
            | then-not-agrees w ↦ one_more (λ answers long is. w.first-is ∙ w.or-first.ensures ∙ rw (is, w.if-not-agrees.true, first_differs 1 answers (c.loop-before.before + 1) (omega arith)) refl)
            | else-not-agrees w ↦ one_more (λ answers long is. w.first-is ∙ is ∙ rw (w.if-not-agrees.false, first_agrees 1 answers) refl)
          ];
    }
