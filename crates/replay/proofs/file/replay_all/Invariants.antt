use Rattle.std.proofs.Common.{◌≡◌, ◌≤◌, ◌<◌, ℕ, Bool, List, length, IfSome}
use Rattle.std.specs.List.{FoldsTo}
use Rattle.replay.specs.Counts.{first_false}
use Rattle.replay.proofs.file.replay_all.Given as goal

abbrev pub invariant-loop-before : goal.invariant-loop-before
invariant-loop-before g l = record {
  within : IfSome l.first (λ n. (0 < n) × (n ≤ l.before));
  first : (answers : List Bool) × (length answers ≡ l.before) × FoldsTo (λ j answer k. (x : List ℕ) × g.J.Judge.judges j x answer k) l.initial.judge answers l.judge × (l.first ≡ first_false 1 answers);
}
