-- `tp_words::put` meets its contract. Assumes nothing.
use mathlib.Core.Path.{ap, ◌∙◌}
use mathlib.Core.List.{List, ◌++◌}
use Prim.Native.Nat.{ℕ}
use lib.ListN.{drop}
use Rattle.tp_words.specs.Words.{size}
use Rattle.tp_words.proofs.PutLaws.{put_few, put_many, put_all}
use Rattle.tp_words.proofs.put.Goals as goal

pub returns-then-stream-gt-MAX_RANGES : goal.returns-then-stream-gt-MAX_RANGES
returns-then-stream-gt-MAX_RANGES c = put_many _ _ c.if-stream-gt-MAX_RANGES.true

pub returns-in-Some : goal.returns-in-Some
returns-in-Some c =
    ap (λ (l : List ℕ). l ++ drop size c.args.words.now) c.put_in.ensures
    ∙ put_all _ _ c.in-Some.ensures.cases.enough c.if-stream-gt-MAX_RANGES.false

pub returns-in_default : goal.returns-in_default
returns-in_default c = put_few _ _ c.in_default.ensures.cases
