-- `tp_lent::consume` meets its contract: what is planned is what the machine accepts, and all else is done by value. Assumes nothing.
use mathlib.Core.Path.{◌≡◌, ◌∙◌, subst}
use mathlib.Core.List.{List}
use Prim.Native.Nat.{ℕ}
use Rattle.tp_lent.specs.Lent.{Joins}
use Rattle.tp_words.proofs.FirstLaws.{first_whole}
use Rattle.tp_lent.proofs.CallLaws.{joined_in_place}
use Rattle.tp_lent.proofs.consume.Goals as goal
use Rattle.tp_lent.proofs.consume.Goals.{in-Some+in_default-plan_of, in_default}

pub returns-in-Some-plan_of : goal.returns-in-Some-plan_of
returns-in-Some-plan_of c =
    joined_in_place c.args.words.now c.args.seg.now c.args.buf.now _ c.in-Some.ensures.cases c.in-Some-plan_of.plan c.in-Some-plan_of.ensures _ _ c.carry_out.ensures

pub returns : goal.returns
returns c =
    let same : c.match-first_chunk_mut.words ≡ c.args.words.now =
    elim c.match-first_chunk_mut.branch [
      | in-Some+in_default-plan_of w ↦ w.words-is ∙ first_whole _ _ w.in-Some.ensures.cases
      | in_default w ↦ w.words-is
    ] in
    subst (λ (ws : List ℕ). Joins ws c.args.seg.now c.args.buf.now c.consume_by_value.result c.consume_by_value.new.words c.consume_by_value.new.buf) same c.consume_by_value.ensures
