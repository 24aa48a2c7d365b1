-- `tp_lent::order::in_order` meets its contract. Assumes nothing.
use Prim.Native.Nat.{ℕ}
use mathlib.Core.Path.{◌≡◌, refl, sym, ap, ◌∙◌}
use mathlib.Core.Bool.{Bool, true, false, not, ◌&&◌}
use mathlib.Core.List.{List}
use Rattle.tp_machine.specs.Machine.{bad_range}
use Rattle.tp_range.specs.Ordered.{rising}
use Rattle.tp_words.specs.Words.{stream_of, state_of}
use Rattle.tp_lent.specs.Lent.{held, unready, in_order}
use Rattle.tp_words.proofs.FirstLaws.{first_stream}
use Rattle.tp_lent.proofs.FrontLaws.{first_order}
use Rattle.tp_lent.proofs.order.in_order.Goals as goal

-- words whose ranges are out of order
out : (ws : List ℕ) → rising (bad_range (state_of ws)) 0 (held ws) ≡ false → in_order ws ≡ false
out ws e = go (unready ws)
  where
    go : (b : Bool) → (not b && rising (bad_range (state_of ws)) 0 (held ws)) ≡ false
    go true = refl
    go false = e

pub returns-in_err-stream : goal.returns-in_err-stream
returns-in_err-stream c =
    rw c.from_residual-in_err-stream.ensures (sym (first_order _ _ c.in_ok-first_chunk.ensures.cases) ∙ rw c.in_err-stream.ensures)

pub returns-in_err-survey : goal.returns-in_err-survey
returns-in_err-survey c =
    rw c.from_residual-in_err-survey.ensures
    (sym (first_order _ _ c.in_ok-first_chunk.ensures.cases) ∙ ap in_order (sym c.in_ok-stream.ensures) ∙ out c.in_ok-stream.stream.words.now c.in_err-survey.ensures)

pub returns : goal.returns
returns c =
    (rw (c.in_ok-stream.stream.ready, c.in_ok-survey.ensures.order), ap stream_of c.in_ok-stream.ensures ∙ first_stream _ _ c.in_ok-first_chunk.ensures.cases)
