-- What an answer's numbers mean to C. Assumes nothing.
use Prim.Native.Nat.{ℕ, ◌≤◌}
use mathlib.Core.Path.{refl, sym, subst}
use mathlib.Core.List.{List}
use native.Mathlib.Omega.{arith}
use lib.ListN.{length}
use Rattle.numbers.specs.Refusals as paper
use Rattle.numbers.specs.Refusals.{gives}
use Rattle.refusal.specs.Said.{places}
use Rattle.refusal.specs.Rows as Rows
use Rattle.refusal.proofs.Rows.{rows, padded_front, padded_behind}
use Rattle.hub.specs.Answers.{row, refusal_row}
use Rattle.hub.specs.Telling.{Numbered, Telling}

numbered : (number : ℕ) (vs : List ℕ) → length vs ≤ places → Numbered number vs (row number vs)
numbered number vs few = record { number = refl; values = padded_front places vs few; zeros_behind = padded_behind places vs }

pub telling : {A : Type 0} (values : A → List ℕ) → Telling values
telling values =
    record {
      accepted = λ a few. numbered 0 (values a) few;
      refused = λ r. subst (λ (q : paper.Refusal). Numbered (Rows.row r).number (gives (Rows.row r)) (refusal_row q)) (sym (rows.rows r))
          (numbered (Rows.row r).number (gives (Rows.row r)) (rows.few r));
      never_zero = λ r e. omega (arith, rows.never_zero r);
    }
