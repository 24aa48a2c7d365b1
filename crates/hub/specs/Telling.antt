-- What an answer's numbers mean to C: 0 exactly for what was accepted, and a refusal by its row of the rules' table, in literal numbers (crate
-- refusal, Rows), its place the last of the values, with zeros behind them. Assumes nothing: these are definitions.
use Rattle.std.specs.Prelude.{ℕ, ◌≤◌, ◌≡◌, List, length, take, get_or}
use Rattle.numbers.specs.Refusals.{gives}
use Rattle.numbers.specs.Answers as paper
use Rattle.refusal.specs.declared.Refusal.{Refusal}
use Rattle.refusal.specs.Said.{places, said}
use Rattle.refusal.specs.Rows as Rows
use Rattle.hub.specs.declared.answers.Answer.{Answer}
use Rattle.hub.specs.Answers.{told}

-- a number, with these values in front and zeros behind them
pub record Numbered (n : ℕ) (vs : List ℕ) (a : Answer) : Type 0 where
  pub number : a.number ≡ n
  pub values : take (length vs) a.values ≡ vs
  pub zeros_behind : (i : ℕ) → length vs ≤ i → get_or a.values i 0 ≡ 0

pub record Telling {A : Type 0} (values : A → List ℕ) : Type 0 where
  pub accepted : (a : A) → length (values a) ≤ places → Numbered 0 (values a) (told values (paper.accepted a))
  pub refused : (r : Refusal) → Numbered (Rows.row r).number (gives (Rows.row r)) (told values (paper.refused (said r)))
  pub never_zero : (r : Refusal) → (told values (paper.refused (said r))).number ≡ 0 → ⊥
