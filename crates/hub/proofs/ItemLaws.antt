-- An item of a configuration string, from where the next one stands. Assumes nothing.
use Prim.Native.Nat.{ℕ, ◌+◌, ◌-◌}
use mathlib.Core.Path.{◌≡◌, sym, ap, ◌∙◌}
use mathlib.Core.List.{List, [], ◌∷◌}
use native.Mathlib.Omega.{arith}
use lib.ListN.{length}
use Rattle.numbers.specs.Answers.{accepted, refused, given}
use Rattle.numbers.specs.Refusals.{Refusal}
use Rattle.numbers.proofs.AnswerLaws.{given_accepted, given_refused}
use Rattle.config_string.specs.Items.{next_item, past}
use Rattle.hub.specs.Answers.{row, refusal_row, told, item_values}

module _ (s : List ℕ) (at : ℕ) where
  pub next_behind : (next : ℕ) → accepted next ≡ given (past at) (next_item s at) → (item : List ℕ) × (next_item s at ≡ accepted item) × (at + (1 + length item) ≡ next)
  next_behind next e = given_accepted (past at) (next_item s at) next (sym e)

  pub item_told : (next : ℕ) → accepted next ≡ given (past at) (next_item s at) → row 0 ((at + 1) ∷ (next - (at + 1)) ∷ []) ≡ told (item_values at) (next_item s at)
  item_told next e =
      let (item, found, same) = next_behind next e in
      let size : next - (at + 1) ≡ length item = omega arith in
      ap (λ (n : ℕ). row 0 ((at + 1) ∷ n ∷ [])) size ∙ sym (ap (told (item_values at)) found)

  pub none_told : (r : Refusal) → refused r ≡ given (past at) (next_item s at) → refusal_row r ≡ told (item_values at) (next_item s at)
  none_told r e = sym (ap (told (item_values at)) (given_refused (past at) (next_item s at) r (sym e)))
