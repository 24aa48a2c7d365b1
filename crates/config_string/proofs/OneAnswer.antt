-- Any two answers that a promise of this crate allows are the same one. Assumes nothing.
use Rattle.std.specs.Prelude.{Result}
use Rattle.refusal.specs.declared.Refusal.{Refusal}
use Prim.Native.Nat.{ℕ}
use mathlib.Core.Path.{◌≡◌, sym, ◌∙◌}
use mathlib.Core.List.{List}
use Rattle.numbers.specs.Answers.{given, verdict}
use Rattle.refusal.specs.Said.{said_by, verdict_said, count_said}
use Rattle.refusal.proofs.OneToOne.{said_one_to_one, verdict_one_to_one, count_one_to_one}
use Rattle.sd_format.specs.Strings.{read_string}
use Rattle.config_string.specs.Items.{next_item, past}

pub one_answer : (s : List ℕ) (x y : Result (Unit {0}) Refusal) → verdict_said x ≡ verdict (read_string s) → verdict_said y ≡ verdict (read_string s) → x ≡ y
one_answer s x y first second = verdict_one_to_one x y (first ∙ sym second)

pub one_item : (s : List ℕ) (at : ℕ) (x y : Result ℕ Refusal) → count_said x ≡ given (past at) (next_item s at) → count_said y ≡ given (past at) (next_item s at) → x ≡ y
one_item s at x y first second = count_one_to_one x y (first ∙ sym second)

-- of an item by its bytes
pub one_item_at : (s : List ℕ) (at : ℕ) (x y : Result (List ℕ) Refusal) → said_by (λ item. item) x ≡ next_item s at → said_by (λ item. item) y ≡ next_item s at → x ≡ y
one_item_at s at x y first second = said_one_to_one _ (λ a b same. same) x y (first ∙ sym second)
