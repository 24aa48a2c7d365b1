-- Any two outcomes that one promise of this crate allows are equal; of a promise that is one equation that is transitivity. Assumes nothing.
use Rattle.std.specs.Prelude.{Result}
use Rattle.refusal.specs.declared.Refusal.{Refusal}
use Prim.Native.Nat.{ℕ}
use mathlib.Core.Path.{◌≡◌, sym, ◌∙◌}
use mathlib.Core.List.{List}
use Rattle.refusal.proofs.OneToOne.{verdict_one_to_one}
use Rattle.tp_lent.specs.Lent.{Joins, Cleared}

pub joins_unique : (ws seg buf : List ℕ) (v w : (Result (Unit {0}) Refusal)) (a b c d : List ℕ) → Joins ws seg buf v a c → Joins ws seg buf w b d → (v ≡ w) × (a ≡ b) × (c ≡ d)
joins_unique ws seg buf v w a b c d x y = (verdict_one_to_one v w (x.answers ∙ sym y.answers), x.words ∙ sym y.words, x.buffer ∙ sym y.buffer)

pub cleared_unique : (ws : List ℕ) (v w : (Result (Unit {0}) Refusal)) (a b : List ℕ) → Cleared ws v a → Cleared ws w b → (v ≡ w) × (a ≡ b)
cleared_unique ws v w a b x y = (verdict_one_to_one v w (x.answers ∙ sym y.answers), x.words ∙ sym y.words)
