-- Where a payload's parts are told to be. Assumes nothing.
use Prim.Native.Nat.{ℕ, ◌+◌, ◌-◌}
use mathlib.Core.Path.{◌≡◌, sym, ap, ◌∙◌}
use mathlib.Core.Bool.{Bool, true, false, cond}
use mathlib.Core.List.{List}
use lib.ListN.{length, length-drop}
use lib.Dec.{eqb}
use borrow.Author.Tests.{eq-eqb, ne_eqb}
use Rattle.numbers.specs.Answers.{accepted, refused}
use Rattle.numbers.specs.Refusals.{Refusal}
use Rattle.numbers.proofs.AnswerLaws.{then_accepted, accepted_inj}
use Rattle.sd_format.specs.Payload.{entries_length, options_part}
use Rattle.sd_payload.specs.Sized.{sized}
use Rattle.sd_payload.proofs.SizeLaws.{parts}
use Rattle.hub.specs.Payload.{nowhere, placed, places_told}

by_number : (n : ℕ) (s : List ℕ) (t : Bool) → eqb n 0 ≡ t → places_told n s ≡ cond t (placed s (sized s)) nowhere
by_number n s t e = ap (λ (b : Bool). cond b (placed s (sized s)) nowhere) e

pub none_after_refusal : (n : ℕ) (s : List ℕ) → (n ≡ 0 → ⊥) → nowhere ≡ places_told n s
none_after_refusal n s h = sym (by_number n s false (ne_eqb n 0 h))

pub none_of_bad_sizes : (n : ℕ) (s : List ℕ) (r : Refusal) → n ≡ 0 → sized s ≡ refused r → nowhere ≡ places_told n s
none_of_bad_sizes n s r z e = sym (by_number n s true (eq-eqb n 0 z) ∙ ap (placed s) e)

-- the parts' lengths, by the entries length
pub placed_there : (n : ℕ) (s : List ℕ) (e : ℕ) → n ≡ 0 → sized s ≡ accepted e
    → record { entries_at = 8; entries_len = e; options_at = 12 + e; options_len = length s - (12 + e) } ≡ places_told n s
unfolding options_part sized
placed_there n s e z is =
    let same : entries_length s ≡ e = accepted_inj (entries_length s) e (then_accepted _ _ e is).1 in
    let rest : length s - (12 + entries_length s) ≡ length (options_part s) = sym (length-drop (12 + entries_length s) s) in
    (λ i. record {
      entries_at = 8;
      entries_len = sym (parts s e is).entries_long i;
      options_at = 12 + sym same i;
      options_len = (ap (λ (k : ℕ). length s - (12 + k)) (sym same) ∙ rest) i;
    })
    ∙ sym (by_number n s true (eq-eqb n 0 z) ∙ ap (placed s) is)
