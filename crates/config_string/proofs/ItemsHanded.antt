-- Over an accepted string the cursor hands out its items, one after the other, and then 20. Assumes nothing.
use Prim.Native.Nat.{ℕ, ◌+◌, ◌<◌}
use mathlib.Core.Path.{◌≡◌, refl, sym, ap, ◌∙◌}
use mathlib.Core.Bool.{Bool, true, false}
use mathlib.Core.Logic.{◌⊎◌, inl, inr, ⊎_elim}
use mathlib.Core.List.{List, [], ◌∷◌}
use native.Mathlib.Omega.{arith}
use borrow.Author.Tests.{leb-true, leb-false, eqb-true, eqb-false}
use lib.Dec.{leb, eqb}
use lib.ListN.{length, get_or, take, drop}
use Rattle.numbers.specs.Refusals.{nothing_there, missing_terminator}
use Rattle.numbers.specs.Answers.{Answer, accepted, refused, ◌>>=◌}
use Rattle.numbers.proofs.AnswerLaws.{not_refused, accepted_inj, then_accepted, bind_accepted}
use Rattle.sd_format.specs.Sequences.{ended, gave}
use Rattle.sd_format.specs.Strings.{judge_item}
use Rattle.sd_format.proofs.StringLaws.{items_left, left_whole, left_end, left_terminator, left_item, closed_nothing}
use Rattle.config_string.specs.Items.{next_item, past, Handed, ItemsHanded}
use Rattle.config_string.proofs.ItemLaws.{past_item, next_terminator, next_good}

-- the cursor is at the end of the items, or it finds the first of them and stands before the others
abbrev Last : List ℕ → ℕ → List (List ℕ) → Type 0
Last s at items = (next_item s at ≡ refused nothing_there) × (items ≡ [])

pub record First (s : List ℕ) (at : ℕ) (items : List (List ℕ)) : Type 0 where
  pub item : List ℕ
  pub later : List (List ℕ)
  pub finds : next_item s at ≡ accepted item
  pub these : items ≡ item ∷ later
  pub stands : items_left s (past at item) ≡ accepted later

module _ (s : List ℕ) (at : ℕ) (items : List (List ℕ)) (read : items_left s at ≡ accepted items) where
  last : at < length s → get_or s at 0 ≡ 0 → Last s at items
  last inside zero-byte = (next_terminator s at inside zero-byte, closed_nothing at (drop (at + 1) s) items (sym (left_terminator s at inside zero-byte) ∙ read))

  first : at < length s → (get_or s at 0 ≡ 0 → ⊥) → First s at items
  first inside some =
      let n : ℕ = get_or s at 0 in
      let rest : List ℕ = drop (at + 1) s in
      let with_it : List (List ℕ) → Answer (List (List ℕ)) = λ later. accepted (take n rest ∷ later) in
      let judged = then_accepted (judge_item at n rest) (items_left s (at + 1 + n) >>= with_it) items (sym (left_item s at inside some) ∙ read) in
      let after = bind_accepted (items_left s (at + 1 + n)) with_it items judged.1 in
      record {
        item = take n rest;
        later = after.0;
        finds = next_good s at inside some judged.0;
        these = sym (accepted_inj (take n rest ∷ after.0) items after.2);
        stands = ap (items_left s) (past_item s at n judged.0) ∙ after.1;
      }

  step : Last s at items ⊎ First s at items
  step = go (leb (length s) at) (eqb (get_or s at 0) 0) refl refl
    where
      go : (e z : Bool) → leb (length s) at ≡ e → eqb (get_or s at 0) 0 ≡ z → Last s at items ⊎ First s at items
      go true z out zero-byte = not_refused (missing_terminator at) items (sym (left_end s at (leb-true _ _ out)) ∙ read)
      go false true out zero-byte = inl (last (leb-false _ _ out) (eqb-true _ _ zero-byte))
      go false false out some = inr (first (leb-false _ _ out) (eqb-false _ _ some))

handed_from : (s : List ℕ) (at : ℕ) (items : List (List ℕ)) → items_left s at ≡ accepted items → Handed s at items
handed_from s at [] read =
    ⊎_elim
    (λ end. ended end.0)
    (λ more. let these = more.these in let z : ◌≡◌ {A = ℕ} 0 1 = cc in absurd (omega arith))
    (step s at [] read)
handed_from s at (item ∷ later) read =
    ⊎_elim
    (λ end. let none = end.1 in let z : ◌≡◌ {A = ℕ} 0 1 = cc in absurd (omega arith))
    (λ more.
    let these = more.these in
    let here : more.item ≡ item = cc in
    let after : more.later ≡ later = cc in
    gave (more.finds ∙ ap accepted here)
    (handed_from s (past at item) later (ap (λ (i : List ℕ). items_left s (past at i)) (sym here) ∙ more.stands ∙ ap accepted after)))
    (step s at (item ∷ later) read)

pub items_handed : ItemsHanded
items_handed s items read = handed_from s 0 items (sym (left_whole s) ∙ read)
