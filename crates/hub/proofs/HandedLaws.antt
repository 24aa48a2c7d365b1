-- What C is told of the entries and the options that were laid out, one by one. Assumes nothing.
use Prim.Native.Nat.{ℕ, zero, suc, ◌≤◌, ◌<◌}
use mathlib.Core.Path.{◌≡◌, refl, sym, ap, ◌∙◌}
use mathlib.Core.Logic.{◌⊎◌, inl, inr}
use mathlib.Core.List.{List, [], ◌∷◌, ◌++◌}
use native.Mathlib.Omega.{arith}
use lib.ListN.{length, take, drop, length-append, length-drop}
use lib.Seq.{drop_at, drop-drop, take_all}
use lib.Dec.{leb}
use borrow.Author.Tests.{le-leb, lt-leb}
use Rattle.numbers.specs.Refusals.{nothing_there}
use Rattle.numbers.specs.Answers.{Answer, accepted, refused, given, All}
use Rattle.numbers.proofs.AnswerLaws.{when_hit, when_pass}
use Rattle.sd_format.specs.Sequences.{next_at, counted}
use Rattle.sd_format.specs.Layout.{lay_all}

-- ---- a cursor over what was laid out, at the place where part k starts

module _ {A B : Type 0} (read : List ℕ → Answer A) (lay : B → List ℕ) (wired : B → A) (Fits : B → Type 0)
    (laid : (x : B) (rest : List ℕ) → Fits x → read (lay x ++ rest) ≡ accepted (wired x))
    (some : (x : B) → Fits x → 1 ≤ length (lay x)) where
  abbrev begins : List B → ℕ → ℕ
  begins xs k = length (lay_all lay (take k xs))

  -- what stands there
  pub stands_there : (xs : List B) (k : ℕ) (x : B) → counted xs k ≡ accepted x → (rest : List ℕ) × (drop (begins xs k) (lay_all lay xs) ≡ lay x ++ rest)
  unfolding lay_all counted
  stands_there [] k x e = absurd (let z : ◌≡◌ {A = ℕ} 0 1 = cc in omega arith)
  stands_there (y ∷ xs) zero x e =
      let same : y ≡ x = cc in
      (lay_all lay xs, ap (λ (z : B). lay z ++ lay_all lay xs) same)
  stands_there (y ∷ xs) (suc k) x e =
      let (rest, there) = stands_there xs k x e in (
        rest,
        ap (λ (n : ℕ). drop n (lay y ++ lay_all lay xs)) (length-append (lay y) (lay_all lay (take k xs)))
            ∙ sym (drop-drop (begins xs k) (length (lay y)) (lay y ++ lay_all lay xs))
            ∙ ap (drop (begins xs k)) (drop_at (lay y) (lay_all lay xs) (length (lay y)) refl)
            ∙ there,
      )

  -- part k, which fits, or nothing at or past the end
  pub there_or_not : (xs : List B) → All Fits xs → (k : ℕ)
      → ((x : B) × (counted xs k ≡ accepted x) × Fits x × (k < length xs)) ⊎ ((counted xs k ≡ refused nothing_there) × (length xs ≤ k))
  unfolding counted
  there_or_not [] w k = inr (refl, omega arith)
  there_or_not (x ∷ xs) w zero = inl (x, refl, w.0, omega arith)
  there_or_not (x ∷ xs) w (suc k) = later (there_or_not xs w.1 k)
    where
      later : ((y : B) × (counted xs k ≡ accepted y) × Fits y × (k < length xs)) ⊎ ((counted xs k ≡ refused nothing_there) × (length xs ≤ k))
          → ((y : B) × (counted xs k ≡ accepted y) × Fits y × (suc k < length (x ∷ xs))) ⊎ ((counted xs k ≡ refused nothing_there) × (length (x ∷ xs) ≤ suc k))
      later (inl (y, e, f, h)) = inl (y, e, f, omega arith)
      later (inr (e, h)) = inr (e, omega arith)

  -- at the end there is nothing more
  pub past_end : (s : List ℕ) (at : ℕ) → length s ≤ at → next_at read s at ≡ refused nothing_there
  unfolding next_at
  past_end s at h = when_hit nothing_there (leb (length s) at) _ (le-leb (length s) at h)

  begins_whole : (xs : List B) (k : ℕ) → length xs ≤ k → begins xs k ≡ length (lay_all lay xs)
  begins_whole xs k h = ap (λ (l : List B). length (lay_all lay l)) (take_all k xs h)

  pub next_laid : (xs : List B) → All Fits xs → (k : ℕ) → next_at read (lay_all lay xs) (begins xs k) ≡ given wired (counted xs k)
  unfolding next_at given
  next_laid xs w k = go (there_or_not xs w k)
    where
      go : ((x : B) × (counted xs k ≡ accepted x) × Fits x × (k < length xs)) ⊎ ((counted xs k ≡ refused nothing_there) × (length xs ≤ k))
          → next_at read (lay_all lay xs) (begins xs k) ≡ given wired (counted xs k)
      go (inl (x, e, f, h)) =
          let (rest, there) = stands_there xs k x e in
          let some_left : 1 ≤ length (drop (begins xs k) (lay_all lay xs)) = rw there (simp length-append (omega (arith, some x f))) in
          let inside : begins xs k < length (lay_all lay xs) = omega (arith, length-drop (begins xs k) (lay_all lay xs)) in
          when_pass nothing_there (leb (length (lay_all lay xs)) (begins xs k)) _ (lt-leb (length (lay_all lay xs)) (begins xs k) inside)
          ∙ ap read there ∙ laid x rest f ∙ sym (ap (given wired) e)
      go (inr (e, h)) = past_end (lay_all lay xs) (begins xs k) (omega (arith, begins_whole xs k h)) ∙ sym (ap (given wired) e)
