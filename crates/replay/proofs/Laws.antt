-- A record's numbers as bytes, the first record that does not agree, and when two answers are alike. Assumes nothing.
use mathlib.Core.Path.{◌≡◌, refl, sym, ap, subst, ◌∙◌}
use mathlib.Core.Bool.{Bool, true, false, not, ◌&&◌, false≢true}
use mathlib.Core.List.{List, [], ◌∷◌, ◌++◌}
use Prim.Native.Nat.{ℕ, zero, suc, ◌+◌, ◌*◌, ◌/◌, ◌%◌, ◌^◌, ◌<◌}
use native.Mathlib.Nat.{le_refl}
use native.Mathlib.Omega.{arith}
use lib.Dec.{eqb}
use lib.ListN.{length, take, drop, get_or, length-append}
use lib.Seq.{take-take}
use Rattle.std.specs.List.{FoldsTo}
use Rattle.std.proofs.lemmas.Fn.{FoldsTo-push}
use borrow.Author.Tests.{eqb-true, eq-eqb}
use Rattle.std.specs.Prelude.{Option, Some}
use Rattle.std.specs.Bool.{Decides}
use Rattle.std.specs.Option.{option_or}
use Rattle.std.specs.Int.{to_be_bytes, w32}
use Rattle.std.specs.Cmp.Lexicographic.{pointwise}
use Rattle.std.proofs.lemmas.Bool.Decides.{Decides-eqb}
use Rattle.std.proofs.lemmas.Slice.Eq.{slice_eq-Decides, starts_is}
use Rattle.numbers.specs.Bytes.{be16, be32, at16, at32}
use Rattle.replay.specs.Counts.{first_false}
use Rattle.replay.specs.Records.{AlikeExactly}

-- ---- a number of four bytes

pub word_at : (s : List ℕ) (i : ℕ) → (get_or s i 0 * 256 + get_or s (i + 1) 0) * 65536 + (get_or s (i + 2) 0 * 256 + get_or s (i + 3) 0) ≡ at32 s i
unfolding at32 at16
word_at s i = let e : i + 2 + 1 ≡ i + 3 = omega arith in rw e

pub number_bytes : (n : ℕ) → n < 2 ^ 32 → to_be_bytes w32 n ≡ be32 n
unfolding be32 be16
number_bytes n small =
    let a : n / 256 ^ 3 % 256 ≡ n / 65536 / 256 = omega arith in
    let b : n / 256 ^ 2 % 256 ≡ n / 65536 % 256 = omega arith in
    let c : n / 256 ^ 1 % 256 ≡ n % 65536 / 256 = omega arith in
    let d : n % 256 ≡ n % 65536 % 256 = omega arith in
    λ i. a i ∷ b i ∷ c i ∷ d i ∷ []

-- what begins with a name, and what stands behind it
pub begins : (name s : List ℕ) (n : ℕ) → length name ≡ n → pointwise eqb name (take (length name) s) ≡ true → s ≡ name ++ drop n s
begins name s n long e = (starts_is Decides-eqb s name _ refl).0 e ∙ ap (λ (k : ℕ). name ++ drop k s) long

-- the front of such bytes, put together again from the name and what stands behind it there
came_again : (came : ℕ) (name rest : List ℕ) → take came (name ++ drop (length name) (take came (name ++ rest))) ≡ take came (name ++ rest)
came_again came [] rest = take-take came came rest (le_refl came)
came_again zero (x ∷ xs) rest = refl
came_again (suc n) (x ∷ xs) rest = ap (λ (l : List ℕ). x ∷ l) (came_again n xs rest)

pub begins_came : (came : ℕ) (name s : List ℕ) (n : ℕ) → length name ≡ n → s ≡ name ++ drop n s → take came (name ++ drop n (take came s)) ≡ take came s
begins_came came name s n long whole =
    subst (λ (l : List ℕ). take came (name ++ drop n (take came l)) ≡ take came l) (sym whole)
    (subst (λ (k : ℕ). take came (name ++ drop k (take came (name ++ drop n s))) ≡ take came (name ++ drop n s)) long (came_again came name (drop n s)))

-- bytes that do not differ from a name are that name
pub named : (s name : List ℕ) → not (pointwise eqb s name) ≡ false → s ≡ name
named s name e = (slice_eq-Decides Decides-eqb s name (pointwise eqb s name) refl).0 (alike (pointwise eqb s name) e)
  where
    alike : (b : Bool) → not b ≡ false → b ≡ true
    alike true h = refl
    alike false h = absurd (false≢true (sym h))

-- ---- the first that does not agree, with one more behind

pub first_agrees : (this : ℕ) (answers : List Bool) → first_false this (answers ++ (true ∷ [])) ≡ first_false this answers
first_agrees this [] = refl
first_agrees this (true ∷ later) = first_agrees (this + 1) later
first_agrees this (false ∷ later) = refl

pub first_differs : (this : ℕ) (answers : List Bool) (n : ℕ) → this + length answers ≡ n
    → first_false this (answers ++ (false ∷ [])) ≡ option_or (first_false this answers) (Some n)
first_differs this [] n e = ap Some (omega arith)
first_differs this (true ∷ later) n e = first_differs (this + 1) later n (omega arith)
first_differs this (false ∷ later) n e = refl

-- one call more
module _ {P : Type 0} (R : P → Bool → P → Type 0) (p q u : P) (n : ℕ) (first next : Option ℕ) where
  abbrev Answers : ℕ → P → Option ℕ → Type 0
  Answers n q first = (answers : List Bool) × (length answers ≡ n) × FoldsTo R p answers q × (first ≡ first_false 1 answers)

  pub answered : (b : Bool) → Answers n q first → R q b u → ((answers : List Bool) → length answers ≡ n → first ≡ first_false 1 answers → next ≡ first_false 1 (answers ++ (b ∷ [])))
      → Answers (n + 1) u next
  answered b (answers, long, ran, is) step more =
      (answers ++ (b ∷ []), rw length-append (omega arith), FoldsTo-push R p answers q b u ran step, more answers long is)

-- ---- two answers

pub alike_exactly : AlikeExactly
alike_exactly r number vs = (there (eqb r.number number) refl, (λ e. rw (eq-eqb r.number number e.0) (same.1 e.1)))
  where
    same : Decides (pointwise eqb r.values vs) (r.values ≡ vs)
    same = slice_eq-Decides Decides-eqb r.values vs (pointwise eqb r.values vs) refl

    there : (t : Bool) → eqb r.number number ≡ t → (t && pointwise eqb r.values vs) ≡ true → (r.number ≡ number) × (r.values ≡ vs)
    there true e h = (eqb-true r.number number e, same.0 h)
    there false e h = absurd (false≢true h)
