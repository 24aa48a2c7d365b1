-- What a reading answers: what it read, or the first refusal; and the words in which readings are written. Assumes nothing: these are definitions.
use Rattle.std.specs.Prelude.{ℕ, ◌≡◌, Bool, true, false, List, [], ◌∷◌}
use Rattle.numbers.specs.Refusals.{Refusal, gives, moved}

pub data Answer (A : Type 0) : Type 0 where
  accepted : A → Answer A
  refused : Refusal → Answer A

-- a test, that passes or refuses
abbrev pub Verdict : Type 0
Verdict = Answer (Unit {0})

abbrev pub pass : Verdict
pass = accepted tt

infixr 1 ◌>>=◌ ◌>>◌ refuse◌when◌else◌
-- the first part that refuses ends the whole reading
unfoldable pub ◌>>=◌ : {A B : Type 0} → Answer A → (A → Answer B) → Answer B
◌>>=◌ (accepted a) f = f a
◌>>=◌ (refused r) f = refused r

-- the same where only the verdict of the first part counts
unfoldable pub ◌>>◌ : {B : Type 0} → Verdict → Answer B → Answer B
◌>>◌ (accepted a) b = b
◌>>◌ (refused r) b = refused r

unfoldable pub refuse◌when◌else◌ : {A : Type 0} → Refusal → Bool → Answer A → Answer A
refuse◌when◌else◌ r true a = refused r
refuse◌when◌else◌ r false a = a

-- what was accepted, in another form
unfoldable pub given : {A B : Type 0} → (A → B) → Answer A → Answer B
given f (accepted a) = accepted (f a)
given f (refused r) = refused r

-- a refusal's place, counted from `n` bytes further to the front
unfoldable pub further : {A : Type 0} → ℕ → Answer A → Answer A
further n (accepted a) = accepted a
further n (refused r) = refused (moved n r)

-- each element has the property
abbrev pub All : {A : Type 0} → (A → Type 0) → List A → Type 0
All P [] = Unit {0}
All P (x ∷ xs) = P x × All P xs

-- the bytes that were accepted; a refusal hands back an empty part
abbrev pub part : Answer (List ℕ) → List ℕ
part (accepted s) = s
part (refused r) = []

-- only whether it was accepted, or why not
abbrev pub verdict : {A : Type 0} → Answer A → Verdict
verdict = given (λ a. tt)

-- an answer as numbers: 0, or the refusal's number and the values that it gives
abbrev pub numbered : {A : Type 0} → Answer A → List ℕ
numbered (accepted a) = 0 ∷ []
numbered (refused r) = r.number ∷ gives r

infix 3 ◌gives◌with◌
-- the refusal of this number with these values, its place as the last of them
abbrev pub ◌gives◌with◌ : {A : Type 0} → Answer A → ℕ → List ℕ → Type 0
◌gives◌with◌ a n vs = numbered a ≡ n ∷ vs
